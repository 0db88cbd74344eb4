-- What all posts counted together.
use Rattle.std.proofs.Common.{◌≡◌, refl, subst, ℕ, zero, suc, ◌+◌, ◌<◌, ◌≤◌, Bool, true, false, cond, List, [], ◌∷◌, length, map, arith, slice_index_or}
use Rattle.std.specs.List.{sum_by, count_by}
use Rattle.std.proofs.lemmas.List.Sums.{sum_by-cons}
use Rattle.node_session.specs.declared.ended.Ended.{Ended}
use Rattle.node_serve.specs.declared.duty.Duty.{Duty}
use Rattle.node_serve.specs.Manning.{DoesManned, EachManned, AllCounted}
use Rattle.node_serve.specs.Serving.{EachDone, AllDone, is_seat}

module _ {D : Type 0} (does : D → D → List Ended → Type 0) where
  -- one more duty, which stands in front
  each_with_first : (old : D) (olds : List D) (new : D) (news : List D) (hows : List Ended) (served : List (List Ended)) → does old new hows
      → EachDone does olds news served → (i : ℕ) (d : D) → i < length (old ∷ olds)
      → does (slice_index_or (old ∷ olds) i d) (slice_index_or (new ∷ news) i d) (slice_index_or (hows ∷ served) i [])
  each_with_first old olds new news hows served first rest zero d below = first
  each_with_first old olds new news hows served first rest (suc i) d below = rest.each i d (omega arith)

  with_first : (old : D) (olds : List D) (new : D) (news : List D) (hows : List Ended) (served : List (List Ended)) → does old new hows
      → EachDone does olds news served → EachDone does (old ∷ olds) (new ∷ news) (hows ∷ served)
  with_first old olds new news hows served first rest = record {
    as_many = (let e = rest.as_many in omega arith);
    served_many = (let e = rest.served_many in omega arith);
    each = each_with_first old olds new news hows served first rest;
  }

module _ {X D : Type 0} (does : D → D → List Ended → Type 0) (sits : D → Bool) (duty : X → D) (links ends : X → ℕ) where
  -- without the first of them
  rest_manned : (old : X) (olds : List X) (new : X) (news : List X) → EachManned (DoesManned does sits duty links ends) (old ∷ olds) (new ∷ news)
      → EachManned (DoesManned does sits duty links ends) olds news
  rest_manned old olds new news done = record { as_many = (let e = done.as_many in omega arith); each = λ i d below. done.each (suc i) d (omega arith) }

  -- a duty that sits was told, or another was
  one_was_told : (sitting : Bool) (others own all : ℕ) → (sitting ≡ true → 0 < own) → (1 ≤ others → 0 < all) → 1 ≤ cond sitting 1 0 + others → 0 < own + all
  one_was_told true others own all first rest one = (let f = first refl in omega arith)
  one_was_told false others own all first rest one = (let r = rest (omega arith) in omega arith)

  -- What each post counted holds of the sums.
  pub all_counted : (olds news : List X) → EachManned (DoesManned does sits duty links ends) olds news → AllCounted does sits duty links ends olds news
  all_counted [] [] done = record {
    served = [];
    done = record { as_many = refl; served_many = refl; each = λ i d below. absurd (omega arith) };
    counted = refl;
    told = λ one. absurd (omega arith);
  }
  all_counted [] (new ∷ news) done = absurd (let e = done.as_many in omega arith)
  all_counted (old ∷ olds) [] done = absurd (let e = done.as_many in omega arith)
  all_counted (old ∷ olds) (new ∷ news) done =
      let first = done.each 0 old (omega arith) in
      let rest = all_counted olds news (rest_manned old olds new news done) in
      record {
        served = first.hows ∷ rest.served;
        done = with_first does (duty old) (map duty olds) (duty new) (map duty news) first.hows rest.served first.done rest.done;
        counted = omega (arith, first.counted, rest.counted, sum_by-cons links new news, sum_by-cons links old olds, sum_by-cons {X = List Ended} length first.hows rest.served);
        told = λ one.
            let all = one_was_told (sits (duty old)) (count_by sits (map duty olds)) (ends new) (sum_by ends news) first.told rest.told
            (omega (arith, one, sum_by-cons (λ x. cond (sits x) 1 0) (duty old) (map duty olds))) in
            omega (arith, all, sum_by-cons ends new news);
      }

-- Where all posts together counted so many links, and that they were told, all duties are done.
pub all_done : {S K C X : Type 0} (does : Duty S K C → Duty S K C → List Ended → Type 0) (duty : X → Duty S K C) (links ends : X → ℕ) (given later taken told : ℕ)
    (olds news : List X) (duties duties' : List (Duty S K C)) → EachManned (DoesManned does is_seat duty links ends) olds news
    → map duty olds ≡ duties → map duty news ≡ duties' → sum_by links olds ≡ 0 → taken ≡ sum_by links news → told ≡ sum_by ends news → (0 < told → later ≡ given + taken)
    → AllDone does given later duties duties'
all_done {S} {K} {C} does duty links ends given later taken told olds news duties duties' done first last idle links_are ends_are counts =
    let all = all_counted does is_seat duty links ends olds news done in
    let whole : AllDone does given later (map duty olds) (map duty news) = record {
      served = all.served;
      done = all.done;
      all = λ seat.
          let some = all.told seat in
          let as_many = counts (omega (arith, some, ends_are)) in
          omega (arith, as_many, all.counted, idle, links_are);
    } in
    subst (λ ds. AllDone does given later duties ds) last (subst (λ ds. AllDone does given later ds (map duty news)) first whole)
