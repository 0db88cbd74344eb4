-- How far the pass of each device has given one more.
use Rattle.std.proofs.Common.{◌≡◌, ℕ, ◌+◌, ◌<◌, ◌≤◌, List, [], ◌∷◌, ◌++◌, length, get_or, set, take, refl, sym, ap, subst, ◌∙◌, arith, length-append}
use Rattle.std.specs.Prelude.{slice_get}
use Rattle.std.specs.List.{All}
use Rattle.std.proofs.lemmas.List.{take_more, take_all, get_or-set_other}
use Rattle.std.proofs.lemmas.List.Elements.{All-push, All-nil, All-set}
use Rattle.turn_table.specs.Passes.{own_count, joined_count}
use Rattle.live_node.specs.Lives.{Live, LivePass, IsPassAt}
use Rattle.live_store.specs.Pairs.{EachPair}
use Rattle.live_store.proofs.Pairs.{pairs_length, pairs_same, pair_set, pair_then}
use Rattle.live_crew.specs.Crews.{IsNewPass, numbers_of, numbers_there}
use Rattle.live_crew.specs.Dealing.{GiveEach}
use Rattle.live_crew.proofs.Places.{there_given}
use Rattle.live_crew.proofs.Pairing.{pair_push}

-- the passes of the first devices gave one each, those behind them are as they were
pub record GivenSoFar {D : Type 0} (lives : List (Live D)) (olds news others : List (LivePass D)) (n : ℕ) : Type 0 where
  pub count : length others ≡ n
  pub seated : EachPair IsPassAt lives news
  pub numbers : (device : ℕ) → numbers_there (slice_get news device) + numbers_there (slice_get others device) ≡ numbers_there (slice_get olds device)
  pub joined : EachPair (λ old new. joined_count new ≡ joined_count old) olds news
  pub kept : All IsNewPass news
  pub others_seated : EachPair IsPassAt (take n lives) others
  pub one : All (λ pass. numbers_of pass ≡ 1) others
  pub new : All IsNewPass others
  pub behind : (k : ℕ) (d : LivePass D) → n ≤ k → get_or news k d ≡ get_or olds k d

module _ {D : Type 0} (lives : List (Live D)) (olds : List (LivePass D)) where
  pub given_none : (others : List (LivePass D)) → EachPair IsPassAt lives olds → All IsNewPass olds → others ≡ [] → GivenSoFar lives olds olds others 0
  given_none others seated new none = subst (λ (l : List (LivePass D)). GivenSoFar lives olds olds l 0) (sym none) (record {
    count = refl;
    seated = seated;
    numbers = λ device. omega arith;
    joined = pairs_same (λ (old new : LivePass D). joined_count new ≡ joined_count old) (λ pass. refl) olds;
    kept = new;
    others_seated = tt;
    one = All-nil (λ (pass : LivePass D). numbers_of pass ≡ 1);
    new = All-nil (IsNewPass {D = D});
    behind = λ k d within. refl;
  })

  module _ (news others : List (LivePass D)) (n : ℕ) (so_far : GivenSoFar lives olds news others n) where
    -- the next one has numbers left
    pub given_left : (d : LivePass D) → n < length lives → d ≡ get_or news n d → All (λ pass. 1 < own_count pass) olds → 1 < own_count d
    given_left d there is left =
        let many = pairs_length (λ (old new : LivePass D). joined_count new ≡ joined_count old) olds news so_far.joined in
        let more = pairs_length IsPassAt lives news so_far.seated in
        subst (λ (pass : LivePass D). 1 < own_count pass) (sym (is ∙ so_far.behind n d (omega arith))) (left n d (omega (arith, many, more, there)))

    -- one more
    pub given_more : (live : Live D) (old new other : LivePass D) (others' : List (LivePass D)) → n < length lives → live ≡ get_or lives n live → old ≡ get_or news n old → IsPassAt live new
        → IsPassAt live other → numbers_of new + numbers_of other ≡ numbers_of old → numbers_of other ≡ 1 → joined_count new ≡ joined_count old → IsNewPass new → IsNewPass other
        → others' ≡ others ++ other ∷ [] → GivenSoFar lives olds (set news n new) others' (n + 1)
    given_more live old new other others' there live_is old_is at other_at numbers one joined knows other_knows is =
        let many = pairs_length IsPassAt lives news so_far.seated in
        subst (λ (l : List (LivePass D)). GivenSoFar lives olds (set news n new) l (n + 1)) (sym is) (record {
          count = length-append others (other ∷ []) ∙ ap (λ (m : ℕ). m + 1) so_far.count;
          seated = pair_set IsPassAt lives news n live new so_far.seated there live_is at;
          numbers = λ device. there_given numbers_of news others n device old new other (omega (arith, many, there)) (sym so_far.count) old_is numbers ∙ so_far.numbers device;
          joined = pair_then (λ (a b : LivePass D). joined_count b ≡ joined_count a) olds news n old new so_far.joined (omega (arith, many, there)) old_is (λ first before. joined ∙ before);
          kept = All-set IsNewPass news n new knows so_far.kept;
          others_seated = subst (λ (l : List (Live D)). EachPair IsPassAt l (others ++ other ∷ [])) (sym (take_more lives n live there))
              (pair_push IsPassAt (take n lives) others (get_or lives n live) other so_far.others_seated (subst (λ (l : Live D). IsPassAt l other) live_is other_at));
          one = All-push (λ (pass : LivePass D). numbers_of pass ≡ 1) others other so_far.one one;
          new = All-push IsNewPass others other so_far.new other_knows;
          behind = λ k d within. get_or-set_other news n k new d (λ same. absurd (omega arith)) ∙ so_far.behind k d (omega arith);
        })

    -- all did
    pub given_all : (n < length lives → ⊥) → GiveEach lives olds news others
    given_all over = record {
      seated = so_far.seated;
      numbers = so_far.numbers;
      joined = so_far.joined;
      kept = so_far.kept;
      others_seated = subst (λ (l : List (Live D)). EachPair IsPassAt l others) (take_all n lives (omega (arith, over))) so_far.others_seated;
      one = so_far.one;
      new = so_far.new;
    }
