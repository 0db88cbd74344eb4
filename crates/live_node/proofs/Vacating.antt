-- Moves out of a block, one after another.
use Rattle.std.proofs.Common.{◌≡◌, ℕ, suc, ◌+◌, ◌<◌, Bool, true, List, [], ◌∷◌, ◌++◌, length, take, get_or, refl, sym, ap, subst, ◌∙◌, append_assoc, arith}
use Rattle.std.specs.Prelude.{Ok, Contains}
use Rattle.std.proofs.Math.Seq.{take-suc}
use Rattle.std.proofs.lemmas.List.Sums.{sum_by-cons}
use Rattle.std.proofs.lemmas.List.Elements.{Contains-append_left, Contains-append_right}
use Rattle.law_lists.proofs.Each.{all_joined, all_map, all_at}
use Rattle.rec_format.specs.declared.version.Digest.{Digest}
use Rattle.model_device.specs.Events.{Event, happened}
use Rattle.model_device.specs.Vacating.{moved_by, moved_count}
use Rattle.shard_core.proofs.Vacating.{counts_joined}
use Rattle.live_node.specs.Opening.{Opening, IsOwn}
use Rattle.shard_core.specs.declared.refusals.DefragCause.{DefragCause}
use Rattle.shard_core.specs.declared.refusals.DefragRefusal.{DefragRefusal}
use Rattle.live_node.specs.Vacates.{IsDone, HasMove, HaveMoves, IsStop, IsGone, StopsAfter, MovesOut, MovesOne}

pub take_more : {X : Type 0} (xs : List X) (at : ℕ) (x : X) → at < length xs → take (at + 1) xs ≡ take at xs ++ get_or xs at x ∷ []
take_more xs at x there = let one : suc at ≡ at + 1 = omega arith in subst (λ (n : ℕ). take n xs ≡ take at xs ++ get_or xs at x ∷ []) one (take-suc xs at x there)

pub one_count : (e : Event) (b : Bool) → e.answer ≡ happened b → moved_by (happened b) ≡ moved_count (e ∷ [])
one_count e b answered =
    let one = sum_by-cons (λ (event : Event). moved_by event.answer) e [] in
    let is = ap moved_by answered in
    omega (arith, one, is)

pub count_more : (xs ys : List Event) (n m : ℕ) → n ≡ moved_count xs → m ≡ moved_count ys → n + m ≡ moved_count (xs ++ ys)
count_more xs ys n m one other = let both = counts_joined xs ys in omega (arith, both, one, other)

pub contains_one : (e : Event) → Contains (e ∷ []) e
contains_one e = (0, omega arith, refl)

-- a move goes on to be among more
move_more : (block : ℕ) (xs ys : List Event) (d : Digest) → HasMove block xs d → HasMove block (xs ++ ys) d
move_more block xs ys d has = (has.0, Contains-append_left xs ys has.0 has.1, has.2)

move_behind : (block : ℕ) (xs ys : List Event) (d : Digest) → HasMove block ys d → HasMove block (xs ++ ys) d
move_behind block xs ys d has = (has.0, Contains-append_right xs ys has.0 has.1, has.2)

module _ {D : Type 0} (o : Opening D) (block : ℕ) (list : List Digest) (at : ℕ) (d : Digest) (next : take (at + 1) list ≡ take at list ++ d ∷ [])
    (xs ys : List Event) (n : ℕ) (moved : MovesOut o block (take at list) (Ok n) xs) where
  -- one more
  pub moves_more : (m : ℕ) (b : Bool) → m ≡ moved_by (happened b) → MovesOne o block d (Ok b) ys → MovesOut o block (take (at + 1) list) (Ok (n + m)) (xs ++ ys)
  moves_more m b is one = (
    all_joined (IsDone block) xs ys moved.0 one.0,
    count_more xs ys n m moved.1 (is ∙ one.1),
    subst (HaveMoves o block (xs ++ ys)) (sym next)
        (all_joined (λ x. IsOwn o x → HasMove block (xs ++ ys) x) (take at list) (d ∷ [])
        (all_map (λ x. IsOwn o x → HasMove block xs x) (λ x. IsOwn o x → HasMove block (xs ++ ys) x) (take at list) (λ x has own. move_more block xs ys x (has own)) moved.2)
        ((λ own. move_behind block xs ys d (one.2 own)), tt)),
  )

-- or one more that was refused
pub moves_stop : {D : Type 0} (o : Opening D) (block : ℕ) (digests : List Digest) (xs ys : List Event) (n : ℕ) (cause : DefragCause) → MovesOut o block digests (Ok n) xs
    → (last : Event) × (ys ≡ last ∷ []) × IsStop block cause last → StopsAfter block (record { moved = n; cause = cause }) (xs ++ ys)
moves_stop o block digests xs ys n cause moved one = (xs, one.0, ap (λ (l : List Event). xs ++ l) one.1, moved.0, moved.1, one.2)

-- ---- some moves and then others

module _ {D : Type 0} (o : Opening D) (block : ℕ) where
  -- one more of a record that was there
  pub gone_more : (xs : List Event) (n : ℕ) (e : Event) → MovesOut o block [] (Ok n) xs → IsGone block e → MovesOut o block [] (Ok (n + 1)) (xs ++ e ∷ [])
  gone_more xs n e moved gone = (
    all_joined (IsDone block) xs (e ∷ []) moved.0 ((gone.0, (true, record { is_call = gone.1.is_call; answered = gone.1.answered })), tt),
    count_more xs (e ∷ []) n 1 moved.1 (one_count e true gone.1.answered),
    tt,
  )

  -- those of a list of digests, and others
  module _ (list : List Digest) (xs ys : List Event) (n : ℕ) (moved : MovesOut o block list (Ok n) xs) where
    pub moves_joined : (m : ℕ) → MovesOut o block [] (Ok m) ys → MovesOut o block list (Ok (n + m)) (xs ++ ys)
    moves_joined m rest = (
      all_joined (IsDone block) xs ys moved.0 rest.0,
      count_more xs ys n m moved.1 rest.1,
      all_map (λ x. IsOwn o x → HasMove block xs x) (λ x. IsOwn o x → HasMove block (xs ++ ys) x) list (λ x has own. move_more block xs ys x (has own)) moved.2,
    )

    -- the others end with one that was refused
    pub stops_joined : (refusal : DefragRefusal) → StopsAfter block refusal ys → StopsAfter block (record { moved = n + refusal.moved; cause = refusal.cause }) (xs ++ ys)
    stops_joined refusal stops = (
      xs ++ stops.0,
      stops.1,
      ap (λ (l : List Event). xs ++ l) stops.2 ∙ sym (append_assoc xs stops.0 (stops.1 ∷ [])),
      all_joined (IsDone block) xs stops.0 moved.0 stops.3,
      count_more xs stops.0 n refusal.moved moved.1 stops.4,
      stops.5,
    )

-- each digest in a list has its move where all have
pub has_move : {D : Type 0} (o : Opening D) (block : ℕ) (moves : List Event) (list items : List Digest) → list ≡ items → HaveMoves o block moves list
    → (d : Digest) → IsOwn o d → Contains items d → HasMove block moves d
has_move o block moves list items same all d own there = all_at (λ x. IsOwn o x → HasMove block moves x) items d (subst (HaveMoves o block moves) same all) there own
