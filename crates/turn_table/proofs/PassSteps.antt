-- What a pass is after a step: a pass of its table, with the fields that its view says.
use Rattle.std.proofs.Common.{◌≡◌, ℕ, suc, ◌+◌, ◌<◌, true, false, List, [], ◌∷◌, Option, Some, None, ◌++◌, replicate, refl, sym, ap, ◌∙◌, subst, arith, append_assoc, append-nil}
use Rattle.std.proofs.lemmas.List.{replicate_more}
use Rattle.std.specs.Prelude.{IsSomeAnd}
use mathlib.Core.List.{IsPrefix}
use Rattle.atomic_table.specs.Table.{Me, rest}
use Rattle.atomic_table.specs.declared.shared.Seat.{Seat}
use Rattle.turn_table.specs.declared.rule.Entry.{Entry}
use Rattle.turn_table.specs.declared.rule.View.{View}
use Rattle.turn_table.specs.declared.rule.Place.{Place}
use Rattle.turn_table.specs.declared.rule.Place.TheVariants.{Away}
use Rattle.turn_table.specs.declared.table.PassOf.{PassOf}
use Rattle.turn_table.specs.Rule.{all_numbers, events}
use Rattle.turn_table.proofs.Histories.{FitsOn, fits_since}
use Rattle.turn_table.specs.Plays.{WasOut, TookPart, TookHub, with_part, with_hub, with_found_out, having_found_out, HasWaited, SeesMore}
use Rattle.turn_table.specs.Passes.{Table, view, opening_of, part_slots, slots_out, IsPassOf}

-- the slot that was taken last
pub front : {S : Type 0} (l c : List (ℕ × S)) (k : ℕ) (y : S) → l ≡ (k, y) ∷ c → (x : S) × (l ≡ (k, x) ∷ rest l)
front l c k y e = (y, e ∙ ap (λ t. (k, y) ∷ t) (ap rest (sym e)))

pub some_is : {j k : ℕ} → Some j ≡ Some k → j ≡ k
some_is e = cc e

module _ {M H P E O : Type 0} where
  pub pass_after : (t : Table M H P E O) (p q : PassOf H P E O) → IsPassOf t p → q.seat.table_id ≡ p.seat.table_id → (view q).opening ≡ (view p).opening → (view q).own ≡ (view p).own
      → (view q).joined ≡ (view p).joined
      → q.own ≡ p.own → q.joined ≡ p.joined → q.part ≡ (view q).part → q.hub ≡ (view q).hub → q.seat.me.1 ≡ slots_out t.parts (view q).part (view q).hub
      → ((k : ℕ) → (view q).part ≡ Some k → k < t.parts) → IsPassOf t q
  pass_after t p q of table opening own joined own_field joined_field part hub slots below = record {
    below = below;
    same_table = table ∙ of.same_table;
    opened = opening ∙ of.opened;
    own_is = own_field ∙ of.own_is ∙ sym own;
    joined_is = joined_field ∙ of.joined_is ∙ sym joined;
    part_is = part;
    hub_is = hub;
    slots = slots;
    numbered = omega (arith, own_field, of.numbered);
    bounded = omega (arith, own_field, joined_field, of.bounded);
  }

module _ {M H P E O : Type 0} (hub_fits : O → List E → H → Type 0) (part_fits : O → List E → ℕ → P → Type 0) (may_follow : O → List E → E → Type 0) (part_named : E → Option ℕ)
    (t : Table M H P E O) (p : PassOf H P E O) (of : IsPassOf t p) where
  pub took_part_pass : (one two : Seat (Place H P E) (View E O)) (k : ℕ) → (view p).part ≡ None → (view p).hub ≡ false
      → one.table_id ≡ p.seat.table_id → TookPart hub_fits part_fits may_follow part_named k p.seat.me one.me → two.table_id ≡ one.table_id
      → two.me ≡ (one.me.0, (k, Away) ∷ rest one.me.1) → k < t.parts
      → IsPassOf t record { seat = two; own = p.own; joined = p.joined; part = Some k; hub = p.hub }
  took_part_pass one two k no_part no_hub a took b e less =
      let is : two.me.0 ≡ with_part k one.me.0.seen p.seat.me.0 = ap (λ m. m.0) e ∙ took.2 in
      let none_out : p.seat.me.1 ≡ [] = of.slots ∙ (λ i. slots_out t.parts (no_part i) (no_hub i)) in
      let hub_is : (two.me.0).hub ≡ false = ap (λ (y : View E O). y.hub) is ∙ no_hub in
      let part_is : (two.me.0).part ≡ Some k = ap (λ (y : View E O). y.part) is in
      pass_after t p record { seat = two; own = p.own; joined = p.joined; part = Some k; hub = p.hub } of (b ∙ a)
      (ap (λ (y : View E O). y.opening) is) (ap (λ (y : View E O). y.own) is) (ap (λ (y : View E O). y.joined) is) refl refl
      (sym part_is) (of.hub_is ∙ no_hub ∙ sym hub_is)
      (ap (λ m. m.1) e ∙ ap (λ l. (k, Away) ∷ l) (ap rest took.1 ∙ none_out) ∙ (λ i. slots_out t.parts (sym part_is i) (sym hub_is i)))
      (λ j is_j. let same : k ≡ j = some_is (sym part_is ∙ is_j) in omega (arith, same, less))

  -- where the slot was out, the pass has learnt this alone
  pub out_pass : (seat : Seat (Place H P E) (View E O)) (k : ℕ) → seat.table_id ≡ p.seat.table_id → WasOut hub_fits part_fits may_follow part_named k p.seat.me seat.me
      → IsPassOf t record { seat = seat; own = p.own; joined = p.joined; part = p.part; hub = p.hub } × ((seat.me.0 ≡ with_found_out k (view p)) × (p.own + p.joined < all_numbers))
  out_pass seat k a out =
      let is : seat.me.0 ≡ with_found_out k (view p) = ap (λ m. m.0) out.0 in
      let part_is : (seat.me.0).part ≡ (view p).part = ap (λ (y : View E O). y.part) is in
      let hub_is : (seat.me.0).hub ≡ (view p).hub = ap (λ (y : View E O). y.hub) is in (
        pass_after t p record { seat = seat; own = p.own; joined = p.joined; part = p.part; hub = p.hub } of a
            (ap (λ (y : View E O). y.opening) is) (ap (λ (y : View E O). y.own) is) (ap (λ (y : View E O). y.joined) is) refl refl
            (of.part_is ∙ sym part_is) (of.hub_is ∙ sym hub_is) (ap (λ m. m.1) out.0 ∙ of.slots ∙ (λ i. slots_out t.parts (sym part_is i) (sym hub_is i)))
            (λ j is_j. of.below j (sym part_is ∙ is_j)),
        (is, omega (arith, of.own_is, of.joined_is, out.1)),
      )

  pub took_hub_pass : (one two : Seat (Place H P E) (View E O)) → (view p).hub ≡ false
      → one.table_id ≡ p.seat.table_id → TookHub hub_fits part_fits may_follow part_named t.parts p.seat.me one.me → two.table_id ≡ one.table_id → two.me ≡ (one.me.0, (t.parts, Away) ∷ rest one.me.1)
      → IsPassOf t record { seat = two; own = p.own; joined = p.joined; part = p.part; hub = true }
  took_hub_pass one two no_hub a took b e =
      let is : two.me.0 ≡ with_hub one.me.0.seen p.seat.me.0 = ap (λ m. m.0) e ∙ took.1 in
      let part_out : p.seat.me.1 ≡ part_slots p.seat.me.0.part = of.slots ∙ (λ i. slots_out t.parts p.seat.me.0.part (no_hub i)) in
      let hub_is : (two.me.0).hub ≡ true = ap (λ (y : View E O). y.hub) is in
      let part_is : (two.me.0).part ≡ p.seat.me.0.part = ap (λ (y : View E O). y.part) is in
      pass_after t p record { seat = two; own = p.own; joined = p.joined; part = p.part; hub = true } of (b ∙ a)
      (ap (λ (y : View E O). y.opening) is) (ap (λ (y : View E O). y.own) is) (ap (λ (y : View E O). y.joined) is) refl refl
      (of.part_is ∙ sym part_is) (sym hub_is)
      (ap (λ m. m.1) e ∙ ap (λ l. (t.parts, Away) ∷ l) (ap rest (took.3.1) ∙ part_out) ∙ (λ i. slots_out t.parts (sym part_is i) (sym hub_is i)))
      (λ j is_j. of.below j (sym part_is ∙ is_j))

  -- after the hub is given back, by a view that keeps all but the list
  pub gave_hub_pass : (one two : Seat (Place H P E) (View E O)) (w : View E O) (y : Place H P E) → (view p).hub ≡ true
      → one.table_id ≡ p.seat.table_id → one.me ≡ (p.seat.me.0, (t.parts, y) ∷ rest p.seat.me.1) → two.table_id ≡ one.table_id → two.me ≡ (w, rest one.me.1)
      → w.opening ≡ p.seat.me.0.opening → w.own ≡ p.seat.me.0.own → w.joined ≡ p.seat.me.0.joined → w.part ≡ p.seat.me.0.part → w.hub ≡ false
      → IsPassOf t record { seat = two; own = p.own; joined = p.joined; part = p.part; hub = false }
  gave_hub_pass one two w y has_hub a first b e opening own joined part hub =
      let is : two.me.0 ≡ w = ap (λ m. m.0) e in
      let out : p.seat.me.1 ≡ (t.parts, Away) ∷ part_slots p.seat.me.0.part = of.slots ∙ (λ i. slots_out t.parts p.seat.me.0.part (has_hub i)) in
      let hub_is : (two.me.0).hub ≡ false = ap (λ (y : View E O). y.hub) is ∙ hub in
      let part_is : (two.me.0).part ≡ p.seat.me.0.part = ap (λ (y : View E O). y.part) is ∙ part in
      pass_after t p record { seat = two; own = p.own; joined = p.joined; part = p.part; hub = false } of (b ∙ a)
      (ap (λ (y : View E O). y.opening) is ∙ opening) (ap (λ (y : View E O). y.own) is ∙ own) (ap (λ (y : View E O). y.joined) is ∙ joined) refl refl
      (of.part_is ∙ sym part_is) (sym hub_is)
      (ap (λ m. m.1) e ∙ ap rest (ap (λ m. m.1) first) ∙ ap rest out ∙ (λ i. slots_out t.parts (sym part_is i) (sym hub_is i)))
      (λ j is_j. of.below j (sym part_is ∙ is_j))

-- the same, where the slot's value stays in sight
pub front_is : {S : Type 0} (l c : List (ℕ × S)) (k : ℕ) (y : S) → l ≡ (k, y) ∷ c → l ≡ (k, y) ∷ rest l
front_is l c k y e = e ∙ ap (λ t. (k, y) ∷ t) (ap rest (sym e))

pub held_fits : {P E O : Type 0} (part_fits : O → List E → ℕ → P → Type 0) (o : O) (es : List E) (p : P) (held : Option ℕ) (k : ℕ) → held ≡ Some k
    → IsSomeAnd held (λ j. part_fits o es j p) → part_fits o es k p
held_fits part_fits o es p held k is f = let g : IsSomeAnd (Some k) (λ j. part_fits o es j p) = subst (λ h. IsSomeAnd h (λ j. part_fits o es j p)) is f in g

module _ {M H P E O : Type 0} (hub_fits : O → List E → H → Type 0) (part_fits : O → List E → ℕ → P → Type 0) (may_follow : O → List E → E → Type 0) (part_named : E → Option ℕ)
    (law : FitsOn part_fits may_follow part_named) where
  -- the part in hand fits on, over what was newly seen
  pub hub_still : (t : Table M H P E O) (p : PassOf H P E O) (one two : Me (Place H P E) (View E O)) (c : List (ℕ × Place H P E)) → IsPassOf t p
      → TookHub hub_fits part_fits may_follow part_named t.parts p.seat.me one → two ≡ (one.0, c)
      → (k : ℕ) (x : P) → (view p).part ≡ Some k → part_fits (opening_of t) (events (view p).seen) k x → part_fits (opening_of t) (events two.0.seen) k x
  hub_still t p one two c of took is k x held fit =
      subst (λ (l : List (Entry E)). part_fits (opening_of t) (events l) k x) (ap (λ m. m.0.seen) (sym is))
      (fits_since part_fits may_follow part_named law (opening_of t) k x (view p).seen one.0.seen
      (took.2.legal (opening_of t) (ap (λ (y : View E O). y.opening) took.1 ∙ of.opened)) (took.5 k held) fit)

module _ {E O : Type 0} where
  -- one more exchange that found the slot out
  pub waited_more : (k : ℕ) (v w x : View E O) → w ≡ having_found_out w.found_out v → HasWaited k v w → x ≡ with_found_out k w → (x ≡ having_found_out x.found_out v) × HasWaited k v x
  waited_more k v w x waits waited is =
      let found : x.found_out ≡ w.found_out ++ k ∷ [] = ap (λ (y : View E O). y.found_out) is in (
        is ∙ ap (with_found_out k) waits ∙ ap (λ l. having_found_out l v) (sym found),
        (waited.0 + 1, found ∙ ap (λ l. l ++ k ∷ []) waited.1 ∙ append_assoc v.found_out (replicate waited.0 k) (k ∷ []) ∙ ap (λ l. v.found_out ++ l) (replicate_more waited.0 k)),
      )

  pub waited_once : (k : ℕ) (v w x : View E O) → w ≡ with_found_out k v → HasWaited k w x → HasWaited k v x
  waited_once k v w x is waited =
      let found : w.found_out ≡ v.found_out ++ k ∷ [] = ap (λ (y : View E O). y.found_out) is in
      (suc waited.0, waited.1 ∙ ap (λ l. l ++ replicate waited.0 k) found ∙ append_assoc v.found_out (k ∷ []) (replicate waited.0 k))

  pub waited_none : (k : ℕ) (v : View E O) → (v ≡ having_found_out v.found_out v) × HasWaited k v v
  waited_none k v = (refl, (0, sym (append-nil v.found_out)))

  -- after that the part is taken, or the hub
  pub part_at_last : (k : ℕ) (v w x : View E O) → w ≡ having_found_out w.found_out v → x ≡ with_part k x.seen w → x ≡ with_part k x.seen (having_found_out x.found_out v)
  part_at_last k v w x waits is =
      let found : x.found_out ≡ w.found_out = ap (λ (y : View E O). y.found_out) is in
      is ∙ ap (with_part k x.seen) waits ∙ ap (λ l. with_part k x.seen (having_found_out l v)) (sym found)

  pub hub_at_last : (v w x : View E O) → w ≡ having_found_out w.found_out v → x ≡ with_hub x.seen w → x ≡ with_hub x.seen (having_found_out x.found_out v)
  hub_at_last v w x waits is =
      let found : x.found_out ≡ w.found_out = ap (λ (y : View E O). y.found_out) is in
      is ∙ ap (with_hub x.seen) waits ∙ ap (λ l. with_hub x.seen (having_found_out l v)) (sym found)

  pub waited_still : (k : ℕ) (v w x : View E O) → HasWaited k v w → x.found_out ≡ w.found_out → HasWaited k v x
  waited_still k v w x waited same = (waited.0, same ∙ waited.1)

  pub sees_more_at_last : (may_follow : O → List E → E → Type 0) (v w x : View E O) → w ≡ having_found_out w.found_out v → SeesMore may_follow w x → SeesMore may_follow v x
  sees_more_at_last may_follow v w x waits more = record {
    begins = subst (λ (l : List (Entry E)). IsPrefix l x.seen) (ap (λ (y : View E O). y.seen) waits) more.begins;
    legal = more.legal;
    own_events = more.own_events;
  }
