-- An image that has each flushed version reaches the newest of them. So does one that a start was made from.
use Rattle.std.proofs.Common.{◌≡◌, ⊎_elim, ℕ, Bool, true, false, cond, ◌||◌, List, [], ◌∷◌, refl, sym, ap, subst}
use Rattle.std.proofs.lemmas.Bool.{false≢true}
use Rattle.std.specs.Prelude.{Contains}
use Rattle.std.specs.List.{AllByRecursion}
use Rattle.law_lists.proofs.Each.{all_at, all_from}
use Rattle.law_lists.proofs.Members.{cons_cases, first_there, rest_there}
use Rattle.rec_format.specs.declared.version.Version.{Version}
use Rattle.rec_format.specs.Versions.{is_later}
use Rattle.model_device.specs.Histories.{Item, write, dropped, rid, cleared, Pending, is_flushed, is_durable, writes_of}
use Rattle.model_device.specs.Book.{Setup, pending_of}
use Rattle.model_device.specs.Device.{State, history}
use Rattle.block_format.specs.Layout.{Body}
use Rattle.block_format.specs.Copies.{copies_of}
use Rattle.law_start.specs.Sound.{IsSound}
use Rattle.law_start.specs.Start.{start_state}
use Rattle.law_start.specs.Orderly.{IsFalling}
use Rattle.law_start.specs.Holding.{flushed_versions, versions_in, Reflects}
use Rattle.law_start.proofs.ColdOrder.{later_one_way, no_later_itself}
use Rattle.law_start.proofs.HeldStart.{start_reflects}
use Rattle.law_facts.specs.Facts.{Possible, HasFacts, copies_among}
use Rattle.law_facts.specs.Reaching.{ReachesFlushed, IsLeft}
use Rattle.law_facts.proofs.Starting.{start_facts}

pub flushed_written : (p : Pending) (items : List Item) (v : Version) → Contains (flushed_versions p items) v → Contains (writes_of items) v
flushed_written p [] v there = there
flushed_written p (write u numbers ∷ older) v there = by (is_flushed p numbers) there (flushed_written p older v)
  where
    by : (b : Bool) → Contains (cond b (u ∷ flushed_versions p older) (flushed_versions p older)) v → (Contains (flushed_versions p older) v → Contains (writes_of older) v)
        → Contains (u ∷ writes_of older) v
    by false there rest = rest_there u (writes_of older) v (rest there)
    by true there rest =
        ⊎_elim (λ (e : u ≡ v). subst (Contains (u ∷ writes_of older)) e (first_there u (writes_of older)))
        (λ (more : Contains (flushed_versions p older) v). rest_there u (writes_of older) v (rest more))
        (cons_cases u (flushed_versions p older) v there)
flushed_written p (dropped ∷ older) v there = flushed_written p older v there
flushed_written p (rid ∷ older) v there = flushed_written p older v there
flushed_written p (cleared ∷ older) v there = flushed_written p older v there

-- a durable history reaches its newest flushed write
pub flushed_reached : (p : Pending) (items : List Item) → IsFalling (writes_of items) → is_durable p items ≡ true → ReachesFlushed p items (flushed_versions p items)
flushed_reached p [] falling durable = absurd (false≢true durable)
flushed_reached p (write u numbers ∷ older) falling durable = by (is_flushed p numbers) refl durable (flushed_reached p older falling.1)
  where
    newest : AllByRecursion (λ w. is_later w u ≡ false) (flushed_versions p older)
    newest =
        all_from (λ w. is_later w u ≡ false) (flushed_versions p older)
        (λ w there. later_one_way u.stamp w.stamp (all_at (λ x. is_later u x ≡ true) (writes_of older) w falling.0 (flushed_written p older w there)))

    by : (b : Bool) → is_flushed p numbers ≡ b → (b || is_durable p older) ≡ true → (is_durable p older ≡ true → ReachesFlushed p older (flushed_versions p older))
        → ReachesFlushed p (write u numbers ∷ older) (flushed_versions p (write u numbers ∷ older))
    by true is durable rest =
        let same : flushed_versions p (write u numbers ∷ older) ≡ u ∷ flushed_versions p older = ap (λ (b : Bool). cond b (u ∷ flushed_versions p older) (flushed_versions p older)) is in
        record {
          found = u;
          there = subst (λ (l : List Version). Contains l u) (sym same) (first_there u (flushed_versions p older));
          last = subst (AllByRecursion (λ w. is_later w u ≡ false)) (sym same) (no_later_itself u.stamp u.stamp refl, newest);
        }
    by false is durable rest =
        let same : flushed_versions p (write u numbers ∷ older) ≡ flushed_versions p older = ap (λ (b : Bool). cond b (u ∷ flushed_versions p older) (flushed_versions p older)) is in
        let r = rest durable in
        record {
          found = r.found;
          there = subst (λ (l : List Version). Contains l r.found) (sym same) r.there;
          last = subst (AllByRecursion (λ w. is_later w r.found ≡ false)) (sym same) r.last;
        }
flushed_reached p (dropped ∷ older) falling durable = absurd (false≢true durable)
flushed_reached p (rid ∷ older) falling durable = absurd (false≢true durable)
flushed_reached p (cleared ∷ older) falling durable = let r = flushed_reached p older falling durable in record { found = r.found; there = r.there; last = r.last }

-- an image that is held, and whose copies are possible, is left
pub held_left : (setup : Setup) (s : State) (possible : Possible) (image : List ℕ) (bodies : List Body) → HasFacts setup s possible
    → AllByRecursion (λ c. possible c.block c.digest c.version) (copies_of bodies)
    → Reflects setup s image bodies → IsLeft setup s possible image bodies
held_left setup s possible image bodies facts may_come h = record {
  shape = h.shape;
  is_shape = h.is_shape;
  readable = h.readable;
  may_come = may_come;
  begun = h.begun;
  reaches = λ digest durable.
      let p = pending_of s.book in
      let r = flushed_reached p (history s digest) (facts.guarded digest).falling durable in
      record { found = r.found; there = all_at (Contains (versions_in digest bodies)) (flushed_versions p (history s digest)) r.found (h.flushed digest) r.there; last = r.last };
}

-- so is the image that a start was made from
pub start_left : (setup : Setup) (image : List ℕ) (bodies : List Body) → IsSound setup image bodies → IsLeft setup (start_state setup bodies) (copies_among bodies) image bodies
start_left setup image bodies sound =
    held_left setup (start_state setup bodies) (copies_among bodies) image bodies (start_facts setup image bodies sound)
    (all_from (λ c. copies_among bodies c.block c.digest c.version) (copies_of bodies) (λ c there. (c, there, refl, refl, refl))) (start_reflects setup image bodies sound)
