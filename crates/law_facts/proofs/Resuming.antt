-- The image that a restart was made from is left of the state after it.
use Rattle.std.proofs.Common.{◌≡◌, ◌⊎◌, inl, inr, ℕ, true, false, List, [], ◌∷◌, refl, sym, ◌∙◌, ap, subst}
use Rattle.std.proofs.lemmas.Bool.{false≢true}
use Rattle.std.specs.Prelude.{Contains, IsTrue, Option, Some, None, IfSome}
use Rattle.std.specs.List.{AllByRecursion}
use Rattle.law_lists.proofs.Each.{all_at, all_from}
use Rattle.law_lists.proofs.Members.{cons_cases, first_there, rest_there, map_there}
use Rattle.rec_format.specs.declared.version.Digest.{Digest}
use Rattle.rec_format.specs.declared.version.Version.{Version}
use Rattle.rec_format.specs.Versions.{is_later}
use Rattle.model_device.specs.Histories.{Item, write, dropped, rid, cleared, Pending, is_durable, ends_well, last_write, writes_of, without_numbers}
use Rattle.model_device.specs.Book.{Setup, pending_of}
use Rattle.model_device.specs.Device.{State, history}
use Rattle.block_format.specs.Copies.{Copy, copies_of, copies_named, latest, version_of}
use Rattle.law_start.specs.Start.{Restarts}
use Rattle.law_start.specs.Orderly.{IsFalling}
use Rattle.law_start.specs.Holding.{begun_versions, flushed_versions, versions_in}
use Rattle.law_start.proofs.ColdOrder.{later_one_way, no_later_itself}
use Rattle.law_start.proofs.Held.{IsNewest, latest_is}
use Rattle.law_facts.specs.Facts.{Possible, HasFacts, copies_among}
use Rattle.law_facts.specs.Reaching.{ReachesFlushed, IsLeft}
use Rattle.law_facts.proofs.Reaching.{flushed_written}
use Rattle.law_facts.proofs.Restarting.{restart_facts}

-- a write without numbers is flushed, and so has begun
begun_numberless : (p : Pending) (items : List Item) (v : Version) → Contains (writes_of (without_numbers items)) v → Contains (begun_versions p (without_numbers items)) v
begun_numberless p [] v there = there
begun_numberless p (write u numbers ∷ older) v there = by (cons_cases u (writes_of (without_numbers older)) v there) (begun_numberless p older v)
  where
    by : (u ≡ v) ⊎ Contains (writes_of (without_numbers older)) v → (Contains (writes_of (without_numbers older)) v → Contains (begun_versions p (without_numbers older)) v)
        → Contains (u ∷ begun_versions p (without_numbers older)) v
    by (inl e) rest = subst (Contains (u ∷ begun_versions p (without_numbers older))) e (first_there u (begun_versions p (without_numbers older)))
    by (inr more) rest = rest_there u (begun_versions p (without_numbers older)) v (rest more)
begun_numberless p (dropped ∷ older) v there = begun_numberless p older v there
begun_numberless p (rid ∷ older) v there = begun_numberless p older v there
begun_numberless p (cleared ∷ older) v there = begun_numberless p older v there

-- no write of a kept history is later than the one that it ends in
none_behind : (p q : Pending) (kept : List Item) (c : Version) → IsTrue (ends_well p kept) → last_write kept ≡ Some c → IsFalling (writes_of (without_numbers kept))
    → AllByRecursion (λ w. is_later w c ≡ false) (flushed_versions q (without_numbers kept))
none_behind p q [] c ends shown falling = absurd cc
none_behind p q (write u numbers ∷ older) c ends shown falling =
    let same : u ≡ c = cc in
    subst (λ (x : Version). AllByRecursion (λ w. is_later w x ≡ false) (u ∷ flushed_versions q (without_numbers older))) same (
      no_later_itself u.stamp u.stamp refl,
      all_from (λ w. is_later w u ≡ false) (flushed_versions q (without_numbers older))
          (λ w there. later_one_way u.stamp w.stamp (all_at (λ x. is_later u x ≡ true) (writes_of (without_numbers older)) w falling.0 (flushed_written q (without_numbers older) w there))),
    )
none_behind p q (dropped ∷ older) c ends shown falling = absurd (false≢true ends)
none_behind p q (rid ∷ older) c ends shown falling = absurd (false≢true ends)
none_behind p q (cleared ∷ older) c ends shown falling = absurd (false≢true ends)

-- what ends in no write is nothing
nothing_durable : (p q : Pending) (kept : List Item) → IsTrue (ends_well p kept) → last_write kept ≡ None → is_durable q (without_numbers kept) ≡ true → ⊥
nothing_durable p q [] ends shown durable = false≢true durable
nothing_durable p q (write u numbers ∷ older) ends shown durable = absurd cc
nothing_durable p q (dropped ∷ older) ends shown durable = false≢true ends
nothing_durable p q (rid ∷ older) ends shown durable = false≢true ends
nothing_durable p q (cleared ∷ older) ends shown durable = false≢true ends

module _ (setup : Setup) (s new : State) (image : List ℕ) (possible : Possible) (facts : HasFacts setup s possible) (r : Restarts setup s image new)
    (read : (block : ℕ) (digest : Digest) (v : Version) → copies_among r.bodies block digest v → possible block digest v) where
  after : HasFacts setup new (copies_among r.bodies)
  after = restart_facts setup s new image possible facts r read

  abbrev pending : Pending
  pending = pending_of new.book

  reaches_at : (digest : Digest) (found : Option Copy) → latest (copies_named digest (copies_of r.bodies)) ≡ found → IfSome found (IsNewest (copies_named digest (copies_of r.bodies)))
      → is_durable pending (history new digest) ≡ true → ReachesFlushed pending (history new digest) (versions_in digest r.bodies)
  reaches_at digest None e is durable =
      let k = r.kept digest in
      absurd (nothing_durable (pending_of s.book) pending k.0 k.1.keeps.end (sym k.1.shown ∙ ap version_of e) (subst (λ (l : List Item). is_durable pending l ≡ true) k.2 durable))
  reaches_at digest (Some c) e is durable =
      let k = r.kept digest in
      record {
        found = c.version;
        there = map_there (λ (d : Copy). d.version) (copies_named digest (copies_of r.bodies)) c is.there;
        last = subst (λ (l : List Item). AllByRecursion (λ w. is_later w c.version ≡ false) (flushed_versions pending l)) (sym k.2)
            (none_behind (pending_of s.book) pending k.0 c.version k.1.keeps.end (sym k.1.shown ∙ ap version_of e)
            (subst (λ (l : List Item). IsFalling (writes_of l)) k.2 (after.guarded digest).falling));
      }

  has_begun : (c : Copy) → Contains (copies_of r.bodies) c → Contains (begun_versions pending (history new c.digest)) c.version
  has_begun c there =
      let k = r.kept c.digest in
      subst (λ (l : List Item). Contains (begun_versions pending l) c.version) (sym k.2)
      (begun_numberless pending k.0 c.version (subst (λ (l : List Item). Contains (writes_of l) c.version) k.2 ((after.guarded c.digest).written c.version (c.block, (c, there, refl, refl, refl)))))

  -- that image is left
  pub restart_left : IsLeft setup new (copies_among r.bodies) image r.bodies
  restart_left = record {
    shape = r.sound.shape;
    is_shape = r.sound.is_shape;
    readable = r.sound.readable;
    may_come = all_from (λ c. copies_among r.bodies c.block c.digest c.version) (copies_of r.bodies) (λ c there. (c, there, refl, refl, refl));
    begun = all_from (λ c. Contains (begun_versions pending (history new c.digest)) c.version) (copies_of r.bodies) has_begun;
    reaches = λ digest durable. reaches_at digest (latest (copies_named digest (copies_of r.bodies))) refl (latest_is (copies_named digest (copies_of r.bodies))) durable;
  }
