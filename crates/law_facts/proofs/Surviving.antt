-- An image that is left of a state with the facts survives it.
use Rattle.std.proofs.Common.{◌≡◌, ◌⊎◌, inl, inr, ℕ, Bool, true, false, not, ◌&&◌, ◌||◌, List, [], ◌∷◌, map, refl, sym, ◌∙◌, ap, subst, arith}
use Rattle.std.proofs.lemmas.Bool.{and_parts}
use Rattle.std.proofs.lemmas.List.{append-nil}
use Rattle.std.specs.Prelude.{Contains, IsTrue, Option, Some, None, IfSome}
use Rattle.std.specs.List.{AllByRecursion}
use Rattle.law_lists.proofs.Each.{all_map, all_at, all_from}
use Rattle.law_lists.proofs.Members.{cons_cases, map_from, filter_from}
use Rattle.rec_format.specs.declared.version.Digest.{Digest}
use Rattle.rec_format.specs.declared.version.Version.{Version}
use Rattle.rec_format.specs.Places.{same_digest, device_number}
use Rattle.rec_format.specs.Versions.{is_later, is_put, is_tombstone}
use Rattle.model_device.specs.Histories.{Item, Pending, has_flushed, has_flushed_tombstone, is_durable, is_nothing, Keeps, last_write, writes_of}
use Rattle.model_device.specs.Book.{Setup, pending_of}
use Rattle.model_device.specs.Device.{State, history}
use Rattle.rec_format.proofs.Laws.{same_digest_is}
use Rattle.block_format.specs.Layout.{Body}
use Rattle.block_format.specs.Copies.{Copy, copies_of, copies_named, latest, version_of}
use Rattle.law_start.specs.Surviving.{Survives, KeepsShown}
use Rattle.law_start.specs.Sound.{NoTwins, NoBarePuts, NoStrays, same_name}
use Rattle.law_start.specs.Orderly.{IsFalling}
use Rattle.law_start.specs.Holding.{begun_versions, flushed_versions}
use Rattle.law_start.proofs.ColdOrder.{no_later_trans}
use Rattle.law_start.proofs.ColdVersions.{IsCopyRule}
use Rattle.law_start.proofs.Growing.{same_not_later}
use Rattle.law_start.proofs.Held.{IsNewest, latest_is, none_latest}
use Rattle.law_facts.specs.Guarded.{standing_writes, IsGuarded}
use Rattle.law_facts.specs.Facts.{Possible, somewhere, HasFacts}
use Rattle.law_facts.specs.Reaching.{IsLeft}
use Rattle.law_facts.proofs.Splitting.{IsSplitAt, split_at, lost_unflushed, writes_joined, AllStand, standing_durable, unflushed_tombstones}

-- versions of which each is later than those before it have stamps of their own
pub one_stamp : (versions : List Version) (a b : Version) → IsFalling versions → Contains versions a → Contains versions b → a.stamp ≡ b.stamp → a ≡ b
one_stamp [] a b falling in_a in_b same = absurd (omega (arith, in_a.1))
one_stamp (u ∷ versions) a b falling in_a in_b same = by (cons_cases u versions a in_a) (cons_cases u versions b in_b) (λ in_a in_b. one_stamp versions a b falling.1 in_a in_b same)
  where
    is_later_than : (w : Version) → Contains versions w → u.stamp ≡ w.stamp → ⊥
    is_later_than w there e = same_not_later u w (all_at (λ x. is_later u x ≡ true) versions w falling.0 there) e

    by : (u ≡ a) ⊎ Contains versions a → (u ≡ b) ⊎ Contains versions b → (Contains versions a → Contains versions b → a ≡ b) → a ≡ b
    by (inl p) (inl q) rest = sym p ∙ q
    by (inl p) (inr q) rest = absurd (is_later_than b q (ap (λ (w : Version). w.stamp) p ∙ same))
    by (inr p) (inl q) rest = absurd (is_later_than a p (ap (λ (w : Version). w.stamp) q ∙ sym same))
    by (inr p) (inr q) rest = rest p q

-- ---- one history

module _ (p : Pending) (items : List Item) (possible : Version → Type 0) (v : Version) (g : IsGuarded items possible) (may_come : possible v)
    (reaches : IsTrue (is_durable p items) → AllByRecursion (λ w. is_later w v ≡ false) (flushed_versions p items))
    (s : IsSplitAt p items v) where
  durable_unflushed : is_durable p items ≡ true → has_flushed p s.lost ≡ false
  durable_unflushed durable =
      lost_unflushed p s.lost s.kept v s.later (subst (λ (l : List Item). AllByRecursion (λ w. is_later w v ≡ false) (flushed_versions p l)) s.parts (reaches durable))

  all_stand : AllStand s.lost s.kept
  all_stand t there is =
      subst (λ (l : List Item). Contains (standing_writes l) t) s.parts
      (g.standing t (record {
        written = subst (λ (l : List Item). Contains (writes_of l) t) (sym s.parts) (writes_joined s.lost s.kept t there);
        is_one = is;
        older = v;
        may_come = may_come;
        later = all_at (λ w. is_later w v ≡ true) (writes_of s.lost) t s.later there;
      }))

  none_flushed : has_flushed_tombstone p s.lost ≡ false
  none_flushed = by (has_flushed_tombstone p s.lost) refl
    where
      by : (b : Bool) → has_flushed_tombstone p s.lost ≡ b → b ≡ false
      by false is = refl
      by true is =
          let durable = standing_durable p s.lost s.kept (subst (λ (l : List Item). IsFalling (writes_of l)) s.parts g.falling) all_stand is in
          sym is ∙ unflushed_tombstones p s.lost (durable_unflushed (subst (λ (l : List Item). is_durable p l ≡ true) (sym s.parts) durable))

  pub split_keeps : Keeps p items s.kept
  split_keeps = record { lost = s.lost; parts = s.parts; end = s.end; durable = durable_unflushed; tombstones = none (is_nothing s.kept) (has_flushed_tombstone p s.lost) none_flushed }
    where
      none : (a b : Bool) → b ≡ false → IsTrue (a || not b)
      none true b e = refl
      none false b e = ap not e

-- ---- an image

module _ (setup : Setup) (s : State) (possible : Possible) (image : List ℕ) (bodies : List Body) (facts : HasFacts setup s possible) (left : IsLeft setup s possible image bodies) where
  abbrev copies : List Copy
  copies = copies_of bodies

  abbrev pending : Pending
  pending = pending_of s.book

  -- each copy is possible where it lies
  there_possible : (c : Copy) → Contains copies c → possible c.block c.digest c.version
  there_possible c there = all_at (λ x. possible x.block x.digest x.version) copies c left.may_come there

  of_digest : (digest : Digest) (c : Copy) → Contains copies c → digest ≡ c.digest → somewhere possible digest c.version
  of_digest digest c there e = (c.block, subst (λ (d : Digest). possible c.block d c.version) (sym e) (there_possible c there))

  all_written : AllByRecursion (λ c. Contains (writes_of (history s c.digest)) c.version) copies
  all_written = all_from (λ c. Contains (writes_of (history s c.digest)) c.version) copies (λ c there. (facts.guarded c.digest).written c.version (of_digest c.digest c there refl))

  twins : NoTwins copies
  twins =
      all_from (λ a. AllByRecursion (λ b. IsTrue (same_name a b) → a.version.stamp ≡ b.version.stamp → a.version ≡ b.version) copies) copies
      (λ a in_a. all_from (λ b. IsTrue (same_name a b) → a.version.stamp ≡ b.version.stamp → a.version ≡ b.version) copies
      (λ b in_b same stamp. let g = facts.guarded a.digest in
      one_stamp (writes_of (history s a.digest)) a.version b.version g.falling (g.written a.version (of_digest a.digest a in_a refl))
      (g.written b.version (of_digest a.digest b in_b (same_digest_is a.digest b.digest same))) stamp))

  covered_behind : (a t p : Copy) → Contains copies a → Contains copies t → Contains copies p → IsCopyRule a t p
  covered_behind a t p in_a in_t in_p e =
      let e4 = and_parts (same_name a t && same_name t p && is_tombstone t.version && is_put p.version && is_later t.version a.version) (is_later p.version t.version) e in
      let e3 = and_parts (same_name a t && same_name t p && is_tombstone t.version && is_put p.version) (is_later t.version a.version) e4.0 in
      let e2 = and_parts (same_name a t && same_name t p && is_tombstone t.version) (is_put p.version) e3.0 in
      let e1 = and_parts (same_name a t && same_name t p) (is_tombstone t.version) e2.0 in
      let names = and_parts (same_name a t) (same_name t p) e1.0 in
      let a_t = same_digest_is a.digest t.digest names.0 in
      let g = facts.guarded a.digest in
      g.puts t.version p.version
      (record { written = g.written t.version (of_digest a.digest t in_t a_t); is_one = e1.1; older = a.version; may_come = of_digest a.digest a in_a refl; later = e3.1 })
      (of_digest a.digest p in_p (a_t ∙ same_digest_is t.digest p.digest names.1)) e2.1 e4.1

  puts : NoBarePuts copies
  puts =
      all_from (λ a. AllByRecursion (λ t. AllByRecursion (IsCopyRule a t) copies) copies) copies
      (λ a in_a. all_from (λ t. AllByRecursion (IsCopyRule a t) copies) copies
      (λ t in_t. all_from (IsCopyRule a t) copies (λ p in_p. covered_behind a t p in_a in_t in_p)))

  strays : NoStrays setup copies
  strays =
      all_map (λ c. Contains (writes_of (history s c.digest)) c.version) (λ c. device_number setup.devices c.digest ≡ setup.device) copies (λ c there. facts.own c.digest c.version there) all_written

  -- ---- what it shows of a digest

  -- no flushed write is later than the latest copy
  none_later : (digest : Digest) (c : Copy) → IsNewest (copies_named digest copies) c → IsTrue (is_durable pending (history s digest))
      → AllByRecursion (λ w. is_later w c.version ≡ false) (flushed_versions pending (history s digest))
  none_later digest c is durable =
      let r = left.reaches digest durable in
      let x = map_from (λ (d : Copy). d.version) (copies_named digest copies) r.found r.there in
      let no_later : is_later r.found c.version ≡ false = subst (λ (v : Version). is_later v c.version ≡ false) x.2
      (all_at (λ d. is_later d.version c.version ≡ false) (copies_named digest copies) x.0 is.last x.1) in
      all_map (λ w. is_later w r.found ≡ false) (λ w. is_later w c.version ≡ false) (flushed_versions pending (history s digest))
      (λ w e. no_later_trans w.stamp r.found.stamp c.version.stamp e no_later) r.last

  shown_at : (digest : Digest) (found : Option Copy) → latest (copies_named digest copies) ≡ found → IfSome found (IsNewest (copies_named digest copies))
      → (kept : List Item) × Keeps pending (history s digest) kept × (version_of found ≡ last_write kept)
  shown_at digest None e is = ([], record { lost = history s digest; parts = sym (append-nil (history s digest)); end = refl; durable = λ durable. absurd (nothing durable); tombstones = refl }, refl)
    where
      nothing : IsTrue (is_durable pending (history s digest)) → ⊥
      nothing durable =
          let r = left.reaches digest durable in
          let there : Contains {X = Version} [] r.found = subst (λ (l : List Copy). Contains (map (λ (c : Copy). c.version) l) r.found) (none_latest (copies_named digest copies) e) r.there in
          omega (arith, there.1)
  shown_at digest (Some c) e is =
      let found = filter_from (λ (d : Copy). same_digest digest d.digest) copies c is.there in
      let same = same_digest_is digest c.digest found.1 in
      let begun = subst (λ (d : Digest). Contains (begun_versions pending (history s d)) c.version) (sym same)
      (all_at (λ d. Contains (begun_versions pending (history s d.digest)) d.version) copies c left.begun found.0) in
      let g = facts.guarded digest in
      let split = split_at pending (history s digest) c.version g.falling begun in
      (split.kept, split_keeps pending (history s digest) (somewhere possible digest) c.version g (of_digest digest c found.0 same) (none_later digest c is) split, sym split.shown)

  kept_shown : (digest : Digest) → (kept : List Item) × KeepsShown s copies digest kept
  kept_shown digest =
      let r = shown_at digest (latest (copies_named digest copies)) refl (latest_is (copies_named digest copies)) in
      (r.0, record { keeps = r.1; shown = r.2 })

  -- the image survives
  pub facts_survive : Survives setup s image
  facts_survive = record {
    bodies = bodies;
    sound = record { shape = left.shape; is_shape = left.is_shape; readable = left.readable; twins = twins; puts = puts; strays = strays };
    written = all_written;
    kept = kept_shown;
  }
