-- The copies of a device's entries stand at places of their own, and a device has at most 2^32 places.
use Rattle.std.proofs.Common.{Less, ◌≡◌, ◌≢◌, ℕ, ◌+◌, ◌*◌, ◌^◌, ◌<◌, ◌≤◌, Bool, true, List, [], ◌∷◌, length, refl, sym, ◌∙◌, ap, subst, arith}
use Rattle.std.specs.Prelude.{Option, Some, None, Contains, filter, map, count_by, slice_get}
use Rattle.std.specs.List.{AllByRecursion}
use Rattle.std.specs.List.Sorted.{IsStrictlySortedBy}
use Rattle.std.specs.Ordering.{is_eq}
use Rattle.std.proofs.lemmas.Bool.{false≢true}
use Rattle.std.proofs.lemmas.List.{length-map}
use Rattle.std.proofs.lemmas.List.Kept.{IsStrictlySortedBy-filter}
use Rattle.std.proofs.lemmas.List.Sums.{length-filter}
use Rattle.law_lists.proofs.Each.{all_kept}
use Rattle.law_lists.proofs.Finding.{find_there, found_passes}
use Rattle.law_lists.proofs.Places.{place_there}
use Rattle.rec_format.specs.declared.version.Digest.{Digest}
use Rattle.rec_format.specs.declared.version.Version.{Version}
use Rattle.rec_format.specs.declared.entry.Entry.{Entry}
use Rattle.rec_format.specs.Places.{digest_cmp, same_digest, device_number}
use Rattle.rec_format.proofs.Laws.{same_digest_is, same_digest_refl}
use Rattle.model_device.specs.Book.{Live, live_of, live_of_entry}
use Rattle.model_device.specs.Device.{State, entry, part_of, digests_of}
use Rattle.disk_model.specs.Disk.{DiskView}
use Rattle.block_shelf.specs.Lives.{LiveCopy, copies_in}
use Rattle.sprig_tree.specs.State.{SprigState}
use Rattle.sprig_tree.specs.Entries.{entry_of}
use Rattle.law_sprig.proofs.Alike.{Says}
use Rattle.law_sprig.proofs.Counting.{part_exists}
use Rattle.law_sprig.proofs.Ordered.{AreInOrder, IsBelowAll}
use Rattle.law_sprig.proofs.Showing.{logged_order}
use Rattle.block_shelf.specs.View.{IsShelf, AreApart}
use Rattle.block_shelf.proofs.Blocks.{few}
use Rattle.block_shelf.proofs.Lives.{same_unit}
use Rattle.block_shelf.proofs.StartLives.{capacity_most}
use Rattle.shard_core.specs.Stands.{Agrees, IsWhole}
use Rattle.shard_core.specs.View.{ShardView, setup_of}

-- ---- lists

-- a digest doesn't come before itself
never_below : (d : Digest) → digest_cmp d d ≡ Less → ⊥
never_below d less = false≢true (sym (ap is_eq less) ∙ same_digest_refl d)

-- ---- one place for each copy

-- a number for each place
abbrev number_of : Option Live → ℕ
number_of None = 0
number_of (Some l) = l.block * 65536 + l.unit

module _ {D : Type 0} (view : D → DiskView) (shard : ShardView D) (s : State) (is : IsShelf view shard.shelf) (whole : IsWhole shard) (agrees : Agrees shard s) where
  -- that of a digest's copy
  abbrev number : Digest → ℕ
  number d = number_of (live_of d s.book.live)

  -- a copy of the digest is live
  record IsCopied (d : Digest) : Type 0 where
    live : Live
    found : live_of d s.book.live ≡ Some live

  -- a live copy of the digest, within a block of the device
  record IsWithin (d : Digest) (l : Live) : Type 0 where
    own : d ≡ l.digest
    among : Contains s.book.live l
    block : l.block < 65536
    unit : l.unit < 65536

  within : (d : Digest) (l : Live) → live_of d s.book.live ≡ Some l → IsWithin d l
  within d l found =
      let among = find_there (λ x. same_digest d x.digest) s.book.live l found in
      let of = agrees.shelf.stands.entries l among in
      record {
        own = same_digest_is d l.digest (found_passes (λ x. same_digest d x.digest) s.book.live l found);
        among = among;
        block = omega (arith, of.lies.block, is.geometry.blocks);
        unit = omega (arith, of.lies.within, of.lies.units, capacity_most shard.shelf.geometry is.geometry);
      }

  -- a digest that has an entry has a copy
  copied : (d : Digest) → device_number shard.shelf.geometry.devices d ≡ shard.shelf.geometry.device → (v : Version) → entry s d ≡ Some v → IsCopied d
  copied d own v top = at (place_there shard.sprigs (part_of (setup_of shard) d) exists)
    where
      exists : part_of (setup_of shard) d < length shard.sprigs
      exists = subst (λ (n : ℕ). part_of (setup_of shard) d < n) (sym agrees.sprigs.count)
          (part_exists (setup_of shard) d (omega (arith, is.geometry.device)) (omega (arith, whole.settings.sprigs)) own)

      by : (o : Option Entry) → Says (setup_of shard) (part_of (setup_of shard) d) s d o → IsCopied d
      by None none = let never : None ≡ Some v = sym (none refl).top ∙ top in absurd cc
      by (Some e) shown = record { live = live_of_entry e; found = shown.1.place }

      at : (sprig : SprigState) × (slice_get shard.sprigs (part_of (setup_of shard) d) ≡ Some sprig) → IsCopied d
      at one = by (entry_of d one.0.entries) ((agrees.sprigs.each (part_of (setup_of shard) d) one.0 one.1).entries.shown d)

  -- copies of two digests have two places
  two_places : (d e : Digest) → digest_cmp d e ≡ Less → IsCopied d → IsCopied e → number d ≢ number e
  two_places d e less one two same =
      let l = within d one.live one.found in
      let m = within e two.live two.found in
      let numbers : one.live.block * 65536 + one.live.unit ≡ two.live.block * 65536 + two.live.unit = sym (ap number_of one.found) ∙ same ∙ ap number_of two.found in
      let block : one.live.block ≡ two.live.block = omega (arith, l.unit, m.unit, numbers) in
      let unit : one.live.unit ≡ two.live.unit = omega (arith, l.unit, m.unit, numbers) in
      let a : LiveCopy = record { digest = one.live.digest; unit = one.live.unit; units = one.live.units } in
      let b : LiveCopy = record { digest = two.live.digest; unit = two.live.unit; units = two.live.units } in
      let lives = agrees.shelf.stands.lives in
      let copies = same_unit (copies_in one.live.block shard.shelf.lives) (is.each one.live.block).own a b
      (lives.known one.live.block a l.among) (subst (λ (k : ℕ). Contains (copies_in k shard.shelf.lives) b) (sym block) (lives.known two.live.block b m.among)) unit in
      let same_one : d ≡ e = l.own ∙ ap (λ (c : LiveCopy). c.digest) copies ∙ sym m.own in
      never_below e (subst (λ (x : Digest). digest_cmp x e ≡ Less) same_one less)

  -- so the places of digests in order are places of their own
  apart_behind : (d : Digest) (ds : List Digest) → IsCopied d → IsBelowAll d ds → AllByRecursion IsCopied ds → AllByRecursion (λ m. number d ≢ m) (map number ds)
  apart_behind d [] one below all = tt
  apart_behind d (e ∷ ds) one below all = (two_places d e below.0 one all.0, apart_behind d ds one below.1 all.1)

  apart : (ds : List Digest) → AreInOrder ds → AllByRecursion IsCopied ds → AreApart (map number ds)
  unfolding IsStrictlySortedBy
  apart [] order all = tt
  apart (d ∷ ds) order all = (apart_behind d ds all.0 order.0 all.1, apart ds order.1 all.1)

  small : (ds : List Digest) → AllByRecursion IsCopied ds → AllByRecursion (λ m. m < 2 ^ 32) (map number ds)
  small [] all = tt
  small (d ∷ ds) all =
      let l = within d all.0.live all.0.found in
      let here : number_of (Some all.0.live) < 2 ^ 32 = omega (arith, l.block, l.unit) in
      (subst (λ (o : Option Live). number_of o < 2 ^ 32) (sym all.0.found) here, small ds all.1)

  -- At most 2^32 digests have an entry.
  pub few_entries : (test : Digest → Bool) → ((d : Digest) → test d ≡ true → (v : Version) × (entry s d ≡ Some v)) → count_by test (digests_of s.log) ≤ 2 ^ 32
  few_entries test some =
      let ds : List Digest = filter test (digests_of s.log) in
      let order = IsStrictlySortedBy-filter digest_cmp test (digests_of s.log) (logged_order s.log) in
      let all = all_kept (λ d. device_number shard.shelf.geometry.devices d ≡ shard.shelf.geometry.device) IsCopied test (digests_of s.log)
      (λ d own passes. let one = some d passes in copied d own one.0 one.1) agrees.sprigs.own in
      subst (λ (n : ℕ). n ≤ 2 ^ 32) (length-map ds number ∙ length-filter test (digests_of s.log)) (few (2 ^ 32) (map number ds) (apart ds order all) (small ds all))
