-- A copy is appended to a buffer that takes it.
use Rattle.std.proofs.Common.{◌≡◌, ◌≢◌, ℕ, ◌+◌, ◌*◌, ◌<◌, Bool, true, false, List, ◌∷◌, ◌++◌, map, refl, sym, ◌∙◌, ap, subst}
use Rattle.std.specs.Prelude.{Option, Some, None}
use Rattle.std.specs.List.{AllByRecursion}
use Rattle.std.proofs.lemmas.Bool.{cond-true, cond-false}
use Rattle.std.proofs.lemmas.List.{map-append}
use Rattle.law_lists.proofs.Between.{all_but_one}
use Rattle.law_lists.proofs.Each.{all_map, all_joined, all_parted}
use Rattle.disk_model.specs.Disk.{DiskView}
use Rattle.rec_format.specs.declared.version.Digest.{Digest}
use Rattle.rec_format.specs.declared.version.Version.{Version}
use Rattle.rec_format.specs.Versions.{version_units}
use Rattle.rec_format.specs.Places.{same_digest}
use Rattle.rec_format.proofs.Laws.{same_digest_refl, same_digest_is}
use Rattle.model_device.specs.Book.{Setup, Book, Live, live_of, without_live}
use Rattle.model_device.specs.Device.{State, entry}
use Rattle.block_format.specs.Layout.{IsRecordAt, body_bytes}
use Rattle.write_buffer.specs.Buffers.{BufferState, used_units, with_record}
use Rattle.block_shelf.specs.Lives.{LiveCopy, copies_in}
use Rattle.hold_book.specs.Holds.{HoldState}
use Rattle.defrag_queue.specs.Queues.{QueueState}
use Rattle.post_cache.specs.Bodies.{CacheState, kept_at}
use Rattle.post_cache.proofs.Laws.{absent-all}
use Rattle.law_trail.proofs.Books.{others_live}
use Rattle.block_shelf.specs.declared.place.Class.{Class}
use Rattle.block_shelf.specs.declared.place.Place.{Place}
use Rattle.block_shelf.specs.View.{ShelfView, IsShelf, IsLiveList, IsSetupOf, records_of, gate_at}
use Rattle.block_shelf.specs.Standing.{HasCopy, HasRecord, StandsBehind, StandsFor, IsPlaced, ImagesHold}
use Rattle.block_shelf.specs.Calls.{prior_live}
use Rattle.block_shelf.specs.Changes.{with_written}
use Rattle.block_shelf.specs.Appends.{IsCopyOf, IsExact, MayBeCopied, Puts}
use Rattle.block_shelf.proofs.Copied.{IsCopied, copied, is_copied, copied_holds}
use Rattle.block_shelf.proofs.Keeping.{have_copied}
use Rattle.block_shelf.proofs.OneRecord.{OneBuffer, OwnBlock, one_buffer, own_block}
use Rattle.block_shelf.proofs.Placed.{IsGone, replaces_from}
use Rattle.block_shelf.proofs.Readied.{new_live, after_live, book_is}
use Rattle.block_shelf.proofs.Requeued.{queue_behind, queue_after}
use Rattle.block_shelf.proofs.Taking.{IsTaker, with_buffers}
use Rattle.block_shelf.proofs.Written.{Holding, stands_after, stands_before, stands_last}

module _ {D : Type 0} (view : D → DiskView) (setup : Setup) (kind : Class) (s : State) (digest : Digest) (v : Version) (shelf : ShelfView D)
    (is : IsShelf view shelf) (stands : StandsFor setup shelf s) (setup_is : IsSetupOf setup shelf) (is_copy : IsCopyOf kind s digest v)
    {ready : Book} {free : List ℕ} {cache : CacheState BufferState} {next_number : ℕ} {front : List BufferState} {b : BufferState} {behind : List BufferState}
    (taker : IsTaker view setup kind s digest v shelf ready free cache next_number front b behind)
    (prior : Option Place) (live : live_of digest s.book.live ≡ prior_live digest prior)
    (lives : List (List LiveCopy)) (holds : HoldState) (gone : IsGone digest shelf.lives lives) (holding : Holding b.number (live_of digest s.book.live) shelf.holds.holds holds.holds) where
  abbrev t : State
  t = copied setup kind digest v s

  -- the shelf behind it, before the block of the copy before is considered, and then
  abbrev mid : ShelfView D
  mid = with_written digest v front b behind (record (with_buffers (front ++ b ∷ behind) free cache next_number shelf) { lives = lives; holds = holds })

  abbrev new : ShelfView D
  new = record mid { queue = queue_behind prior mid }

  made : IsCopied setup kind s digest v
  made = is_copied setup shelf s stands kind digest v is_copy

  one : OneBuffer (with_buffers (front ++ b ∷ behind) free cache next_number shelf) b
  one = one_buffer view (with_buffers (front ++ b ∷ behind) free cache next_number shelf) front b behind taker.is refl

  own : OwnBlock b.block front behind free
  own = own_block front b behind free taker.is.apart

  live_is : t.book.live ≡ new_live digest v b ∷ without_live digest s.book.live
  live_is = ap (λ (x : Book). x.live) made.book ∙ after_live digest v taker.readied

  live_here : live_of digest t.book.live ≡ Some (new_live digest v b)
  live_here = ap (live_of digest) live_is ∙ cond-true (same_digest digest digest) (Some (new_live digest v b)) (live_of digest (without_live digest s.book.live)) (same_digest_refl digest)

  live_there : (e : Digest) → same_digest e digest ≡ false → live_of e t.book.live ≡ live_of e s.book.live
  live_there e other = ap (live_of e) live_is
      ∙ cond-false (same_digest e digest) (Some (new_live digest v b)) (live_of e (without_live digest s.book.live)) other
      ∙ others_live digest e s.book.live other

  some_same : (l m : Live) → Some l ≡ Some m → l ≡ m
  some_same l m eq = cc

  some_version : (x y : Version) → Some x ≡ Some y → x ≡ y
  some_version x y eq = cc

  -- nothing is kept of its block
  unkept : AllByRecursion (λ k. k.block ≢ b.block) cache.kept
  unkept = absent-all b.block cache.kept
      (all_parted (λ n. kept_at n cache.kept ≡ None) (map (λ c. c.block) front) (b.block ∷ map (λ c. c.block) behind)
      (subst (AllByRecursion (λ n. kept_at n cache.kept ≡ None)) (map-append (λ (c : BufferState). c.block) front (b ∷ behind)) taker.is.cache.apart)).1.0

  -- the live copy of the digest is the new one
  here : (e : Digest) (l : Live) → same_digest e digest ≡ true → live_of e t.book.live ≡ Some l → new_live digest v b ≡ l
  here e l same is_live = some_same (new_live digest v b) l (sym live_here ∙ subst (λ (d : Digest). live_of d t.book.live ≡ Some l) (same_digest_is e digest same) is_live)

  placed_after : IsExact kind s digest v → IsPlaced view shelf s → IsPlaced view new t
  placed_after exact was = record {
    buffered = λ e l w is_live is_entry. stands_there e l w is_live is_entry (same_digest e digest) refl;
    there = λ e l w is_live is_entry none c image. lies e l w is_live is_entry none c image (same_digest e digest) refl;
    kept = have_copied HasRecord cache.kept s t digest (new_live digest v b) live_here unkept live_there made.entry_there placed.kept;
  }
    where
      placed : IsPlaced view (with_buffers (front ++ b ∷ behind) free cache next_number shelf) s
      placed = taker.placed was

      stands_there : (e : Digest) (l : Live) (w : Version) → live_of e t.book.live ≡ Some l → entry t e ≡ Some w → (x : Bool) → same_digest e digest ≡ x
          → AllByRecursion (λ c. c.block ≡ l.block → StandsBehind l.unit e w c.records) (front ++ with_record digest v b ∷ behind)
      stands_there e l w is_live is_entry true same =
          let name : digest ≡ e = sym (same_digest_is e digest same) in
          let written : v ≡ w = some_version v w (sym (made.entry_here ∙ ap (λ (x : Version). Some x) (made.exact exact)) ∙ ap (entry t) name ∙ is_entry) in
          subst (λ (m : Live). AllByRecursion (λ c. c.block ≡ m.block → StandsBehind m.unit e w c.records) (front ++ with_record digest v b ∷ behind)) (here e l same is_live)
          (subst (λ (d : Digest). AllByRecursion (λ c. c.block ≡ b.block → StandsBehind (used_units b) d w c.records) (front ++ with_record digest v b ∷ behind)) name
          (subst (λ (x : Version). AllByRecursion (λ c. c.block ≡ b.block → StandsBehind (used_units b) digest x c.records) (front ++ with_record digest v b ∷ behind)) written
          (all_joined (λ c. c.block ≡ b.block → StandsBehind (used_units b) digest v c.records) front (with_record digest v b ∷ behind) (others front own.front)
          ((λ at. stands_last b digest v), others behind own.behind))))
        where
          others : (bs : List BufferState) → AllByRecursion (λ c. c.block ≢ b.block) bs → AllByRecursion (λ c. c.block ≡ b.block → StandsBehind (used_units b) digest v c.records) bs
          others bs = all_map (λ c. c.block ≢ b.block) (λ c. c.block ≡ b.block → StandsBehind (used_units b) digest v c.records) bs (λ c ne at. absurd (ne at))
      stands_there e l w is_live is_entry false other =
          all_but_one (λ c. c.block ≡ l.block → StandsBehind l.unit e w c.records) (λ c. c.block ≡ l.block → StandsBehind l.unit e w c.records) front b (with_record digest v b) behind
          (placed.buffered e l w (sym (live_there e other) ∙ is_live) (sym (made.entry_there e other) ∙ is_entry)) (λ c h. h) (λ h at. stands_before l.unit e w b.records (digest, v) (h at))

      lies : (e : Digest) (l : Live) (w : Version) → live_of e t.book.live ≡ Some l → entry t e ≡ Some w → AllByRecursion (λ c. c.block ≢ l.block) (front ++ with_record digest v b ∷ behind)
          → (c : List ℕ) → (view shelf.disk).may_leave c
          → (x : Bool) → same_digest e digest ≡ x → IsRecordAt (body_bytes shelf.geometry l.block c) (32 + 16 * l.unit) e w
      lies e l w is_live is_entry none c image true same =
          absurd ((all_parted (λ x. x.block ≢ l.block) front (with_record digest v b ∷ behind) none).1.0 (ap (λ (x : Live). x.block) (here e l same is_live)))
      lies e l w is_live is_entry none c image false other =
          placed.there e l w (sym (live_there e other) ∙ is_live) (sym (made.entry_there e other) ∙ is_entry)
          (all_but_one (λ x. x.block ≢ l.block) (λ x. x.block ≢ l.block) front (with_record digest v b) b behind none (λ x ne. ne) (λ ne. ne)) c image

  safe_after : MayBeCopied setup kind s digest v → ImagesHold setup view shelf s → ImagesHold setup view new t
  safe_after may safe =
      copied_holds setup shelf s stands kind digest v is_copy shelf.geometry (records_of shelf.buffers) (records_of (front ++ with_record digest v b ∷ behind)) (gate_at shelf.gates)
      (view shelf.disk).may_leave
      safe may taker.appends taker.shut

  stand_then : (x : QueueState) → StandsFor setup (record mid { queue = x }) t
  stand_then x =
      stands_after made shelf (record mid { queue = x }) taker.readied stands taker.appends refl
      (replaces_from digest shelf.lives lives b.block _ (subst (λ (n : ℕ). b.block < n) (sym is.lives) one.is.block) gone) holding taker.entries one.is.block taker.room (own.front, own.behind)
      (have_copied HasCopy cache.kept s t digest (new_live digest v b) live_here unkept live_there made.entry_there taker.kept)

  pub puts : ((k : ℕ) → IsLiveList (copies_in k mid.lives)) → Puts view setup kind digest v shelf s new (record { block = b.block; unit = used_units b; units = version_units v })
  puts each = record {
    live = live_here;
    stands = stand_then (queue_behind prior mid);
    queued = queue_after view digest v taker.readied t (made.book ∙ book_is digest v taker.readied) shelf mid new refl made.marks is stands setup_is refl (stand_then mid.queue) each prior live refl;
    placed = placed_after;
    safe = safe_after;
  }
