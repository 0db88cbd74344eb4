-- The end of a part leaves what is possible, and with one turn more a raid has still spared what it has to.
use Rattle.std.proofs.Common.{◌≡◌, ◌⊎◌, inl, inr, ℕ, Bool, true, false, List, refl, sym, ◌∙◌, ap, subst}
use Rattle.std.specs.Prelude.{Some, map, Contains}
use Rattle.disk_model.specs.Disk.{DiskView, Images}
use Rattle.rec_format.specs.declared.version.Digest.{Digest}
use Rattle.rec_format.specs.declared.version.Version.{Version}
use Rattle.rec_format.specs.Versions.{is_later}
use Rattle.model_device.specs.Book.{Setup, Buffer}
use Rattle.model_device.specs.Device.{State, history, entry}
use Rattle.block_format.specs.declared.geometry.Geometry.{Geometry}
use Rattle.block_format.specs.declared.geometry.Gate.{Gate}
use Rattle.write_buffer.specs.Buffers.{BufferState}
use Rattle.law_start.specs.Surviving.{IsPossible, HasNoOlder}
use Rattle.law_facts.specs.Facts.{Possible, NoneOlder}
use Rattle.law_trail.specs.Trail.{Records}
use Rattle.law_images.specs.Kept.{IsLeftIn, possible_in}
use Rattle.law_images.specs.Held.{loosened, IsKeptLoosened}
use Rattle.law_images.proofs.Living.{possible_somewhere}
use Rattle.law_images.proofs.Loosening.{loosened_has}
use Rattle.block_shelf.specs.View.{ShelfView, records_of, gate_at}
use Rattle.block_shelf.specs.Standing.{StandsFor, book_buffer}
use Rattle.block_shelf.specs.Scans.{possible_copies}
use Rattle.law_raid.specs.Exact.{RaidSpares, RaidLeavesNone}
use Rattle.law_raid.proofs.Spares.{none_fewer, none_same}

-- no copy is possible behind it that wasn't before it
module _ {D : Type 0} (view : D → DiskView) (old new : ShelfView D) (s t : State) (disk : new.disk ≡ old.disk) (gates : new.gates ≡ old.gates) (buffers : new.buffers ≡ old.buffers)
    (geometry : new.geometry ≡ old.geometry) (setup after : Setup) (stands : StandsFor setup old s) (stands_then : StandsFor after new t) where
  same_buffers : t.book.buffers ≡ s.book.buffers
  same_buffers = stands_then.buffers ∙ ap (map book_buffer) buffers ∙ sym stands.buffers

  pub none_comes : (block : ℕ) (digest : Digest) (v : Version) → possible_copies view new t block digest v → possible_copies view old s block digest v
  none_comes block digest v (inl waits) = inl (
    waits.0,
    record {
      placed = subst (λ (bs : List Buffer). Contains {X = ℕ × ℕ} (map (λ b. (b.number, b.block)) bs) (waits.0, block)) same_buffers waits.1.placed;
      has = subst (λ (bs : List BufferState). Contains {X = Digest × Version} (records_of bs waits.0) (digest, v)) buffers waits.1.has;
    },
  )
  none_comes block digest v (inr left) =
      inr (subst (λ (g : Geometry). IsLeftIn g (loosened g (gate_at old.gates) (view old.disk).may_leave) block digest v) geometry
      (subst (λ (gs : List Gate). IsLeftIn new.geometry (loosened new.geometry (gate_at gs) (view old.disk).may_leave) block digest v) gates
      (subst (λ (d : D). IsLeftIn new.geometry (loosened new.geometry (gate_at new.gates) (view d).may_leave) block digest v) disk left)))

-- What was spared before the end of a part, and is spared by it, is spared behind it.
pub spares_on : (first s t : State) (before now : Possible) → RaidSpares first before s → ((digest : Digest) → (history t digest ≡ history s digest) ⊎ NoneOlder s before digest)
    → ((block : ℕ) (digest : Digest) (v : Version) → now block digest v → before block digest v) → RaidSpares first now t
spares_on first s t before now spares ends fewer digest = by (spares digest) (ends digest)
  where
    by : (history s digest ≡ history first digest) ⊎ NoneOlder first before digest → (history t digest ≡ history s digest) ⊎ NoneOlder s before digest
        → (history t digest ≡ history first digest) ⊎ NoneOlder first now digest
    by (inr none) end = inr (none_fewer first before now digest (λ block. fewer block digest) none)
    by (inl same) (inl still) = inl (still ∙ same)
    by (inl same) (inr none) = inr (none_fewer first before now digest (λ block. fewer block digest) (none_same first s before digest same none))

-- So none is left of those copies that wait in a buffer of the state behind it, or that an image has.
module _ (setup : Setup) (g : Geometry) (s after : State) (records : Records) (gates : ℕ → Gate) (images : Images) (held : IsKeptLoosened setup g after records gates images) where
  among : (digest : Digest) (v : Version) → IsPossible setup after images digest v → IsPossible setup after (loosened g gates images) digest v
  among digest v (inl pending) = inl pending
  among digest v (inr stored) = inr (record {
    image = stored.image;
    is_left = loosened_has g gates images stored.image stored.is_left;
    shape = stored.shape;
    is_shape = stored.is_shape;
    bodies = stored.bodies;
    readable = stored.readable;
    copy = stored.copy;
  })

  pub none_left : (digest : Digest) → NoneOlder s (possible_in g after.book records (loosened g gates images)) digest → (e : Version) → entry s digest ≡ Some e → HasNoOlder setup after images digest e
  none_left digest none e top v is = by (is_later e v) refl
    where
      by : (b : Bool) → is_later e v ≡ b → b ≡ false
      by true later =
          let there = possible_somewhere setup g after records (loosened g gates images) digest v held (among digest v is) in
          absurd (none there.0 v (record { newer = e; top = top; may_come = there.1; later = later }))
      by false later = refl

  pub leaves_none : RaidSpares s (possible_in g after.book records (loosened g gates images)) after → RaidLeavesNone setup s after images
  leaves_none spares digest = by (spares digest)
    where
      by : (history after digest ≡ history s digest) ⊎ NoneOlder s (possible_in g after.book records (loosened g gates images)) digest
          → (history after digest ≡ history s digest) ⊎ ((e : Version) → entry s digest ≡ Some e → HasNoOlder setup after images digest e)
      by (inl same) = inl same
      by (inr none) = inr (none_left digest none)
