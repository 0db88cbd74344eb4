-- What a look in memory gives is what a get answers, and changes nothing.
use Rattle.std.proofs.Common.{◌≡◌, ◌≢◌, ℕ, Ok, refl, sym, ◌∙◌, ap, subst}
use Rattle.std.specs.Prelude.{IfErr, Result, Some}
use Rattle.std.specs.List.{AllByRecursion}
use Rattle.std.proofs.Math.Nat.{le_refl}
use Rattle.rec_format.specs.declared.version.Digest.{Digest}
use Rattle.rec_format.specs.declared.version.Version.{Version}
use Rattle.rec_format.specs.declared.entry.Entry.{Entry}
use Rattle.model_device.specs.Book.{Setup}
use Rattle.model_device.specs.Device as device
use Rattle.model_device.specs.Device.{State, part_of}
use Rattle.model_device.specs.Events.{get_call}
use Rattle.disk_model.specs.Disk.{DiskView, IsDisk, IsHonest}
use Rattle.disk_model.specs.Runs.{leaves_none}
use Rattle.expiry_rule.specs.Seen.{seen_entry}
use Rattle.sprig_tree.specs.Entries.{entry_of}
use Rattle.sprig_tree.specs.State.{SprigState}
use Rattle.block_shelf.specs.declared.place.Place.{Place}
use Rattle.block_shelf.specs.declared.refusals.ReadRefusal.{ReadRefusal}
use Rattle.block_shelf.specs.declared.refusals.ReadRefusal.TheVariants as read
use Rattle.block_shelf.specs.Disks.{OnlyRead}
use Rattle.block_shelf.specs.View.{ShelfView}
use Rattle.block_shelf.specs.Reads.{HasRead, IsLookedUp, IsUndamaged, copy_bytes}
use Rattle.block_shelf.specs.Standing.{IsPlaced}
use Rattle.law_steps.specs.Sprigs.{place_of}
use Rattle.law_steps.specs.Standing.{StandTogether}
use Rattle.law_steps.specs.Events.{StepMakes}
use Rattle.shard_core.specs.Calls.{ReadsStored, read_answer}
use Rattle.shard_core.proofs.Found.{SeenIs, seen_some}
use Rattle.shard_core.proofs.Getting.{LiveIs, live_is, makes_read, seen_held, shown, shown_copy, shown_err, shown_got, shown_is}

module _ {D : Type 0} (view : D → DiskView) where
  -- a disk that isn't called is only read
  pub only_same : (disk : D) → IsDisk (view disk) → OnlyRead (view disk) (view disk)
  only_same disk is_disk = record {
    time = (leaves_none (view disk).may_leave (view disk) is_disk (λ image left. left)).time;
    later = le_refl (view disk).faults;
    size = refl;
    bytes = λ told. (told, refl);
    honest = λ honest. honest;
    was_honest = λ honest. honest;
    was_told = λ told. told;
    images = λ honest image left. is_disk.now_alone image left;
  }

  -- the entry that a look-up finds, and its place
  module _ (setup : Setup) (digest : Digest) (sprig : SprigState) (shelf : ShelfView D) (now : ℕ) (e : Entry) (place : Place)
      (seen : seen_entry now (entry_of digest sprig.entries) ≡ Some e) (at : place ≡ place_of e) where
    abbrev Stands : State → Type 0
    Stands s = StandTogether setup (part_of setup digest) sprig shelf s

    pub seen_is : (s : State) → Stands s → SeenIs s now digest sprig.entries e
    seen_is s stand = seen_some setup s now digest sprig stand.sprig_stands e seen

    pub live_here : (s : State) (stand : Stands s) → LiveIs view setup digest sprig shelf shelf s now stand e (seen_is s stand).version place
    live_here s stand = live_is view setup digest sprig shelf shelf s now stand e place (seen_is s stand) at

    -- a buffer of its block is one of the place's
    pub block_here : (x : Entry) (block : ℕ) → entry_of digest sprig.entries ≡ Some x → block ≡ x.block → block ≡ place.block
    block_here x block found is =
        let one : Some x ≡ Some e = sym found ∙ seen_held now (entry_of digest sprig.entries) e seen in
        let same : x ≡ e = cc in
        is ∙ ap (λ (y : Entry). y.block) same ∙ sym (ap (λ (p : Place). p.block) at)

    -- what was read as the copy at the place
    module _ (result : Result Version ReadRefusal) (looked : IsLookedUp view place e shelf result) where
      pub looked_undamaged : IsHonest (view shelf.disk) → (s : State) → Stands s → IsPlaced view shelf s → IfErr (shown result) IsUndamaged
      looked_undamaged honest s stand placed =
          let is = seen_is s stand in
          let live = live_here s stand in
          shown_err (λ v. v ≡ is.version) IsUndamaged result (looked.written honest setup s is.version stand.shelf_stands.stands placed live.live live.entry_is is.names)

      pub looked_stored : ReadsStored view Stands (entry_of digest sprig.entries) shelf digest now (shown result)
      looked_stored = record {
        remembered = λ s stand x b found there block client.
            let is = seen_is s stand in
            let live = live_here s stand in
            shown_is (device.seen s now digest) is.version b.stream (λ refusal. refusal ≡ read.Memory) result client is.seen
            (looked.in_memory setup s is.version b stand.shelf_stands.stands live.live live.entry_is is.names there (block_here x b.block found block));
        copied = λ s stand w sees x b found there block.
            let is = seen_is s stand in
            let live = live_here s stand in
            shown_copy (device.seen s now digest) is.version w b.stream (λ refusal. refusal ≡ read.Memory) result is.seen sees
            (looked.in_memory setup s is.version b stand.shelf_stands.stands live.live live.entry_is is.names there (block_here x b.block found block));
        placed = λ told x is none.
            let one : Some x ≡ Some e = sym is ∙ seen in
            let same : x ≡ e = cc in
            let here : place ≡ place_of x = at ∙ ap place_of (sym same) in
            let bytes = (view shelf.disk).seen in
            shown_got x (copy_bytes shelf.geometry (place_of x) bytes) result
            (subst (λ (p : Place). HasRead x (copy_bytes shelf.geometry p bytes) result) here
            (subst (λ (y : Entry). HasRead y (copy_bytes shelf.geometry place bytes) result) (sym same)
            (looked.read told (subst (λ (block : ℕ). AllByRecursion (λ b. b.block ≢ block) shelf.buffers) (sym (ap (λ (p : Place). p.block) here)) none))));
      }

    -- where nothing is called, it is a get that changes nothing
    pub looked_makes : (v : Version) → IsLookedUp view place e shelf (Ok v) → IsDisk (view shelf.disk) → (s : State) → Stands s
        → StepMakes view setup (part_of setup digest) (get_call digest now) (read_answer (Ok (Some v))) shelf s sprig shelf
    looked_makes v looked is_disk s stand =
        let is = seen_is s stand in
        let live = live_here s stand in
        makes_read view setup digest sprig shelf shelf s now stand e is (Ok v) refl (only_same shelf.disk is_disk) is_disk looked.names tt
        (λ honest placed. looked.written honest setup s is.version stand.shelf_stands.stands placed live.live live.entry_is is.names)
