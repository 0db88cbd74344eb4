-- A scan of a block does what its parts promise: a pending block is read from memory, an unsure gate is closed, and any other block is read from
-- the disk.
use Rattle.std.proofs.Common.{◌≡◌, ◌≢◌, ◌<◌, inl, inr, ℕ, Bool, true, false, List, [], Result, Ok, Err, refl, sym, ◌∙◌, ap, subst}
use Rattle.std.specs.Prelude.{Contains, MatchResult, IfErr, slice_set}
use Rattle.std.specs.List.{AllByRecursion}
use Rattle.std.proofs.lemmas.List.{set-get_or}
use Rattle.std.proofs.lemmas.Result.{MatchResult-weaker}
use Rattle.law_lists.proofs.Answers.{only_err}
use Rattle.law_lists.proofs.Each.{all_at}
use Rattle.model_faults.specs.Counts.{Rose}
use Rattle.disk_model.specs.Disk.{DiskView, IsDisk, IsHonest, Within}
use Rattle.model_device.specs.Book.{Setup}
use Rattle.model_device.specs.Device.{State}
use Rattle.block_format.specs.declared.geometry.Found.{Found}
use Rattle.block_format.specs.declared.geometry.Gate.{Gate}
use Rattle.block_format.specs.declared.geometry.Gate.TheVariants.{Shut, Set, Unsure}
use Rattle.block_format.specs.Layout.{body_bytes}
use Rattle.write_buffer.specs.Buffers.{BufferState}
use Rattle.raid_book.specs.Books.{BookState, with_scan}
use Rattle.block_shelf.specs.declared.refusals.VacateRefusal.{VacateRefusal}
use Rattle.block_shelf.specs.declared.refusals.VacateRefusal.TheVariants.{Memory, Fault}
use Rattle.block_shelf.specs.View.{ShelfView, IsShelf, IsSetupOf, gate_at}
use Rattle.block_shelf.specs.Disks.{IsLater, OnlyRead}
use Rattle.block_shelf.specs.Standing.{StandsFor, BooksStand, ImagesHold}
use Rattle.block_shelf.specs.Calls.{Goes}
use Rattle.block_shelf.specs.Heals.{ClosesUnsure}
use Rattle.block_shelf.specs.Scans.{ClosesAtMost, ReadsBlock, ReadsIn, ScansIn, ReadsAll, ReadsBody, FindsBody, NeedsRead, IsDamageOf, IsOfBlock, IsRefusalOf, IsToldOf, IsSound, Scans}
use Rattle.block_shelf.proofs.Going.{goes_none}
use Rattle.block_shelf.proofs.Looking.{goes_read}
use Rattle.block_shelf.proofs.ReadOnly.{shelf_read}
use Rattle.block_shelf.proofs.Roomed.{later_none}
use Rattle.block_shelf.proofs.ScanBlocks.{only_set, refusal_damage, set_reads, set_sound, shut_reads, told_at, unhurt, untold}

gates_differ : Unsure ≢ Shut
gates_differ same = cc

refusals_differ : Memory ≢ Fault
refusals_differ same = cc

pub no_error : {A E : Type 0} (a : A) (e : E) → Ok a ≡ Err e → ⊥
no_error a e same = cc

same_error : {A E : Type 0} (a b : Result A E) (e f : E) → a ≡ Err e → b ≡ Err f → a ≡ b → e ≡ f
same_error a b e f is_e is_f same = cc

-- a gate is unsure, or it isn't
gate_unsure : (gate : Gate) (P : Type 0) → (gate ≡ Unsure → P) → (gate ≢ Unsure → P) → P
gate_unsure Shut P is other = other (λ same. gates_differ (sym same))
gate_unsure Set P is other = other (λ same. let clash : Set ≡ Unsure = same in cc)
gate_unsure Unsure P is other = is refl

none_has : (buffers : List BufferState) (block : ℕ) (b : BufferState) → AllByRecursion (λ b. b.block ≢ block) buffers → Contains buffers b → b.block ≡ block → ⊥
none_has buffers block b none there at = all_at (λ (b : BufferState). b.block ≢ block) buffers b none there at

module _ {D : Type 0} (view : D → DiskView) (is_disk : (disk : D) → IsDisk (view disk)) (block : ℕ) (old : ShelfView D) where
  -- ---- the gate

  pub no_close : {E : Type 0} → gate_at old.gates block ≢ Unsure → IsShelf view old → ClosesUnsure {E = E} view block old old (Ok false)
  no_close sure is = record {
    goes = λ setup s stands. goes_none view setup old s (is_disk old.disk) stands;
    quiet = λ other. (refl, refl);
    sure = sure;
    rest = refl;
    shut = λ unsure. absurd (sure unsure);
    known = λ unsure. absurd (sure unsure);
    whole = is;
    cause = tt;
    later = later_none (view old.disk) (is_disk old.disk);
    honest = λ honest. honest;
  }

  module _ (unsure : gate_at old.gates block ≡ Unsure) (disk : D) (gates : List Gate) (is : IsShelf view (record old { disk = disk; gates = gates }))
      (goes : (setup : Setup) (s : State) → StandsFor setup old s → Goes view setup [] old s (record old { disk = disk; gates = gates }))
      (later : IsLater (view old.disk) (view disk)) (honest : IsHonest (view old.disk) → IsHonest (view disk)) where
    abbrev closed : ShelfView D
    closed = record old { disk = disk; gates = gates }

    pub closes : {E : Type 0} → gate_at gates block ≡ Shut → gates ≡ slice_set old.gates block Shut → ClosesUnsure {E = E} view block old closed (Ok true)
    closes shut set = record {
      goes = goes;
      quiet = λ sure. absurd (sure unsure);
      sure = λ same. gates_differ (sym same ∙ shut);
      rest = refl;
      shut = λ was. shut;
      known = λ was. (refl, set);
      whole = is;
      cause = tt;
      later = later;
      honest = honest;
    }

    pub fails_to_close : {E : Type 0} → (e : E) → gates ≡ slice_set old.gates block Unsure → Rose (view old.disk).faults (view disk).faults → ClosesUnsure view block old closed (Err e)
    fails_to_close e set rose = record {
      goes = goes;
      quiet = λ sure. absurd (sure unsure);
      sure = tt;
      rest = refl;
      shut = λ was. tt;
      known = λ was. set ∙ ap (slice_set old.gates block) (sym was) ∙ set-get_or old.gates block Shut;
      whole = is;
      cause = rose;
      later = later;
      honest = honest;
    }

  -- at most that gate is closed
  closes_most : {E : Type 0} (mid : ShelfView D) (result : Result Bool E) → ClosesUnsure view block old mid result → ClosesAtMost block old mid
  closes_most {E} mid result closing =
      gate_unsure (gate_at old.gates block) (ClosesAtMost block old mid) (λ unsure. by result unsure (closing.known unsure)) (λ sure. inl (ap (λ (v : ShelfView D). v.gates) (closing.quiet sure).1))
    where
      by : (r : Result Bool E) → gate_at old.gates block ≡ Unsure → MatchResult r (λ closed. (closed ≡ true) × (mid.gates ≡ slice_set old.gates block Shut)) (λ fault. mid.gates ≡ old.gates)
          → ClosesAtMost block old mid
      by (Ok closed) unsure is = inr (unsure, is.1)
      by (Err e) unsure is = inl is

  -- ---- the records

  module _ {A : Type 0} (heads : A → List Found) where
    -- of a buffer: nothing is called
    pub reads_memory : (result : Result A VacateRefusal) → result ≢ Err Fault
        → ((setup : Setup) (s : State) → IsHonest (view old.disk) → StandsFor setup old s → ImagesHold setup view old s → MatchResult result (λ found. ReadsAll view old s block (heads found)) IsSound)
        → IfErr result IsSound → (b : BufferState) → Contains old.buffers b → b.block ≡ block → ReadsIn view block old old heads result
    reads_memory result unfailed all sound b there at = record {
      goes = λ setup s stands. goes_none view setup old s (is_disk old.disk) stands;
      all = all;
      waiting = λ b there at. refl;
      gates = inl refl;
      sure = λ sure. refl;
      fewer = λ sure honest c image. image;
      damaged = λ told. unhurt old.geometry (body_bytes old.geometry block (view old.disk).seen) block result sound;
      told = untold old block result sound;
      there = λ told needs. absurd (none_has old.buffers block b needs.unbuffered there at);
      rest = refl;
      cause = λ same. absurd (unfailed same);
      later = later_none (view old.disk) (is_disk old.disk);
      honest = λ honest. honest;
    }

    module _ (lt : block < old.geometry.blocks) (none : AllByRecursion (λ b. b.block ≢ block) old.buffers) (mid : ShelfView D) where
      pub reads_unclosed : {E : Type 0} → (e : E) → ClosesUnsure view block old mid (Err e) → ReadsIn view block old mid heads (Err Fault)
      reads_unclosed e closing = record {
        goes = closing.goes;
        all = λ setup s honest stands safe. tt;
        waiting = λ b there at. absurd (none_has old.buffers block b none there at);
        gates = closes_most mid (Err e) closing;
        sure = λ sure. absurd (no_error false e (sym (closing.quiet sure).0));
        fewer = λ sure. absurd (no_error false e (sym (closing.quiet sure).0));
        damaged = λ told. tt;
        told = tt;
        there = λ told needs. tt;
        rest = closing.rest;
        cause = λ same. closing.cause;
        later = closing.later;
        honest = closing.honest;
      }

      module _ {E : Type 0} (was_unsure : Bool) (closing : ClosesUnsure {E = E} view block old mid (Ok was_unsure)) where
        lt_mid : block < mid.geometry.blocks
        lt_mid = subst (λ (v : ShelfView D). block < v.geometry.blocks) (sym closing.rest) lt

        none_mid : AllByRecursion (λ b. b.block ≢ block) mid.buffers
        none_mid = subst (λ (v : ShelfView D). AllByRecursion (λ b. b.block ≢ block) v.buffers) (sym closing.rest) none

        -- a gate that was set is set yet
        still_set : NeedsRead old block → gate_at mid.gates block ≡ Shut → ⊥
        still_set needs shut =
            let stays : mid ≡ old = (closing.quiet (λ unsure. let clash : Set ≡ Unsure = sym needs.set ∙ unsure in cc)).1 in
            let clash : Set ≡ Shut = sym needs.set ∙ ap (λ (v : ShelfView D). gate_at v.gates block) (sym stays) ∙ shut in
            cc

        -- of a block whose gate is shut
        pub reads_shut : gate_at mid.gates block ≡ Shut → (found : A) → heads found ≡ [] → ReadsIn view block old mid heads (Ok found)
        reads_shut shut found empty = record {
          goes = closing.goes;
          all = λ setup s honest stands safe.
              let went = closing.goes setup s stands in
              subst (ReadsAll view mid s block) (sym empty) (shut_reads view setup mid s closing.whole went.stands (closing.honest honest) (went.safe honest safe) block lt_mid none_mid shut);
          waiting = λ b there at. absurd (none_has old.buffers block b none there at);
          gates = closes_most mid (Ok was_unsure) closing;
          sure = λ sure. ap (λ (v : ShelfView D). v.gates) (closing.quiet sure).1;
          fewer = λ sure honest. subst (λ (v : ShelfView D). Within (view old.disk).may_leave (view v.disk).may_leave) (sym (closing.quiet sure).1) (λ c image. image);
          damaged = λ told. tt;
          told = tt;
          there = λ told needs. absurd (still_set needs shut);
          rest = closing.rest;
          cause = λ same. absurd (no_error found Fault same);
          later = closing.later;
          honest = closing.honest;
        }

        -- of any other: its gate wasn't unsure
        module _ (open_gate : gate_at mid.gates block ≢ Shut) where
          stayed : mid ≡ old
          stayed = gate_unsure (gate_at old.gates block) (mid ≡ old) (λ unsure. absurd (open_gate (closing.shut unsure))) (λ sure. (closing.quiet sure).1)

          pub reads_disk : (new : ShelfView D) (result : Result A VacateRefusal)
              → ((view mid.disk).tells → let bytes = body_bytes mid.geometry block (view mid.disk).seen in MatchResult result (λ found. ReadsBody mid.geometry bytes block (heads found))
              (IsRefusalOf mid.geometry bytes block))
              → IfErr result (IsOfBlock block) → (result ≡ Err Fault → Rose (view mid.disk).faults (view new.disk).faults) → OnlyRead (view mid.disk) (view new.disk) → IsShelf view new
              → new ≡ record mid { disk = new.disk } → ReadsIn view block old new heads result
          reads_disk new result read of_block cause only whole same =
              let was = λ (P : ShelfView D → Type 0) (p : P mid). subst P stayed p in
              let set : gate_at old.gates block ≡ Set = was (λ (v : ShelfView D). gate_at v.gates block ≡ Set) (only_set (gate_at mid.gates block) open_gate closing.sure) in
              let is : IsShelf view old = was (IsShelf view) closing.whole in
              let read_old : (view old.disk).tells → MatchResult result (λ found. ReadsBody old.geometry (body_bytes old.geometry block (view old.disk).seen) block (heads found))
              (IsRefusalOf old.geometry (body_bytes old.geometry block (view old.disk).seen) block) =
              was (λ (v : ShelfView D). (view v.disk).tells → MatchResult result (λ found. ReadsBody v.geometry (body_bytes v.geometry block (view v.disk).seen) block (heads found))
              (IsRefusalOf v.geometry (body_bytes v.geometry block (view v.disk).seen) block)) read in
              let only_old : OnlyRead (view old.disk) (view new.disk) = was (λ (v : ShelfView D). OnlyRead (view v.disk) (view new.disk)) only in
              let same_old : new ≡ record old { disk = new.disk } = was (λ (v : ShelfView D). new ≡ record v { disk = new.disk }) same in
              let rose : result ≡ Err Fault → Rose (view old.disk).faults (view new.disk).faults =
              was (λ (v : ShelfView D). result ≡ Err Fault → Rose (view v.disk).faults (view new.disk).faults) cause in
              by_old new result read_old (told_at old block result (record { unbuffered = none; set = set }) of_block) rose only_old whole same_old is set
            where
              by_old : (new : ShelfView D) (result : Result A VacateRefusal)
                  → ((view old.disk).tells → MatchResult result (λ found. ReadsBody old.geometry (body_bytes old.geometry block (view old.disk).seen) block (heads found))
                  (IsRefusalOf old.geometry (body_bytes old.geometry block (view old.disk).seen) block))
                  → IfErr result (IsToldOf old block) → (result ≡ Err Fault → Rose (view old.disk).faults (view new.disk).faults) → OnlyRead (view old.disk) (view new.disk) → IsShelf view new
                  → new ≡ record old { disk = new.disk } → IsShelf view old → gate_at old.gates block ≡ Set
                  → ReadsIn view block old new heads result
              by_old new result read told_here cause only whole same is set = record {
                goes = λ setup s stands. goes_read view setup old new s same only (is_disk new.disk) stands;
                all = λ setup s honest stands safe.
                    let here : ShelfView D = record old { disk = new.disk } in
                    let here_is : IsShelf view here = subst (IsShelf view) same whole in
                    let looked : Goes view setup [] old s here = goes_read view setup old here s refl only (is_disk new.disk) stands in
                    let told = only.bytes honest.told in
                    MatchResult-weaker result (read honest.told)
                    (λ found reads. subst (λ (v : ShelfView D). ReadsAll view v s block (heads found)) (sym same)
                    (set_reads view setup here s here_is looked.stands (only.honest honest) (looked.safe honest safe) block lt none set (heads found)
                    (subst (λ (l : List ℕ). ReadsBody old.geometry (body_bytes old.geometry block l) block (heads found)) (sym told.1) reads)))
                    (λ refusal is_refusal. set_sound view setup old s is stands honest safe block lt none set refusal
                    (refusal_damage old.geometry (body_bytes old.geometry block (view old.disk).seen) block refusal is_refusal));
                waiting = λ b there at. absurd (none_has old.buffers block b none there at);
                gates = inl (ap (λ (v : ShelfView D). v.gates) same);
                sure = λ sure. ap (λ (v : ShelfView D). v.gates) same;
                fewer = λ sure honest c image. only.images honest c ((is_disk new.disk).now_since (view old.disk).moment c (only.time.stays (view old.disk).moment only.time.started) image);
                damaged = λ told. only_err (λ found. ReadsBody old.geometry (body_bytes old.geometry block (view old.disk).seen) block (heads found))
                    (IsRefusalOf old.geometry (body_bytes old.geometry block (view old.disk).seen) block)
                    (IsDamageOf old.geometry (body_bytes old.geometry block (view old.disk).seen) block) result
                    (refusal_damage old.geometry (body_bytes old.geometry block (view old.disk).seen) block) (read told);
                told = told_here;
                there = λ told needs. read told;
                rest = same ∙ ap (λ (l : List Gate). record old { disk = new.disk; gates = l }) (sym (ap (λ (v : ShelfView D). v.gates) same));
                cause = cause;
                later = record { time = only.time; count = only.later; size = only.size };
                honest = only.honest;
              }

  -- ---- the raid's book stays

  module _ {A : Type 0} (heads : A → List Found) (new : ShelfView D) where
    pub unread : (e : VacateRefusal) → ReadsIn view block old new heads (Err e) → ScansIn view block old new (Err e)
    unread e reads = record {
      scanned = λ setup s is stands books. reads.goes setup s stands;
      turned = tt;
      same = ap (λ (v : ShelfView D). v.raid) reads.rest;
      waiting = reads.waiting;
      gates = reads.gates;
      sure = reads.sure;
      fewer = reads.fewer;
      damaged = reads.damaged;
      told = reads.told;
      there = reads.there;
      sound = reads.all;
      rest = reads.rest ∙ ap (λ (v : ShelfView D). record old { disk = new.disk; gates = new.gates; raid = v.raid }) (sym reads.rest);
      cause = λ same. reads.cause (ap Err (same_error (Err e) (Err Fault) e Fault refl refl same));
      later = reads.later;
      honest = reads.honest;
    }

    pub wanting_memory : (found : A) → ReadsIn view block old new heads (Ok found) → ScansIn view block old new (Err Memory)
    wanting_memory found reads = record {
      scanned = λ setup s is stands books. reads.goes setup s stands;
      turned = tt;
      same = ap (λ (v : ShelfView D). v.raid) reads.rest;
      waiting = reads.waiting;
      gates = reads.gates;
      sure = reads.sure;
      fewer = reads.fewer;
      damaged = λ told. tt;
      told = tt;
      there = λ told needs. let is = reads.there told needs in (is.body, is.is_body, is.placed);
      sound = λ setup s honest stands safe. tt;
      rest = reads.rest ∙ ap (λ (v : ShelfView D). record old { disk = new.disk; gates = new.gates; raid = v.raid }) (sym reads.rest);
      cause = λ same. absurd (refusals_differ (same_error (Err Memory) (Err Fault) Memory Fault refl refl same));
      later = reads.later;
      honest = reads.honest;
    }

    pub reads_at : (here : ShelfView D) (result : Result A VacateRefusal) → new ≡ here → ReadsIn view block old new heads result → ReadsIn view block old here heads result
    reads_at here result is reads = subst (λ (v : ShelfView D). ReadsIn view block old v heads result) is reads

    -- or takes what was found
    pub taken_in : (found : A) (raid : BookState) → ReadsIn view block old new heads (Ok found) → raid ≡ with_scan raid.found old.raid
        → ((bytes : List ℕ) → ReadsBody old.geometry bytes block (heads found) → FindsBody old.geometry old.limits.sprigs bytes block raid)
        → ((setup : Setup) (s : State) → IsSetupOf setup old → StandsFor setup old s → BooksStand setup old s → Scans view setup block old s (record new { raid = raid }))
        → ScansIn view block old (record new { raid = raid }) (Ok tt)
    taken_in found raid reads turned finds scanned = record {
      scanned = scanned;
      turned = turned;
      same = tt;
      waiting = reads.waiting;
      gates = reads.gates;
      sure = reads.sure;
      fewer = reads.fewer;
      damaged = λ told. tt;
      told = tt;
      there = λ told needs. finds (body_bytes old.geometry block (view old.disk).seen) (reads.there told needs);
      sound = λ setup s honest stands safe. tt;
      rest = ap (λ (v : ShelfView D). record v { raid = raid }) reads.rest;
      cause = λ same. absurd (no_error tt Fault same);
      later = reads.later;
      honest = reads.honest;
    }

  -- ---- the disk

  module _ {A : Type 0} (heads : A → List Found) (is : IsShelf view old) where
    pub block_read : (disk : D) → OnlyRead (view old.disk) (view disk) → (result : Result A VacateRefusal)
        → ((view old.disk).tells → let bytes = body_bytes old.geometry block (view old.disk).seen in MatchResult result (λ found. ReadsBody old.geometry bytes block (heads found))
        (IsRefusalOf old.geometry bytes block))
        → IfErr result (IsOfBlock block) → (result ≡ Err Fault → Rose (view old.disk).faults (view disk).faults) → ReadsBlock view block old (record old { disk = disk }) heads result
    block_read disk only result read of_block cause = record {
      read = read;
      of_block = of_block;
      cause = cause;
      disk = only;
      whole = shelf_read view is_disk old disk is only;
      same = refl;
    }

-- the shelf before is the same
pub block_of : {D A : Type 0} (was old : ShelfView D) → was ≡ old → (view : D → DiskView) (block : ℕ) (disk : D) (heads : A → List Found) (result : Result A VacateRefusal)
    → ReadsBlock view block was (record was { disk = disk }) heads result → ReadsBlock view block old (record was { disk = disk }) heads result
block_of {D} was old same view block disk heads result reads = subst (λ (v : ShelfView D). ReadsBlock view block v (record was { disk = disk }) heads result) same reads
