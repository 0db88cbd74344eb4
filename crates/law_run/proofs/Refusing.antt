-- Where a disk wasn't taken into use at the start of a run: its end has its cause, and the disks were read alone.
use native.Mathlib.Omega.{arith}
use Rattle.std.proofs.Common.{◌≡◌, ℕ, zero, suc, ◌+◌, ◌<◌, ◌≤◌, List, [], ◌∷◌, length, refl, sym, subst}
use Rattle.std.specs.Prelude.{Option, Some, None, MatchOption, slice_get}
use Rattle.std.proofs.lemmas.List.{length-map}
use Rattle.disk_model.specs.Disk.{DiskView, IsDisk}
use Rattle.block_format.specs.Refusals.{Refusal, IsRefusedFor, not_formatted, other_shape, damaged_block}
use Rattle.cold_scan.specs.declared.header.Asked.{Asked}
use Rattle.cold_scan.specs.declared.header.StartCause.{StartCause}
use Rattle.cold_scan.specs.declared.header.StartCause.TheVariants as why
use Rattle.cold_scan.specs.Starting.{IsRefused, IsByBytes, FaultRose}
use Rattle.shard_core.specs.declared.settings.Settings.{Settings}
use Rattle.model_node.specs.declared.run_end.RunEnd.{RunEnd}
use Rattle.model_node.specs.Outside.{RoseOn}
use Rattle.model_node.specs.RunEnd.{IsRefusedOn, HasStartCause}
use Rattle.core_run.specs.Views.{asked, faults_of}
use Rattle.core_run.specs.Starts.{RefusesAt}
use Rattle.law_run.specs.Concluding.{refusal_end}
use Rattle.law_run.specs.Promises.{Ends, ReadAlone, reads_of, IsSettledOn, SettlesRefused, NeverServed, disks_between}
use Rattle.law_run.proofs.Starting.{tells_at}
use Rattle.law_run.proofs.Disks.{read_alone_none}

some_more : {A : Type 0} (P Q : A → Type 0) (item : Option A) → ((x : A) → P x → Q x) → MatchOption item ⊥ P → MatchOption item ⊥ Q
some_more P Q None more is = absurd is
some_more P Q (Some x) more is = more x is

one_on : (device place n : ℕ) → n ≡ device + suc place → n ≡ (device + 1) + place
one_on device place n is = omega (arith, is)

none_below : (k : ℕ) → suc k ≤ 0 → ⊥
none_below k le = omega (arith, le)

less_both : (k n : ℕ) → suc k ≤ suc n → k ≤ n
less_both k n le = omega (arith, le)

behind_one : (place n : ℕ) → place < n → suc place < suc n
behind_one place n is = omega (arith, is)

-- what a disk is refused for, where this is its number, and how many there are
abbrev refused_one : (device devices : ℕ) (cause : StartCause) (refusal : Refusal) → Type 0
refused_one device devices cause refusal = (bytes : List ℕ) → IsRefused (asked device devices) bytes cause → IsRefusedFor device devices bytes refusal

module _ {D : Type 0} (view : D → DiskView) (set : Settings) where
  refused_there : (place device devices : ℕ) (cause : StartCause) (old new : List D) → RefusesAt view set place device devices cause old new → place < length old
  refused_there place device devices cause [] new refuses = absurd refuses
  refused_there place device devices cause (x ∷ old) [] refuses = absurd refuses
  refused_there zero device devices cause (x ∷ old) (y ∷ new) refuses = omega arith
  refused_there (suc place) device devices cause (x ∷ old) (y ∷ new) refuses = behind_one place (length old) (refused_there place (device + 1) devices cause old new refuses.1)

  -- the bytes of the disk that was refused
  refused_bytes : (place device devices n : ℕ) (cause : StartCause) (old new : List D) → n ≡ device + place → RefusesAt view set place device devices cause old new → tells_at view old place
      → MatchOption (slice_get (reads_of view old) place) ⊥ (λ (bytes : List ℕ). IsRefused (asked n devices) bytes cause)
  refused_bytes place device devices n cause [] new is refuses tells = absurd refuses
  refused_bytes place device devices n cause (x ∷ old) [] is refuses tells = absurd refuses
  refused_bytes zero device devices n cause (x ∷ old) (y ∷ new) is refuses tells =
      let same : device ≡ n = omega (arith, is) in
      subst (λ (k : ℕ). IsRefused (asked k devices) (view x).seen cause) same (refuses.0.bytes tells)
  refused_bytes (suc place) device devices n cause (x ∷ old) (y ∷ new) is refuses tells =
      refused_bytes place (device + 1) devices n cause old new (one_on device place n is) refuses.1 tells

  -- where it failed, its count rose
  refused_rose : (place device devices : ℕ) (cause : StartCause) (old new : List D) → cause ≡ why.Fault → RefusesAt view set place device devices cause old new
      → RoseOn place (faults_of view old) (faults_of view new)
  refused_rose place device devices cause [] new is refuses = absurd refuses
  refused_rose place device devices cause (x ∷ old) [] is refuses = absurd refuses
  refused_rose zero device devices cause (x ∷ old) (y ∷ new) is refuses = subst (λ (c : StartCause). FaultRose c (view x).faults (view y).faults) is refuses.0.rose
  refused_rose (suc place) device devices cause (x ∷ old) (y ∷ new) is refuses = refused_rose place (device + 1) devices cause old new is refuses.1

  refused_alone : ((disk : D) → IsDisk (view disk)) → (place device devices : ℕ) (cause : StartCause) (old new : List D) → RefusesAt view set place device devices cause old new
      → ReadAlone view old new
  refused_alone is_disk place device devices cause [] new refuses = absurd refuses
  refused_alone is_disk place device devices cause (x ∷ old) [] refuses = absurd refuses
  refused_alone is_disk zero device devices cause (x ∷ old) (y ∷ new) refuses =
      (refuses.0.read, subst (λ (disks : List D). ReadAlone view old disks) (sym refuses.1) (read_alone_none view is_disk old))
  refused_alone is_disk (suc place) device devices cause (x ∷ old) (y ∷ new) refuses = (refuses.0.read, refused_alone is_disk place (device + 1) devices cause old new refuses.1)

  -- each disk up to the one that was refused by its bytes is settled
  settled_to : (place device devices : ℕ) (cause : StartCause) (old new : List D) → IsByBytes cause → RefusesAt view set place device devices cause old new
      → (k : ℕ) → k ≤ place → tells_at view old k → IsSettledOn (disks_between view old new) k
  settled_to place device devices cause [] new by refuses k up_to tells = absurd refuses
  settled_to place device devices cause (x ∷ old) [] by refuses k up_to tells = absurd refuses
  settled_to zero device devices cause (x ∷ old) (y ∷ new) by refuses zero up_to tells = refuses.0.settled tells by
  settled_to zero device devices cause (x ∷ old) (y ∷ new) by refuses (suc k) up_to tells = absurd (none_below k up_to)
  settled_to (suc place) device devices cause (x ∷ old) (y ∷ new) by refuses zero up_to tells = refuses.0.only tells
  settled_to (suc place) device devices cause (x ∷ old) (y ∷ new) by refuses (suc k) up_to tells =
      settled_to place (device + 1) devices cause old new by refuses.1 k (less_both k place up_to) tells

  settles_refused : (place devices : ℕ) (cause : StartCause) (old new : List D) → RefusesAt view set place 0 devices cause old new
      → SettlesRefused (disks_between view old new) (refusal_end place cause)
  settles_refused place devices why.Memory old new refuses = tt
  settles_refused place devices why.Fault old new refuses = tt
  settles_refused place devices (why.NotFormatted first) old new refuses = settled_to place 0 devices (why.NotFormatted first) old new tt refuses
  settles_refused place devices (why.OtherGeometry kept named size) old new refuses = settled_to place 0 devices (why.OtherGeometry kept named size) old new tt refuses
  settles_refused place devices (why.DamagedBlock block fault) old new refuses = settled_to place 0 devices (why.DamagedBlock block fault) old new tt refuses

  module _ (place : ℕ) (old new : List D) where
    abbrev Has : RunEnd → Type 0
    Has how = HasStartCause how (tells_at view old) (reads_of view old) (faults_of view old) (faults_of view new)

    -- the device is there, and is refused for this by what it reads
    is_refused : (cause : StartCause) (refusal : Refusal) → refused_one place (length old) cause refusal → RefusesAt view set place 0 (length old) cause old new
        → (place < length (reads_of view old)) × (tells_at view old place → IsRefusedOn place (reads_of view old) refusal)
    is_refused cause refusal so refuses = (
      subst (λ (n : ℕ). place < n) (sym count) (refused_there place 0 (length old) cause old new refuses),
      λ tells. some_more (λ (bytes : List ℕ). IsRefused (asked place (length old)) bytes cause) (λ (bytes : List ℕ). IsRefusedFor place (length (reads_of view old)) bytes refusal)
          (slice_get (reads_of view old) place)
          (λ bytes is. subst (λ (n : ℕ). IsRefusedFor place n bytes refusal) (sym count) (so bytes is))
          (refused_bytes place 0 (length old) place cause old new (omega arith) refuses tells),
    )
      where
        count : length (reads_of view old) ≡ length old
        count = length-map old (λ (disk : D). (view disk).seen)

    start_cause : (cause : StartCause) → RefusesAt view set place 0 (length old) cause old new → Has (refusal_end place cause)
    start_cause why.Memory refuses = tt
    start_cause why.Fault refuses = refused_rose place 0 (length old) why.Fault old new refl refuses
    start_cause (why.NotFormatted first) refuses = is_refused (why.NotFormatted first) (not_formatted first) (λ bytes is. is) refuses
    start_cause (why.OtherGeometry kept named size) refuses =
        is_refused (why.OtherGeometry kept named size) (other_shape kept named.device named.devices size)
        (λ bytes is. subst (λ (a : Asked). IsRefusedFor place (length old) bytes (other_shape kept a.device a.devices size)) (sym is.0) is.1) refuses
    start_cause (why.DamagedBlock block fault) refuses = is_refused (why.DamagedBlock block fault) (damaged_block block fault) (λ bytes is. is) refuses

    -- The start of a device was refused, and its end has its cause.
    pub refusal_cause : (how : RunEnd) (cause : StartCause) → how ≡ refusal_end place cause → RefusesAt view set place 0 (length old) cause old new → Has how
    refusal_cause how cause is refuses = subst Has (sym is) (start_cause cause refuses)

  -- So the run never served, of so many disks that are handed in, and those that are given back.
  pub never_served : ((disk : D) → IsDisk (view disk)) → (before after : Ends) (how : RunEnd) (place count : ℕ) (cause : StartCause) (old new given : List D)
      → count ≡ length old → given ≡ new → how ≡ refusal_end place cause → RefusesAt view set place 0 count cause old new
      → before.disks ≡ faults_of view old → after.disks ≡ faults_of view given → after.taken ≡ before.taken → after.written ≡ before.written
      → NeverServed (disks_between view old given) how before after
  never_served is_disk before after how place count cause old new given many back is refuses at_first at_last taken written = record {
    cause = subst (λ (counts : List ℕ). HasStartCause how (tells_at view old) (reads_of view old) counts after.disks) (sym at_first)
        (subst (λ (counts : List ℕ). HasStartCause how (tells_at view old) (reads_of view old) (faults_of view old) counts) (sym at_last) (refusal_cause place old given how cause is so));
    settled = subst (SettlesRefused (disks_between view old given)) (sym is) (settles_refused place (length old) cause old given so);
    taken = taken;
    written = written;
    disks = refused_alone is_disk place 0 (length old) cause old given so;
  }
    where
      so : RefusesAt view set place 0 (length old) cause old given
      so = subst (λ (n : ℕ). RefusesAt view set place 0 n cause old given) many (subst (λ (disks : List D). RefusesAt view set place 0 count cause old disks) (sym back) refuses)
