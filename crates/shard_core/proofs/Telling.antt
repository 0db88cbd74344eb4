-- The damage that a vacating tells is that of a move.
use Rattle.std.proofs.Common.{◌≡◌, ◌<◌, ℕ, Bool, List, length, set, Result, Ok, Err, refl, sym, ◌∙◌, ap, subst}
use Rattle.std.specs.Prelude.{Option, Some, IfErr, MatchResult, slice_get}
use Rattle.std.proofs.lemmas.List.{get_or-set_same, length-set}
use Rattle.std.proofs.lemmas.Option.{slice_get_read}
use Rattle.rec_format.specs.declared.version.Digest.{Digest}
use Rattle.rec_format.specs.declared.entry.Entry.{Entry}
use Rattle.model_device.specs.Book.{Setup}
use Rattle.model_device.specs.Device.{part_of}
use Rattle.disk_model.specs.Disk.{DiskView}
use Rattle.sprig_tree.specs.State.{SprigState}
use Rattle.sprig_tree.specs.Entries.{entry_of}
use Rattle.law_steps.specs.Sprigs.{SameSprig}
use Rattle.defrag_pass.specs.declared.refusal.MoveRefusal.{MoveRefusal}
use Rattle.defrag_pass.specs.declared.refusal.MoveRefusal.TheVariants as move
use Rattle.defrag_pass.specs.Moves.{IsDamageOf, TellsDamage}
use Rattle.model_device.specs.Legal.{queue_front}
use Rattle.block_format.specs.Layout.{body_bytes}
use Rattle.block_shelf.specs.declared.refusals.VacateRefusal.{VacateRefusal}
use Rattle.block_shelf.specs.declared.refusals.VacateRefusal.TheVariants as vacate
use Rattle.block_shelf.specs.View.{ShelfView}
use Rattle.block_shelf.specs.Scans as scans
use Rattle.block_shelf.specs.Vacating.{IsReadNext, IsToldOfNext}
use Rattle.shard_core.specs.declared.refusals.Damage.TheVariants as damage
use Rattle.shard_core.specs.declared.refusals.DefragCause.{DefragCause}
use Rattle.shard_core.specs.declared.refusals.DefragCause.TheVariants as why
use Rattle.shard_core.specs.Sprigs.{entry_in, held}
use Rattle.shard_core.specs.View.{ShardView, setup_of}
use Rattle.shard_core.specs.Vacating.{HasBodyUnless, IsDamageFound, IsDamageIn, move_cause, vacate_cause}

-- the entry of a digest whose sprig was changed
pub held_set : (setup : Setup) (digest : Digest) (sprigs : List SprigState) (k : ℕ) (sprig : SprigState) → k ≡ part_of setup digest → k < length sprigs
    → held setup digest (set sprigs k sprig) ≡ entry_of digest sprig.entries
held_set setup digest sprigs k sprig place there =
    let within : k < length (set sprigs k sprig) = subst (λ (n : ℕ). k < n) (sym (length-set sprigs k sprig)) there in
    let here : slice_get (set sprigs k sprig) k ≡ Some sprig =
    slice_get_read (set sprigs k sprig) (length (set sprigs k sprig)) k sprig refl within (sym (get_or-set_same sprigs k sprig sprig there)) in
    ap (entry_in digest) (subst (λ (n : ℕ). slice_get (set sprigs k sprig) n ≡ Some sprig) place here)

module _ {D : Type 0} (Told : Type 0) (view : D → DiskView) (block : ℕ) (new : ShardView D) where
  damage_in : (digest : Digest) (found : Option Entry) → found ≡ held (setup_of new) digest new.sprigs → (refusal : MoveRefusal) → IsDamageOf Told view block found new.shelf refusal
      → IsDamageIn Told view block new (move_cause refusal)
  damage_in digest found same move.Spent told = tt
  damage_in digest found same move.Load told = tt
  damage_in digest found same move.Space told = tt
  damage_in digest found same (move.Damaged kept bytes) told = (digest, subst (λ (o : Option Entry). TellsDamage Told view block o new.shelf kept bytes) same told)
  damage_in digest found same move.Memory told = tt
  damage_in digest found same move.Fault told = tt

  -- by the answer of the move
  pub moved_damage : (digest : Digest) (before after : SprigState) → held (setup_of new) digest new.sprigs ≡ entry_of digest after.entries → (answer : Result Bool MoveRefusal)
      (result : Result Bool DefragCause) → MatchResult answer (λ moved. result ≡ Ok moved) (λ refusal. result ≡ Err (move_cause refusal)) → IfErr answer (λ refusal. SameSprig before after)
      → IfErr answer (IsDamageOf Told view block (entry_of digest before.entries) new.shelf) → IfErr result (IsDamageIn Told view block new)
  moved_damage digest before after found (Ok moved) result is same told = subst (λ (r : Result Bool DefragCause). IfErr r (IsDamageIn Told view block new)) (sym is) tt
  moved_damage digest before after found (Err refusal) result is same told =
      subst (λ (r : Result Bool DefragCause). IfErr r (IsDamageIn Told view block new)) (sym is)
      (damage_in digest (entry_of digest before.entries) (sym (ap (entry_of digest) same.entries) ∙ sym found) refusal told)

  -- the bytes were told before already
  pub told_before : (Before : Type 0) → (Before → Told) → (cause : DefragCause) → IsDamageIn Told view block new cause → IsDamageIn Before view block new cause
  told_before Before on why.Spent told = tt
  told_before Before on why.Load told = tt
  told_before Before on why.Space told = tt
  told_before Before on (why.Damaged (damage.Record kept bytes)) told = (
    told.0,
    record {
      entry = told.1.entry;
      is_found = told.1.is_found;
      in_block = told.1.in_block;
      kept_is = told.1.kept_is;
      unbuffered = told.1.unbuffered;
      no_head = told.1.no_head;
      read = λ before. told.1.read (on before);
    },
  )
  told_before Before on (why.Damaged (damage.Block other place)) told = absurd told
  told_before Before on why.Memory told = tt
  told_before Before on why.Fault told = tt

-- what a move tells the vacating tells
pub found_in : {D : Type 0} (view : D → DiskView) (block : ℕ) (old new : ShardView D) (cause : DefragCause) → IsDamageIn (view old.shelf.disk).tells view block new cause
    → IsDamageFound view block old new cause
found_in view block old new why.Spent told = tt
found_in view block old new why.Load told = tt
found_in view block old new why.Space told = tt
found_in view block old new (why.Damaged (damage.Record kept bytes)) told = told
found_in view block old new (why.Damaged (damage.Block other place)) told = absurd told
found_in view block old new why.Memory told = tt
found_in view block old new why.Fault told = tt

-- and what the choice tells
pub found_of : {D : Type 0} (view : D → DiskView) (block : ℕ) (old new : ShardView D) → queue_front old.shelf.queue.queue ≡ Some block → (refusal : VacateRefusal) → IsToldOfNext old.shelf refusal
    → ((view old.shelf.disk).tells → (n : ℕ) → IsReadNext old.shelf n → scans.IsDamageOf old.shelf.geometry (body_bytes old.shelf.geometry n (view old.shelf.disk).seen) n refusal)
    → IsDamageFound view block old new (vacate_cause refusal)
found_of view block old new front (vacate.Damaged other place) told bytes =
    let one : Some other ≡ Some block = sym told.front ∙ front in
    let same : other ≡ block = cc in
    (same, told, λ tells. bytes tells other told)
found_of view block old new front vacate.Memory told bytes = absurd told
found_of view block old new front vacate.Fault told bytes = tt

-- a body was there where a move was refused, and none is said to be where the choice was
pub body_unless : (HasBody : Type 0) → HasBody → (cause : DefragCause) → HasBodyUnless HasBody cause
body_unless HasBody has why.Spent = has
body_unless HasBody has why.Load = has
body_unless HasBody has why.Space = has
body_unless HasBody has (why.Damaged (damage.Record kept bytes)) = has
body_unless HasBody has (why.Damaged (damage.Block other place)) = tt
body_unless HasBody has why.Memory = has
body_unless HasBody has why.Fault = tt

pub none_said : {D : Type 0} (shelf : ShelfView D) (HasBody : Type 0) (refusal : VacateRefusal) → IsToldOfNext shelf refusal → HasBodyUnless HasBody (vacate_cause refusal)
none_said shelf HasBody (vacate.Damaged other place) told = tt
none_said shelf HasBody vacate.Memory told = absurd told
none_said shelf HasBody vacate.Fault told = tt
