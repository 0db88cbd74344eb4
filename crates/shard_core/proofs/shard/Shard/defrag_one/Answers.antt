use Rattle.std.proofs.Common.{ℕ, ◌≤◌, Option, false, List, ap, sym, ◌∙◌, subst}
use Rattle.std.specs.Prelude.{Some, None, Ok, Err}
use Rattle.model_device.specs.Device.{State}
use Rattle.model_device.specs.Legal.{queue_front}
use Rattle.rec_format.specs.declared.version.Digest.{Digest}
use Rattle.rec_format.specs.Versions.{block_capacity}
use Rattle.block_format.specs.declared.geometry.Geometry.{Geometry}
use Rattle.block_format.specs.Layout.{body_bytes, most_records}
use Rattle.block_flusher.specs.Images.{IsBodyOf}
use Rattle.block_shelf.specs.View.{ShelfView}
use Rattle.block_shelf.specs.Vacating.{IsReadNext, ListsBody}
use Rattle.shard_core.specs.View.{ShardView}
use Rattle.shard_core.specs.Stands.{Agrees}
use Rattle.shard_core.specs.declared.refusals.DefragCause.{DefragCause}
use Rattle.shard_core.specs.Vacating.{MakesEvents, IsDamageFound, IsVacating}
use Rattle.shard_core.proofs.Telling.{found_of, body_unless}
use Rattle.shard_core.proofs.Choices.{gives_not, gives_none, gives_few, gives_all, gives_some, within, whole_over, shape_over}
use Rattle.shard_core.proofs.Making.{room_stays}
use Rattle.shard_core.specs.Keeping.{KeepsThrough}
use Rattle.shard_core.proofs.Keeping.{through_read, through_then}
use Rattle.std.proofs.Common.{inl}
use Rattle.shard_core.specs.Failing.{NoneFails, MayFail}
use Rattle.shard_core.proofs.Failing.{none_same, none_then, may_then}
use Rattle.shard_core.proofs.shard.Shard.defrag_one.Goals as goal

pub vacate-requires-clause-block : goal.vacate-requires-clause-block
vacate-requires-clause-block g c =
    let old : ShardView g.row.D.Denot = record { shelf = c.self.inside.shelf; set = c.self.inside.set; sprigs = c.self.inside.sprigs.items } in
    let mid : ShelfView g.row.D.Denot = c.choose_step.new.shelf in
    within g.D.Disk.view old mid c.choose_step.ensures.rest c.choose_step.result c.choose_step.ensures.makes c.choose_step.ensures.disk.honest c.self.invariant.whole
    c.in-Ok-Some.block (c.in-Ok-Some.is ∙ ap (λ (o : Option ℕ). Ok o) c.in-Ok-Some.field-0-is) c.choose_step.ensures.below

pub vacate-requires-clause-low : goal.vacate-requires-clause-low
vacate-requires-clause-low g c =
    let old : ShardView g.row.D.Denot = record { shelf = c.self.inside.shelf; set = c.self.inside.set; sprigs = c.self.inside.sprigs.items } in
    let mid : ShelfView g.row.D.Denot = c.choose_step.new.shelf in
    gives_few g.D.Disk.view old mid c.choose_step.ensures.rest c.choose_step.result c.choose_step.ensures.makes c.choose_step.ensures.disk.honest c.self.invariant.whole
    c.in-Ok-Some.block (c.in-Ok-Some.is ∙ ap (λ (o : Option ℕ). Ok o) c.in-Ok-Some.field-0-is) c.choose_step.ensures.low

pub returns-in-Ok-clause-makes : goal.returns-in-Ok-clause-makes
returns-in-Ok-clause-makes g c =
    let old : ShardView g.row.D.Denot = record { shelf = c.self.inside.shelf; set = c.self.inside.set; sprigs = c.self.inside.sprigs.items } in
    let mid : ShelfView g.row.D.Denot = c.choose_step.new.shelf in
    subst (λ (v : ShardView g.row.D.Denot). (s : State) → Agrees v s
    → MakesEvents g.D.Disk.view (IsVacating v s (Ok (Some (record { block = c.in-Ok-Some.block; moved = c.in-Ok.moved })))) v s c.vacate.new.self) c.self.view_is
    (λ s agrees. gives_all g.D.Disk.view old mid c.choose_step.ensures.rest c.choose_step.result c.choose_step.ensures.makes c.choose_step.ensures.disk.honest c.self.invariant.whole
    s agrees c.in-Ok-Some.block (c.in-Ok-Some.is ∙ ap (λ (o : Option ℕ). Ok o) c.in-Ok-Some.field-0-is) c.choose_step.ensures.low
    c.vacate.new.self c.choose_step.ensures.first c.in-Ok.moved c.in-Ok.ensures.makes)

pub returns-in-Err-vacate-clause-makes : goal.returns-in-Err-vacate-clause-makes
returns-in-Err-vacate-clause-makes g c =
    let old : ShardView g.row.D.Denot = record { shelf = c.self.inside.shelf; set = c.self.inside.set; sprigs = c.self.inside.sprigs.items } in
    let mid : ShelfView g.row.D.Denot = c.choose_step.new.shelf in
    subst (λ (v : ShardView g.row.D.Denot). (s : State) → Agrees v s → MakesEvents g.D.Disk.view (IsVacating v s (Err c.in-Err-vacate.refusal)) v s c.vacate.new.self) c.self.view_is
    (λ s agrees. gives_some g.D.Disk.view old mid c.choose_step.ensures.rest c.choose_step.result c.choose_step.ensures.makes c.choose_step.ensures.disk.honest c.self.invariant.whole
    s agrees c.in-Ok-Some.block (c.in-Ok-Some.is ∙ ap (λ (o : Option ℕ). Ok o) c.in-Ok-Some.field-0-is) c.choose_step.ensures.low
    c.vacate.new.self c.in-Err-vacate.refusal c.in-Err-vacate.ensures.makes)

pub returns-in-Ok-None-clause-makes : goal.returns-in-Ok-None-clause-makes
returns-in-Ok-None-clause-makes g c =
    let old : ShardView g.row.D.Denot = record { shelf = c.self.inside.shelf; set = c.self.inside.set; sprigs = c.self.inside.sprigs.items } in
    let mid : ShelfView g.row.D.Denot = c.choose_step.new.shelf in
    subst (λ (v : ShardView g.row.D.Denot). (s : State) → Agrees v s → MakesEvents g.D.Disk.view (IsVacating v s (Ok None)) v s (record { shelf = mid; set = old.set; sprigs = old.sprigs }))
    c.self.view_is
    (λ s agrees. gives_none g.D.Disk.view old mid c.choose_step.ensures.rest c.choose_step.result c.choose_step.ensures.makes c.choose_step.ensures.disk.honest c.self.invariant.whole
    s agrees (c.in-Ok-None.is ∙ ap (λ (o : Option ℕ). Ok o) c.in-Ok-None.field-0-is))

pub returns-in-Err-clause-makes : goal.returns-in-Err-clause-makes
returns-in-Err-clause-makes g c =
    let old : ShardView g.row.D.Denot = record { shelf = c.self.inside.shelf; set = c.self.inside.set; sprigs = c.self.inside.sprigs.items } in
    let mid : ShelfView g.row.D.Denot = c.choose_step.new.shelf in
    let new : ShardView g.row.D.Denot = record { shelf = mid; set = old.set; sprigs = old.sprigs } in
    subst (λ (v : ShardView g.row.D.Denot). (s : State) → Agrees v s → MakesEvents g.D.Disk.view (IsVacating v s (Err (record { moved = 0; cause = c.vacate_cause.result }))) v s new) c.self.view_is
    (subst (λ (why : DefragCause). (s : State) → Agrees old s → MakesEvents g.D.Disk.view (IsVacating old s (Err (record { moved = 0; cause = why }))) old s new) (sym c.vacate_cause.ensures)
    (λ s agrees. gives_not g.D.Disk.view old mid c.choose_step.ensures.rest c.choose_step.result c.choose_step.ensures.makes c.choose_step.ensures.disk.honest c.self.invariant.whole
    s agrees c.in-Err.refusal c.in-Err.is))

-- ---- the fields

pub invariant_of-self : goal.invariant_of-self
invariant_of-self g c =
    let old : ShardView g.row.D.Denot = record { shelf = c.self.inside.shelf; set = c.self.inside.set; sprigs = c.self.inside.sprigs.items } in
    let mid : ShelfView g.row.D.Denot = c.choose_step.new.shelf in
    let view = g.D.Disk.view in
    record {
      whole = whole_over view old mid c.choose_step.ensures.rest c.choose_step.result c.choose_step.ensures.makes c.choose_step.ensures.disk.honest c.self.invariant.whole;
      tallied = c.self.invariant.tallied;
      listed = subst (λ (n : ℕ). most_records (block_capacity mid.geometry.block_size) ≤ n) (sym c.choose_step.ensures.room)
          (room_stays old (record { shelf = mid; set = old.set; sprigs = old.sprigs })
          (shape_over view old mid c.choose_step.ensures.rest c.choose_step.result c.choose_step.ensures.makes c.choose_step.ensures.disk.honest c.self.invariant.whole) _
          c.self.invariant.listed);
    }

pub invariant_of-self-in-Err : goal.invariant_of-self-in-Err
invariant_of-self-in-Err g c =
    let old : ShardView g.row.D.Denot = record { shelf = c.self.inside.shelf; set = c.self.inside.set; sprigs = c.self.inside.sprigs.items } in
    let mid : ShelfView g.row.D.Denot = c.choose_step.new.shelf in
    let view = g.D.Disk.view in
    record {
      whole = whole_over view old mid c.choose_step.ensures.rest c.choose_step.result c.choose_step.ensures.makes c.choose_step.ensures.disk.honest c.self.invariant.whole;
      tallied = c.self.invariant.tallied;
      listed = subst (λ (n : ℕ). most_records (block_capacity mid.geometry.block_size) ≤ n) (sym c.choose_step.ensures.room)
          (room_stays old (record { shelf = mid; set = old.set; sprigs = old.sprigs })
          (shape_over view old mid c.choose_step.ensures.rest c.choose_step.result c.choose_step.ensures.makes c.choose_step.ensures.disk.honest c.self.invariant.whole) _
          c.self.invariant.listed);
    }

-- ---- the body, and damage

listed_is : (g : Geometry) (block : ℕ) (bytes : List ℕ) (digests : List Digest) → ListsBody g bytes block digests → IsBodyOf g block bytes
listed_is g block bytes digests lists = (lists.body, lists.is_body, lists.placed)

pub returns-in-Ok-clause-body : goal.returns-in-Ok-clause-body
returns-in-Ok-clause-body g c tells block reads =
    let view = g.D.Disk.view in
    let of = λ (v : ShardView g.row.D.Denot). IsBodyOf v.shelf.geometry block (body_bytes v.shelf.geometry block (view v.shelf.disk).seen) in
    subst of c.self.view_is (listed_is _ block _ _
    (c.in-Ok-Some.ensures.read (subst (λ (v : ShardView g.row.D.Denot). (view v.shelf.disk).tells) (sym c.self.view_is) tells) block
    (subst (λ (v : ShardView g.row.D.Denot). IsReadNext v.shelf block) (sym c.self.view_is) reads)))

pub returns-in-Err-vacate-clause-body : goal.returns-in-Err-vacate-clause-body
returns-in-Err-vacate-clause-body g c tells block reads =
    let view = g.D.Disk.view in
    let of = λ (v : ShardView g.row.D.Denot). IsBodyOf v.shelf.geometry block (body_bytes v.shelf.geometry block (view v.shelf.disk).seen) in
    body_unless (of c.args.self.now) (subst of c.self.view_is (listed_is _ block _ _
    (c.in-Ok-Some.ensures.read (subst (λ (v : ShardView g.row.D.Denot). (view v.shelf.disk).tells) (sym c.self.view_is) tells) block
    (subst (λ (v : ShardView g.row.D.Denot). IsReadNext v.shelf block) (sym c.self.view_is) reads)))) c.in-Err-vacate.refusal.cause

pub returns-in-Err-clause-damaged : goal.returns-in-Err-clause-damaged
returns-in-Err-clause-damaged g c block front =
    let view = g.D.Disk.view in
    let old : ShardView g.row.D.Denot = record { shelf = c.self.inside.shelf; set = c.self.inside.set; sprigs = c.self.inside.sprigs.items } in
    let new : ShardView g.row.D.Denot = record { shelf = c.choose_step.new.shelf; set = c.self.inside.set; sprigs = c.self.inside.sprigs.items } in
    subst (λ (v : ShardView g.row.D.Denot). IsDamageFound view block v new c.vacate_cause.result) c.self.view_is
    (subst (IsDamageFound view block old new) (sym c.vacate_cause.ensures)
    (found_of view block old new (ap (λ (v : ShardView g.row.D.Denot). queue_front v.shelf.queue.queue) c.self.view_is ∙ front) c.in-Err.refusal c.in-Err.ensures.told c.in-Err.ensures.read))

-- ---- what is kept

pub returns-in-Ok-clause-kept : goal.returns-in-Ok-clause-kept
returns-in-Ok-clause-kept g c =
    subst (λ (v : ShardView g.row.D.Denot). KeepsThrough false v.shelf c.vacate.new.self.shelf) c.self.view_is
    (through_then false c.self.inside.shelf c.choose_step.new.shelf c.vacate.new.self.shelf
    (through_read false c.self.inside.shelf c.choose_step.new.shelf c.choose_step.ensures.rest) c.vacate.ensures.kept)

pub returns-in-Err-vacate-clause-kept : goal.returns-in-Err-vacate-clause-kept
returns-in-Err-vacate-clause-kept g c =
    subst (λ (v : ShardView g.row.D.Denot). KeepsThrough false v.shelf c.vacate.new.self.shelf) c.self.view_is
    (through_then false c.self.inside.shelf c.choose_step.new.shelf c.vacate.new.self.shelf
    (through_read false c.self.inside.shelf c.choose_step.new.shelf c.choose_step.ensures.rest) c.vacate.ensures.kept)

pub returns-in-Ok-None-clause-kept : goal.returns-in-Ok-None-clause-kept
returns-in-Ok-None-clause-kept g c =
    subst (λ (v : ShardView g.row.D.Denot). KeepsThrough false v.shelf c.choose_step.new.shelf) c.self.view_is
    (through_read false c.self.inside.shelf c.choose_step.new.shelf c.choose_step.ensures.rest)

pub returns-in-Err-clause-kept : goal.returns-in-Err-clause-kept
returns-in-Err-clause-kept g c =
    subst (λ (v : ShardView g.row.D.Denot). KeepsThrough false v.shelf c.choose_step.new.shelf) c.self.view_is
    (through_read false c.self.inside.shelf c.choose_step.new.shelf c.choose_step.ensures.rest)

-- ---- which gates fail

pub returns-in-Ok-clause-fails : goal.returns-in-Ok-clause-fails
returns-in-Ok-clause-fails g c =
    subst (λ (v : ShardView g.row.D.Denot). NoneFails v.shelf c.vacate.new.self.shelf) c.self.view_is (none_then c.self.inside.shelf c.choose_step.new.shelf c.vacate.new.self.shelf (none_same c.self.inside.shelf c.choose_step.new.shelf (ap (λ (v : ShelfView g.row.D.Denot). v.gates) c.choose_step.ensures.rest)) c.in-Ok.ensures.fails)

pub returns-in-Err-vacate-clause-fails : goal.returns-in-Err-vacate-clause-fails
returns-in-Err-vacate-clause-fails g c =
    subst (λ (v : ShardView g.row.D.Denot). MayFail v.shelf c.vacate.new.self.shelf) c.self.view_is (may_then c.self.inside.shelf c.choose_step.new.shelf c.vacate.new.self.shelf (none_same c.self.inside.shelf c.choose_step.new.shelf (ap (λ (v : ShelfView g.row.D.Denot). v.gates) c.choose_step.ensures.rest)) c.in-Err-vacate.ensures.fails)

pub returns-in-Ok-None-clause-fails : goal.returns-in-Ok-None-clause-fails
returns-in-Ok-None-clause-fails g c =
    subst (λ (v : ShardView g.row.D.Denot). NoneFails v.shelf c.choose_step.new.shelf) c.self.view_is (none_same c.self.inside.shelf c.choose_step.new.shelf (ap (λ (v : ShelfView g.row.D.Denot). v.gates) c.choose_step.ensures.rest))

pub returns-in-Err-clause-fails : goal.returns-in-Err-clause-fails
returns-in-Err-clause-fails g c =
    subst (λ (v : ShardView g.row.D.Denot). MayFail v.shelf c.choose_step.new.shelf) c.self.view_is (inl (none_same c.self.inside.shelf c.choose_step.new.shelf (ap (λ (v : ShelfView g.row.D.Denot). v.gates) c.choose_step.ensures.rest)))
