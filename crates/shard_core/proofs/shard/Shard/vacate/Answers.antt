use Rattle.std.proofs.Common.{false}
use Rattle.model_device.specs.Events.{after_events}
use Rattle.shard_core.specs.View.{setup_of}
use Rattle.shard_core.proofs.Telling.{told_before}
use Rattle.shard_core.proofs.Later.{later_then}
use Rattle.shard_core.proofs.Vacating.{few_left, then_out, then_stopped}
use Rattle.shard_core.proofs.Keeping.{through_then}
use Rattle.shard_core.proofs.Failing.{none_then, may_then, by_error}
use Rattle.shard_core.proofs.shard.Shard.vacate.Goals as goal

pub move_rest-requires-clause-low : goal.move_rest-requires-clause-low
move_rest-requires-clause-low g c =
    let low = c.requires.low in
    let made = c.in_ok-moved.ensures.makes low.0 low.1 low.2 in (
      after_events (setup_of c.args.self.now) made.events low.0,
      made.stands,
      few_left g.D.Disk.view c.args.block c.args.self.now low.0 c.move_listed.new.self c.in_ok-moved.moved 0 made low.2.few,
    )

pub returns-in-Ok-clause-makes : goal.returns-in-Ok-clause-makes
returns-in-Ok-clause-makes g c s agrees few =
    let made = c.in_ok-moved.ensures.makes s agrees few in
    then_out g.D.Disk.view c.args.block c.args.self.now s c.move_listed.new.self c.move_rest.new.self c.move_listed.ensures.shape c.move_listed.ensures.honest c.in_ok-moved.moved made c.in-Ok.rest
    (c.in-Ok.ensures.makes (after_events (setup_of c.args.self.now) made.events s) made.stands
    (few_left g.D.Disk.view c.args.block c.args.self.now s c.move_listed.new.self c.in_ok-moved.moved 0 made few.few))

pub returns-in-Err-clause-makes : goal.returns-in-Err-clause-makes
returns-in-Err-clause-makes g c s agrees few =
    let made = c.in_ok-moved.ensures.makes s agrees few in
    then_stopped g.D.Disk.view c.args.block c.args.self.now s c.move_listed.new.self c.move_rest.new.self
    c.move_listed.ensures.shape c.move_listed.ensures.honest c.in_ok-moved.moved made c.in-Err.refusal
    (c.in-Err.ensures.makes (after_events (setup_of c.args.self.now) made.events s) made.stands
    (few_left g.D.Disk.view c.args.block c.args.self.now s c.move_listed.new.self c.in_ok-moved.moved 0 made few.few))

pub returns-in-Err-clause-damaged : goal.returns-in-Err-clause-damaged
returns-in-Err-clause-damaged g c =
    told_before (g.D.Disk.view c.move_listed.new.self.shelf.disk).tells g.D.Disk.view c.args.block c.move_rest.new.self (g.D.Disk.view c.args.self.now.shelf.disk).tells
    c.move_listed.ensures.tells c.in-Err.refusal.cause c.in-Err.ensures.damaged

pub returns-in-Ok-clause-later : goal.returns-in-Ok-clause-later
returns-in-Ok-clause-later g c =
    later_then g.D.Disk.view c.args.self.now.shelf.disk c.move_listed.new.self.shelf.disk c.move_rest.new.self.shelf.disk c.move_listed.ensures.later c.move_rest.ensures.later

pub returns-in-Err-clause-later : goal.returns-in-Err-clause-later
returns-in-Err-clause-later g c =
    later_then g.D.Disk.view c.args.self.now.shelf.disk c.move_listed.new.self.shelf.disk c.move_rest.new.self.shelf.disk c.move_listed.ensures.later c.move_rest.ensures.later

pub returns-in-Ok-clause-kept : goal.returns-in-Ok-clause-kept
returns-in-Ok-clause-kept g c = through_then false c.args.self.now.shelf c.move_listed.new.self.shelf c.move_rest.new.self.shelf c.move_listed.ensures.kept c.move_rest.ensures.kept

pub returns-in-Err-clause-kept : goal.returns-in-Err-clause-kept
returns-in-Err-clause-kept g c = through_then false c.args.self.now.shelf c.move_listed.new.self.shelf c.move_rest.new.self.shelf c.move_listed.ensures.kept c.move_rest.ensures.kept

-- ---- which gates fail

pub returns-in-Ok-clause-fails : goal.returns-in-Ok-clause-fails
returns-in-Ok-clause-fails g c = none_then c.args.self.now.shelf c.move_listed.new.self.shelf c.move_rest.new.self.shelf c.in_ok-moved.ensures.fails c.in-Ok.ensures.fails

pub returns-in-Err-clause-fails : goal.returns-in-Err-clause-fails
returns-in-Err-clause-fails g c = may_then c.args.self.now.shelf c.move_listed.new.self.shelf c.move_rest.new.self.shelf c.in_ok-moved.ensures.fails c.in-Err.ensures.fails

pub returns-in_err-moved-clause-fails : goal.returns-in_err-moved-clause-fails
returns-in_err-moved-clause-fails g c = by_error c.from_residual.result c.args.self.now.shelf c.move_listed.new.self.shelf c.from_residual.ensures.0 c.in_err-moved.ensures.fails
