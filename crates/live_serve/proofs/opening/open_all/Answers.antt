use Rattle.std.proofs.Common.{length, refl, arith}
use Rattle.live_serve.specs.Devices.{named_each, ComesBack}
use Rattle.live_store.proofs.Pairs.{pairs_length}
use Rattle.live_serve.proofs.Coming.{all_there}
use Rattle.live_serve.proofs.Entering.{opened_count, named_length, all_counted, as_they_were, all_come_back, all_fit, back_fits}
use Rattle.live_serve.proofs.opening.open_all.Goals as goal

pub returns-in_default-clause-err : goal.returns-in_default-clause-err
returns-in_default-clause-err g c = as_they_were g.D.Disk.view g.met.D.Disk.is_disk c.args.shards.items c.args.states.items c.requires.stands

pub all_back-requires-clause-passes : goal.all_back-requires-clause-passes
all_back-requires-clause-passes g c = c.in-Err.ensures.err.opened.seated

pub all_back-requires-clause-all : goal.all_back-requires-clause-all
all_back-requires-clause-all g c = let stop = c.in-Err.ensures.err in all_there stop.done c.open_each.new.passes.items stop.opened.first

pub all_back-requires-clause-room : goal.all_back-requires-clause-room
all_back-requires-clause-room g c =
    let stop = c.in-Err.ensures.err in
    let many = all_counted c.args.shards.items c.args.states.items c.in-Err.shard c.open_each.new.shards.items c.open_each.new.states.items c.open_each.new.lives.items c.open_each.new.passes.items
    c.requires.stands stop in
    back_fits c.open_each.new.lives.len (length c.open_each.new.lives.items) c.open_each.new.shards.len (length c.open_each.new.shards.items) (length c.args.shards.items) c.args.shards.len c.len.result
    c.in-Ok.room.back.cap c.open_each.new.lives.ok.0 c.open_each.new.shards.ok.0 many c.args.shards.ok.0 c.len.ensures c.in-Ok.ensures.room.2

pub returns-in-Err-clause-err : goal.returns-in-Err-clause-err
returns-in-Err-clause-err g c =
    let stop = c.in-Err.ensures.err in
    let back = c.all_back.ensures in
    all_come_back g.D.Disk.view g.met.D.Disk.is_disk (named_each c.args.shards.items c.args.states.items) c.in-Err.shard c.open_each.new.shards.items c.open_each.new.states.items
    c.open_each.new.lives.items c.open_each.new.passes.items back.0 c.all_back.result.items stop back.2 back.1

pub returns-in-Err-clause-room : goal.returns-in-Err-clause-room
returns-in-Err-clause-room g c =
    let stop = c.in-Err.ensures.err in
    let back = c.all_back.ensures in
    let come = all_come_back g.D.Disk.view g.met.D.Disk.is_disk (named_each c.args.shards.items c.args.states.items) c.in-Err.shard c.open_each.new.shards.items c.open_each.new.states.items
    c.open_each.new.lives.items c.open_each.new.passes.items back.0 c.all_back.result.items stop back.2 back.1 in
    let many = pairs_length (ComesBack g.D.Disk.view) (named_each c.args.shards.items c.args.states.items) c.all_back.result.items come in
    let named = named_length c.args.shards.items c.args.states.items c.requires.stands in
    let room = c.requires.room in
    (c.requires.none, omega (arith, many, named, room, c.all_back.result.ok.0, c.args.shards.ok.0))

pub invariant_of-result : goal.invariant_of-result
invariant_of-result g c =
    let opened = c.in-Ok-open_each.ensures.ok in
    let room = c.in-Ok.ensures.room in
    let many = opened_count c.args.shards.items c.args.states.items c.open_each.new.lives.items c.open_each.new.passes.items c.requires.stands opened in
    let lives = c.open_each.new.lives in
    record {
      room = (
        c.in-Ok.ensures.none.2,
        c.requires.none,
        all_fit lives.len (length lives.items) (length c.args.shards.items) c.args.shards.len c.len.result c.in-Ok.room.back.cap lives.ok.0 many c.args.shards.ok.0 c.len.ensures room.2,
        all_fit lives.len (length lives.items) (length c.args.shards.items) c.args.shards.len c.args.shards.len c.args.closings.cap lives.ok.0 many c.args.shards.ok.0 refl c.requires.room,
      );
    }
