use Rattle.std.proofs.Common.{rules, arith, ◌≡◌, ℕ, ◌+◌, ◌-◌, List, ap, length, subst}
use Rattle.cold_scan.proofs.Room.{size_bounds}
use Rattle.cold_scan.proofs.Reading.{reads_on}
use Rattle.cold_scan.proofs.Scans.{body_read}
use Rattle.block_format.specs.declared.geometry.BodyRefusal.{BodyRefusal}
use Rattle.block_format.specs.Readings.{IsUnreadBy}
use Rattle.std.specs.Prelude.{OnOk}
use Rattle.sound_scan.specs.Tallied.{TakesBody}
use Rattle.sound_scan.proofs.Blocks.{takes_or_stops, no_body}
use Rattle.sound_scan.proofs.bodies.take_block.Goals as goal

pub read_at-requires : goal.read_at-requires
read_at-requires g c = omega (arith, (size_bounds c.args.geometry.now c.requires.geometry).0, c.start_of_block.ensures.room, c.requires.room, c.requires.body)

pub read_body-requires-clause-head : goal.read_body-requires-clause-head
read_body-requires-clause-head g c =
    let long : length c.read_at.new.out ≡ c.args.geometry.now.block_size - 4096 = search rules in
    omega (arith, long, (size_bounds c.args.geometry.now c.requires.geometry).0)

pub read_body-requires-clause-size : goal.read_body-requires-clause-size
read_body-requires-clause-size g c =
    let long : length c.read_at.new.out ≡ c.args.geometry.now.block_size - 4096 = search rules in
    omega (arith, long, (size_bounds c.args.geometry.now c.requires.geometry).1)

pub returns-in-Ok-read_body-clause-read : goal.returns-in-Ok-read_body-clause-read
returns-in-Ok-read_body-clause-read g c =
    reads_on (g.D.Disk.view c.args.disk.now) _ (g.D.Disk.view c.take_body.new.disk) (g.met.D.Disk.is_disk c.read_at.new.self) (search rules) c.take_body.ensures.read

pub returns-in-Ok-read_body-clause-taken : goal.returns-in-Ok-read_body-clause-taken
returns-in-Ok-read_body-clause-taken g c = λ told.
    let now = c.read_at.ensures.bytes told in
    let is = body_read c.args.geometry.now c.args.block _ c.args.body.now c.read_at.new.out (g.D.Disk.view c.args.disk.now).seen (ap (λ (n : ℕ). n + 4096) c.start_of_block.ensures.place)
    c.requires.body (c.in-Ok.ensures.read told) in
    takes_or_stops c.args.geometry.now (g.D.Disk.view c.args.disk.now).seen c.args.block c.read_at.new.out c.args.tally.now c.take_body.new.tally _ _ c.take_body.result is
    (subst (λ (l : List ℕ). OnOk c.take_body.result (TakesBody c.args.geometry.now l c.args.block c.read_at.new.out c.args.tally.now c.take_body.new.tally)) now.1 (c.take_body.ensures.taken now.0))
    c.take_body.ensures.cause

pub returns-in-Err-Bad-clause-taken : goal.returns-in-Err-Bad-clause-taken
returns-in-Err-Bad-clause-taken g c = λ told.
    let long : length c.read_at.new.out ≡ c.args.geometry.now.block_size - 4096 = search rules in
    let refused = subst (λ (r : BodyRefusal). IsUnreadBy c.read_at.new.out c.args.block r) c.in-Err-Bad.field-0-is c.in-Err-Bad.ensures.refused in
    no_body c.args.geometry.now (g.D.Disk.view c.args.disk.now).seen c.args.block c.read_at.new.out long
    (body_read c.args.geometry.now c.args.block _ c.args.body.now c.read_at.new.out (g.D.Disk.view c.args.disk.now).seen (ap (λ (n : ℕ). n + 4096) c.start_of_block.ensures.place)
    c.requires.body (c.in-Ok.ensures.read told)) refused.1
