use Rattle.std.proofs.Common.{arith, rules, ◌≡◌, ℕ, ◌+◌, ◌-◌, ap, refl, length, subst}
use Rattle.cold_scan.proofs.Room.{size_bounds}
use Rattle.block_format.specs.declared.geometry.BodyRefusal.{BodyRefusal}
use Rattle.block_format.specs.Readings.{IsUnreadBy}
use Rattle.cold_scan.proofs.Scans.{stops_there, body_read}
use Rattle.cold_scan.proofs.bodies.read_block.Goals as goal

pub read_at-requires : goal.read_at-requires
read_at-requires g c = omega (arith, (size_bounds c.args.geometry.now c.requires.geometry).0, c.start_of_block.ensures.room, c.requires.room, c.requires.size)

pub read_body-requires-clause-head : goal.read_body-requires-clause-head
read_body-requires-clause-head g c =
    let long : length c.read_at.new.out ≡ c.args.geometry.now.block_size - 4096 = search rules in
    omega (arith, long, (size_bounds c.args.geometry.now c.requires.geometry).0)

pub read_body-requires-clause-size : goal.read_body-requires-clause-size
read_body-requires-clause-size g c =
    let long : length c.read_at.new.out ≡ c.args.geometry.now.block_size - 4096 = search rules in
    omega (arith, long, (size_bounds c.args.geometry.now c.requires.geometry).1)

pub returns-in-Err-Bad-clause-bytes : goal.returns-in-Err-Bad-clause-bytes
returns-in-Err-Bad-clause-bytes g c = λ told.
    let long : length c.read_at.new.out ≡ c.args.geometry.now.block_size - 4096 = search rules in
    let refused = subst (λ (r : BodyRefusal). IsUnreadBy c.read_at.new.out c.args.block r) c.in-Err-Bad.field-0-is c.in-Err-Bad.ensures.refused in (
      refl,
      stops_there c.args.geometry.now c.args.block c.in-Err-Bad.place c.read_at.new.out (g.D.Disk.view c.args.disk.now).seen long
          (body_read c.args.geometry.now c.args.block _ c.args.body.now c.read_at.new.out (g.D.Disk.view c.args.disk.now).seen
          (ap (λ (n : ℕ). n + 4096) c.start_of_block.ensures.place) c.requires.size (c.in-Ok.ensures.read told)) refused.0,
    )
