use Rattle.std.proofs.Common.{arith}
use Rattle.partition_map.proofs.PartLaws.{part_below, names_one_part}
use Rattle.rec_format.specs.Places.{partition_number}
use Rattle.partition_map.proofs.part_number.Goals as goal

pub returns-clause-below : goal.returns-clause-below
returns-clause-below c =
    let p = c.partition_of.ensures.value in
    rw (c.quotient.ensures, p, c.from.ensures) (part_below (partition_number c.args.digest.now) c.sprig_of.result c.args.devices c.args.sprigs c.requires.some_devices (omega arith) c.sprig_of.ensures.below)

pub returns-clause-one : goal.returns-clause-one
returns-clause-one c =
    rw (c.quotient.ensures, c.partition_of.ensures.value, c.from.ensures, c.sprig_of.ensures.value) (names_one_part c.args.devices c.args.sprigs c.args.digest.now c.requires.some_sprigs)
