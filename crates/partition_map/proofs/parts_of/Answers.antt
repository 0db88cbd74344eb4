use Rattle.partition_map.proofs.PartLaws.{all_are_parts}
use Rattle.partition_map.proofs.parts_of.Goals as goal

pub returns-clause-all : goal.returns-clause-all
returns-clause-all c =
    rw (c.from.ensures, c.from-2.ensures) (all_are_parts c.args.device c.args.devices c.args.sprigs c.requires.one_of_them c.requires.most_devices c.requires.some_sprigs)
