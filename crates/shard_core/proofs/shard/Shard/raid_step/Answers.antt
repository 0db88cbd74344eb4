use Rattle.shard_core.proofs.shard.Shard.raid_step.Goals as goal

pub returns-in_default-clause-taken : goal.returns-in_default-clause-taken
returns-in_default-clause-taken g c is = c.turn_aside.ensures.taken c.args.now is
