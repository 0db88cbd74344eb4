use Rattle.arena_sprig.proofs.Evened.{lifted_left}
use Rattle.arena_sprig.proofs.turns.lift_left.Goals as goal

pub returns : goal.returns
returns c = λ slots p t placed.
    lifted_left slots c.tuck_left.new.links c.raise_left.new.links c.tuck_left.new.root c.raise_left.new.root p c.args.gap c.args.at c.raise_left.result t
    (c.tuck_left.ensures c.args.gap slots p t placed) c.raise_left.ensures
