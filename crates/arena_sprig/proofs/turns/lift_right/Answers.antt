use Rattle.arena_sprig.proofs.Evened.{lifted_right}
use Rattle.arena_sprig.proofs.turns.lift_right.Goals as goal

pub returns : goal.returns
returns c = λ slots p t placed.
    lifted_right slots c.tuck_right.new.links c.raise_right.new.links c.tuck_right.new.root c.raise_right.new.root p c.args.gap c.args.at c.raise_right.result t
    (c.tuck_right.ensures c.args.gap slots p t placed) c.raise_right.ensures
