use Rattle.std.proofs.Common.{ℕ, ◌<◌, sym, subst}
use Rattle.turn_table.specs.Passes.{view}
use Rattle.live_node.proofs.Several.{right_here}
use Rattle.live_node.proofs.Turning.{expires_between}
use Rattle.live_node.proofs.live.Live.expire_next.Goals as goal

pub take_part-sprig-requires-clause-part : goal.take_part-sprig-requires-clause-part
take_part-sprig-requires-clause-part g c = subst (λ (n : ℕ). c.args.part < n) (sym c.known.ensures.all) c.requires.part

pub expire_first-answer-requires-clause-here : goal.expire_first-answer-requires-clause-here
expire_first-answer-requires-clause-here g c = right_here c.take_part-sprig.ensures.right

pub returns-clause-expires : goal.returns-clause-expires
returns-clause-expires g c =
    let gave = c.give_part.ensures in
    expires_between (view c.args.pass.now) (view c.take_part-sprig.new.pass) (view c.expire_first-answer.new.pass) (view c.give_part.new.pass) c.args.part c.args.now
    c.take_part-sprig.ensures.right gave.right gave.seen c.expire_first-answer.result c.expire_first-answer.ensures.expires
