use Rattle.std.proofs.Common.{ℕ, ◌<◌, List, None, sym, subst}
use Rattle.model_device.specs.Events.{Event}
use Rattle.live_node.specs.Lives.{opening_at}
use Rattle.live_node.specs.Sweeps.{AreSwept, EndsSweep}
use Rattle.live_node.proofs.Several.{right_here, shows_between}
use Rattle.live_node.proofs.live.Live.expire_part.Goals as goal

pub take_part-sprig-requires-clause-part : goal.take_part-sprig-requires-clause-part
take_part-sprig-requires-clause-part g c = subst (λ (n : ℕ). c.args.part < n) (sym c.known.ensures.all) c.requires.part

pub sweep-answer-requires-clause-here : goal.sweep-answer-requires-clause-here
sweep-answer-requires-clause-here g c = right_here c.take_part-sprig.ensures.right

pub returns-clause-sweeps : goal.returns-clause-sweeps
returns-clause-sweeps g c =
    let o = opening_at c.args.self.now in
    let swept = c.sweep-answer.ensures.sweeps in
    let gave = c.give_part.ensures in
    record {
      list = swept.list;
      shows = shows_between swept.list c.take_part-sprig.ensures.right swept.shows gave.right gave.seen;
      swept = subst (λ (l : List Event). AreSwept o c.args.part c.args.now (EndsSweep o c.args.part c.args.now l c.sweep-answer.result) None swept.list) (sym gave.seen) swept.swept;
      counts = swept.counts;
      flushed = swept.flushed;
    }
