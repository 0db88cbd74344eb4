use Rattle.std.proofs.Common.{refl, [], arith}
use Rattle.node_serve.proofs.server.do_duty.Goals as goal

pub returns-in-Worker : goal.returns-in-Worker
returns-in-Worker g c = let is = c.in-Worker.is in record {
  hows = [];
  done = rw is (refl, refl, (c.work-turns.result, c.work-turns.ensures));
  counted = omega arith;
  told = λ sits. absurd (let seat = rw is at sits in cc);
}
