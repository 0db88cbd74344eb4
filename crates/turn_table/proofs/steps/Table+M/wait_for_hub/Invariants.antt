use Rattle.std.proofs.Common.{◌≡◌}
use Rattle.turn_table.specs.Passes.{view, found_out, IsPassOf, KeepsNumbers, part_count}
use Rattle.turn_table.specs.Plays.{having_found_out, HasWaited}
use Rattle.turn_table.proofs.steps.Table+M.wait_for_hub.Given as goal

abbrev pub invariant-loop : goal.invariant-loop
invariant-loop g l = record {
  of : IsPassOf l.self l.pass;
  numbers : KeepsNumbers l.initial.pass l.pass;
  waits : view l.pass ≡ having_found_out (found_out l.pass) (view l.initial.pass);
  waited : HasWaited (part_count l.self) (view l.initial.pass) (view l.pass);
}
