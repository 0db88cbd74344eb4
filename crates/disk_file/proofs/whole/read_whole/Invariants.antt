use Rattle.std.proofs.Common.{◌≡◌, ◌+◌, ◌≤◌, length}
use Rattle.disk_file.proofs.Moving.{ReadTo}
use Rattle.disk_file.proofs.whole.read_whole.Given as goal

abbrev pub invariant-loop-tries : goal.invariant-loop-tries
invariant-loop-tries g l = record {
  made : length (g.F.OpenedFile.past l.file) ≡ length (g.F.OpenedFile.past l.fn.file) + l.tries;
  within : l.at ≤ length l.out;
  same : g.F.OpenedFile.told l.file ≡ g.F.OpenedFile.told l.fn.file;
  so_far : ReadTo l.place l.at l.out (g.F.OpenedFile.told l.fn.file) (g.F.OpenedFile.past l.fn.file) (g.F.OpenedFile.past l.file);
}
