use Rattle.std.proofs.Common.{◌≡◌, ◌+◌, ◌≤◌, length}
use Rattle.disk_file.proofs.Moving.{WroteTo}
use Rattle.disk_file.proofs.whole.write_whole.Given as goal

abbrev pub invariant-loop-tries : goal.invariant-loop-tries
invariant-loop-tries g l = record {
  made : length (g.F.OpenedFile.past l.file) ≡ length (g.F.OpenedFile.past l.fn.file) + l.tries;
  within : l.at ≤ length l.bytes;
  so_far : WroteTo l.place l.at l.bytes (g.F.OpenedFile.told l.fn.file) (g.F.OpenedFile.told l.file) (g.F.OpenedFile.past l.fn.file) (g.F.OpenedFile.past l.file);
}
