use Rattle.std.proofs.Common.{rules}
use Rattle.disk_file.proofs.Minded.{write_minded}
use Rattle.disk_file.proofs.unsynced.Unsynced.note_write.Goals as goal

pub returns-then-landed-clause-bytes : goal.returns-then-landed-clause-bytes
returns-then-landed-clause-bytes c = write_minded c.args.span c.args.landed c.args.self.now _ (search rules)

pub returns-else-landed-clause-bytes : goal.returns-else-landed-clause-bytes
returns-else-landed-clause-bytes c = write_minded c.args.span c.args.landed c.args.self.now _ (search rules)
