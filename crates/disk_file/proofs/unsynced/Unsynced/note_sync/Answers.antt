use Rattle.std.proofs.Common.{rules}
use Rattle.disk_file.proofs.Minded.{sync_minded}
use Rattle.disk_file.proofs.unsynced.Unsynced.note_sync.Goals as goal

pub returns-clause-bytes : goal.returns-clause-bytes
returns-clause-bytes c = sync_minded c.args.went_well c.args.self.now _ (search rules)
