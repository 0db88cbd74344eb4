use Rattle.std.proofs.Common.{false}
use Rattle.node_prog.proofs.serve.Given as goal

abbrev pub ghost-new : goal.ghost-new
ghost-new g a = false
