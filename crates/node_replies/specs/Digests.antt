-- Crate node_replies. The commands on one digest.
use Rattle.std.specs.Prelude.{Option, Some, None}
use Rattle.rec_format.specs.declared.version.Digest.{Digest}
use Rattle.line_proto.specs.declared.command.Command.{Command}
use Rattle.line_proto.specs.declared.command.Command.TheVariants as command

-- the digest that a command is on
abbrev pub digest_of : Command → Option Digest
digest_of (command.Put digest ttl expect payload) = Some digest
digest_of (command.Get digest) = Some digest
digest_of (command.Meta digest) = Some digest
digest_of (command.Del digest) = Some digest
digest_of (command.Bury digest) = Some digest
digest_of _ = None
