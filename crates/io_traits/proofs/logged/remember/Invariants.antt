use Rattle.std.proofs.Common.{◌≡◌, ◌++◌, take}
use Rattle.io_traits.specs.Memory.{logged_bytes}
use Rattle.io_traits.proofs.logged.remember.Given as goal

abbrev pub invariant-loop-byte : goal.invariant-loop-byte
invariant-loop-byte l = logged_bytes l.past.items ≡ logged_bytes l.fn.past.items ++ take l.byte-index l.piece
