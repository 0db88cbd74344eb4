-- Crate model_node. Whether the write of a gate has begun and isn't done: that of a buffer whose flush a fault stopped.
use Rattle.std.specs.Prelude.{Bool, not, List}
use Rattle.std.specs.List.{list_all}
use Rattle.model_device.specs.Book.{Buffer, is_opening}
use Rattle.model_node.specs.Commands.{Node}

-- it is so of none of these buffers
abbrev pub none_begun : List Buffer → Bool
none_begun buffers = list_all (λ b. not (is_opening b.phase)) buffers

-- and of no buffer of any device
abbrev pub none_opening : Node → Bool
none_opening node = list_all (λ slot. none_begun slot.state.book.buffers) node
