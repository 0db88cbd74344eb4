use Rattle.std.proofs.Common.{append_assoc}
use Rattle.model_node.proofs.note.Note.damaged_block.Goals as goal

pub returns : goal.returns
returns c =
    rw (c.push_str-4.ensures.bytes, c.format-2.ensures.text, c.push_str-3.ensures.bytes, c.push_str-2.ensures.bytes, c.format.ensures.text, c.push_str.ensures.bytes, c.front-text.ensures.bytes)
    (simp append_assoc)
