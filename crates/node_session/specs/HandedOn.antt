-- Crate node_session. How replies are handed on: they are collected, and then written together.
use Rattle.std.specs.Prelude.{◌≡◌, ℕ, ◌+◌, ◌<◌, List, [], ◌++◌, length, Option, Some, None, Result, OnOk}
use Rattle.io_traits.specs.Sink.{Extends}
use Rattle.line_proto.specs.declared.reply.Reply.{Reply}
use Rattle.line_proto.specs.Lines.{reply_text}

-- how many bytes of replies are collected before they are handed on
abbrev pub reply_room : ℕ
reply_room = 60000

-- Of the text the first bytes are written, and at Ok all but the rest.
pub record Sends {E : Type 0} (text rest : List ℕ) (written written' : Option (List ℕ)) (result : Result Unit E) : Type 0 where
  pub sent : List ℕ
  pub unsent : List ℕ
  pub parts : text ≡ sent ++ unsent
  pub extends : Extends written written' sent
  pub all : OnOk result (unsent ≡ rest)

-- the text of a reply, where there is one
abbrev pub text_if : Option Reply → List ℕ
text_if None = []
text_if (Some reply) = reply_text reply

-- The output is the front of the text of some replies. But for the last of them, fewer bytes than the room has aren't written.
pub record FallsShort (text output : List ℕ) : Type 0 where
  pub unsent : List ℕ
  pub parts : text ≡ output ++ unsent
  pub before : List ℕ
  pub last : Option Reply
  pub but_last : text ≡ before ++ text_if last
  pub room : length before < length output + reply_room
