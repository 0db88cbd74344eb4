-- Crate line_proto. The text of commands and replies.
use Rattle.std.specs.Prelude.{ℕ, ◌^◌, ◌≤◌, ◌≢◌, List, [], ◌∷◌, ◌++◌, length, codes, decimal, Option, Some, None, Ok, ◌≡◌}
use Rattle.std.specs.List.{join_with_byte}
use Rattle.hex.specs.Hex.{decode_of, encode_lower}
use Rattle.rec_format.specs.declared.version.Digest.{Digest}
use Rattle.rec_format.specs.declared.entry.Counts.{Counts}
use Rattle.line_proto.specs.declared.command.Command.{Command}
use Rattle.line_proto.specs.declared.command.Command.TheVariants as command
use Rattle.line_proto.specs.declared.reply.Reply.{Reply}
use Rattle.line_proto.specs.declared.reply.Reply.TheVariants as reply
use Rattle.line_proto.specs.declared.reply.LineFault.{LineFault}
use Rattle.line_proto.specs.declared.reply.LineFault.TheVariants as why

-- ---- the parts of a line

-- decimal digits, and no zero in front of another digit
abbrev pub IsNumber : List ℕ → ℕ → Type 0
IsNumber text n = text ≡ decimal n

-- 40 hex digits of either case
pub record IsDigestText (text : List ℕ) (digest : Digest) : Type 0 where
  pub size : length text ≡ 40
  pub bytes : decode_of text ≡ Ok digest.0

-- a dash for no bytes, or hex digits of either case
abbrev pub IsDataText : List ℕ → List ℕ → Type 0
IsDataText text [] = text ≡ codes "-"
IsDataText text (b ∷ bytes) = decode_of text ≡ Ok (b ∷ bytes)

abbrev pub IsExpectText : List ℕ → Option ℕ → Type 0
IsExpectText text None = text ≡ codes "*"
IsExpectText text (Some g) = IsNumber text g × (g ≤ 65535)

-- words with one space between each two
abbrev pub words_line : List (List ℕ) → List ℕ
words_line words = join_with_byte 32 words

-- a word and a digest
pub record IsDigestLine (line word : List ℕ) (digest : Digest) : Type 0 where
  pub text : List ℕ
  pub is_digest : IsDigestText text digest
  pub line_is : line ≡ words_line (word ∷ text ∷ [])

pub record IsPutLine (line : List ℕ) (digest : Digest) (ttl : ℕ) (expect : Option ℕ) (payload : List ℕ) : Type 0 where
  pub digest_text : List ℕ
  pub expect_text : List ℕ
  pub data_text : List ℕ
  pub is_digest : IsDigestText digest_text digest
  pub in_range : ttl ≤ 315360000
  pub is_expect : IsExpectText expect_text expect
  pub is_data : IsDataText data_text payload
  pub line_is : line ≡ words_line (codes "put" ∷ digest_text ∷ decimal ttl ∷ expect_text ∷ data_text ∷ [])

-- ---- commands

abbrev pub line_limit : ℕ
line_limit = 2200000

-- the line, without its LF, spells the command
abbrev pub Spells : List ℕ → Command → Type 0
Spells line (command.Put digest ttl expect payload) = IsPutLine line digest ttl expect payload
Spells line (command.Get digest) = IsDigestLine line (codes "get") digest
Spells line (command.Meta digest) = IsDigestLine line (codes "meta") digest
Spells line (command.Del digest) = IsDigestLine line (codes "del") digest
Spells line (command.Bury digest) = IsDigestLine line (codes "bury") digest
Spells line command.Flush = line ≡ codes "flush"
Spells line command.Heal = line ≡ codes "heal"
Spells line command.Defrag = line ≡ codes "defrag"
Spells line command.Expire = line ≡ codes "expire"
Spells line command.Raid = line ≡ codes "raid"
Spells line command.Stat = line ≡ codes "stat"
Spells line command.Restart = line ≡ codes "restart"
Spells line command.Quit = line ≡ codes "quit"

-- the line, without its LF, asks for this command
pub record IsCommandLine (line : List ℕ) (c : Command) : Type 0 where
  pub short : length line ≤ line_limit
  pub spells : Spells line c

-- it asks for none
abbrev pub IsNoCommand : List ℕ → Type 0
IsNoCommand line = (c : Command) → IsCommandLine line c → ⊥

-- It is a put as far as its data, which may be any bytes but a dash: only their reading takes memory.
pub record IsPutToData (line : List ℕ) : Type 0 where
  pub short : length line ≤ line_limit
  pub digest : Digest
  pub ttl : ℕ
  pub expect : Option ℕ
  pub digest_text : List ℕ
  pub expect_text : List ℕ
  pub data_text : List ℕ
  pub is_digest : IsDigestText digest_text digest
  pub in_range : ttl ≤ 315360000
  pub is_expect : IsExpectText expect_text expect
  pub some : data_text ≢ codes "-"
  pub line_is : line ≡ words_line (codes "put" ∷ digest_text ∷ decimal ttl ∷ expect_text ∷ data_text ∷ [])

-- some line spells it
abbrev pub HasLine : Command → Type 0
HasLine c = (line : List ℕ) × IsCommandLine line c

-- what a store is asked: its numbers and payload are within what a line allows
abbrev pub IsInRange : Command → Type 0
IsInRange (command.Put digest ttl expect payload) = (ttl ≤ 315360000) × (length payload ≤ 2 ^ 31)
IsInRange c = Unit {0}

-- ---- the text of a command

abbrev pub digest_text : Digest → List ℕ
digest_text digest = encode_lower digest.0

abbrev pub expect_text : Option ℕ → List ℕ
expect_text None = codes "*"
expect_text (Some g) = decimal g

abbrev pub data_text : List ℕ → List ℕ
data_text [] = codes "-"
data_text (b ∷ bytes) = encode_lower (b ∷ bytes)

abbrev pub command_words : Command → List (List ℕ)
command_words (command.Put digest ttl expect payload) =
    codes "put" ∷ digest_text digest ∷ decimal ttl ∷ expect_text expect ∷ data_text payload ∷ []
command_words (command.Get digest) = codes "get" ∷ digest_text digest ∷ []
command_words (command.Meta digest) = codes "meta" ∷ digest_text digest ∷ []
command_words (command.Del digest) = codes "del" ∷ digest_text digest ∷ []
command_words (command.Bury digest) = codes "bury" ∷ digest_text digest ∷ []
command_words command.Flush = codes "flush" ∷ []
command_words command.Heal = codes "heal" ∷ []
command_words command.Defrag = codes "defrag" ∷ []
command_words command.Expire = codes "expire" ∷ []
command_words command.Raid = codes "raid" ∷ []
command_words command.Stat = codes "stat" ∷ []
command_words command.Restart = codes "restart" ∷ []
command_words command.Quit = codes "quit" ∷ []

-- the line that is printed of a command, without its LF: hex digits are lower case
abbrev pub command_line : Command → List ℕ
command_line c = words_line (command_words c)

-- and with it
abbrev pub command_text : Command → List ℕ
command_text c = command_line c ++ 10 ∷ []

-- ---- replies

abbrev pub fault_words : LineFault → List (List ℕ)
fault_words why.Line = codes "line" ∷ []
fault_words why.Mode = codes "mode" ∷ []
fault_words why.Big = codes "big" ∷ []
fault_words (why.Gen g) = codes "gen" ∷ decimal g ∷ []
fault_words why.Spent = codes "spent" ∷ []
fault_words why.Load = codes "load" ∷ []
fault_words why.Space = codes "space" ∷ []
fault_words why.Memory = codes "memory" ∷ []
fault_words why.Fault = codes "fault" ∷ []
fault_words why.Damaged = codes "damaged" ∷ []

abbrev pub counts_words : Counts → List (List ℕ)
counts_words c =
    decimal c.records ∷ decimal c.tombstones ∷ decimal c.covered ∷ decimal c.free ∷ decimal c.pending ∷ decimal c.queued ∷ decimal c.held ∷ []

abbrev pub reply_words : Reply → List (List ℕ)
reply_words (reply.Written stamp) = codes "ok" ∷ decimal stamp.gen_ ∷ decimal stamp.lut ∷ []
reply_words (reply.Flushed buffers) = codes "ok" ∷ decimal buffers ∷ []
reply_words (reply.Healed gates) = codes "ok" ∷ decimal gates ∷ []
reply_words (reply.Defragged moved vacated) = codes "ok" ∷ decimal moved ∷ decimal vacated ∷ []
reply_words (reply.Expired removed) = codes "ok" ∷ decimal removed ∷ []
reply_words (reply.Raided removed cleared) = codes "ok" ∷ decimal removed ∷ decimal cleared ∷ []
reply_words (reply.Restarted records tombstones) = codes "ok" ∷ decimal records ∷ decimal tombstones ∷ []
reply_words (reply.Val stamp void payload) =
    codes "val" ∷ decimal stamp.gen_ ∷ decimal stamp.lut ∷ decimal void ∷ data_text payload ∷ []
reply_words (reply.MetaOf stamp void units) =
    codes "meta" ∷ decimal stamp.gen_ ∷ decimal stamp.lut ∷ decimal void ∷ decimal units ∷ []
reply_words reply.Nothing = codes "none" ∷ []
reply_words reply.Gone = codes "gone" ∷ []
reply_words (reply.StatOf counts) = codes "stat" ∷ counts_words counts
reply_words reply.Bye = codes "bye" ∷ []
reply_words (reply.Fail fault) = codes "err" ∷ fault_words fault
reply_words reply.Halted = []

-- the text of a reply, with its LF; one that ends a run without a word has none
abbrev pub reply_text : Reply → List ℕ
reply_text reply.Halted = []
reply_text r = words_line (reply_words r) ++ 10 ∷ []
