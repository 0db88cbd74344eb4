-- Crate line_proto. How a line is read, word by word.
use Rattle.std.specs.Prelude.{◌≡◌, ◌≢◌, ℕ, ◌≤◌, List, [], ◌∷◌, ◌++◌, Option, MatchOption, codes, decimal}
use Rattle.std.specs.List.{AllByRecursion}
use Rattle.rec_format.specs.declared.version.Digest.{Digest}
use Rattle.line_proto.specs.declared.command.Command.{Command}
use Rattle.line_proto.specs.declared.command.Command.TheVariants as command
use Rattle.line_proto.specs.Lines.{IsDigestText, IsExpectText, IsDataText, words_line}

-- no such byte is among the bytes
abbrev pub Lacks : ℕ → List ℕ → Type 0
Lacks separator bytes = AllByRecursion (λ byte. byte ≢ separator) bytes

-- a word has no space
abbrev pub IsWord : List ℕ → Type 0
IsWord bytes = Lacks 32 bytes

-- the bytes before the first separator, and those behind it
abbrev pub IsCut : ℕ → List ℕ → Option (List ℕ × List ℕ) → Type 0
IsCut separator bytes found =
    MatchOption found (Lacks separator bytes) (λ parts. (bytes ≡ parts.0 ++ separator ∷ parts.1) × Lacks separator parts.0)

-- three words and the bytes behind them
pub record IsFour (text digest ttl expect payload : List ℕ) : Type 0 where
  pub spelled : text ≡ words_line (digest ∷ ttl ∷ expect ∷ payload ∷ [])
  pub one : IsWord digest
  pub two : IsWord ttl
  pub three : IsWord expect

-- what stands behind `put ` has these parts
pub record IsPut (text : List ℕ) (digest : Digest) (ttl : ℕ) (expect : Option ℕ) (payload : List ℕ) : Type 0 where
  pub digest_text : List ℕ
  pub expect_text : List ℕ
  pub data_text : List ℕ
  pub is_digest : IsDigestText digest_text digest
  pub in_range : ttl ≤ 315360000
  pub is_expect : IsExpectText expect_text expect
  pub is_data : IsDataText data_text payload
  pub spelled : text ≡ words_line (digest_text ∷ decimal ttl ∷ expect_text ∷ data_text ∷ [])

-- What stands behind `put ` has these parts up to the data, which are any bytes but a dash.
pub record IsPutFront (text : List ℕ) : Type 0 where
  pub digest : Digest
  pub ttl : ℕ
  pub expect : Option ℕ
  pub digest_text : List ℕ
  pub expect_text : List ℕ
  pub data_text : List ℕ
  pub is_digest : IsDigestText digest_text digest
  pub in_range : ttl ≤ 315360000
  pub is_expect : IsExpectText expect_text expect
  pub some : data_text ≢ codes "-"
  pub spelled : text ≡ words_line (digest_text ∷ decimal ttl ∷ expect_text ∷ data_text ∷ [])

-- the line is the one word of this command
abbrev pub IsAlone : List ℕ → Command → Type 0
IsAlone line command.Flush = line ≡ codes "flush"
IsAlone line command.Heal = line ≡ codes "heal"
IsAlone line command.Stat = line ≡ codes "stat"
IsAlone line command.Restart = line ≡ codes "restart"
IsAlone line command.Quit = line ≡ codes "quit"
IsAlone line command.Defrag = line ≡ codes "defrag"
IsAlone line command.Expire = line ≡ codes "expire"
IsAlone line command.Raid = line ≡ codes "raid"
IsAlone line _ = ⊥

-- what stands behind `put ` is this command
abbrev pub IsPutCommand : List ℕ → Command → Type 0
IsPutCommand text (command.Put digest ttl expect payload) = IsPut text digest ttl expect payload
IsPutCommand text _ = ⊥

-- this word, a space and this text are a command of one digest
abbrev pub IsDigestCommand : (word text : List ℕ) → Command → Type 0
IsDigestCommand word text (command.Get digest) = (word ≡ codes "get") × IsDigestText text digest
IsDigestCommand word text (command.Meta digest) = (word ≡ codes "meta") × IsDigestText text digest
IsDigestCommand word text (command.Del digest) = (word ≡ codes "del") × IsDigestText text digest
IsDigestCommand word text (command.Bury digest) = (word ≡ codes "bury") × IsDigestText text digest
IsDigestCommand word text _ = ⊥
