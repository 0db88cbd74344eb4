-- What the replies of some lines say of them.
use Rattle.std.proofs.Common.{◌≡◌, ℕ, Bool, true, false, List, [], ◌∷◌, ◌++◌, length, refl, ap}
use Rattle.std.specs.Prelude.{◌||◌, MatchBool, flat_map}
use Rattle.std.specs.List.{AllByRecursion}
use Rattle.std.proofs.Math.Bool.{or-false}
use Rattle.law_lists.proofs.Answers.{match_more}
use Rattle.line_proto.specs.declared.reply.Reply.{Reply}
use Rattle.line_proto.specs.declared.reply.Reply.TheVariants as reply
use Rattle.line_proto.specs.Lines.{reply_text}
use Rattle.node_session.specs.Session.{unended}
use Rattle.model_node.specs.Run.{Served, goes_on, halts, EndsOnce, is_halted, replies_of}
use Rattle.model_node.specs.Outside.{is_bye, has_quit, written_text, rest_line}

abbrev pub AllGo : List Reply → Type 0
AllGo rs = AllByRecursion (λ r. goes_on r ≡ true) rs

abbrev pub once_in : List Reply → Type 0
once_in [] = Unit {0}
once_in (r ∷ rs) = MatchBool (goes_on r) (once_in rs) (rs ≡ [])

abbrev pub halted_in : List Reply → Bool
halted_in [] = false
halted_in (r ∷ rs) = halts r || halted_in rs

abbrev pub bye_in : List Reply → Bool
bye_in [] = false
bye_in (r ∷ rs) = is_bye r || bye_in rs

-- ---- of the lines

no_lines : (lines : List Served) → replies_of lines ≡ [] → lines ≡ []
no_lines [] none = refl
no_lines (served ∷ lines) none = cc

pub once_of : (lines : List Served) → once_in (replies_of lines) → EndsOnce lines
once_of [] once = tt
once_of (served ∷ lines) once = match_more (goes_on served.reply) (once_in (replies_of lines)) (replies_of lines ≡ []) (EndsOnce lines) (lines ≡ []) (once_of lines) (no_lines lines) once

pub halted_of : (lines : List Served) → is_halted lines ≡ halted_in (replies_of lines)
halted_of [] = refl
halted_of (served ∷ lines) = ap (λ (b : Bool). halts served.reply || b) (halted_of lines)

pub quit_of : (lines : List Served) → has_quit lines ≡ bye_in (replies_of lines)
quit_of [] = refl
quit_of (served ∷ lines) = ap (λ (b : Bool). is_bye served.reply || b) (quit_of lines)

pub text_of : (lines : List Served) → written_text lines ≡ flat_map reply_text (replies_of lines)
text_of [] = refl
text_of (served ∷ lines) = ap (λ (l : List ℕ). reply_text served.reply ++ l) (text_of lines)

-- ---- where the run went on, and where it ended with the last

go_not_halts : (r : Reply) → goes_on r ≡ true → halts r ≡ false
go_not_halts (reply.Written stamp) goes = refl
go_not_halts (reply.Flushed buffers) goes = refl
go_not_halts (reply.Healed gates) goes = refl
go_not_halts (reply.Defragged moved vacated) goes = refl
go_not_halts (reply.Expired removed) goes = refl
go_not_halts (reply.Raided removed cleared) goes = refl
go_not_halts (reply.Restarted records tombstones) goes = refl
go_not_halts (reply.Val stamp void payload) goes = refl
go_not_halts (reply.MetaOf stamp void units) goes = refl
go_not_halts reply.Nothing goes = refl
go_not_halts reply.Gone goes = refl
go_not_halts (reply.StatOf counts) goes = refl
go_not_halts reply.Bye goes = refl
go_not_halts (reply.Fail cause) goes = refl
go_not_halts reply.Halted goes = cc

go_not_bye : (r : Reply) → goes_on r ≡ true → is_bye r ≡ false
go_not_bye (reply.Written stamp) goes = refl
go_not_bye (reply.Flushed buffers) goes = refl
go_not_bye (reply.Healed gates) goes = refl
go_not_bye (reply.Defragged moved vacated) goes = refl
go_not_bye (reply.Expired removed) goes = refl
go_not_bye (reply.Raided removed cleared) goes = refl
go_not_bye (reply.Restarted records tombstones) goes = refl
go_not_bye (reply.Val stamp void payload) goes = refl
go_not_bye (reply.MetaOf stamp void units) goes = refl
go_not_bye reply.Nothing goes = refl
go_not_bye reply.Gone goes = refl
go_not_bye (reply.StatOf counts) goes = refl
go_not_bye reply.Bye goes = cc
go_not_bye (reply.Fail cause) goes = refl
go_not_bye reply.Halted goes = refl

pub go_once : (rs : List Reply) → AllGo rs → once_in rs
go_once [] go = tt
go_once (r ∷ rs) go = rw go.0 (go_once rs go.1)

pub go_halted : (rs : List Reply) → AllGo rs → halted_in rs ≡ false
go_halted [] go = refl
go_halted (r ∷ rs) go = rw (go_not_halts r go.0) (go_halted rs go.1)

pub go_bye : (rs : List Reply) → AllGo rs → bye_in rs ≡ false
go_bye [] go = refl
go_bye (r ∷ rs) go = rw (go_not_bye r go.0) (go_bye rs go.1)

last_is : (b : Bool) (rs : List Reply) → MatchBool b (Unit {0}) (rs ≡ rs)
last_is true rs = tt
last_is false rs = refl

pub last_once : (rs : List Reply) (r : Reply) → AllGo rs → once_in (rs ++ r ∷ [])
last_once [] r go = last_is (goes_on r) []
last_once (s ∷ rs) r go = rw go.0 (last_once rs r go.1)

pub last_halted : (rs : List Reply) (r : Reply) → AllGo rs → halted_in (rs ++ r ∷ []) ≡ halts r
last_halted [] r go = or-false (halts r)
last_halted (s ∷ rs) r go = rw (go_not_halts s go.0) (last_halted rs r go.1)

pub last_bye : (rs : List Reply) (r : Reply) → AllGo rs → bye_in (rs ++ r ∷ []) ≡ is_bye r
last_bye [] r go = or-false (is_bye r)
last_bye (s ∷ rs) r go = rw (go_not_bye s go.0) (last_bye rs r go.1)

pub halts_not : (r : Reply) → (r ≡ reply.Halted → ⊥) → halts r ≡ false
halts_not (reply.Written stamp) not_halted = refl
halts_not (reply.Flushed buffers) not_halted = refl
halts_not (reply.Healed gates) not_halted = refl
halts_not (reply.Defragged moved vacated) not_halted = refl
halts_not (reply.Expired removed) not_halted = refl
halts_not (reply.Raided removed cleared) not_halted = refl
halts_not (reply.Restarted records tombstones) not_halted = refl
halts_not (reply.Val stamp void payload) not_halted = refl
halts_not (reply.MetaOf stamp void units) not_halted = refl
halts_not reply.Nothing not_halted = refl
halts_not reply.Gone not_halted = refl
halts_not (reply.StatOf counts) not_halted = refl
halts_not reply.Bye not_halted = refl
halts_not (reply.Fail cause) not_halted = refl
halts_not reply.Halted not_halted = absurd (not_halted refl)

-- ---- counts

pub count_unended : (rest : List ℕ) → length (rest_line true rest) ≡ length (unended rest)
count_unended [] = refl
count_unended (byte ∷ rest) = refl
