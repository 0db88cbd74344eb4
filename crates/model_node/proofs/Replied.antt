-- Only a flush is replied as one, and only a heal.
use Rattle.std.proofs.Common.{◌≡◌, ◌⊎◌, inl, inr, ℕ, true, false, List, refl, sym, ap, ◌∙◌}
use Rattle.std.specs.Prelude.{Option, Some, None}
use Rattle.rec_format.specs.declared.version.Version.{Version}
use Rattle.model_device.specs.Events.{Answer, stamp_given, happened, found_version, counted, block_chosen, raid_numbered, marks_made, block_scanned}
use Rattle.model_device.specs.Events.{marks_undone, part_ended, raid_over, refused}
use Rattle.model_device.specs.Vacating.{Outcome, did, stopped}
use Rattle.line_proto.specs.declared.command.Command.{Command}
use Rattle.line_proto.specs.declared.command.Command.TheVariants as command
use Rattle.line_proto.specs.declared.reply.Reply.{Reply}
use Rattle.line_proto.specs.declared.reply.Reply.TheVariants as reply
use Rattle.model_node.specs.Commands.{Node, NodeEvent, Does, answer_reply, meta_reply, flushed_reply, healed_reply, defragged_reply, expired_reply, raided_reply}

-- a number for each of the two replies, and for the command that it is to; 0 for all others
abbrev told_by : Reply → ℕ
told_by (reply.Flushed buffers) = 1
told_by (reply.Healed gates) = 2
told_by _ = 0

abbrev asked_by : Command → ℕ
asked_by command.Flush = 1
asked_by command.Heal = 2
asked_by _ = 0

answer_tells_none : (answer : Answer) → told_by (answer_reply answer) ≡ 0
answer_tells_none (stamp_given stamp) = refl
answer_tells_none (happened true) = refl
answer_tells_none (happened false) = refl
answer_tells_none (found_version None) = refl
answer_tells_none (found_version (Some v)) = refl
answer_tells_none (counted n) = refl
answer_tells_none (block_chosen block) = refl
answer_tells_none (raid_numbered number) = refl
answer_tells_none (marks_made n) = refl
answer_tells_none (block_scanned block) = refl
answer_tells_none (marks_undone n) = refl
answer_tells_none (part_ended removed cleared) = refl
answer_tells_none raid_over = refl
answer_tells_none (refused cause) = refl

meta_tells_none : (found : Option Version) → told_by (meta_reply found) ≡ 0
meta_tells_none None = refl
meta_tells_none (Some v) = refl

flushed_tells : (outcome : Outcome) → (told_by (flushed_reply outcome) ≡ 0) ⊎ (told_by (flushed_reply outcome) ≡ 1)
flushed_tells (did a b) = inr refl
flushed_tells (stopped cause) = inl refl

healed_tells : (outcome : Outcome) → (told_by (healed_reply outcome) ≡ 0) ⊎ (told_by (healed_reply outcome) ≡ 2)
healed_tells (did a b) = inr refl
healed_tells (stopped cause) = inl refl

defragged_tells_none : (outcome : Outcome) → told_by (defragged_reply outcome) ≡ 0
defragged_tells_none (did a b) = refl
defragged_tells_none (stopped cause) = refl

expired_tells_none : (outcome : Outcome) → told_by (expired_reply outcome) ≡ 0
expired_tells_none (did a b) = refl
expired_tells_none (stopped cause) = refl

raided_tells_none : (outcome : Outcome) → told_by (raided_reply outcome) ≡ 0
raided_tells_none (did a b) = refl
raided_tells_none (stopped cause) = refl

abbrev Tells : Command → Reply → Type 0
Tells c r = (told_by r ≡ 0) ⊎ (told_by r ≡ asked_by c)

-- what is told of one reply is told of another that it equals
tells_at : (c : Command) (r s : Reply) → r ≡ s → Tells c s → Tells c r
tells_at c r s is (inl none) = inl (ap told_by is ∙ none)
tells_at c r s is (inr one) = inr (ap told_by is ∙ one)

does_tell : (node : Node) (c : Command) (now : ℕ) (work : List NodeEvent) (r : Reply) → Does node c now work r → Tells c r
does_tell node (command.Put digest ttl expect payload) now work r does = inl (ap told_by does.3 ∙ answer_tells_none does.0.answer)
does_tell node (command.Get digest) now work r does = inl (ap told_by does.3 ∙ answer_tells_none does.0.answer)
does_tell node (command.Meta digest) now work r does = inl (ap told_by does.1 ∙ meta_tells_none _)
does_tell node (command.Del digest) now work r does = inl (ap told_by does.3 ∙ answer_tells_none does.0.answer)
does_tell node (command.Bury digest) now work r does = inl (ap told_by does.3 ∙ answer_tells_none does.0.answer)
does_tell node command.Flush now work r does = tells_at command.Flush r (flushed_reply does.0) does.2 (flushed_tells does.0)
does_tell node command.Heal now work r does = tells_at command.Heal r (healed_reply does.0) does.2 (healed_tells does.0)
does_tell node command.Defrag now work r does = inl (ap told_by does.2 ∙ defragged_tells_none does.0)
does_tell node command.Expire now work r does = inl (ap told_by does.2 ∙ expired_tells_none does.0)
does_tell node command.Raid now work r does = inl (ap told_by does.2 ∙ raided_tells_none does.0)
does_tell node command.Stat now work r does = inl (ap told_by does.1)
does_tell node command.Restart now work r does = absurd does
does_tell node command.Quit now work r does = inl (ap told_by does.1)

asks_flush : (c : Command) → asked_by c ≡ 1 → c ≡ command.Flush
asks_flush (command.Put digest ttl expect payload) is = cc
asks_flush (command.Get digest) is = cc
asks_flush (command.Meta digest) is = cc
asks_flush (command.Del digest) is = cc
asks_flush (command.Bury digest) is = cc
asks_flush command.Flush is = refl
asks_flush command.Heal is = cc
asks_flush command.Defrag is = cc
asks_flush command.Expire is = cc
asks_flush command.Raid is = cc
asks_flush command.Stat is = cc
asks_flush command.Restart is = cc
asks_flush command.Quit is = cc

asks_heal : (c : Command) → asked_by c ≡ 2 → c ≡ command.Heal
asks_heal (command.Put digest ttl expect payload) is = cc
asks_heal (command.Get digest) is = cc
asks_heal (command.Meta digest) is = cc
asks_heal (command.Del digest) is = cc
asks_heal (command.Bury digest) is = cc
asks_heal command.Flush is = cc
asks_heal command.Heal is = refl
asks_heal command.Defrag is = cc
asks_heal command.Expire is = cc
asks_heal command.Raid is = cc
asks_heal command.Stat is = cc
asks_heal command.Restart is = cc
asks_heal command.Quit is = cc

pub only_flush : (node : Node) (c : Command) (now : ℕ) (work : List NodeEvent) (r : Reply) (n : ℕ) → Does node c now work r → r ≡ reply.Flushed n → c ≡ command.Flush
only_flush node c now work r n does is = elim (does_tell node c now work r does) [
  | inl none ↦ let e : ◌≡◌ {A = ℕ} 1 0 = ap told_by (sym is) ∙ none in cc
  | inr one ↦ asks_flush c (sym one ∙ ap told_by is)
]

pub only_heal : (node : Node) (c : Command) (now : ℕ) (work : List NodeEvent) (r : Reply) (n : ℕ) → Does node c now work r → r ≡ reply.Healed n → c ≡ command.Heal
only_heal node c now work r n does is = elim (does_tell node c now work r does) [
  | inl none ↦ let e : ◌≡◌ {A = ℕ} 2 0 = ap told_by (sym is) ∙ none in cc
  | inr one ↦ asks_heal c (sym one ∙ ap told_by is)
]
