-- What the replies to the devices' answers are not.
use Rattle.std.proofs.Common.{◌≡◌, ℕ, Bool, true, false, List, refl, sym, ◌∙◌}
use Rattle.std.specs.Prelude.{Option, Some, None, Result, Ok, Err}
use Rattle.rec_format.specs.declared.version.Digest.{Digest}
use Rattle.rec_format.specs.declared.version.Stamp.{Stamp}
use Rattle.rec_format.specs.declared.version.Version.{Version}
use Rattle.rec_format.specs.declared.entry.Counts.{Counts}
use Rattle.block_shelf.specs.declared.refusals.ReadRefusal.{ReadRefusal}
use Rattle.block_shelf.specs.declared.refusals.ReadRefusal.TheVariants as read
use Rattle.shard_core.specs.declared.refusals.WriteRefusal.{WriteRefusal}
use Rattle.shard_core.specs.declared.refusals.WriteRefusal.TheVariants as write
use Rattle.shard_core.specs.Calls.{write_answer, delete_answer, read_answer}
use Rattle.line_proto.specs.declared.command.Command.{Command}
use Rattle.line_proto.specs.declared.command.Command.TheVariants as command
use Rattle.line_proto.specs.declared.reply.Reply.{Reply}
use Rattle.line_proto.specs.declared.reply.Reply.TheVariants as reply
use Rattle.model_device.specs.Events.{Answer, stamp_given, happened, found_version, counted, block_chosen, raid_numbered, marks_made, block_scanned, marks_undone, part_ended, raid_over, refused}
use Rattle.model_device.specs.Vacating.{Outcome, did, stopped}
use Rattle.model_node.specs.Commands.{Node, NodeEvent, Does, node_counts, answer_reply, meta_reply, flushed_reply, healed_reply, defragged_reply, expired_reply, raided_reply}

-- ---- no reply halts

pub written_goes_on : (r : Result Stamp WriteRefusal) → answer_reply (write_answer r) ≡ reply.Halted → ⊥
written_goes_on (Ok stamp) e = cc
written_goes_on (Err (write.Big units capacity)) e = cc
written_goes_on (Err (write.Gen seen)) e = cc
written_goes_on (Err write.Spent) e = cc
written_goes_on (Err (write.Load pending)) e = cc
written_goes_on (Err (write.Space free)) e = cc
written_goes_on (Err write.Memory) e = cc
written_goes_on (Err write.Fault) e = cc

pub deleted_goes_on : (r : Result Bool WriteRefusal) → answer_reply (delete_answer r) ≡ reply.Halted → ⊥
deleted_goes_on (Ok true) e = cc
deleted_goes_on (Ok false) e = cc
deleted_goes_on (Err (write.Big units capacity)) e = cc
deleted_goes_on (Err (write.Gen seen)) e = cc
deleted_goes_on (Err write.Spent) e = cc
deleted_goes_on (Err (write.Load pending)) e = cc
deleted_goes_on (Err (write.Space free)) e = cc
deleted_goes_on (Err write.Memory) e = cc
deleted_goes_on (Err write.Fault) e = cc

pub read_goes_on : (r : Result (Option Version) ReadRefusal) → answer_reply (read_answer r) ≡ reply.Halted → ⊥
read_goes_on (Ok None) e = cc
read_goes_on (Ok (Some v)) e = cc
read_goes_on (Err (read.Damaged kept bytes)) e = cc
read_goes_on (Err read.Memory) e = cc
read_goes_on (Err read.Fault) e = cc

pub known_goes_on : (v : Option Version) → meta_reply v ≡ reply.Halted → ⊥
known_goes_on None e = cc
known_goes_on (Some v) e = cc

pub stat_goes_on : (counts : Counts) → reply.StatOf counts ≡ reply.Halted → ⊥
stat_goes_on counts e = cc

pub restart_goes_on : (a b : ℕ) → reply.Restarted a b ≡ reply.Halted → ⊥
restart_goes_on a b e = cc

pub flushed_goes_on : (outcome : Outcome) → flushed_reply outcome ≡ reply.Halted → ⊥
flushed_goes_on (did a b) e = cc
flushed_goes_on (stopped cause) e = cc

pub healed_goes_on : (outcome : Outcome) → healed_reply outcome ≡ reply.Halted → ⊥
healed_goes_on (did a b) e = cc
healed_goes_on (stopped cause) e = cc

pub defragged_goes_on : (outcome : Outcome) → defragged_reply outcome ≡ reply.Halted → ⊥
defragged_goes_on (did a b) e = cc
defragged_goes_on (stopped cause) e = cc

pub expired_goes_on : (outcome : Outcome) → expired_reply outcome ≡ reply.Halted → ⊥
expired_goes_on (did a b) e = cc
expired_goes_on (stopped cause) e = cc

pub raided_goes_on : (outcome : Outcome) → raided_reply outcome ≡ reply.Halted → ⊥
raided_goes_on (did a b) e = cc
raided_goes_on (stopped cause) e = cc

-- ---- only a raid is replied as one

answer_no_raid : (answer : Answer) (a b : ℕ) → answer_reply answer ≡ reply.Raided a b → ⊥
answer_no_raid (stamp_given stamp) a b e = cc
answer_no_raid (happened true) a b e = cc
answer_no_raid (happened false) a b e = cc
answer_no_raid (found_version None) a b e = cc
answer_no_raid (found_version (Some v)) a b e = cc
answer_no_raid (counted n) a b e = cc
answer_no_raid (block_chosen block) a b e = cc
answer_no_raid (raid_numbered number) a b e = cc
answer_no_raid (marks_made n) a b e = cc
answer_no_raid (block_scanned n) a b e = cc
answer_no_raid (marks_undone n) a b e = cc
answer_no_raid (part_ended removed cleared) a b e = cc
answer_no_raid raid_over a b e = cc
answer_no_raid (refused cause) a b e = cc

known_no_raid : (v : Option Version) (a b : ℕ) → meta_reply v ≡ reply.Raided a b → ⊥
known_no_raid None a b e = cc
known_no_raid (Some v) a b e = cc

flushed_no_raid : (outcome : Outcome) (a b : ℕ) → flushed_reply outcome ≡ reply.Raided a b → ⊥
flushed_no_raid (did x y) a b e = cc
flushed_no_raid (stopped cause) a b e = cc

healed_no_raid : (outcome : Outcome) (a b : ℕ) → healed_reply outcome ≡ reply.Raided a b → ⊥
healed_no_raid (did x y) a b e = cc
healed_no_raid (stopped cause) a b e = cc

defragged_no_raid : (outcome : Outcome) (a b : ℕ) → defragged_reply outcome ≡ reply.Raided a b → ⊥
defragged_no_raid (did x y) a b e = cc
defragged_no_raid (stopped cause) a b e = cc

expired_no_raid : (outcome : Outcome) (a b : ℕ) → expired_reply outcome ≡ reply.Raided a b → ⊥
expired_no_raid (did x y) a b e = cc
expired_no_raid (stopped cause) a b e = cc

pub only_raid : (node : Node) (c : Command) (now : ℕ) (work : List NodeEvent) (r : Reply) (a b : ℕ) → Does node c now work r → r ≡ reply.Raided a b → c ≡ command.Raid
only_raid node (command.Put digest ttl expect payload) now work r a b does is = absurd (answer_no_raid does.0.answer a b (sym does.3 ∙ is))
only_raid node (command.Get digest) now work r a b does is = absurd (answer_no_raid does.0.answer a b (sym does.3 ∙ is))
only_raid node (command.Meta digest) now work r a b does is = absurd (known_no_raid _ a b (sym does.1 ∙ is))
only_raid node (command.Del digest) now work r a b does is = absurd (answer_no_raid does.0.answer a b (sym does.3 ∙ is))
only_raid node (command.Bury digest) now work r a b does is = absurd (answer_no_raid does.0.answer a b (sym does.3 ∙ is))
only_raid node command.Flush now work r a b does is = absurd (flushed_no_raid does.0 a b (sym does.2 ∙ is))
only_raid node command.Heal now work r a b does is = absurd (healed_no_raid does.0 a b (sym does.2 ∙ is))
only_raid node command.Defrag now work r a b does is = absurd (defragged_no_raid does.0 a b (sym does.2 ∙ is))
only_raid node command.Expire now work r a b does is = absurd (expired_no_raid does.0 a b (sym does.2 ∙ is))
only_raid node command.Raid now work r a b does is = refl
only_raid node command.Stat now work r a b does is = let both : reply.StatOf (node_counts node) ≡ reply.Raided a b = sym does.1 ∙ is in absurd cc
only_raid node command.Restart now work r a b does is = absurd does
only_raid node command.Quit now work r a b does is = let both : reply.Bye ≡ reply.Raided a b = sym does.1 ∙ is in absurd cc

pub one_digest : (a b : Digest) → ◌≡◌ {A = Option Digest} (Some a) (Some b) → a ≡ b
one_digest a b is = cc
