-- `err memory` is answered only where memory may be wanting.
use Rattle.std.proofs.Common.{◌≡◌, ◌≢◌, ℕ, ◌+◌, Bool, true, false, ◌&&◌, List, [], ◌∷◌, ◌++◌, length, map, refl, inl, inr, subst, sym, ap, ◌∙◌}
use Rattle.std.specs.List.{AllByRecursion}
use Rattle.std.specs.Prelude.{Option, Some, None, MatchOption, MatchBool, is_some, slice_get}
use Rattle.rec_format.specs.declared.version.Digest.{Digest}
use Rattle.rec_format.specs.declared.version.Version.{Version}
use Rattle.rec_format.specs.Places.{device_number}
use Rattle.rec_format.specs.Versions.{bounded_time}
use Rattle.model_device.specs.Book.{Setup}
use Rattle.model_device.specs.Device.{State, seen, entry_is_covered}
use Rattle.model_device.specs.Steps.{Step, removed, after_steps}
use Rattle.model_device.specs.Events.{Cause, too_big, wrong_generation, spent, overload, no_space, damaged, no_memory, disk_fault, stale}
use Rattle.model_device.specs.Events.{Answer, happened, refused, counted, Call, Event, delete_call, flush_call, heal_call}
use Rattle.model_device.specs.Legal.{FlushEnds, seal_all, flush_all, Only, Entombs, Removes, Allowed, Follows}
use Rattle.model_device.specs.Vacating.{Outcome, did, stopped}
use Rattle.line_proto.specs.declared.command.Command.{Command}
use Rattle.line_proto.specs.declared.command.Command.TheVariants as command
use Rattle.line_proto.specs.declared.reply.Reply.{Reply}
use Rattle.line_proto.specs.declared.reply.Reply.TheVariants as reply
use Rattle.line_proto.specs.declared.reply.LineFault.TheVariants as why
use Rattle.model_node.specs.Commands.{Slot, Node, NodeEvent, IsLegalOn, at_place, slot_after, on_device, fault_of, meta_reply, seen_on, answer_reply, flushed_reply, healed_reply, EachDevice, CountsOnce, Does}
use Rattle.model_node.specs.Run.{ImagesLeft, Served, AnswersLine, Carries, ServesAll, node_after_line}
use Rattle.model_node.specs.Memory.{entombs, may_lack_memory, MayLack, SpareMemory}

abbrev Lacking : Reply
Lacking = reply.Fail why.Memory

memory_of : (cause : Cause) → fault_of cause ≡ why.Memory → cause ≡ no_memory
memory_of (too_big units capacity) is = cc
memory_of (wrong_generation g) is = cc
memory_of spent is = cc
memory_of (overload n) is = cc
memory_of (no_space n) is = cc
memory_of damaged is = cc
memory_of no_memory is = refl
memory_of disk_fault is = cc
memory_of (stale number turn) is = cc

happened_spares : (answer : Answer) (was : Bool) → answer ≡ happened was → answer_reply answer ≢ Lacking
happened_spares answer true is lacks = let e : reply.Gone ≡ Lacking = ap answer_reply (sym is) ∙ lacks in cc
happened_spares answer false is lacks = let e : reply.Nothing ≡ Lacking = ap answer_reply (sym is) ∙ lacks in cc

-- ---- a delete that writes nothing

removes_spare : (setup : Setup) (s : State) (event : Event) (digest : Digest) (now : ℕ) → entry_is_covered s digest ≡ false → Removes setup s event digest now → answer_reply event.answer ≢ Lacking
removes_spare setup s event digest now = by_cover (entry_is_covered s digest)
  where
    by_cover : (covered : Bool) → covered ≡ false → MatchBool covered (Entombs setup s event digest now (λ stamp. happened true)) ((event.answer ≡ happened true) × (event.steps ≡ removed digest ∷ []))
        → answer_reply event.answer ≢ Lacking
    by_cover true bare ends lacks = let e : true ≡ false = bare in cc
    by_cover false bare ends lacks = happened_spares event.answer true ends.0 lacks

delete_spares : (setup : Setup) (told : Bool) (s : State) (event : Event) (digest : Digest) (now : ℕ) → (is_some (seen s now digest) && entry_is_covered s digest) ≡ false
    → Allowed setup told s event (delete_call digest now) → answer_reply event.answer ≢ Lacking
delete_spares setup told s event digest now = by_seen (seen s now digest)
  where
    by_seen : (v : Option Version) → (is_some v && entry_is_covered s digest) ≡ false → MatchOption v (Only event (happened false)) (λ _. Removes setup s event digest now)
        → answer_reply event.answer ≢ Lacking
    by_seen None bare only = happened_spares event.answer false only.0
    by_seen (Some v) bare removes = removes_spare setup s event digest now bare removes

delete_on : (told : Bool) (o : Option Slot) (event : Event) (digest : Digest) (now : ℕ) → event.call ≡ delete_call digest now → entombs now digest o ≡ false
    → MatchOption o ⊥ (λ slot. Follows slot.setup told slot.state slot.faults event) → answer_reply event.answer ≢ Lacking
delete_on told None event digest now call bare follows = absurd follows
delete_on told (Some slot) event digest now call bare follows =
    delete_spares slot.setup told slot.state event digest now bare (subst (λ (c : Call). Allowed slot.setup told slot.state event c) call follows.allowed)

-- ---- a flush and a heal

-- Such a call isn't refused for want of memory.
abbrev Spares : Call → Type 0
Spares call = (setup : Setup) (told : Bool) (s : State) (event : Event) → Allowed setup told s event call → event.answer ≢ refused no_memory

abbrev SparesOn : Call → NodeEvent → Type 0
SparesOn call e = e.event.call ≡ call → e.event.answer ≢ refused no_memory

flush_ends_spare : (event : Event) (first rest : List Step) → FlushEnds event first rest → event.answer ≢ refused no_memory
flush_ends_spare event first rest (inl done) is = let e : counted _ ≡ refused no_memory = sym done.1 ∙ is in cc
flush_ends_spare event first rest (inr fails) is = let e : refused disk_fault ≡ refused no_memory = sym fails.0 ∙ is in cc

flush_spares : Spares flush_call
flush_spares setup told s event allowed =
    let sealing : List Step = seal_all s.book in flush_ends_spare event sealing (flush_all (after_steps setup sealing s).book) allowed

heal_spares : Spares heal_call
heal_spares setup told s event (inl closed) is = let e : counted _ ≡ refused no_memory = sym closed.1 ∙ is in cc
heal_spares setup told s event (inr fails) is = let e : refused disk_fault ≡ refused no_memory = sym fails.0 ∙ is in cc

on_slot_spares : (call : Call) → Spares call → (told : Bool) (o : Option Slot) (event : Event) → MatchOption o ⊥ (λ slot. Follows slot.setup told slot.state slot.faults event) → event.call ≡ call
    → event.answer ≢ refused no_memory
on_slot_spares call spares told None event follows is = absurd follows
on_slot_spares call spares told (Some slot) event follows is =
    spares slot.setup told slot.state event (subst (λ (c : Call). Allowed slot.setup told slot.state event c) is follows.allowed)

all_spare : (call : Call) → Spares call → (told : Bool) (node : Node) (work : List NodeEvent) → IsLegalOn told node work → AllByRecursion (SparesOn call) work
all_spare call spares told node [] legal = tt
all_spare call spares told node (e ∷ work) legal =
    (on_slot_spares call spares told (slice_get node e.device) e.event legal.0, all_spare call spares told (at_place e.device (slot_after e.event) node) work legal.1)

all_behind : (call : Call) (first rest : List NodeEvent) → AllByRecursion (SparesOn call) (first ++ rest) → AllByRecursion (SparesOn call) rest
all_behind call [] rest all = all
all_behind call (e ∷ first) rest all = all_behind call first rest all.1

one_spares : (call : Call) (device : ℕ) (slot : Slot) (mine : List Event) (rest : List NodeEvent) (cause : Cause) → CountsOnce call slot mine (stopped cause)
    → AllByRecursion (SparesOn call) (map (on_device device) mine ++ rest) → cause ≢ no_memory
one_spares call device slot mine rest cause counts all is = elim counts.3 [
  | inl done ↦ let e : stopped cause ≡ did _ _ = done.2 in cc
  | inr fails ↦
      let same : stopped cause ≡ stopped fails.0 = fails.2 in
      let its : fails.0 ≡ no_memory = cc in
      let first = (subst (λ (events : List Event). AllByRecursion (SparesOn call) (map (on_device device) events ++ rest)) counts.1 all).0 in
      first counts.2 (fails.1 ∙ ap refused its)
]

each_spares : (call : Call) (device : ℕ) (slots : Node) (a b : ℕ) (work : List NodeEvent) (outcome : Outcome) → EachDevice (CountsOnce call) device slots a b work outcome
    → AllByRecursion (SparesOn call) work → outcome ≢ stopped no_memory
each_spares call device [] a b work outcome each all is = let e : did a b ≡ stopped no_memory = sym each.1 ∙ is in cc
each_spares call device (slot ∷ slots) a b work outcome each all is =
    let parted = subst (AllByRecursion (SparesOn call)) each.2 all in
    elim each.3 [
      | inl goes ↦ each_spares call (device + 1) slots (a + goes.0) (b + goes.1) each.1 outcome goes.3 (all_behind call (map (on_device device) each.0) each.1 parted) is
      | inr ends ↦
          let e : stopped ends.0 ≡ stopped no_memory = sym ends.3 ∙ is in
          let its : ends.0 ≡ no_memory = cc in
          one_spares call device slot each.0 each.1 ends.0 ends.1 parted its
    ]

flushed_spares : (outcome : Outcome) → outcome ≢ stopped no_memory → flushed_reply outcome ≢ Lacking
flushed_spares (did a b) other lacks = cc
flushed_spares (stopped cause) other lacks = let same : fault_of cause ≡ why.Memory = cc in other (ap stopped (memory_of cause same))

healed_spares : (outcome : Outcome) → outcome ≢ stopped no_memory → healed_reply outcome ≢ Lacking
healed_spares (did a b) other lacks = cc
healed_spares (stopped cause) other lacks = let same : fault_of cause ≡ why.Memory = cc in other (ap stopped (memory_of cause same))

-- ---- a command, and a line

meta_spares : (found : Option Version) → meta_reply found ≢ Lacking
meta_spares None is = cc
meta_spares (Some v) is = cc

does_spare : (told : Bool) (node : Node) (c : Command) (now : ℕ) (work : List NodeEvent) (r : Reply) → Does node c now work r → IsLegalOn told node work → may_lack_memory node now c ≡ false
    → r ≢ Lacking
does_spare told node (command.Meta digest) now work r does legal bare lacks = meta_spares (seen_on (slice_get node (device_number (length node) digest)) now digest) (sym does.1 ∙ lacks)
does_spare told node (command.Del digest) now work r does legal bare lacks =
    let device : ℕ = device_number (length node) digest in
    delete_on told (slice_get node device) does.0 digest now does.2 bare (subst (λ (events : List NodeEvent). IsLegalOn told node events) does.1 legal).0 (sym does.3 ∙ lacks)
does_spare told node command.Flush now work r does legal bare lacks =
    flushed_spares does.0 (each_spares flush_call 0 node 0 0 work does.0 does.1 (all_spare flush_call flush_spares told node work legal)) (sym does.2 ∙ lacks)
does_spare told node command.Heal now work r does legal bare lacks =
    healed_spares does.0 (each_spares heal_call 0 node 0 0 work does.0 does.1 (all_spare heal_call heal_spares told node work legal)) (sym does.2 ∙ lacks)
does_spare told node command.Stat now work r does legal bare lacks = let e : reply.StatOf _ ≡ Lacking = sym does.1 ∙ lacks in cc
does_spare told node command.Quit now work r does legal bare lacks = let e : reply.Bye ≡ Lacking = sym does.1 ∙ lacks in cc
does_spare told node command.Restart now work r does legal bare lacks = absurd does
does_spare told node (command.Put digest ttl expect payload) now work r does legal bare lacks = let e : true ≡ false = bare in cc
does_spare told node (command.Get digest) now work r does legal bare lacks = let e : true ≡ false = bare in cc
does_spare told node (command.Bury digest) now work r does legal bare lacks = let e : true ≡ false = bare in cc
does_spare told node command.Defrag now work r does legal bare lacks = let e : true ≡ false = bare in cc
does_spare told node command.Expire now work r does legal bare lacks = let e : true ≡ false = bare in cc
does_spare told node command.Raid now work r does legal bare lacks = let e : true ≡ false = bare in cc

-- Carried out, a command is answered so only where it takes memory.
pub carries_spares : (left : ImagesLeft) (told : Bool) (node : Node) (c : Command) (now : ℕ) (work : List NodeEvent) (restarted : Option Node) (r : Reply)
    → Carries left told node c now work restarted r → IsLegalOn told node work → r ≡ Lacking → may_lack_memory node now c ≡ true
carries_spares left told node c now work restarted r (inl made) legal lacks = by_test (may_lack_memory node now c) refl
  where
    by_test : (test : Bool) → may_lack_memory node now c ≡ test → may_lack_memory node now c ≡ true
    by_test true is = is
    by_test false is = absurd (does_spare told node c now work r made.1 legal is lacks)
carries_spares left told node c now work restarted r (inr ends) legal lacks = elim ends.1.3 [
  | inl again ↦ let e : reply.Restarted _ _ ≡ Lacking = sym again.1 ∙ lacks in cc
  | inr halted ↦ let e : reply.Halted ≡ Lacking = sym halted.1 ∙ lacks in cc
]

line_spares : (left : ImagesLeft) (told : Bool) (node : Node) (line : Option (List ℕ)) (served : Served) → AnswersLine left told node line served → IsLegalOn told node served.work
    → served.reply ≡ Lacking → MayLack node line served.time
line_spares left told node None served refuses legal lacks = let e : reply.Fail why.Line ≡ Lacking = sym refuses.3 ∙ lacks in cc
line_spares left told node (Some line) served (inl does) legal lacks =
    subst (λ (time : Option ℕ). MayLack node (Some line) time) (sym does.3)
    (does.0, does.2, carries_spares left told node does.0 (bounded_time does.1) served.work served.restarted served.reply does.4 legal lacks)
line_spares left told node (Some line) served (inr (inl refuses)) legal lacks = let e : reply.Fail why.Line ≡ Lacking = sym refuses.1.3 ∙ lacks in cc
line_spares left told node (Some line) served (inr (inr put)) legal lacks = subst (λ (time : Option ℕ). MayLack node (Some line) time) (sym put.1.0) put.0

-- Of each run no line is answered so but where memory may be wanting.
pub all_spared : (left : ImagesLeft) (told : Bool) (node : Node) (lines : List Served) → ServesAll left told node lines → SpareMemory node lines
all_spared left told node [] serves = tt
all_spared left told node (served ∷ lines) serves =
    (line_spares left told node served.line served serves.0.answers serves.0.work, all_spared left told (node_after_line served node) lines serves.1)
