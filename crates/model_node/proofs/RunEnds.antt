-- What a run doesn't end with. No line but a restart halts, so a run that was served without one ends with no refused device; and one
-- that took nothing ends with none that failed, where nothing is pending when it starts.
use Rattle.std.proofs.Common.{◌≡◌, ℕ, zero, suc, Bool, true, false, List, [], ◌∷◌, ◌++◌, length, map, refl, inl, inr, subst, sym, ap, ◌∙◌}
use Rattle.std.specs.List.{AllByRecursion}
use Rattle.model_node.specs.declared.run_end.DeviceRefusal.{DeviceRefusal}
use Rattle.std.specs.Prelude.{Option, Some, None, IfSome, MatchOption, MatchBool, IsTrue, is_some, flat_map, slice_get}
use Rattle.std.proofs.lemmas.Bool.{or_from}
use Rattle.rec_format.specs.declared.version.Digest.{Digest}
use Rattle.rec_format.specs.declared.version.Stamp.{Stamp}
use Rattle.rec_format.specs.declared.version.Version.{Version}
use Rattle.rec_format.specs.Places.{device_number}
use Rattle.rec_format.specs.Versions.{version_units, a_tombstone}
use Rattle.model_device.specs.Book.{Setup, Buffer, client, defrag, filling_buffer}
use Rattle.model_device.specs.Device.{State, seen, entry_is_covered, next_stamp_of}
use Rattle.model_device.specs.Steps.{Step, removed, after_steps}
use Rattle.model_device.specs.Events.{Cause, Answer, stamp_given, happened, Call, Event, put_call, bury_call, delete_call, get_call}
use Rattle.model_device.specs.Legal.{FlushEnds, StopsIn, seal_if, seal_all, flush_of, flush_all, Only, Unless, WriteEnds, Entombs, Removes, WhereReads}
use Rattle.model_device.specs.Legal.{no_write, the_stamp, tombstone_reserve, put_refusal, new_put, Allowed, Follows}
use Rattle.line_proto.specs.declared.command.Command.{Command}
use Rattle.line_proto.specs.declared.command.Command.TheVariants as command
use Rattle.line_proto.specs.declared.reply.Reply.{Reply}
use Rattle.line_proto.specs.Lines.{IsCommandLine}
use Rattle.line_proto.specs.Stream.{ended}
use Rattle.model_node.specs.declared.run_end.RunEnd.{RunEnd}
use Rattle.model_node.specs.declared.run_end.RunEnd.TheVariants as end
use Rattle.model_node.specs.Commands.{Slot, Node, NodeEvent, IsLegalOn, node_after, on_device, found_reply, meta_reply, seen_on, answer_reply, flushed_reply}
use Rattle.model_node.specs.Commands.{healed_reply, defragged_reply, expired_reply, raided_reply, Does}
use Rattle.model_device.specs.Vacating.{Outcome, did, stopped}
use Rattle.model_node.specs.Run.{ImagesLeft, Served, AnswersLine, ServesAll, IsRun, ClosesEach, halts, is_halted, node_after_line, last_node}
use Rattle.model_node.specs.Outside.{Outside, TakesLines, rest_line}
use Rattle.model_node.specs.RunEnd.{HasCause, IsQuiet, AllQuiet}
use Rattle.model_node.specs.Headline.{HoldsReplies}

-- ---- no line but a restart halts

answer_goes : (a b : Answer) → a ≡ b → halts (answer_reply b) ≡ false → halts (answer_reply a) ≡ false
answer_goes a b is goes = ap (λ (x : Answer). halts (answer_reply x)) is ∙ goes

found_goes : (found : Option Version) → halts (found_reply found) ≡ false
found_goes None = refl
found_goes (Some v) = refl

meta_goes : (found : Option Version) → halts (meta_reply found) ≡ false
meta_goes None = refl
meta_goes (Some v) = refl

write_goes : (setup : Setup) (s : State) (event : Event) (digest : Digest) (v : Version) (ok : Answer) → halts (answer_reply ok) ≡ false → WriteEnds setup s event digest v ok
    → halts (answer_reply event.answer) ≡ false
write_goes setup s event digest v ok goes (inl done) = answer_goes event.answer _ done.0 goes
write_goes setup s event digest v ok goes (inr fault) = answer_goes event.answer _ fault.0 refl

unless_goes : (event : Event) (cause : Option Cause) (Rest : Type 0) → (Rest → halts (answer_reply event.answer) ≡ false) → Unless event cause Rest → halts (answer_reply event.answer) ≡ false
unless_goes event None Rest goes ends = goes ends
unless_goes event (Some cause) Rest goes ends = answer_goes event.answer _ ends.0 refl

put_goes : (setup : Setup) (told : Bool) (s : State) (event : Event) (digest : Digest) (ttl : ℕ) (expect : Option ℕ) (payload : List ℕ) (now : ℕ)
    → Allowed setup told s event (put_call digest ttl expect payload now) → halts (answer_reply event.answer) ≡ false
put_goes setup told s event digest ttl expect payload now (inl no_memory) = answer_goes event.answer _ no_memory.0 refl
put_goes setup told s event digest ttl expect payload now (inr unless) =
    let v : Version = new_put setup s digest ttl payload now in
    unless_goes event (put_refusal setup s digest expect payload now) (WriteEnds setup s event digest v (stamp_given v.stamp)) (write_goes setup s event digest v (stamp_given v.stamp) refl) unless

entombs_goes : (setup : Setup) (s : State) (event : Event) (digest : Digest) (now : ℕ) (ok : Stamp → Answer) → ((stamp : Stamp) → halts (answer_reply (ok stamp)) ≡ false)
    → Entombs setup s event digest now ok → halts (answer_reply event.answer) ≡ false
entombs_goes setup s event digest now ok goes (inl no_memory) = answer_goes event.answer _ no_memory.0 refl
entombs_goes setup s event digest now ok goes (inr unless) =
    let stamp : Option Stamp = next_stamp_of setup s now digest in
    let v : Version = a_tombstone (the_stamp stamp) in
    unless_goes event (no_write setup tombstone_reserve (version_units v) stamp s) (WriteEnds setup s event digest v (ok (the_stamp stamp)))
    (write_goes setup s event digest v (ok (the_stamp stamp)) (goes (the_stamp stamp))) unless

removes_go : (setup : Setup) (s : State) (event : Event) (digest : Digest) (now : ℕ) → Removes setup s event digest now → halts (answer_reply event.answer) ≡ false
removes_go setup s event digest now = by_cover (entry_is_covered s digest)
  where
    by_cover : (covered : Bool) → MatchBool covered (Entombs setup s event digest now (λ stamp. happened true)) ((event.answer ≡ happened true) × (event.steps ≡ removed digest ∷ []))
        → halts (answer_reply event.answer) ≡ false
    by_cover true entombs = entombs_goes setup s event digest now (λ stamp. happened true) (λ stamp. refl) entombs
    by_cover false drops = answer_goes event.answer _ drops.0 refl

delete_goes : (setup : Setup) (told : Bool) (s : State) (event : Event) (digest : Digest) (now : ℕ) → Allowed setup told s event (delete_call digest now) → halts (answer_reply event.answer) ≡ false
delete_goes setup told s event digest now = by_seen (seen s now digest)
  where
    by_seen : (v : Option Version) → MatchOption v (Only event (happened false)) (λ _. Removes setup s event digest now) → halts (answer_reply event.answer) ≡ false
    by_seen None only = answer_goes event.answer _ only.0 refl
    by_seen (Some v) removes = removes_go setup s event digest now removes

reads_go : (told : Bool) (event : Event) (v : Option Version) → WhereReads told event v → halts (answer_reply event.answer) ≡ false
reads_go told event None reads = absurd reads
reads_go told event (Some v) (inl damaged) = answer_goes event.answer _ damaged.1 refl
reads_go told event (Some v) (inr fails) = answer_goes event.answer _ fails.0 refl

get_goes : (setup : Setup) (told : Bool) (s : State) (event : Event) (digest : Digest) (now : ℕ) → Allowed setup told s event (get_call digest now) → halts (answer_reply event.answer) ≡ false
get_goes setup told s event digest now (inl found) = answer_goes event.answer _ found.1 (found_goes found.0)
get_goes setup told s event digest now (inr (inl no_memory)) = answer_goes event.answer _ no_memory.0 refl
get_goes setup told s event digest now (inr (inr reads)) = reads_go told event (seen s now digest) reads

on_slot : (o : Option Slot) (P : Slot → Type 0) (Q : Type 0) → ((slot : Slot) → P slot → Q) → MatchOption o ⊥ P → Q
on_slot None P Q has h = absurd h
on_slot (Some slot) P Q has h = has slot h

one_goes : (told : Bool) (node : Node) (n : ℕ) (event : Event) (call : Call) (work : List NodeEvent) (r : Reply) → work ≡ on_device n event ∷ [] → event.call ≡ call → r ≡ answer_reply event.answer
    → ((slot : Slot) → Allowed slot.setup told slot.state event call → halts (answer_reply event.answer) ≡ false) → IsLegalOn told node work → halts r ≡ false
one_goes told node n event call work r is call_is reply_is goes legal =
    ap halts reply_is
    ∙ on_slot (slice_get node n) (λ slot. Follows slot.setup told slot.state slot.faults event) (halts (answer_reply event.answer) ≡ false)
    (λ slot follows. goes slot (subst (λ (c : Call). Allowed slot.setup told slot.state event c) call_is follows.allowed))
    (subst (λ (events : List NodeEvent). IsLegalOn told node events) is legal).0

flushed_goes : (outcome : Outcome) → halts (flushed_reply outcome) ≡ false
flushed_goes (did a b) = refl
flushed_goes (stopped cause) = refl

healed_goes : (outcome : Outcome) → halts (healed_reply outcome) ≡ false
healed_goes (did a b) = refl
healed_goes (stopped cause) = refl

defragged_goes : (outcome : Outcome) → halts (defragged_reply outcome) ≡ false
defragged_goes (did a b) = refl
defragged_goes (stopped cause) = refl

expired_goes : (outcome : Outcome) → halts (expired_reply outcome) ≡ false
expired_goes (did a b) = refl
expired_goes (stopped cause) = refl

raided_goes : (outcome : Outcome) → halts (raided_reply outcome) ≡ false
raided_goes (did a b) = refl
raided_goes (stopped cause) = refl

does_goes : (told : Bool) (node : Node) (c : Command) (now : ℕ) (work : List NodeEvent) (r : Reply) → Does node c now work r → IsLegalOn told node work → halts r ≡ false
does_goes told node (command.Put digest ttl expect payload) now work r does legal =
    one_goes told node _ does.0 (put_call digest ttl expect payload now) work r does.1 does.2 does.3
    (λ slot allowed. put_goes slot.setup told slot.state does.0 digest ttl expect payload now allowed) legal
does_goes told node (command.Get digest) now work r does legal =
    one_goes told node _ does.0 (get_call digest now) work r does.1 does.2 does.3 (λ slot allowed. get_goes slot.setup told slot.state does.0 digest now allowed) legal
does_goes told node command.Flush now work r does legal = ap halts does.2 ∙ flushed_goes does.0
does_goes told node command.Heal now work r does legal = ap halts does.2 ∙ healed_goes does.0
does_goes told node command.Quit now work r does legal = ap halts does.1
does_goes told node (command.Meta digest) now work r does legal = ap halts does.1 ∙ meta_goes (seen_on (slice_get node (device_number (length node) digest)) now digest)
does_goes told node (command.Del digest) now work r does legal =
    one_goes told node _ does.0 (delete_call digest now) work r does.1 does.2 does.3 (λ slot allowed. delete_goes slot.setup told slot.state does.0 digest now allowed) legal
does_goes told node (command.Bury digest) now work r does legal =
    one_goes told node _ does.0 (bury_call digest now) work r does.1 does.2 does.3
    (λ slot allowed. entombs_goes slot.setup slot.state does.0 digest now stamp_given (λ stamp. refl) allowed) legal
does_goes told node command.Defrag now work r does legal = ap halts does.2 ∙ defragged_goes does.0
does_goes told node command.Expire now work r does legal = ap halts does.2 ∙ expired_goes does.0
does_goes told node command.Raid now work r does legal = ap halts does.2 ∙ raided_goes does.0
does_goes told node command.Stat now work r does legal = ap halts does.1
does_goes told node command.Restart now work r does legal = absurd does

-- the line doesn't ask for a restart
abbrev pub IsNoRestart : Option (List ℕ) → Type 0
IsNoRestart line = IfSome line (λ bytes. IsCommandLine bytes command.Restart → ⊥)

line_goes : (left : ImagesLeft) (told : Bool) (node : Node) (line : Option (List ℕ)) (served : Served) → IsNoRestart line → AnswersLine left told node line served → IsLegalOn told node served.work
    → halts served.reply ≡ false
line_goes left told node None served other refuses legal = ap halts refuses.3
line_goes left told node (Some line) served other (inr (inl refuses)) legal = ap halts refuses.1.3
line_goes left told node (Some line) served other (inr (inr lacks)) legal = ap halts lacks.1.3
line_goes left told node (Some line) served other (inl does) legal = elim does.4 [
  | inl made ↦ does_goes told node does.0 _ served.work served.reply made.1 legal
  | inr ends ↦ absurd (other (subst (IsCommandLine line) ends.0 does.2))
]

-- of a run without a restart
pub none_halts : (left : ImagesLeft) (told : Bool) (node : Node) (lines : List Served) → AllByRecursion (λ s. IsNoRestart s.line) lines → ServesAll left told node lines → is_halted lines ≡ false
none_halts left told node [] others serves = refl
none_halts left told node (served ∷ lines) others serves =
    or_from (halts served.reply) (is_halted lines) (line_goes left told node served.line served others.0 serves.0.answers serves.0.work)
    (none_halts left told (node_after_line served node) lines others.1 serves.1)

-- ---- nothing was taken

no_lines : (lines : List (List ℕ)) (rest : List ℕ) → [] ≡ flat_map ended lines ++ rest → (lines ≡ []) × (rest ≡ [])
no_lines [] rest is = (refl, sym is)
no_lines ([] ∷ lines) rest is = cc
no_lines ((b ∷ line) ∷ lines) rest is = cc

no_rest : (at_end : Bool) → rest_line at_end [] ≡ []
no_rest true = refl
no_rest false = refl

none_before : (served : List Served) (unserved : List (Option (List ℕ))) → [] ≡ map (λ s. s.line) served ++ unserved → served ≡ []
none_before [] unserved is = refl
none_before (s ∷ served) unserved is = cc

-- so no line was served
pub none_served : (at_end : Bool) (served : List Served) (unserved : List (Option (List ℕ))) → TakesLines [] at_end served unserved → served ≡ []
none_served at_end served unserved takes =
    let none = no_lines takes.lines takes.rest takes.falls.whole in
    none_before served unserved
    (sym ((λ i. map Some (none.0 i) ++ rest_line at_end (none.1 i)) ∙ no_rest at_end) ∙ takes.in_order)

-- ---- nothing is pending

stops_nowhere : (some : List Step) → StopsIn [] some → ⊥
stops_nowhere [] stops = let e : [] ≡ stops.0 ∷ stops.1 = stops.2 in cc
stops_nowhere (step ∷ some) stops = let e : [] ≡ step ∷ (some ++ stops.0 ∷ stops.1) = stops.2 in cc

pub no_steps : (event : Event) (first rest : List Step) → first ≡ [] → rest ≡ [] → FlushEnds event first rest → event.steps ≡ []
no_steps event first rest no_first no_rest (inl all) = all.0 ∙ (λ i. no_first i ++ no_rest i)
no_steps event first rest no_first no_rest (inr fails) = absurd (stops_nowhere fails.2 (subst (λ (steps : List Step). StopsIn steps fails.2) no_rest fails.4))

-- a flush makes no step then
quiet_flush : (setup : Setup) (s : State) (event : Event) → s.book.buffers ≡ []
    → FlushEnds event (seal_all s.book) (flush_all (after_steps setup (seal_all s.book) s).book) → event.steps ≡ []
quiet_flush setup s event quiet ends =
    let no_seal : seal_all s.book ≡ [] = ap (λ (bs : List Buffer). seal_if (is_some (filling_buffer client bs)) client ++ seal_if (is_some (filling_buffer defrag bs)) defrag) quiet in
    no_steps event (seal_all s.book) (flush_all (after_steps setup (seal_all s.book) s).book) no_seal
    (ap (λ (steps : List Step). flush_all (after_steps setup steps s).book) no_seal ∙ ap (λ (bs : List Buffer). flat_map flush_of bs) quiet) ends

-- the closing of one device leaves nothing pending
quiet_closing : (told : Bool) (slot : Slot) (closing : List NodeEvent) → slot.state.book.buffers ≡ []
    → ClosesEach 0 (slot ∷ []) closing → IsLegalOn told (slot ∷ []) closing → AllQuiet (node_after closing (slot ∷ []))
quiet_closing told slot closing quiet closes legal =
    let event = closes.3.0 in
    let one : closing ≡ on_device 0 event ∷ [] = closes.2 ∙ (λ i. map (on_device 0) (closes.3.1 i) ++ closes.4 i) in
    let follows : Follows slot.setup told slot.state slot.faults event = (subst (λ (events : List NodeEvent). IsLegalOn told (slot ∷ []) events) one legal).0 in
    let none : event.steps ≡ [] = quiet_flush slot.setup slot.state event quiet (subst (λ (call : Call). Allowed slot.setup told slot.state event call) closes.3.2 follows.allowed) in
    subst (λ (events : List NodeEvent). AllQuiet (node_after events (slot ∷ []))) (sym one)
    (ap (λ (steps : List Step). (after_steps slot.setup steps slot.state).book.buffers) none ∙ quiet, tt)

quiet_at : (node : Node) (device : ℕ) → AllQuiet node → IsQuiet (slice_get node device)
quiet_at [] device quiet = tt
quiet_at (slot ∷ slots) zero quiet = quiet.0
quiet_at (slot ∷ slots) (suc n) quiet = quiet_at slots n quiet.1

-- ---- how a run doesn't end

module _ (Starts : Node → Type 0) (told : Bool) (setups : List Setup) (o : Outside) (since : ImagesLeft) (h : HoldsReplies Starts told setups o since) where
  cause_at : (e : RunEnd) → o.end ≡ e → HasCause e o h.first h.lines h.unserved h.closing
  cause_at e is = subst (λ (x : RunEnd). HasCause x o h.first h.lines h.unserved h.closing) is h.cause

  not_halted : AllByRecursion (λ s. IsNoRestart s.line) h.lines → IsTrue (is_halted h.lines) → ⊥
  not_halted others halted = let e : true ≡ false = sym halted ∙ none_halts since told h.first h.lines others h.is_run.serves in cc

  -- behind the start a device is refused by a restart alone
  pub never_refused : AllByRecursion (λ s. IsNoRestart s.line) h.lines → (device : ℕ) (why : DeviceRefusal) → o.end ≡ end.DeviceRefused device why → ⊥
  never_refused others device why is = not_halted others (cause_at (end.DeviceRefused device why) is).0.halted

  none_taken : o.taken ≡ [] → h.lines ≡ []
  none_taken empty = none_served o.ended h.lines h.unserved (subst (λ (taken : List ℕ). TakesLines taken o.ended h.lines h.unserved) empty h.takes)

  -- and one that failed has a buffer pending
  quiet_last : (slot : Slot) → h.first ≡ slot ∷ [] → slot.state.book.buffers ≡ [] → o.taken ≡ [] → AllQuiet (last_node h.first h.lines h.closing)
  quiet_last slot first_is quiet empty =
      let none : h.lines ≡ [] = none_taken empty in
      let run : IsRun since told (slot ∷ []) [] h.closing =
      subst (λ (lines : List Served). IsRun since told (slot ∷ []) lines h.closing) none (subst (λ (node : Node). IsRun since told node h.lines h.closing) first_is h.is_run) in
      subst (λ (node : Node). AllQuiet (last_node node h.lines h.closing)) (sym first_is)
      (subst (λ (lines : List Served). AllQuiet (last_node (slot ∷ []) lines h.closing)) (sym none) (quiet_closing told slot h.closing quiet run.closes run.legal))

  pub never_failed : (slot : Slot) → h.first ≡ slot ∷ [] → slot.state.book.buffers ≡ [] → o.taken ≡ [] → (device : ℕ) → o.end ≡ end.DeviceFault device → ⊥
  never_failed slot first_is quiet empty device is = elim (cause_at (end.DeviceFault device) is) [
    | inl closes ↦ closes.1.left (quiet_at (last_node h.first h.lines h.closing) device (quiet_last slot first_is quiet empty))
    | inr halts ↦ not_halted (subst (AllByRecursion (λ s. IsNoRestart s.line)) (sym (none_taken empty)) tt) halts.0.halted
  ]
