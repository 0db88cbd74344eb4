-- With commit on, what a line wrote is flushed when it is answered as done.
use Rattle.std.proofs.Common.{◌≡◌, ℕ, zero, suc, ◌+◌, Bool, true, false, cond, List, [], ◌∷◌, ◌++◌, map, refl, sym, ap, ◌∙◌, subst, inl, inr}
use Rattle.std.specs.Prelude.{Option, Some, None, MatchOption, IsTrue, ◌==◌, slice_get}
use Rattle.std.specs.List.{AllByRecursion}
use Rattle.std.proofs.lemmas.List.{append-nil}
use Rattle.std.proofs.lemmas.Bool.{eqb-true, eqb-false}
use Rattle.law_lists.proofs.Each.{all_joined, all_map}
use Rattle.rec_format.specs.declared.version.Digest.{Digest}
use Rattle.model_device.specs.Device.{State}
use Rattle.model_device.specs.Steps.{Step, wrote}
use Rattle.model_device.specs.Events.{Answer, stamp_given, happened, found_version, counted, block_chosen, raid_numbered, marks_made, block_scanned}
use Rattle.model_device.specs.Events.{marks_undone, part_ended, raid_over, refused, Event, Call, put_call, bury_call, delete_call, expire_call, get_call, after_event}
use Rattle.model_device.specs.Legal.{Follows, Allowed}
use Rattle.model_device.specs.Vacating.{Outcome, did, stopped}
use Rattle.law_trail.specs.Numbers.{HasNumbers}
use Rattle.law_commit.specs.Commits.{IsDone, top_is_flushed, flushed_if_wrote}
use Rattle.law_commit.proofs.Unwriting.{WritesNone, none_flushed}
use Rattle.law_commit.proofs.Committing.{commits}
use Rattle.law_commit.proofs.Tops.{removal_stays}
use Rattle.line_proto.specs.declared.command.Command.{Command}
use Rattle.line_proto.specs.declared.command.Command.TheVariants as command
use Rattle.line_proto.specs.declared.reply.Reply.{Reply}
use Rattle.model_node.specs.Commands.{Slot, Node, NodeEvent, at_place, slot_after, node_after, IsLegalOn, on_device, answer_reply, EachDevice, expired_entries, Expires, expired_reply, Does}
use Rattle.model_node.specs.Run.{ImagesLeft, Served, ServesAll, AnswersLine, node_or, node_at_reply, node_after_line, steps_on, WritesFlushed}
use Rattle.model_node.specs.Headline.{On, is_failed, CommitsAt, CommitsAll}
use Rattle.model_node.proofs.Unwritten.{on_each, all_flushes, all_heals, all_defrags, all_raids, calls_write_nothing}
use Rattle.model_node.proofs.Expiries.{HasRemoved, all_removed}
use Rattle.model_node.proofs.Numbered.{AreNumbered, steps_numbered, line_numbered}

-- ---- one event

abbrev CommitsEvent : Slot → Event → Type 0
CommitsEvent slot event = IsTrue slot.setup.commit → is_failed (answer_reply event.answer) ≡ false → AllByRecursion (flushed_if_wrote (after_event slot.setup event slot.state)) event.steps

-- what is replied as done was done
done_of : (answer : Answer) → is_failed (answer_reply answer) ≡ false → IsDone answer
done_of (refused cause) done = let never : true ≡ false = done in cc
done_of (stamp_given stamp) done = tt
done_of (happened b) done = tt
done_of (found_version v) done = tt
done_of (counted n) done = tt
done_of (block_chosen b) done = tt
done_of (raid_numbered n) done = tt
done_of (marks_made n) done = tt
done_of (block_scanned b) done = tt
done_of (marks_undone n) done = tt
done_of (part_ended r c) done = tt
done_of raid_over done = tt

call_commits : (slot : Slot) (told : Bool) (event : Event) (call : Call) → event.call ≡ call → Follows slot.setup told slot.state slot.faults event → CommitsEvent slot event
call_commits slot told event call is follows commit done =
    commits slot.setup told slot.state event call (subst (Allowed slot.setup told slot.state event) is follows.allowed) commit (done_of event.answer done)

-- ---- one event on a device of the node

abbrev Waited : Bool → Node → Node → List Step → ℕ → Type 0
Waited failed node new steps device = On node device (λ slot. IsTrue slot.setup.commit → failed ≡ false → WritesFlushed (slice_get new device) steps)

none_written : (failed : Bool) (node new : Node) (device : ℕ) → Waited failed node new [] device
none_written failed node new device = of (slice_get node device) (slice_get new device)
  where
    of : (o new : Option Slot) → MatchOption o (Unit {0}) (λ slot. IsTrue slot.setup.commit → failed ≡ false → WritesFlushed new [])
    of None new = tt
    of (Some slot) None = λ commit none. tt
    of (Some slot) (Some after) = λ commit none. tt

there : (event : Event) (device : ℕ) (node : Node) → MatchOption (slice_get node device) ⊥ (λ slot. CommitsEvent slot event)
    → Waited (is_failed (answer_reply event.answer)) node (at_place device (slot_after event) node) event.steps device
there event device [] commits = absurd commits
there event zero (slot ∷ slots) commits = commits
there event (suc device) (slot ∷ slots) commits = there event device slots commits

event_commits : (event : Event) (n device : ℕ) (node : Node) → MatchOption (slice_get node n) ⊥ (λ slot. CommitsEvent slot event)
    → Waited (is_failed (answer_reply event.answer)) node (at_place n (slot_after event) node) (steps_on device (on_device n event ∷ [])) device
event_commits event n device node commits = by_device (n == device) refl
  where
    by_device : (c : Bool) → (n == device) ≡ c → Waited (is_failed (answer_reply event.answer)) node (at_place n (slot_after event) node) (cond c (event.steps ++ []) []) device
    by_device true is =
        let same : n ≡ device = eqb-true n device is in
        subst (λ (steps : List Step). Waited (is_failed (answer_reply event.answer)) node (at_place n (slot_after event) node) steps device) (sym (append-nil event.steps))
        (subst (λ (d : ℕ). Waited (is_failed (answer_reply event.answer)) node (at_place n (slot_after event) node) event.steps d) same (there event n node commits))
    by_device false is = none_written (is_failed (answer_reply event.answer)) node (at_place n (slot_after event) node) device

follows_more : (o : Option Slot) (P Q : Slot → Type 0) → ((slot : Slot) → P slot → Q slot) → MatchOption o ⊥ P → MatchOption o ⊥ Q
follows_more None P Q more h = h
follows_more (Some slot) P Q more h = more slot h

-- ---- removals, one after another

place_here : (n : ℕ) (change : Slot → Slot) (node : Node) (slot : Slot) → slice_get node n ≡ Some slot → slice_get (at_place n change node) n ≡ Some (change slot)
place_here n change [] slot at = absurd cc
place_here zero change (x ∷ node) slot at = let same : x ≡ slot = cc in ap (λ (y : Slot). Some (change y)) same
place_here (suc n) change (x ∷ node) slot at = place_here n change node slot at

place_other : (n m : ℕ) (change : Slot → Slot) (node : Node) → (n ≡ m → ⊥) → slice_get (at_place n change node) m ≡ slice_get node m
place_other n m change [] other = refl
place_other zero zero change (x ∷ node) other = absurd (other refl)
place_other zero (suc m) change (x ∷ node) other = refl
place_other (suc n) zero change (x ∷ node) other = refl
place_other (suc n) (suc m) change (x ∷ node) other = place_other n m change node (λ same. other (ap suc same))

flushed_on : (s t : State) (steps : List Step) → ((d : Digest) → top_is_flushed s d ≡ true → top_is_flushed t d ≡ true) → AllByRecursion (flushed_if_wrote s) steps
    → AllByRecursion (flushed_if_wrote t) steps
flushed_on s t steps keeps all = all_map (flushed_if_wrote s) (flushed_if_wrote t) steps one all
  where
    one : (step : Step) → flushed_if_wrote s step → flushed_if_wrote t step
    one (wrote digest v) is = keeps digest is
    one step is = tt

abbrev HasRemovedOn : NodeEvent → Type 0
HasRemovedOn e = HasRemoved e.event

-- What was flushed on a device stays so, and what the removals write is.
pub record KeepsFlushed (device : ℕ) (slot : Slot) (work : List NodeEvent) (node : Node) : Type 0 where
  pub after : Slot
  pub there : slice_get (node_after work node) device ≡ Some after
  pub keeps : (d : Digest) → top_is_flushed slot.state d ≡ true → top_is_flushed after.state d ≡ true
  pub flushed : AllByRecursion (flushed_if_wrote after.state) (steps_on device work)

removals_keep : (told : Bool) (device : ℕ) (work : List NodeEvent) (node : Node) (slot : Slot) → slice_get node device ≡ Some slot → HasNumbers slot.state → slot.setup.commit ≡ true
    → AllByRecursion HasRemovedOn work
    → IsLegalOn told node work → KeepsFlushed device slot work node
removals_keep told device [] node slot at numbers commit all legal = record { after = slot; there = at; keeps = λ d is. is; flushed = tt }
removals_keep told device (e ∷ work) node slot at numbers commit all legal =
    by (e.device == device) refl (λ x there has on. removals_keep told device work (at_place e.device (slot_after e.event) node) x there has on all.1 legal.1)
  where
    next : Node
    next = at_place e.device (slot_after e.event) node

    steps_are : (after : Slot) (b : Bool) → (e.device == device) ≡ b → AllByRecursion (flushed_if_wrote after.state) (cond b (e.event.steps ++ steps_on device work) (steps_on device work))
        → AllByRecursion (flushed_if_wrote after.state) (steps_on device (e ∷ work))
    steps_are after b is flushed = subst (λ (c : Bool). AllByRecursion (flushed_if_wrote after.state) (cond c (e.event.steps ++ steps_on device work) (steps_on device work))) (sym is) flushed

    by : (b : Bool) → (e.device == device) ≡ b → ((x : Slot) → slice_get next device ≡ Some x → HasNumbers x.state → x.setup.commit ≡ true → KeepsFlushed device x work next)
        → KeepsFlushed device slot (e ∷ work) node
    by true is rest_of =
        let same : e.device ≡ device = eqb-true e.device device is in
        let call = all.0.0 in
        let mine : slice_get node e.device ≡ Some slot = subst (λ (k : ℕ). slice_get node k ≡ Some slot) (sym same) at in
        let follows = subst (λ (o : Option Slot). MatchOption o ⊥ (λ (x : Slot). Follows x.setup told x.state x.faults e.event)) mine legal.0 in
        let allowed : Allowed slot.setup told slot.state e.event (expire_call call.0 call.1) = subst (Allowed slot.setup told slot.state e.event) call.2 follows.allowed in
        let after = slot_after e.event slot in
        let rest = rest_of after (subst (λ (k : ℕ). slice_get next k ≡ Some after) same (place_here e.device (slot_after e.event) node slot mine))
        (steps_numbered slot.setup e.event.steps slot.state numbers) commit in
        let mine_flushed = commits slot.setup told slot.state e.event (expire_call call.0 call.1) allowed commit all.0.1 in
        record {
          after = rest.after;
          there = rest.there;
          keeps = λ d is_flushed. rest.keeps d (removal_stays slot.setup told slot.state e.event d commit numbers is_flushed call.0 call.1 all.0.1 allowed);
          flushed = steps_are rest.after true is
              (all_joined (flushed_if_wrote rest.after.state) e.event.steps (steps_on device work) (flushed_on after.state rest.after.state e.event.steps rest.keeps mine_flushed) rest.flushed);
        }
    by false is rest_of =
        let rest = rest_of slot (place_other e.device device (slot_after e.event) node (eqb-false e.device device is) ∙ at) numbers commit in
        record { after = rest.after; there = rest.there; keeps = rest.keeps; flushed = steps_are rest.after false is rest.flushed }

numbered_at : (node : Node) (device : ℕ) (slot : Slot) → AreNumbered node → slice_get node device ≡ Some slot → HasNumbers slot.state
numbered_at [] device slot numbers at = absurd cc
numbered_at (x ∷ node) zero slot numbers at = let same : x ≡ slot = cc in subst (λ (y : Slot). HasNumbers y.state) same numbers.0
numbered_at (x ∷ node) (suc device) slot numbers at = numbered_at node device slot numbers.1 at

-- the events of an expiry on all devices of which none was refused
removed_each : (now device : ℕ) (node : Node) (a b x y : ℕ) (work : List NodeEvent) → EachDevice (Expires now) device node a b work (did x y) → AllByRecursion HasRemovedOn work
removed_each now device [] a b x y work each = subst (AllByRecursion HasRemovedOn) (sym each.0) tt
removed_each now device (slot ∷ slots) a b x y work (mine, rest, is, how) = subst (AllByRecursion HasRemovedOn) (sym is) (elim how [
  | inl goes ↦ all_joined HasRemovedOn (map (on_device device) mine) rest (on_each HasRemoved device mine (all_removed now (expired_entries slot.setup now slot.state) 0 goes.0 goes.1 mine goes.2))
      (removed_each now (device + 1) slots (a + goes.0) (b + goes.1) x y rest goes.3)
  | inr stops ↦ let never : did x y ≡ stopped stops.0 = stops.3 in absurd cc
])

expires_commit : (told : Bool) (node : Node) (now : ℕ) (work : List NodeEvent) (r : Reply) → AreNumbered node → Does node command.Expire now work r → IsLegalOn told node work → (device : ℕ)
    → Waited (is_failed r) node (node_after work node) (steps_on device work) device
expires_commit told node now work r numbers (outcome, each, reply_is) legal device = of outcome each reply_is (slice_get node device) refl
  where
    of : (end : Outcome) → EachDevice (Expires now) 0 node 0 0 work end → r ≡ expired_reply end → (o : Option Slot) → slice_get node device ≡ o
        → MatchOption o (Unit {0}) (λ slot. IsTrue slot.setup.commit → is_failed r ≡ false → WritesFlushed (slice_get (node_after work node) device) (steps_on device work))
    of end does is None at = tt
    of (stopped cause) does is (Some slot) at = λ commit none. let failed : true ≡ false = sym (ap is_failed is) ∙ none in absurd cc
    of (did x y) does is (Some slot) at = λ commit none.
        let kept = removals_keep told device work node slot at (numbered_at node device slot numbers at) commit (removed_each now 0 node 0 0 x y work does) legal in
        subst (λ (o : Option Slot). WritesFlushed o (steps_on device work)) (sym kept.there) kept.flushed

-- ---- one line, and all

-- where nothing is written
unwritten : (failed : Bool) (node new : Node) (work : List NodeEvent) (device : ℕ) → AllByRecursion WritesNone (steps_on device work) → Waited failed node new (steps_on device work) device
unwritten failed node new work device none = of (slice_get node device) (slice_get new device)
  where
    of : (o new : Option Slot) → MatchOption o (Unit {0}) (λ slot. IsTrue slot.setup.commit → failed ≡ false → WritesFlushed new (steps_on device work))
    of None new = tt
    of (Some slot) None = λ commit done. tt
    of (Some slot) (Some after) = λ commit done. none_flushed after.state (steps_on device work) none

one_event : (told : Bool) (node : Node) (n : ℕ) (event : Event) (work : List NodeEvent) (r : Reply) → work ≡ on_device n event ∷ [] → r ≡ answer_reply event.answer
    → ((slot : Slot) → Follows slot.setup told slot.state slot.faults event → CommitsEvent slot event) → IsLegalOn told node work → (device : ℕ)
    → Waited (is_failed r) node (node_after work node) (steps_on device work) device
one_event told node n event work r is reply_is commits legal device =
    subst (λ (b : Reply). Waited (is_failed b) node (node_after work node) (steps_on device work) device) (sym reply_is)
    (subst (λ (w : List NodeEvent). Waited (is_failed (answer_reply event.answer)) node (node_after w node) (steps_on device w) device) (sym is)
    (event_commits event n device node (follows_more (slice_get node n) _ _ commits (subst (λ (w : List NodeEvent). IsLegalOn told node w) is legal).0)))

no_work : (failed : Bool) (node : Node) (work : List NodeEvent) → work ≡ [] → (new : Node) (device : ℕ) → Waited failed node new (steps_on device work) device
no_work failed node work is new device = subst (λ (w : List NodeEvent). Waited failed node new (steps_on device w) device) (sym is) (none_written failed node new device)

does_commit : (told : Bool) (node : Node) (c : Command) (now : ℕ) (work : List NodeEvent) (r : Reply) → AreNumbered node → Does node c now work r → IsLegalOn told node work → (device : ℕ)
    → Waited (is_failed r) node (node_after work node) (steps_on device work) device
does_commit told node (command.Put digest ttl expect payload) now work r numbers does legal device = one_event told node _ does.0 work r does.1 does.3
    (λ slot follows. call_commits slot told does.0 (put_call digest ttl expect payload now) does.2 follows) legal device
does_commit told node (command.Get digest) now work r numbers does legal device = one_event told node _ does.0 work r does.1 does.3
    (λ slot follows. call_commits slot told does.0 (get_call digest now) does.2 follows) legal device
does_commit told node command.Quit now work r numbers does legal device = no_work (is_failed r) node work does.0 (node_after work node) device
does_commit told node (command.Meta digest) now work r numbers does legal device = no_work (is_failed r) node work does.0 (node_after work node) device
does_commit told node (command.Del digest) now work r numbers does legal device = one_event told node _ does.0 work r does.1 does.3
    (λ slot follows. call_commits slot told does.0 (delete_call digest now) does.2 follows) legal device
does_commit told node (command.Bury digest) now work r numbers does legal device = one_event told node _ does.0 work r does.1 does.3
    (λ slot follows. call_commits slot told does.0 (bury_call digest now) does.2 follows) legal device
does_commit told node command.Flush now work r numbers does legal device = unwritten (is_failed r) node (node_after work node) work device
    (calls_write_nothing told node work (all_flushes node work does.0 does.1) legal device)
does_commit told node command.Heal now work r numbers does legal device = unwritten (is_failed r) node (node_after work node) work device
    (calls_write_nothing told node work (all_heals node work does.0 does.1) legal device)
does_commit told node command.Defrag now work r numbers does legal device = unwritten (is_failed r) node (node_after work node) work device
    (calls_write_nothing told node work (all_defrags node work does.0 does.1) legal device)
does_commit told node command.Expire now work r numbers does legal device = expires_commit told node now work r numbers does legal device
does_commit told node command.Raid now work r numbers does legal device = unwritten (is_failed r) node (node_after work node) work device
    (calls_write_nothing told node work (all_raids now node work does.0 does.1) legal device)
does_commit told node command.Stat now work r numbers does legal device = no_work (is_failed r) node work does.0 (node_after work node) device
does_commit told node command.Restart now work r numbers does legal device = absurd does

answer_commits : (left : ImagesLeft) (told : Bool) (node : Node) (line : Option (List ℕ)) (served : Served) → AreNumbered node → AnswersLine left told node line served
    → IsLegalOn told node served.work → CommitsAt node served
answer_commits left told node None served numbers refuses legal device = no_work _ node served.work refuses.2 (node_at_reply served node) device
answer_commits left told node (Some line) served numbers (inr (inl refuses)) legal device = no_work _ node served.work refuses.1.2 (node_at_reply served node) device
answer_commits left told node (Some line) served numbers (inr (inr lacks)) legal device = no_work _ node served.work lacks.1.2 (node_at_reply served node) device
answer_commits left told node (Some line) served numbers (inl does) legal device = elim does.4 [
  | inl made ↦ subst (λ (o : Option Node). Waited (is_failed served.reply) node (node_or (node_after served.work node) o) (steps_on device served.work) device) (sym made.0)
      (does_commit told node does.0 _ served.work served.reply numbers made.1 legal device)
  | inr ends ↦ no_work (is_failed served.reply) node served.work ends.1.0 (node_at_reply served node) device
]

-- With commit on, the lines of every run over disks that tell what they hold flush what they write before they are answered as done.
pub commits_all : (left : ImagesLeft) (node : Node) (lines : List Served) → AreNumbered node → ServesAll left true node lines → CommitsAll node lines
commits_all left node [] numbers serves = tt
commits_all left node (served ∷ lines) numbers serves = (
  answer_commits left true node served.line served numbers serves.0.answers serves.0.work,
  commits_all left (node_after_line served node) lines (line_numbered left node served serves.0.answers numbers) serves.1,
)
