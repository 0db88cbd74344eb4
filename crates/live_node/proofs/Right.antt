-- What a pass sees of a table, as the definitions of a device say it.
use Rattle.std.proofs.Common.{◌≡◌, ℕ, Option, Bool, true, false, List, [], ◌∷◌, ◌++◌, Some, sym, ap, subst, refl, ◌∙◌, append_assoc}
use Rattle.std.proofs.lemmas.List.{map-append, append-nil}
use mathlib.Core.List.{IsPrefix}
use Rattle.std.specs.Prelude.{IsSomeAnd}
use Rattle.disk_model.specs.Disk.{DiskView}
use Rattle.model_device.specs.Book.{Setup}
use Rattle.model_device.specs.Events.{Event, after_event, after_events}
use Rattle.model_device.specs.Device.{State}
use Rattle.model_device.specs.Legal.{IsLegal, Follows, Allowed, last_faults}
use Rattle.law_refused.proofs.Leaving.{refused_leaves}
use Rattle.turn_table.specs.declared.noted.Noted.{Noted}
use Rattle.turn_table.specs.declared.rule.Entry.{Entry}
use Rattle.turn_table.specs.Legal.{IsLegalAfter}
use Rattle.turn_table.specs.Rule.{entry, events}
use Rattle.turn_table.specs.Plays.{SeesMore, with_event}
use Rattle.turn_table.proofs.Histories.{begins_on}
use Rattle.live_node.specs.Opening.{Opening, setup_at, state_at, faults_at, WasSafe}
use Rattle.live_node.specs.Fits.{PartEvent, MayFollow}
use Rattle.live_node.specs.Notes.{event_in, events_in, NoteFollows}
use Rattle.live_node.specs.Laws.{events_more, state_more}
use Rattle.live_node.specs.Lives.{Live, opening_at}
use Rattle.live_node.specs.Calls.{LiveView, seen_by, own_of, IsLegalFrom, IsRight, AnswersBy}

pub last_more : (list : List Event) (e : Event) (faults : ℕ) → last_faults faults (list ++ e ∷ []) ≡ e.faults_after
last_more [] e faults = refl
last_more (x ∷ list) e faults = last_more list e x.faults_after

-- what is there for the opening of a pass
pub for_opening : {O : Type 0} (opening : Option O) (o : O) (Q : O → Type 0) → opening ≡ Some o → IsSomeAnd opening Q → Q o
for_opening {O = O} opening o Q is there = subst (λ (w : Option O). IsSomeAnd w Q) is there

-- the events of a pass behind one that it entered, and those that it has then seen
pub own_more : {D : Type 0} (v w : LiveView D) (n : Noted PartEvent) → w ≡ with_event n v → own_of w ≡ own_of v ++ event_in n ∷ []
own_more v w n is = ap own_of is ∙ events_more v.mine n

pub seen_more : {D : Type 0} (v w : LiveView D) (n : Noted PartEvent) → w ≡ with_event n v → seen_by w ≡ seen_by v ++ event_in n ∷ []
seen_more v w n is =
    ap seen_by is ∙ ap events_in (map-append (λ (x : Entry (Noted PartEvent)). x.event) v.seen (entry v.first n ∷ [])) ∙ events_more (events v.seen) n

-- ---- beginnings of lists

pub prefix_here : {X : Type 0} (xs : List X) → IsPrefix xs xs
prefix_here xs = ([], append-nil xs)

pub prefix_on : {X : Type 0} (xs ys zs : List X) → IsPrefix xs ys → IsPrefix ys zs → IsPrefix xs zs
prefix_on xs ys zs first then = (first.0 ++ then.0, sym (append_assoc xs first.0 then.0) ∙ ap (λ (l : List _). l ++ then.0) first.1 ∙ then.1)

pub seen_begins : {D : Type 0} (v w : LiveView D) → IsPrefix v.seen w.seen → IsPrefix (seen_by v) (seen_by w)
seen_begins v w begins = (
  events_in (events begins.0),
  sym (map-append event_in (events v.seen) (events begins.0)) ∙ ap events_in (sym (map-append (λ (x : Entry (Noted PartEvent)). x.event) v.seen begins.0) ∙ ap events begins.1),
)

-- ---- what a device is seen as

-- What a pass knows of the table's opening it knows of the device's.
pub opened_at : {D : Type 0} {table live : Live D} {known : Option (Opening D)} → table ≡ live → known ≡ Some (opening_at table) → known ≡ Some (opening_at live)
opened_at same opened = opened ∙ ap (λ (l : Live _). Some (opening_at l)) same

-- ---- the last event of a legal list

legal_last : (setup : Setup) (told : Bool) (s : State) (faults : ℕ) (xs : List Event) (e : Event) → IsLegal setup told s faults (xs ++ e ∷ []) → Follows setup told (after_events setup xs s) (last_faults faults xs) e
legal_last setup told s faults [] e legal = legal.0
legal_last setup told s faults (x ∷ xs) e legal = legal_last setup told (after_event setup x s) x.faults_after xs e legal.1

-- what a list shows of the event behind a beginning of it
pub allowed_at : {D : Type 0} (view : D → DiskView) (o : Opening D) (past : List Event) (event : Event) → IsLegalFrom view o (past ++ event ∷ [])
    → Allowed (setup_at o) false (state_at o past) event event.call
allowed_at view o past event legal = (legal_last (setup_at o) false o.state (view o.shelf.disk).faults past event legal.any).allowed

-- ---- what a call shows

module _ {D : Type 0} (view : D → DiskView) (o : Opening D) where
  -- in a list of notes that may follow one another each event may, over any disk and over one that tells what it holds
  legal_after : (told : Bool) → ((events : List Event) (e : PartEvent) → MayFollow view o events e → Follows (setup_at o) told (state_at o events) (faults_at view o events) e.event)
      → (past notes : List (Noted PartEvent)) → IsLegalAfter (NoteFollows view) o past notes
      → IsLegal (setup_at o) told (state_at o (events_in past)) (faults_at view o (events_in past)) (events_in notes)
  legal_after told follows past [] legal = tt
  legal_after told follows past (n ∷ notes) legal =
      let more = events_more past n in (
        follows (events_in past) n.value legal.0,
        subst (λ (p : State × ℕ). IsLegal (setup_at o) told p.0 p.1 (events_in notes))
            (λ i. ((ap (state_at o) more ∙ state_more o (events_in past) (event_in n)) i, (ap (faults_at view o) more ∙ last_more (events_in past) (event_in n) (view o.shelf.disk).faults) i))
            (legal_after told follows (past ++ n ∷ []) notes legal.1),
      )

  pub legal_from : (notes : List (Noted PartEvent)) → IsLegalAfter (NoteFollows view) o [] notes → IsLegalFrom view o (events_in notes)
  legal_from notes legal = record {
    any = legal_after false (λ events e may. may.follows) [] notes legal;
    told = λ was. legal_after true (λ events e may. may.told was) [] notes legal;
  }

  -- what entered these events is right for its pass
  pub right_by : (v w : LiveView D) (calls : List Event) → SeesMore (NoteFollows view) v w → w.opening ≡ Some o → own_of w ≡ own_of v ++ calls → IsRight view o v w calls
  right_by v w calls sees opening mine = record {
    seen = sees.begins;
    mine = mine;
    legal = legal_from (events w.seen) (sees.legal o opening);
    own = sees.own_events;
  }

  -- so is what entered nothing
  pub right_still : (v w : LiveView D) → SeesMore (NoteFollows view) v w → w.opening ≡ Some o → w.mine ≡ v.mine → IsRight view o v w []
  right_still v w sees opening mine = right_by v w [] sees opening (ap events_in mine ∙ sym (append-nil (own_of v)))

  -- some events and then others
  pub right_then : (v w x : LiveView D) (xs ys : List Event) → IsRight view o v w xs → IsRight view o w x ys → IsRight view o v x (xs ++ ys)
  right_then v w x xs ys first then = record {
    seen = begins_on v.seen w.seen x.seen first.seen then.seen;
    mine = then.mine ∙ ap (λ (l : List Event). l ++ ys) first.mine ∙ append_assoc (own_of v) xs ys;
    legal = then.legal;
    own = then.own;
  }

  -- a call whose event was entered as the hub was given back
  pub answers_entered : (v w : LiveView D) (n : Noted PartEvent) (Said : Event → Type 0) → Said (event_in n) → w ≡ with_event n v → SeesMore (NoteFollows view) v w → w.opening ≡ Some o
      → (by : AnswersBy view o v w Said) × (by.past ≡ seen_by v)
  answers_entered v w n Said said entered sees opening = (
    record {
      past = seen_by v;
      event = event_in n;
      said = said;
      begins = prefix_here (seen_by v);
      last = seen_more v w n entered;
      left = refused_leaves (setup_at o) false (state_at o (seen_by v)) (event_in n) (allowed_at view o (seen_by v) (event_in n)
          (subst (IsLegalFrom view o) (seen_more v w n entered) (right_by v w (event_in n ∷ []) sees opening (own_more v w n entered)).legal));
      right = right_by v w (event_in n ∷ []) sees opening (own_more v w n entered);
    },
    refl,
  )

  -- a call of one event, behind what entered nothing and before what entered nothing
  pub answers_between : (u v w x : LiveView D) (Said : Event → Type 0) → IsRight view o u v [] → (by : AnswersBy view o v w Said) → IsRight view o w x [] → seen_by x ≡ seen_by w
      → (all : AnswersBy view o u x Said) × (all.past ≡ by.past)
  answers_between u v w x Said before by after seen = (
    record {
      past = by.past;
      event = by.event;
      said = by.said;
      begins = prefix_on (seen_by u) (seen_by v) by.past (seen_begins u v before.seen) by.begins;
      last = seen ∙ by.last;
      left = by.left;
      right = right_then u w x (by.event ∷ []) [] (right_then u v w [] (by.event ∷ []) before by.right) after;
    },
    refl,
  )

  -- so one behind what entered nothing
  pub answers_behind : (u v w : LiveView D) (Said : Event → Type 0) → IsRight view o u v [] → (by : AnswersBy view o v w Said) → (all : AnswersBy view o u w Said) × (all.past ≡ by.past)
  answers_behind u v w Said before by = (
    record {
      past = by.past;
      event = by.event;
      said = by.said;
      begins = prefix_on (seen_by u) (seen_by v) by.past (seen_begins u v before.seen) by.begins;
      last = by.last;
      left = by.left;
      right = right_then u v w [] (by.event ∷ []) before by.right;
    },
    refl,
  )

-- ---- the event of a call

module _ {D : Type 0} {view : D → DiskView} {o : Opening D} {v w : LiveView D} {Said : Event → Type 0} (by : AnswersBy view o v w Said) where
  legal_here : IsLegalFrom view o (by.past ++ by.event ∷ [])
  legal_here = subst (IsLegalFrom view o) by.last by.right.legal

  pub allowed_in : Allowed (setup_at o) false (state_at o by.past) by.event by.event.call
  allowed_in = allowed_at view o by.past by.event legal_here

  pub allowed_told : WasSafe view o → Allowed (setup_at o) true (state_at o by.past) by.event by.event.call
  allowed_told was = (legal_last (setup_at o) true o.state (view o.shelf.disk).faults by.past by.event (legal_here.told was)).allowed
