-- A whole run: the start, the session, the closing flush.
use Rattle.std.proofs.Common.{◌≡◌, ℕ, ◌≤◌, Bool, true, false, List, [], ◌∷◌, length, refl, sym, ◌∙◌, subst, inl, inr}
use Rattle.std.specs.Prelude.{◌||◌, Option, Some, None, MatchOption, MatchBool, IsTrue, slice_get}
use Rattle.std.proofs.lemmas.Bool.{MatchBool-at_true}
use Rattle.law_lists.proofs.Answers.{match_true, match_false}
use Rattle.disk_model.specs.Disk.{DiskView, meanwhile}
use Rattle.disk_model.specs.Runs.{OneOf, one_of_front, one_of_back}
use Rattle.law_start.specs.Surviving.{Survives}
use Rattle.model_node.specs.Commands.{Slot, Node, NodeEvent}
use Rattle.line_proto.specs.declared.reply.Reply.{Reply}
use Rattle.line_proto.specs.declared.reply.Reply.TheVariants as reply
use Rattle.node_session.specs.declared.ended.Ended.{Ended}
use Rattle.node_session.specs.declared.ended.Ended.TheVariants.{Finish, Quit, SourceFault, SinkFault, Memory, Halted, Long}
use Rattle.node_session.specs.Turns.{Times}
use Rattle.node_session.specs.Session.{Ran}
use Rattle.model_node.specs.Run.{ImagesLeft, Served, ServesAll, IsRun, ClosesEach, EndsOnce, goes_on, halts, is_halted, node_after_line, node_after_lines}
use Rattle.model_node.specs.Run.{last_node, states_from, states_while, states_of_lines, states_of_run}
use Rattle.model_node.specs.declared.run_end.RunEnd.{RunEnd}
use Rattle.model_node.specs.declared.run_end.RunEnd.TheVariants as end
use Rattle.model_node.specs.Outside.{Outside, RoseOn, RoseInLast, counts_of}
use Rattle.model_node.specs.RunEnd.{HasCause, IsServedThrough, EndsAtRestart, input_limit}
use Rattle.model_node.specs.Headline.{LeavesLast, LeavesSome}
use Rattle.model_node.specs.Meaning.{left_between, LeavesEach, Showing, GoesOn, Enters, ClosesFrom}
use Rattle.law_session.specs.Chain.{EndsWith, InHalt, ActsOn, TendsOn, Lifted}
use Rattle.law_session.specs.Whole.{RestsOn, RunsWhole, ClosesWith, HaltsWith, Concludes}
use Rattle.law_session.proofs.Ends.{ran_lifts}
use Rattle.law_session.proofs.States.{lines_setups, on_same, first_of_lines, serves_more}
use Rattle.law_session.proofs.Turns.{leaves_both, leaves_wider}

one_state : (device : ℕ) (slot : Option Slot) (image : List ℕ) → MatchOption slot (Unit {0}) (λ s. OneOf (Survives s.setup) (states_from device [] slot) image)
    → MatchOption slot (Unit {0}) (λ s. Survives s.setup s.state image)
one_state device None image h = tt
one_state device (Some slot) image (inl h) = h
one_state device (Some slot) image (inr h) = absurd h

-- ---- causes

pub halt_of : (r : Reply) → halts r ≡ true → r ≡ reply.Halted
halt_of (reply.Written stamp) is = cc
halt_of (reply.Flushed buffers) is = cc
halt_of (reply.Healed gates) is = cc
halt_of (reply.Defragged moved vacated) is = cc
halt_of (reply.Expired removed) is = cc
halt_of (reply.Raided removed cleared) is = cc
halt_of (reply.Restarted records tombstones) is = cc
halt_of (reply.Val stamp void payload) is = cc
halt_of (reply.MetaOf stamp void units) is = cc
halt_of reply.Nothing is = cc
halt_of reply.Gone is = cc
halt_of (reply.StatOf counts) is = cc
halt_of reply.Bye is = cc
halt_of (reply.Fail cause) is = cc
halt_of reply.Halted is = refl

pub or_is : (a b : Bool) → (a || b) ≡ true → b ≡ false → a ≡ true
or_is true b is none = refl
or_is false b is none = let e : true ≡ false = sym is ∙ none in cc

pub or_goes : (a b : Bool) → a ≡ false → IsTrue (a || b) → IsTrue b
or_goes true b none is = cc
or_goes false b none is = is

-- a line with others behind it went on
pub goes_more : (r : Reply) (P : Type 0) (lines : List Served) (next : Served) (rest : List Served) → MatchBool (goes_on r) P (lines ≡ []) → lines ≡ next ∷ rest → P × (halts r ≡ false)
goes_more (reply.Written stamp) P lines next rest h is = (h, refl)
goes_more (reply.Flushed buffers) P lines next rest h is = (h, refl)
goes_more (reply.Healed gates) P lines next rest h is = (h, refl)
goes_more (reply.Defragged moved vacated) P lines next rest h is = (h, refl)
goes_more (reply.Expired removed) P lines next rest h is = (h, refl)
goes_more (reply.Raided removed cleared) P lines next rest h is = (h, refl)
goes_more (reply.Restarted records tombstones) P lines next rest h is = (h, refl)
goes_more (reply.Val stamp void payload) P lines next rest h is = (h, refl)
goes_more (reply.MetaOf stamp void units) P lines next rest h is = (h, refl)
goes_more reply.Nothing P lines next rest h is = (h, refl)
goes_more reply.Gone P lines next rest h is = (h, refl)
goes_more (reply.StatOf counts) P lines next rest h is = (h, refl)
goes_more (reply.Fail cause) P lines next rest h is = (h, refl)
goes_more reply.Bye P lines next rest h is = let e : [] ≡ next ∷ rest = sym h ∙ is in cc
goes_more reply.Halted P lines next rest h is = let e : [] ≡ next ∷ rest = sym h ∙ is in cc

-- what holds of the refused restart's line, as of its counts
pub rose_in_last : (device : ℕ) (node : Node) (lines : List Served) → EndsOnce lines → IsTrue (is_halted lines)
    → InHalt (λ before after. RoseOn device (counts_of before) (counts_of after)) node lines → RoseInLast device node lines
rose_in_last device node [] once is h = let e : false ≡ true = is in cc
rose_in_last device node (served ∷ []) once is h = h (halt_of served.reply (or_is (halts served.reply) false is refl))
rose_in_last device node (served ∷ next ∷ lines) once is h =
    let more = goes_more served.reply (EndsOnce (next ∷ lines)) (next ∷ lines) next lines once refl in
    rose_in_last device (node_after_line served node) (next ∷ lines) more.0 (or_goes (halts served.reply) (is_halted (next ∷ lines)) more.1 is) h

in_halt_more : (P Q : Node → Node → Type 0) → ((a b : Node) → P a b → Q a b) → (node : Node) (lines : List Served) → InHalt P node lines → InHalt Q node lines
in_halt_more P Q more node [] h = tt
in_halt_more P Q more node (served ∷ []) h = λ is. more node (node_after_line served node) (h is)
in_halt_more P Q more node (served ∷ next ∷ lines) h = in_halt_more P Q more (node_after_line served node) (next ∷ lines) h

-- A run with a refused restart ends in it.
pub halt_last : (P : Node → Node → Type 0) (node : Node) (lines : List Served) → EndsOnce lines → is_halted lines ≡ true → InHalt P node lines → (before : Node)
    × P before (node_after_lines lines node)
halt_last P node [] once is h = let e : false ≡ true = is in cc
halt_last P node (served ∷ []) once is h = (node, h (halt_of served.reply (or_is (halts served.reply) false is refl)))
halt_last P node (served ∷ next ∷ lines) once is h =
    let more = goes_more served.reply (EndsOnce (next ∷ lines)) (next ∷ lines) next lines once refl in
    halt_last P (node_after_line served node) (next ∷ lines) more.0 (or_goes (halts served.reply) (is_halted (next ∷ lines)) more.1 is) h

-- The end has its cause.
module _ (Halts : (before after : Node) → Type 0) (o : Outside) (first : Node) (served : List Served) (unserved : List (Option (List ℕ))) (closing : List NodeEvent) where
  abbrev Cause : RunEnd → Type 0
  Cause e = HasCause e o first served unserved closing

  closed_cause : (e : RunEnd) → IsServedThrough o served unserved → ClosesWith e first served closing → Cause e
  closed_cause end.Served out closes = (out, closes)
  closed_cause (end.DeviceFault device) out closes = inl (out, closes)
  closed_cause end.WordsRefused out closes = absurd closes
  closed_cause end.SourceFault out closes = absurd closes
  closed_cause end.SinkFault out closes = absurd closes
  closed_cause end.NoMemory out closes = absurd closes
  closed_cause (end.DeviceRefused device why) out closes = absurd closes
  closed_cause (end.DeviceShort device size) out closes = absurd closes
  closed_cause end.DoorFault out closes = absurd closes
  closed_cause end.InputTooLong out closes = absurd closes

  halted_cause : (e : RunEnd) → EndsAtRestart o served → EndsOnce served → InHalt Halts first served → HaltsWith e Halts first → Cause e
  halted_cause (end.DeviceFault device) ends once halt so =
      inr (ends, rose_in_last device first served once ends.halted (in_halt_more Halts (λ a b. RoseOn device (counts_of a) (counts_of b)) so first served halt))
  halted_cause (end.DeviceRefused device why) ends once halt so = (ends, so)
  halted_cause end.NoMemory ends once halt so = tt
  halted_cause end.Served ends once halt so = absurd so
  halted_cause end.WordsRefused ends once halt so = absurd so
  halted_cause end.SourceFault ends once halt so = absurd so
  halted_cause end.SinkFault ends once halt so = absurd so
  halted_cause (end.DeviceShort device size) ends once halt so = absurd so
  halted_cause end.DoorFault ends once halt so = absurd so
  halted_cause end.InputTooLong ends once halt so = absurd so

  pub cause_of : (result : Ended) → EndsWith input_limit o.taken o.written o.ended served unserved result → EndsOnce served → InHalt Halts first served
      → Concludes Halts o first served closing result → Cause o.end
  cause_of (Finish n) ends once halt so = closed_cause o.end (record { written = ends.0; up_to = inr (ends.1, ends.2); goes = ends.4 }) so
  cause_of (Quit n) ends once halt so = closed_cause o.end (record { written = ends.0; up_to = inl ends.1; goes = ends.3 }) so
  cause_of SourceFault ends once halt so =
      subst Cause (sym so.0) (record { written = ends.0; all = ends.1; no_quit = ends.3; no_end = ends.2; goes = ends.4 }, so.1, ends.5)
  cause_of SinkFault ends once halt so = subst Cause (sym so.0) so.1
  cause_of Memory ends once halt so = subst Cause (sym so) tt
  cause_of Halted ends once halt so = halted_cause o.end (record { written = ends.0; halted = ends.1 }) once halt so
  cause_of (Long n) ends once halt so =
      subst Cause (sym so) (record { written = ends.0; all = ends.1; no_quit = ends.3; no_end = ends.2; goes = ends.4 }, ends.5)

module _ {T : Type 0} (Stands : T → Node → Type 0) (views : T → ℕ → DiskView) (Halts : T → (before after : Node) → Type 0) (Shows : Showing T) (Later : T → T → Type 0) (told : Bool)
    (Says : Node → Type 0) where
  -- ---- the session, and the closing of each device

  -- a run that is closed
  run_closes : RestsOn Stands views Halts Shows Later told → (limit : ℕ) (bytes output : List ℕ) (left : Option (List ℕ)) (times : Times) (node : Node) (old new end : T) (result : Ended)
      → (l : Lifted Stands views Halts Shows Later told limit bytes output left times node old new result) → length bytes ≤ limit → is_halted l.served ≡ false
      → ClosesFrom Stands views told Says new (node_after_lines l.served node) end
      → RunsWhole Stands views Halts Shows Later told Says limit bytes output left times node old new end result
  run_closes on limit bytes output left times node old new end result l within goes c =
      let last : Node = node_after_lines l.served node in
      record {
        lifted = l;
        within = within;
        closing = c.closing;
        is_run = record {
          serves = serves_more (left_between views old new) (left_between views old end)
              (λ device image was. (c.leaves device).time.kept (views old device).moment image ((l.leaves device).time.stays (views old device).moment (l.leaves device).time.started) was)
              told node l.served l.serves;
          ends = l.once;
          closes = match_false (is_halted l.served) (c.closing ≡ []) (ClosesEach 0 last c.closing) goes c.closes;
          legal = c.legal;
        };
        stands = λ _. c.stands;
        halt = λ is. let e : true ≡ false = sym is ∙ goes in cc;
        leaves = leaves_both Stands views Halts Shows Later told on node last (λ device. states_of_lines device l.served node) (λ device. states_while device c.closing last)
            (λ device. states_of_run device node l.served c.closing) old new end
            (λ is. lines_setups (left_between views old new) node l.served (subst (λ (b : Bool). ServesAll (left_between views old new) b node l.served) is l.serves))
            (λ P device image h. one_of_front P (states_of_lines device l.served node) (states_while device c.closing last) image h)
            (λ P device image h. one_of_back P (states_of_lines device l.served node) (states_while device c.closing last) image h)
            l.leaves c.leaves;
        says = λ _. c.says;
      }

  -- a refused restart is followed by nothing
  run_halts : (limit : ℕ) (bytes output : List ℕ) (left : Option (List ℕ)) (times : Times) (node : Node) (old new : T) (result : Ended)
      → (l : Lifted Stands views Halts Shows Later told limit bytes output left times node old new result) → length bytes ≤ limit → is_halted l.served ≡ true
      → RunsWhole Stands views Halts Shows Later told Says limit bytes output left times node old new new result
  run_halts limit bytes output left times node old new result l within halted = record {
    lifted = l;
    within = within;
    closing = [];
    is_run = record {
      serves = l.serves;
      ends = l.once;
      closes = match_true (is_halted l.served) ([] ≡ []) (ClosesEach 0 (node_after_lines l.served node) []) halted refl;
      legal = tt;
    };
    stands = λ goes. let e : true ≡ false = sym halted ∙ goes in cc;
    halt = λ _. l.halt;
    leaves = leaves_wider Stands views Halts Shows Later told node (λ device. states_of_lines device l.served node) (λ device. states_of_run device node l.served []) old new
        (λ P device image h. one_of_front P (states_of_lines device l.served node) (states_while device [] (node_after_lines l.served node)) image h) l.leaves;
    says = λ goes. let e : true ≡ false = sym halted ∙ goes in cc;
  }

  -- A session over a store, and what is done behind it, are a run of each node that the store stood for: where no restart was refused each
  -- device is closed, and else nothing is done.
  pub ran_whole : RestsOn Stands views Halts Shows Later told → (limit : ℕ) (taken taken' : List ℕ) (left left' : Option (List ℕ)) (written written' : Option (List ℕ)) (old new end : T)
      (times later : Times) (node : Node) (result : Ended)
      → (ran : Ran (ActsOn Stands views Halts Shows Later told) (TendsOn Stands views Later told) limit taken taken' left left' written written' old new times later result) → Stands old node
      → ((last : Node) → Stands new last → ClosesFrom Stands views told Says new last end)
      → ((before last : Node) → Halts new before last → end ≡ new)
      → RunsWhole Stands views Halts Shows Later told Says limit ran.bytes ran.output left' times node old new end result
  ran_whole on limit taken taken' left left' written written' old new end times later node result ran stands closes stays = by (is_halted l.served) refl
    where
      l : Lifted Stands views Halts Shows Later told limit ran.bytes ran.output left' times node old new result
      l = ran_lifts Stands views Halts Shows Later told on limit taken taken' left left' written written' old new times later node result ran stands

      by : (b : Bool) → is_halted l.served ≡ b → RunsWhole Stands views Halts Shows Later told Says limit ran.bytes ran.output left' times node old new end result
      by false goes = run_closes on limit ran.bytes ran.output left' times node old new end result l ran.within goes (closes (node_after_lines l.served node) (l.stands goes))
      by true halted =
          let last = halt_last (Halts new) node l.served l.once halted l.halt in
          subst (λ (e : T). RunsWhole Stands views Halts Shows Later told Says limit ran.bytes ran.output left' times node old new e result)
          (sym (stays last.0 (node_after_lines l.served node) last.1))
          (run_halts limit ran.bytes ran.output left' times node old new result l ran.within halted)

  -- ---- since the entry

  pub run_since : (entry : ℕ → DiskView) (node : Node) (old end : T) (lines : List Served) (closing : List NodeEvent)
      → GoesOn views entry old
      → LeavesEach views node (λ device. states_of_run device node lines closing) old end
      → IsRun (left_between views old end) told node lines closing → IsRun (λ device. meanwhile (entry device) (views end device)) told node lines closing
  run_since entry node old end lines closing time leaves run = record {
    serves = serves_more (left_between views old end) (λ device. meanwhile (entry device) (views end device))
        (λ device image was. (leaves device).time.added (entry device).moment image ((time device).stays (entry device).moment (time device).started) was) told node lines run.serves;
    ends = run.ends;
    closes = run.closes;
    legal = run.legal;
  }

  pub images_since : (entry : ℕ → DiskView) (node : Node) (old end : T) (lines : List Served) (closing : List NodeEvent)
      → Enters views entry node old
      → LeavesEach views node (λ device. states_of_run device node lines closing) old end
      → LeavesSome (λ device. meanwhile (entry device) (views end device)) node lines closing
  images_since entry node old end lines closing enters leaves device image was =
      elim ((leaves device).time.only (entry device).moment image ((enters.time device).stays (entry device).moment (enters.time device).started) was) [
        | inl before ↦ on_same (λ setup. OneOf (Survives setup) (states_while device [] node) image)
            (λ setup. OneOf (Survives setup) (states_of_run device node lines closing) image) node node device refl
            (λ setup h. one_of_front (Survives setup) (states_of_lines device lines node) (states_while device closing (node_after_lines lines node)) image
            (first_of_lines (Survives setup) device lines node image h))
            (enters.each device image before)
        | inr since_start ↦ (leaves device).each image since_start
      ]

  -- What holds of each node for which the store stands, and of each with which it halted, holds of the last that was served.
  pub last_served : (limit : ℕ) (bytes output : List ℕ) (left : Option (List ℕ)) (times : Times) (node : Node) (old new : T) (result : Ended)
      → (l : Lifted Stands views Halts Shows Later told limit bytes output left times node old new result) (P : Node → Type 0)
      → ((n : Node) → Stands new n → P n) → ((before n : Node) → Halts new before n → P n) → P (node_after_lines l.served node)
  last_served limit bytes output left times node old new result l P stood halted = by (is_halted l.served) refl
    where
      by : (b : Bool) → is_halted l.served ≡ b → P (node_after_lines l.served node)
      by false goes = stood (node_after_lines l.served node) (l.stands goes)
      by true is = let last = halt_last (Halts new) node l.served l.once is l.halt in halted last.0 (node_after_lines l.served node) last.1

  -- and of the last of all
  pub last_closed : (limit : ℕ) (bytes output : List ℕ) (left : Option (List ℕ)) (times : Times) (node : Node) (old new end : T) (result : Ended)
      → (w : RunsWhole Stands views Halts Shows Later told Says limit bytes output left times node old new end result) (P : Node → Type 0)
      → ((n : Node) → Stands end n → P n) → ((before n : Node) → Halts end before n → P n) → P (last_node node w.lifted.served w.closing)
  last_closed limit bytes output left times node old new end result w P stood halted = by (is_halted w.lifted.served) refl
    where
      by : (b : Bool) → is_halted w.lifted.served ≡ b → P (last_node node w.lifted.served w.closing)
      by false goes = stood (last_node node w.lifted.served w.closing) (w.stands goes)
      by true is =
          let back = halt_last (Halts end) node w.lifted.served w.is_run.ends is (w.halt is) in
          let none : w.closing ≡ [] = MatchBool-at_true (w.closing ≡ []) (ClosesEach 0 (node_after_lines w.lifted.served node) w.closing) is w.is_run.closes in
          subst (λ (events : List NodeEvent). P (last_node node w.lifted.served events)) (sym none) (halted back.0 (node_after_lines w.lifted.served node) back.1)

  -- what a crash may leave at the end survives the last state
  pub last_images : RestsOn Stands views Halts Shows Later told → (may_leave : ImagesLeft) (limit : ℕ) (bytes output : List ℕ) (left : Option (List ℕ)) (times : Times) (node : Node)
      (old new end : T) (result : Ended)
      → (w : RunsWhole Stands views Halts Shows Later told Says limit bytes output left times node old new end result)
      → ((device : ℕ) (image : List ℕ) → may_leave device image → meanwhile (views end device) (views end device) image)
      → LeavesLast may_leave (last_node node w.lifted.served w.closing)
  last_images on may_leave limit bytes output left times node old new end result w law device image was =
      let last : Node = last_node node w.lifted.served w.closing in
      let rests : LeavesEach views last (λ d. states_while d [] last) end end =
      last_closed limit bytes output left times node old new end result w (λ n. LeavesEach views n (λ d. states_while d [] n) end end) (λ n stands. on.rests end n stands)
      (λ before n halts. on.halted end before n halts) in
      one_state device (slice_get last device) image ((rests device).each image (law device image was))
