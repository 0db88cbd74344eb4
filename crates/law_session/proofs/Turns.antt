-- From the turns of a session to a chain of states.
use Rattle.std.proofs.Common.{◌≡◌, ◌≢◌, ℕ, ◌<◌, Bool, true, false, List, [], ◌∷◌, ◌++◌, length, map, refl, sym, ◌∙◌, ap, subst, inl, inr, arith}
use Rattle.std.specs.Prelude.{Option, Some, None, ◌⊎◌, ◌||◌, MatchBool}
use Rattle.std.specs.List.{AllByRecursion}
use Rattle.std.proofs.lemmas.List.{map-append}
use Rattle.disk_model.specs.Disk.{Images, DiskView, Advances}
use Rattle.disk_model.specs.Runs.{OneOf, one_of_front, one_of_back, leaves_then, leaves_more}
use Rattle.model_device.specs.Device.{State}
use Rattle.rec_format.specs.Versions.{bounded_time}
use Rattle.rec_format.specs.declared.version.Version.{Version}
use Rattle.model_device.specs.Events.{Answer, stamp_given, happened, found_version, counted, block_chosen, raid_numbered, marks_made, block_scanned, marks_undone, part_ended, raid_over, refused}
use Rattle.law_start.specs.Surviving.{Survives}
use Rattle.io_traits.specs.Clock.{Ticks}
use Rattle.line_proto.specs.declared.command.Command.{Command}
use Rattle.line_proto.specs.declared.command.Command.TheVariants as command
use Rattle.line_proto.specs.declared.reply.Reply.{Reply}
use Rattle.line_proto.specs.declared.reply.Reply.TheVariants as reply
use Rattle.line_proto.specs.declared.reply.LineFault.TheVariants as why
use Rattle.model_node.specs.Commands.{Node, NodeEvent, node_after, Does, IsLegalOn, TendsEach, answer_reply, found_reply, meta_reply, flushed_reply, healed_reply, defragged_reply, expired_reply, raided_reply}
use Rattle.model_device.specs.Vacating.{Outcome, did, stopped}
use Rattle.node_session.specs.Turns.{Times, WholeTurn, Turns, Answers, Quits, IsCommand, NamesNoCommand, MayLackMemory}
use Rattle.model_node.specs.Run.{ImagesLeft, Served, Serves, ServesAll, AnswersLine, Carries, goes_on, halts, is_halted, node_or, node_at_reply}
use Rattle.model_node.specs.Run.{node_after_line, node_after_lines, states_while, states_of_lines, times_of, replies_of}
use Rattle.model_node.specs.Headline.{Gives}
use Rattle.model_node.specs.Meaning.{left_between, SurvivesOne, LeavesEach, Showing, ActsFrom, TendsFrom}
use Rattle.law_session.specs.Chain.{line_end_of, TicksAll, InHalt, ShowsAll, ActsOn, TendsOn, Chain}
use Rattle.law_session.specs.Whole.{RestsOn}
use Rattle.law_session.proofs.States.{setups_of, on_same, lines_setups, reply_setups, states_front, states_back, times_append, after_append, serves_append, serves_more}
use Rattle.law_session.proofs.Replies.{AllGo, halted_of, halted_in, go_halted}
use Rattle.law_session.proofs.Lines.{no_command_of, command_of, put_of}

-- ---- `bye` is the reply to `quit` alone

goes_of : (r : Reply) → r ≢ reply.Halted → r ≢ reply.Bye → goes_on r ≡ true
goes_of (reply.Written stamp) not_halted not_bye = refl
goes_of (reply.Flushed buffers) not_halted not_bye = refl
goes_of (reply.Healed gates) not_halted not_bye = refl
goes_of (reply.Defragged moved vacated) not_halted not_bye = refl
goes_of (reply.Expired removed) not_halted not_bye = refl
goes_of (reply.Raided removed cleared) not_halted not_bye = refl
goes_of (reply.Restarted records tombstones) not_halted not_bye = refl
goes_of (reply.Val stamp void payload) not_halted not_bye = refl
goes_of (reply.MetaOf stamp void units) not_halted not_bye = refl
goes_of reply.Nothing not_halted not_bye = refl
goes_of reply.Gone not_halted not_bye = refl
goes_of (reply.StatOf counts) not_halted not_bye = refl
goes_of reply.Bye not_halted not_bye = absurd (not_bye refl)
goes_of (reply.Fail cause) not_halted not_bye = refl
goes_of reply.Halted not_halted not_bye = absurd (not_halted refl)

found_is_no_bye : (v : Option Version) → found_reply v ≢ reply.Bye
found_is_no_bye None is = cc
found_is_no_bye (Some v) is = cc

meta_is_no_bye : (v : Option Version) → meta_reply v ≢ reply.Bye
meta_is_no_bye None is = cc
meta_is_no_bye (Some v) is = cc

answer_is_no_bye : (answer : Answer) → answer_reply answer ≢ reply.Bye
answer_is_no_bye (stamp_given stamp) is = cc
answer_is_no_bye (happened true) is = cc
answer_is_no_bye (happened false) is = cc
answer_is_no_bye (found_version v) is = found_is_no_bye v is
answer_is_no_bye (refused cause) is = cc
answer_is_no_bye (counted n) is = cc
answer_is_no_bye (block_chosen b) is = cc
answer_is_no_bye (raid_numbered n) is = cc
answer_is_no_bye (marks_made n) is = cc
answer_is_no_bye (block_scanned b) is = cc
answer_is_no_bye (marks_undone n) is = cc
answer_is_no_bye (part_ended r c) is = cc
answer_is_no_bye raid_over is = cc

flushed_is_no_bye : (outcome : Outcome) → flushed_reply outcome ≢ reply.Bye
flushed_is_no_bye (did a b) is = cc
flushed_is_no_bye (stopped cause) is = cc

healed_is_no_bye : (outcome : Outcome) → healed_reply outcome ≢ reply.Bye
healed_is_no_bye (did a b) is = cc
healed_is_no_bye (stopped cause) is = cc

defragged_is_no_bye : (outcome : Outcome) → defragged_reply outcome ≢ reply.Bye
defragged_is_no_bye (did a b) is = cc
defragged_is_no_bye (stopped cause) is = cc

expired_is_no_bye : (outcome : Outcome) → expired_reply outcome ≢ reply.Bye
expired_is_no_bye (did a b) is = cc
expired_is_no_bye (stopped cause) is = cc

raided_is_no_bye : (outcome : Outcome) → raided_reply outcome ≢ reply.Bye
raided_is_no_bye (did a b) is = cc
raided_is_no_bye (stopped cause) is = cc

does_no_bye : (node : Node) (c : Command) (now : ℕ) (work : List NodeEvent) (r : Reply) → c ≢ command.Quit → Does node c now work r → r ≢ reply.Bye
does_no_bye node (command.Put digest ttl expect payload) now work r other does is = answer_is_no_bye does.0.answer (sym does.3 ∙ is)
does_no_bye node (command.Get digest) now work r other does is = answer_is_no_bye does.0.answer (sym does.3 ∙ is)
does_no_bye node (command.Meta digest) now work r other does is = meta_is_no_bye _ (sym does.1 ∙ is)
does_no_bye node (command.Del digest) now work r other does is = answer_is_no_bye does.0.answer (sym does.3 ∙ is)
does_no_bye node (command.Bury digest) now work r other does is = answer_is_no_bye does.0.answer (sym does.3 ∙ is)
does_no_bye node command.Flush now work r other does is = flushed_is_no_bye does.0 (sym does.2 ∙ is)
does_no_bye node command.Heal now work r other does is = healed_is_no_bye does.0 (sym does.2 ∙ is)
does_no_bye node command.Defrag now work r other does is = defragged_is_no_bye does.0 (sym does.2 ∙ is)
does_no_bye node command.Expire now work r other does is = expired_is_no_bye does.0 (sym does.2 ∙ is)
does_no_bye node command.Raid now work r other does is = raided_is_no_bye does.0 (sym does.2 ∙ is)
does_no_bye node command.Stat now work r other does is = let e : r ≡ reply.StatOf _ = does.1 in cc
does_no_bye node command.Restart now work r other does is = absurd does
does_no_bye node command.Quit now work r other does is = absurd (other refl)

carried_no_bye : (left : ImagesLeft) (told : Bool) (node : Node) (c : Command) (now : ℕ) (work : List NodeEvent) (restarted : Option Node) (r : Reply) → c ≢ command.Quit
    → Carries left told node c now work restarted r → r ≢ reply.Bye
carried_no_bye left told node c now work restarted r other (inl made) is = does_no_bye node c now work r other made.1 is
carried_no_bye left told node c now work restarted r other (inr ends) is = elim ends.1.3 [
  | inl again ↦ let e : r ≡ reply.Restarted _ _ = again.1 in cc
  | inr halted ↦ let e : r ≡ reply.Halted = halted.1 in cc
]

bye_not_halted : reply.Bye ≡ reply.Halted → ⊥
bye_not_halted is = cc

goes_not_halted : (r : Reply) → goes_on r ≡ true → r ≡ reply.Halted → ⊥
goes_not_halted r goes is = let e : true ≡ false = sym goes ∙ ap goes_on is in cc

-- a line whose reply isn't that of a halt
one_goes : (r : Reply) → (halts r || false) ≡ false → r ≡ reply.Halted → ⊥
one_goes r goes is = let e : true ≡ false = sym (ap (λ (x : Reply). halts x || false) is) ∙ goes in cc

pub halted_behind : (xs ys : List Served) → is_halted (xs ++ ys) ≡ false → is_halted ys ≡ false
halted_behind [] ys goes = goes
halted_behind (x ∷ xs) ys goes = halted_behind xs ys (second (halts x.reply) (is_halted (xs ++ ys)) goes)
  where
    second : (a b : Bool) → (a || b) ≡ false → b ≡ false
    second true b is = cc
    second false b is = is

-- where the run went on there was no halt
go_in_halt : (P : Node → Node → Type 0) (node : Node) (lines : List Served) → AllGo (replies_of lines) → InHalt P node lines
go_in_halt P node [] go = tt
go_in_halt P node (served ∷ []) go = λ is. absurd (goes_not_halted served.reply go.0 is)
go_in_halt P node (served ∷ next ∷ lines) go = go_in_halt P (node_after_line served node) (next ∷ lines) go.1

-- of some lines, and one or more
pub back_in_halt : (P : Node → Node → Type 0) (node : Node) (xs : List Served) (ys : List Served) → 0 < length ys → InHalt P (node_after_lines xs node) ys → InHalt P node (xs ++ ys)
back_in_halt P node [] ys some h = h
back_in_halt P node (x ∷ []) [] some h = absurd (omega arith)
back_in_halt P node (x ∷ []) (y ∷ ys) some h = h
back_in_halt P node (x ∷ z ∷ xs) ys some h = back_in_halt P (node_after_line x node) (z ∷ xs) ys some h

-- ---- time

pub ticks_then : (first second third : Times) (xs ys : List ℕ) → TicksAll first xs second → TicksAll second ys third → TicksAll first (xs ++ ys) third
ticks_then first second third [] ys one two = subst (λ (t : Times). TicksAll t ys third) one two
ticks_then first second third (now ∷ xs) ys one two = (one.0, one.1, ticks_then one.0 second third xs ys one.2 two)

pub gives_of : (given times : List ℕ) (later : Times) → TicksAll (Some times) given later → Gives times given
gives_of [] [] later ticks = tt
gives_of [] (time ∷ []) later ticks = tt
gives_of [] (time ∷ next ∷ times) later ticks = tt
gives_of (now ∷ given) [] later ticks = absurd ticks.1
gives_of (now ∷ given) (time ∷ []) later ticks = (ticks.1.0, gives_of given (time ∷ []) later (subst (λ (t : Times). TicksAll t given later) ticks.1.1 ticks.2))
gives_of (now ∷ given) (time ∷ next ∷ times) later ticks = (ticks.1.0, gives_of given (next ∷ times) later (subst (λ (t : Times). TicksAll t given later) ticks.1.1 ticks.2))

-- ---- what a line is answered

answers_of : (left : ImagesLeft) (told : Bool) (node : Node) (line : Option (List ℕ)) (c : Command) (now : ℕ) (work : List NodeEvent) (restarted : Option Node) (r : Reply) (tended : List NodeEvent)
    → IsCommand (line_end_of line) c → Carries left told node c (bounded_time now) work restarted r
    → AnswersLine left told node line (record { line = line; time = Some now; reply = r; work = work; restarted = restarted; tended = tended })
answers_of left told node None c now work restarted r tended is carried = absurd is
answers_of left told node (Some line) c now work restarted r tended is carried = inl (c, now, command_of line c is, refl, carried)

declines_of : (left : ImagesLeft) (told : Bool) (node : Node) (line : Option (List ℕ)) (r : Reply) (tended : List NodeEvent)
    → (NamesNoCommand (line_end_of line) × (r ≡ reply.Fail why.Line)) ⊎ (MayLackMemory (line_end_of line) × (r ≡ reply.Fail why.Memory))
    → AnswersLine left told node line (record { line = line; time = None; reply = r; work = []; restarted = None; tended = tended })
declines_of left told node None r tended (inl no_command) = (refl, refl, refl, no_command.1)
declines_of left told node (Some line) r tended (inl no_command) = inr (inl (no_command_of line no_command.0, (refl, refl, refl, no_command.1)))
declines_of left told node None r tended (inr memory) = absurd memory.0
declines_of left told node (Some line) r tended (inr memory) = inr (inr (put_of line memory.0, (refl, refl, refl, memory.1)))

goes_tends : (r : Reply) (Then Else : Type 0) → goes_on r ≡ true → Then → MatchBool (goes_on r) Then Else
goes_tends r Then Else goes h = rw goes h

module _ {T : Type 0} (Stands : T → Node → Type 0) (views : T → ℕ → DiskView) (Halts : T → (before after : Node) → Type 0) (Shows : Showing T) (Later : T → T → Type 0) (told : Bool) where
  -- the images of the first part are among those of the whole, and so are those of the second
  first_images : (old mid new : T) → ((device : ℕ) → Advances (views old device) (views mid device))
      → ((device : ℕ) → Advances (views mid device) (views new device))
      → (device : ℕ) (image : List ℕ) → left_between views old mid device image → left_between views old new device image
  first_images old mid new one two device image was = (two device).kept (views old device).moment image ((one device).stays (views old device).moment (one device).started) was

  second_images : (old mid new : T) → ((device : ℕ) → Advances (views old device) (views mid device))
      → ((device : ℕ) → Advances (views mid device) (views new device))
      → (device : ℕ) (image : List ℕ) → left_between views mid new device image → left_between views old new device image
  second_images old mid new one two device image was = (two device).added (views old device).moment image ((one device).stays (views old device).moment (one device).started) was

  leaves_all : (node mid_node : Node) (first second all : ℕ → List State) (old mid new : T) → setups_of mid_node ≡ setups_of node
      → ((P : State → Images) (device : ℕ) (image : List ℕ) → OneOf P (first device) image → OneOf P (all device) image)
      → ((P : State → Images) (device : ℕ) (image : List ℕ) → OneOf P (second device) image → OneOf P (all device) image)
      → LeavesEach views node first old mid → LeavesEach views mid_node second mid new → LeavesEach views node all old new
  leaves_all node mid_node first second all old mid new same front back one two device =
      leaves_then {P = SurvivesOne device node (all device)} {old = views old device} {mid = views mid device} {new = views new device}
      (leaves_more {P = SurvivesOne device node (first device)} {Q = SurvivesOne device node (all device)} {old = views old device} {new = views mid device}
      (λ image h. on_same (λ setup. OneOf (Survives setup) (first device) image) (λ setup. OneOf (Survives setup) (all device) image) node node device refl
      (λ setup. front (Survives setup) device image) h) (one device))
      (leaves_more {P = SurvivesOne device mid_node (second device)} {Q = SurvivesOne device node (all device)} {old = views mid device} {new = views new device}
      (λ image h. on_same (λ setup. OneOf (Survives setup) (second device) image) (λ setup. OneOf (Survives setup) (all device) image) node mid_node device same
      (λ setup. back (Survives setup) device image) h) (two device))

  -- one list of states and another, of which the second goes from a node with the same setups
  pub leaves_both : RestsOn Stands views Halts Shows Later told → (node mid_node : Node) (first second all : ℕ → List State) (old mid new : T) → (told ≡ true → setups_of mid_node ≡ setups_of node)
      → ((P : State → Images) (device : ℕ) (image : List ℕ) → OneOf P (first device) image → OneOf P (all device) image)
      → ((P : State → Images) (device : ℕ) (image : List ℕ) → OneOf P (second device) image → OneOf P (all device) image)
      → LeavesEach views node first old mid → LeavesEach views mid_node second mid new → LeavesEach views node all old new
  leaves_both on node mid_node first second all old mid new same front back one two = by told refl
    where
      by : (b : Bool) → told ≡ b → LeavesEach views node all old new
      by false is = on.blind is node all old new
      by true is = leaves_all node mid_node first second all old mid new (same is) front back one two

  -- the same, with more states
  pub leaves_wider : (node : Node) (some all : ℕ → List State) (old new : T) → ((P : State → Images) (device : ℕ) (image : List ℕ) → OneOf P (some device) image → OneOf P (all device) image)
      → LeavesEach views node some old new → LeavesEach views node all old new
  leaves_wider node some all old new wider leaves device =
      leaves_more {P = SurvivesOne device node (some device)} {Q = SurvivesOne device node (all device)} {old = views old device} {new = views new device}
      (λ image h. on_same (λ setup. OneOf (Survives setup) (some device) image) (λ setup. OneOf (Survives setup) (all device) image) node node device refl
      (λ setup. wider (Survives setup) device image) h) (leaves device)

  abbrev pub ChainOf : T → Times → Node → List (Option (List ℕ)) → List Reply → T → Times → Type 0
  ChainOf old times node lines replies new later = Chain Stands views Halts Shows Later told old times node lines replies new later

  -- what the lines show, from an earlier store on, and of one list of lines after another
  shows_from : RestsOn Stands views Halts Shows Later told → (old mid new : T) (node : Node) (lines : List Served) → Later old mid → ShowsAll Shows Later mid node lines new
      → ShowsAll Shows Later old node lines new
  shows_from on old mid new node [] later shown = on.then old mid new later shown
  shows_from on old mid new node (served ∷ lines) later shown = (shown.0, shown.1, on.then old mid shown.0 later shown.2, shown.3, shown.4, shown.5)

  shows_then : RestsOn Stands views Halts Shows Later told → (old mid new : T) (node : Node) (xs ys : List Served) → ShowsAll Shows Later old node xs mid
      → ShowsAll Shows Later mid (node_after_lines xs node) ys new → ShowsAll Shows Later old node (xs ++ ys) new
  shows_then on old mid new node [] ys first second = shows_from on old mid new node ys first second
  shows_then on old mid new node (x ∷ xs) ys first second =
      (first.0, first.1, first.2, first.3, first.4, shows_then on first.1 mid new (node_after_line x node) xs ys first.5 second)

  -- one chain after another
  pub chain_then : RestsOn Stands views Halts Shows Later told → (old mid new : T) (times then later : Times) (node : Node) (xs ys : List (Option (List ℕ))) (rs ss : List Reply)
      → (first : ChainOf old times node xs rs mid then) → (second : ChainOf mid then (node_after_lines first.served node) ys ss new later)
      → InHalt (Halts new) node (first.served ++ second.served) → ChainOf old times node (xs ++ ys) (rs ++ ss) new later
  chain_then on old mid new times then later node xs ys rs ss first second halt =
      let mid_node = node_after_lines first.served node in
      let one : (device : ℕ) → Advances (views old device) (views mid device) = λ device. (first.leaves device).time in
      let two : (device : ℕ) → Advances (views mid device) (views new device) = λ device. (second.leaves device).time in
      record {
        served = first.served ++ second.served;
        serves = serves_append (left_between views old new) told first.served second.served node
            (serves_more (left_between views old mid) (left_between views old new) (first_images old mid new one two) told node first.served first.serves)
            (serves_more (left_between views mid new) (left_between views old new) (second_images old mid new one two) told mid_node second.served second.serves);
        of_lines = map-append (λ s. s.line) first.served second.served ∙ (λ i. first.of_lines i ++ second.of_lines i);
        of_replies = map-append (λ s. s.reply) first.served second.served ∙ (λ i. first.of_replies i ++ second.of_replies i);
        clock = subst (λ (given : List ℕ). TicksAll times given later) (sym (times_append first.served second.served))
            (ticks_then times then later (times_of first.served) (times_of second.served) first.clock second.clock);
        stands = λ goes. subst (Stands new) (sym (after_append first.served second.served node)) (second.stands (halted_behind first.served second.served goes));
        leaves = leaves_both on node mid_node (λ device. states_of_lines device first.served node) (λ device. states_of_lines device second.served mid_node)
            (λ device. states_of_lines device (first.served ++ second.served) node) old mid new
            (λ is. lines_setups (left_between views old mid) node first.served (subst (λ (b : Bool). ServesAll (left_between views old mid) b node first.served) is first.serves))
            (λ P device image h. states_front P device first.served second.served node image h)
            (λ P device image h. states_back P device first.served second.served node image h)
            first.leaves second.leaves;
        halt = halt;
        shown = shows_then on old mid new node first.served second.served first.shown second.shown;
      }

  pub chain_none : RestsOn Stands views Halts Shows Later told → (store : T) (times : Times) (node : Node) → Stands store node → ChainOf store times node [] [] store times
  chain_none on store times node stands = record {
    served = [];
    serves = tt;
    of_lines = refl;
    of_replies = refl;
    clock = refl;
    stands = λ goes. stands;
    leaves = on.rests store node stands;
    halt = tt;
    shown = on.same store;
  }

  -- one line
  one_chain : (old new : T) (times later : Times) (node : Node) (served : Served) → Serves (left_between views old new) told node served
      → TicksAll times (times_of (served ∷ [])) later → (served.reply ≢ reply.Halted → Stands new (node_after_line served node))
      → LeavesEach views node (λ device. states_of_lines device (served ∷ []) node) old new
      → (served.reply ≡ reply.Halted → Halts new node (node_after_line served node)) → ShowsAll Shows Later old node (served ∷ []) new
      → ChainOf old times node (served.line ∷ []) (served.reply ∷ []) new later
  one_chain old new times later node served serves clock stands leaves halt shown = record {
    served = served ∷ [];
    serves = (serves, tt);
    of_lines = refl;
    of_replies = refl;
    clock = clock;
    stands = λ goes. stands (λ is. one_goes served.reply goes is);
    leaves = leaves;
    halt = halt;
    shown = shown;
  }

  -- what is on the way of one line: of its work, and of the tending
  in_work : (P : State → Images) (device : ℕ) (node : Node) (served : Served) (image : List ℕ) → OneOf P (states_while device served.work node) image
      → OneOf P (states_of_lines device (served ∷ []) node) image
  in_work P device node served image h =
      let front = states_while device served.work node in
      let back = states_while device served.tended (node_at_reply served node) in
      one_of_front P (front ++ back) (states_of_lines device [] (node_after_line served node)) image (one_of_front P front back image h)

  in_tending : (P : State → Images) (device : ℕ) (node : Node) (served : Served) (image : List ℕ) → OneOf P (states_while device served.tended (node_at_reply served node)) image
      → OneOf P (states_of_lines device (served ∷ []) node) image
  in_tending P device node served image h =
      let front = states_while device served.work node in
      let back = states_while device served.tended (node_at_reply served node) in
      one_of_front P (front ++ back) (states_of_lines device [] (node_after_line served node)) image (one_of_back P front back image h)

  -- a command was carried out, and something followed that leads from the node at the reply to the end
  carried_chain : RestsOn Stands views Halts Shows Later told → (old mid new : T) (times later : Times) (node : Node) (line : Option (List ℕ)) (c : Command) (now : ℕ) (r : Reply)
      (tended : List NodeEvent)
      → IsCommand (line_end_of line) c → Ticks times now later → (from : ActsFrom Stands views Halts Shows told old node c (bounded_time now) r mid)
      → MatchBool (goes_on r) (TendsEach 0 (node_or (node_after from.work node) from.restarted) tended) (tended ≡ [])
      → IsLegalOn told (node_or (node_after from.work node) from.restarted) tended
      → (r ≢ reply.Halted → Stands new (node_after tended (node_or (node_after from.work node) from.restarted)))
      → LeavesEach views (node_or (node_after from.work node) from.restarted) (λ device. states_while device tended (node_or (node_after from.work node) from.restarted)) mid new
      → (r ≡ reply.Halted → Halts new node (node_after tended (node_or (node_after from.work node) from.restarted))) → Later old mid → Later mid new
      → ChainOf old times node (line ∷ []) (r ∷ []) new later
  carried_chain on old mid new times later node line c now r tended is ticks from tends legal stands leaves halt acted behind =
      let served : Served = record { line = line; time = Some now; reply = r; work = from.work; restarted = from.restarted; tended = tended } in
      let serves : Serves (left_between views old mid) told node served = record {
        answers = answers_of (left_between views old mid) told node line c now from.work from.restarted r tended is from.carried;
        work = from.legal;
        tends = tends;
        tending = legal;
      } in
      let one : (device : ℕ) → Advances (views old device) (views mid device) = λ device. (from.leaves device).time in
      let two : (device : ℕ) → Advances (views mid device) (views new device) = λ device. (leaves device).time in
      one_chain old new times later node served
      (serves_more (left_between views old mid) (left_between views old new) (first_images old mid new one two) told node (served ∷ []) (serves, tt)).0
      (later, ticks, refl) stands
      (leaves_both on node (node_at_reply served node) (λ device. states_while device from.work node) (λ device. states_while device tended (node_at_reply served node))
      (λ device. states_of_lines device (served ∷ []) node) old mid new
      (λ is. reply_setups (left_between views old mid) node served (subst (λ (b : Bool). Serves (left_between views old mid) b node served) is serves))
      (λ P device image h. in_work P device node served image h) (λ P device image h. in_tending P device node served image h) from.leaves leaves) halt
      (old, mid, on.same old, acted, from.shows, behind)

  -- a line was declined, and tending followed
  declined_chain : RestsOn Stands views Halts Shows Later told → (old new : T) (times : Times) (node : Node) (line : Option (List ℕ)) (r : Reply)
      → (NamesNoCommand (line_end_of line) × (r ≡ reply.Fail why.Line)) ⊎ (MayLackMemory (line_end_of line) × (r ≡ reply.Fail why.Memory)) → goes_on r ≡ true
      → TendsFrom Stands views told old node new → Later old new → ChainOf old times node (line ∷ []) (r ∷ []) new times
  declined_chain on old new times node line r why_so goes tend behind =
      let served : Served = record { line = line; time = None; reply = r; work = []; restarted = None; tended = tend.tended } in
      one_chain old new times times node served
      (record {
        answers = declines_of (left_between views old new) told node line r tend.tended why_so;
        work = tt;
        tends = goes_tends r (TendsEach 0 node tend.tended) (tend.tended ≡ []) goes tend.tends;
        tending = tend.legal;
      })
      refl (λ other. tend.stands)
      (leaves_wider node (λ device. states_while device tend.tended node) (λ device. states_of_lines device (served ∷ []) node) old new
      (λ P device image h. in_tending P device node served image h) tend.leaves)
      (λ is. absurd (goes_not_halted r goes is)) (old, old, on.same old, on.same old, (refl, refl, λ is. goes_not_halted r goes is), behind)

  fail_is_no_bye : (line : Option (List ℕ)) (r : Reply)
      → (NamesNoCommand (line_end_of line) × (r ≡ reply.Fail why.Line)) ⊎ (MayLackMemory (line_end_of line) × (r ≡ reply.Fail why.Memory)) → r ≢ reply.Bye
  fail_is_no_bye line r (inl no_command) is = let e : r ≡ reply.Fail why.Line = no_command.1 in cc
  fail_is_no_bye line r (inr memory) is = let e : r ≡ reply.Fail why.Memory = memory.1 in cc

  fail_is_no_halt : (line : Option (List ℕ)) (r : Reply)
      → (NamesNoCommand (line_end_of line) × (r ≡ reply.Fail why.Line)) ⊎ (MayLackMemory (line_end_of line) × (r ≡ reply.Fail why.Memory)) → r ≢ reply.Halted
  fail_is_no_halt line r (inl no_command) is = let e : r ≡ reply.Fail why.Line = no_command.1 in cc
  fail_is_no_halt line r (inr memory) is = let e : r ≡ reply.Fail why.Memory = memory.1 in cc

  abbrev pub TurnOf : Option (List ℕ) → T → Times → Reply → T → Times → Type 0
  TurnOf line old times r new later = WholeTurn (ActsOn Stands views Halts Shows Later told) (TendsOn Stands views Later told) (line_end_of line) old times r new later

  -- a whole turn
  pub turn_chain : RestsOn Stands views Halts Shows Later told → (old new : T) (times later : Times) (node : Node) (line : Option (List ℕ)) (r : Reply)
      → TurnOf line old times r new later → Stands old node → ChainOf old times node (line ∷ []) (r ∷ []) new later × (goes_on r ≡ true)
  turn_chain on old new times later node line r turn stands = elim turn.answer [
    | inl carries ↦
        let from : ActsFrom Stands views Halts Shows told old node carries.command (bounded_time carries.now) r turn.answered = carries.acted.0 node stands in
        let at_reply : Node = node_or (node_after from.work node) from.restarted in
        let tend : TendsFrom Stands views told turn.answered at_reply new = turn.tended.0 at_reply (from.stands turn.no_halt) in
        let goes : goes_on r ≡ true = goes_of r turn.no_halt (carried_no_bye (left_between views old turn.answered) told node carries.command
        (bounded_time carries.now) from.work from.restarted r carries.goes_on from.carried) in (
          carried_chain on old turn.answered new times later node line carries.command carries.now r tend.tended carries.is_command carries.ticks from
              (goes_tends r (TendsEach 0 at_reply tend.tended) (tend.tended ≡ []) goes tend.tends) tend.legal (λ other. tend.stands) tend.leaves
              (λ is. absurd (turn.no_halt is)) carries.acted.1 turn.tended.1,
          goes,
        )
    | inr declines ↦
        let goes : goes_on r ≡ true = goes_of r turn.no_halt (fail_is_no_bye line r declines.why) in
        let tends : TendsOn Stands views Later told old new = subst (λ (t : T). TendsOn Stands views Later told t new) declines.same_store turn.tended in (
          subst (λ (t : Times). ChainOf old times node (line ∷ []) (r ∷ []) new t) (sym declines.same_times)
              (declined_chain on old new times node line r declines.why goes (tends.0 node stands) tends.1),
          goes,
        )
  ]

  -- `quit`, which isn't followed by tending
  pub quit_chain : RestsOn Stands views Halts Shows Later told → (old new : T) (times later : Times) (node : Node) (line : Option (List ℕ)) (r : Reply)
      → Quits (line_end_of line) old times r new later → Stands old node → ChainOf old times node (line ∷ []) (r ∷ []) new later
  quit_chain on old new times later node line r quits stands =
      subst (λ (t : T). ChainOf old times node (line ∷ []) (r ∷ []) t later) (sym quits.same_store)
      (subst (λ (b : Reply). ChainOf old times node (line ∷ []) (b ∷ []) old later) (sym quits.farewell)
      (carried_chain on old old old times later node line command.Quit quits.now reply.Bye [] quits.is_quit quits.ticks
      (record {
        work = [];
        restarted = None;
        carried = inl (refl, (refl, refl));
        legal = tt;
        stands = λ other. stands;
        leaves = on.rests old node stands;
        halt =
            λ is. absurd (bye_not_halted is);
        shows = on.quits old node (bounded_time quits.now);
      })
      refl tt (λ other. stands) (on.rests old node stands) (λ is. absurd (bye_not_halted is)) (on.same old) (on.same old)))

  -- a halt, which ends the run
  pub halt_chain : RestsOn Stands views Halts Shows Later told → (old new : T) (times later : Times) (node : Node) (line : Option (List ℕ))
      → Answers (ActsOn Stands views Halts Shows Later told) (line_end_of line) old times reply.Halted new later → Stands old node → ChainOf old times node (line ∷ []) (reply.Halted ∷ []) new later
  halt_chain on old new times later node line (inl carries) stands =
      let from : ActsFrom Stands views Halts Shows told old node carries.command (bounded_time carries.now) reply.Halted new = carries.acted.0 node stands in
      carried_chain on old new new times later node line carries.command carries.now reply.Halted [] carries.is_command carries.ticks from
      refl tt from.stands (on.halted new node (node_or (node_after from.work node) from.restarted) (from.halt refl)) from.halt carries.acted.1 (on.same new)
  halt_chain on old new times later node line (inr declines) stands = absurd (fail_is_no_halt line reply.Halted declines.why refl)

  -- all turns of some lines, by one induction
  pub turns_chain : RestsOn Stands views Halts Shows Later told → (lines : List (Option (List ℕ))) (rs : List Reply) (old new : T) (times later : Times) (node : Node)
      → Turns (ActsOn Stands views Halts Shows Later told) (TendsOn Stands views Later told) (map line_end_of lines) old times rs new later → Stands old node
      → ChainOf old times node lines rs new later × AllByRecursion (λ r. goes_on r ≡ true) rs
  turns_chain on [] [] old new times later node turns stands =
      (subst (λ (t : T). ChainOf old times node [] [] t later) (sym turns.0) (subst (λ (t : Times). ChainOf old times node [] [] old t) (sym turns.1) (chain_none on old times node stands)), tt)
  turns_chain on (line ∷ lines) (r ∷ rs) old new times later node turns stands =
      let first : ChainOf old times node (line ∷ []) (r ∷ []) turns.0 turns.1 × (goes_on r ≡ true) = turn_chain on old turns.0 times turns.1 node line r turns.2 stands in
      let second = turns_chain on lines rs turns.0 new turns.1 later (node_after_lines first.0.served node) turns.3
      (first.0.stands (halted_of first.0.served ∙ ap halted_in first.0.of_replies ∙ go_halted (r ∷ []) (first.1, tt))) in (
        chain_then on old turns.0 new times turns.1 later node (line ∷ []) lines (r ∷ []) rs first.0 second.0
            (go_in_halt (Halts new) node (first.0.served ++ second.0.served)
            (subst AllGo (sym (map-append (λ s. s.reply) first.0.served second.0.served ∙ (λ i. first.0.of_replies i ++ second.0.of_replies i))) (first.1, second.1))),
        (first.1, second.1),
      )
  turns_chain on [] (r ∷ rs) old new times later node turns stands = absurd turns
  turns_chain on (line ∷ lines) [] old new times later node turns stands = absurd turns
