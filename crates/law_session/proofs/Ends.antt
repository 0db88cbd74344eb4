-- From the end of a session to a chain of states, with what was served and written.
use Rattle.std.proofs.Common.{◌≡◌, ℕ, ◌+◌, ◌<◌, Bool, true, false, List, [], ◌∷◌, ◌++◌, length, map, refl, sym, ◌∙◌, ap, subst, inl, inr, arith, append_assoc, length-append}
use Rattle.std.specs.Prelude.{Option, Some, None, IfSome, IsTrue, flat_map}
use Rattle.std.specs.List.{AllByRecursion}
use Rattle.std.proofs.lemmas.List.{append-nil, map-append, length-map}
use Rattle.std.proofs.lemmas.Grind.{flat_map-append}
use Rattle.disk_model.specs.Disk.{DiskView}
use Rattle.io_traits.specs.Source.{IsAtEnd}
use Rattle.line_proto.specs.declared.reply.Reply.{Reply}
use Rattle.line_proto.specs.declared.reply.Reply.TheVariants as reply
use Rattle.line_proto.specs.declared.line_end.LineEnd.{LineEnd}
use Rattle.line_proto.specs.Lines.{reply_text}
use Rattle.line_proto.specs.Stream.{IsOneLine, ended, FallInto}
use Rattle.model_node.specs.Commands.{Node}
use Rattle.node_session.specs.declared.stop.Stop.{Stop}
use Rattle.node_session.specs.declared.stop.Stop.TheVariants.{Quit as QuitStop, Memory as MemoryStop, Halted as HaltStop}
use Rattle.node_session.specs.declared.ended.Ended.{Ended}
use Rattle.node_session.specs.declared.ended.Ended.TheVariants.{Finish, Quit, SourceFault, SinkFault, Memory, Halted, Long}
use Rattle.node_session.specs.Turns.{Times, HasTurns, StopsAtLine, TurnAny}
use Rattle.node_session.specs.Session.{unended, TakesUp, HasWholeTurns, HasAllTurns, HasFirstTurns, HasSomeTurns, StopsAfter, EndsSo, Ran}
use Rattle.model_node.specs.Run.{Served, halts, is_halted, times_of, replies_of, node_after_lines}
use Rattle.model_node.specs.Outside.{IsFrontOf, is_bye, has_quit, written_text, rest_line}
use Rattle.model_node.specs.Headline.{Gives}
use Rattle.model_node.specs.Meaning.{Showing}
use Rattle.law_session.specs.Whole.{RestsOn}
use Rattle.law_session.specs.Chain.{line_end_of, TicksAll, ActsOn, TendsOn, EndsWith, Lifted}
use Rattle.law_session.proofs.Lines.{falls_any, falls_behind, falls_first, ends_of, ends_of_all}
use Rattle.law_session.proofs.Replies.{once_in, halted_in, bye_in, once_of, halted_of, quit_of, text_of, go_once, go_halted, go_bye, last_once, last_halted, last_bye, halts_not, count_unended}
use Rattle.law_session.proofs.Turns.{gives_of, ChainOf, chain_then, turn_chain, quit_chain, halt_chain, turns_chain, back_in_halt}

clock_of : (times : Times) (given : List ℕ) (later : Times) → TicksAll times given later → IfSome times (λ ts. Gives ts given)
clock_of None given later ticks = tt
clock_of (Some times) given later ticks = gives_of given times later ticks

not_true : IsTrue false → ⊥
not_true is = cc

-- Some whole lines and one more are the first of those that all bytes fall into.
record Parts (bytes : List ℕ) (left : Option (List ℕ)) (lines : List (List ℕ)) (line : LineEnd) : Type 0 where
  raw : Option (List ℕ)
  is_end : line_end_of raw ≡ line
  at_input_end : Bool
  unserved : List (Option (List ℕ))
  all_lines : List (List ℕ)
  open_line : List ℕ
  falls : FallInto bytes all_lines open_line
  in_order : map Some all_lines ++ rest_line at_input_end open_line ≡ (map Some lines ++ raw ∷ []) ++ unserved
  at_end : IsTrue at_input_end → IsAtEnd left

whole_order : (lines more : List (List ℕ)) (text : List ℕ) → map Some (lines ++ text ∷ more) ++ [] ≡ (map Some lines ++ Some text ∷ []) ++ map Some more
whole_order lines more text = append-nil _ ∙ map-append Some lines (text ∷ more) ∙ sym (append_assoc (map Some lines) (Some text ∷ []) (map Some more))

rest_order : (lines : List (List ℕ)) (rest : List ℕ) → 0 < length rest → map Some lines ++ rest_line true rest ≡ (map Some lines ++ None ∷ []) ++ []
rest_order lines [] some = absurd (omega arith)
rest_order lines (byte ∷ rest) some = sym (append-nil (map Some lines ++ None ∷ []))

parts_of : (bytes : List ℕ) (left : Option (List ℕ)) (lines : List (List ℕ)) (rest : List ℕ) (line : LineEnd) → bytes ≡ flat_map ended lines ++ rest → AllByRecursion IsOneLine lines
    → TakesUp left rest line → Parts bytes left lines line
parts_of bytes left lines rest line whole each takes_up = elim takes_up.how [
  | inl one ↦
      let f = falls_any one.1 in
      record {
        raw = Some one.0;
        is_end = sym one.4;
        at_input_end = false;
        unserved = map Some f.0;
        all_lines = lines ++ one.0 ∷ f.0;
        open_line = f.1;
        falls = falls_behind bytes rest lines (one.0 ∷ f.0) f.1 whole each (falls_first rest one.0 one.1 f.0 f.1 one.2 one.3 f.2);
        in_order = whole_order lines f.0 one.0;
        at_end = λ no_end. absurd (not_true no_end);
      }
  | inr last ↦ record {
    raw = None;
    is_end = sym last.3;
    at_input_end = true;
    unserved = [];
    all_lines = lines;
    open_line = rest;
    falls = record { whole = whole; each = each; open_line = last.0 };
    in_order = rest_order lines rest last.1;
    at_end = λ _. last.2;
  }
]

-- what the last line's reply is, by why the session stops
abbrev LastIs : Stop → Reply → (unsent : List ℕ) → Type 0
LastIs QuitStop r unsent = (r ≡ reply.Bye) × (unsent ≡ [])
LastIs MemoryStop r unsent = halts r ≡ false
LastIs HaltStop r unsent = (r ≡ reply.Halted) × (unsent ≡ [])

module _ {T : Type 0} (Stands : T → Node → Type 0) (views : T → ℕ → DiskView) (Halts : T → (before after : Node) → Type 0) (Shows : Showing T) (Later : T → T → Type 0) (told : Bool) where
  record LastChain (raw : Option (List ℕ)) (mid : T) (then : Times) (node : Node) (sent : List ℕ) (new : T) (later : Times) (stop : Stop) : Type 0 where
    last : Reply
    chain : ChainOf Stands views Halts Shows Later told mid then node (raw ∷ []) (last ∷ []) new later
    unsent : List ℕ
    text : reply_text last ≡ sent ++ unsent
    is_last : LastIs stop last unsent

  any_chain : RestsOn Stands views Halts Shows Later told → (raw : Option (List ℕ)) (mid : T) (then : Times) (node : Node) (r : Reply) (new : T) (later : Times)
      → TurnAny (ActsOn Stands views Halts Shows Later told) (TendsOn Stands views Later told) (line_end_of raw) mid then r new later → Stands mid node
      → ChainOf Stands views Halts Shows Later told mid then node (raw ∷ []) (r ∷ []) new later × (halts r ≡ false)
  any_chain on raw mid then node r new later (inl turn) stands = ((turn_chain Stands views Halts Shows Later told on mid new then later node raw r turn stands).0, halts_not r turn.no_halt)
  any_chain on raw mid then node r new later (inr quits) stands = (quit_chain Stands views Halts Shows Later told on mid new then later node raw r quits stands, ap halts quits.farewell)

  last_chain : RestsOn Stands views Halts Shows Later told → (raw : Option (List ℕ)) (mid : T) (then : Times) (node : Node) (sent : List ℕ) (new : T) (later : Times) (stop : Stop)
      → StopsAtLine (ActsOn Stands views Halts Shows Later told) (TendsOn Stands views Later told) (line_end_of raw) mid then sent new later stop → Stands mid node
      → LastChain raw mid then node sent new later stop
  last_chain on raw mid then node sent new later QuitStop stops stands = record {
    last = reply.Bye;
    chain = quit_chain Stands views Halts Shows Later told on mid new then later node raw reply.Bye stops.0 stands;
    unsent = [];
    text = sym stops.1 ∙ sym (append-nil sent);
    is_last = (refl, refl);
  }
  last_chain on raw mid then node sent new later MemoryStop stops stands =
      let any = any_chain on raw mid then node stops.0 new later stops.1 stands in
      record { last = stops.0; chain = any.0; unsent = reply_text stops.0; text = ap (λ (l : List ℕ). l ++ reply_text stops.0) (sym stops.2); is_last = any.1 }
  last_chain on raw mid then node sent new later HaltStop stops stands = record {
    last = reply.Halted;
    chain = halt_chain Stands views Halts Shows Later told on mid new then later node raw stops.0 stands;
    unsent = [];
    text = sym stops.1 ∙ sym (append-nil sent);
    is_last = (refl, refl);
  }

  -- a chain, and what the bytes and the replies say of it
  lifted : (limit : ℕ) (bytes output : List ℕ) (left : Option (List ℕ)) (old new : T) (times later : Times) (node : Node) (result : Ended) (raws unserved : List (Option (List ℕ)))
      (rs : List Reply) (at_input_end : Bool) (lines : List (List ℕ)) (rest : List ℕ)
      → ChainOf Stands views Halts Shows Later told old times node raws rs new later → FallInto bytes lines rest
      → map Some lines ++ rest_line at_input_end rest ≡ raws ++ unserved → (IsTrue at_input_end → IsAtEnd left)
      → once_in rs → IsFrontOf output (flat_map reply_text rs)
      → ((served : List Served) → map (λ s. s.line) served ≡ raws → replies_of served ≡ rs → EndsWith limit bytes output at_input_end served unserved result)
      → Lifted Stands views Halts Shows Later told limit bytes output left times node old new result
  lifted limit bytes output left old new times later node result raws unserved rs at_input_end lines rest chain falls in_order at_end once front ends = record {
    served = chain.served;
    unserved = unserved;
    ended = at_input_end;
    serves = chain.serves;
    once = once_of chain.served (subst once_in (sym chain.of_replies) once);
    stands = chain.stands;
    leaves = chain.leaves;
    halt = chain.halt;
    shown = chain.shown;
    takes = record {
      lines = lines;
      rest = rest;
      falls = falls;
      in_order = in_order ∙ ap (λ (l : List (Option (List ℕ))). l ++ unserved) (sym chain.of_lines);
    };
    at_end = at_end;
    front = (front.0, text_of chain.served ∙ ap (λ (l : List Reply). flat_map reply_text l) chain.of_replies ∙ front.1);
    clock = clock_of times (times_of chain.served) later chain.clock;
    ends = ends chain.served chain.of_lines chain.of_replies;
  }

  -- lines that were all served, with all of their replies
  whole_text : (served : List Served) (rs : List Reply) (output : List ℕ) → replies_of served ≡ rs → output ≡ flat_map reply_text rs → output ≡ written_text served
  whole_text served rs output of told_text = told_text ∙ ap (λ (l : List Reply). flat_map reply_text l) (sym of) ∙ sym (text_of served)

  whole_front : (output : List ℕ) → IsFrontOf output output
  whole_front output = ([], sym (append-nil output))

  of_text : (served : List Served) (rs : List Reply) → replies_of served ≡ rs → flat_map reply_text (replies_of served) ≡ flat_map reply_text rs
  of_text served rs of = ap (λ (l : List Reply). flat_map reply_text l) of

  not_halted : (served : List Served) (rs : List Reply) (b : Bool) → replies_of served ≡ rs → halted_in rs ≡ b → is_halted served ≡ b
  not_halted served rs b of is = halted_of served ∙ ap halted_in of ∙ is

  not_quit : (served : List Served) (rs : List Reply) (b : Bool) → replies_of served ≡ rs → bye_in rs ≡ b → has_quit served ≡ b
  not_quit served rs b of is = quit_of served ∙ ap bye_in of ∙ is

  count_served : (served : List Served) (raws : List (Option (List ℕ))) → map (λ s. s.line) served ≡ raws → length served ≡ length raws
  count_served served raws of = sym (length-map served (λ (s : Served). s.line)) ∙ ap length of

  abbrev TurnsOf : List LineEnd → T → Times → List ℕ → T → Times → Type 0
  TurnsOf ends old times output new later = HasTurns (ActsOn Stands views Halts Shows Later told) (TendsOn Stands views Later told) ends old times output new later

  -- all whole lines had their turns, and perhaps a rest at the input's end; the output is a front of their replies' text
  all_served : RestsOn Stands views Halts Shows Later told → (limit : ℕ) (bytes text output : List ℕ) (left : Option (List ℕ)) (old new : T) (times later : Times) (node : Node) (result : Ended)
      (raws unserved : List (Option (List ℕ))) (at_input_end : Bool) (lines : List (List ℕ)) (rest : List ℕ)
      → TurnsOf (map line_end_of raws) old times text new later → IsFrontOf output text → Stands old node → FallInto bytes lines rest
      → map Some lines ++ rest_line at_input_end rest ≡ raws ++ unserved → (IsTrue at_input_end → IsAtEnd left)
      → ((served : List Served) → map (λ s. s.line) served ≡ raws → text ≡ written_text served → has_quit served ≡ false → is_halted served ≡ false
      → EndsWith limit bytes output at_input_end served unserved result)
      → Lifted Stands views Halts Shows Later told limit bytes output left times node old new result
  all_served on limit bytes text output left old new times later node result raws unserved at_input_end lines rest serves front stands falls in_order at_end ends =
      let chain = turns_chain Stands views Halts Shows Later told on raws serves.replies old new times later node serves.turns stands in
      lifted limit bytes output left old new times later node result raws unserved serves.replies at_input_end lines rest chain.0 falls in_order at_end (go_once serves.replies chain.1)
      (front.0, sym serves.told ∙ front.1)
      (λ served of_lines of_replies. ends served of_lines (whole_text served serves.replies text of_replies serves.told)
      (not_quit served serves.replies false of_replies (go_bye serves.replies chain.1)) (not_halted served serves.replies false of_replies (go_halted serves.replies chain.1)))

  whole_lines : RestsOn Stands views Halts Shows Later told → (limit : ℕ) (bytes output : List ℕ) (left : Option (List ℕ)) (old new : T) (times later : Times) (node : Node) (result : Ended)
      → HasWholeTurns (ActsOn Stands views Halts Shows Later told) (TendsOn Stands views Later told) bytes old times output new later → Stands old node
      → ((served : List Served) → output ≡ written_text served → has_quit served ≡ false → is_halted served ≡ false → EndsWith limit bytes output false served [] result)
      → Lifted Stands views Halts Shows Later told limit bytes output left times node old new result
  whole_lines on limit bytes output left old new times later node result whole stands ends =
      all_served on limit bytes output output left old new times later node result (map Some whole.lines) [] false whole.lines whole.rest
      (subst (λ (l : List LineEnd). TurnsOf l old times output new later) (sym (ends_of whole.lines)) whole.serves) (whole_front output) stands whole.falls refl (λ no_end. absurd (not_true no_end))
      (λ served of_lines told_text quit halted. ends served told_text quit halted)

  front_on : (output text unsent : List ℕ) → (front : IsFrontOf output text) → text ++ unsent ≡ output ++ (front.0 ++ unsent)
  front_on output text unsent front = ap (λ (l : List ℕ). l ++ unsent) front.1 ∙ append_assoc output front.0 unsent

  text_parts : (output told_text sent unsent : List ℕ) (rs : List Reply) (r : Reply) → output ≡ told_text ++ sent → told_text ≡ flat_map reply_text rs → reply_text r ≡ sent ++ unsent
      → flat_map reply_text (rs ++ r ∷ []) ≡ output ++ unsent
  text_parts output told_text sent unsent rs r all told_is text =
      flat_map-append reply_text rs (r ∷ []) ∙ (λ i. sym told_is i ++ (append-nil (reply_text r) ∙ text) i) ∙ sym (append_assoc told_text sent unsent) ∙ ap (λ (l : List ℕ). l ++ unsent) (sym all)

  count_lines : (lines : List (List ℕ)) (raw : Option (List ℕ)) (n : ℕ) → n ≡ length lines → length (map Some lines ++ raw ∷ []) ≡ n + 1
  count_lines lines raw n is = length-append (map Some lines) (raw ∷ []) ∙ ap (λ (m : ℕ). m + 1) (length-map lines Some ∙ sym is)

  counted_so : (served : List Served) (lines : List (List ℕ)) (raw : Option (List ℕ)) (n : ℕ) → map (λ s. s.line) served ≡ map Some lines ++ raw ∷ [] → n ≡ length lines → length served ≡ n + 1
  counted_so served lines raw n of is = count_served served (map Some lines ++ raw ∷ []) of ∙ count_lines lines raw n is

  count_all : (lines : List (List ℕ)) (rest : List ℕ) → length (map Some lines ++ rest_line true rest) ≡ length lines + length (unended rest)
  count_all lines rest = length-append (map Some lines) (rest_line true rest) ∙ (λ i. length-map lines Some i + count_unended rest i)

  said_so : (served : List Served) (rs : List Reply) (said : List ℕ) → replies_of served ≡ rs → flat_map reply_text rs ≡ said → written_text served ≡ said
  said_so served rs said of is = text_of served ∙ of_text served rs of ∙ is

  -- the session stopped at a line; the output is a front of what is told up to it
  stopped_lifts : RestsOn Stands views Halts Shows Later told → (limit : ℕ) (bytes text output : List ℕ) (left : Option (List ℕ)) (old new : T) (times later : Times) (node : Node)
      (result : Ended) (n : ℕ) (stop : Stop)
      → StopsAfter (ActsOn Stands views Halts Shows Later told) (TendsOn Stands views Later told) bytes left n old times text new later stop → IsFrontOf output text → Stands old node
      → ((at_input_end : Bool) (served : List Served) (unserved : List (Option (List ℕ))) (r : Reply) (unsent : List ℕ) → length served ≡ n + 1 → written_text served ≡ text ++ unsent
      → LastIs stop r unsent → has_quit served ≡ is_bye r → is_halted served ≡ halts r → EndsWith limit bytes output at_input_end served unserved result)
      → Lifted Stands views Halts Shows Later told limit bytes output left times node old new result
  stopped_lifts on limit bytes text output left old new times later node result n stop stops front stands ends =
      let parts : Parts bytes left stops.lines stops.line = parts_of bytes left stops.lines stops.rest stops.line stops.whole stops.each stops.takes_up in
      let serves : TurnsOf (map line_end_of (map Some stops.lines)) old times stops.told stops.mid stops.then =
      subst (λ (l : List LineEnd). TurnsOf l old times stops.told stops.mid stops.then) (sym (ends_of stops.lines)) stops.serves in
      let first = turns_chain Stands views Halts Shows Later told on (map Some stops.lines) serves.replies old stops.mid times stops.then node serves.turns stands in
      let mid_node : Node = node_after_lines first.0.served node in
      let last : LastChain parts.raw stops.mid stops.then mid_node stops.last new later stop =
      last_chain on parts.raw stops.mid stops.then mid_node stops.last new later stop
      (subst (λ (l : LineEnd). StopsAtLine (ActsOn Stands views Halts Shows Later told) (TendsOn Stands views Later told) l stops.mid stops.then stops.last new later stop)
      (sym parts.is_end) stops.stops)
      (first.0.stands (halted_of first.0.served ∙ ap halted_in first.0.of_replies ∙ go_halted serves.replies first.1)) in
      let both : ChainOf Stands views Halts Shows Later told old times node (map Some stops.lines ++ parts.raw ∷ []) (serves.replies ++ last.last ∷ []) new later =
      chain_then Stands views Halts Shows Later told on old stops.mid new times stops.then later node (map Some stops.lines) (parts.raw ∷ []) serves.replies (last.last ∷ []) first.0 last.chain
      (back_in_halt (Halts new) node first.0.served last.chain.served (omega (arith, count_served last.chain.served (parts.raw ∷ []) last.chain.of_lines)) last.chain.halt) in
      let said : flat_map reply_text (serves.replies ++ last.last ∷ []) ≡ text ++ last.unsent =
      text_parts text stops.told stops.last last.unsent serves.replies last.last stops.all serves.told last.text in
      lifted limit bytes output left old new times later node result (map Some stops.lines ++ parts.raw ∷ []) parts.unserved
      (serves.replies ++ last.last ∷ []) parts.at_input_end parts.all_lines parts.open_line
      both parts.falls parts.in_order parts.at_end (last_once serves.replies last.last first.1) (front.0 ++ last.unsent, said ∙ front_on output text last.unsent front)
      (λ served of_lines of_replies. ends parts.at_input_end served parts.unserved last.last last.unsent
      (counted_so served stops.lines parts.raw n of_lines stops.counted)
      (said_so served (serves.replies ++ last.last ∷ []) (text ++ last.unsent) of_replies said)
      last.is_last
      (not_quit served (serves.replies ++ last.last ∷ []) (is_bye last.last) of_replies (last_bye serves.replies last.last first.1))
      (not_halted served (serves.replies ++ last.last ∷ []) (halts last.last) of_replies (last_halted serves.replies last.last first.1)))

  all_sent : (output text unsent : List ℕ) → text ≡ output ++ unsent → unsent ≡ [] → output ≡ text
  all_sent output text unsent is none = sym (is ∙ ap (λ (l : List ℕ). output ++ l) none ∙ append-nil output)

  -- all lines up to the end of the input had their turns
  all_lifts : RestsOn Stands views Halts Shows Later told → (limit : ℕ) (bytes text output : List ℕ) (left : Option (List ℕ)) (old new : T) (times later : Times) (node : Node) (result : Ended) (n : ℕ)
      → HasAllTurns (ActsOn Stands views Halts Shows Later told) (TendsOn Stands views Later told) bytes left n old times text new later → IsFrontOf output text → Stands old node
      → ((served : List Served) → text ≡ written_text served → has_quit served ≡ false → is_halted served ≡ false → n ≡ length served → EndsWith limit bytes output true served [] result)
      → Lifted Stands views Halts Shows Later told limit bytes output left times node old new result
  all_lifts on limit bytes text output left old new times later node result n all front stands ends =
      let raws : List (Option (List ℕ)) = map Some all.lines ++ rest_line true all.rest in
      all_served on limit bytes text output left old new times later node result raws [] true all.lines all.rest
      (subst (λ (l : List LineEnd). TurnsOf l old times text new later) (sym (ends_of_all all.lines all.rest)) all.serves) front stands all.falls (sym (append-nil raws)) (λ _. all.at_end)
      (λ served of_lines told_text quit halted. ends served told_text quit halted (all.counted ∙ sym (count_served served raws of_lines ∙ count_all all.lines all.rest)))

  -- the first whole lines had their turns
  first_lifts : RestsOn Stands views Halts Shows Later told → (limit : ℕ) (bytes text output : List ℕ) (left : Option (List ℕ)) (old new : T) (times later : Times) (node : Node) (result : Ended)
      → HasFirstTurns (ActsOn Stands views Halts Shows Later told) (TendsOn Stands views Later told) bytes old times text new later → IsFrontOf output text → Stands old node
      → ((served : List Served) (unserved : List (Option (List ℕ))) → is_halted served ≡ false → EndsWith limit bytes output false served unserved result)
      → Lifted Stands views Halts Shows Later told limit bytes output left times node old new result
  first_lifts on limit bytes text output left old new times later node result first front stands ends =
      let more = falls_any first.rest in
      all_served on limit bytes text output left old new times later node result (map Some first.lines) (map Some more.0) false (first.lines ++ more.0) more.1
      (subst (λ (l : List LineEnd). TurnsOf l old times text new later) (sym (ends_of first.lines)) first.serves) front stands
      (falls_behind bytes first.rest first.lines more.0 more.1 first.whole first.each more.2)
      (append-nil (map Some (first.lines ++ more.0)) ∙ map-append Some first.lines more.0) (λ no_end. absurd (not_true no_end))
      (λ served of_lines told_text quit halted. ends served (map Some more.0) halted)

  -- some lines had their turns, and the output is a front of their replies' text
  some_lifts : RestsOn Stands views Halts Shows Later told → (limit : ℕ) (bytes text output : List ℕ) (left : Option (List ℕ)) (old new : T) (times later : Times) (node : Node)
      → IsFrontOf output text → HasSomeTurns (ActsOn Stands views Halts Shows Later told) (TendsOn Stands views Later told) bytes left old times text new later → Stands old node
      → Lifted Stands views Halts Shows Later told limit bytes output left times node old new SinkFault
  some_lifts on limit bytes text output left old new times later node front (inl first) stands =
      first_lifts on limit bytes text output left old new times later node SinkFault first front stands (λ served unserved halted. tt)
  some_lifts on limit bytes text output left old new times later node front (inr (inl all)) stands =
      all_lifts on limit bytes text output left old new times later node SinkFault all.0 all.1 front stands (λ served told_text quit halted count. tt)
  some_lifts on limit bytes text output left old new times later node front (inr (inr stopped)) stands =
      stopped_lifts on limit bytes text output left old new times later node SinkFault stopped.0 stopped.1 stopped.2 front stands
      (λ at_input_end served unserved r unsent count said last quit halted. tt)

  -- All of a run but its closing flush, of every end of a session.
  pub ends_lift : RestsOn Stands views Halts Shows Later told → (limit : ℕ) (bytes output : List ℕ) (left : Option (List ℕ)) (old new : T) (times later : Times) (node : Node) (result : Ended)
      → EndsSo (ActsOn Stands views Halts Shows Later told) (TendsOn Stands views Later told) limit bytes left old times output new later result → Stands old node
      → Lifted Stands views Halts Shows Later told limit bytes output left times node old new result
  ends_lift on limit bytes output left old new times later node (Finish n) ends stands =
      all_lifts on limit bytes output output left old new times later node (Finish n) n ends.1 (whole_front output) stands
      (λ served told_text quit halted count. (told_text, refl, refl, count, halted))
  ends_lift on limit bytes output left old new times later node (Quit n) ends stands =
      stopped_lifts on limit bytes output output left old new times later node (Quit n) ends.0 QuitStop ends.2 (whole_front output) stands
      (λ at_input_end served unserved r unsent count text last quit halted.
      (all_sent output (written_text served) unsent text last.1, quit ∙ ap is_bye last.0, ends.1 ∙ sym count, halted ∙ ap halts last.0))
  ends_lift on limit bytes output left old new times later node SourceFault ends stands =
      whole_lines on limit bytes output left old new times later node SourceFault ends.1 stands (λ served told_text quit halted. (told_text, refl, refl, quit, halted, ends.0))
  ends_lift on limit bytes output left old new times later node SinkFault ends stands =
      some_lifts on limit bytes ends.0 output left old new times later node (ends.1.unsent, ends.1.parts) ends.2 stands
  ends_lift on limit bytes output left old new times later node Memory (inl first) stands =
      first_lifts on limit bytes output output left old new times later node Memory first (whole_front output) stands (λ served unserved halted. halted)
  ends_lift on limit bytes output left old new times later node Memory (inr stops) stands =
      stopped_lifts on limit bytes output output left old new times later node Memory stops.0 MemoryStop stops.1 (whole_front output) stands
      (λ at_input_end served unserved r unsent count text last quit halted. halted ∙ last)
  ends_lift on limit bytes output left old new times later node Halted ends stands =
      stopped_lifts on limit bytes output output left old new times later node Halted ends.0 HaltStop ends.1 (whole_front output) stands
      (λ at_input_end served unserved r unsent count text last quit halted.
      (all_sent output (written_text served) unsent text last.1, halted ∙ ap halts last.0))
  ends_lift on limit bytes output left old new times later node (Long n) ends stands =
      whole_lines on limit bytes output left old new times later node (Long n) ends.2 stands (λ served told_text quit halted. (told_text, refl, refl, quit, halted, ends.1))

  -- The same of the session's own word.
  pub ran_lifts : RestsOn Stands views Halts Shows Later told → (limit : ℕ) (taken taken' : List ℕ) (left left' : Option (List ℕ)) (written written' : Option (List ℕ)) (old new : T)
      (times later : Times) (node : Node) (result : Ended)
      → (ran : Ran (ActsOn Stands views Halts Shows Later told) (TendsOn Stands views Later told) limit taken taken' left left' written written' old new times later result) → Stands old node
      → Lifted Stands views Halts Shows Later told limit ran.bytes ran.output left' times node old new result
  ran_lifts on limit taken taken' left left' written written' old new times later node result ran stands =
      ends_lift on limit ran.bytes ran.output left' old new times later node result ran.ends stands
