-- How a session ended, by its lines.
use Rattle.std.proofs.Common.{◌≡◌, inl, inr, ℕ, zero, suc, ◌+◌, ◌<◌, Bool, true, false, List, [], ◌∷◌, ◌++◌, length, map, refl, sym, ◌∙◌, ap, subst, arith, append_assoc, append-nil, length-append}
use Rattle.std.specs.Prelude.{Option, Some, IsTrue, flat_map, slice_get}
use Rattle.std.specs.List.{AllByRecursion}
use Rattle.std.proofs.lemmas.List.{map-append, length-map}
use Rattle.std.proofs.lemmas.Grind.{flat_map-append}
use Rattle.disk_model.specs.Disk.{DiskView}
use Rattle.io_traits.specs.Source.{IsAtEnd}
use Rattle.model_device.specs.Events.{Event}
use Rattle.line_proto.specs.declared.reply.Reply.{Reply}
use Rattle.line_proto.specs.declared.reply.Reply.TheVariants as reply
use Rattle.line_proto.specs.declared.line_end.LineEnd.{LineEnd}
use Rattle.line_proto.specs.declared.line_end.LineEnd.TheVariants.{TooLong}
use Rattle.line_proto.specs.Lines.{reply_text}
use Rattle.line_proto.specs.Stream.{IsOneLine, ended, line_end}
use Rattle.node_session.specs.declared.stop.Stop.{Stop}
use Rattle.node_session.specs.declared.stop.Stop.TheVariants.{Quit as QuitStop, Memory as MemoryStop, Halted as HaltStop}
use Rattle.node_session.specs.declared.ended.Ended.{Ended}
use Rattle.node_session.specs.declared.ended.Ended.TheVariants.{Finish, Quit, SourceFault, SinkFault, Memory, Halted, Long}
use Rattle.node_session.specs.Turns.{Times, HasTurns, StopsAtLine}
use Rattle.node_session.specs.Session.{unended, TakesUp, HasWholeTurns, HasAllTurns, HasFirstTurns, HasSomeTurns, StopsAfter, EndsSo, Ran}
use Rattle.law_session.proofs.Lines.{falls_any, falls_behind, falls_first}
use Rattle.law_lists.proofs.Places.{place_there}
use Rattle.live_node.specs.Opening.{Opening}
use Rattle.live_node.specs.Calls.{IsRight}
use Rattle.live_node.proofs.Right.{right_then}
use Rattle.live_store.specs.declared.store.LiveStore.{LiveStore}
use Rattle.live_store.specs.Known.{Known}
use Rattle.live_store.specs.Stores.{Acts, known_by}
use Rattle.live_session.specs.Lines.{Answered, IsAnswered, AreAnswered, MakesOn, MakesAt, OwnEvents, told_by}
use Rattle.live_session.specs.Sessions.{AreTaken, IsFrontOf, AllStay, EndsWith, IsServed}
use Rattle.live_session.proofs.Making.{carries_makes, none_makes}
use Rattle.live_session.proofs.Lines.{Chain, Ticked, Lifted, turns_chain, answered_then, one_line, quit, turn_lifts, answer_goes_on}

-- ---- the bytes

-- Some whole lines and one more are the first of those that all bytes fall into.
record Parts (bytes : List ℕ) (left : Option (List ℕ)) (lines : List (List ℕ)) (line : LineEnd) : Type 0 where
  unanswered : List LineEnd
  at_end : Bool
  are_taken : AreTaken bytes at_end (map line_end lines ++ line ∷ []) unanswered
  input_ends : IsTrue at_end → IsAtEnd left

not_true : IsTrue false → ⊥
not_true is = cc

more_order : (lines more : List (List ℕ)) → map line_end (lines ++ more) ++ [] ≡ map line_end lines ++ map line_end more
more_order lines more = append-nil (map line_end (lines ++ more)) ∙ map-append line_end lines more

unended_one : (rest : List ℕ) → 0 < length rest → unended rest ≡ TooLong ∷ []
unended_one [] some = absurd (omega arith)
unended_one (byte ∷ rest) some = refl

parts_of : (bytes : List ℕ) (left : Option (List ℕ)) (lines : List (List ℕ)) (rest : List ℕ) (line : LineEnd) → bytes ≡ flat_map ended lines ++ rest → AllByRecursion IsOneLine lines
    → TakesUp left rest line → Parts bytes left lines line
parts_of bytes left lines rest line whole each takes_up = elim takes_up.how [
  | inl one ↦
      let f = falls_any one.1 in
      record {
        unanswered = map line_end f.0;
        at_end = false;
        are_taken = record {
          lines = lines ++ one.0 ∷ f.0;
          rest = f.1;
          falls = falls_behind bytes rest lines (one.0 ∷ f.0) f.1 whole each (falls_first rest one.0 one.1 f.0 f.1 one.2 one.3 f.2);
          in_order = more_order lines (one.0 ∷ f.0) ∙ ap (λ (x : LineEnd). map line_end lines ++ x ∷ map line_end f.0) (sym one.4)
              ∙ sym (append_assoc (map line_end lines) (line ∷ []) (map line_end f.0));
        };
        input_ends = λ is. absurd (not_true is);
      }
  | inr last ↦ record {
    unanswered = [];
    at_end = true;
    are_taken = record {
      lines = lines;
      rest = rest;
      falls = record { whole = whole; each = each; open_line = last.0 };
      in_order = ap (λ (l : List LineEnd). map line_end lines ++ l) (unended_one rest last.1 ∙ ap (λ (x : LineEnd). x ∷ []) (sym last.3)) ∙ sym (append-nil (map line_end lines ++ line ∷ []));
    };
    input_ends = λ _. last.2;
  }
]

-- ---- own events

module _ {D : Type 0} (view : D → DiskView) where
  makes_then : (a b c : Known D) (xs ys : List Event) → MakesOn view a b xs → MakesOn view b c ys → MakesOn view a c (xs ++ ys)
  makes_then a b c xs ys (inl none) then =
      subst (λ (l : List Event). MakesOn view a c (l ++ ys)) (sym none.1) (subst (λ (k : Known D). MakesOn view k c ys) none.0 then)
  makes_then a b c xs ys (inr first) (inl none) =
      subst (λ (l : List Event). MakesOn view a c (xs ++ l)) (sym none.1)
      (subst (λ (l : List Event). MakesOn view a c l) (sym (append-nil xs)) (subst (λ (k : Known D). MakesOn view a k xs) (sym none.0) (inr first)))
  makes_then a b c xs ys (inr first) (inr then) =
      inr (
        then.0 ∙ first.0,
        right_then view a.opening a.pass b.pass c.pass xs ys first.1 (subst (λ (o : Opening D). IsRight view o b.pass c.pass ys) first.0 then.1),
      )

  made_then : (device : ℕ) (olds mids news : List (Known D)) (xs ys : List Event) → MakesAt view device olds mids xs → MakesAt view device mids news ys → MakesAt view device olds news (xs ++ ys)
  made_then device olds mids news xs ys first then =
      let same : first.new ≡ then.old = some_same (sym first.to ∙ then.from) in
      record {
        old = first.old;
        new = then.new;
        from = first.from;
        to = then.to;
        makes = makes_then first.old then.old then.new xs ys (subst (λ (k : Known D). MakesOn view first.old k xs) same first.makes) then.makes;
      }
    where
      some_same : {a b : Known D} → ◌≡◌ {A = Option (Known D)} (Some a) (Some b) → a ≡ b
      some_same is = cc

  line_makes : (l : Answered D) (device : ℕ) → device < length l.before → IsAnswered view l → (events : List Event) × MakesAt view device l.before l.after events
  line_makes l device there (inl c) = carries_makes view device l.before c.command _ l.reply l.after there c.same c.carries
  line_makes l device there (inr (inl d)) = none_makes view device l.before l.after there d.nothing
  line_makes l device there (inr (inr q)) = none_makes view device l.before l.after there q.nothing

  there_still : (xs : List (Known D)) (k : ℕ) (x : Known D) → slice_get xs k ≡ Some x → k < length xs
  there_still [] k x at = absurd cc
  there_still (y ∷ xs) zero x at = omega arith
  there_still (y ∷ xs) (suc k) x at = let rest = there_still xs k x at in omega (arith, rest)

  pub own_events : (device : ℕ) (olds : List (Known D)) (times : Times) (lines : List (Answered D)) (news : List (Known D)) (later : Times) → device < length olds
      → AreAnswered view olds times lines news later → OwnEvents view device olds lines news
  own_events device olds times [] news later there answered = let none = none_makes view device olds news there answered.0 in record {
    events = [];
    each = tt;
    all = nothing none.0 none.1;
  }
    where
      nothing : (events : List Event) → MakesAt view device olds news events → MakesAt view device olds news []
      nothing events m = let at = place_there olds device there in record {
        old = at.0;
        new = at.0;
        from = at.1;
        to = ap (λ (l : List (Known D)). slice_get l device) answered.0 ∙ at.1;
        makes = inl (refl, refl);
      }
  own_events device olds times (l ∷ lines) news later there answered =
      let here : device < length l.before = subst (λ (k : List (Known D)). device < length k) (sym answered.1) there in
      let first = line_makes l device here answered.2 in
      let rest = own_events device l.after answered.0 lines news later (there_still l.after device first.1.new first.1.to) answered.4 in
      record {
        events = first.0 ∷ rest.events;
        each = (first.1, rest.each);
        all = made_then device olds l.after news first.0 (flat_map (λ made. made) rest.events)
            (subst (λ (k : List (Known D)). MakesAt view device k l.after first.0) answered.1 first.1) rest.all;
      }

-- ---- the ends

module _ {D R : Type 0} (view : D → DiskView) (limit : ℕ) (bytes output : List ℕ) (left : Option (List ℕ)) (old : LiveStore D R) (times : Times) (new : LiveStore D R) (later : Times) where
  -- the lines of a session that ended so
  pub record Ending (result : Ended) : Type 0 where
    pub lines : List (Answered D)
    pub unanswered : List LineEnd
    pub at_end : Bool
    pub are_taken : AreTaken bytes at_end (map (λ (l : Answered D). l.line) lines) unanswered
    pub input_ends : IsTrue at_end → IsAtEnd left
    pub answered : AreAnswered view (known_by old) times lines (known_by new) later
    pub front : IsFrontOf output (told_by lines)
    pub ends : EndsWith limit bytes output at_end lines unanswered result

  abbrev Turned : List LineEnd → (text : List ℕ) → Type 0
  Turned ends text = HasTurns (Acts view) (Ticked R view) ends old times text new later

  chain_of : (ends : List LineEnd) (text : List ℕ) → Turned ends text → Chain R view ends old times text new later
  chain_of ends text serves = subst (λ (t : List ℕ). Chain R view ends old times t new later) (sym serves.told) (turns_chain R view ends serves.replies old times new later serves.turns)

  all_front : (lines : List (Answered D)) → output ≡ told_by lines → IsFrontOf output (told_by lines)
  all_front lines all = ([], sym all ∙ sym (append-nil output))

  -- of a longer text
  text_front : (text : List ℕ) (lines : List (Answered D)) (unsent : List ℕ) → told_by lines ≡ text → text ≡ output ++ unsent → IsFrontOf output (told_by lines)
  text_front text lines unsent of is = (unsent, of ∙ is)

  whole_lines : (result : Ended) (text unsent : List ℕ) → text ≡ output ++ unsent → HasWholeTurns (Acts view) (Ticked R view) bytes old times text new later
      → ((lines : List (Answered D)) → text ≡ told_by lines → AllStay lines → EndsWith limit bytes output false lines [] result) → Ending result
  whole_lines result text unsent is whole ends =
      let chain = chain_of (map line_end whole.lines) text whole.serves in
      record {
        lines = chain.lines;
        unanswered = [];
        at_end = false;
        are_taken = record { lines = whole.lines; rest = whole.rest; falls = whole.falls; in_order = ap (λ (l : List LineEnd). l ++ []) (sym chain.of_lines) };
        input_ends = λ is_end. absurd (not_true is_end);
        answered = chain.answered;
        front = text_front text chain.lines unsent chain.of_text is;
        ends = ends chain.lines (sym chain.of_text) chain.stay;
      }

  all_lines : (result : Ended) (text unsent : List ℕ) (n : ℕ) → text ≡ output ++ unsent → HasAllTurns (Acts view) (Ticked R view) bytes left n old times text new later
      → ((lines : List (Answered D)) → text ≡ told_by lines → AllStay lines → n ≡ length lines → EndsWith limit bytes output true lines [] result) → Ending result
  all_lines result text unsent n is all ends =
      let chain = chain_of (map line_end all.lines ++ unended all.rest) text all.serves in
      let counted = length-map chain.lines (λ (l : Answered D). l.line) in
      let same = ap length chain.of_lines in
      let both = length-append (map line_end all.lines) (unended all.rest) in
      let whole = length-map all.lines line_end in
      let count = all.counted in
      record {
        lines = chain.lines;
        unanswered = [];
        at_end = true;
        are_taken = record {
          lines = all.lines;
          rest = all.rest;
          falls = all.falls;
          in_order = sym chain.of_lines ∙ sym (append-nil (map (λ (l : Answered D). l.line) chain.lines));
        };
        input_ends = λ _. all.at_end;
        answered = chain.answered;
        front = text_front text chain.lines unsent chain.of_text is;
        ends = ends chain.lines (sym chain.of_text) chain.stay (omega (arith, counted, same, both, whole, count));
      }

  first_lines : (result : Ended) (text unsent : List ℕ) → text ≡ output ++ unsent → HasFirstTurns (Acts view) (Ticked R view) bytes old times text new later
      → ((lines : List (Answered D)) (unanswered : List LineEnd) → text ≡ told_by lines → AllStay lines → EndsWith limit bytes output false lines unanswered result) → Ending result
  first_lines result text unsent is first ends =
      let chain = chain_of (map line_end first.lines) text first.serves in
      let f = falls_any first.rest in
      record {
        lines = chain.lines;
        unanswered = map line_end f.0;
        at_end = false;
        are_taken = record {
          lines = first.lines ++ f.0;
          rest = f.1;
          falls = falls_behind bytes first.rest first.lines f.0 f.1 first.whole first.each f.2;
          in_order = more_order first.lines f.0 ∙ ap (λ (l : List LineEnd). l ++ map line_end f.0) (sym chain.of_lines);
        };
        input_ends = λ is_end. absurd (not_true is_end);
        answered = chain.answered;
        front = text_front text chain.lines unsent chain.of_text is;
        ends = ends chain.lines (map line_end f.0) (sym chain.of_text) chain.stay;
      }

  -- what is told of the last line, by why the session stops there
  abbrev LastIs : Stop → (front : List (Answered D)) → (last : Answered D) → (text : List ℕ) → Type 0
  LastIs QuitStop front last text = (text ≡ told_by (front ++ last ∷ [])) × (last.reply ≡ reply.Bye)
  LastIs MemoryStop front last text = text ≡ told_by front
  LastIs HaltStop front last text = ⊥

  record Last (line : LineEnd) (front : List (Answered D)) (told last : List ℕ) (mid : LiveStore D R) (then : Times) (stop : Stop) : Type 0 where
    one : Answered D
    of_line : one.line ≡ line
    answered : AreAnswered view (known_by mid) then (one ∷ []) (known_by new) later
    is : LastIs stop front one (told ++ last)

  told_more : (front : List (Answered D)) (one : Answered D) (told last : List ℕ) → told_by front ≡ told → last ≡ reply_text one.reply → told ++ last ≡ told_by (front ++ one ∷ [])
  told_more front one told last of is =
      (λ i. sym of i ++ is i) ∙ ap (λ (l : List ℕ). told_by front ++ l) (sym (append-nil (reply_text one.reply))) ∙ sym (flat_map-append (λ (l : Answered D). reply_text l.reply) front (one ∷ []))

  one_last : (line : LineEnd) (front : List (Answered D)) (told last : List ℕ) (mid : LiveStore D R) (then : Times) (stop : Stop) (r : Reply) → (lifted : Lifted R view line mid then r new later)
      → LastIs stop front (one_line R view line mid then r new later lifted) (told ++ last) → Last line front told last mid then stop
  one_last line front told last mid then stop r lifted is = record {
    one = one_line R view line mid then r new later lifted;
    of_line = refl;
    answered = (later, refl, lifted.answered, lifted.clock, (refl, refl));
    is = is;
  }

  last_of : (line : LineEnd) (front : List (Answered D)) (told last : List ℕ) (mid : LiveStore D R) (then : Times) (stop : Stop) → told_by front ≡ told
      → StopsAtLine (Acts view) (Ticked R view) line mid then last new later stop → Last line front told last mid then stop
  last_of line front told last mid then QuitStop of stops =
      let lifted = quit R view line mid then reply.Bye new later stops.0 in
      one_last line front told last mid then QuitStop reply.Bye lifted (told_more front (one_line R view line mid then reply.Bye new later lifted) told last of stops.1, refl)
  last_of line front told last mid then MemoryStop of (r, inl turn, none) =
      one_last line front told last mid then MemoryStop r (turn_lifts R view line mid then r new later turn) (ap (λ (l : List ℕ). told ++ l) none ∙ append-nil told ∙ sym of)
  last_of line front told last mid then MemoryStop of (r, inr quits, none) =
      one_last line front told last mid then MemoryStop r (quit R view line mid then r new later quits) (ap (λ (l : List ℕ). told ++ l) none ∙ append-nil told ∙ sym of)
  last_of line front told last mid then HaltStop of stops = absurd ((answer_goes_on R view line mid then reply.Halted new later stops.0).0 refl)

  -- the text that was told is a front of that of all lines
  last_front : (stop : Stop) (front : List (Answered D)) (last : Answered D) (text unsent : List ℕ) → text ≡ output ++ unsent → LastIs stop front last text
      → IsFrontOf output (told_by (front ++ last ∷ []))
  last_front QuitStop front last text unsent is (all, bye) = text_front text (front ++ last ∷ []) unsent (sym all) is
  last_front MemoryStop front last text unsent is all = (
    unsent ++ reply_text last.reply,
    flat_map-append (λ (l : Answered D). reply_text l.reply) front (last ∷ []) ∙ (λ i. (sym all ∙ is) i ++ append-nil (reply_text last.reply) i) ∙ append_assoc output unsent (reply_text last.reply),
  )
  last_front HaltStop front last text unsent is all = absurd all

  stopped_lines : (result : Ended) (text unsent : List ℕ) (n : ℕ) (stop : Stop) → text ≡ output ++ unsent → StopsAfter (Acts view) (Ticked R view) bytes left n old times text new later stop
      → ((front : List (Answered D)) (last : Answered D) (at_end : Bool) (unanswered : List LineEnd) → AllStay front → n ≡ length front → LastIs stop front last text
      → EndsWith limit bytes output at_end (front ++ last ∷ []) unanswered result) → Ending result
  stopped_lines result text unsent n stop is s ends =
      let chain = subst (λ (t : List ℕ). Chain R view (map line_end s.lines) old times t s.mid s.then) (sym s.serves.told)
      (turns_chain R view (map line_end s.lines) s.serves.replies old times s.mid s.then s.serves.turns) in
      let parts = parts_of bytes left s.lines s.rest s.line s.whole s.each s.takes_up in
      let last = last_of s.line chain.lines s.told s.last s.mid s.then stop chain.of_text s.stops in
      let said = subst (LastIs stop chain.lines last.one) (sym s.all) last.is in
      let counted = length-map chain.lines (λ (l : Answered D). l.line) in
      let same = ap length chain.of_lines in
      let whole = length-map s.lines line_end in
      let count = s.counted in
      let order : map line_end s.lines ++ s.line ∷ [] ≡ map (λ (l : Answered D). l.line) (chain.lines ++ last.one ∷ []) =
      (λ i. sym chain.of_lines i ++ sym last.of_line i ∷ []) ∙ sym (map-append (λ (l : Answered D). l.line) chain.lines (last.one ∷ [])) in
      record {
        lines = chain.lines ++ last.one ∷ [];
        unanswered = parts.unanswered;
        at_end = parts.at_end;
        are_taken = subst (λ (l : List LineEnd). AreTaken bytes parts.at_end l parts.unanswered) order parts.are_taken;
        input_ends = parts.input_ends;
        answered = answered_then R view (known_by old) (known_by s.mid) (known_by new) times s.then later chain.lines (last.one ∷ []) chain.answered last.answered;
        front = last_front stop chain.lines last.one text unsent is said;
        ends = ends chain.lines last.one parts.at_end parts.unanswered chain.stay (omega (arith, counted, same, whole, count)) said;
      }

  -- ---- all ends

  length_one : (front : List (Answered D)) (last : Answered D) → length (front ++ last ∷ []) ≡ length front + 1
  length_one front last = length-append front (last ∷ [])

  no_more : output ≡ output ++ []
  no_more = sym (append-nil output)

  some_lines : (text unsent : List ℕ) → text ≡ output ++ unsent → HasSomeTurns (Acts view) (Ticked R view) bytes left old times text new later → Ending SinkFault
  some_lines text unsent is (inl first) = first_lines SinkFault text unsent is first (λ lines unanswered told stay. tt)
  some_lines text unsent is (inr (inl (n, all))) = all_lines SinkFault text unsent n is all (λ lines told stay count. tt)
  some_lines text unsent is (inr (inr (n, stop, s))) = stopped_lines SinkFault text unsent n stop is s (λ front last at_end unanswered stay count said. tt)

  pub ends_lift : (result : Ended) → EndsSo (Acts view) (Ticked R view) limit bytes left old times output new later result → Ending result
  ends_lift (Finish n) ends = all_lines (Finish n) output [] n no_more ends.1 (λ lines told stay count. (told, stay, refl, refl, count))
  ends_lift (Quit n) ends =
      stopped_lines (Quit n) output [] ends.0 QuitStop no_more ends.2
      (λ front last at_end unanswered stay count said.
      (said.0, record { front = front; last = last; is = refl; stay = stay; leaves = said.1 }, ends.1 ∙ ap (λ (m : ℕ). m + 1) count ∙ sym (length_one front last)))
  ends_lift SourceFault ends = whole_lines SourceFault output [] no_more ends.1 (λ lines told stay. (told, stay, refl, refl, ends.0))
  ends_lift SinkFault ends = some_lines ends.0 ends.1.unsent ends.1.parts ends.2
  ends_lift Memory (inl first) = first_lines Memory output [] no_more first (λ lines unanswered told stay. inl told)
  ends_lift Memory (inr stops) = stopped_lines Memory output [] stops.0 MemoryStop no_more stops.1 (λ front last at_end unanswered stay count said. inr (front, last, refl, said))
  ends_lift Halted ends = stopped_lines Halted output [] ends.0 HaltStop no_more ends.1 (λ front last at_end unanswered stay count said. absurd said)
  ends_lift (Long n) ends = whole_lines (Long n) output [] no_more ends.2 (λ lines told stay. (told, stay, refl, refl, ends.1, ends.0))

-- The same of the session's own word.
pub ran_serves : {D R : Type 0} (view : D → DiskView) (limit : ℕ) (taken taken' : List ℕ) (left left' written written' : Option (List ℕ)) (old : LiveStore D R) (times : Times) (new : LiveStore D R)
    (later : Times)
    (result : Ended) → Ran (Acts view) (Ticked R view) limit taken taken' left left' written written' old new times later result
    → IsServed view limit taken taken' left left' written written' (known_by old) times (known_by new) later result
ran_serves view limit taken taken' left left' written written' old times new later result ran =
    let e = ends_lift view limit ran.bytes ran.output left' old times new later result ran.ends in
    record {
      bytes = ran.bytes;
      output = ran.output;
      takes = ran.takes;
      shortens = ran.shortens;
      extends = ran.extends;
      within = ran.within;
      lines = e.lines;
      unanswered = e.unanswered;
      ended = e.at_end;
      are_taken = e.are_taken;
      input_ends = e.input_ends;
      answered = e.answered;
      front = e.front;
      ends = e.ends;
      own = λ device there. own_events view device (known_by old) times e.lines (known_by new) later there e.answered;
    }
