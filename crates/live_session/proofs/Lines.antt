-- From the turns of a session over a store to lines, each with its reply and what was known of the devices.
use Rattle.std.proofs.Common.{◌≡◌, inl, inr, ℕ, List, [], ◌∷◌, ◌++◌, map, refl, sym, ap, subst}
use Rattle.std.specs.Prelude.{◌≢◌, ◌⊎◌, Option, Some, None, flat_map}
use Rattle.disk_model.specs.Disk.{DiskView}
use Rattle.line_proto.specs.declared.reply.Reply.{Reply}
use Rattle.line_proto.specs.declared.reply.Reply.TheVariants as reply
use Rattle.line_proto.specs.declared.reply.LineFault.TheVariants as why
use Rattle.line_proto.specs.declared.line_end.LineEnd.{LineEnd}
use Rattle.line_proto.specs.Lines.{reply_text}
use Rattle.node_session.specs.Turns.{Times, Answers, CarriesOut, Declines, Quits, WholeTurn, Turns}
use Rattle.live_store.specs.declared.store.LiveStore.{LiveStore}
use Rattle.live_store.specs.Known.{Known}
use Rattle.live_store.specs.Stores.{Acts, known_by, lives_of, passes_of}
use Rattle.live_store.proofs.Known.{devices_same}
use Rattle.live_session.specs.Lines.{Answered, IsAnswered, AreAnswered, TellsTime, told_by}
use Rattle.live_session.specs.Sessions.{AllStay}

module _ {D : Type 0} (R : Type 0) (view : D → DiskView) where
  abbrev pub Store : Type 0
  Store = LiveStore D R

  abbrev pub Ticked : Store → Store → Type 0
  Ticked old new = new ≡ old

  -- ---- one line

  -- The line is answered so, and the session goes on.
  pub record Lifted (line : LineEnd) (old : Store) (times : Times) (r : Reply) (new : Store) (later : Times) : Type 0 where
    pub time : Option ℕ
    pub answered : IsAnswered view record { line = line; time = time; reply = r; before = known_by old; after = known_by new }
    pub clock : TellsTime times time later

  carried : (line : LineEnd) (old : Store) (times : Times) (r : Reply) (new : Store) (later : Times) → CarriesOut (Acts view) line old times r new later → Lifted line old times r new later
  carried line old times r new later c = record {
    time = Some c.now;
    answered = inl (record {
      command = c.command;
      now = c.now;
      is_command = c.is_command;
      goes_on = c.goes_on;
      at = refl;
      same = devices_same (lives_of old) (lives_of new) (passes_of old) (passes_of new) c.acted.lives c.acted.numbers;
      carries = c.acted.carries;
    });
    clock = c.ticks;
  }

  declined : (line : LineEnd) (old : Store) (times : Times) (r : Reply) (new : Store) (later : Times) → Declines line old times r new later → Lifted line old times r new later
  declined line old times r new later d = record {
    time = None;
    answered = inr (inl (record { untimed = refl; nothing = ap known_by d.same_store; why = d.why }));
    clock = d.same_times;
  }

  pub quit : (line : LineEnd) (old : Store) (times : Times) (r : Reply) (new : Store) (later : Times) → Quits line old times r new later → Lifted line old times r new later
  quit line old times r new later q = record {
    time = Some q.now;
    answered = inr (inr (record { is_quit = q.is_quit; now = q.now; at = refl; nothing = ap known_by q.same_store; farewell = q.farewell }));
    clock = q.ticks;
  }

  answers_lift : (line : LineEnd) (old : Store) (times : Times) (r : Reply) (new : Store) (later : Times) → Answers (Acts view) line old times r new later → Lifted line old times r new later
  answers_lift line old times r new later (inl c) = carried line old times r new later c
  answers_lift line old times r new later (inr d) = declined line old times r new later d

  -- no answer takes leave or halts
  pub answer_goes_on : (line : LineEnd) (old : Store) (times : Times) (r : Reply) (new : Store) (later : Times) → Answers (Acts view) line old times r new later → (r ≢ reply.Halted)
      × (r ≢ reply.Bye)
  answer_goes_on line old times r new later (inl c) = c.acted.goes_on
  answer_goes_on line old times r new later (inr d) = declines_goes_on r d.why
    where
      declines_goes_on : {A B : Type 0} (r : Reply) → (A × (r ≡ reply.Fail why.Line)) ⊎ (B × (r ≡ reply.Fail why.Memory)) → (r ≢ reply.Halted) × (r ≢ reply.Bye)
      declines_goes_on r (inl refused) = ((λ is. absurd cc), (λ is. absurd cc))
      declines_goes_on r (inr lacks) = ((λ is. absurd cc), (λ is. absurd cc))

  pub turn_lifts : (line : LineEnd) (old : Store) (times : Times) (r : Reply) (new : Store) (later : Times) → WholeTurn (Acts view) Ticked line old times r new later → Lifted line old times r new later
  turn_lifts line old times r new later turn = subst (λ (s : Store). Lifted line old times r s later) (sym turn.tended) (answers_lift line old times r turn.answered later turn.answer)

  -- ---- lines, one after another

  -- These lines were answered, with these replies.
  pub record Chain (ends : List LineEnd) (old : Store) (times : Times) (text : List ℕ) (new : Store) (later : Times) : Type 0 where
    pub lines : List (Answered D)
    pub of_lines : map (λ (l : Answered D). l.line) lines ≡ ends
    pub of_text : told_by lines ≡ text
    pub answered : AreAnswered view (known_by old) times lines (known_by new) later
    pub stay : AllStay lines

  pub turns_chain : (ends : List LineEnd) (replies : List Reply) (old : Store) (times : Times) (new : Store) (later : Times) → Turns (Acts view) Ticked ends old times replies new later
      → Chain ends old times (flat_map reply_text replies) new later
  turns_chain [] [] old times new later turns = record { lines = []; of_lines = refl; of_text = refl; answered = (ap known_by turns.0, turns.1); stay = tt }
  turns_chain [] (r ∷ replies) old times new later turns = absurd turns
  turns_chain (line ∷ ends) [] old times new later turns = absurd turns
  turns_chain (line ∷ ends) (r ∷ replies) old times new later turns =
      let mid = turns.0 in
      let then = turns.1 in
      let first = turn_lifts line old times r mid then turns.2 in
      let rest = turns_chain ends replies mid then new later turns.3 in
      record {
        lines = record { line = line; time = first.time; reply = r; before = known_by old; after = known_by mid } ∷ rest.lines;
        of_lines = ap (λ (l : List LineEnd). line ∷ l) rest.of_lines;
        of_text = ap (λ (l : List ℕ). reply_text r ++ l) rest.of_text;
        answered = (then, refl, first.answered, first.clock, rest.answered);
        stay = ((answer_goes_on line old times r turns.2.answered then turns.2.answer).1, rest.stay);
      }

  pub answered_then : (olds mids news : List (Known D)) (times then later : Times) (xs ys : List (Answered D)) → AreAnswered view olds times xs mids then → AreAnswered view mids then ys news later
      → AreAnswered view olds times (xs ++ ys) news later
  answered_then olds mids news times then later [] ys first rest =
      subst (λ (l : List (Known D)). AreAnswered view l times ys news later) first.0 (subst (λ (t : Times). AreAnswered view mids t ys news later) first.1 rest)
  answered_then olds mids news times then later (x ∷ xs) ys first rest = (first.0, first.1, first.2, first.3, answered_then x.after mids news first.0 then later xs ys first.4 rest)

  -- one line behind them
  abbrev pub one_line : (line : LineEnd) (old : Store) (times : Times) (r : Reply) (new : Store) (later : Times) → Lifted line old times r new later → Answered D
  one_line line old times r new later lifted = record { line = line; time = lifted.time; reply = r; before = known_by old; after = known_by new }
