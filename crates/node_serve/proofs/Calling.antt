-- What a session does to its store is a chain of the store's calls.
use Rattle.std.proofs.Common.{◌≡◌, ℕ, ◌^◌, min, List, [], ◌∷◌, Option, refl, subst, inl, inr}
use Rattle.line_proto.specs.declared.command.Command.{Command}
use Rattle.line_proto.specs.declared.reply.Reply.{Reply}
use Rattle.line_proto.specs.declared.line_end.LineEnd.{LineEnd}
use Rattle.node_session.specs.declared.ended.Ended.{Ended}
use Rattle.node_session.specs.declared.ended.Ended.TheVariants.{Finish, Quit, SourceFault, SinkFault, Memory, Halted, Long}
use Rattle.node_session.specs.declared.stop.Stop.{Stop}
use Rattle.node_session.specs.declared.stop.Stop.TheVariants.{Quit as QuitStop, Memory as MemoryStop, Halted as HaltStop}
use Rattle.node_session.specs.Turns.{Times, Answers, WholeTurn, TurnAny, Turns, HasTurns, StopsAtLine}
use Rattle.node_session.specs.Session.{HasSomeTurns, StopsAfter, EndsSo, Ran}
use Rattle.node_serve.specs.Calling.{Call, Acted, Tended, Calls}

module _ {S : Type 0} (acts : S → Command → ℕ → Reply → S → Type 0) (tends : S → S → Type 0) where
  -- some calls take the store from old to new
  abbrev pub Reaches : S → S → Type 0
  Reaches old new = (calls : List Call) × Calls acts tends calls old new

  stays : (old new : S) → new ≡ old → Reaches old new
  stays old new same = ([], same)

  and_then : (calls : List Call) (old mid new : S) → Calls acts tends calls old mid → Reaches mid new → Reaches old new
  and_then [] old mid new same rest = subst (λ c. Reaches c new) same rest
  and_then (Acted command now reply ∷ calls) old mid new (next, acted, more) rest = let r = and_then calls next mid new more rest in (Acted command now reply ∷ r.0, (next, acted, r.1))
  and_then (Tended ∷ calls) old mid new (next, tended, more) rest = let r = and_then calls next mid new more rest in (Tended ∷ r.0, (next, tended, r.1))

  pub joined : (old mid new : S) → Reaches old mid → Reaches mid new → Reaches old new
  joined old mid new (calls, first) rest = and_then calls old mid new first rest

  answered : (line : LineEnd) (old : S) (times : Times) (reply : Reply) (new : S) (later : Times) → Answers acts line old times reply new later → Reaches old new
  answered line old times reply new later (inl it) = (Acted it.command (min it.now (2 ^ 61)) reply ∷ [], (new, it.acted, refl))
  answered line old times reply new later (inr it) = stays old new it.same_store

  turned : (line : LineEnd) (old : S) (times : Times) (reply : Reply) (new : S) (later : Times) → WholeTurn acts tends line old times reply new later → Reaches old new
  turned line old times reply new later it = joined old it.answered new (answered line old times reply it.answered later it.answer) (Tended ∷ [], (new, it.tended, refl))

  turned_any : (line : LineEnd) (old : S) (times : Times) (reply : Reply) (new : S) (later : Times) → TurnAny acts tends line old times reply new later → Reaches old new
  turned_any line old times reply new later (inl it) = turned line old times reply new later it
  turned_any line old times reply new later (inr it) = stays old new it.same_store

  all_turned : (lines : List LineEnd) (old : S) (times : Times) (replies : List Reply) (new : S) (later : Times) → Turns acts tends lines old times replies new later → Reaches old new
  all_turned [] old times [] new later it = stays old new it.0
  all_turned (line ∷ lines) old times (reply ∷ replies) new later (mid, then, first, rest) =
      joined old mid new (turned line old times reply mid then first) (all_turned lines mid then replies new later rest)
  all_turned [] old times (reply ∷ replies) new later it = absurd it
  all_turned (line ∷ lines) old times [] new later it = absurd it

  have_turns : (lines : List LineEnd) (old : S) (times : Times) (output : List ℕ) (new : S) (later : Times) → HasTurns acts tends lines old times output new later → Reaches old new
  have_turns lines old times output new later it = all_turned lines old times it.replies new later it.turns

  stopped : (line : LineEnd) (old : S) (times : Times) (last : List ℕ) (new : S) (later : Times) (stop : Stop) → StopsAtLine acts tends line old times last new later stop → Reaches old new
  stopped line old times last new later QuitStop it = stays old new it.0.same_store
  stopped line old times last new later MemoryStop (reply, it, none) = turned_any line old times reply new later it
  stopped line old times last new later HaltStop it = answered line old times _ new later it.0

  stops_after : (bytes : List ℕ) (left : Option (List ℕ)) (n : ℕ) (old : S) (times : Times) (output : List ℕ) (new : S) (later : Times) (stop : Stop)
      → StopsAfter acts tends bytes left n old times output new later stop → Reaches old new
  stops_after bytes left n old times output new later stop it =
      joined old it.mid new (have_turns _ old times it.told it.mid it.then it.serves) (stopped it.line it.mid it.then it.last new later stop it.stops)

  some_turns : (bytes : List ℕ) (left : Option (List ℕ)) (old : S) (times : Times) (output : List ℕ) (new : S) (later : Times)
      → HasSomeTurns acts tends bytes left old times output new later → Reaches old new
  some_turns bytes left old times output new later (inl it) = have_turns _ old times output new later it.serves
  some_turns bytes left old times output new later (inr (inl (n, it))) = have_turns _ old times output new later it.serves
  some_turns bytes left old times output new later (inr (inr (n, stop, it))) = stops_after bytes left n old times output new later stop it

  ends_so : (limit : ℕ) (bytes : List ℕ) (left : Option (List ℕ)) (old : S) (times : Times) (output : List ℕ) (new : S) (later : Times) (how : Ended)
      → EndsSo acts tends limit bytes left old times output new later how → Reaches old new
  ends_so limit bytes left old times output new later (Finish n) it = have_turns _ old times output new later it.1.serves
  ends_so limit bytes left old times output new later (Quit n) (m, counted, it) = stops_after bytes left m old times output new later QuitStop it
  ends_so limit bytes left old times output new later SourceFault it = have_turns _ old times output new later it.1.serves
  ends_so limit bytes left old times output new later SinkFault (text, short, it) = some_turns bytes left old times text new later it
  ends_so limit bytes left old times output new later Memory (inl it) = have_turns _ old times output new later it.serves
  ends_so limit bytes left old times output new later Memory (inr (m, it)) = stops_after bytes left m old times output new later MemoryStop it
  ends_so limit bytes left old times output new later Halted (m, it) = stops_after bytes left m old times output new later HaltStop it
  ends_so limit bytes left old times output new later (Long n) it = have_turns _ old times output new later it.2.serves

  pub ran : (limit : ℕ) (taken taken' : List ℕ) (left left' written written' : Option (List ℕ)) (old new : S) (times later : Times) (how : Ended)
      → Ran acts tends limit taken taken' left left' written written' old new times later how → Reaches old new
  ran limit taken taken' left left' written written' old new times later how it = ends_so limit it.bytes left' old times it.output new later how it.ends
