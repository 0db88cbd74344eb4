-- Turns, one list of them after another.
use Rattle.std.proofs.Common.{ℕ, List, [], ◌∷◌, ◌++◌, refl, sym, ◌∙◌}
use Rattle.std.proofs.lemmas.List.{append-nil}
use Rattle.line_proto.specs.declared.command.Command.{Command}
use Rattle.line_proto.specs.declared.reply.Reply.{Reply}
use Rattle.line_proto.specs.declared.line_end.LineEnd.{LineEnd}
use Rattle.line_proto.specs.Lines.{reply_text}
use Rattle.std.proofs.lemmas.Grind.{flat_map-append}
use Rattle.node_session.specs.Turns.{Times, WholeTurn, Turns, HasTurns}

module _ {T : Type 0} (acts : T → Command → ℕ → Reply → T → Type 0) (tends : T → T → Type 0) where
  turns_on : (xs ys : List LineEnd) (old : T) (times : Times) (rs ss : List Reply) (mid : T) (then : Times) (new : T) (later : Times)
      → Turns acts tends xs old times rs mid then → Turns acts tends ys mid then ss new later → Turns acts tends (xs ++ ys) old times (rs ++ ss) new later
  turns_on [] ys old times [] ss mid then new later one two = rw (← one.0, ← one.1) two
  turns_on (x ∷ xs) ys old times (r ∷ rs) ss mid then new later one two = (one.0, one.1, one.2, turns_on xs ys one.0 one.1 rs ss mid then new later one.3 two)
  turns_on [] ys old times (r ∷ rs) ss mid then new later one two = absurd one
  turns_on (x ∷ xs) ys old times [] ss mid then new later one two = absurd one

  pub serves_none : (old : T) (times : Times) → HasTurns acts tends [] old times [] old times
  serves_none old times = record { replies = []; turns = (refl, refl); told = refl }

  pub serves_on : (xs ys : List LineEnd) (old : T) (times : Times) (a b : List ℕ) (mid : T) (then : Times) (new : T) (later : Times)
      → HasTurns acts tends xs old times a mid then → HasTurns acts tends ys mid then b new later → HasTurns acts tends (xs ++ ys) old times (a ++ b) new later
  serves_on xs ys old times a b mid then new later one two = record {
    replies = one.replies ++ two.replies;
    turns = turns_on xs ys old times one.replies two.replies mid then new later one.turns two.turns;
    told = (λ i. one.told i ++ two.told i) ∙ sym (flat_map-append reply_text one.replies two.replies);
  }

  pub serves_one : (line : LineEnd) (old : T) (times : Times) (reply : Reply) (new : T) (later : Times) → WholeTurn acts tends line old times reply new later
      → HasTurns acts tends (line ∷ []) old times (reply_text reply) new later
  serves_one line old times reply new later turn = record {
    replies = reply ∷ [];
    turns = (new, later, turn, (refl, refl));
    told = sym (append-nil (reply_text reply));
  }
