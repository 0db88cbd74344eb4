use Rattle.std.proofs.Common.{◌≡◌, ℕ, ◌+◌, ◌++◌, ◌∷◌, [], inr, sym, ap, subst, ◌∙◌, arith}
use Rattle.model_device.specs.Events.{get_call}
use Rattle.shard_core.specs.Calls.{read_answer}
use Rattle.turn_table.specs.Passes.{view, found_out, own_count, joined_count}
use Rattle.live_node.specs.Fits.{Is}
use Rattle.live_node.specs.Lives.{opening_at, shelf_slot}
use Rattle.live_node.specs.Tries.{TryAnswers}
use Rattle.live_node.proofs.Right.{right_then, answers_between}
use Rattle.live_node.proofs.Trying.{reads_once}
use Rattle.live_node.proofs.live.Live.try_get.Goals as goal

pub enter-answer-requires-clause-sprig : goal.enter-answer-requires-clause-sprig
enter-answer-requires-clause-sprig g c = let part = c.in-Some.ensures.some in c.in-Some-try_hub.ensures.some.3 c.part_of-part.result c.in-Some.sprig part.0.1 part.2

pub returns-in_default-try_hub-clause-answers : goal.returns-in_default-try_hub-clause-answers
returns-in_default-try_hub-clause-answers g c =
    let o = opening_at c.args.self.now in
    let none = c.in_default-try_hub.ensures.none in
    let slot : c.parts.result ≡ shelf_slot c.args.self.now = c.parts.ensures.total ∙ sym c.known.ensures.all in
    let v0 = view c.args.pass.now in let v1 = view c.try_part.new.pass in let v2 = view c.try_hub.new.pass in let v3 = view c.give_part.new.pass in (
      inr slot,
      record {
        right = right_then g.D.Disk.view o v0 v2 v3 [] [] (right_then g.D.Disk.view o v0 v1 v2 [] [] c.in-Some.ensures.right c.in_default-try_hub.ensures.right) c.give_part.ensures.right;
        out = c.give_part.ensures.found ∙ none.1 ∙ ap (λ l. l ++ shelf_slot c.args.self.now ∷ []) c.in-Some.ensures.some.1 ∙ ap (λ (n : ℕ). found_out c.args.pass.now ++ n ∷ []) (sym slot);
        others = let numbers = c.in-Some.ensures.numbers in let few = none.2 in omega (arith, few, numbers.0, numbers.1);
      },
    )

pub returns-clause-answers : goal.returns-clause-answers
returns-clause-answers g c =
    let o = opening_at c.args.self.now in
    let view' = g.D.Disk.view in
    let numbers = own_count c.args.pass.now + joined_count c.args.pass.now in
    let v0 = view c.args.pass.now in let v1 = view c.try_part.new.pass in let v2 = view c.try_hub.new.pass in let v3 = view c.enter-answer.new.pass in let v4 = view c.give_part-2.new.pass in
    subst (TryAnswers view' o v0 v4 numbers (shelf_slot c.args.self.now) c.args.digest.now c.args.now) (sym c.tried.ensures)
    (reads_once view' o v0 v4 numbers (shelf_slot c.args.self.now) c.args.digest.now c.args.now c.enter-answer.result
    ((answers_between view' o v0 v2 v3 v4 (Is (get_call c.args.digest.now c.args.now) (λ a. a ≡ read_answer c.enter-answer.result))
    (right_then view' o v0 v1 v2 [] [] c.in-Some.ensures.right c.in-Some-try_hub.ensures.right) c.enter-answer.ensures.once.0 c.give_part-2.ensures.right c.give_part-2.ensures.seen).0)
    (c.give_part-2.ensures.found ∙ c.enter-answer.ensures.found ∙ c.in-Some-try_hub.ensures.some.1 ∙ c.in-Some.ensures.some.1))
