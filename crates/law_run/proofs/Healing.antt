-- A heal behind a flush, with nothing between but the tending behind the flush, makes sure of each gate where both are answered ok.
use Rattle.std.proofs.Common.{◌≡◌, inl, inr, ℕ, Bool, true, false, ◌||◌, ◌&&◌, cond, List, refl, sym, ap, ◌∙◌}
use Rattle.std.specs.Prelude.{Option, Some, None, is_some}
use Rattle.line_proto.specs.declared.reply.Reply.TheVariants as reply
use Rattle.line_proto.specs.declared.reply.LineFault.{LineFault}
use Rattle.model_node.specs.Commands.{Node}
use Rattle.model_node.specs.Run.{ImagesLeft, Served, Serves, AnswersLine, node_at_reply, node_after_line}
use Rattle.model_node.specs.Outside.{counts_of}
use Rattle.model_node.specs.Opening.{none_opening}
use Rattle.model_node.proofs.Opening.{flush_opens_none}
use Rattle.law_run.specs.Shown.{tells_gates, is_healed, makes_sure, counts_behind}

no_fail : (gates : ℕ) (why : LineFault) → reply.Healed gates ≡ reply.Fail why → ⊥
no_fail gates why is = cc

-- what is answered so was carried out
heal_carried : (left : ImagesLeft) (told : Bool) (node : Node) (line : Option (List ℕ)) (served : Served) (gates : ℕ) → AnswersLine left told node line served → served.reply ≡ reply.Healed gates
    → is_healed served ≡ true
heal_carried left told node None served gates refuses is = absurd (no_fail gates _ (sym is ∙ refuses.3))
heal_carried left told node (Some line) served gates (inr (inl refuses)) is = absurd (no_fail gates _ (sym is ∙ refuses.1.3))
heal_carried left told node (Some line) served gates (inr (inr lacks)) is = absurd (no_fail gates _ (sym is ∙ lacks.1.3))
heal_carried left told node (Some line) served gates (inl does) is = λ i. is_some (does.3 i) && tells_gates (is i)

either : (x y : Bool) → y ≡ true → (x || y) ≡ true
either true y is = refl
either false y is = is

-- So a raid behind them is exact on each device of which no fault is counted since.
pub flush_then_heal : (left : ImagesLeft) (told : Bool) (node : Node) (flush heal : Served) (since : List ℕ) (buffers gates : ℕ) → Serves left told node flush
    → Serves left told (node_after_line flush node) heal → flush.reply ≡ reply.Flushed buffers → heal.reply ≡ reply.Healed gates
    → counts_behind since (node_after_line flush node) heal ≡ counts_of (node_at_reply heal (node_after_line flush node))
flush_then_heal left told node flush heal since buffers gates flushes heals flushed healed =
    let between : Node = node_after_line flush node in
    let none = flush_opens_none left told node flush buffers flushes flushed in
    let carried = heal_carried left told between heal.line heal gates heals.answers healed in
    let sure : makes_sure between heal ≡ true = either (is_some heal.restarted) (is_healed heal && none_opening between) (λ i. carried i && none i) in
    ap (λ (made : Bool). cond made (counts_of (node_at_reply heal between)) since) sure
