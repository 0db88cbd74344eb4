use Rattle.std.proofs.Common.{◌≢◌, Some, ℕ, ◌+◌, List, Option, refl, sym, subst, ap, ◌∙◌}
use Rattle.std.specs.Option.{IsSome}
use Rattle.rec_format.specs.declared.entry.Entry.{Entry}
use Rattle.rec_format.specs.Places.{digest_cmp}
use Rattle.rec_format.specs.declared.version.Digest.{Digest}
use Rattle.entry_arena.specs.State.{entry_at}
use Rattle.arena_sprig.specs.declared.links.Link.{Link}
use Rattle.arena_sprig.specs.Tree.{Slots, IsTree, entries_from, no_slot}
use Rattle.arena_sprig.proofs.Trees.{ordered}
use Rattle.arena_sprig.proofs.Ways.{same_entry}
use Rattle.arena_sprig.proofs.After.{IsOnTheWayAfter, after_started, after_ended, after_spent, after_stepped, IsAfterStep}
use Rattle.arena_sprig.proofs.walks.first_after.Goals as goal
use Rattle.arena_sprig.proofs.walks.first_after.Goals.{in-Less, in-Equal, in-Greater}

pub loop-step-init : goal.loop-step-init
loop-step-init c = after_started c.args.arena.now.slots c.args.links.now c.args.root c.args.count c.args.digest.now c.requires

pub returns-then-at : goal.returns-then-at
returns-then-at c =
    let slots = c.args.arena.now.slots in
    let links = c.args.links.now in
    after_ended slots links c.requires.linked (entries_from c.args.count slots links c.args.root) (ordered slots links c.args.root c.args.count c.requires)
    c.args.digest.now c.loop-step.next c.loop-step.at c.loop-step.step c.args.count c.loop-step.invariant c.if-at.true

pub returns : goal.returns
returns c =
    let slots = c.args.arena.now.slots in
    let links = c.args.links.now in
    after_spent slots links c.requires.linked (entries_from c.args.count slots links c.args.root) (ordered slots links c.args.root c.args.count c.requires)
    c.args.digest.now c.loop-step.next c.loop-step.at c.loop-step.step c.args.count c.loop-step.invariant c.loop-step-test.false

module _ (slots : Slots) (links : List Link) (root count : ℕ) (kept : IsTree slots links root count) (digest : Digest) (at : ℕ) (next : Option Entry) (steps : ℕ) where
  abbrev Step : Type 0
  Step = IsAfterStep slots links kept.linked (entries_from count slots links root) (ordered slots links root count kept) digest next at steps count

  step_of : IsOnTheWayAfter slots links (entries_from count slots links root) digest next at steps count → at ≢ no_slot → Step
  step_of way some = after_stepped slots links kept.linked (entries_from count slots links root) (ordered slots links root count kept) digest next at steps count way some

pub get-requires : goal.get-requires
get-requires c =
    let step = step_of c.args.arena.now.slots c.args.links.now c.args.root c.args.count c.requires c.args.digest.now c.loop-step.at c.loop-step.next
    c.loop-step.step c.loop-step.invariant c.if-at.false in
    subst (λ o. IsSome o) (sym step.holds) refl

pub loop-step-preserved : goal.loop-step-preserved
loop-step-preserved c =
    let slots = c.args.arena.now.slots in
    let links = c.args.links.now in
    let entries = entries_from c.args.count slots links c.args.root in
    let step = step_of c.args.arena.now.slots c.args.links.now c.args.root c.args.count c.requires c.args.digest.now c.loop-step.at c.loop-step.next
    c.loop-step.step c.loop-step.invariant c.if-at.false in
    let same = same_entry (entry_at c.args.arena.now c.loop-step.at) c.get.result.now step.entry c.get.ensures step.holds in
    let compared = ap (λ (e : Entry). digest_cmp e.digest c.args.digest.now) same ∙ sym c.cmp.ensures in
    let moved = λ (n : ℕ) (o : Option Entry). IsOnTheWayAfter slots links entries c.args.digest.now o n (c.loop-step.step + 1) c.args.count in
    let right = ap (λ (l : Link). l.right) c.link_of-link.ensures in
    let left = ap (λ (l : Link). l.left) c.link_of-link.ensures in
    elim c.match-cmp.branch [
      | in-Less w ↦ subst (λ o. moved c.match-cmp.at o) (sym w.next-is) (subst (λ n. moved n c.loop-step.next) (sym (w.at-is ∙ right)) (step.less (compared ∙ w.in-Less.is)))
      | in-Equal w ↦ subst (λ o. moved c.match-cmp.at o) (sym w.next-is) (subst (λ n. moved n c.loop-step.next) (sym (w.at-is ∙ right)) (step.equal (compared ∙ w.in-Equal.is)))
      | in-Greater w ↦ subst (λ o. moved c.match-cmp.at o) (ap (λ (e : Entry). Some e) same ∙ sym w.next-is)
          (subst (λ n. moved n (Some step.entry)) (sym (w.at-is ∙ left)) (step.greater (compared ∙ w.in-Greater.is)))
    ]
