use Rattle.std.proofs.Common.{ℕ, ◌+◌, List, slice_index_or, refl, sym, subst, ap, ◌∙◌}
use Rattle.std.specs.Option.{IsSome}
use Rattle.rec_format.specs.declared.entry.Entry.{Entry}
use Rattle.rec_format.specs.Places.{digest_cmp}
use Rattle.entry_arena.specs.State.{entry_at}
use Rattle.arena_sprig.specs.declared.links.Link.{Link}
use Rattle.arena_sprig.specs.declared.links.Gap.{Gap}
use Rattle.arena_sprig.specs.declared.links.Gap.TheVariants.{Left, Right}
use Rattle.arena_sprig.specs.Tree.{no_link, entries_from, IsWayDown}
use Rattle.arena_sprig.proofs.Ways.{way_started, way_ended, way_spent, way_stepped, same_entry}
use Rattle.arena_sprig.proofs.walks.reach.Goals as goal
use Rattle.arena_sprig.proofs.walks.reach.Goals.{in-Less, in-Greater}

pub loop-step-init : goal.loop-step-init
loop-step-init c = way_started c.args.arena.now.slots c.args.links.now.items c.args.root c.args.count c.args.digest.now c.requires

pub get-requires : goal.get-requires
get-requires c =
    let slots = c.args.arena.now.slots in
    let links = c.args.links.now.items in
    let entries = entries_from c.args.count slots links c.args.root in
    let step = way_stepped slots links c.args.root entries c.args.digest.now c.loop-step.gap c.loop-step.at c.loop-step.step c.args.count c.loop-step.invariant c.if-at.false in
    subst (λ o. IsSome o) (sym step.holds) refl

pub returns-then-at : goal.returns-then-at
returns-then-at c =
    let slots = c.args.arena.now.slots in
    let links = c.args.links.now.items in
    let entries = entries_from c.args.count slots links c.args.root in
    way_ended slots links c.args.root entries c.args.digest.now c.loop-step.gap c.loop-step.at c.loop-step.step c.args.count c.loop-step.invariant c.if-at.true

pub returns : goal.returns
returns c =
    let slots = c.args.arena.now.slots in
    let links = c.args.links.now.items in
    let entries = entries_from c.args.count slots links c.args.root in
    way_spent slots links c.args.root entries c.args.digest.now c.loop-step.gap c.loop-step.at c.loop-step.step c.args.count c.loop-step.invariant c.loop-step-test.false

pub returns-in-Equal : goal.returns-in-Equal
returns-in-Equal c =
    let slots = c.args.arena.now.slots in
    let links = c.args.links.now.items in
    let entries = entries_from c.args.count slots links c.args.root in
    let step = way_stepped slots links c.args.root entries c.args.digest.now c.loop-step.gap c.loop-step.at c.loop-step.step c.args.count c.loop-step.invariant c.if-at.false in
    let same = same_entry (entry_at c.args.arena.now c.loop-step.at) c.get.result.now step.entry c.get.ensures step.holds in
    step.found (ap (λ (e : Entry). digest_cmp e.digest c.args.digest.now) same ∙ sym c.cmp.ensures ∙ c.in-Equal.is)

pub loop-step-preserved : goal.loop-step-preserved
loop-step-preserved c =
    let slots = c.args.arena.now.slots in
    let links = c.args.links.now.items in
    let entries = entries_from c.args.count slots links c.args.root in
    let step = way_stepped slots links c.args.root entries c.args.digest.now c.loop-step.gap c.loop-step.at c.loop-step.step c.args.count c.loop-step.invariant c.if-at.false in
    let same = same_entry (entry_at c.args.arena.now c.loop-step.at) c.get.result.now step.entry c.get.ensures step.holds in
    let compared = ap (λ (e : Entry). digest_cmp e.digest c.args.digest.now) same ∙ sym c.cmp.ensures in
    let moved = λ (n : ℕ) (g : Gap). IsWayDown slots links c.args.root entries c.args.digest.now g n (c.loop-step.step + 1) c.args.count in
    elim c.match-cmp.branch [
      | in-Less w ↦ subst (λ g. moved c.match-cmp.at g) (sym w.gap-is)
          (subst (λ n. moved n (Right c.loop-step.at)) (sym (w.at-is ∙ ap (λ (l : Link). l.right) (w.link_of-at.ensures ∙ ap (λ (row : List Link). slice_index_or row c.loop-step.at no_link) w.deref.ensures))) (step.right (compared ∙ w.in-Less.is)))
      | in-Greater w ↦ subst (λ g. moved c.match-cmp.at g) (sym w.gap-is)
          (subst (λ n. moved n (Left c.loop-step.at)) (sym (w.at-is ∙ ap (λ (l : Link). l.left) (w.link_of-at-in-Greater.ensures ∙ ap (λ (row : List Link). slice_index_or row c.loop-step.at no_link) w.deref-in-Greater.ensures))) (step.left (compared ∙ w.in-Greater.is)))
    ]
