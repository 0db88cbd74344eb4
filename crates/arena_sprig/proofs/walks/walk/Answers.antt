use Rattle.std.proofs.Common.{◌≢◌, ℕ, ◌+◌, List, refl, sym, subst, ap, ◌∙◌}
use Rattle.std.specs.Option.{IsSome}
use Rattle.rec_format.specs.declared.entry.Entry.{Entry}
use Rattle.rec_format.specs.Places.{digest_cmp}
use Rattle.entry_arena.specs.State.{entry_at}
use Rattle.arena_sprig.specs.declared.links.Link.{Link}
use Rattle.arena_sprig.specs.declared.links.Gap.{Gap}
use Rattle.arena_sprig.specs.declared.links.Gap.TheVariants.{Left, Right}
use Rattle.rec_format.specs.declared.version.Digest.{Digest}
use Rattle.arena_sprig.specs.Tree.{Slots, no_slot, entries_from, IsWayDown, Evens}
use Rattle.arena_sprig.proofs.Ways.{way_started, way_ended, way_spent, IsWayStep, way_stepped, way_evened, same_entry}
use Rattle.arena_sprig.proofs.walks.walk.Goals as goal
use Rattle.arena_sprig.proofs.walks.walk.Goals.{in-Less, in-Greater}

pub loop-step-init : goal.loop-step-init
loop-step-init c = way_started c.args.arena.now.slots c.args.links.now c.args.root.now c.args.count c.args.digest.now c.requires

-- the evened way
module _ (slots : Slots) (links new_links : List Link) (root new_root : ℕ) (entries : List Entry) (digest : Digest) (gap : Gap) (at now_at steps count : ℕ)
    (way : IsWayDown slots links root entries digest gap at steps count)
    (evens : Evens links root new_links new_root gap at now_at) where
  evened : IsWayDown slots new_links new_root entries digest gap now_at steps count
  evened = way_evened slots links root entries digest gap at steps count new_links new_root now_at evens way

  abbrev Step : Type 0
  Step = IsWayStep slots new_links new_root entries digest gap now_at steps count

  step_of : now_at ≢ no_slot → Step
  step_of some = way_stepped slots new_links new_root entries digest gap now_at steps count evened some

pub returns-then-at : goal.returns-then-at
returns-then-at c =
    let slots = c.args.arena.now.slots in
    let entries = entries_from c.args.count slots c.args.links.now c.args.root.now in
    let way = evened slots c.loop-step.links c.even_out-at.new.links c.loop-step.root c.even_out-at.new.root entries c.args.digest.now c.loop-step.gap
    c.loop-step.at c.even_out-at.result c.loop-step.step c.args.count c.loop-step.invariant c.even_out-at.ensures in
    way_ended slots c.even_out-at.new.links c.even_out-at.new.root entries c.args.digest.now c.loop-step.gap c.even_out-at.result c.loop-step.step c.args.count way c.if-at.true

pub get-requires : goal.get-requires
get-requires c =
    let slots = c.args.arena.now.slots in
    let entries = entries_from c.args.count slots c.args.links.now c.args.root.now in
    let step = step_of slots c.loop-step.links c.even_out-at.new.links c.loop-step.root c.even_out-at.new.root entries c.args.digest.now c.loop-step.gap
    c.loop-step.at c.even_out-at.result c.loop-step.step c.args.count c.loop-step.invariant c.even_out-at.ensures c.if-at.false in
    subst (λ o. IsSome o) (sym step.holds) refl

pub returns-in-Equal : goal.returns-in-Equal
returns-in-Equal c =
    let slots = c.args.arena.now.slots in
    let entries = entries_from c.args.count slots c.args.links.now c.args.root.now in
    let step = step_of slots c.loop-step.links c.even_out-at.new.links c.loop-step.root c.even_out-at.new.root entries c.args.digest.now c.loop-step.gap
    c.loop-step.at c.even_out-at.result c.loop-step.step c.args.count c.loop-step.invariant c.even_out-at.ensures c.if-at.false in
    let same = same_entry (entry_at c.args.arena.now c.even_out-at.result) c.get.result.now step.entry c.get.ensures step.holds in
    step.found (ap (λ (e : Entry). digest_cmp e.digest c.args.digest.now) same ∙ sym c.cmp.ensures ∙ c.in-Equal.is)

pub returns : goal.returns
returns c =
    let slots = c.args.arena.now.slots in
    let entries = entries_from c.args.count slots c.args.links.now c.args.root.now in
    way_spent slots c.loop-step.links c.loop-step.root entries c.args.digest.now c.loop-step.gap c.loop-step.at c.loop-step.step c.args.count c.loop-step.invariant c.loop-step-test.false

pub loop-step-preserved : goal.loop-step-preserved
loop-step-preserved c =
    let slots = c.args.arena.now.slots in
    let links = c.even_out-at.new.links in
    let root = c.even_out-at.new.root in
    let entries = entries_from c.args.count slots c.args.links.now c.args.root.now in
    let step = step_of slots c.loop-step.links links c.loop-step.root root entries c.args.digest.now c.loop-step.gap c.loop-step.at c.even_out-at.result
    c.loop-step.step c.args.count c.loop-step.invariant c.even_out-at.ensures c.if-at.false in
    let same = same_entry (entry_at c.args.arena.now c.even_out-at.result) c.get.result.now step.entry c.get.ensures step.holds in
    let compared = ap (λ (e : Entry). digest_cmp e.digest c.args.digest.now) same ∙ sym c.cmp.ensures in
    let moved = λ (n : ℕ) (g : Gap). IsWayDown slots links root entries c.args.digest.now g n (c.loop-step.step + 1) c.args.count in
    elim c.match-cmp.branch [
      | in-Less w ↦ subst (λ g. moved c.match-cmp.at g) (sym w.gap-is)
          (subst (λ n. moved n (Right c.even_out-at.result)) (sym (w.at-is ∙ ap (λ (l : Link). l.right) c.link_of-link.ensures)) (step.right (compared ∙ w.in-Less.is)))
      | in-Greater w ↦ subst (λ g. moved c.match-cmp.at g) (sym w.gap-is)
          (subst (λ n. moved n (Left c.even_out-at.result)) (sym (w.at-is ∙ ap (λ (l : Link). l.left) c.link_of-link.ensures)) (step.left (compared ∙ w.in-Greater.is)))
    ]
