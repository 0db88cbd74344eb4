use Rattle.std.proofs.Common.{◌≡◌, ◌<◌, ℕ, length, arith, sym, ap, subst}
use Rattle.law_lists.proofs.Answers.{err_said}
use Rattle.block_shelf.specs.Heals.{HealsBelow, StopsHealing}
use Rattle.block_shelf.proofs.Healing.{heals_first, heals_counted, heals_passed, heals_failed, failed_goes, heals_sure, heals_surely, count_within}
use Rattle.block_shelf.proofs.shelf.Shelf.heal_each.Goals as goal
use Rattle.block_shelf.proofs.shelf.Shelf.heal_each.Goals.{then-branch, else-branch}

pub loop-block-init : goal.loop-block-init
loop-block-init g c = heals_first g.D.Disk.view g.met.D.Disk.is_disk c.args.self.now

pub returns-in_err-heal_block-clause-healed : goal.returns-in_err-heal_block-clause-healed
returns-in_err-heal_block-clause-healed g c =
    let lt : c.loop-block.block < c.args.self.now.geometry.blocks = subst (λ (n : ℕ). c.loop-block.block < n) (ap (λ shape. shape.blocks) c.geometry-blocks.ensures.shape) c.loop-block-test.true in
    err_said c.from_residual.result c.in_err-heal_block.field-0.0 _ (λ fault. StopsHealing c.args.self.now c.heal_block.new.self) c.from_residual.ensures.1
    (heals_failed g.D.Disk.view g.met.D.Disk.is_disk c.args.self.now c.loop-block.block c.loop-block.closed c.loop-block.self c.heal_block.new.self c.loop-block.invariant
    c.in_err-heal_block.field-0.0 c.in_err-heal_block.ensures lt)

pub returns-in_err-heal_block-clause-goes : goal.returns-in_err-heal_block-clause-goes
returns-in_err-heal_block-clause-goes g c =
    failed_goes g.D.Disk.view g.met.D.Disk.is_disk c.args.self.now c.loop-block.block c.loop-block.closed c.loop-block.self c.heal_block.new.self c.loop-block.invariant
    c.in_err-heal_block.field-0.0 c.in_err-heal_block.ensures

pub overflow_add-closed : goal.overflow_add-closed
overflow_add-closed g c =
    let few = c.geometry-blocks.ensures.whole.geometry.blocks in
    let same : c.geometry-blocks.result.blocks ≡ c.args.self.now.geometry.blocks = ap (λ shape. shape.blocks) c.geometry-blocks.ensures.shape in
    omega (arith, c.loop-block.invariant.count, count_within c.args.self.now c.loop-block.block, c.loop-block-test.true, same, few)

pub loop-block-preserved : goal.loop-block-preserved
loop-block-preserved g c =
    let old = c.args.self.now in
    let lt : c.loop-block.block < old.geometry.blocks = subst (λ (n : ℕ). c.loop-block.block < n) (ap (λ shape. shape.blocks) c.geometry-blocks.ensures.shape) c.loop-block-test.true in
    let gates : c.loop-block.block < length old.gates = subst (λ (n : ℕ). c.loop-block.block < n) (sym c.geometry-blocks.ensures.whole.gates) lt in
    elim c.if-branch.branch [
      | then-branch w ↦
          heals_counted g.D.Disk.view g.met.D.Disk.is_disk old c.loop-block.block c.loop-block.closed c.loop-block.self c.heal_block.new.self c.loop-block.invariant
          c.in_ok-heal_block.field-0 w.if-branch.true gates c.in_ok-heal_block.ensures c.if-branch.closed w.closed-is
      | else-branch w ↦
          heals_passed g.D.Disk.view g.met.D.Disk.is_disk old c.loop-block.block c.loop-block.closed c.loop-block.self c.heal_block.new.self c.loop-block.invariant
          c.in_ok-heal_block.field-0 w.if-branch.false c.in_ok-heal_block.ensures c.if-branch.closed w.closed-is
    ]

pub returns-clause-few : goal.returns-clause-few
returns-clause-few g c =
    let same : c.geometry-blocks.result.blocks ≡ c.args.self.now.geometry.blocks = ap (λ shape. shape.blocks) c.geometry-blocks.ensures.shape in
    omega (arith, c.loop-block.invariant.count, count_within c.args.self.now c.loop-block.block, c.loop-block.auto.block-end, same)

pub returns-clause-known : goal.returns-clause-known
returns-clause-known g c waiting =
    let old = c.args.self.now in
    let same : c.geometry-blocks.result.blocks ≡ old.geometry.blocks = ap (λ shape. shape.blocks) c.geometry-blocks.ensures.shape in
    let end : c.loop-block.block ≡ old.geometry.blocks = omega (arith, c.loop-block.auto.block-end, c.loop-block-test.false, same) in
    heals_sure g.D.Disk.view old c.loop-block.self c.geometry-blocks.ensures.whole waiting (subst (λ (n : ℕ). HealsBelow n old c.loop-block.self) end c.loop-block.invariant.gates)

pub returns-clause-sure : goal.returns-clause-sure
returns-clause-sure g c = heals_surely g.D.Disk.view g.met.D.Disk.is_disk c.args.self.now c.loop-block.self c.loop-block.invariant.later c.loop-block.invariant.quiet
