use Rattle.std.proofs.Common.{◌≡◌, Bool, Some, sym, ◌∙◌, ap, subst, arith}
use Rattle.std.specs.List.{range_with_len}
use Rattle.block_format.specs.declared.geometry.Geometry.{Geometry}
use Rattle.block_format.specs.Copies.{HasBodies}
use Rattle.test_hist.specs.Finds.{records_of}
use Rattle.test_hist.specs.Steps.{AddsBlock}
use Rattle.test_hist.proofs.Fronts.{Front, front_adds, front_damaged, front_whole, front_one}
use Rattle.test_hist.proofs.finds.copies.Goals as goal

pub add_block-requires-clause-geometry : goal.add_block-requires-clause-geometry
add_block-requires-clause-geometry c = ((c.shape_of.ensures c.in-Some.geometry).0 c.in-Some.is).0.geometry

pub returns-then-not-whole-clause-readable : goal.returns-then-not-whole-clause-readable
returns-then-not-whole-clause-readable c = λ g bodies readable.
    let image = c.args.image.now in
    let is = c.loop-block.invariant in
    let told = (c.shape_of.ensures g).1 (readable.header, readable.size) in
    let one : g ≡ c.in-Some.geometry = cc in
    let blocks = subst (λ (h : Geometry). HasBodies h image (range_with_len 0 h.blocks) bodies) one readable.blocks in
    let damaged = subst (λ (b : Bool). AddsBlock c.in-Some.geometry image c.loop-block.block b c.loop-block.records.items c.add_block.new.records.items) c.if-not-whole.true c.in_ok-whole.ensures in
    absurd (front_damaged c.in-Some.geometry image c.loop-block.block is.0 (omega arith) is.1 damaged bodies blocks)

pub loop-block-preserved : goal.loop-block-preserved
loop-block-preserved c =
    let image = c.args.image.now in
    let is = c.loop-block.invariant in
    let adds = subst (λ (b : Bool). AddsBlock c.in-Some.geometry image c.loop-block.block b c.loop-block.records.items c.add_block.new.records.items) c.if-not-whole.false c.in_ok-whole.ensures in
    front_adds c.in-Some.geometry image c.loop-block.block is.0 c.loop-block.records.items c.add_block.new.records.items (omega arith) is.1 is.2 adds

pub returns-clause-readable : goal.returns-clause-readable
returns-clause-readable c = λ g bodies readable.
    let h = c.in-Some.geometry in
    let image = c.args.image.now in
    let is = c.loop-block.invariant in
    let told = (c.shape_of.ensures g).1 (readable.header, readable.size) in
    let one : g ≡ h = cc in
    let end : c.loop-block.block ≡ h.blocks = omega arith in
    let blocks = subst (λ (x : Geometry). HasBodies x image (range_with_len 0 x.blocks) bodies) one readable.blocks in
    ap Some (is.2 ∙ ap records_of (sym (front_one h image is.0 bodies (subst (λ k. Front h image k is.0) end is.1) blocks)))

pub returns-clause-other : goal.returns-clause-other
returns-clause-other c = λ unreadable.
    let h = c.in-Some.geometry in
    let image = c.args.image.now in
    let is = c.loop-block.invariant in
    let shape = (c.shape_of.ensures h).0 c.in-Some.is in
    let end : c.loop-block.block ≡ h.blocks = omega arith in
    absurd (unreadable h is.0 (record { header = shape.0; size = shape.1; blocks = front_whole h image is.0 (subst (λ k. Front h image k is.0) end is.1) }))
