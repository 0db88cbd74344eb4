use Rattle.std.proofs.Common.{refl, arith, subst}
use Rattle.std.proofs.lemmas.Result.{IfOk-weaker}
use Rattle.block_format.specs.Layout.{IsOpen}
use Rattle.test_hist.specs.Steps.{AddsBlock, AddsBody}
use Rattle.test_hist.proofs.Places.{size_bounds, adds_open}
use Rattle.test_hist.proofs.reading.add_block.Goals as goal

pub add_body-requires-clause-head : goal.add_body-requires-clause-head
add_body-requires-clause-head c = omega (arith, (size_bounds c.args.geometry.now c.requires.geometry).0, c.body_of.ensures.size)

pub add_body-requires-clause-size : goal.add_body-requires-clause-size
add_body-requires-clause-size c = omega (arith, (size_bounds c.args.geometry.now c.requires.geometry).1, c.body_of.ensures.size)

pub returns : goal.returns
returns c =
    let g = c.args.geometry.now in
    let image = c.args.image.now in
    let block = c.args.block in
    let old = c.args.records.now.items in
    let new = c.add_body.new.records.items in
    let opened = subst IsOpen c.gate_of.ensures.bytes (c.if-not-is_open.ensures.0 refl) in
    IfOk-weaker c.add_body.result (λ r. AddsBody c.body_of.result.now block r old new) (λ r. AddsBlock g image block r old new)
    (λ r adds. adds_open g image block c.body_of.result.now r old new c.body_of.ensures.bytes c.body_of.ensures.size opened adds) c.add_body.ensures
