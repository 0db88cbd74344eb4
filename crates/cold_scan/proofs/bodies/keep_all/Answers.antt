use Rattle.std.proofs.Common.{List, map, take, subst, sym, ◌∙◌, ap}
use Rattle.std.proofs.lemmas.List.{take_more, map-append}
use Rattle.cold_scan.specs.declared.bodies.Kept.{Kept}
use Rattle.cold_scan.specs.Found.{kept_found, KeepsAll}
use Rattle.cold_scan.proofs.KeptCopies.{kept_more}
use Rattle.cold_scan.proofs.bodies.keep_all.Goals as goal

pub loop-record-preserved : goal.loop-record-preserved
loop-record-preserved c =
    let f = kept_found c.args.block in
    let front = take c.loop-record.record-index c.args.found.now in
    subst (λ (l : List Kept). KeepsAll c.args.geometry.now l c.args.latest.now c.keep.new.latest)
    (sym (ap (map f) (take_more c.args.found.now c.loop-record.record-index _ c.loop-record-test.true) ∙ map-append f front _))
    (kept_more c.args.geometry.now (map f front) _ c.args.latest.now c.loop-record.latest c.keep.new.latest c.loop-record.invariant c.in_ok-keep.ensures)
