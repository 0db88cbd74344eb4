-- Record by record, until one isn't there or all of them are listed.
use Rattle.std.proofs.Common.{◌≡◌, ◌≤◌, ◌++◌, ◌∷◌, [], List, sym, ap, ◌∙◌, arith}
use Rattle.std.proofs.lemmas.List.{map_push}
use Rattle.rec_format.specs.declared.version.Digest.{Digest}
use Rattle.rec_format.specs.Versions.{version_units}
use Rattle.block_format.specs.declared.geometry.Found.{Found}
use Rattle.block_format.proofs.BodyRecords.{records_more}
use Rattle.block_format.proofs.body.list_records.Goals as goal

pub loop-record-preserved : goal.loop-record-preserved
loop-record-preserved c =
    let next = c.in-Some.next in
    let is = c.in-Some.ensures.next in
    let has = c.loop-record.invariant.0 in
    let units : next.units ≡ version_units is.version = ap (λ (f : Found). f.units) is.found_is in
    let three : 3 ≤ next.units = omega (arith, units) in (
      (
        has.0 ++ next ∷ [],
        records_more c.args.body.now c.loop-record._record c.loop-record.used c.args.head.now.units has.0 next has.1 is,
        c.push_reserved.ensures.items ∙ ap (λ (ds : List Digest). ds ++ next.head.digest ∷ []) has.2 ∙ sym (map_push (λ (f : Found). f.head.digest) has.0 next),
      ),
      is.within,
      omega (arith, three, c.push_reserved.ensures.len, c.loop-record.invariant.2),
      c.push_reserved.ensures.capacity ∙ c.loop-record.invariant.3,
    )
