use Rattle.std.proofs.Common.{◌≡◌, Option, sym, ◌∙◌, ap}
use Rattle.std.specs.BTreeMap.{get}
use Rattle.rec_format.specs.Places.{digest_cmp}
use Rattle.cold_scan.specs.declared.bodies.Kept.{Kept}
use Rattle.cold_scan.specs.Found.{later_kept}
use Rattle.cold_scan.proofs.KeptCopies.{stays, put, later_than}
use Rattle.cold_scan.proofs.bodies.keep_later.Goals as goal
use Rattle.cold_scan.proofs.bodies.keep_later.Goals.{in-Some+else-not-is_later, in_default}

pub returns-then-not-is_later : goal.returns-then-not-is_later
returns-then-not-is_later c = stays c.args.kept c.in-Some.found.now c.args.latest.now (sym c.in-Some.ensures.value) (sym c.is_later.ensures ∙ c.if-not-is_later.true)

pub returns : goal.returns
returns c = put c.args.kept c.args.latest.now c.insert.new.self is c.in_ok-insert.ensures.updates c.insert.ensures.ordered
  where
    is : later_kept (get digest_cmp c.args.latest.now c.args.kept.head.digest) c.args.kept ≡ c.args.kept
    is = elim c.match-get.branch [
      | in-Some+else-not-is_later w ↦ later_than c.args.kept w.in-Some.found.now c.args.latest.now (sym w.in-Some.ensures.value) (sym w.is_later.ensures ∙ w.if-not-is_later.false)
      | in_default w ↦ ap (λ (o : Option Kept). later_kept o c.args.kept) (sym w.in_default.ensures.value)
    ]
