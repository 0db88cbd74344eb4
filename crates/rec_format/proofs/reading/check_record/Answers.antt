-- A flaw refuses the bytes, and without one the record that they tell stands at their front.
use Rattle.std.proofs.Common.{◌≡◌, ◌∙◌, ap, sym, Some, ℕ, subst}
use Rattle.rec_format.specs.declared.version.Head.{Head}
use Rattle.rec_format.specs.RecordText.{BeginsWithHead}
use Rattle.rec_format.specs.RecordFlaws.{flaw_of, record_flaw}
use Rattle.rec_format.specs.Versions.{units_for}
use Rattle.rec_format.proofs.BytesFit.{bytes_fit}
use Rattle.rec_format.proofs.RecordFront.{begins_with_head, flawless_from, none_with_flaw}
use Rattle.rec_format.proofs.reading.check_record.Goals as goal

pub returns-in-Some-clause-bad : goal.returns-in-Some-clause-bad
returns-in-Some-clause-bad c =
    let flaw : record_flaw c.args.bytes.now ≡ Some (flaw_of c.in-Some.bad) = sym c.in-Some.ensures in
    (flaw, none_with_flaw c.args.bytes.now (flaw_of c.in-Some.bad) flaw)

pub returns-clause-found : goal.returns-clause-found
returns-clause-found c =
    let bytes = c.args.bytes.now in
    let head_is = sym c.read_head-head.ensures in
    let units_is = ap units_for (ap (λ (h : Head). h.length) head_is) ∙ sym c.units_of.ensures in
    subst (λ (r : Head × ℕ). BeginsWithHead bytes r.0 r.1) (λ i. (head_is i, units_is i))
    (begins_with_head bytes (bytes_fit bytes c.type_inv.bytes) (flawless_from bytes (sym c.in_default.ensures)))
