-- A flaw refuses the bytes, and without one the record that they tell stands at their front.
use Rattle.std.proofs.Common.{◌≡◌, ◌∙◌, ap, sym, arith, Some, ◌+◌, ◌≤◌, length, subst, rules}
use Rattle.rec_format.specs.RecordFlaws.{flaw_of, payload_length_in, record_flaw}
use Rattle.rec_format.specs.declared.version.Digest.{Digest}
use Rattle.rec_format.specs.declared.version.Head.{Head}
use Rattle.rec_format.specs.declared.version.Version.{Version}
use Rattle.rec_format.specs.RecordText.{BeginsWith}
use Rattle.rec_format.specs.Versions.{units_for, version_units}
use Rattle.rec_format.proofs.BytesFit.{bytes_fit}
use Rattle.rec_format.proofs.RecordFront.{begins_from, digest_in, read_version, told, fits_from, flawless_from, none_with_flaw, texts_apart, units_hold}
use Rattle.rec_format.proofs.reading.parse.Goals as goal

pub returns-in-Some-clause-refused : goal.returns-in-Some-clause-refused
returns-in-Some-clause-refused c =
    let flaw : record_flaw c.args.bytes.now ≡ Some (flaw_of c.in-Some.bad) = sym c.in-Some.ensures in
    (flaw, none_with_flaw c.args.bytes.now (flaw_of c.in-Some.bad) flaw)

pub returns-in-Some-clause-apart : goal.returns-in-Some-clause-apart
returns-in-Some-clause-apart c = texts_apart

pub slice_bounds-from_slice-end : goal.slice_bounds-from_slice-end
slice_bounds-from_slice-end c =
    let flawless = flawless_from c.args.bytes.now (sym c.in_default.ensures) in
    let fits = fits_from c.args.bytes.now flawless.long flawless.whole in
    let count : c.read_head-head.result.length ≡ payload_length_in c.args.bytes.now = ap (λ (h : Head). h.length) c.read_head-head.ensures in
    let inside : 48 + c.read_head-head.result.length ≤ length c.args.bytes.now = omega (arith, fits.whole, units_hold (payload_length_in c.args.bytes.now), count) in
    search (rules, inside)

pub returns-in_default-from_slice-clause-apart : goal.returns-in_default-from_slice-clause-apart
returns-in_default-from_slice-clause-apart c = texts_apart

pub returns-clause-found : goal.returns-clause-found
returns-clause-found c =
    let bytes = c.args.bytes.now in
    let flawless = flawless_from bytes (sym c.in_default.ensures) in
    let fits = fits_from bytes flawless.long flawless.whole in
    let read = read_version bytes c.from_vec.result c.read_head-head.result c.read_head-head.ensures (c.from_vec.ensures ∙ c.in-Ok.ensures.items) in
    let name : digest_in bytes ≡ c.read_head-head.result.digest = ap (λ (h : Head). h.digest) (sym c.read_head-head.ensures) in
    let begins = begins_from bytes (bytes_fit bytes c.type_inv.bytes) flawless in
    let count : c.read_head-head.result.length ≡ payload_length_in bytes = ap (λ (h : Head). h.length) c.read_head-head.ensures in (
      subst (λ (r : Digest × Version). BeginsWith bytes r.0 r.1) (λ i. (name i, read i)) begins,
      c.units_of.ensures ∙ ap units_for (count ∙ sym fits.payload) ∙ ap version_units read,
    )

pub returns-clause-only : goal.returns-clause-only
returns-clause-only c = λ d v found.
    let bytes = c.args.bytes.now in
    let read = read_version bytes c.from_vec.result c.read_head-head.result c.read_head-head.ensures (c.from_vec.ensures ∙ c.in-Ok.ensures.items) in
    let name : digest_in bytes ≡ c.read_head-head.result.digest = ap (λ (h : Head). h.digest) (sym c.read_head-head.ensures) in
    let facts = told bytes d v found in
    (sym facts.digest ∙ name, sym facts.version ∙ read)

pub returns-clause-apart : goal.returns-clause-apart
returns-clause-apart c = texts_apart
