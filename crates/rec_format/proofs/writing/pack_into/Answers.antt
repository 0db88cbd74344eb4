-- The text is its three parts, and the bytes and the lengths that the types keep let it be recorded.
use Rattle.std.proofs.Common.{arith, ◌≡◌, ◌∙◌, length, ap, ◌≤◌, ◌<◌, ◌+◌, ◌*◌, ◌^◌, ◌-◌, ◌++◌, drop, sym, ℕ, replicate}
use Rattle.std.proofs.lemmas.List.{length-take-le}
use Rattle.rec_format.specs.declared.version.Version.{Version}
use Rattle.rec_format.specs.RecordText.{record_head}
use Rattle.rec_format.specs.Versions.{version_units, units_for}
use Rattle.rec_format.proofs.TextParts.{written_parts, zeros_room, text_fits}
use Rattle.rec_format.proofs.writing.pack_into.Goals as goal

pub slice_bounds-copy_from_slice-end-2 : goal.slice_bounds-copy_from_slice-end-2
slice_bounds-copy_from_slice-end-2 c = sym (length-take-le 48 c.args.out.now (omega arith))

pub copy_from_slice-requires : goal.copy_from_slice-requires
copy_from_slice-requires c = length-take-le 48 c.args.out.now (omega arith) ∙ sym c.head_of.ensures.size

pub returns-clause-text : goal.returns-clause-text
returns-clause-text c =
    let v = c.args.version.now in
    let seen : c.version.inside.payload.now ≡ v.payload = ap (λ (w : Version). w.payload) c.version.view_is in
    let n_is : length c.version.inside.payload.now ≡ length v.payload = ap length seen in
    let n = length c.version.inside.payload.now in
    let u_is : c.units_of.result ≡ version_units v = c.units_of.ensures ∙ ap units_for n_is in
    let u = c.units_of.result in
    let head_is = c.copy_from_slice.ensures.after ∙ c.head_of.ensures.text in
    let payload_is = c.copy_from_slice-2.ensures.after ∙ seen in
    let size = ap length (sym c.head_of.ensures.text) ∙ c.head_of.ensures.size in
    let fits : 48 + n ≤ 16 * u = omega arith in
    let room = zeros_room c.args.out.now c.copy_from_slice.new.self c.copy_from_slice-2.new.self n (16 * u) (ap length head_is ∙ size) (ap length payload_is ∙ sym n_is) fits (omega arith) in
    let zeros : c.fill.new.self ≡ replicate (16 * u - (48 + n)) 0 = c.fill.ensures.after (λ y h. h) ∙ ap (λ (k : ℕ). replicate k 0) room in
    let whole = written_parts c.args.out.now c.copy_from_slice.new.self c.copy_from_slice-2.new.self c.fill.new.self (record_head c.args.digest.now v) v.payload n u (version_units v)
    head_is payload_is zeros u_is size (sym n_is) fits in
    whole ∙ ap (λ (k : ℕ). record_head c.args.digest.now v ++ v.payload ++ replicate (16 * version_units v - (48 + k)) 0 ++ drop (16 * version_units v) c.args.out.now) n_is

pub returns-clause-recordable : goal.returns-clause-recordable
returns-clause-recordable c =
    let size = ap length (sym c.head_of.ensures.text) ∙ c.head_of.ensures.size in
    text_fits _ (drop (16 * version_units c.args.version.now) c.args.out.now) c.args.digest.now c.args.version.now
    (returns-clause-text c) c.type_inv.out size c.requires.version (small c.requires.size)
  where
    small : {n : ℕ} → n ≤ 2 ^ 31 → n < 2 ^ 32
    small h = omega arith
