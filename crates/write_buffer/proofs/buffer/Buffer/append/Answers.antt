-- The record stands behind the others, and the head tells of it.
use Rattle.std.proofs.Common.{◌≡◌, ℕ, ◌+◌, ◌*◌, ◌≤◌, List, ◌++◌, length, take, drop, refl, sym, ap, ◌∙◌, subst, arith}
use Rattle.rec_format.specs.declared.version.Version.{Version}
use Rattle.rec_format.specs.Versions.{version_units}
use Rattle.rec_format.specs.RecordText.{record_text}
use Rattle.block_format.specs.Layout.{body_head_text}
use Rattle.write_buffer.specs.Buffers.{BufferState, KeepsBody, bytes_of, seen_buffer, used_units, with_record}
use Rattle.write_buffer.proofs.Reading.{count_within, length-records_in}
use Rattle.write_buffer.proofs.Appending.{keeps_next, length-bytes, seen_next, text_next, whole}
use Rattle.write_buffer.proofs.buffer.Buffer.append.Goals as goal

pub put_record-requires-clause-room : goal.put_record-requires-clause-room
put_record-requires-clause-room c =
    let size = length-bytes _ _ _ c.self.invariant in
    let room = subst (λ (b : BufferState). used_units b + version_units c.args.version.now ≤ b.capacity) (sym c.self.view_is) c.requires.room in
    let same = ap length c.deref_mut.ensures.value in
    omega (arith, size, room, same, c.self.invariant.used_is)

pub overflow_add-self : goal.overflow_add-self
overflow_add-self c =
    let count = length-records_in c.self.inside.count (drop 32 c.self.inside.bytes.items) in
    omega (
      arith,
      count,
      count_within
          (seen_buffer c.self.inside.number c.self.inside.block c.self.inside.capacity c.self.inside.count c.self.inside.phase c.self.inside.stream c.self.inside.bytes.items).records,
      c.self.invariant.fits,
      c.self.invariant.capacity,
    )

-- the buffer before
abbrev before : goal.After-self-4-1 → BufferState
before c = seen_buffer c.self.inside.number c.self.inside.block c.self.inside.capacity c.self.inside.count c.self.inside.phase c.self.inside.stream c.self.inside.bytes.items

room_before : (c : goal.After-self-4-1) → used_units (before c) + version_units c.args.version.now ≤ (before c).capacity
room_before c = subst (λ (b : BufferState). used_units b + version_units c.args.version.now ≤ b.capacity) (sym c.self.view_is) c.requires.room

count_after : (c : goal.After-self-4-1) → c.self.inside.count + 1 ≡ length (before c).records + 1
count_after c = ap (λ (k : ℕ). k + 1) (sym (length-records_in c.self.inside.count (drop 32 c.self.inside.bytes.items)))

units_after : (c : goal.After-self-4-1) → c.self.inside.used + c.units_of.result ≡ used_units (before c) + version_units c.args.version.now
units_after c =
    let taken : c.units_of.result ≡ version_units c.args.version.now = c.units_of.ensures ∙ ap (λ (v : Version). version_units v) c.version.view_is in
    λ i. c.self.invariant.used_is i + taken i

record_size : (c : goal.After-self-4-1) → length c.put_record.new.bytes ≡ length c.self.inside.bytes.items
record_size c = c.put_record.auto.bytes ∙ ap length c.deref_mut.ensures.value

one_record : (c : goal.After-self-4-1) → take c.self.inside.bytes.len (c.put_record.new.bytes ++ drop (length c.put_record.new.bytes) c.self.inside.bytes.items) ≡ c.put_record.new.bytes
one_record c = whole c.self.inside.bytes.len c.put_record.new.bytes c.self.inside.bytes.items (record_size c) c.self.inside.bytes.ok.0

-- the bytes after it
abbrev after : goal.After-self-4-1 → List ℕ
after c =
    let one : List ℕ = take c.self.inside.bytes.len (c.put_record.new.bytes ++ drop (length c.put_record.new.bytes) c.self.inside.bytes.items) in
    take c.self.inside.bytes.len (c.put_head.new.bytes ++ drop (length c.put_head.new.bytes) one)

text_after : (c : goal.After-self-4-1) → after c ≡ bytes_of (with_record c.args.digest.now c.args.version.now (before c))
text_after c =
    let old : List ℕ = c.self.inside.bytes.items in
    let one : List ℕ = c.put_record.new.bytes in
    let size : c.self.inside.bytes.len ≡ length old = c.self.inside.bytes.ok.0 in
    let middle = c.deref_mut-2.ensures.value ∙ one_record c in
    let one_is : one ≡ take (32 + 16 * c.self.inside.used) old ++
    (record_text c.args.digest.now c.args.version.now ++ drop (16 * version_units c.args.version.now) (drop (32 + 16 * c.self.inside.used) old)) =
    c.put_record.ensures.text
    ∙ ap (λ (l : List ℕ). take (32 + 16 * c.self.inside.used) l ++
    (record_text c.args.digest.now c.args.version.now ++ drop (16 * version_units c.args.version.now) (drop (32 + 16 * c.self.inside.used) l))) c.deref_mut.ensures.value in
    let two_is = c.put_head.ensures
    ∙ ap (λ (l : List ℕ). body_head_text c.self.inside.number (c.self.inside.count + 1) (c.self.inside.used + c.units_of.result) c.self.inside.block ++ drop 32 l) middle in
    let written = text_next (before c) c.self.inside.used old c.self.invariant c.args.digest.now c.args.version.now c.put_record.ensures.recordable (room_before c)
    (32 + 16 * c.self.inside.used) (c.self.inside.count + 1) (c.self.inside.used + c.units_of.result) one c.put_head.new.bytes refl (count_after c) (units_after c) one_is two_is in
    let head_size = c.put_head.auto.bytes ∙ ap length c.deref_mut-2.ensures.value in
    whole c.self.inside.bytes.len c.put_head.new.bytes _ head_size (size ∙ sym (record_size c) ∙ ap length (sym (one_record c))) ∙ written

pub invariant_of-self : goal.invariant_of-self
invariant_of-self c =
    let b = before c in
    let next = seen_next b c.self.inside.used c.self.inside.bytes.items c.self.invariant c.args.digest.now c.args.version.now c.put_record.ensures.recordable (room_before c)
    (c.self.inside.count + 1) (after c) (count_after c) (text_after c) in
    let keeps = keeps_next b c.self.inside.used c.self.inside.bytes.items c.self.invariant c.args.digest.now c.args.version.now c.put_record.ensures.recordable (room_before c)
    (c.self.inside.used + c.units_of.result) (after c) (units_after c) (text_after c) in
    let P : BufferState → Type 0 = λ s. KeepsBody s (c.self.inside.used + c.units_of.result) (after c) in
    subst P (sym next) keeps

pub returns-clause-appended : goal.returns-clause-appended
returns-clause-appended c =
    seen_next (before c) c.self.inside.used c.self.inside.bytes.items c.self.invariant c.args.digest.now c.args.version.now c.put_record.ensures.recordable (room_before c)
    (c.self.inside.count + 1) (after c) (count_after c) (text_after c)
    ∙ ap (with_record c.args.digest.now c.args.version.now) c.self.view_is
