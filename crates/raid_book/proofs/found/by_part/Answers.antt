use Rattle.std.proofs.Common.{◌≡◌, ℕ, ◌<◌, List, subst, sym, ap, ◌∙◌, rules, arith, false, length, get_or, ◌∷◌, ◌++◌, []}
use Rattle.std.proofs.lemmas.List.Sorted.{answers_always, All-permutation}
use Rattle.rec_format.specs.declared.version.Kind.TheVariants.{Put}
use Rattle.block_format.specs.declared.geometry.Found.{Found}
use Rattle.raid_book.specs.declared.found.FoundCopy.{FoundCopy}
use Rattle.raid_book.specs.Found.{copies_for, with_parts}
use Rattle.raid_book.proofs.Rows.{is_above, is_above-order, falls_sorted, copies_sorted, with_parts_more, with_parts-all, with_parts-below}
use Rattle.raid_book.proofs.found.by_part.Goals as goal

pub loop-i-preserved : goal.loop-i-preserved
loop-i-preserved c =
    let none : Found = record { head = record { digest = record { 0 = [] }; kind = Put; stamp = record { lut = 0; gen_ = 0 }; void = 0; cover = false; length = 0 }; unit = 0; units = 0 } in
    let i = c.loop-i.i in
    let head = (get_or c.args.found.now i none).head in
    let copy : FoundCopy = record { part = get_or c.args.parts.now i 0; digest = head.digest; stamp = head.stamp } in
    c.in_ok-push.ensures.items
    ∙ ap (λ (l : List FoundCopy). l ++ copy ∷ []) c.loop-i.invariant
    ∙ sym (with_parts_more c.args.found.now c.args.parts.now i none c.loop-i-test.true (omega (arith, c.requires, c.loop-i-test.true)))

-- the row before it is sorted
row : (c : goal.In_ok-sort_by) → c.loop-i.row.items ≡ with_parts c.args.found.now c.args.parts.now
row c = c.loop-i.invariant ∙ with_parts-all c.args.found.now c.args.parts.now c.loop-i.i (omega arith) c.requires

pub returns-clause-falls : goal.returns-clause-falls
returns-clause-falls c = falls_sorted _ (c.in_ok-sort_by.ensures.sorted is_above is_above-order (answers_always _ _ _ (λ f a r g called. search rules)))

pub returns-clause-copies : goal.returns-clause-copies
returns-clause-copies c part =
    copies_sorted _ _ (c.in_ok-sort_by.ensures.stable is_above is_above-order (answers_always _ _ _ (λ f a r g called. search rules))) part ∙ ap (copies_for part) (row c)

pub returns-clause-below : goal.returns-clause-below
returns-clause-below c count below =
    All-permutation (λ (x : FoundCopy). x.part < count) _ _ c.in_ok-sort_by.ensures.permutation
    (subst (λ (l : List FoundCopy). (k : ℕ) (d : FoundCopy) → k < length l → (get_or l k d).part < count) (sym (row c)) (with_parts-below count c.args.found.now c.args.parts.now below))
