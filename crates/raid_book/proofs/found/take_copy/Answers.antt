use Rattle.std.proofs.Common.{◌≡◌, ◌+◌, ◌<◌, List, ◌∷◌, ◌++◌, [], length, ap, subst, sym, ◌∙◌, arith}
use Rattle.std.proofs.lemmas.List.{get_or_read}
use Rattle.raid_book.specs.declared.found.FoundCopy.{FoundCopy}
use Rattle.raid_book.specs.Found.{IsEndOf, copies_for, copy_in}
use Rattle.raid_book.proofs.Rows.{taken, others, none_here, none_at_all}
use Rattle.raid_book.proofs.found.take_copy.Goals as goal

pub returns-in_err-at-clause-taken : goal.returns-in_err-at-clause-taken
returns-in_err-at-clause-taken c none =
    let end = subst (λ (l : List FoundCopy). IsEndOf c.args.part l c.end_of.result) c.deref.ensures.value c.end_of.ensures in
    none_at_all c.args.part c.args.row.now.items (subst (IsEndOf c.args.part c.args.row.now.items) (omega (arith, c.in_err-at.ensures)) end)

pub returns-then-index-part-clause-taken : goal.returns-then-index-part-clause-taken
returns-then-index-part-clause-taken c none =
    let row = c.args.row.now.items in
    let end = subst (λ (l : List FoundCopy). IsEndOf c.args.part l c.end_of.result) c.deref.ensures.value c.end_of.ensures in
    let here : c.end_of.result ≡ c.in_ok-at.at + 1 = omega (arith, c.in_ok-at.ensures) in
    none_here c.args.part row c.in_ok-at.at c.requires (subst (IsEndOf c.args.part row) here end) c.index.result.now (omega (arith, here, end.bound)) c.index.ensures c.if-index-part.true

-- the copy that is removed is of the part
own : (c : goal.After-remove) → c.in_ok-at.at < length c.args.row.now.items → c.remove.result.part ≡ c.args.part
own c within = ap (λ (x : FoundCopy). x.part) (get_or_read c.args.row.now.items c.in_ok-at.at c.remove.result within c.remove.ensures.value c.index.result.now ∙ sym c.index.ensures)
    ∙ c.if-index-part.false

pub returns-clause-copies : goal.returns-clause-copies
returns-clause-copies c =
    let row = c.args.row.now.items in
    let end = subst (λ (l : List FoundCopy). IsEndOf c.args.part l c.end_of.result) c.deref.ensures.value c.end_of.ensures in
    let here : c.end_of.result ≡ c.in_ok-at.at + 1 = omega (arith, c.in_ok-at.ensures) in
    let within : c.in_ok-at.at < length row = omega (arith, here, end.bound) in
    taken c.args.part row c.in_ok-at.at c.requires (subst (IsEndOf c.args.part row) here end) c.remove.result within c.remove.ensures.value (own c within)
    ∙ ap (λ (l : List FoundCopy). copies_for c.args.part l ++ copy_in c.remove.result ∷ []) (sym c.remove.ensures.items)

pub returns-clause-others : goal.returns-clause-others
returns-clause-others c other differs =
    let row = c.args.row.now.items in
    let end = subst (λ (l : List FoundCopy). IsEndOf c.args.part l c.end_of.result) c.deref.ensures.value c.end_of.ensures in
    let here : c.end_of.result ≡ c.in_ok-at.at + 1 = omega (arith, c.in_ok-at.ensures) in
    let within : c.in_ok-at.at < length row = omega (arith, here, end.bound) in
    ap (copies_for other) c.remove.ensures.items
    ∙ others c.args.part row c.in_ok-at.at c.requires (subst (IsEndOf c.args.part row) here end) c.remove.result within c.remove.ensures.value other (λ same. differs (sym same ∙ own c within))
