use Rattle.std.proofs.Common.{◌≡◌, ◌⊎◌, inl, inr, Ok, Err, ap, sym, subst, ◌∙◌}
use Rattle.hold_book.specs.Pairs.{IsFirstFrom}
use Rattle.hold_book.proofs.Order.{cut_told, none_there, first_there}
use Rattle.hold_book.proofs.search.first_from.Goals as goal
use Rattle.hold_book.proofs.search.first_from.Goals.{in-Ok, in-Err}

pub returns-then-holder-buffer : goal.returns-then-holder-buffer
returns-then-holder-buffer c =
    let place : (c.find.result ≡ Ok c.match-find.at) ⊎ (c.find.result ≡ Err c.match-find.at) = elim c.match-find.branch [
      | in-Ok w ↦ inl (w.in-Ok.is ∙ ap Ok (sym w.at-is))
      | in-Err w ↦ inr (w.in-Err.is ∙ ap Err (sym w.at-is))
    ] in
    let cut = cut_told c.args.pairs.now c.requires c.args.buffer c.args.from c.match-find.at c.find.result c.find.ensures place in
    let look = c.in_ok-holder.ensures.lookup in
    let p = c.in_ok-holder.field-0.now in
    subst (λ q. IsFirstFrom c.args.buffer c.args.from c.args.pairs.now q.1) (sym look.1)
    (first_there c.args.pairs.now c.requires c.args.buffer c.args.from c.match-find.at cut p look.3.0 (ap (λ q. q.0) (sym look.1) ∙ c.if-holder-buffer.true))

pub returns-else-holder-buffer : goal.returns-else-holder-buffer
returns-else-holder-buffer c =
    let place : (c.find.result ≡ Ok c.match-find.at) ⊎ (c.find.result ≡ Err c.match-find.at) = elim c.match-find.branch [
      | in-Ok w ↦ inl (w.in-Ok.is ∙ ap Ok (sym w.at-is))
      | in-Err w ↦ inr (w.in-Err.is ∙ ap Err (sym w.at-is))
    ] in
    let cut = cut_told c.args.pairs.now c.requires c.args.buffer c.args.from c.match-find.at c.find.result c.find.ensures place in
    let look = c.in_ok-holder.ensures.lookup in
    none_there c.args.pairs.now c.requires c.args.buffer c.args.from c.match-find.at cut c.in_ok-holder.field-0.now
    (λ within own. c.if-holder-buffer.false (ap (λ q. q.0) look.1 ∙ own))
