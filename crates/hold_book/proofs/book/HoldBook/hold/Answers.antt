use Rattle.std.proofs.Common.{◌≡◌, ap, sym, ◌∙◌, arith, insert, is_ok}
use Rattle.std.specs.FinSet as set
use Rattle.std.proofs.lemmas.Bool.{cond-true}
use Rattle.std.proofs.lemmas.List.Sums.{count_by-le-length}
use Rattle.std.proofs.lemmas.List.Sorted.{IsPermutation-insert}
use Rattle.hold_book.specs.Holds.{HoldState, with_pair}
use Rattle.hold_book.specs.Counts.{count_of}
use Rattle.hold_book.proofs.Pairs.{names, count_added, hold_added}
use Rattle.hold_book.proofs.Order.{gap_rises, gap_adds, again_adds}
use Rattle.hold_book.proofs.book.HoldBook.hold.Goals as goal

pub raise-requires-clause-fits : goal.raise-requires-clause-fits
raise-requires-clause-fits c =
    omega (arith, c.self.invariant.0.exact c.args.block, count_by-le-length (names c.args.block) c.self.inside.pairs.items, c.self.inside.pairs.small)

pub invariant_of-self : goal.invariant_of-self
invariant_of-self c =
    let ps = c.self.inside.pairs.items in
    let added : c.insert.new.self.items ≡ insert ps c.in-Err.at (c.args.buffer, c.args.block) = c.insert.ensures.items ∙ cond-true (is_ok c.insert.result) _ _ (ap is_ok c.unwrap.ensures) in
    rw added (
      record {
        exact = count_added ps (insert ps c.in-Err.at (c.args.buffer, c.args.block)) (c.args.buffer, c.args.block) (count_of c.self.inside.counts) (count_of c.raise.new.counts)
            (IsPermutation-insert ps c.in-Err.at (c.args.buffer, c.args.block)) c.self.invariant.0.exact c.raise.ensures.at c.raise.ensures.others;
        some = c.raise.ensures.some;
      },
      gap_rises ps (c.args.buffer, c.args.block) c.in-Err.at c.self.invariant.1 (rw c.deref.ensures.value at c.in-Err.ensures),
    )

pub returns-in-Err : goal.returns-in-Err
returns-in-Err c =
    let ps = c.self.inside.pairs.items in
    let added : c.insert.new.self.items ≡ insert ps c.in-Err.at (c.args.buffer, c.args.block) = c.insert.ensures.items ∙ cond-true (is_ok c.insert.result) _ _ (ap is_ok c.unwrap.ensures) in
    ap (λ l. set.from_list l) added
    ∙ hold_added ps (insert ps c.in-Err.at (c.args.buffer, c.args.block)) (c.args.buffer, c.args.block) (gap_adds ps (c.args.buffer, c.args.block) c.in-Err.at)
    ∙ ap (λ (s : HoldState). with_pair s.holds c.args.buffer c.args.block) c.self.view_is

pub returns-in_default : goal.returns-in_default
returns-in_default c =
    let ps = c.self.inside.pairs.items in
    sym (ap (λ (s : HoldState). s.holds) c.self.view_is)
    ∙ hold_added ps ps (c.args.buffer, c.args.block) (again_adds ps (c.args.buffer, c.args.block) c.in_default.field-0 (rw c.deref.ensures.value at c.in_default.ensures))
    ∙ ap (λ (s : HoldState). with_pair s.holds c.args.buffer c.args.block) c.self.view_is
