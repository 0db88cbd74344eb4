use Rattle.std.proofs.Common.{◌+◌, ◌∷◌, get_or, drop, sym, subst}
use Rattle.std.proofs.lemmas.Bool.{eq-eqb, ne_eqb}
use Rattle.std.proofs.lemmas.List.{drop_more, drop_all}
use Rattle.hold_book.proofs.Lowered.{Lowered, lowered_start, lowered_past, lowered_some, lowered_one, lowered_end}
use Rattle.hold_book.proofs.counts.lower_all.Goals as goal
use Rattle.hold_book.proofs.counts.lower_all.Goals.{then-holder-buffer, else-holder-buffer}

pub loop-holder-init : goal.loop-holder-init
loop-holder-init c = lowered_start c.args.buffer c.args.pairs.now c.args.counts.now c.requires.counted

pub lower-requires-clause-held : goal.lower-requires-clause-held
lower-requires-clause-held c =
    let ps = c.args.pairs.now in
    let i = c.loop-holder.holder-index in
    let p = get_or ps i (0, 0) in
    lowered_some c.args.buffer ps p (drop (i + 1) ps) c.loop-holder.counts (eq-eqb p.0 c.args.buffer c.if-holder-buffer.true)
    (subst (λ rest. Lowered c.args.buffer ps rest c.loop-holder.counts) (drop_more ps i (0, 0) c.loop-holder-test.true) c.loop-holder.invariant)

pub loop-holder-preserved : goal.loop-holder-preserved
loop-holder-preserved c =
    let ps = c.args.pairs.now in
    let i = c.loop-holder.holder-index in
    let p = get_or ps i (0, 0) in
    let here : Lowered c.args.buffer ps (p ∷ drop (i + 1) ps) c.loop-holder.counts =
    subst (λ rest. Lowered c.args.buffer ps rest c.loop-holder.counts) (drop_more ps i (0, 0) c.loop-holder-test.true) c.loop-holder.invariant in
    elim c.if-holder-buffer.branch [
      | then-holder-buffer w ↦ subst (λ counts. Lowered c.args.buffer ps (drop (i + 1) ps) counts) (sym w.counts-is)
          (lowered_one c.args.buffer ps p (drop (i + 1) ps) c.loop-holder.counts
          (eq-eqb p.0 c.args.buffer w.if-holder-buffer.true) here w.lower.new.counts w.lower.ensures.at w.lower.ensures.others w.lower.ensures.some)
      | else-holder-buffer w ↦ subst (λ counts. Lowered c.args.buffer ps (drop (i + 1) ps) counts) (sym w.counts-is)
          (lowered_past c.args.buffer ps p (drop (i + 1) ps) c.loop-holder.counts (ne_eqb p.0 c.args.buffer w.if-holder-buffer.false) here)
    ]

pub returns : goal.returns
returns c =
    let ps = c.args.pairs.now in
    let done = subst (λ rest. Lowered c.args.buffer ps rest c.loop-holder.counts) (drop_all c.loop-holder.holder-index ps c.loop-holder-test.false) c.loop-holder.invariant in
    record { exact = lowered_end c.args.buffer ps c.loop-holder.counts done; some = done.some }
