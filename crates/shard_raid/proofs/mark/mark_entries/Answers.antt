use Rattle.std.proofs.Common.{sym, ◌∙◌, ap, subst, refl, arith}
use Rattle.std.specs.Option.{IsSome}
use Rattle.rec_format.specs.declared.entry.Entry.{Entry}
use Rattle.sprig_tree.specs.Entries.{entry_of}
use Rattle.shard_raid.proofs.Walking.{begins, all_marked, all_counted, found, few, marks, passes, fewer_marked, fewer_passed}
use Rattle.shard_raid.proofs.mark.mark_entries.Goals as goal
use Rattle.shard_raid.proofs.mark.mark_entries.Goals.{then-eligible, else-eligible}

pub loop-next-init : goal.loop-next-init
loop-next-init c = begins c.args.mark c.args.age c.args.now c.args.sprig.now c.len-entries.ensures.sorted c.next_after-next.result c.next_after-next.ensures.value

pub replace-requires : goal.replace-requires
replace-requires c =
    let e : Entry = c.in-Some.entry in
    let there = found c.args.mark c.args.age c.args.now c.args.sprig.now c.len-entries.ensures.sorted c.loop-next.sprig c.loop-next.next c.loop-next.marked c.loop-next.invariant e c.in-Some.is in
    subst IsSome (sym (ap (λ (x : Entry). entry_of x.digest c.loop-next.sprig.entries) c.with_mark.ensures ∙ there)) refl

pub overflow_add-marked : goal.overflow_add-marked
overflow_add-marked c =
    let below = few c.args.mark c.args.age c.args.now c.args.sprig.now c.len-entries.ensures.sorted c.loop-next.sprig c.loop-next.next c.loop-next.marked c.loop-next.invariant
    c.in-Some.entry c.in-Some.is in
    omega (arith, below, c.len-entries.ensures.value)

pub loop-next-smaller : goal.loop-next-smaller
loop-next-smaller c =
    elim c.if-eligible.branch [
      | then-eligible w ↦ fewer_marked c.args.mark c.args.age c.args.now c.args.sprig.now c.len-entries.ensures.sorted c.loop-next.sprig c.loop-next.next c.loop-next.marked
          c.loop-next.invariant c.in-Some.entry c.in-Some.is
          (sym c.eligible.ensures ∙ w.if-eligible.true) w.with_mark.result w.with_mark.ensures c.if-eligible.sprig
          (w.sprig-is ∙ w.replace.ensures) c.if-eligible.marked w.marked-is c.next_after-next-in-Some.result c.next_after-next-in-Some.ensures.value
      | else-eligible w ↦ fewer_passed c.args.mark c.args.age c.args.now c.args.sprig.now c.len-entries.ensures.sorted c.loop-next.sprig c.loop-next.next c.loop-next.marked
          c.loop-next.invariant c.in-Some.entry c.in-Some.is
          (sym c.eligible.ensures ∙ w.if-eligible.false) c.if-eligible.sprig w.sprig-is c.if-eligible.marked w.marked-is c.next_after-next-in-Some.result c.next_after-next-in-Some.ensures.value
    ]

pub loop-next-preserved : goal.loop-next-preserved
loop-next-preserved c =
    elim c.if-eligible.branch [
      | then-eligible w ↦ marks c.args.mark c.args.age c.args.now c.args.sprig.now c.len-entries.ensures.sorted c.loop-next.sprig c.loop-next.next c.loop-next.marked c.loop-next.invariant
          c.in-Some.entry c.in-Some.is
          (sym c.eligible.ensures ∙ w.if-eligible.true) w.with_mark.result w.with_mark.ensures c.if-eligible.sprig
          (w.sprig-is ∙ w.replace.ensures) c.if-eligible.marked w.marked-is c.next_after-next-in-Some.result c.next_after-next-in-Some.ensures.value
      | else-eligible w ↦ passes c.args.mark c.args.age c.args.now c.args.sprig.now c.len-entries.ensures.sorted c.loop-next.sprig c.loop-next.next c.loop-next.marked c.loop-next.invariant
          c.in-Some.entry c.in-Some.is
          (sym c.eligible.ensures ∙ w.if-eligible.false) c.if-eligible.sprig w.sprig-is c.if-eligible.marked w.marked-is c.next_after-next-in-Some.result c.next_after-next-in-Some.ensures.value
    ]

pub returns-clause-count : goal.returns-clause-count
returns-clause-count c = all_counted c.args.mark c.args.age c.args.now c.args.sprig.now c.len-entries.ensures.sorted c.loop-next.sprig c.loop-next.next c.loop-next.marked
    c.loop-next.invariant c.in_default.is

pub returns-clause-sprig : goal.returns-clause-sprig
returns-clause-sprig c = all_marked c.args.mark c.args.age c.args.now c.args.sprig.now c.len-entries.ensures.sorted c.loop-next.sprig c.loop-next.next c.loop-next.marked
    c.loop-next.invariant c.in_default.is
