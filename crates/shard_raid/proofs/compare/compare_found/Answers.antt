use Rattle.std.proofs.Common.{◌≡◌, ℕ, ◌+◌, Bool, true, false, refl, sym, ◌∙◌, ap, arith}
use Rattle.law_lists.proofs.Counts.{one_if}
use Rattle.shard_raid.proofs.Comparing.{begins, one_more, few, rest_on}
use Rattle.raid_book.specs.Found.{copies_for}
use Rattle.shard_raid.proofs.compare.compare_found.Goals as goal

counts_one : (undone : ℕ) (told : Bool) → told ≡ true → undone + 1 ≡ undone + one_if told
counts_one undone told is = ap (λ (b : Bool). undone + one_if b) (sym is)

counts_none : (undone : ℕ) (told : Bool) → told ≡ false → undone ≡ undone + one_if told
counts_none undone told is = let none : one_if told ≡ 0 = ap (λ (b : Bool). one_if b) is in omega (arith, none)

pub loop-digest-init : goal.loop-digest-init
loop-digest-init g c = record {
  compared = begins c.number-number.result (copies_for c.args.part c.args.shelf.now.raid.found) c.args.sprig.now;
  rest = refl;
  others = λ other apart. refl;
}

pub overflow_add-undone : goal.overflow_add-undone
overflow_add-undone g c =
    let fits = few c.number-number.result (copies_for c.args.part c.args.shelf.now.raid.found)
    (copies_for c.args.part c.loop-digest.shelf.raid.found) c.args.sprig.now c.loop-digest.sprig c.loop-digest.undone c.len-entries.ensures.sorted c.loop-digest.invariant.compared
    (copies_for c.args.part c.found_for.new.self.raid.found) (c.in-Some.digest, c.in-Some.stamp) c.in-Some.ensures.taken c.unmark.new.sprig c.unmark.result c.unmark.ensures
    (c.loop-digest.undone + 1) (counts_one c.loop-digest.undone c.unmark.result c.if-unmark.true) in
    omega (arith, fits, c.len-entries.ensures.value)

pub loop-digest-preserved-then-unmark : goal.loop-digest-preserved-then-unmark
loop-digest-preserved-then-unmark g c = record {
  compared = one_more c.number-number.result (copies_for c.args.part c.args.shelf.now.raid.found)
      (copies_for c.args.part c.loop-digest.shelf.raid.found) c.args.sprig.now c.loop-digest.sprig c.loop-digest.undone c.len-entries.ensures.sorted c.loop-digest.invariant.compared
      (copies_for c.args.part c.found_for.new.self.raid.found) (c.in-Some.digest, c.in-Some.stamp) c.in-Some.ensures.taken c.unmark.new.sprig c.unmark.result c.unmark.ensures
      (c.loop-digest.undone + 1) (counts_one c.loop-digest.undone c.unmark.result c.if-unmark.true);
  rest = rest_on c.args.shelf.now c.loop-digest.shelf c.found_for.new.self c.loop-digest.invariant.rest c.in-Some.ensures.rest;
  others = λ other apart. c.in-Some.ensures.others other apart ∙ c.loop-digest.invariant.others other apart;
}

pub loop-digest-preserved : goal.loop-digest-preserved
loop-digest-preserved g c = record {
  compared = one_more c.number-number.result (copies_for c.args.part c.args.shelf.now.raid.found)
      (copies_for c.args.part c.loop-digest.shelf.raid.found) c.args.sprig.now c.loop-digest.sprig c.loop-digest.undone c.len-entries.ensures.sorted c.loop-digest.invariant.compared
      (copies_for c.args.part c.found_for.new.self.raid.found)
      (c.in-Some.digest, c.in-Some.stamp) c.in-Some.ensures.taken c.unmark.new.sprig c.unmark.result c.unmark.ensures c.loop-digest.undone
      (counts_none c.loop-digest.undone c.unmark.result c.if-unmark.false);
  rest = rest_on c.args.shelf.now c.loop-digest.shelf c.found_for.new.self c.loop-digest.invariant.rest c.in-Some.ensures.rest;
  others = λ other apart. c.in-Some.ensures.others other apart ∙ c.loop-digest.invariant.others other apart;
}
