use Rattle.std.proofs.Common.{◌∙◌, arith}
use Rattle.turn_table.proofs.Rows.{all_to_lay, laid_on}
use Rattle.turn_table.proofs.row.lay.Goals as goal

pub loop-part-init : goal.loop-part-init
loop-part-init g c =
    let empty = c.in-Ok.ensures {u = tt} in
    let none_there = empty.len in
    let room = empty.capacity in
    let as_many = c.reverse.ensures.len in
    let count = c.len-count.ensures in
    record {
      moved = all_to_lay c.in-Ok.places.items c.args.parts.items c.reverse.new.self.items empty.items c.reverse.ensures.items;
      counted = omega (arith, none_there, as_many);
      room = omega (arith, room, count);
      keeps_room = c.reverse.ensures.capacity;
    }

pub loop-part-preserved : goal.loop-part-preserved
loop-part-preserved g c =
    let inv = c.loop-part.invariant in
    let popped = c.in-Some.ensures {u = tt} in
    let pushed = c.push_reserved.ensures in
    let shorter = popped.cases in
    let longer = pushed.len in
    let counted = inv.counted in
    let room = inv.room in
    let as_much = pushed.capacity in
    record {
      moved = laid_on c.loop-part.places.items c.push_reserved.new.self.items c.loop-part.parts.items c.pop.new.self.items c.in-Some.part c.args.parts.items inv.moved popped.items pushed.items;
      counted = omega (arith, shorter, longer, counted);
      room = omega (arith, room, as_much);
      keeps_room = popped.capacity ∙ inv.keeps_room;
    }
