use Rattle.std.proofs.Common.{List, [], ◌∷◌, ◌++◌, map, length, sym, ap, ◌∙◌, append_assoc, arith}
use Rattle.live_serve.specs.declared.closing.Closing.{Closing}
use Rattle.live_serve.proofs.closing.stop_closed.Goals as goal

pub loop-closing-init : goal.loop-closing-init
loop-closing-init g c = record {
  room = omega (arith, ap length c.requires.none, c.args.disks.ok, c.requires.room);
  all = ap (λ (l : List g.row.D.Denot). l ++ map (λ x. x.shard.shelf.disk) c.args.closings.items) c.requires.none;
}

pub loop-closing-preserved : goal.loop-closing-preserved
loop-closing-preserved g c = record {
  room = omega (
    arith,
    ap length c.in-Some.ensures.some,
    c.push_reserved.ensures.len,
    c.push_reserved.ensures.capacity,
    c.loop-closing.invariant.room,
    c.loop-closing.closings.ok,
    c.take_first.new.list.ok,
  );
  all =
      let disk_of : Closing g.row.D.Denot → g.row.D.Denot = λ x. x.shard.shelf.disk in
      let rest = map disk_of c.take_first.new.list.items in
      ap (λ (l : List g.row.D.Denot). l ++ rest) c.push_reserved.ensures.items
      ∙ append_assoc c.loop-closing.disks.items (c.stop.result ∷ []) rest
      ∙ ap (λ (d : g.row.D.Denot). c.loop-closing.disks.items ++ d ∷ rest) c.stop.ensures
      ∙ ap (λ (l : List (Closing g.row.D.Denot)). c.loop-closing.disks.items ++ map disk_of l) (sym c.in-Some.ensures.some)
      ∙ c.loop-closing.invariant.all;
}
