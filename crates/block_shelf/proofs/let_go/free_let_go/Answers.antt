use Rattle.std.proofs.Common.{◌≡◌, ◌<◌, ◌≤◌, ◌+◌, ◌++◌, ◌∷◌, [], length, ◌∙◌, ap, arith}
use Rattle.std.specs.Result.{is_ok}
use Rattle.std.proofs.lemmas.Bool.{cond-true, both_ways}
use Rattle.hold_book.specs.Holds.{without_buffer}
use Rattle.block_shelf.specs.LetGo.{IsLetGo}
use Rattle.block_shelf.proofs.Freeing.{freed_more, freed_same, freed_fits}
use Rattle.block_shelf.proofs.NextOf.{of_below, freed_at, freed_end}
use Rattle.block_shelf.proofs.let_go.free_let_go.Goals as goal
use Rattle.block_shelf.proofs.let_go.free_let_go.Goals.{then-not-held_besides+then-is_bare, else-not-held_besides}
use Rattle.block_shelf.proofs.let_go.free_let_go.Goals.{else-not-held_besides-via-then-not-held_besides+else-is_bare}
use Rattle.block_shelf.proofs.let_go.free_let_go.Goals.{else-not-held_besides-via-else-not-held_besides}

pub unwrap-requires : goal.unwrap-requires
unwrap-requires c =
    let n = length c.args.ledger.now in
    let after = without_buffer c.args.holds.now.holds c.args.number in
    let Goes = IsLetGo c.args.number c.args.own c.args.holds.now.holds after c.args.buffers.now c.args.ledger.now in
    let block = c.in-Some.block in
    let lt : block < n = of_below n c.args.number c.args.own c.args.holds.now.holds block c.requires.own c.requires.held c.in-Some.ensures.is_of in
    let are = freed_at c.args.number c.args.own c.args.holds.now.holds after c.args.buffers.now c.args.ledger.now n c.args.free.now.items c.loop-block.from c.loop-block.free.items
    c.loop-block.invariant.within c.loop-block.invariant.are block lt c.in-Some.ensures in
    let go : Goes block = (
      c.in-Some.ensures.is_of,
      record {
        bare = c.if-is_bare.ensures;
        unheld =
            λ held. both_ways c.held_besides.result c.if-not-held_besides.true (c.held_besides.ensures.1 held);
      },
    ) in
    let fits = freed_fits n Goes c.args.free.now.items block c.loop-block.free.items lt are go in
    let room = c.loop-block.invariant.room in
    c.push_back-put.ensures.succeeds (omega (arith, fits, room))

pub loop-block-preserved : goal.loop-block-preserved
loop-block-preserved c =
    let n = length c.args.ledger.now in
    let after = without_buffer c.args.holds.now.holds c.args.number in
    let Goes = IsLetGo c.args.number c.args.own c.args.holds.now.holds after c.args.buffers.now c.args.ledger.now in
    let block = c.in-Some.block in
    let free = c.loop-block.free.items in
    let lt : block < n = of_below n c.args.number c.args.own c.args.holds.now.holds block c.requires.own c.requires.held c.in-Some.ensures.is_of in
    let are = freed_at c.args.number c.args.own c.args.holds.now.holds after c.args.buffers.now c.args.ledger.now n c.args.free.now.items c.loop-block.from free c.loop-block.invariant.within
    c.loop-block.invariant.are block lt c.in-Some.ensures in
    let within : block + 1 ≤ n = omega (arith, lt) in
    elim c.if-not-held_besides.branch [
      | then-not-held_besides+then-is_bare w ↦
          let more : w.push_back-put.new.self.items ≡ free ++ block ∷ [] = w.push_back-put.ensures.items ∙ cond-true (is_ok w.push_back-put.result) _ _ (ap is_ok w.unwrap.ensures) in
          let room = c.loop-block.invariant.room in
          let grows = w.push_back-put.ensures.capacity in
          rw w.free-is (record {
            are = rw more (freed_more n Goes c.args.free.now.items block free lt are
                (c.in-Some.ensures.is_of, record { bare = w.if-is_bare.ensures; unheld = λ held. both_ways c.held_besides.result w.if-not-held_besides.true (c.held_besides.ensures.1 held) }));
            room = omega (arith, room, grows);
            within = within;
          })
      | else-not-held_besides w ↦
          rw w.free-is (record {
            are = freed_same n Goes c.args.free.now.items block free lt are
                (elim w.else-not-held_besides.branch [
                  | else-not-held_besides-via-then-not-held_besides+else-is_bare v ↦ λ go. v.if-is_bare.ensures go.1.bare
                  | else-not-held_besides-via-else-not-held_besides v ↦ λ go. go.1.unheld (c.held_besides.ensures.0 v.if-not-held_besides.false)
                ]);
            room = c.loop-block.invariant.room;
            within = within;
          })
    ]

pub returns-clause-freed : goal.returns-clause-freed
returns-clause-freed c =
    let n = length c.args.ledger.now in
    let after = without_buffer c.args.holds.now.holds c.args.number in
    (freed_end c.args.number c.args.own c.args.holds.now.holds after c.args.buffers.now c.args.ledger.now n c.args.free.now.items c.loop-block.from c.loop-block.free.items
    c.loop-block.invariant.within c.loop-block.invariant.are c.in_default.ensures).freed
