use Rattle.std.proofs.Common.{◌∙◌, ap, refl, subst, arith}
use Rattle.std.proofs.lemmas.List.Elements.{Contains-append_left}
use Rattle.write_buffer.proofs.Sizes.{sized}
use Rattle.post_cache.specs.Bodies.{body_of}
use Rattle.block_shelf.specs.View.{IsShelf, ShelfView}
use Rattle.block_shelf.proofs.InMemory.{unkept_of, only_buffer, peeked_some, peeked_only, peeked_none, peeked_capacity}
use Rattle.block_shelf.proofs.shelf.Shelf.in_memory.Goals as goal

pub returns-in-Some-clause-some : goal.returns-in-Some-clause-some
returns-in-Some-clause-some g c = (Contains-append_left c.args.self.now.buffers _ c.in-Some.buffer.now c.in-Some.ensures.some.0, c.in-Some.ensures.some.1)

pub returns-in-Some-clause-only : goal.returns-in-Some-clause-only
returns-in-Some-clause-only g c =
    let shelf : ShelfView g.row.D.Denot = c.args.self.now in
    let is : IsShelf g.D.Disk.view shelf = subst (IsShelf g.D.Disk.view) c.self.view_is c.self.invariant.0 in
    let some = c.in-Some.ensures.some in
    only_buffer shelf.geometry shelf c.args.block is.cache.each c.in-Some.buffer.now some.1
    (unkept_of shelf.geometry shelf c.args.block is.cache.each c.in-Some.buffer.now some.0 some.1 is.cache.apart) c.in-Some.ensures.only

pub returns-in-None-clause-some : goal.returns-in-None-clause-some
returns-in-None-clause-some g c =
    let shelf : ShelfView g.row.D.Denot = c.args.self.now in
    let is : IsShelf g.D.Disk.view shelf = subst (IsShelf g.D.Disk.view) c.self.view_is c.self.invariant.0 in
    peeked_some shelf.geometry shelf c.args.block is.cache.each (c.in-None.ensures.none refl) c.peek.result
    (c.peek.ensures ∙ ap (λ (v : ShelfView g.row.D.Denot). body_of c.args.block v.cache.kept) c.self.view_is)

pub returns-in-None-clause-only : goal.returns-in-None-clause-only
returns-in-None-clause-only g c =
    let shelf : ShelfView g.row.D.Denot = c.args.self.now in
    let is : IsShelf g.D.Disk.view shelf = subst (IsShelf g.D.Disk.view) c.self.view_is c.self.invariant.0 in
    peeked_only shelf.geometry shelf c.args.block is.cache.each (c.in-None.ensures.none refl) c.peek.result
    (c.peek.ensures ∙ ap (λ (v : ShelfView g.row.D.Denot). body_of c.args.block v.cache.kept) c.self.view_is) is.cache.list.own

pub returns-in-None-clause-none : goal.returns-in-None-clause-none
returns-in-None-clause-none g c =
    let shelf : ShelfView g.row.D.Denot = c.args.self.now in
    let is : IsShelf g.D.Disk.view shelf = subst (IsShelf g.D.Disk.view) c.self.view_is c.self.invariant.0 in
    peeked_none shelf.geometry shelf c.args.block is.cache.each (c.in-None.ensures.none refl) c.peek.result
    (c.peek.ensures ∙ ap (λ (v : ShelfView g.row.D.Denot). body_of c.args.block v.cache.kept) c.self.view_is)

pub returns-in-None-clause-capacity : goal.returns-in-None-clause-capacity
returns-in-None-clause-capacity g c =
    let shelf : ShelfView g.row.D.Denot = c.args.self.now in
    let is : IsShelf g.D.Disk.view shelf = subst (IsShelf g.D.Disk.view) c.self.view_is c.self.invariant.0 in
    let size = sized shelf.geometry.block_size is.geometry.block_size in
    peeked_capacity shelf.geometry shelf c.args.block is.cache.each (c.in-None.ensures.none refl) c.peek.result
    (c.peek.ensures ∙ ap (λ (v : ShelfView g.row.D.Denot). body_of c.args.block v.cache.kept) c.self.view_is) (omega (arith, size.high))
