use Rattle.std.proofs.Common.{◌≡◌, ◌+◌, ◌^◌, List, length}
use Rattle.node_session.specs.declared.ended.Ended.{Ended}
use Rattle.node_serve.specs.Calling.{Call, Calls}
use Rattle.node_serve.specs.Serving.{ServesLink, ServesLinks}
use Rattle.node_serve.proofs.server.serve_links.Given as goal

abbrev pub invariant-loop : goal.invariant-loop
invariant-loop g l = record {
  links : (hows : List Ended) × ServesLinks (ServesLink g.S.Store.acts g.S.Store.tends g.E.Entry.may_give g.G.Link.Ends.taken g.G.Link.Ends.left g.G.Link.Ends.written
      g.G.Link.Ends.handed g.G.Link.Ends.source_faults g.G.Link.Ends.sink_faults (2 ^ 40))
      hows l.fn.store (g.C.Clock.times l.fn.clock) l.store (g.C.Clock.times l.clock)
      × (l.post.links.amount ≡ l.fn.post.links.amount + length hows);
  calls : (calls : List Call) × Calls g.S.Store.acts g.S.Store.tends calls l.fn.store l.store;
}
