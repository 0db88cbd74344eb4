use Rattle.std.proofs.Common.{◌^◌, refl, [], ◌∷◌, ◌++◌, length-append, arith}
use Rattle.node_serve.specs.Serving.{ServesLink}
use Rattle.node_serve.proofs.Calling.{joined}
use Rattle.node_serve.proofs.Serving.{links_and_one}
use Rattle.node_serve.proofs.server.serve_links.Goals as goal

pub loop-init : goal.loop-init
loop-init g c = record { links = ([], (refl, refl), omega arith); calls = ([], refl) }

pub loop-preserved : goal.loop-preserved
loop-preserved g c =
    let so_far = c.loop.invariant.links in
    let link = c.serve_link.ensures.link in
    record {
      links = (
        so_far.0 ++ link.0 ∷ [],
        links_and_one (ServesLink g.S.Store.acts g.S.Store.tends g.E.Entry.may_give g.G.Link.Ends.taken g.G.Link.Ends.left g.G.Link.Ends.written g.G.Link.Ends.handed
            g.G.Link.Ends.source_faults g.G.Link.Ends.sink_faults (2 ^ 40))
            so_far.0 _ _ _ _ link.0 _ _ so_far.1 link.1,
        omega (arith, so_far.2, c.in-Some-next.ensures.given.1, length-append so_far.0 (link.0 ∷ [])),
      );
      calls = joined g.S.Store.acts g.S.Store.tends _ _ _ c.loop.invariant.calls c.serve_link.ensures.calls;
    }
