use Rattle.std.proofs.Common.{◌≡◌, ◌^◌, ◌∙◌, sym, ap, ◌++◌, map, arith}
use Rattle.std.specs.List.{sum_by}
use Rattle.node_serve.specs.Manning.{duty_of, links_of, ends_of}
use Rattle.node_serve.specs.Serving.{ServesLink, DoesDuty}
use Rattle.node_serve.proofs.Counting.{all_done}
use Rattle.node_serve.proofs.server.serve_from.Goals as goal

pub returns-clause-came : goal.returns-clause-came
returns-clause-came g c =
    let manned = c.man_all.ensures in
    let relieved = c.relieve_all.ensures in
    let closed = c.close-door.ensures in
    let olds = c.man_all.new.manned.items in
    let news = c.do_all.new.manned.items in
    let first : map duty_of olds ≡ c.args.duties.now.items = manned.manned in
    let last : map duty_of news ≡ c.relieve_all.new.duties.items = sym (relieved.duties ∙ ap (λ ds. ds ++ map duty_of news) manned.left.0) in
    let idle : sum_by links_of olds ≡ 0 = manned.idle.2 in
    let taken : c.relieve_all.new.links.amount ≡ sum_by links_of news = omega (arith, relieved.links, manned.idle.0) in
    let told : c.relieve_all.new.ends.amount ≡ sum_by ends_of news = omega (arith, relieved.ends, manned.idle.1) in (
      closed.why,
      all_done (DoesDuty (ServesLink g.S.Store.acts g.S.Store.tends g.E.Entry.may_give g.G.Link.Ends.taken g.G.Link.Ends.left g.G.Link.Ends.written g.G.Link.Ends.handed
          g.G.Link.Ends.source_faults g.G.Link.Ends.sink_faults (2 ^ 40))
          g.S.Store.acts g.S.Store.tends g.K.Chore.turns (g.N.Nudge.tells c.args.nudge.now) g.C.Clock.times)
          duty_of links_of ends_of g.E.Entry.given (g.G.Door.given c.close-door.result.0) c.relieve_all.new.links.amount c.relieve_all.new.ends.amount olds news
          c.args.duties.now.items c.relieve_all.new.duties.items c.do_all.ensures first last idle taken told closed.all,
    )
