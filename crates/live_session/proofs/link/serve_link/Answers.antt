use Rattle.live_session.proofs.Ends.{ran_serves}
use Rattle.live_session.proofs.Kept.{ran_kept}
use Rattle.live_session.proofs.link.serve_link.Goals as goal

pub returns-clause-served : goal.returns-clause-served
returns-clause-served g c = ran_serves g.D.Disk.view c.args.limit _ _ _ _ _ _ c.args.store.now _ c.session.new.store _ c.session.result c.session.ensures.run

pub returns-clause-lives : goal.returns-clause-lives
returns-clause-lives g c = (ran_kept g.D.Disk.view c.args.limit _ _ _ _ _ _ c.args.store.now c.session.new.store _ _ c.session.result c.session.ensures.run).0

pub returns-clause-numbers : goal.returns-clause-numbers
returns-clause-numbers g c = (ran_kept g.D.Disk.view c.args.limit _ _ _ _ _ _ c.args.store.now c.session.new.store _ _ c.session.result c.session.ensures.run).1
