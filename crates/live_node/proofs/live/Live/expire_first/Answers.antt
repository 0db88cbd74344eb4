use Rattle.std.proofs.Common.{None, sym, ◌∙◌}
use Rattle.shard_core.specs.Expiring.{expired_among}
use Rattle.turn_table.specs.Passes.{view}
use Rattle.live_node.specs.Calls.{seen_by}
use Rattle.live_node.specs.Lives.{opening_at}
use Rattle.live_node.proofs.Sweeping.{left_is, none_first}
use Rattle.live_node.proofs.Turning.{expires_so}
use Rattle.live_node.proofs.live.Live.expire_first.Goals as goal

pub returns-in-Some-clause-expires : goal.returns-in-Some-clause-expires
returns-in-Some-clause-expires g c = let told = c.expire.ensures.once in expires_so c.args.part c.args.now c.in-Some.digest c.expire.result told.0 told.1

pub returns-in-None-clause-expires : goal.returns-in-None-clause-expires
returns-in-None-clause-expires g c = (
  c.requires.here,
  sym (left_is (opening_at c.args.self.now) c.args.part c.args.now (seen_by (view c.args.pass.now)) c.args.sprig.now c.requires.fits None)
      ∙ none_first (expired_among c.args.sprig.now.entries c.args.now None) (sym c.in-None.ensures),
)
