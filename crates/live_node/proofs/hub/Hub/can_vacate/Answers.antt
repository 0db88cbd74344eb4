use Rattle.std.proofs.Common.{sym, ◌∙◌, arith}
use Rattle.live_node.specs.Opening.{setup_at, state_at}
use Rattle.live_node.proofs.Stepping.{by_lent}
use Rattle.live_node.proofs.Turning.{none_queued, some_queued}
use Rattle.live_node.proofs.hub.Hub.can_vacate.Goals as goal

pub returns-then-counts-eq0 : goal.returns-then-counts-eq0
returns-then-counts-eq0 g c = λ o events fits.
    let hub = by_lent c.deref-shelf.ensures fits in
    let queued = c.counts.ensures.queued (setup_at o) (state_at o events) hub.stands.queue in
    sym (none_queued (state_at o events) (omega (arith, queued, c.if-counts-eq0.true)))

pub returns : goal.returns
returns g c = λ o events fits.
    let hub = by_lent c.deref-shelf.ensures fits in
    let queued = c.counts.ensures.queued (setup_at o) (state_at o events) hub.stands.queue in
    c.can_gain.ensures.state (setup_at o) (state_at o events) hub.stands.stands hub.stands.queue
    ∙ sym (some_queued (state_at o events) (λ none. omega (arith, none, queued, c.if-counts-eq0.false)))
