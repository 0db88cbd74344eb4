use Rattle.std.proofs.Common.{◌≡◌, ◌++◌, ◌∷◌, false, List, [], sym, ap, subst, ◌∙◌}
use Rattle.std.specs.Prelude.{slice_get}
use Rattle.rec_format.specs.declared.version.Digest.{Digest}
use Rattle.rec_format.specs.Places.{device_number}
use Rattle.law_sprig.proofs.Device.{among_each}
use Rattle.model_device.specs.Events.{Event, expire_call}
use Rattle.model_device.specs.Legal.{Allowed}
use Rattle.shard_core.specs.Calls.{delete_answer}
use Rattle.turn_table.specs.Passes.{view}
use Rattle.live_node.specs.Opening.{setup_at, state_at}
use Rattle.live_node.specs.Fits.{Is, PartFits}
use Rattle.live_node.specs.Calls.{seen_by}
use Rattle.live_node.specs.Lives.{opening_at}
use Rattle.live_node.specs.Sweeps.{left_behind}
use Rattle.live_node.proofs.Right.{allowed_in, answers_behind}
use Rattle.live_node.proofs.Sweeping.{left_is, next_in, left_less}
use Rattle.live_node.proofs.live.Live.expire.Goals as goal

pub enter-requires-clause-sprig : goal.enter-requires-clause-sprig
enter-requires-clause-sprig g c = c.take_hub-hub.ensures.still c.args.part c.args.sprig.now c.requires.pass.1 c.requires.fits

pub enter-requires-clause-own : goal.enter-requires-clause-own
enter-requires-clause-own g c =
    let o = opening_at c.args.self.now in
    let took = c.take_hub-hub in
    let fits = took.ensures.still c.args.part c.args.sprig.now c.requires.pass.1 c.requires.fits in
    let next = next_in o c.args.part c.args.now (seen_by (view took.new.pass)) c.args.sprig.now fits c.args.last c.args.digest.now c.requires.next in
    among_each (λ d. device_number (setup_at o).devices d ≡ (setup_at o).device) c.args.digest.now _ took.ensures.fits.tallied.fits.own next.logged_is

pub enter-requires-clause-part : goal.enter-requires-clause-part
enter-requires-clause-part g c =
    let took = c.take_hub-hub in
    let fits = took.ensures.still c.args.part c.args.sprig.now c.requires.pass.1 c.requires.fits in
    sym (next_in (opening_at c.args.self.now) c.args.part c.args.now (seen_by (view took.new.pass)) c.args.sprig.now fits c.args.last c.args.digest.now c.requires.next).mine

pub returns-clause-once : goal.returns-clause-once
returns-clause-once g c =
    let o = opening_at c.args.self.now in
    let took = c.take_hub-hub in
    let list = seen_by (view took.new.pass) in
    let fits = took.ensures.still c.args.part c.args.sprig.now c.requires.pass.1 c.requires.fits in
    let by = c.enter.ensures.once in
    let all = answers_behind g.D.Disk.view o (view c.args.pass.now) (view took.new.pass) (view c.enter.new.pass)
    (Is (expire_call c.args.digest.now c.args.now) (λ answer. answer ≡ delete_answer c.enter.result)) took.ensures.right by.0 in (
      all.0,
      ap (λ (l : List Event). slice_get (left_behind o c.args.part c.args.now c.args.last l) 0) (all.1 ∙ by.1)
          ∙ ap (λ (l : List Digest). slice_get l 0) (sym (left_is o c.args.part c.args.now list c.args.sprig.now fits c.args.last)) ∙ c.requires.next,
    )

pub returns-clause-less : goal.returns-clause-less
returns-clause-less g c =
    let o = opening_at c.args.self.now in
    let took = c.take_hub-hub in
    let list = seen_by (view took.new.pass) in
    let fits = took.ensures.still c.args.part c.args.sprig.now c.requires.pass.1 c.requires.fits in
    let both = c.enter.ensures.once in
    let by = both.0 in
    let new = c.enter.new.sprig in
    left_less o c.args.part c.args.now list by.event c.args.last c.args.digest.now c.args.sprig.now new fits
    (subst (λ (l : List Event). PartFits o l c.args.part new) (by.last ∙ ap (λ (l : List Event). l ++ by.event ∷ []) both.1) c.enter.ensures.sprig)
    (next_in o c.args.part c.args.now list c.args.sprig.now fits c.args.last c.args.digest.now c.requires.next) by.said.is_call
    (subst (λ (l : List Event). Allowed (setup_at o) false (state_at o l) by.event by.event.call) both.1 (allowed_in by))
