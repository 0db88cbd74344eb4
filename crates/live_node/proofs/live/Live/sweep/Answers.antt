use Rattle.std.proofs.Common.{ℕ, ◌+◌, [], ◌∷◌, ◌++◌, Some, None, refl, sym, ap, subst, ◌∙◌, arith}
use Rattle.std.specs.Prelude.{Ok, Err}
use Rattle.std.specs.List.{AllByRecursion}
use Rattle.law_lists.proofs.Each.{all_joined}
use Rattle.shard_core.specs.Expiring.{expired_among}
use Rattle.turn_table.specs.Passes.{view}
use Rattle.live_node.specs.Calls.{seen_by}
use Rattle.live_node.specs.Lives.{opening_at}
use Rattle.live_node.specs.Several.{placed_events}
use Rattle.live_node.specs.Sweeps.{EndsSweep, WasDone, removed_count}
use Rattle.live_node.proofs.Committing.{shown_commit}
use Rattle.live_node.proofs.Several.{events_joined, shows_none, shows_one, shows_then}
use Rattle.live_node.proofs.Sweeping.{left_few, left_is, none_first, removed_more, swept_more, swept_end}
use Rattle.live_node.proofs.live.Live.sweep.Goals as goal

pub loop-digest-init : goal.loop-digest-init
loop-digest-init g c = record {
  pass = c.requires.pass;
  numbers = (refl, refl);
  fits = c.requires.fits;
  few = let most = left_few c.args.sprig.now.entries c.args.now None in omega (arith, most);
  sweeps = ([], shows_none c.requires.here, refl, tt, refl);
}

pub loop-digest-preserved : goal.loop-digest-preserved
loop-digest-preserved g c =
    let o = opening_at c.args.self.now in
    let told = c.in-Ok.ensures in
    let by = told.once.0 in
    let before = c.loop-digest.invariant.sweeps in
    let count = c.count_of-removed.ensures in
    let few = c.loop-digest.invariant.few in
    let less = told.less in
    record {
      pass = told.pass;
      numbers = (told.numbers.0 ∙ c.loop-digest.invariant.numbers.0, told.numbers.1 ∙ c.loop-digest.invariant.numbers.1);
      fits = told.fits;
      few = omega (arith, few, less, count.one);
      sweeps = (
        before.0 ++ record { past = by.past; event = by.event } ∷ [],
        shows_then before.0 (record { past = by.past; event = by.event } ∷ []) before.1 (shows_one by),
        swept_more o c.args.part c.args.now None c.loop-digest.last before.0 (record { past = by.past; event = by.event }) c.in-Some.digest before.2 by.said.is_call told.once.1,
        subst (AllByRecursion WasDone) (sym (events_joined before.0 (record { past = by.past; event = by.event } ∷ [])))
            (all_joined WasDone (placed_events before.0) (by.event ∷ []) before.3 ((c.in-Ok.gone, by.said.answered), tt)),
        ap (λ (n : ℕ). c.loop-digest.removed + n) count.count ∙ removed_more (placed_events before.0) by.event c.loop-digest.removed c.in-Ok.gone before.4 by.said.answered
            ∙ ap removed_count (sym (events_joined before.0 (record { past = by.past; event = by.event } ∷ []))),
      );
    }

pub returns-in-Err-clause-sweeps : goal.returns-in-Err-clause-sweeps
returns-in-Err-clause-sweeps g c =
    let o = opening_at c.args.self.now in
    let told = c.in-Err.ensures in
    let by = told.once.0 in
    let before = c.loop-digest.invariant.sweeps in
    let ends = EndsSweep o c.args.part c.args.now (seen_by (view c.expire.new.pass)) (Err (record { removed = c.loop-digest.removed; cause = c.in-Err.cause })) in
    record {
      list = before.0 ++ record { past = by.past; event = by.event } ∷ [];
      shows = shows_then before.0 (record { past = by.past; event = by.event } ∷ []) before.1 (shows_one by);
      swept = swept_end o c.args.part c.args.now ends None (Some c.in-Some.digest) (before.0 ++ record { past = by.past; event = by.event } ∷ [])
          (swept_more o c.args.part c.args.now None c.loop-digest.last before.0 (record { past = by.past; event = by.event }) c.in-Some.digest before.2 by.said.is_call told.once.1) tt;
      flushed = shown_commit (before.0 ++ record { past = by.past; event = by.event } ∷ []) (shows_then before.0 (record { past = by.past; event = by.event } ∷ []) before.1 (shows_one by));
      counts = (placed_events before.0, by.event, events_joined before.0 (record { past = by.past; event = by.event } ∷ []), before.3, before.4, by.said.answered);
    }

pub returns-clause-sweeps : goal.returns-clause-sweeps
returns-clause-sweeps g c =
    let o = opening_at c.args.self.now in
    let here = c.loop-digest.invariant in
    let seen = seen_by (view c.loop-digest.pass) in
    let last = c.loop-digest.last in
    let sprig = c.loop-digest.sprig in
    record {
      list = here.sweeps.0;
      shows = here.sweeps.1;
      swept = swept_end o c.args.part c.args.now (EndsSweep o c.args.part c.args.now seen (Ok c.loop-digest.removed)) None last here.sweeps.0 here.sweeps.2
          (sym (left_is o c.args.part c.args.now seen sprig here.fits last) ∙ none_first (expired_among sprig.entries c.args.now last) (sym c.in_default.ensures));
      counts = (here.sweeps.3, here.sweeps.4);
      flushed = shown_commit here.sweeps.0 here.sweeps.1;
    }
