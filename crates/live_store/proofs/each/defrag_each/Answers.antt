use Rattle.std.proofs.Common.{◌≡◌, ◌<◌, length, set, refl, sym, ap, subst, ◌∙◌, arith, get_or}
use Rattle.std.specs.Prelude.{Some}
use Rattle.std.proofs.lemmas.Option.{slice_get-get_or}
use Rattle.model_device.specs.Vacating.{did, stopped}
use Rattle.node_replies.specs.Counts.{wrapped}
use Rattle.turn_table.specs.Passes.{KeepsNumbers}
use Rattle.live_node.specs.Lives.{Live, opening_at, IsPassAt}
use Rattle.live_node.specs.Vacates.{HasListRoom}
use Rattle.live_store.specs.Known.{ArePasses, KeepNumbers, known_of, known_each}
use Rattle.live_store.specs.Works.{Defragments}
use Rattle.live_store.proofs.Pairs.{pairs_length, pair_at, pair_set, pair_then, pairs_same}
use Rattle.live_store.proofs.Working.{WorkTurn, worked_all, turn_taken, turn_stops, turns_over}
use Rattle.live_store.proofs.each.defrag_each.Given.{Over}
use Rattle.live_store.proofs.each.defrag_each.Goals as goal
use Rattle.live_store.proofs.each.defrag_each.Goals.{After-defrag}

pub loop-device-init : goal.loop-device-init
loop-device-init g c = record { seated = c.requires.passes; numbers = pairs_same KeepsNumbers (λ pass. (refl, refl)) c.args.passes.now; room = refl; turns = (refl, refl) }

pub bounds-passes-device : goal.bounds-passes-device
bounds-passes-device g c =
    let many = pairs_length IsPassAt c.args.lives.now c.loop-device.passes c.loop-device.invariant.seated in
    let there = c.loop-device-test.true in
    omega (arith, many, there)

pub defrag-requires-clause-pass : goal.defrag-requires-clause-pass
defrag-requires-clause-pass g c =
    pair_at IsPassAt c.args.lives.now c.loop-device.passes c.loop-device.device c.index-lives-device.result (get_or c.loop-device.passes c.loop-device.device c.index-passes-device.result)
    c.loop-device.invariant.seated
    c.loop-device-test.true c.index-lives-device.is (ap (get_or c.loop-device.passes c.loop-device.device) c.index-passes-device.is)

pub defrag-requires-clause-room : goal.defrag-requires-clause-room
defrag-requires-clause-room g c =
    let there = slice_get-get_or c.args.lives.now c.loop-device.device c.index-lives-device.result c.loop-device-test.true ∙ ap (λ (x : Live g.row.D.Denot). Some x) (sym c.index-lives-device.is) in
    subst (HasListRoom (opening_at c.index-lives-device.result)) (sym c.loop-device.invariant.room) (c.requires.devices.room_is c.loop-device.device c.index-lives-device.result there)

-- behind a defragmentation

many : (g : Over) (c : After-defrag g) → length c.loop-device.passes ≡ length c.args.lives.now
many g c = pairs_length IsPassAt c.args.lives.now c.loop-device.passes c.loop-device.invariant.seated

within : (g : Over) (c : After-defrag g) → c.loop-device.device < length c.loop-device.passes
within g c = let all = many g c in let there = c.loop-device-test.true in omega (arith, all, there)

seated : (g : Over) (c : After-defrag g) → ArePasses c.args.lives.now (set c.loop-device.passes c.loop-device.device c.defrag.new.pass)
seated g c = pair_set IsPassAt c.args.lives.now c.loop-device.passes c.loop-device.device c.index-lives-device.result c.defrag.new.pass c.loop-device.invariant.seated c.loop-device-test.true
    c.index-lives-device.is c.defrag.ensures.pass

numbers : (g : Over) (c : After-defrag g) → KeepNumbers c.args.passes.now (set c.loop-device.passes c.loop-device.device c.defrag.new.pass)
numbers g c =
    let kept = c.defrag.ensures.numbers in
    pair_then KeepsNumbers c.args.passes.now c.loop-device.passes c.loop-device.device (get_or c.loop-device.passes c.loop-device.device c.index-passes-device.result) c.defrag.new.pass
    c.loop-device.invariant.numbers (within g c)
    (ap (get_or c.loop-device.passes c.loop-device.device) c.index-passes-device.is) (λ first before. (kept.0 ∙ before.0, kept.1 ∙ before.1))

pub returns-in-Err-clause-passes : goal.returns-in-Err-clause-passes
returns-in-Err-clause-passes g c = seated g (goal.at.returns-in-Err-clause-passes g c).After-defrag

pub returns-in-Err-clause-numbers : goal.returns-in-Err-clause-numbers
returns-in-Err-clause-numbers g c = numbers g (goal.at.returns-in-Err-clause-numbers g c).After-defrag

pub returns-in-Err-clause-defrags : goal.returns-in-Err-clause-defrags
returns-in-Err-clause-defrags g c =
    let e = c.in-Err.ensures {u = tt} in (
      stopped e.defrags.1.0,
      (e.defrags.1.0, e.defrags.1.1, refl),
      turn_stops c.args.lives.now c.args.passes.now c.loop-device.passes c.loop-device.device c.index-lives-device.result
          (get_or c.loop-device.passes c.loop-device.device c.index-passes-device.result) c.loop-device-test.true
          (pairs_length IsPassAt c.args.lives.now c.loop-device.passes c.loop-device.invariant.seated) c.index-lives-device.is
          (ap (get_or c.loop-device.passes c.loop-device.device) c.index-passes-device.is)
          (Defragments g.D.Disk.view) (0, 0) (c.loop-device.moved, c.loop-device.vacated) c.defrag.new.pass e.defrags.1.0 c.loop-device.invariant.turns
          (subst (Defragments g.D.Disk.view (known_of c.index-lives-device.result (get_or c.loop-device.passes c.loop-device.device c.index-passes-device.result))
          (known_of c.index-lives-device.result c.defrag.new.pass)) e.defrags.1.2 e.defrags.2),
    )

pub loop-device-preserved : goal.loop-device-preserved
loop-device-preserved g c =
    let e = c.in-Ok.ensures {u = tt} in
    let after = (goal.at.loop-device-preserved g c).After-defrag in
    record {
      seated = seated g after;
      numbers = numbers g after;
      room = e.room ∙ c.loop-device.invariant.room;
      turns = turn_taken c.args.lives.now c.args.passes.now c.loop-device.passes c.loop-device.device c.index-lives-device.result
          (get_or c.loop-device.passes c.loop-device.device c.index-passes-device.result) c.loop-device-test.true
          (pairs_length IsPassAt c.args.lives.now c.loop-device.passes c.loop-device.invariant.seated) c.index-lives-device.is
          (ap (get_or c.loop-device.passes c.loop-device.device) c.index-passes-device.is)
          (WorkTurn (Defragments g.D.Disk.view)) (0, 0) (c.loop-device.moved, c.loop-device.vacated) (wrapped c.loop-device.moved c.in-Ok.one.0, wrapped c.loop-device.vacated c.in-Ok.one.1)
          c.defrag.new.pass c.loop-device.invariant.turns (
            c.in-Ok.one.0,
            c.in-Ok.one.1,
            subst (Defragments g.D.Disk.view (known_of c.index-lives-device.result (get_or c.loop-device.passes c.loop-device.device c.index-passes-device.result))
                (known_of c.index-lives-device.result c.defrag.new.pass)) e.defrags.1 e.defrags.2,
            refl,
          );
    }

pub returns-clause-defrags : goal.returns-clause-defrags
returns-clause-defrags g c = (
  did c.loop-device.moved c.loop-device.vacated,
  refl,
  worked_all (Defragments g.D.Disk.view) (0, 0) (known_each c.args.lives.now c.args.passes.now) (known_each c.args.lives.now c.loop-device.passes) (c.loop-device.moved, c.loop-device.vacated)
      (turns_over (WorkTurn (Defragments g.D.Disk.view)) c.args.lives.now c.args.passes.now c.loop-device.passes c.loop-device.device (0, 0) (c.loop-device.moved, c.loop-device.vacated)
      (pairs_length IsPassAt c.args.lives.now c.loop-device.passes c.loop-device.invariant.seated) c.loop-device.invariant.turns
      (λ there. let over = c.loop-device-test.false in omega (arith, over, there))),
)
