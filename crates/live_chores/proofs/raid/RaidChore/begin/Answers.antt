use Rattle.std.proofs.Common.{refl, sym, ap, ◌∙◌, arith}
use Rattle.rec_format.specs.declared.entry.Counts.{Counts}
use Rattle.node_workers.specs.declared.chore.Did.TheVariants.{Worked, Idle}
use Rattle.turn_table.specs.Passes.{view}
use Rattle.live_node.specs.Opening.{state_at}
use Rattle.live_node.specs.Calls.{seen_by}
use Rattle.live_chores.specs.Stations.{opened_at, known_at}
use Rattle.live_chores.specs.Raids.{raider, rest_at, raiding_of, did_begin}
use Rattle.live_chores.proofs.Raiding.{no_tombs, finds_none, begins_behind}
use Rattle.live_chores.proofs.raid.RaidChore.begin.Goals as goal
use Rattle.live_chores.proofs.raid.RaidChore.begin.Goals.{else-counts-eq0-via-then-counts-eq0+else-counts-eq0-2, else-counts-eq0-via-else-counts-eq0}

pub returns-then-counts-eq0-2-clause-starts : goal.returns-then-counts-eq0-2-clause-starts
returns-then-counts-eq0-2-clause-starts g c =
    let was = c.args.self.now in
    finds_none g.D.Disk.view (opened_at (raider was)) (known_at (raider was)) (view c.counts-counts.new.pass) c.counts-counts.ensures.right
    (rest_at (raider was)) c.args.now (raiding_of was)
    (sym c.is_resting.ensures ∙ c.if-is_resting.false)
    (no_tombs c.counts-counts.result (state_at (opened_at (raider was)) (seen_by (view c.counts-counts.new.pass))) c.counts-counts.ensures.answer c.if-counts-eq0.true c.if-counts-eq0-2.true)

pub returns-in-Some-clause-starts : goal.returns-in-Some-clause-starts
returns-in-Some-clause-starts g c =
    let was = c.args.self.now in
    begins_behind g.D.Disk.view (opened_at (raider was)) (known_at (raider was)) (view c.counts-counts.new.pass) c.counts-counts.ensures.right
    (rest_at (raider was)) c.args.now (raiding_of was)
    (sym c.is_resting.ensures ∙ c.if-is_resting.false) (view c.raid_begin-self.new.pass) Worked (record { raid = c.raid_begin-self.result; ended = was.ended })
    (λ none. elim c.else-counts-eq0.branch [
      | else-counts-eq0-via-then-counts-eq0+else-counts-eq0-2 w ↦
          let is = ap (λ (k : Counts). k.covered) c.counts-counts.ensures.answer ∙ none.1 in
          let some = w.if-counts-eq0-2.false in
          absurd (omega (arith, is, some))
      | else-counts-eq0-via-else-counts-eq0 w ↦
          let is = ap (λ (k : Counts). k.tombstones) c.counts-counts.ensures.answer ∙ none.0 in
          let some = w.if-counts-eq0.false in
          absurd (omega (arith, is, some))
    ])
    c.raid_begin-self.ensures.once (sym (ap did_begin c.in-Some.is)) refl

pub returns-in-None-clause-starts : goal.returns-in-None-clause-starts
returns-in-None-clause-starts g c =
    let was = c.args.self.now in
    begins_behind g.D.Disk.view (opened_at (raider was)) (known_at (raider was)) (view c.counts-counts.new.pass) c.counts-counts.ensures.right
    (rest_at (raider was)) c.args.now (raiding_of was)
    (sym c.is_resting.ensures ∙ c.if-is_resting.false) (view c.raid_begin-self.new.pass) Idle (record { raid = c.raid_begin-self.result; ended = was.ended })
    (λ none. elim c.else-counts-eq0.branch [
      | else-counts-eq0-via-then-counts-eq0+else-counts-eq0-2 w ↦
          let is = ap (λ (k : Counts). k.covered) c.counts-counts.ensures.answer ∙ none.1 in
          let some = w.if-counts-eq0-2.false in
          absurd (omega (arith, is, some))
      | else-counts-eq0-via-else-counts-eq0 w ↦
          let is = ap (λ (k : Counts). k.tombstones) c.counts-counts.ensures.answer ∙ none.0 in
          let some = w.if-counts-eq0.false in
          absurd (omega (arith, is, some))
    ])
    c.raid_begin-self.ensures.once (sym (ap did_begin c.in-None.is)) refl
