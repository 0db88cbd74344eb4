use Rattle.std.proofs.Common.{inl, inr, ◌≡◌, ◌≢◌, ◌+◌, ◌<◌, ◌≤◌, ◌^◌, true, false, ℕ, [], refl, sym, ◌∙◌, ap, subst, arith}
use Rattle.std.specs.Prelude.{Option, Some, None, Result, Ok, Err, OnErr}
use Rattle.std.specs.List.{AllByRecursion}
use Rattle.std.proofs.lemmas.Result.{IfOk-from_err}
use Rattle.law_lists.proofs.Answers.{on_err}
use Rattle.model_faults.specs.Counts.{Rose}
use Rattle.model_device.specs.Legal.{flush_between}
use Rattle.disk_model.specs.Disk.{IsDisk}
use Rattle.disk_model.specs.declared.disk.DiskFault.{DiskFault}
use Rattle.block_shelf.specs.View.{ShelfView, is_unsealed}
use Rattle.block_shelf.specs.Flushes.{FirstLeaves, FirstStays}
use Rattle.block_shelf.proofs.Going.{goes_none}
use Rattle.shard_core.proofs.Later.{later_none, later_then, shape_then}
use Rattle.shard_core.proofs.FlushLoop.{Stepped, Fewer, fits_before, one_fewer, setup_stays, went_on, went_all, went_through, went_stopped, quiet_on, most_on}
use Rattle.shard_core.proofs.FlushLoop.{ends_on, all_gone, whole_still, stays_some, stays_quiet, where_err, rose_since}
use Rattle.block_shelf.proofs.Surely.{sure_none, sure_then}
use Rattle.shard_core.proofs.Keeping.{flushes_none, flushes_more, flushes_stopped, flushes_here}
use Rattle.shard_core.proofs.Failing.{by_error, may_then, none_then, none_still, flushed, stopped}
use Rattle.shard_core.proofs.flush.flush_up_to.Goals as goal

pub loop-number-init : goal.loop-number-init
loop-number-init g c =
    let old : ShelfView g.row.D.Denot = c.args.shelf.now in
    let now : IsDisk (g.D.Disk.view old.disk) = g.met.D.Disk.is_disk old.disk in
    record {
      few = inl refl;
      went = λ setup s is stands ends. record {
        steps = _;
        left = refl;
        counted = refl;
        goes = goes_none g.D.Disk.view setup old s now stands;
      };
      ends = λ ends. ends;
      most = λ most. most;
      whole = inl refl;
      quiet = λ quiet. quiet;
      sure = sure_none g.D.Disk.view old old refl;
      fails = none_still old old refl;
      kept = flushes_none old;
      later = later_none g.D.Disk.view old.disk now;
      honest = λ honest. honest;
      shape = record { geometry = refl; limits = refl; raid = refl };
    }

pub returns-in_err-number-clause-flushed : goal.returns-in_err-number-clause-flushed
returns-in_err-number-clause-flushed g c = λ setup s is stands ends.
    let old : ShelfView g.row.D.Denot = c.args.shelf.now in
    let mid : ShelfView g.row.D.Denot = c.loop-number.shelf in
    let new : ShelfView g.row.D.Denot = c.flush_step.new.self in
    let stepped : Stepped g.D.Disk.view (Err c.in_err-number.field-0.0) mid new =
    subst (λ (r : Result (Option ℕ) DiskFault). Stepped g.D.Disk.view r mid new) c.in_err-number.was c.flush_step.ensures.flushed in
    let stays : FirstStays mid new = subst (λ (r : Result (Option ℕ) DiskFault). OnErr r (FirstStays mid new)) c.in_err-number.was c.flush_step.ensures.left in
    let ended = went_stopped g.D.Disk.view setup c.args.last c.loop-number.count old mid new s
    (setup_stays setup old mid c.loop-number.invariant.shape is) (c.loop-number.invariant.went setup s is stands (record { right = ends })) c.flush_step.ensures.whole c.loop-number.invariant.honest
    c.in_err-number.field-0.0 stepped stays (c.loop-number.invariant.ends (record { right = ends })).right in
    (ended.0, where_err c.from_residual.result (flush_between 0 c.args.last s.book) ended.0 c.from_residual.ensures.0 ended.1, ended.2)

pub returns-in_err-number-clause-quiet : goal.returns-in_err-number-clause-quiet
returns-in_err-number-clause-quiet g c = λ quiet.
    let mid : ShelfView g.row.D.Denot = c.loop-number.shelf in
    let new : ShelfView g.row.D.Denot = c.flush_step.new.self in
    let stays : FirstStays mid new = subst (λ (r : Result (Option ℕ) DiskFault). OnErr r (FirstStays mid new)) c.in_err-number.was c.flush_step.ensures.left in
    (stays_quiet mid new stays (c.loop-number.invariant.quiet (record { none_filling = quiet }))).none_filling

pub returns-in_err-number-clause-left : goal.returns-in_err-number-clause-left
returns-in_err-number-clause-left g c =
    let mid : ShelfView g.row.D.Denot = c.loop-number.shelf in
    let new : ShelfView g.row.D.Denot = c.flush_step.new.self in
    let stays : FirstStays mid new = subst (λ (r : Result (Option ℕ) DiskFault). OnErr r (FirstStays mid new)) c.in_err-number.was c.flush_step.ensures.left in
    on_err c.from_residual.result (new.buffers ≢ []) (stays_some mid new stays)

pub returns-in_err-number-clause-whole : goal.returns-in_err-number-clause-whole
returns-in_err-number-clause-whole g c = whole_still g.D.Disk.view c.args.shelf.now c.loop-number.shelf c.loop-number.invariant.whole c.flush_step.ensures.whole

pub returns-in_err-number-clause-few : goal.returns-in_err-number-clause-few
returns-in_err-number-clause-few g c = IfOk-from_err c.from_residual.result (λ n. n < 2 ^ 60) c.from_residual.ensures.0

pub returns-in_err-number-clause-all : goal.returns-in_err-number-clause-all
returns-in_err-number-clause-all g c =
    IfOk-from_err c.from_residual.result (λ n. AllByRecursion (λ b. b.number ≤ c.args.last) c.args.shelf.now.buffers
    → AllByRecursion (λ b. is_unsealed b.phase ≡ true) c.flush_step.new.self.buffers) c.from_residual.ensures.0

pub returns-in_err-number-clause-cause : goal.returns-in_err-number-clause-cause
returns-in_err-number-clause-cause g c =
    let old : ShelfView g.row.D.Denot = c.args.shelf.now in
    let mid : ShelfView g.row.D.Denot = c.loop-number.shelf in
    let new : ShelfView g.row.D.Denot = c.flush_step.new.self in
    on_err c.from_residual.result (Rose (g.D.Disk.view old.disk).faults (g.D.Disk.view new.disk).faults)
    (rose_since (g.D.Disk.view old.disk).faults (g.D.Disk.view mid.disk).faults (g.D.Disk.view new.disk).faults c.loop-number.invariant.later.count c.in_err-number.ensures.cause)

pub returns-in_err-number-clause-later : goal.returns-in_err-number-clause-later
returns-in_err-number-clause-later g c = later_then g.D.Disk.view c.args.shelf.now.disk c.loop-number.shelf.disk c.flush_step.new.self.disk c.loop-number.invariant.later c.flush_step.ensures.later

pub returns-in_err-number-clause-honest : goal.returns-in_err-number-clause-honest
returns-in_err-number-clause-honest g c honest = c.flush_step.ensures.honest (c.loop-number.invariant.honest honest)

pub returns-in_err-number-clause-shape : goal.returns-in_err-number-clause-shape
returns-in_err-number-clause-shape g c = shape_then c.args.shelf.now c.loop-number.shelf c.flush_step.new.self c.loop-number.invariant.shape c.flush_step.ensures.shape

pub returns-in_err-number-clause-kept : goal.returns-in_err-number-clause-kept
returns-in_err-number-clause-kept g c =
    let mid : ShelfView g.row.D.Denot = c.loop-number.shelf in
    let new : ShelfView g.row.D.Denot = c.flush_step.new.self in
    flushes_stopped c.args.shelf.now mid new c.loop-number.invariant.kept (subst (λ (r : Result (Option ℕ) DiskFault). OnErr r (FirstStays mid new)) c.in_err-number.was c.flush_step.ensures.left)

-- ---- one more

pub loop-number-preserved : goal.loop-number-preserved
loop-number-preserved g c =
    let old : ShelfView g.row.D.Denot = c.args.shelf.now in
    let mid : ShelfView g.row.D.Denot = c.loop-number.shelf in
    let new : ShelfView g.row.D.Denot = c.flush_step.new.self in
    let is_some : c.flush_step.result ≡ Ok (Some c.in-Some.number) = c.in_ok-number.was ∙ ap (λ (o : Option ℕ). Ok o) c.in-Some.is in
    let stepped : Stepped g.D.Disk.view {E = DiskFault} (Ok (Some c.in-Some.number)) mid new =
    subst (λ (r : Result (Option ℕ) DiskFault). Stepped g.D.Disk.view r mid new) is_some c.flush_step.ensures.flushed in
    let leaves : FirstLeaves c.in-Some.number mid new = subst (λ (r : Result (Option ℕ) DiskFault). Fewer r mid new) is_some c.flush_step.ensures.first in
    let few = fits_before g.D.Disk.view c.loop-number.count mid c.flush_step.ensures.whole c.loop-number.invariant.few in
    let lower : c.in-Some.number < c.args.last = omega (arith, c.if-number-last.false) in
    record {
      few = inr (omega (arith, one_fewer leaves, few));
      went = λ setup s is stands ends. went_on g.D.Disk.view setup c.args.last c.loop-number.count old mid new s
          (setup_stays setup old mid c.loop-number.invariant.shape is) (c.loop-number.invariant.went setup s is stands ends) c.flush_step.ensures.whole c.loop-number.invariant.honest
          DiskFault c.in-Some.number stepped leaves (c.loop-number.invariant.ends ends).right;
      ends = λ ends. ends_on g.D.Disk.view c.args.last c.in-Some.number mid new c.flush_step.ensures.whole leaves lower (c.loop-number.invariant.ends ends);
      most = λ most. most_on g.D.Disk.view c.args.last c.in-Some.number mid new c.flush_step.ensures.whole leaves (c.loop-number.invariant.most most);
      whole = inr (whole_still g.D.Disk.view old mid c.loop-number.invariant.whole c.flush_step.ensures.whole);
      quiet = λ quiet. quiet_on c.in-Some.number mid new (c.loop-number.invariant.quiet quiet) leaves;
      sure = sure_then g.D.Disk.view old mid new c.loop-number.invariant.sure c.flush_step.ensures.sure;
      fails = none_then old mid new c.loop-number.invariant.fails (flushed c.in-Some.number mid new leaves);
      kept = flushes_more c.in-Some.number old mid new c.loop-number.invariant.kept leaves;
      later = later_then g.D.Disk.view old.disk mid.disk new.disk c.loop-number.invariant.later c.flush_step.ensures.later;
      honest = λ honest. c.flush_step.ensures.honest (c.loop-number.invariant.honest honest);
      shape = shape_then old mid new c.loop-number.invariant.shape c.flush_step.ensures.shape;
    }

-- ---- the last one

pub returns-then-number-last-clause-flushed : goal.returns-then-number-last-clause-flushed
returns-then-number-last-clause-flushed g c = λ setup s is stands ends.
    let old : ShelfView g.row.D.Denot = c.args.shelf.now in
    let mid : ShelfView g.row.D.Denot = c.loop-number.shelf in
    let new : ShelfView g.row.D.Denot = c.flush_step.new.self in
    let is_some : c.flush_step.result ≡ Ok (Some c.in-Some.number) = c.in_ok-number.was ∙ ap (λ (o : Option ℕ). Ok o) c.in-Some.is in
    let stepped : Stepped g.D.Disk.view {E = DiskFault} (Ok (Some c.in-Some.number)) mid new =
    subst (λ (r : Result (Option ℕ) DiskFault). Stepped g.D.Disk.view r mid new) is_some c.flush_step.ensures.flushed in
    let leaves : FirstLeaves c.in-Some.number mid new = subst (λ (r : Result (Option ℕ) DiskFault). Fewer r mid new) is_some c.flush_step.ensures.first in
    went_through g.D.Disk.view setup c.args.last (c.loop-number.count + 1) c.in-Some.number DiskFault old mid new s c.flush_step.ensures.whole leaves c.if-number-last.true
    (went_on g.D.Disk.view setup c.args.last c.loop-number.count old mid new s
    (setup_stays setup old mid c.loop-number.invariant.shape is) (c.loop-number.invariant.went setup s is stands (record { right = ends })) c.flush_step.ensures.whole c.loop-number.invariant.honest
    DiskFault c.in-Some.number stepped leaves (c.loop-number.invariant.ends (record { right = ends })).right)

pub returns-then-number-last-clause-all : goal.returns-then-number-last-clause-all
returns-then-number-last-clause-all g c = λ most.
    let mid : ShelfView g.row.D.Denot = c.loop-number.shelf in
    let new : ShelfView g.row.D.Denot = c.flush_step.new.self in
    let is_some : c.flush_step.result ≡ Ok (Some c.in-Some.number) = c.in_ok-number.was ∙ ap (λ (o : Option ℕ). Ok o) c.in-Some.is in
    let leaves : FirstLeaves c.in-Some.number mid new = subst (λ (r : Result (Option ℕ) DiskFault). Fewer r mid new) is_some c.flush_step.ensures.first in
    all_gone g.D.Disk.view c.args.last c.in-Some.number mid new c.flush_step.ensures.whole leaves c.if-number-last.true (c.loop-number.invariant.most (record { most = most }))

pub returns-then-number-last-clause-quiet : goal.returns-then-number-last-clause-quiet
returns-then-number-last-clause-quiet g c = λ quiet.
    let mid : ShelfView g.row.D.Denot = c.loop-number.shelf in
    let new : ShelfView g.row.D.Denot = c.flush_step.new.self in
    let is_some : c.flush_step.result ≡ Ok (Some c.in-Some.number) = c.in_ok-number.was ∙ ap (λ (o : Option ℕ). Ok o) c.in-Some.is in
    let leaves : FirstLeaves c.in-Some.number mid new = subst (λ (r : Result (Option ℕ) DiskFault). Fewer r mid new) is_some c.flush_step.ensures.first in
    (quiet_on c.in-Some.number mid new (c.loop-number.invariant.quiet (record { none_filling = quiet })) leaves).none_filling

pub returns-then-number-last-clause-whole : goal.returns-then-number-last-clause-whole
returns-then-number-last-clause-whole g c = whole_still g.D.Disk.view c.args.shelf.now c.loop-number.shelf c.loop-number.invariant.whole c.flush_step.ensures.whole

pub returns-then-number-last-clause-few : goal.returns-then-number-last-clause-few
returns-then-number-last-clause-few g c =
    let few = fits_before g.D.Disk.view c.loop-number.count c.loop-number.shelf c.flush_step.ensures.whole c.loop-number.invariant.few in
    omega (arith, few)

pub returns-then-number-last-clause-left : goal.returns-then-number-last-clause-left
returns-then-number-last-clause-left g c = tt

pub returns-then-number-last-clause-cause : goal.returns-then-number-last-clause-cause
returns-then-number-last-clause-cause g c = tt

pub returns-then-number-last-clause-later : goal.returns-then-number-last-clause-later
returns-then-number-last-clause-later g c = later_then g.D.Disk.view c.args.shelf.now.disk c.loop-number.shelf.disk c.flush_step.new.self.disk c.loop-number.invariant.later c.flush_step.ensures.later

pub returns-then-number-last-clause-honest : goal.returns-then-number-last-clause-honest
returns-then-number-last-clause-honest g c honest = c.flush_step.ensures.honest (c.loop-number.invariant.honest honest)

pub returns-then-number-last-clause-shape : goal.returns-then-number-last-clause-shape
returns-then-number-last-clause-shape g c = shape_then c.args.shelf.now c.loop-number.shelf c.flush_step.new.self c.loop-number.invariant.shape c.flush_step.ensures.shape

pub returns-then-number-last-clause-kept : goal.returns-then-number-last-clause-kept
returns-then-number-last-clause-kept g c =
    let mid : ShelfView g.row.D.Denot = c.loop-number.shelf in
    let new : ShelfView g.row.D.Denot = c.flush_step.new.self in
    let is_some : c.flush_step.result ≡ Ok (Some c.in-Some.number) = c.in_ok-number.was ∙ ap (λ (o : Option ℕ). Ok o) c.in-Some.is in
    let leaves : FirstLeaves c.in-Some.number mid new = subst (λ (r : Result (Option ℕ) DiskFault). Fewer r mid new) is_some c.flush_step.ensures.first in
    flushes_here c.args.shelf.now new new (flushes_more c.in-Some.number c.args.shelf.now mid new c.loop-number.invariant.kept leaves) refl

-- ---- no more

pub returns-in_default-clause-flushed : goal.returns-in_default-clause-flushed
returns-in_default-clause-flushed g c = λ setup s is stands ends.
    let old : ShelfView g.row.D.Denot = c.args.shelf.now in
    let mid : ShelfView g.row.D.Denot = c.loop-number.shelf in
    let new : ShelfView g.row.D.Denot = c.flush_step.new.self in
    let is_none : c.flush_step.result ≡ Ok None = c.in_ok-number.was ∙ ap (λ (o : Option ℕ). Ok o) c.in_default.is in
    let stepped : Stepped g.D.Disk.view {E = DiskFault} (Ok None) mid new =
    subst (λ (r : Result (Option ℕ) DiskFault). Stepped g.D.Disk.view r mid new) is_none c.flush_step.ensures.flushed in
    went_all g.D.Disk.view setup c.args.last c.loop-number.count old mid new s
    (setup_stays setup old mid c.loop-number.invariant.shape is) (c.loop-number.invariant.went setup s is stands (record { right = ends })) c.flush_step.ensures.whole c.loop-number.invariant.honest
    DiskFault stepped (c.flush_step.ensures.none is_none)

pub returns-in_default-clause-whole : goal.returns-in_default-clause-whole
returns-in_default-clause-whole g c = whole_still g.D.Disk.view c.args.shelf.now c.loop-number.shelf c.loop-number.invariant.whole c.flush_step.ensures.whole

pub returns-in_default-clause-few : goal.returns-in_default-clause-few
returns-in_default-clause-few g c =
    let few = fits_before g.D.Disk.view c.loop-number.count c.loop-number.shelf c.flush_step.ensures.whole c.loop-number.invariant.few in
    omega (arith, few)

pub returns-in_default-clause-all : goal.returns-in_default-clause-all
returns-in_default-clause-all g c = λ most.
    let is_none : c.flush_step.result ≡ Ok None = c.in_ok-number.was ∙ ap (λ (o : Option ℕ). Ok o) c.in_default.is in
    let same : c.flush_step.new.self ≡ c.loop-number.shelf = subst (λ (r : Result (Option ℕ) DiskFault). Fewer r c.loop-number.shelf c.flush_step.new.self) is_none c.flush_step.ensures.first in
    subst (λ (v : ShelfView g.row.D.Denot). AllByRecursion (λ b. is_unsealed b.phase ≡ true) v.buffers) (sym same) (c.flush_step.ensures.none is_none)

pub returns-in_default-clause-quiet : goal.returns-in_default-clause-quiet
returns-in_default-clause-quiet g c = λ quiet.
    let is_none : c.flush_step.result ≡ Ok None = c.in_ok-number.was ∙ ap (λ (o : Option ℕ). Ok o) c.in_default.is in
    let same : c.flush_step.new.self ≡ c.loop-number.shelf = subst (λ (r : Result (Option ℕ) DiskFault). Fewer r c.loop-number.shelf c.flush_step.new.self) is_none c.flush_step.ensures.first in
    subst (λ (v : ShelfView g.row.D.Denot). AllByRecursion (λ b. is_unsealed b.phase ≡ false) v.buffers) (sym same) (c.loop-number.invariant.quiet (record { none_filling = quiet })).none_filling

pub returns-in_default-clause-left : goal.returns-in_default-clause-left
returns-in_default-clause-left g c = tt

pub returns-in_default-clause-cause : goal.returns-in_default-clause-cause
returns-in_default-clause-cause g c = tt

pub returns-in_default-clause-later : goal.returns-in_default-clause-later
returns-in_default-clause-later g c = later_then g.D.Disk.view c.args.shelf.now.disk c.loop-number.shelf.disk c.flush_step.new.self.disk c.loop-number.invariant.later c.flush_step.ensures.later

pub returns-in_default-clause-honest : goal.returns-in_default-clause-honest
returns-in_default-clause-honest g c honest = c.flush_step.ensures.honest (c.loop-number.invariant.honest honest)

pub returns-in_default-clause-shape : goal.returns-in_default-clause-shape
returns-in_default-clause-shape g c = shape_then c.args.shelf.now c.loop-number.shelf c.flush_step.new.self c.loop-number.invariant.shape c.flush_step.ensures.shape

-- ---- the gates

pub returns-in_err-number-clause-sure : goal.returns-in_err-number-clause-sure
returns-in_err-number-clause-sure g c = sure_then g.D.Disk.view c.args.shelf.now c.loop-number.shelf c.flush_step.new.self c.loop-number.invariant.sure c.flush_step.ensures.sure

pub returns-then-number-last-clause-sure : goal.returns-then-number-last-clause-sure
returns-then-number-last-clause-sure g c = sure_then g.D.Disk.view c.args.shelf.now c.loop-number.shelf c.flush_step.new.self c.loop-number.invariant.sure c.flush_step.ensures.sure

pub returns-in_default-clause-sure : goal.returns-in_default-clause-sure
returns-in_default-clause-sure g c = sure_then g.D.Disk.view c.args.shelf.now c.loop-number.shelf c.flush_step.new.self c.loop-number.invariant.sure c.flush_step.ensures.sure

pub returns-in_default-clause-kept : goal.returns-in_default-clause-kept
returns-in_default-clause-kept g c =
    let is_none : c.flush_step.result ≡ Ok None = c.in_ok-number.was ∙ ap (λ (o : Option ℕ). Ok o) c.in_default.is in
    let same : c.flush_step.new.self ≡ c.loop-number.shelf = subst (λ (r : Result (Option ℕ) DiskFault). Fewer r c.loop-number.shelf c.flush_step.new.self) is_none c.flush_step.ensures.first in
    flushes_here c.args.shelf.now c.loop-number.shelf c.flush_step.new.self c.loop-number.invariant.kept same

-- ---- which gates fail

pub returns-in_err-number-clause-fails : goal.returns-in_err-number-clause-fails
returns-in_err-number-clause-fails g c =
    let stays : FirstStays c.loop-number.shelf c.flush_step.new.self = subst (λ (r : Result (Option ℕ) DiskFault). OnErr r (FirstStays c.loop-number.shelf c.flush_step.new.self)) c.in_err-number.was c.flush_step.ensures.left in
    by_error c.from_residual.result c.args.shelf.now c.flush_step.new.self c.from_residual.ensures.0 (may_then c.args.shelf.now c.loop-number.shelf c.flush_step.new.self c.loop-number.invariant.fails (stopped c.loop-number.shelf c.flush_step.new.self stays))

pub returns-then-number-last-clause-fails : goal.returns-then-number-last-clause-fails
returns-then-number-last-clause-fails g c =
    let is_some : c.flush_step.result ≡ Ok (Some c.in-Some.number) = c.in_ok-number.was ∙ ap (λ (o : Option ℕ). Ok o) c.in-Some.is in
    let leaves : FirstLeaves c.in-Some.number c.loop-number.shelf c.flush_step.new.self = subst (λ (r : Result (Option ℕ) DiskFault). Fewer r c.loop-number.shelf c.flush_step.new.self) is_some c.flush_step.ensures.first in
    none_then c.args.shelf.now c.loop-number.shelf c.flush_step.new.self c.loop-number.invariant.fails (flushed c.in-Some.number c.loop-number.shelf c.flush_step.new.self leaves)

pub returns-in_default-clause-fails : goal.returns-in_default-clause-fails
returns-in_default-clause-fails g c =
    let is_none : c.flush_step.result ≡ Ok None = c.in_ok-number.was ∙ ap (λ (o : Option ℕ). Ok o) c.in_default.is in
    let same : c.flush_step.new.self ≡ c.loop-number.shelf = subst (λ (r : Result (Option ℕ) DiskFault). Fewer r c.loop-number.shelf c.flush_step.new.self) is_none c.flush_step.ensures.first in
    none_then c.args.shelf.now c.loop-number.shelf c.flush_step.new.self c.loop-number.invariant.fails (none_still c.loop-number.shelf c.flush_step.new.self same)
