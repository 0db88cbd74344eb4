-- A raid that begins behind a look at the numbers.
use Rattle.std.proofs.Common.{◌≡◌, ℕ, false, [], inl, inr, refl, sym, ap, ◌∙◌}
use Rattle.disk_model.specs.Disk.{DiskView}
use Rattle.rec_format.specs.declared.entry.Counts.{Counts}
use Rattle.model_device.specs.Device.{State}
use Rattle.model_device.specs.Events.{begin_call, raid_numbered}
use Rattle.shard_core.specs.Numbers.{counts_of}
use Rattle.shard_raid.specs.Raids.{number_of}
use Rattle.node_workers.specs.declared.chore.Did.{Did}
use Rattle.node_workers.specs.declared.chore.Did.TheVariants.{Idle}
use Rattle.live_node.specs.Opening.{Opening, state_at}
use Rattle.live_node.specs.Fits.{Is}
use Rattle.live_node.specs.Calls.{LiveView, seen_by, IsRight, AnswersOnce}
use Rattle.live_node.proofs.Right.{prefix_here, seen_begins, answers_behind}
use Rattle.live_chores.specs.Raids.{Raiding, is_resting, HasNoTombs, did_begin, StartsRaid}
use Rattle.live_chores.proofs.Fresh.{fresh_end}

pub no_tombs : (counts : Counts) (s : State) → counts ≡ counts_of s → counts.tombstones ≡ 0 → counts.covered ≡ 0 → HasNoTombs s
no_tombs counts s are tombstones covered = (sym (ap (λ (k : Counts). k.tombstones) are) ∙ tombstones, sym (ap (λ (k : Counts). k.covered) are) ∙ covered)

module _ {D : Type 0} (view : D → DiskView) (o : Opening D) (u v : LiveView D) (looked : IsRight view o u v []) (age now : ℕ) (old : Raiding) (awake : is_resting age old.ended now ≡ false) where
  -- the look shows nothing that a raid may take
  pub finds_none : HasNoTombs (state_at o (seen_by v)) → StartsRaid view o u v age now old Idle old
  finds_none nothing = inr (inl (record {
    awake = awake;
    right = looked;
    nothing = (seen_by v, fresh_end u v v (seen_begins u v looked.seen) (prefix_here (seen_by v)), nothing);
    came = refl;
    same = refl;
  }))

  -- it shows something, and a raid is begun in the event behind it
  pub begins_behind : (w : LiveView D) (did : Did) (new : Raiding) → (HasNoTombs (state_at o (seen_by v)) → ⊥)
      → AnswersOnce view o v w begin_call (raid_numbered (number_of new.raid)) → did ≡ did_begin new.raid → new.ended ≡ old.ended → StartsRaid view o u w age now old did new
  begins_behind w did new something by came ended = inr (inr (record {
    awake = awake;
    something = (seen_by v, fresh_end u v w (seen_begins u v looked.seen) (seen_begins v w by.right.seen), something);
    once = (answers_behind view o u v w (Is begin_call (λ a. a ≡ raid_numbered (number_of new.raid))) looked by).0;
    came = came;
    ended = ended;
  }))
