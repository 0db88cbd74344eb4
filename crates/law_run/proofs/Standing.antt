-- A node that stands for one of the model, device by device; and one that halted stands for none.
use Rattle.std.proofs.Common.{◌≡◌, ℕ, zero, suc, List, [], ◌∷◌, length, sym, ◌∙◌, ap, subst}
use Rattle.std.specs.Prelude.{Some, None}
use Rattle.disk_model.specs.Disk.{DiskView}
use Rattle.model_device.specs.Book.{Setup}
use Rattle.law_start.specs.Surviving.{Survives}
use Rattle.cold_scan.specs.declared.header.StartCause.{StartCause}
use Rattle.model_node.specs.Commands.{Slot, Node}
use Rattle.model_node.specs.Outside.{counts_of}
use Rattle.model_node.specs.Headline.{On}
use Rattle.shard_core.specs.View.{ShardView}
use Rattle.core_run.proofs.Making.{safe_survives}
use Rattle.core_run.specs.Views.{NodeView, serving, halted, disks_served, view_at, faults_of}
use Rattle.core_run.specs.Standing.{StandsOn, StandsSafelyOn, Each}

-- ---- which node it is

pub serves_or_halts : {D : Type 0} (shards : List (ShardView D)) (refused : ℕ × StartCause) (disks : List D) → serving shards ≡ halted refused disks → ⊥
serves_or_halts {D} shards refused disks same = let e : None ≡ Some refused = ap (λ (n : NodeView D). n.refused) same in cc

-- what a node halted with
pub one_refusal : {D : Type 0} (a b : ℕ × StartCause) (disks others : List D) → halted a disks ≡ halted b others → a ≡ b
one_refusal {D} a b disks others same = let e : Some a ≡ Some b = ap (λ (n : NodeView D). n.refused) same in cc

-- ---- device by device

pub each_count : {S : Type 0} (Holds : S → Slot → Type 0) (shards : List S) (node : Node) → Each Holds shards node → length node ≡ length shards
each_count Holds [] node each = ap length each
each_count Holds (shard ∷ shards) [] each = absurd each
each_count Holds (shard ∷ shards) (slot ∷ node) each = ap (λ (n : ℕ). suc n) (each_count Holds shards node each.1)

module _ {D : Type 0} (view : D → DiskView) where
  -- what stands safely stands
  pub each_stands : (shards : List (ShardView D)) (node : Node) → Each (StandsSafelyOn view) shards node → Each (StandsOn view) shards node
  each_stands [] node each = each
  each_stands (shard ∷ shards) [] each = absurd each
  each_stands (shard ∷ shards) (slot ∷ node) each = (each.0.stands, each_stands shards node each.1)

  -- the counts are those of the disks
  pub each_counted : (shards : List (ShardView D)) (node : Node) → Each (StandsOn view) shards node → counts_of node ≡ faults_of view (disks_served shards)
  each_counted [] node each = ap counts_of each
  each_counted (shard ∷ shards) [] each = absurd each
  each_counted (shard ∷ shards) (slot ∷ node) each =
      ap (λ (n : ℕ). n ∷ counts_of node) each.0.faults_is ∙ ap (λ (counts : List ℕ). (view shard.shelf.disk).faults ∷ counts) (each_counted shards node each.1)

  -- an image that the disk of a safe device may leave survives its state
  pub slot_survives : (shard : ShardView D) (slot : Slot) → StandsSafelyOn view shard slot → (image : List ℕ) → (view shard.shelf.disk).may_leave image → Survives slot.setup slot.state image
  slot_survives shard slot stands image left =
      subst (λ (setup : Setup). Survives setup slot.state image) (sym stands.stands.setup_is)
      (safe_survives view shard slot.state stands.safe image left)

  pub survives_at : (shards : List (ShardView D)) (node : Node) → Each (StandsSafelyOn view) shards node → (device : ℕ) (image : List ℕ) → (view_at view (disks_served shards) device).may_leave image
      → On node device (λ slot. Survives slot.setup slot.state image)
  survives_at [] node each device image left = absurd left
  survives_at (shard ∷ shards) [] each device image left = absurd each
  survives_at (shard ∷ shards) (slot ∷ node) each zero image left = slot_survives shard slot each.0 image left
  survives_at (shard ∷ shards) (slot ∷ node) each (suc device) image left = survives_at shards node each.1 device image left
