-- What each device makes in a call is what the node makes: the events of all, one device after another.
use Rattle.std.proofs.Common.{◌≡◌, ℕ, zero, suc, Bool, List, [], ◌∷◌, length, set, refl, sym, ap, subst}
use Rattle.std.specs.Prelude.{Some, slice_get}
use Rattle.disk_model.specs.Disk.{DiskView, IsDisk}
use Rattle.disk_model.specs.Runs.{OneOf, Leaves, leaves_none}
use Rattle.model_device.specs.Device.{State}
use Rattle.model_device.specs.Events.{Event, states_of}
use Rattle.law_start.specs.Surviving.{Survives}
use Rattle.law_images.proofs.Held.{held_survives}
use Rattle.block_shelf.specs.View.{records_of, gate_at}
use Rattle.shard_core.specs.View.{ShardView, setup_of}
use Rattle.shard_core.specs.Stands.{IsSafe}
use Rattle.model_node.specs.Commands.{Slot, Node, slot_after_all, node_after, IsLegalOn}
use Rattle.model_node.specs.Run.{states_while}
use Rattle.model_node.specs.Meaning.{LeavesEach, SurvivesOne}
use Rattle.core_run.specs.Views.{disks_served, view_at, nowhere, unknown}
use Rattle.core_run.specs.Standing.{Each}
use Rattle.core_run.proofs.Places.{events_of, slots_after, IsLegalFrom, node_after_of, legal_of, states_here, states_there, nones, only_at}

-- where there is no disk, nothing is known
pub is_nowhere : IsDisk nowhere
is_nowhere = record { seen_whole = λ told. absurd told; images_whole = λ t c left. absurd left; now_alone = λ c left. absurd left; now_had = tt; now_since = λ t c had left. absurd left }

pub nothing_left : {T : Type 0} (old new : T) (node : Node) (states : ℕ → List State) → LeavesEach unknown node states old new
nothing_left old new node states = λ device. record {
  time = record { started = tt; stays = λ t h. tt; only = λ t c h left. absurd left; kept = λ t c h left. absurd left; added = λ t c h left. absurd left };
  each = λ c left. absurd left;
}

-- each image that the disk of a safe device may leave survives its state
pub safe_survives : {D : Type 0} (view : D → DiskView) (shard : ShardView D) (s : State) → IsSafe view shard s → (image : List ℕ) → (view shard.shelf.disk).may_leave image
    → Survives (setup_of shard) s image
safe_survives view shard s safe image left =
    held_survives (setup_of shard) shard.shelf.geometry s (records_of shard.shelf.buffers) (gate_at shard.shelf.gates) (view shard.shelf.disk).may_leave safe.safe.held image left

-- One device makes these events from where it stood, and stands after them.
pub record Made {S : Type 0} (told : Bool) (Stands : S → Slot → Type 0) (old new : S) (slot : Slot) (mine : List Event) : Type 0 where
  pub legal : IsLegalFrom told slot mine
  pub stands : Stands new (slot_after_all mine slot)

-- and meanwhile a crash leaves what survives a state on the way
abbrev pub LeftOn : {D : Type 0} → (view : D → DiskView) → (old new : ShardView D) → Slot → List Event → Type 0
LeftOn view old new slot mine = Leaves (OneOf (Survives slot.setup) (states_of slot.setup mine slot.state)) (view old.shelf.disk) (view new.shelf.disk)

-- It holds of each device: what was before and after, the device of the model, and its own events.
abbrev pub Along : {S : Type 0} → (S → S → Slot → List Event → Type 0) → (olds news : List S) → Node → List (List Event) → Type 0
Along Holds [] news node mines = (news ≡ []) × (node ≡ []) × (mines ≡ [])
Along Holds (old ∷ olds) [] node mines = ⊥
Along Holds (old ∷ olds) (new ∷ news) [] mines = ⊥
Along Holds (old ∷ olds) (new ∷ news) (slot ∷ node) [] = ⊥
Along Holds (old ∷ olds) (new ∷ news) (slot ∷ node) (mine ∷ mines) = Holds old new slot mine × Along Holds olds news node mines

module _ {S : Type 0} (told : Bool) (Stands : S → Slot → Type 0) where
  -- the events may follow one another
  pub along_legal : (olds news : List S) (node : Node) (mines : List (List Event)) → Along (Made told Stands) olds news node mines → IsLegalOn told node (events_of mines)
  along_legal [] news node mines along = subst (λ (m : List (List Event)). IsLegalOn told node (events_of m)) (sym along.2) tt
  along_legal (old ∷ olds) [] node mines along = absurd along
  along_legal (old ∷ olds) (new ∷ news) [] mines along = absurd along
  along_legal (old ∷ olds) (new ∷ news) (slot ∷ node) [] along = absurd along
  along_legal (old ∷ olds) (new ∷ news) (slot ∷ node) (mine ∷ mines) along = legal_of told mine mines slot node along.0.legal (along_legal olds news node mines along.1)

  -- and the devices stand after them
  along_stands : (olds news : List S) (node : Node) (mines : List (List Event)) → Along (Made told Stands) olds news node mines → Each Stands news (slots_after mines node)
  along_stands [] news node mines along =
      subst (λ (m : List (List Event)). Each Stands news (slots_after m node)) (sym along.2) (subst (λ (n : List S). Each Stands n node) (sym along.0) along.1)
  along_stands (old ∷ olds) [] node mines along = absurd along
  along_stands (old ∷ olds) (new ∷ news) [] mines along = absurd along
  along_stands (old ∷ olds) (new ∷ news) (slot ∷ node) [] along = absurd along
  along_stands (old ∷ olds) (new ∷ news) (slot ∷ node) (mine ∷ mines) along = (along.0.stands, along_stands olds news node mines along.1)

  pub along_after : (olds news : List S) (node : Node) (mines : List (List Event)) → Along (Made told Stands) olds news node mines → Each Stands news (node_after (events_of mines) node)
  along_after olds news node mines along = subst (Each Stands news) (sym (node_after_of mines node)) (along_stands olds news node mines along)

-- each image of a device's disk survives a state on its way
module _ {D : Type 0} (view : D → DiskView) where
  abbrev Left : (olds news : List (ShardView D)) → Node → List (List Event) → ℕ → Type 0
  Left olds news node mines device =
      Leaves (SurvivesOne device node (states_while device (events_of mines) node)) (view_at view (disks_served olds) device) (view_at view (disks_served news) device)

  pub along_left : (olds news : List (ShardView D)) (node : Node) (mines : List (List Event)) → Along (LeftOn view) olds news node mines → (device : ℕ) → Left olds news node mines device
  along_left [] news node mines along device =
      subst (λ (n : List (ShardView D)). Left [] n node mines device) (sym along.0)
      (leaves_none (SurvivesOne device node (states_while device (events_of mines) node)) nowhere is_nowhere (λ c left. absurd left))
  along_left (old ∷ olds) [] node mines along device = absurd along
  along_left (old ∷ olds) (new ∷ news) [] mines along device = absurd along
  along_left (old ∷ olds) (new ∷ news) (slot ∷ node) [] along device = absurd along
  along_left (old ∷ olds) (new ∷ news) (slot ∷ node) (mine ∷ mines) along zero =
      subst (λ (states : List State). Leaves (OneOf (Survives slot.setup) states) (view old.shelf.disk) (view new.shelf.disk)) (sym (states_here mine mines slot node)) along.0
  along_left (old ∷ olds) (new ∷ news) (slot ∷ node) (mine ∷ mines) along (suc device) =
      subst (λ (states : List State). Leaves (SurvivesOne device node states) (view_at view (disks_served olds) device) (view_at view (disks_served news) device))
      (sym (states_there device mine mines slot node)) (along_left olds news node mines along.1 device)

-- ---- one device among those that do nothing

module _ {S : Type 0} (Holds : S → S → Slot → List Event → Type 0) (Stands : S → Slot → Type 0) (rests : (shard : S) (slot : Slot) → Stands shard slot → Holds shard shard slot []) where
  pub along_none : (shards : List S) (node : Node) → Each Stands shards node → Along Holds shards shards node (nones (length shards))
  along_none [] node each = (refl, each, refl)
  along_none (shard ∷ shards) [] each = absurd each
  along_none (shard ∷ shards) (slot ∷ node) each = (rests shard slot each.0, along_none shards node each.1)

  -- the device at a place has these events, and no other has any
  pub along_one : (shards : List S) (node : Node) (place : ℕ) (old new : S) (mine : List Event) → Each Stands shards node → slice_get shards place ≡ Some old
      → ((slot : Slot) → slice_get node place ≡ Some slot → Stands old slot → Holds old new slot mine) → Along Holds shards (set shards place new) node (only_at place (length shards) mine)
  along_one [] node place old new mine each there makes = cc
  along_one (shard ∷ shards) [] place old new mine each there makes = absurd each
  along_one (shard ∷ shards) (slot ∷ node) zero old new mine each there makes =
      let same : shard ≡ old = cc in
      (subst (λ (s : S). Holds s new slot mine) (sym same) (makes slot refl (subst (λ (s : S). Stands s slot) same each.0)), along_none shards node each.1)
  along_one (shard ∷ shards) (slot ∷ node) (suc place) old new mine each there makes =
      (rests shard slot each.0, along_one shards node place old new mine each.1 there makes)

-- where there is a shard there is a device of the model
pub slot_at : {S : Type 0} (Stands : S → Slot → Type 0) (shards : List S) (node : Node) (place : ℕ) (shard : S) → Each Stands shards node → slice_get shards place ≡ Some shard
    → (slot : Slot) × (slice_get node place ≡ Some slot) × Stands shard slot
slot_at Stands [] node place shard each there = cc
slot_at Stands (x ∷ shards) [] place shard each there = absurd each
slot_at Stands (x ∷ shards) (slot ∷ node) zero shard each there = let same : x ≡ shard = cc in (slot, refl, subst (λ s. Stands s slot) same each.0)
slot_at Stands (x ∷ shards) (slot ∷ node) (suc place) shard each there = slot_at Stands shards node place shard each.1 there

pub each_length : {S : Type 0} (Stands : S → Slot → Type 0) (shards : List S) (node : Node) → Each Stands shards node → length node ≡ length shards
each_length Stands [] node each = ap length each
each_length Stands (x ∷ shards) [] each = absurd each
each_length Stands (x ∷ shards) (slot ∷ node) each = ap suc (each_length Stands shards node each.1)

pub each_more : {S : Type 0} (P Q : S → Slot → Type 0) → ((shard : S) (slot : Slot) → P shard slot → Q shard slot) → (shards : List S) (node : Node) → Each P shards node → Each Q shards node
each_more P Q more [] node each = each
each_more P Q more (x ∷ shards) [] each = absurd each
each_more P Q more (x ∷ shards) (slot ∷ node) each = (more x slot each.0, each_more P Q more shards node each.1)
