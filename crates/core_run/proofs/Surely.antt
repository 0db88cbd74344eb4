-- Since when no gate of a device is unsure: behind a start, and through the calls of all devices.
use Rattle.std.proofs.Common.{◌≡◌, ◌⊎◌, inl, inr, ℕ, zero, suc, ◌+◌, List, [], ◌∷◌, length, set, sym, subst, arith}
use Rattle.std.proofs.Math.Nat.{le_trans}
use Rattle.std.specs.Prelude.{Some, Result, Ok, Err, slice_get}
use Rattle.model_faults.specs.Counts.{Rose}
use Rattle.disk_model.specs.Disk.{DiskView}
use Rattle.block_shelf.specs.View.{AreSure}
use Rattle.block_shelf.proofs.Surely.{rose_first, rose_then}
use Rattle.shard_core.specs.declared.settings.Settings.{Settings}
use Rattle.shard_core.specs.View.{ShardView}
use Rattle.core_run.specs.Views.{serving, disks_served, faults_of}
use Rattle.core_run.specs.Starts.{StartsEach}
use Rattle.core_run.specs.Sure.{IsSureSince, AreSureSince, StaySure}
use Rattle.node_replies.specs.Through.{Through}
use Rattle.core_run.specs.Turns.{GoesOn, WorksEach}
use Rattle.core_run.specs.Standing.{Each, StandsOn}
use Rattle.model_node.specs.Commands.{Node}
use Rattle.model_node.specs.Outside.{counts_of}

module _ {D : Type 0} (view : D → DiskView) where
  -- ---- one device

  since_goes : (count : ℕ) (old new : ShardView D) → GoesOn view old new → IsSureSince view count old → IsSureSince view count new
  since_goes count old new goes is = record { later = le_trans is.later goes.sure.count; sure = by is.sure }
    where
      behind : AreSure new.shelf.gates ⊎ Rose (view old.shelf.disk).faults (view new.shelf.disk).faults → AreSure new.shelf.gates ⊎ Rose count (view new.shelf.disk).faults
      behind (inl sure) = inl sure
      behind (inr rose) = inr (rose_then count (view old.shelf.disk).faults (view new.shelf.disk).faults is.later rose)

      by : AreSure old.shelf.gates ⊎ Rose count (view old.shelf.disk).faults → AreSure new.shelf.gates ⊎ Rose count (view new.shelf.disk).faults
      by (inl sure) = behind (goes.sure.sure sure)
      by (inr rose) = inr (rose_first count (view old.shelf.disk).faults (view new.shelf.disk).faults rose goes.sure.count)

  -- ---- all devices

  pub sure_at : (shards : List (ShardView D)) (place : ℕ) (old new : ShardView D) → slice_get shards place ≡ Some old → GoesOn view old new
      → StaySure view (serving shards) (serving (set shards place new))
  sure_at [] place old new there goes counts sure = tt
  sure_at (shard ∷ shards) zero old new there goes [] sure = absurd sure
  sure_at (shard ∷ shards) (suc place) old new there goes [] sure = absurd sure
  sure_at (shard ∷ shards) zero old new there goes (count ∷ counts) sure =
      let same : shard ≡ old = cc in
      (since_goes count old new goes (subst (IsSureSince view count) same sure.0), sure.1)
  sure_at (shard ∷ shards) (suc place) old new there goes (count ∷ counts) sure = (sure.0, sure_at shards place old new there goes counts sure.1)

  pub sure_through : {A : Type 0} (Turn : A → ShardView D → ShardView D → A → Type 0) → ((a : A) (old new : ShardView D) (b : A) → Turn a old new b → GoesOn view old new)
      → (a b : A) (olds news : List (ShardView D)) → Through Turn (length olds) a olds news b → StaySure view (serving olds) (serving news)
  sure_through Turn each a b [] news through counts sure = subst (AreSureSince view counts) (sym through.0) tt
  sure_through Turn each a b (old ∷ olds) [] through counts sure = tt
  sure_through Turn each a b (old ∷ olds) (new ∷ news) through [] sure = absurd sure
  sure_through Turn each a b (old ∷ olds) (new ∷ news) through (count ∷ counts) sure =
      (since_goes count old new (each a old new through.0 through.1) sure.0, sure_through Turn each through.0 b olds news through.2 counts sure.1)

  pub sure_work : {R E : Type 0} (Does : Result R E → ShardView D → ShardView D → Type 0) (plus : R → R → R)
      → ((result : Result R E) (old new : ShardView D) → Does result old new → GoesOn view old new)
      → (result : Result R E) (a : R) (olds news : List (ShardView D)) → WorksEach Does plus result a olds news → StaySure view (serving olds) (serving news)
  sure_work Does plus goes (Ok sum) a [] news each counts sure = subst (AreSureSince view counts) (sym each.0) tt
  sure_work Does plus goes (Err why) a [] news each counts sure = absurd each
  sure_work Does plus goes (Ok sum) a (old ∷ olds) [] each counts sure = tt
  sure_work Does plus goes (Err why) a (old ∷ olds) [] each counts sure = tt
  sure_work Does plus goes (Ok sum) a (old ∷ olds) (new ∷ news) each [] sure = absurd sure
  sure_work Does plus goes (Err why) a (old ∷ olds) (new ∷ news) each [] sure = absurd sure
  sure_work Does plus goes (Ok sum) a (old ∷ olds) (new ∷ news) (x, does, more) (count ∷ counts) sure =
      (since_goes count old new (goes (Ok x) old new does) sure.0, sure_work Does plus goes (Ok sum) (plus a x) olds news more counts sure.1)
  sure_work Does plus goes (Err why) a (old ∷ olds) (new ∷ news) (inl (does, same)) (count ∷ counts) sure =
      (since_goes count old new (goes (Err why) old new does) sure.0, subst (AreSureSince view counts) (sym same) sure.1)
  sure_work Does plus goes (Err why) a (old ∷ olds) (new ∷ news) (inr (x, does, more)) (count ∷ counts) sure =
      (since_goes count old new (goes (Ok x) old new does) sure.0, sure_work Does plus goes (Err why) (plus a x) olds news more counts sure.1)

  -- ---- starts

  -- a restart
  pub sure_again : (set : Settings) (device devices : ℕ) (olds fresh : List (ShardView D)) → StartsEach view set device devices (disks_served olds) fresh
      → StaySure view (serving olds) (serving fresh)
  sure_again set device devices [] fresh starts counts sure = subst (AreSureSince view counts) (sym starts) tt
  sure_again set device devices (old ∷ olds) [] starts counts sure = tt
  sure_again set device devices (old ∷ olds) (new ∷ fresh) starts [] sure = absurd sure
  sure_again set device devices (old ∷ olds) (new ∷ fresh) starts (count ∷ counts) sure =
      (record { later = le_trans sure.0.later starts.0.read.later; sure = inl starts.0.sure }, sure_again set (device + 1) devices olds fresh starts.1 counts sure.1)

  -- Behind a start it is so since the counts that the disks had before it.
  pub sure_begun : (set : Settings) (device devices : ℕ) (disks : List D) (shards : List (ShardView D)) → StartsEach view set device devices disks shards
      → AreSureSince view (faults_of view disks) shards
  sure_begun set device devices [] shards starts = subst (AreSureSince view []) (sym starts) tt
  sure_begun set device devices (disk ∷ disks) [] starts = tt
  sure_begun set device devices (disk ∷ disks) (shard ∷ shards) starts =
      (record { later = starts.0.read.later; sure = inl starts.0.sure }, sure_begun set (device + 1) devices disks shards starts.1)

  -- and since those that it has then itself
  pub sure_now : (set : Settings) (device devices : ℕ) (disks : List D) (shards : List (ShardView D)) (node : Node) → StartsEach view set device devices disks shards
      → Each (StandsOn view) shards node → AreSureSince view (counts_of node) shards
  sure_now set device devices disks [] node starts stands = tt
  sure_now set device devices disks (shard ∷ shards) [] starts stands = absurd stands
  sure_now set device devices [] (shard ∷ shards) (slot ∷ node) starts stands = let none : shard ∷ shards ≡ [] = starts in absurd cc
  sure_now set device devices (disk ∷ disks) (shard ∷ shards) (slot ∷ node) starts stands =
      let same = stands.0.faults_is in
      (record { later = omega (arith, same); sure = inl starts.0.sure }, sure_now set (device + 1) devices disks shards node starts.1 stands.1)
