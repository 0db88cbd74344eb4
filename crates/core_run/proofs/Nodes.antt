-- What the turns of all devices come to is what a call of the node means: over any disks, and over honest ones that are safe.
use Rattle.std.proofs.Common.{◌≡◌, inl, ℕ, zero, suc, true, false, List, [], ◌∷◌, length, set, refl, sym, ap, subst}
use Rattle.std.specs.Prelude.{◌≢◌, Some, None, slice_get}
use Rattle.disk_model.specs.Disk.{DiskView, IsDisk}
use Rattle.rec_format.specs.declared.version.Digest.{Digest}
use Rattle.block_shelf.specs.Disks.{IsLater}
use Rattle.model_device.specs.Events.{Event}
use Rattle.line_proto.specs.declared.command.Command.{Command}
use Rattle.line_proto.specs.declared.command.Command.TheVariants as command
use Rattle.line_proto.specs.declared.reply.Reply.{Reply}
use Rattle.line_proto.specs.declared.reply.Reply.TheVariants as reply
use Rattle.cold_scan.specs.declared.header.StartCause.{StartCause}
use Rattle.model_node.specs.Commands.{Node, NodeEvent, node_after, Does, TendsEach}
use Rattle.model_node.specs.Run.{ClosesEach, states_while}
use Rattle.model_node.specs.Meaning.{Showing, ActsFrom, TendsFrom, ClosesFrom, LeavesEach}
use Rattle.shard_core.specs.View.{ShardView}
use Rattle.shard_core.proofs.Later.{later_none}
use Rattle.core_run.specs.Views.{NodeView, serving, halted, disks_served, views_of, unknown, AreLater}
use Rattle.core_run.specs.Standing.{StandsOn, StandsSafelyOn, StandsFor, StandsSafely, Halts, HaltsSafely}
use Rattle.model_node.specs.Shown.{ShowsGet}
use Rattle.core_run.specs.Shown.{RaidsOf}
use Rattle.core_run.proofs.Places.{events_of}
use Rattle.core_run.proofs.Making.{Made, LeftOn, Along, along_legal, along_after, along_left, nothing_left}
use Rattle.core_run.proofs.Acting.{Safely, along_both}
use Rattle.node_replies.specs.Through.{Through}

-- ---- what is seen of a node

pub one_shards : {D : Type 0} (a b : List (ShardView D)) → serving a ≡ serving b → a ≡ b
one_shards a b same = ap (λ n. n.shards) same

pub serves_or_halts : {D : Type 0} (shards : List (ShardView D)) (why : ℕ × StartCause) (disks : List D) → serving shards ≡ halted why disks → ⊥
serves_or_halts {D} shards why disks same = let e : None ≡ Some why = ap (λ (n : NodeView D). n.refused) same in cc

pub one_reason : {D : Type 0} (a b : ℕ × StartCause) (c d : List D) → halted a c ≡ halted b d → a ≡ b
one_reason a b c d same = let e : Some a ≡ Some b = ap (λ n. n.refused) same in cc

pub one_disks : {D : Type 0} (a b : ℕ × StartCause) (c d : List D) → halted a c ≡ halted b d → c ≡ d
one_disks a b c d same = ap (λ n. n.disks) same

-- of a raid it is said what it has done
abbrev pub RaidShown : {D : Type 0} → (view : D → DiskView) → Command → Showing (NodeView D)
RaidShown view c old node now r work restarted new = c ≡ command.Raid → RaidsOf view old node now r work restarted new

-- of a get what it shows
abbrev pub GetShown : {D : Type 0} → (view : D → DiskView) → Command → Showing (NodeView D)
GetShown view c old node now r work restarted new = (digest : Digest) → c ≡ command.Get digest → ShowsGet (views_of view old) node work

abbrev pub BothShown : {D : Type 0} → (view : D → DiskView) → Command → Showing (NodeView D)
BothShown view c old node now r work restarted new = RaidShown view c old node now r work restarted new × GetShown view c old node now r work restarted new

-- ---- time

module _ {D : Type 0} (view : D → DiskView) (is_disk : (disk : D) → IsDisk (view disk)) where
  pub later_same : (disks : List D) → AreLater view disks disks
  later_same [] = refl
  later_same (disk ∷ disks) = (later_none view disk (is_disk disk), later_same disks)

  pub later_at : (shards : List (ShardView D)) (place : ℕ) (old new : ShardView D) → slice_get shards place ≡ Some old → IsLater (view old.shelf.disk) (view new.shelf.disk)
      → AreLater view (disks_served shards) (disks_served (set shards place new))
  later_at [] place old new there later = cc
  later_at (shard ∷ shards) zero old new there later =
      let same : shard ≡ old = cc in
      (subst (λ (s : ShardView D). IsLater (view s.shelf.disk) (view new.shelf.disk)) (sym same) later, later_same (disks_served shards))
  later_at (shard ∷ shards) (suc place) old new there later = (later_none view shard.shelf.disk (is_disk shard.shelf.disk), later_at shards place old new there later)

pub later_through : {D A : Type 0} (view : D → DiskView) (Turn : A → ShardView D → ShardView D → A → Type 0)
    → ((a : A) (old new : ShardView D) (b : A) → Turn a old new b → IsLater (view old.shelf.disk) (view new.shelf.disk))
    → (a b : A) (olds news : List (ShardView D)) → Through Turn (length olds) a olds news b → AreLater view (disks_served olds) (disks_served news)
later_through view Turn each a b [] news through = ap disks_served through.0
later_through view Turn each a b (old ∷ olds) [] through = absurd through
later_through view Turn each a b (old ∷ olds) (new ∷ news) through = (each a old new through.0 through.1, later_through view Turn each through.0 b olds news through.2)

-- ---- a call, from the turns of all devices

module _ {D : Type 0} (view : D → DiskView) (olds news : List (ShardView D)) (node : Node) (mines : List (List Event)) where
  abbrev Work : List NodeEvent
  Work = events_of mines

  module _ (along : Along (Made false (StandsOn view)) olds news node mines) where
    stands_any : StandsFor view (serving news) (node_after Work node)
    stands_any = (news, refl, along_after false (StandsOn view) olds news node mines along)

    pub acts_any : (c : Command) (now : ℕ) (r : Reply) → Does node c now Work r → r ≢ reply.Halted → GetShown view c (serving olds) node now r Work None (serving news)
        → ActsFrom (StandsFor view) unknown (Halts view) (GetShown view c) false (serving olds) node c now r (serving news)
    acts_any c now r does goes shown = record {
      work = Work;
      restarted = None;
      carried = inl (refl, does);
      legal = along_legal false (StandsOn view) olds news node mines along;
      stands = λ _. stands_any;
      leaves = nothing_left (serving olds) (serving news) node _;
      halt = λ is. absurd (goes is);
      shows = shown;
    }

    pub tends_any : TendsEach 0 node Work → TendsFrom (StandsFor view) unknown false (serving olds) node (serving news)
    tends_any tends = record {
      tended = Work;
      tends = tends;
      legal = along_legal false (StandsOn view) olds news node mines along;
      stands = stands_any;
      leaves = nothing_left (serving olds) (serving news) node _;
    }

    pub closes_any : (Says : Node → Type 0) → ClosesEach 0 node Work → Says (node_after Work node) → ClosesFrom (StandsFor view) unknown false Says (serving olds) node (serving news)
    closes_any Says closes says = record {
      closing = Work;
      closes = closes;
      legal = along_legal false (StandsOn view) olds news node mines along;
      stands = stands_any;
      leaves = nothing_left (serving olds) (serving news) node _;
      says = says;
    }

  module _ (along : Along (Safely view) olds news node mines) where
    made : Along (Made true (StandsSafelyOn view)) olds news node mines
    made = (along_both (Made true (StandsSafelyOn view)) (LeftOn view) olds news node mines along).0

    stands_safely : StandsSafely view (serving news) (node_after Work node)
    stands_safely = (news, refl, along_after true (StandsSafelyOn view) olds news node mines made)

    left : LeavesEach (views_of view) node (λ device. states_while device Work node) (serving olds) (serving news)
    left = along_left view olds news node mines (along_both (Made true (StandsSafelyOn view)) (LeftOn view) olds news node mines along).1

    pub acts_safe : (c : Command) (now : ℕ) (r : Reply) → Does node c now Work r → r ≢ reply.Halted → BothShown view c (serving olds) node now r Work None (serving news)
        → ActsFrom (StandsSafely view) (views_of view) (HaltsSafely view) (BothShown view c) true (serving olds) node c now r (serving news)
    acts_safe c now r does goes shown = record {
      work = Work;
      restarted = None;
      carried = inl (refl, does);
      legal = along_legal true (StandsSafelyOn view) olds news node mines made;
      stands = λ _. stands_safely;
      leaves = left;
      halt = λ is. absurd (goes is);
      shows = shown;
    }

    pub tends_safe : TendsEach 0 node Work → TendsFrom (StandsSafely view) (views_of view) true (serving olds) node (serving news)
    tends_safe tends = record {
      tended = Work;
      tends = tends;
      legal = along_legal true (StandsSafelyOn view) olds news node mines made;
      stands = stands_safely;
      leaves = left;
    }

    pub closes_safe : (Says : Node → Type 0) → ClosesEach 0 node Work → Says (node_after Work node) → ClosesFrom (StandsSafely view) (views_of view) true Says (serving olds) node (serving news)
    closes_safe Says closes says = record {
      closing = Work;
      closes = closes;
      legal = along_legal true (StandsSafelyOn view) olds news node mines made;
      stands = stands_safely;
      leaves = left;
      says = says;
    }
