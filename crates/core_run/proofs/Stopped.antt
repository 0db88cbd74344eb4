-- The disks of a node whose devices were stopped, to be started again.
use Rattle.std.proofs.Common.{◌≡◌, ◌++◌, ◌≤◌, ℕ, List, [], length, sym, ◌∙◌, ap, subst, arith}
use Rattle.std.specs.Prelude.{Option, Some, None, reverse}
use Rattle.std.proofs.lemmas.List.{append-nil, length-map}
use Rattle.disk_model.specs.Disk.{DiskView, IsDisk}
use Rattle.cold_scan.specs.declared.header.StartCause.{StartCause}
use Rattle.rec_format.specs.declared.entry.Counts.{Counts}
use Rattle.line_proto.specs.declared.command.Command.TheVariants as command
use Rattle.line_proto.specs.declared.reply.Reply.TheVariants as reply
use Rattle.model_node.specs.Commands.{Node, node_counts}
use Rattle.shard_core.specs.declared.settings.Settings.{Settings}
use Rattle.shard_core.specs.View.{ShardView, IsSettings}
use Rattle.core_run.specs.Views.{NodeView, IsNode, AreDevices, serving, disks_served}
use Rattle.core_run.specs.Starts.{StartsEach, RefusesAt}
use Rattle.core_run.specs.Standing.{Each, StandsOn}
use Rattle.core_run.specs.Calls.{Acts}
use Rattle.core_run.proofs.Keeping.{seen_so, node_serves, no_disks, devices_of}
use Rattle.core_run.proofs.Startings.{starts_many, node_started}
use Rattle.core_run.proofs.Reading.{place_within}
use Rattle.core_run.proofs.Restarting.{restart_done, restart_refused}

module _ {D : Type 0} (view : D → DiskView) (is_disk : (disk : D) → IsDisk (view disk)) (set : Settings) (a b : ℕ) (olds : List (ShardView D)) (refused : Option (ℕ × StartCause)) (disks : List D)
    (keeps : IsNode set a b (seen_so olds refused disks)) (self : NodeView D) (is : seen_so olds refused disks ≡ self) (served : self.refused ≡ None)
    (given : List D) (n : ℕ) (stopped : given ≡ disks_served olds ++ reverse disks) (many : n ≡ length given) where
  pub none : refused ≡ None
  none = ap (λ (x : NodeView D). x.refused) is ∙ served

  devices : (1 ≤ length olds) × (length olds ≤ 16) × (length olds ≤ b) × AreDevices set 0 (length olds) olds
  devices = devices_of set a b olds refused disks none keeps

  given_is : given ≡ disks_served olds
  given_is = stopped ∙ ap (λ (d : List D). disks_served olds ++ reverse d) (no_disks set a b olds refused disks none keeps) ∙ append-nil (disks_served olds)

  pub as_many : n ≡ length olds
  as_many = many ∙ ap length given_is ∙ length-map olds (λ s. s.shelf.disk)

  was : serving olds ≡ self
  was = sym (node_serves set a b olds refused disks none keeps) ∙ is

  settings : IsSettings set
  settings = keeps.0

  module _ (fresh : List (ShardView D)) (left : List D) (room : ℕ) (no_left : left ≡ []) (starts : StartsEach view set 0 n given fresh) where
    started : StartsEach view set 0 (length olds) (disks_served olds) fresh
    started = subst (λ (k : ℕ). StartsEach view set 0 k (disks_served olds) fresh) as_many (subst (λ (d : List D). StartsEach view set 0 n d fresh) given_is starts)

    pub few_fresh : length fresh ≤ 16
    few_fresh =
        let as_before = starts_many view set 0 (length olds) (disks_served olds) fresh started in
        let same = length-map olds (λ s. s.shelf.disk) in
        let few = devices.1 in
        omega (arith, as_before, same, few)

    pub keeps_again : (c : ℕ) → length olds ≤ room → IsNode set c room (seen_so fresh refused left)
    keeps_again c roomy =
        let same = length-map olds (λ s. s.shelf.disk) in
        let some = devices.0 in
        let few = devices.1 in
        node_started view set c room (disks_served olds) fresh refused left settings none no_left (omega (arith, same, some)) (omega (arith, same, few)) (omega (arith, same, roomy))
        (subst (λ (k : ℕ). StartsEach view set 0 k (disks_served olds) fresh) (sym same) started)

    pub roomy : length olds ≤ b
    roomy = devices.2

    pub done_again : (counts : Counts) (now : ℕ) → ((node : Node) → Each (StandsOn view) fresh node → counts ≡ node_counts node)
        → Acts view self command.Restart now (reply.Restarted counts.records counts.tombstones) (seen_so fresh refused left)
    done_again counts now told =
        subst (λ (old : NodeView D). Acts view old command.Restart now (reply.Restarted counts.records counts.tombstones) (seen_so fresh refused left)) was
        (subst (λ (new : NodeView D). Acts view (serving olds) command.Restart now (reply.Restarted counts.records counts.tombstones) new)
        (λ i. record { shards = fresh; refused = sym none i; disks = sym no_left i })
        (restart_done view set is_disk olds fresh counts now devices.3 started told))

  module _ (why : ℕ × StartCause) (back : List D) (refuses : RefusesAt view set why.0 0 n why.1 given back) where
    refuses_so : RefusesAt view set why.0 0 (length olds) why.1 (disks_served olds) back
    refuses_so = subst (λ (k : ℕ). RefusesAt view set why.0 0 k why.1 (disks_served olds) back) as_many (subst (λ (d : List D). RefusesAt view set why.0 0 n why.1 d back) given_is refuses)

    pub keeps_halted : (c room : ℕ) (shards : List (ShardView D)) → shards ≡ [] → IsNode set c room (seen_so shards (Some why) back)
    keeps_halted c room shards no_shards = (settings, (no_shards, place_within view set why.0 0 (length olds) why.1 (disks_served olds) back refuses_so))

    pub refused_again : (shards : List (ShardView D)) → shards ≡ [] → (now : ℕ) → Acts view self command.Restart now reply.Halted (seen_so shards (Some why) back)
    refused_again shards no_shards now =
        subst (λ (old : NodeView D). Acts view old command.Restart now reply.Halted (seen_so shards (Some why) back)) was
        (subst (λ (s : List (ShardView D)). Acts view (serving olds) command.Restart now reply.Halted (seen_so s (Some why) back)) (sym no_shards)
        (restart_refused view set is_disk olds why back now devices.3 refuses_so))
