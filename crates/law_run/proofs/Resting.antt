-- What a run over a node rests on: where nothing is done, no image is left but those that survive.
use Rattle.std.proofs.Common.{◌≡◌, ℕ, Bool, true, false, List, [], sym, subst, inl}
use Rattle.std.specs.Prelude.{Option, Some, None, MatchOption, slice_get}
use Rattle.disk_model.specs.Disk.{DiskView, IsDisk}
use Rattle.disk_model.specs.Runs.{OneOf, leaves_none}
use Rattle.model_device.specs.Device.{State}
use Rattle.law_start.specs.Surviving.{Survives}
use Rattle.line_proto.specs.declared.reply.Reply.TheVariants as reply
use Rattle.model_node.specs.Commands.{Slot, Node}
use Rattle.model_node.specs.Run.{states_from, states_while}
use Rattle.model_node.specs.Headline.{On}
use Rattle.model_node.specs.Meaning.{SurvivesOne, LeavesEach, Rests}
use Rattle.law_session.specs.Whole.{RestsOn}
use Rattle.core_run.specs.Views.{NodeView, serving, halted, disks_of, views_of, unknown}
use Rattle.core_run.specs.Shown.{ShowsOn}
use Rattle.core_run.specs.Standing.{StandsFor, StandsSafely, Halts, HaltsSafely}
use Rattle.law_run.proofs.Disks.{is_disk_at}
use Rattle.law_run.proofs.Shown.{LaterNode, later_node_none, later_node_then}
use Rattle.law_run.proofs.Standing.{survives_at}

-- where nothing is said of what a crash leaves, nothing is left
pub nothing_left : {T : Type 0} (old new : T) (node : Node) (states : ℕ → List State) → LeavesEach unknown node states old new
nothing_left old new node states = λ device. record {
  time = record { started = tt; stays = λ t h. tt; only = λ t c h left. absurd left; kept = λ t c h left. absurd left; added = λ t c h left. absurd left };
  each = λ c left. absurd left;
}

-- where no event is made, the one state is that of now
one_of_now : (device : ℕ) (slot : Option Slot) (image : List ℕ) → MatchOption slot (Unit {0}) (λ s. Survives s.setup s.state image)
    → MatchOption slot (Unit {0}) (λ s. OneOf (Survives s.setup) (states_from device [] slot) image)
one_of_now device None image survives = tt
one_of_now device (Some slot) image survives = inl survives

pub now_survives : (node : Node) (device : ℕ) (image : List ℕ) → On node device (λ slot. Survives slot.setup slot.state image) → SurvivesOne device node (states_while device [] node) image
now_survives node device image survives = one_of_now device (slice_get node device) image survives

module _ {D : Type 0} (view : D → DiskView) where
  quits_show : (told : Bool) (store : NodeView D) (node : Node) (now : ℕ) → ShowsOn view told store node now reply.Bye [] None store
  quits_show told store node now = record {
    again = λ fresh is goes. absurd (none_is fresh is);
    refused = λ is. absurd (bye_goes is);
    sure = λ fresh is. absurd (none_is fresh is);
    healed = λ gates is. cc;
    raided = λ is removed cleared other. cc;
    got = λ device event digest time is. cc;
  }
    where
      none_is : (fresh : Node) → None ≡ Some fresh → ⊥
      none_is fresh is = cc

      bye_goes : reply.Bye ≡ reply.Halted → ⊥
      bye_goes is = cc

  pub rest_on_any : ((disk : D) → IsDisk (view disk)) → RestsOn (StandsFor view) unknown (Halts view) (ShowsOn view false) (LaterNode view) false
  rest_on_any is_disk = record {
    rests = λ store node stands. nothing_left store store node _;
    halted = λ store before after halts. nothing_left store store after _;
    blind = λ is node states old new. nothing_left old new node states;
    same = later_node_none view is_disk;
    then = later_node_then view;
    quits = quits_show false;
  }

  pub rest_on_safe : ((disk : D) → IsDisk (view disk)) → RestsOn (StandsSafely view) (views_of view) (HaltsSafely view) (ShowsOn view true) (LaterNode view) true
  rest_on_safe is_disk = record {
    rests = rests;
    halted = stopped;
    blind = λ is. let e : true ≡ false = is in cc;
    same = later_node_none view is_disk;
    then = later_node_then view;
    quits = quits_show true;
  }
    where
      -- of each node whose disks leave only what survives
      resting : (n : NodeView D) (node : Node) → ((device : ℕ) (image : List ℕ) → (views_of view n device).may_leave image → On node device (λ slot. Survives slot.setup slot.state image))
          → LeavesEach (views_of view) node (λ device. states_while device [] node) n n
      resting n node survives device =
          leaves_none (SurvivesOne device node (states_while device [] node)) (views_of view n device) (is_disk_at view is_disk (disks_of n) device)
          (λ image left. now_survives node device image (survives device image left))

      rests : Rests (StandsSafely view) (views_of view)
      rests store node stands =
          subst (λ (n : NodeView D). LeavesEach (views_of view) node (λ device. states_while device [] node) n n) (sym stands.1)
          (resting (serving stands.0) node (survives_at view stands.0 node stands.2))

      stopped : (store : NodeView D) (before after : Node) → HaltsSafely view store before after → LeavesEach (views_of view) after (λ device. states_while device [] after) store store
      stopped store before after h =
          let halts = h.halts in
          subst (λ (n : NodeView D). LeavesEach (views_of view) after (λ device. states_while device [] after) n n) (sym halts.is_halted)
          (resting (halted (halts.device, halts.cause) halts.disks) after h.left)
