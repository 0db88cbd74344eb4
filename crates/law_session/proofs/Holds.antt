-- All of the promises of a run: what the session gives of them, and what else the run must have.
use Rattle.std.proofs.Common.{◌≡◌, ℕ, Bool, true, List, [], subst, sym}
use Rattle.std.specs.Prelude.{Option, Some, None, IfSome, IsTrue}
use Rattle.disk_model.specs.Disk.{DiskView, meanwhile}
use Rattle.model_device.specs.Book.{Setup}
use Rattle.io_traits.specs.Source.{IsAtEnd}
use Rattle.model_node.specs.Commands.{Node}
use Rattle.node_session.specs.declared.ended.Ended.{Ended}
use Rattle.model_node.specs.Run.{ImagesLeft, last_node}
use Rattle.model_node.specs.Outside.{Outside, TakesLines}
use Rattle.model_node.specs.RunEnd.{input_limit}
use Rattle.model_node.specs.Headline.{StartsFrom, HoldsReplies, HoldsThroughout, IsNeverRefused}
use Rattle.model_node.specs.Meaning.{left_between, Showing, GoesOn, Enters}
use Rattle.model_node.proofs.Commits.{commits_all}
use Rattle.model_node.proofs.Sparing.{all_spared}
use Rattle.model_node.proofs.Numbered.{starts_numbered}
use Rattle.law_session.specs.Chain.{EndsWith}
use Rattle.law_session.specs.Whole.{RestsOn, RunsWhole, Frames, Concludes}
use Rattle.law_session.proofs.Whole.{cause_of, run_since, images_since, last_images}

pub at_end_of : (left : Option (List ℕ)) → IsAtEnd left → IfSome left (λ bytes. bytes ≡ [])
at_end_of None h = tt
at_end_of (Some bytes) h = h

module _ {T : Type 0} (Stands : T → Node → Type 0) (views : T → ℕ → DiskView) (Halts : T → (before after : Node) → Type 0) (Shows : Showing T) (Later : T → T → Type 0) (told : Bool)
    (Says : Node → Type 0) where
  abbrev pub WholeOf : Outside → Node → (old new end : T) → Ended → Type 0
  WholeOf o node old new end result = RunsWhole Stands views Halts Shows Later told Says input_limit o.taken o.written o.left o.times node old new end result

  -- The promises on replies.
  unfoldable pub run_replies : (Starts : Node → Type 0) (setups : List Setup) (o : Outside) (entry : ℕ → DiskView) (node : Node) (old new end : T) (result : Ended)
      → (w : WholeOf o node old new end result) → o.ended ≡ w.lifted.ended
      → Frames Starts setups o node (last_node node w.lifted.served w.closing) → Concludes (Halts new) o node w.lifted.served w.closing result
      → GoesOn views entry old
      → HoldsReplies Starts told setups o (λ device. meanwhile (entry device) (views end device))
  run_replies Starts setups o entry node old new end result w ended f c time =
      let l = w.lifted in
      record {
        first = node;
        lines = l.served;
        unserved = l.unserved;
        closing = w.closing;
        set = f.set;
        numbered = f.numbered;
        starts = f.starts;
        counts_first = f.counts_first;
        counts_last = f.counts_last;
        is_run = run_since Stands views Halts Shows Later told Says entry node old end l.served w.closing time w.leaves w.is_run;
        spared = all_spared (left_between views old end) told node l.served w.is_run.serves;
        clock = l.clock;
        at_end = λ is. at_end_of o.left (l.at_end (subst IsTrue ended is));
        within = w.within;
        takes = subst (λ (b : Bool). TakesLines o.taken b l.served l.unserved) (sym ended) l.takes;
        front = l.front;
        cause = cause_of (Halts new) o node l.served l.unserved w.closing result
            (subst (λ (b : Bool). EndsWith input_limit o.taken o.written b l.served l.unserved result) (sym ended) l.ends) l.once l.halt c;
      }

module _ {T : Type 0} (Stands : T → Node → Type 0) (views : T → ℕ → DiskView) (Halts : T → (before after : Node) → Type 0) (Shows : Showing T) (Later : T → T → Type 0) (Says : Node → Type 0) where
  -- All of the promises, over disks that tell what they hold.
  unfoldable pub run_holds : RestsOn Stands views Halts Shows Later true → (setups : List Setup) (o : Outside) (entry : ℕ → DiskView) (may_leave : ImagesLeft) (node : Node)
      (old new end : T) (result : Ended)
      → (w : WholeOf Stands views Halts Shows Later true Says o node old new end result) → o.ended ≡ w.lifted.ended
      → Frames (StartsFrom o.images) setups o node (last_node node w.lifted.served w.closing) → Concludes (Halts new) o node w.lifted.served w.closing result
      → Enters views entry node old
      → ((device : ℕ) (image : List ℕ) → may_leave device image → meanwhile (views end device) (views end device) image) → IsNeverRefused o.end
      → HoldsThroughout setups o (λ device. meanwhile (entry device) (views end device)) may_leave
  unfolding run_replies
  run_holds on setups o entry may_leave node old new end result w ended f c enters law unrefused = record {
    replies = run_replies Stands views Halts Shows Later true Says (StartsFrom o.images) setups o entry node old new end result w ended f c enters.time;
    left_now = last_images Stands views Halts Shows Later true Says on may_leave input_limit o.taken o.written o.left o.times node old new end result w law;
    left_since = images_since Stands views Halts Shows Later true Says entry node old end w.lifted.served w.closing enters w.leaves;
    committed = commits_all (left_between views old end) node w.lifted.served (starts_numbered o.images node f.starts) w.is_run.serves;
    unrefused = unrefused;
  }
