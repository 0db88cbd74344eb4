-- What a restart comes to, by the starts of all devices from the disks on which they stood.
use Rattle.std.proofs.Common.{◌≡◌, inl, inr, ℕ, zero, suc, ◌+◌, ◌≤◌, Bool, true, false, List, [], ◌∷◌, length, refl, sym, ◌∙◌, ap, subst, arith}
use Rattle.std.specs.Prelude.{Some}
use Rattle.std.proofs.lemmas.List.{length-map}
use Rattle.disk_model.specs.Disk.{DiskView, IsDisk, meanwhile}
use Rattle.model_device.specs.Book.{Setup}
use Rattle.model_device.specs.Device.{put_count, tombstone_count}
use Rattle.rec_format.specs.declared.entry.Counts.{Counts}
use Rattle.line_proto.specs.declared.command.Command.TheVariants as command
use Rattle.line_proto.specs.declared.reply.Reply.TheVariants as reply
use Rattle.cold_scan.specs.Found.{found_state}
use Rattle.cold_scan.specs.declared.header.StartCause.{StartCause}
use Rattle.shard_core.specs.declared.settings.Settings.{Settings}
use Rattle.shard_core.specs.View.{ShardView, setup_of, setup_for}
use Rattle.shard_core.specs.Again as again
use Rattle.model_node.specs.Commands.{Slot, Node, total, node_counts}
use Rattle.model_node.specs.Run.{ImagesLeft, IsSameDevice, RestartsEach}
use Rattle.model_node.specs.Outside.{RoseOn, counts_of}
use Rattle.law_start.specs.Start.{Restarts}
use Rattle.law_start.specs.Sound.{IsShapeOf}
use Rattle.model_node.specs.Headline.{On}
use Rattle.model_node.specs.Shown.{IsStartedFrom}
use Rattle.model_node.specs.Meaning.{ActsFrom, left_between}
use Rattle.core_run.specs.Views.{NodeView, AreDevices, serving, halted, disks_served, view_at, views_of, unknown, asked, faults_of}
use Rattle.core_run.specs.Starts.{Started, StartsEach, RefusesAt}
use Rattle.core_run.specs.Standing.{Each, StandsOn, StandsSafelyOn, StandsFor, StandsSafely, Halts, HaltsSafely}
use Rattle.core_run.specs.Shown.{ShowsOn}
use Rattle.core_run.specs.Calls.{Acts, Restarted}
use Rattle.core_run.proofs.Making.{each_length, each_more, nothing_left}
use Rattle.core_run.specs.Sure.{AreSureSince}
use Rattle.core_run.proofs.Surely.{sure_again, sure_now}
use Rattle.core_run.proofs.Nodes.{one_shards, serves_or_halts}
use Rattle.core_run.proofs.Replying.{restart_goes_on}
use Rattle.core_run.proofs.Reading.{ReadEach, read_later, starts_read, refuses_read, left_read, counted_now, same_states, counts_now, counts_before, left_now, place_within, refused_rose, not_refused}

module _ {D : Type 0} (view : D → DiskView) (set : Settings) where
  -- the setup of a device that was started again on the disk of one
  same_device : (device devices : ℕ) (old new : ShardView D) → old.set ≡ set → old.shelf.geometry.device ≡ device → old.shelf.geometry.devices ≡ devices
      → Started view set (asked device devices) old.shelf.disk new
      → IsSameDevice (setup_of old) (setup_of new)
  same_device device devices old new set_is device_is devices_is started = record {
    device_is = started.device_is ∙ sym device_is;
    devices_is = started.devices_is ∙ sym devices_is;
    settings = λ i. setup_by (setup_of new) ((started.device_is ∙ sym device_is) i) ((started.devices_is ∙ sym devices_is) i) ((started.set_is ∙ sym set_is) i);
  }
    where
      -- all but the shape is by the settings and the device's numbers
      setup_by : Setup → (device devices : ℕ) → Settings → Setup
      setup_by shape device devices set = record shape {
        device = device;
        devices = devices;
        sprigs = set.sprigs;
        lwm = set.lwm;
        pending_limit = set.pending;
        cache = set.cache;
        commit = set.commit;
        raid_age = set.raid_age;
      }

  shape_of : (shard : ShardView D) → IsShapeOf (setup_of shard) shard.shelf.geometry
  shape_of shard = record { capacity = refl; blocks = refl; device = refl; devices = refl }

  -- from which disk each device was started, with one more in front
  from_front : (told : Bool) (device devices : ℕ) (disk : DiskView) (disks : List D) (slot : Slot) (node : Node) → IsStartedFrom told device devices disk slot
      → ((place : ℕ) → On node place (IsStartedFrom told (device + 1 + place) devices (view_at view disks place)))
      → (front : D) → view front ≡ disk
      → (place : ℕ) → On (slot ∷ node) place (IsStartedFrom told (device + place) devices (view_at view (front ∷ disks) place))
  from_front told device devices disk disks slot node here rest front is zero =
      let same : device ≡ device + 0 = omega arith in
      subst (λ (v : DiskView). IsStartedFrom told (device + 0) devices v slot) (sym is) (subst (λ (n : ℕ). IsStartedFrom told n devices disk slot) same here)
  from_front told device devices disk disks slot node here rest front is (suc place) =
      let same : device + 1 + place ≡ device + suc place = omega arith in
      subst (λ (n : ℕ). On node place (IsStartedFrom told n devices (view_at view disks place))) same (rest place)

  -- ---- all were started

  -- over any disks: the state behind a start from the bodies that were read
  record AgainAny (left : ImagesLeft) (device devices : ℕ) (disks : List D) (node : Node) (fresh : List (ShardView D)) : Type 0 where
    after : Node
    restarts : RestartsEach left false device node after
    stands : Each (StandsOn view) fresh after
    from : (place : ℕ) → On after place (IsStartedFrom false (device + place) devices (view_at view disks place))

  again_any : (left : ImagesLeft) (device devices : ℕ) (olds fresh : List (ShardView D)) (node : Node) → AreDevices set device devices olds
      → StartsEach view set device devices (disks_served olds) fresh
      → Each (StandsOn view) olds node → AgainAny left device devices (disks_served olds) node fresh
  again_any left device devices [] fresh node are starts stands = record {
    after = [];
    restarts = subst (λ (n : Node). RestartsEach left false device n []) (sym stands) refl;
    stands = subst (λ (s : List (ShardView D)). Each (StandsOn view) s []) (sym starts) refl;
    from = λ place. tt;
  }
  again_any left device devices (old ∷ olds) [] node are starts stands = absurd starts
  again_any left device devices (old ∷ olds) (new ∷ fresh) [] are starts stands = absurd stands
  again_any left device devices (old ∷ olds) (new ∷ fresh) (slot ∷ node) are starts stands =
      let started = starts.0 in
      let found = started.stands in
      let rest = again_any left (device + 1) devices olds fresh node are.3 starts.1 stands.1 in
      let one : Slot = record { setup = setup_of new; state = found_state (setup_of new) found.bodies; faults = (view new.shelf.disk).faults } in
      record {
        after = one ∷ rest.after;
        restarts = (
          subst (λ (n : ℕ). n ≤ (view new.shelf.disk).faults) (sym stands.0.faults_is) started.read.later,
          (subst (λ (setup : Setup). IsSameDevice setup (setup_of new)) (sym stands.0.setup_is) (same_device device devices old new are.0 are.1 are.2 started), found.bodies, refl),
          rest.restarts,
        );
        stands = (record { setup_is = refl; faults_is = refl; agrees = found.agrees }, rest.stands);
        from = from_front false device devices (view old.shelf.disk) (disks_served olds) one rest.after
            (λ tells. (new.shelf.geometry, found.bodies, found.passes tells, (shape_of new, λ is. refl))) rest.from old.shelf.disk refl;
      }

  -- over honest disks that were safe: a state that a restart may go to, from an image that the disk might have left
  record AgainSafe (left : ImagesLeft) (device devices : ℕ) (disks : List D) (node : Node) (fresh : List (ShardView D)) : Type 0 where
    after : Node
    restarts : RestartsEach left true device node after
    stands : Each (StandsSafelyOn view) fresh after
    from : (place : ℕ) → On after place (IsStartedFrom true (device + place) devices (view_at view disks place))

  module _ (is_disk : (disk : D) → IsDisk (view disk)) where
    again_safe : (left : ImagesLeft) (device devices : ℕ) (olds fresh : List (ShardView D)) (node : Node) → AreDevices set device devices olds
        → StartsEach view set device devices (disks_served olds) fresh
        → Each (StandsSafelyOn view) olds node
        → ((place : ℕ) (image : List ℕ) → meanwhile (view_at view (disks_served olds) place) (view_at view (disks_served fresh) place) image → left (device + place) image)
        → AgainSafe left device devices (disks_served olds) node fresh
    again_safe left device devices [] fresh node are starts stands was = record {
      after = [];
      restarts = subst (λ (n : Node). RestartsEach left true device n []) (sym stands) refl;
      stands = subst (λ (s : List (ShardView D)). Each (StandsSafelyOn view) s []) (sym starts) refl;
      from = λ place. tt;
    }
    again_safe left device devices (old ∷ olds) [] node are starts stands was = absurd starts
    again_safe left device devices (old ∷ olds) (new ∷ fresh) [] are starts stands was = absurd stands
    again_safe left device devices (old ∷ olds) (new ∷ fresh) (slot ∷ node) are starts stands was =
        let started = starts.0 in
        let safe = stands.0 in
        let begun : again.StartsAgain view old slot.state new = started.again safe.honest old slot.state refl are.0 are.1 are.2 safe.stands.agrees safe.safe in
        let setups : setup_of new ≡ setup_of old = ap (λ g. setup_for g new.set) begun.geometry ∙ ap (λ s. setup_for old.shelf.geometry s) (started.set_is ∙ sym are.0) in
        let here : device + 0 ≡ device = omega arith in
        let moment = (view old.shelf.disk).moment in
        let image_left : left device begun.image =
        subst (λ (n : ℕ). left n begun.image) here
        (was 0 begun.image (started.read.time.kept moment begun.image (is_disk old.shelf.disk).now_had
        ((is_disk old.shelf.disk).now_since moment begun.image (is_disk old.shelf.disk).now_had begun.left))) in
        let rest = again_safe left (device + 1) devices olds fresh node are.3 starts.1 stands.1
        (λ place image since. let further : device + suc place ≡ device + 1 + place = omega arith in subst (λ (n : ℕ). left n image) further (was (suc place) image since)) in
        let one : Slot = record { setup = setup_of new; state = begun.state; faults = (view new.shelf.disk).faults } in
        record {
          after = one ∷ rest.after;
          restarts = (
            subst (λ (n : ℕ). n ≤ (view new.shelf.disk).faults) (sym safe.stands.faults_is) started.read.later,
            (setups ∙ sym safe.stands.setup_is, begun.image, image_left, subst (λ (setup : Setup). Restarts setup slot.state begun.image begun.state) (sym safe.stands.setup_is) begun.restarts),
            rest.restarts,
          );
          stands = (record { stands = record { setup_is = refl; faults_is = refl; agrees = begun.agrees }; honest = started.read.honest safe.honest; safe = begun.safe }, rest.stands);
          from = from_front true device devices (view old.shelf.disk) (disks_served olds) one rest.after
              (λ tells. let begins = started.begins tells in (new.shelf.geometry, begins.bodies, begins.passes, (shape_of new, λ is. cc))) rest.from old.shelf.disk refl;
        }

    module _ (olds fresh : List (ShardView D)) (counts : Counts) (now : ℕ) (are : AreDevices set 0 (length olds) olds) (starts : StartsEach view set 0 (length olds) (disks_served olds) fresh)
        (told : (node : Node) → Each (StandsOn view) fresh node → counts ≡ node_counts node) where
      abbrev Left : ImagesLeft
      Left = left_between (views_of view) (serving olds) (serving fresh)

      read : ReadEach view (disks_served olds) (disks_served fresh)
      read = starts_read view set 0 (length olds) (disks_served olds) fresh starts

      reply_is : (after : Node) → Each (StandsOn view) fresh after → reply.Restarted counts.records counts.tombstones ≡ reply.Restarted (total put_count after) (total tombstone_count after)
      reply_is after stands = ap (λ (c : Counts). reply.Restarted c.records c.tombstones) (told after stands)

      started_shows : (told : Bool) (node after : Node) → length node ≡ length olds
          → ((place : ℕ) → On after place (IsStartedFrom told (0 + place) (length olds) (view_at view (disks_served olds) place))) → Each (StandsOn view) fresh after
          → ShowsOn view told (serving olds) node now (reply.Restarted counts.records counts.tombstones) [] (Some after) (serving fresh)
      started_shows told node after many from stands = record {
        again = λ new is goes device.
            let one : after ≡ new = cc in
            let here : 0 + device ≡ device = omega arith in
            subst (λ (n : Node). On n device (IsStartedFrom told device (length node) (view_at view (disks_served olds) device))) one
            (subst (λ (n : ℕ). On after device (IsStartedFrom told device n (view_at view (disks_served olds) device))) (sym many)
            (subst (λ (n : ℕ). On after device (IsStartedFrom told n (length olds) (view_at view (disks_served olds) device))) here (from device)));
        refused = λ is. absurd (restart_goes_on counts.records counts.tombstones is);
        sure = λ new is.
            let one : after ≡ new = cc in
            subst (λ (n : Node). AreSureSince view (counts_of n) fresh) one (sure_now view set 0 (length olds) (disks_served olds) fresh after starts stands);
        healed = λ gates is. cc;
        raided = λ is removed cleared other. cc;
        got = λ device event digest time is. cc;
      }

      any : (node : Node) → Each (StandsOn view) olds node
          → ActsFrom (StandsFor view) unknown (Halts view) (ShowsOn view false) false (serving olds) node command.Restart now (reply.Restarted counts.records counts.tombstones) (serving fresh)
      any node stands =
          let made = again_any (left_between (unknown {T = NodeView D}) (serving olds) (serving fresh)) 0 (length olds) olds fresh node are starts stands in
          record {
            work = [];
            restarted = Some made.after;
            carried = inr (refl, (refl, made.after, refl, inl (made.restarts, reply_is made.after made.stands)));
            legal = tt;
            stands = λ goes. (fresh, refl, made.stands);
            leaves = nothing_left (serving olds) (serving fresh) node _;
            halt = λ is. absurd (restart_goes_on counts.records counts.tombstones is);
            shows = started_shows false node made.after (each_length (StandsOn view) olds node stands) made.from made.stands;
          }

      safe : (node : Node) → Each (StandsSafelyOn view) olds node
          → ActsFrom (StandsSafely view) (views_of view) (HaltsSafely view) (ShowsOn view true) true (serving olds) node
          command.Restart now (reply.Restarted counts.records counts.tombstones) (serving fresh)
      safe node stands =
          let made = again_safe Left 0 (length olds) olds fresh node are starts stands
          (λ place image since. let same : place ≡ 0 + place = omega arith in subst (λ (n : ℕ). Left n image) same since) in
          let plain = each_more (StandsSafelyOn view) (StandsOn view) (λ shard slot s. s.stands) fresh made.after made.stands in
          record {
            work = [];
            restarted = Some made.after;
            carried = inr (refl, (refl, made.after, refl, inl (made.restarts, reply_is made.after plain)));
            legal = tt;
            stands = λ goes. (fresh, refl, made.stands);
            leaves = left_read view is_disk olds (disks_served fresh) node stands read;
            halt = λ is. absurd (restart_goes_on counts.records counts.tombstones is);
            shows = started_shows true node made.after (each_length (StandsSafelyOn view) olds node stands) made.from plain;
          }

      pub restart_done : Acts view (serving olds) command.Restart now (reply.Restarted counts.records counts.tombstones) (serving fresh)
      unfolding any
      restart_done = record {
        later = read_later view (disks_served olds) (disks_served fresh) read;
        any = λ node stands. any node (subst (λ (s : List (ShardView D)). Each (StandsOn view) s node) (sym (one_shards olds stands.0 stands.1)) stands.2);
        safe = λ node stands. safe node (subst (λ (s : List (ShardView D)). Each (StandsSafelyOn view) s node) (sym (one_shards olds stands.0 stands.1)) stands.2);
        stored = λ shards same. tt;
        again = λ shards same is. (set, subst (λ (s : List (ShardView D)). Restarted view set s (serving fresh)) (one_shards olds shards same) (inl (fresh, refl, starts)));
        exact = λ before after same then is. absurd cc;
        healed = λ before after same then is. absurd cc;
        sure = sure_again view set 0 (length olds) olds fresh starts;
        left = λ node stands. tt;
        stays = λ why disks same. absurd (serves_or_halts olds why disks same);
      }

    -- ---- one was refused

    module _ (olds : List (ShardView D)) (reason : ℕ × StartCause) (disks : List D) (now : ℕ) (are : AreDevices set 0 (length olds) olds)
        (refuses : RefusesAt view set reason.0 0 (length olds) reason.1 (disks_served olds) disks) where
      read_all : ReadEach view (disks_served olds) disks
      read_all = refuses_read view is_disk set reason.0 0 (length olds) reason.1 (disks_served olds) disks refuses

      halts : (node : Node) → Each (StandsOn view) olds node → Halts view (halted reason disks) node (counted_now view is_disk node disks)
      halts node stands = record {
        device = reason.0;
        cause = reason.1;
        disks = disks;
        is_halted = refl;
        there = place_within view set reason.0 0 (length olds) reason.1 (disks_served olds) disks refuses;
        counts = counts_now view is_disk olds disks node stands read_all;
        rose = λ is.
            subst (λ (before : List ℕ). RoseOn reason.0 before (counts_of (counted_now view is_disk node disks))) (sym (counts_before view is_disk olds node stands))
            (subst (λ (after : List ℕ). RoseOn reason.0 (faults_of view (disks_served olds)) after) (sym (counts_now view is_disk olds disks node stands read_all))
            (refused_rose view set reason.0 0 (length olds) reason.1 (disks_served olds) disks refuses is));
      }

      refusal_shows : (told : Bool) (node after : Node) → length node ≡ length olds → ShowsOn view told (serving olds) node now reply.Halted [] (Some after) (halted reason disks)
      refusal_shows told node after many = record {
        again = λ fresh is goes. absurd (goes refl);
        refused = λ is. (
          set,
          reason,
          disks,
          refl,
          length-map olds (λ (s : ShardView D). s.shelf.disk) ∙ sym many,
          subst (λ (n : ℕ). RefusesAt view set reason.0 0 n reason.1 (disks_served olds) disks) (sym many) refuses,
        );
        sure = λ fresh is. tt;
        healed = λ gates is. cc;
        raided = λ is removed cleared other. cc;
        got = λ device event digest time is. cc;
      }

      any_refused : (node : Node) → Each (StandsOn view) olds node
          → ActsFrom (StandsFor view) unknown (Halts view) (ShowsOn view false) false (serving olds) node command.Restart now reply.Halted (halted reason disks)
      any_refused node stands = record {
        work = [];
        restarted = Some (counted_now view is_disk node disks);
        carried = inr (refl, (refl, counted_now view is_disk node disks, refl, inr (same_states view is_disk olds disks node stands read_all, refl)));
        legal = tt;
        stands = λ goes. absurd (goes refl);
        leaves = nothing_left (serving olds) (halted reason disks) node _;
        halt = λ is. halts node stands;
        shows = refusal_shows false node (counted_now view is_disk node disks) (each_length (StandsOn view) olds node stands);
      }

      safe_refused : (node : Node) → Each (StandsSafelyOn view) olds node
          → ActsFrom (StandsSafely view) (views_of view) (HaltsSafely view) (ShowsOn view true) true (serving olds) node
          command.Restart now reply.Halted (halted reason disks)
      unfolding halts
      safe_refused node stands =
          let plain = each_more (StandsSafelyOn view) (StandsOn view) (λ shard slot s. s.stands) olds node stands in
          record {
            work = [];
            restarted = Some (counted_now view is_disk node disks);
            carried = inr (refl, (refl, counted_now view is_disk node disks, refl, inr (same_states view is_disk olds disks node plain read_all, refl)));
            legal = tt;
            stands = λ goes. absurd (goes refl);
            leaves = left_read view is_disk olds disks node stands read_all;
            halt = λ is. record {
              halts = halts node plain;
              unrefused = not_refused view set reason.0 0 (length olds) reason.1 olds disks node are refuses stands;
              left = left_now view is_disk olds disks node stands read_all;
            };
            shows = refusal_shows true node (counted_now view is_disk node disks) (each_length (StandsSafelyOn view) olds node stands);
          }

      pub restart_refused : Acts view (serving olds) command.Restart now reply.Halted (halted reason disks)
      unfolding any_refused
      restart_refused = record {
        later = read_later view (disks_served olds) disks read_all;
        any = λ node stands. any_refused node (subst (λ (s : List (ShardView D)). Each (StandsOn view) s node) (sym (one_shards olds stands.0 stands.1)) stands.2);
        safe = λ node stands. safe_refused node (subst (λ (s : List (ShardView D)). Each (StandsSafelyOn view) s node) (sym (one_shards olds stands.0 stands.1)) stands.2);
        stored = λ shards same. tt;
        again = λ shards same is. (set, subst (λ (s : List (ShardView D)). Restarted view set s (halted reason disks)) (one_shards olds shards same) (inr (reason, disks, refl, refuses)));
        exact = λ before after same then is. absurd cc;
        healed = λ before after same then is. absurd cc;
        sure = λ counts sure. tt;
        left = λ node stands. tt;
        stays = λ why kept same. absurd (serves_or_halts olds why kept same);
      }
