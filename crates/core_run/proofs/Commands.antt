-- Each command of a node that serves, and of one that halted, means what it has to mean.
use Rattle.std.proofs.Common.{◌≡◌, inl, inr, ℕ, ◌+◌, true, false, List, [], ◌∷◌, length, map, set, refl, sym, ◌∙◌, ap, subst, arith}
use Rattle.std.specs.Prelude.{◌≢◌, Bool, Option, Some, None, Result, Ok, Err, MatchOption, slice_get}
use Rattle.std.proofs.lemmas.Option.{slice_get_within, get_or_from_slice_get}
use Rattle.law_lists.proofs.Places.{set_unchanged}
use Rattle.disk_model.specs.Disk.{DiskView, IsDisk}
use Rattle.rec_format.specs.declared.version.Digest.{Digest}
use Rattle.rec_format.specs.declared.entry.Counts.{Counts}
use Rattle.rec_format.specs.Places.{device_number}
use Rattle.model_device.specs.Device.{State, seen}
use Rattle.model_device.specs.Book.{Setup}
use Rattle.model_device.specs.Events.{Event, Call, put_call, get_call, delete_call, bury_call, disk_fault, after_events}
use Rattle.block_shelf.specs.View.{AreSure, records_of, gate_at}
use Rattle.block_shelf.specs.Scans.{possible_copies}
use Rattle.law_raid.specs.Exact.{RaidsExactly, RaidSpares, RaidLeavesNone}
use Rattle.law_raid.specs.Told.{RaidsAll}
use Rattle.line_proto.specs.declared.reply.LineFault.{LineFault}
use Rattle.line_proto.specs.declared.command.Command.{Command}
use Rattle.line_proto.specs.declared.command.Command.TheVariants as command
use Rattle.line_proto.specs.declared.reply.Reply.{Reply}
use Rattle.line_proto.specs.declared.reply.Reply.TheVariants as reply
use Rattle.cold_scan.specs.declared.header.StartCause.{StartCause}
use Rattle.model_device.specs.Vacating.{Outcome, did, stopped}
use Rattle.model_node.specs.Commands.{Slot, Node, NodeEvent, node_after, Does, EachDevice, Raids, on_device, node_counts}
use Rattle.model_node.specs.Commands.{answer_reply, meta_reply, seen_on, flushed_reply, healed_reply, defragged_reply, expired_reply, raided_reply}
use Rattle.model_node.specs.Run.{ImagesLeft, Carries, node_or}
use Rattle.model_node.proofs.Replied.{only_heal}
use Rattle.model_node.specs.Meaning.{ActsFrom, TendsFrom, left_between}
use Rattle.model_node.specs.Shown.{ShowsGet}
use Rattle.shard_core.specs.View.{ShardView, setup_of}
use Rattle.shard_core.specs.Stands.{Agrees}
use Rattle.shard_core.specs.Calls.{GetsStored, read_answer}
use Rattle.shard_core.specs.declared.refusals.DefragCause.{DefragCause}
use Rattle.shard_core.specs.declared.refusals.WriteRefusal.{WriteRefusal}
use Rattle.core_run.specs.Views.{NodeView, serving, halted, disks_served, views_of, view_at, unknown, AreLater}
use Rattle.core_run.specs.Standing.{Each, StandsOn, StandsSafelyOn, StandsFor, StandsSafely, Halts, HaltsSafely}
use Rattle.core_run.specs.Shown.{HealsAll, RaidsOf, ShowsOn}
use Rattle.node_replies.specs.Digests.{digest_of}
use Rattle.core_run.specs.Calls.{RepliesStored, RaidedExactly, Acts, Tends}
use Rattle.core_run.specs.Sure.{AreSureSince, StaySure, NoneBegun, AllSure}
use Rattle.node_replies.specs.Outcomes.{IsFlushed, IsHealed}
use Rattle.node_replies.specs.Through.{Through}
use Rattle.core_run.specs.Turns.{GoesOn, GetsOn, RepliesTo, RepliesOn, TendTurn, WorksEach, plus_one, plus_both, FlushesOn, FlushesEach, HealsOn, HealsEach}
use Rattle.node_replies.specs.Outcomes.{IsDefragged, IsExpired, IsRaided}
use Rattle.core_run.specs.Turns.{DefragsOn, DefragsEach, ExpiresOn, ExpiresAll, RaidsOn, IsRaid, RaidsEach, slot_for}
use Rattle.core_run.proofs.Places.{moved, events_of, slots_after, node_after_of, nones, no_events}
use Rattle.core_run.proofs.Making.{Made, Along, slot_at, each_length, each_more, along_none}
use Rattle.core_run.proofs.Acting.{Safely, over_any, over_safe, each_moved, event_turn, flush_turns, heal_turns, defrag_turns, expire_turns, raid_turns, tend_turns}
use Rattle.core_run.proofs.Sparing.{leaves_none}
use Rattle.core_run.proofs.Taking.{device_leaves, device_takes}
use Rattle.shard_core.proofs.Events.{runs_made}
use Rattle.core_run.proofs.Surely.{sure_at, sure_through, sure_work}
use Rattle.core_run.proofs.Replying.{known_goes_on, stat_goes_on, flushed_goes_on, healed_goes_on, defragged_goes_on, expired_goes_on, raided_goes_on, only_raid, one_digest}
use Rattle.core_run.proofs.Healing.{none_begun_of, sure_since, heals_sure}
use Rattle.core_run.proofs.Gets.{node_shows, only_get}
use Rattle.core_run.proofs.Left.{each_left}
use Rattle.core_run.proofs.Nodes.{GetShown, BothShown, one_shards, serves_or_halts, later_same, later_at, later_through, acts_any, acts_safe, tends_any, tends_safe}

module _ {D : Type 0} (view : D → DiskView) (is_disk : (disk : D) → IsDisk (view disk)) where
  -- ---- a command, whatever it is, by what it comes to from each state

  module _ (olds news : List (ShardView D)) (c : Command) (now : ℕ) (r : Reply) (later : AreLater view (disks_served olds) (disks_served news))
      (sure : StaySure view (serving olds) (serving news)) (other : c ≢ command.Restart)
      (stored : RepliesStored view olds c now r)
      (exact : c ≡ command.Raid → (removed cleared : ℕ) → r ≡ reply.Raided removed cleared → (node : Node) → Each (StandsSafelyOn view) olds node
      → RaidedExactly view now olds node news removed cleared)
      (healed : c ≡ command.Heal → (gates : ℕ) → r ≡ reply.Healed gates → NoneBegun olds → AllSure news)
      (any : (node : Node) → Each (StandsOn view) olds node → ActsFrom (StandsFor view) unknown (Halts view) (GetShown view c) false (serving olds) node c now r (serving news))
      (safe : (node : Node) → Each (StandsSafelyOn view) olds node
      → ActsFrom (StandsSafely view) (views_of view) (HaltsSafely view) (BothShown view c) true (serving olds) node c now r (serving news)) where
    -- nothing was started again
    not_restarted : (views : NodeView D → ℕ → DiskView) (told : Bool) (node : Node) (work : List NodeEvent) (restarted : Option Node)
        → Carries (left_between views (serving olds) (serving news)) told node c now work restarted r → restarted ≡ None
    not_restarted views told node work restarted (inl made) = made.0
    not_restarted views told node work restarted (inr ends) = absurd (other ends.0)

    halts_never : (before after : Node) → Halts view (serving news) before after → ⊥
    halts_never before after h = serves_or_halts news (h.device, h.cause) h.disks h.is_halted

    -- only of a get there is something to say of what it read
    gets_of : (views : NodeView D → ℕ → DiskView) (told : Bool) (node : Node) (work : List NodeEvent) (restarted : Option Node)
        → Carries (left_between views (serving olds) (serving news)) told node c now work restarted r → GetShown view c (serving olds) node now r work restarted (serving news)
        → ShowsGet (views_of view (serving olds)) node work
    gets_of views told node work restarted (inl made) shown = λ device event digest time is called.
        let get = only_get node now work r device event digest time is called c made.1 in shown get.0 get.1 device event digest time is called
    gets_of views told node work restarted (inr ends) shown = absurd (other ends.0)

    -- the reply to a heal is that of one
    heals_of : (views : NodeView D → ℕ → DiskView) (told : Bool) (node : Node) (work : List NodeEvent) (restarted : Option Node)
        → Carries (left_between views (serving olds) (serving news)) told node c now work restarted r → Each (StandsOn view) olds node
        → (r ≢ reply.Halted → StandsFor view (serving news) (node_or (node_after work node) restarted)) → HealsAll view node r work restarted (serving news)
    heals_of views told node work restarted (inl made) stands after gates is none =
        let shards = after (λ h. let e : reply.Healed gates ≡ reply.Halted = sym is ∙ h in cc) in
        let all = healed (only_heal node c now work r gates made.1 is) gates is (none_begun_of view olds node stands none) in
        let there = subst (λ (s : List (ShardView D)). Each (StandsOn view) s (node_or (node_after work node) restarted)) (sym (one_shards news shards.0 shards.1)) shards.2 in
        sure_since view news (node_or (node_after work node) restarted) there all
    heals_of views told node work restarted (inr ends) stands after gates is none = absurd (other ends.0)

    shows_of : (views : NodeView D → ℕ → DiskView) (told : Bool) (node : Node) (work : List NodeEvent) (restarted : Option Node)
        → Carries (left_between views (serving olds) (serving news)) told node c now work restarted r → (r ≡ reply.Halted → ⊥) → HealsAll view node r work restarted (serving news)
        → (told ≡ true → RaidsOf view (serving olds) node now r work restarted (serving news)) → GetShown view c (serving olds) node now r work restarted (serving news)
        → ShowsOn view told (serving olds) node now r work restarted (serving news)
    shows_of views told node work restarted carried goes heals raids gets = record {
      again = λ fresh is. absurd (none_is fresh (sym (not_restarted views told node work restarted carried) ∙ is));
      refused = λ is. absurd (goes is);
      sure = λ fresh is. absurd (none_is fresh (sym (not_restarted views told node work restarted carried) ∙ is));
      healed = heals;
      raided = raids;
      got = gets_of views told node work restarted carried gets;
    }
      where
        none_is : (fresh : Node) → None ≡ Some fresh → ⊥
        none_is fresh is = cc

    -- only of a raid there is something to say
    raids_of : (node : Node) (work : List NodeEvent) (restarted : Option Node)
        → Carries (left_between (views_of view) (serving olds) (serving news)) true node c now work restarted r
        → (c ≡ command.Raid → RaidsOf view (serving olds) node now r work restarted (serving news)) → RaidsOf view (serving olds) node now r work restarted (serving news)
    raids_of node work restarted (inl made) shown removed cleared is = shown (only_raid node c now work r removed cleared made.1 is) removed cleared is
    raids_of node work restarted (inr ends) shown removed cleared is = absurd (other ends.0)

    not_told : false ≡ true → ⊥
    not_told is = cc

    plainly : (node : Node) → StandsSafely view (serving news) node → StandsFor view (serving news) node
    plainly node stands = (stands.0, stands.1, each_more (StandsSafelyOn view) (StandsOn view) (λ shard slot s. s.stands) stands.0 node stands.2)

    acts_from : (node : Node) → StandsFor view (serving olds) node → ActsFrom (StandsFor view) unknown (Halts view) (ShowsOn view false) false (serving olds) node c now r (serving news)
    acts_from node stands =
        let here = subst (λ (s : List (ShardView D)). Each (StandsOn view) s node) (sym (one_shards olds stands.0 stands.1)) stands.2 in
        let a = any node here in
        record {
          work = a.work;
          restarted = a.restarted;
          carried = a.carried;
          legal = a.legal;
          stands = a.stands;
          leaves = a.leaves;
          halt = a.halt;
          shows = shows_of unknown false node a.work a.restarted a.carried (λ is. halts_never node _ (a.halt is))
              (heals_of unknown false node a.work a.restarted a.carried here a.stands) (λ is. absurd (not_told is)) a.shows;
        }

    pub acts_serving : Acts view (serving olds) c now r (serving news)
    acts_serving = record {
      later = later;
      any = acts_from;
      safe = λ node stands.
          let here = subst (λ (s : List (ShardView D)). Each (StandsSafelyOn view) s node) (sym (one_shards olds stands.0 stands.1)) stands.2 in
          let a = safe node here in
          record {
            work = a.work;
            restarted = a.restarted;
            carried = a.carried;
            legal = a.legal;
            stands = a.stands;
            leaves = a.leaves;
            halt = a.halt;
            shows = shows_of (views_of view) true node a.work a.restarted a.carried (λ is. halts_never node _ (a.halt is).halts)
                (heals_of (views_of view) true node a.work a.restarted a.carried (each_more (StandsSafelyOn view) (StandsOn view) (λ shard slot s. s.stands) olds node here) (λ goes. plainly (node_or (node_after a.work node) a.restarted) (a.stands goes)))
                (λ is. raids_of node a.work a.restarted a.carried a.shows.0) a.shows.1;
          };
      stored = λ shards same. subst (λ (s : List (ShardView D)). RepliesStored view s c now r) (one_shards olds shards same) stored;
      again = λ shards same is. absurd (other is);
      exact = λ before after same then is removed cleared told node stands.
          let one = one_shards olds before same in
          let two = one_shards news after then in
          subst (λ (x : List (ShardView D)). RaidedExactly view now x node after removed cleared) one
          (subst (λ (x : List (ShardView D)). RaidedExactly view now olds node x removed cleared) two
          (exact is removed cleared told node (subst (λ (x : List (ShardView D)). Each (StandsSafelyOn view) x node) (sym one) stands)));
      healed = λ before after same then is gates told none.
          subst (λ (x : List (ShardView D)). AllSure x) (one_shards news after then) (healed is gates told (subst (λ (x : List (ShardView D)). NoneBegun x) (sym (one_shards olds before same)) none));
      sure = sure;
      left = λ node stands. each_left false node (acts_from node stands).work (acts_from node stands).legal;
      stays = λ why disks same. absurd (serves_or_halts olds why disks same);
    }

  -- ---- a command on a digest

  module _ (olds : List (ShardView D)) (digest : Digest) (old new : ShardView D) (at : slice_get olds (device_number (length olds) digest) ≡ Some old) (goes : GoesOn view old new) where
    abbrev Place : ℕ
    Place = device_number (length olds) digest

    abbrev News : List (ShardView D)
    News = set olds Place new

    later : AreLater view (disks_served olds) (disks_served News)
    later = later_at view is_disk olds Place old new at goes.later

    module _ (call : Call) (c : Command) (now : ℕ) (r : Reply) (replies : RepliesTo view call old r new) (other : c ≢ command.Restart) (none : c ≢ command.Raid) (unhealed : c ≢ command.Heal)
        (stored : RepliesStored view olds c now r)
        (gets : (node : Node) → Each (StandsOn view) olds node → (event : Event) (work : List NodeEvent) → event.call ≡ call → event.answer ≡ replies.0 → work ≡ on_device Place event ∷ []
        → GetShown view c (serving olds) node now r work None (serving News))
        (does : (node : Node) (event : Event) (work : List NodeEvent) → work ≡ on_device (device_number (length node) digest) event ∷ [] → event.call ≡ call → r ≡ answer_reply event.answer
        → Does node c now work r) where
      at_node : (node : Node) (event : Event) (work : List NodeEvent) → length node ≡ length olds → work ≡ on_device Place event ∷ [] → work ≡ on_device (device_number (length node) digest) event ∷ []
      at_node node event work same is = is ∙ ap (λ (n : ℕ). on_device (device_number n digest) event ∷ []) (sym same)

      from_any : (node : Node) → Each (StandsOn view) olds node → ActsFrom (StandsFor view) unknown (Halts view) (GetShown view c) false (serving olds) node c now r (serving News)
      from_any node stands =
          let t = event_turn view (StandsOn view) (Made false (StandsOn view)) (over_any view) olds Place old new node call replies.0 (slice_get_within olds Place old at) at goes replies.3 stands in
          acts_any view olds News node t.0 t.1 c now r
          (does node t.2 (events_of t.0) (at_node node t.2 (events_of t.0) (each_length (StandsOn view) olds node stands) t.5) t.3 (replies.1 ∙ ap answer_reply (sym t.4))) replies.2
          (gets node stands t.2 (events_of t.0) t.3 t.4 t.5)

      from_safe : (node : Node) → Each (StandsSafelyOn view) olds node
          → ActsFrom (StandsSafely view) (views_of view) (HaltsSafely view) (BothShown view c) true (serving olds) node c now r (serving News)
      from_safe node stands =
          let t = event_turn view (StandsSafelyOn view) (Safely view) (over_safe view is_disk) olds Place old new node call replies.0 (slice_get_within olds Place old at) at goes replies.3 stands in
          acts_safe view olds News node t.0 t.1 c now r
          (does node t.2 (events_of t.0) (at_node node t.2 (events_of t.0) (each_length (StandsSafelyOn view) olds node stands) t.5) t.3 (replies.1 ∙ ap answer_reply (sym t.4)))
          replies.2 (
            (λ raid. absurd (none raid)),
            gets node (each_more (StandsSafelyOn view) (StandsOn view) (λ shard slot s. s.stands) olds node stands) t.2 (events_of t.0) t.3 t.4 t.5,
          )

      event_acts : Acts view (serving olds) c now r (serving News)
      event_acts = acts_serving olds News c now r later (sure_at view olds Place old new at goes) other stored (λ is. absurd (none is)) (λ is. absurd (unhealed is)) from_any from_safe

    -- what is known of a record
    module _ (now : ℕ) (r : Reply) (same : new ≡ old) (knows : (s : State) → Agrees old s → r ≡ meta_reply (seen s now digest)) where
      news_same : News ≡ olds
      news_same = ap (λ (s : ShardView D). set olds Place s) same ∙ set_unchanged olds Place old (sym (get_or_from_slice_get olds Place old old at))

      told : (node : Node) → Each (StandsOn view) olds node → r ≡ meta_reply (seen_on (slice_get node (device_number (length node) digest)) now digest)
      told node stands =
          let here = slot_at (StandsOn view) olds node Place old stands at in
          let place : slice_get node (device_number (length node) digest) ≡ Some here.0 =
          ap (λ (n : ℕ). slice_get node (device_number n digest)) (each_length (StandsOn view) olds node stands) ∙ here.1 in
          knows here.0.state here.2.agrees ∙ ap (λ (slot : Option Slot). meta_reply (seen_on slot now digest)) (sym place)

      goes_on : (node : Node) → Each (StandsOn view) olds node → r ≢ reply.Halted
      goes_on node stands = λ h. known_goes_on _ (sym (told node stands) ∙ h)

      still : List NodeEvent
      still = []

      know_any : (node : Node) → Each (StandsOn view) olds node
          → ActsFrom (StandsFor view) unknown (Halts view) (GetShown view (command.Meta digest)) false (serving olds) node (command.Meta digest) now r (serving olds)
      know_any node stands =
          acts_any view olds olds node (nones (length olds)) (along_none (Made false (StandsOn view)) (StandsOn view) (over_any view).rests olds node stands) (command.Meta digest) now r
          (no_events (length olds), told node stands) (goes_on node stands) (λ d get. cc)

      know_safe : (node : Node) → Each (StandsSafelyOn view) olds node
          → ActsFrom (StandsSafely view) (views_of view) (HaltsSafely view) (BothShown view (command.Meta digest)) true (serving olds) node (command.Meta digest) now r (serving olds)
      know_safe node stands =
          let plain = each_more (StandsSafelyOn view) (StandsOn view) (λ shard slot s. s.stands) olds node stands in
          acts_safe view olds olds node (nones (length olds)) (along_none (Safely view) (StandsSafelyOn view) (over_safe view is_disk).rests olds node stands) (command.Meta digest) now r
          (no_events (length olds), told node plain) (goes_on node plain) ((λ raid. cc), (λ d get. cc))

      meta_acts : Acts view (serving olds) (command.Meta digest) now r (serving News)
      meta_acts = subst (λ (s : List (ShardView D)). Acts view (serving olds) (command.Meta digest) now r (serving s)) (sym news_same)
          (acts_serving olds olds (command.Meta digest) now r (later_same view is_disk (disks_served olds)) (λ counts sure. sure) (λ is. cc) tt (λ is. absurd cc) (λ is. absurd cc) know_any know_safe)

    by_command : (c : Command) (now : ℕ) (r : Reply) → digest_of c ≡ Some digest → RepliesOn view old c now r new → Acts view (serving olds) c now r (serving News)
    by_command (command.Put d ttl expect payload) now r on replies =
        let same : d ≡ digest = one_digest d digest on in
        subst (λ (x : Digest). Acts view (serving olds) (command.Put x ttl expect payload) now r (serving News)) (sym same)
        (event_acts (put_call digest ttl expect payload now) (command.Put digest ttl expect payload) now r
        (subst (λ (x : Digest). RepliesTo view (put_call x ttl expect payload now) old r new) same replies)
        (λ is. cc) (λ is. cc) (λ is. cc) tt (λ node stands event work is_call given made d get. cc) (λ node event work at is_call given. (event, at, is_call, given)))
    by_command (command.Get d) now r on replies =
        let same : d ≡ digest = one_digest d digest on in
        let mine : GetsOn view old digest now r new = subst (λ (x : Digest). RepliesOn view old (command.Get x) now r new) same replies in
        subst (λ (x : Digest). Acts view (serving olds) (command.Get x) now r (serving News)) (sym same)
        (event_acts (get_call digest now) (command.Get digest) now r (read_answer mine.got, mine.reply_is, mine.goes_on, mine.makes) (λ is. cc) (λ is. cc) (λ is. cc)
        (mine.got, mine.reply_is, subst (λ (o : Option (ShardView D)). MatchOption o ⊥ (λ shard. GetsStored view shard digest now mine.got)) (sym at) mine.stored)
        (λ node stands event work is_call given made d get. node_shows view olds Place old at node stands mine.whole.0 mine.whole.1 digest mine.own now mine.got mine.stored
        event work is_call given made)
        (λ node event work at is_call given. (event, at, is_call, given)))
    by_command (command.Meta d) now r on replies =
        let same : d ≡ digest = one_digest d digest on in
        subst (λ (x : Digest). Acts view (serving olds) (command.Meta x) now r (serving News)) (sym same)
        (meta_acts now r replies.0 (λ s agrees. replies.1 s agrees ∙ ap (λ (x : Digest). meta_reply (seen s now x)) same))
    by_command (command.Del d) now r on replies =
        let same : d ≡ digest = one_digest d digest on in
        subst (λ (x : Digest). Acts view (serving olds) (command.Del x) now r (serving News)) (sym same)
        (event_acts (delete_call digest now) (command.Del digest) now r (subst (λ (x : Digest). RepliesTo view (delete_call x now) old r new) same replies)
        (λ is. cc) (λ is. cc) (λ is. cc) tt (λ node stands event work is_call given made d get. cc) (λ node event work at is_call given. (event, at, is_call, given)))
    by_command (command.Bury d) now r on replies =
        let same : d ≡ digest = one_digest d digest on in
        subst (λ (x : Digest). Acts view (serving olds) (command.Bury x) now r (serving News)) (sym same)
        (event_acts (bury_call digest now) (command.Bury digest) now r (subst (λ (x : Digest). RepliesTo view (bury_call x now) old r new) same replies)
        (λ is. cc) (λ is. cc) (λ is. cc) tt (λ node stands event work is_call given made d get. cc) (λ node event work at is_call given. (event, at, is_call, given)))
    by_command command.Flush now r on replies = cc
    by_command command.Heal now r on replies = cc
    by_command command.Defrag now r on replies = cc
    by_command command.Expire now r on replies = cc
    by_command command.Raid now r on replies = cc
    by_command command.Stat now r on replies = cc
    by_command command.Restart now r on replies = cc
    by_command command.Quit now r on replies = cc

  pub digest_acts : (olds : List (ShardView D)) (place : ℕ) (digest : Digest) (old new : ShardView D) → place ≡ device_number (length olds) digest
      → slice_get olds place ≡ Some old → GoesOn view old new
      → (c : Command) (now : ℕ) (r : Reply) → digest_of c ≡ Some digest → RepliesOn view old c now r new → Acts view (serving olds) c now r (serving (set olds place new))
  digest_acts olds place digest old new is at goes c now r on replies =
      subst (λ (n : ℕ). Acts view (serving olds) c now r (serving (set olds n new))) (sym is)
      (by_command olds digest old new (subst (λ (n : ℕ). slice_get olds n ≡ Some old) is at) goes c now r on replies)

  -- ---- a flush, a defragmentation, and an expiry

  work_later : {R E : Type 0} (Does : Result R E → ShardView D → ShardView D → Type 0) (plus : R → R → R) → ((result : Result R E) (old new : ShardView D) → Does result old new → GoesOn view old new)
      → (result : Result R E) (a : R) (olds news : List (ShardView D)) → WorksEach Does plus result a olds news → AreLater view (disks_served olds) (disks_served news)
  work_later Does plus goes (Ok sum) a [] news each = ap disks_served each.0
  work_later Does plus goes (Err why) a [] news each = absurd each
  work_later Does plus goes (Ok sum) a (old ∷ olds) [] each = absurd each
  work_later Does plus goes (Err why) a (old ∷ olds) [] each = absurd each
  work_later Does plus goes (Ok sum) a (old ∷ olds) (new ∷ news) (x, does, more) = ((goes (Ok x) old new does).later, work_later Does plus goes (Ok sum) (plus a x) olds news more)
  work_later Does plus goes (Err why) a (old ∷ olds) (new ∷ news) (inl (does, same)) =
      ((goes (Err why) old new does).later, subst (λ (s : List (ShardView D)). AreLater view (disks_served olds) (disks_served s)) (sym same) (later_same view is_disk (disks_served olds)))
  work_later Does plus goes (Err why) a (old ∷ olds) (new ∷ news) (inr (x, does, more)) = ((goes (Ok x) old new does).later, work_later Does plus goes (Err why) (plus a x) olds news more)

  pub flush_acts : {E : Type 0} (flushed : Result ℕ E) (olds news : List (ShardView D)) (now : ℕ) (r : Reply) → FlushesEach view flushed olds news
      → ((outcome : Outcome) → IsFlushed flushed outcome → r ≡ flushed_reply outcome) → Acts view (serving olds) command.Flush now r (serving news)
  flush_acts {E} flushed olds news now r each is =
      acts_serving olds news command.Flush now r (work_later (FlushesOn {E = E} view) plus_one (λ result old new does. does.goes) flushed 0 olds news each)
      (sure_work view (FlushesOn {E = E} view) plus_one (λ result old new does. does.goes) flushed 0 olds news each) (λ e. cc) tt (λ e. absurd cc) (λ e. absurd cc)
      (λ node stands.
      let t = flush_turns view (StandsOn view) (Made false (StandsOn view)) (over_any view) flushed olds news node each stands in
      acts_any view olds news node t.0 t.1 command.Flush now r (t.2.0, t.2.2, is t.2.0 t.2.1) (λ h. flushed_goes_on t.2.0 (sym (is t.2.0 t.2.1) ∙ h)) (λ d get. cc))
      (λ node stands.
      let t = flush_turns view (StandsSafelyOn view) (Safely view) (over_safe view is_disk) flushed olds news node each stands in
      acts_safe view olds news node t.0 t.1 command.Flush now r (t.2.0, t.2.2, is t.2.0 t.2.1) (λ h. flushed_goes_on t.2.0 (sym (is t.2.0 t.2.1) ∙ h)) ((λ raid. cc), (λ d get. cc)))

  -- behind one that isn't refused no gate is unsure, where no gate's write had begun
  heal_known : {E : Type 0} (healed : Result ℕ E) (olds news : List (ShardView D)) (r : Reply) → HealsEach view healed olds news
      → ((outcome : Outcome) → IsHealed healed outcome → r ≡ healed_reply outcome) → (gates : ℕ) → r ≡ reply.Healed gates → NoneBegun olds → AllSure news
  heal_known {E} (Ok n) olds news r each is gates told none = heals_sure view E n 0 olds news each none
  heal_known (Err fault) olds news r each is gates told none = let e : healed_reply (stopped disk_fault) ≡ reply.Healed gates = sym (is (stopped disk_fault) (disk_fault, refl, refl)) ∙ told in absurd cc

  pub heal_acts : {E : Type 0} (healed : Result ℕ E) (olds news : List (ShardView D)) (now : ℕ) (r : Reply) → HealsEach view healed olds news
      → ((outcome : Outcome) → IsHealed healed outcome → r ≡ healed_reply outcome) → Acts view (serving olds) command.Heal now r (serving news)
  heal_acts {E} healed olds news now r each is =
      acts_serving olds news command.Heal now r (work_later (HealsOn {E = E} view) plus_one (λ result old new does. does.goes) healed 0 olds news each)
      (sure_work view (HealsOn {E = E} view) plus_one (λ result old new does. does.goes) healed 0 olds news each) (λ e. cc) tt (λ e. absurd cc)
      (λ e. heal_known healed olds news r each is)
      (λ node stands.
      let t = heal_turns view (StandsOn view) (Made false (StandsOn view)) (over_any view) healed olds news node each stands in
      acts_any view olds news node t.0 t.1 command.Heal now r (t.2.0, t.2.2, is t.2.0 t.2.1) (λ h. healed_goes_on t.2.0 (sym (is t.2.0 t.2.1) ∙ h)) (λ d get. cc))
      (λ node stands.
      let t = heal_turns view (StandsSafelyOn view) (Safely view) (over_safe view is_disk) healed olds news node each stands in
      acts_safe view olds news node t.0 t.1 command.Heal now r (t.2.0, t.2.2, is t.2.0 t.2.1) (λ h. healed_goes_on t.2.0 (sym (is t.2.0 t.2.1) ∙ h)) ((λ raid. cc), (λ d get. cc)))

  pub defrag_acts : (result : Result (ℕ × ℕ) DefragCause) (olds news : List (ShardView D)) (now : ℕ) (r : Reply) → DefragsEach view result olds news
      → ((outcome : Outcome) → IsDefragged result outcome → r ≡ defragged_reply outcome) → Acts view (serving olds) command.Defrag now r (serving news)
  defrag_acts result olds news now r each is =
      acts_serving olds news command.Defrag now r (work_later (DefragsOn view) plus_both (λ done old new does. does.goes) result (0, 0) olds news each)
      (sure_work view (DefragsOn view) plus_both (λ done old new does. does.goes) result (0, 0) olds news each) (λ e. cc) tt (λ e. absurd cc) (λ e. absurd cc)
      (λ node stands.
      let t = defrag_turns view (StandsOn view) (Made false (StandsOn view)) (over_any view) result olds news node each stands in
      acts_any view olds news node t.0 t.1 command.Defrag now r (t.2.0, t.2.2, is t.2.0 t.2.1) (λ h. defragged_goes_on t.2.0 (sym (is t.2.0 t.2.1) ∙ h)) (λ d get. cc))
      (λ node stands.
      let t = defrag_turns view (StandsSafelyOn view) (Safely view) (over_safe view is_disk) result olds news node each stands in
      acts_safe view olds news node t.0 t.1 command.Defrag now r (t.2.0, t.2.2, is t.2.0 t.2.1) (λ h. defragged_goes_on t.2.0 (sym (is t.2.0 t.2.1) ∙ h)) ((λ raid. cc), (λ d get. cc)))

  pub expire_acts : (result : Result ℕ WriteRefusal) (olds news : List (ShardView D)) (now : ℕ) (r : Reply) → ExpiresAll view now result olds news
      → ((outcome : Outcome) → IsExpired result outcome → r ≡ expired_reply outcome) → Acts view (serving olds) command.Expire now r (serving news)
  expire_acts result olds news now r each is =
      acts_serving olds news command.Expire now r (work_later (ExpiresOn view now) plus_one (λ done old new does. does.goes) result 0 olds news each)
      (sure_work view (ExpiresOn view now) plus_one (λ done old new does. does.goes) result 0 olds news each) (λ e. cc) tt (λ e. absurd cc) (λ e. absurd cc)
      (λ node stands.
      let t = expire_turns view (StandsOn view) (Made false (StandsOn view)) (over_any view) now result olds news node each stands in
      acts_any view olds news node t.0 t.1 command.Expire now r (t.2.0, t.2.2, is t.2.0 t.2.1) (λ h. expired_goes_on t.2.0 (sym (is t.2.0 t.2.1) ∙ h)) (λ d get. cc))
      (λ node stands.
      let t = expire_turns view (StandsSafelyOn view) (Safely view) (over_safe view is_disk) now result olds news node each stands in
      acts_safe view olds news node t.0 t.1 command.Expire now r (t.2.0, t.2.2, is t.2.0 t.2.1) (λ h. expired_goes_on t.2.0 (sym (is t.2.0 t.2.1) ∙ h)) ((λ raid. cc), (λ d get. cc)))

  -- ---- a raid

  -- what each device removed and cleared comes to what all did
  each_exact : (now : ℕ) (sums a : ℕ × ℕ) (olds news : List (ShardView D)) (node : Node) → WorksEach (RaidsOn view now) plus_both (Ok sums) a olds news → Each (StandsSafelyOn view) olds node
      → (others : ℕ × ℕ) × (sums.0 ≡ a.0 + others.0) × (sums.1 ≡ a.1 + others.1) × RaidedExactly view now olds node news others.0 others.1
  each_exact now sums a [] news node each stands = let same = each.1 in ((0, 0), omega (arith, ap (λ (p : ℕ × ℕ). p.0) same), omega (arith, ap (λ (p : ℕ × ℕ). p.1) same), (refl, refl))
  each_exact now sums a (old ∷ olds) [] node each stands = absurd each
  each_exact now sums a (old ∷ olds) (new ∷ news) [] each stands = absurd stands
  each_exact now sums a (old ∷ olds) (new ∷ news) (slot ∷ node) (one, raids, more) stands =
      let m = raids.makes slot.state stands.0.stands.agrees in
      let rest = each_exact now sums (plus_both a one) olds news node more stands.1 in
      let here : (AreSure old.shelf.gates → RaidsExactly slot.setup now slot.state (possible_copies view old.shelf slot.state) one.0 one.1 (after_events (setup_of old) m.events slot.state)) =
      λ sure. subst (λ (x : Setup). RaidsExactly x now slot.state (possible_copies view old.shelf slot.state) one.0 one.1 (after_events (setup_of old) m.events slot.state))
      (sym stands.0.stands.setup_is)
      (m.works.3 sure stands.0.honest stands.0.safe) in
      let after : State = after_events (setup_of old) m.events slot.state in
      let spares : RaidSpares slot.state (possible_copies view new.shelf after) after = m.works.4 stands.0.honest stands.0.safe in
      let left : RaidLeavesNone slot.setup slot.state after (view new.shelf.disk).may_leave = subst (λ (x : Setup). RaidLeavesNone x slot.state after (view new.shelf.disk).may_leave)
      (sym stands.0.stands.setup_is)
      (leaves_none (setup_of old) new.shelf.geometry slot.state after (records_of new.shelf.buffers) (gate_at new.shelf.gates) (view new.shelf.disk).may_leave
      (m.safe stands.0.honest stands.0.safe).safe.held spares) in (
        (one.0 + rest.0.0, one.1 + rest.0.1),
        omega (arith, rest.1),
        omega (arith, rest.2),
        (
          one.0,
          one.1,
          rest.0,
          refl,
          refl,
          (after, m.stands, spares, left, here),
          rest.3,
        ),
      )

  raid_exact_each : (result : Result (ℕ × ℕ) LineFault) (olds news : List (ShardView D)) (now : ℕ) (r : Reply) → RaidsEach view now result olds news
      → ((outcome : Outcome) → IsRaided result outcome → r ≡ raided_reply outcome)
      → (removed cleared : ℕ) → r ≡ reply.Raided removed cleared → (node : Node) → Each (StandsSafelyOn view) olds node → RaidedExactly view now olds node news removed cleared
  raid_exact_each (Ok sums) olds news now r each is removed cleared told node stands =
      let all = each_exact now sums (0, 0) olds news node each stands in
      let both : reply.Raided sums.0 sums.1 ≡ reply.Raided removed cleared = sym (is (did sums.0 sums.1) refl) ∙ told in
      let one : sums.0 ≡ removed = cc in
      let two : sums.1 ≡ cleared = cc in
      let gone : all.0.0 ≡ removed = omega (arith, all.1, one) in
      let bare : all.0.1 ≡ cleared = omega (arith, all.2, two) in
      subst (λ (n : ℕ). RaidedExactly view now olds node news n cleared) gone (subst (λ (n : ℕ). RaidedExactly view now olds node news all.0.0 n) bare all.3)
  raid_exact_each (Err fault) olds news now r each is removed cleared told node stands =
      let t = raid_turns view (StandsSafelyOn view) (Safely view) (over_safe view is_disk) now (Err fault) olds news node each stands in
      let both : raided_reply (stopped t.2.1.0) ≡ reply.Raided removed cleared = ap raided_reply (sym t.2.1.2) ∙ sym (is t.2.0 t.2.1) ∙ told in
      absurd cc

  -- What each may leave before it and behind it, of a raid of each device, comes to what all did.
  abbrev LeftBy : List (ShardView D) → ImagesLeft
  LeftBy shards = λ device. (view_at view (disks_served shards) device).may_leave

  abbrev Took : (now : ℕ) (olds news : List (ShardView D)) (node : Node) (mines : List (List Event)) (sums a : ℕ × ℕ) → Type 0
  Took now olds news node mines sums a = (counts : List ℕ) → AreSureSince view counts olds → (others : ℕ × ℕ) × (sums.0 ≡ a.0 + others.0) × (sums.1 ≡ a.1 + others.1)
      × RaidsAll counts (LeftBy olds) (LeftBy news) now node (slots_after mines node) others.0 others.1

  abbrev RaidTurned : (now : ℕ) (sums a : ℕ × ℕ) (olds news : List (ShardView D)) (node : Node) → Type 0
  RaidTurned now sums a olds news node = (mines : List (List Event)) × Along (Safely view) olds news node mines
      × EachDevice (Raids now) 0 node a.0 a.1 (events_of mines) (did sums.0 sums.1) × Took now olds news node mines sums a

  took_one : (now : ℕ) (sums a : ℕ × ℕ) (old new : ShardView D) (olds news : List (ShardView D)) (slot : Slot) (node : Node) (one : ℕ × ℕ) (raids : RaidsOn view now (Ok one) old new)
      (stands : StandsSafelyOn view old slot) (mines : List (List Event)) → Took now olds news node mines sums (plus_both a one)
      → Took now (old ∷ olds) (new ∷ news) (slot ∷ node) ((raids.makes slot.state stands.stands.agrees).events ∷ mines) sums a
  took_one now sums a old new olds news slot node one raids stands mines rest [] since = absurd since
  took_one now sums a old new olds news slot node one raids stands mines rest (count ∷ counts) since =
      let more = rest counts since.1 in (
        (one.0 + more.0.0, one.1 + more.0.1),
        omega (arith, more.1),
        omega (arith, more.2),
        (
          one.0,
          one.1,
          more.0,
          refl,
          refl,
          device_leaves view now old new slot one raids stands,
          device_takes view now old new slot one raids stands count since.0,
          more.3,
        ),
      )

  raid_shown : (now : ℕ) (sums a : ℕ × ℕ) (olds news : List (ShardView D)) (node : Node) → WorksEach (RaidsOn view now) plus_both (Ok sums) a olds news → Each (StandsSafelyOn view) olds node
      → RaidTurned now sums a olds news node
  raid_shown now sums a [] news node each stands = (
    [],
    (each.0, stands, refl),
    subst (λ (x : Node). EachDevice (Raids now) 0 x a.0 a.1 [] (did sums.0 sums.1)) (sym stands) (refl, ap (λ (r : ℕ × ℕ). did r.0 r.1) each.1),
    λ counts since.
        let same = each.1 in (
          (0, 0),
          omega (arith, ap (λ (p : ℕ × ℕ). p.0) same),
          omega (arith, ap (λ (p : ℕ × ℕ). p.1) same),
          subst (λ (x : Node). RaidsAll counts (LeftBy []) (LeftBy news) now x (slots_after [] x) 0 0) (sym stands) (refl, refl),
        ),
  )
  raid_shown now sums a (old ∷ olds) [] node each stands = absurd each
  raid_shown now sums a (old ∷ olds) (new ∷ news) [] each stands = absurd stands
  raid_shown now sums a (old ∷ olds) (new ∷ news) (slot ∷ node) (one, raids, more) stands =
      let on = stands.0.stands in
      let m = raids.makes slot.state on.agrees in
      let same : slot_for view old slot.state ≡ slot = λ i. record { setup = sym on.setup_is i; state = slot.state; faults = sym on.faults_is i } in
      let rest = raid_shown now sums (plus_both a one) olds news node more stands.1 in (
        m.events ∷ rest.0,
        ((over_safe view is_disk).many old new raids.goes slot m.events (runs_made view old new slot.state (IsRaid view old new now slot.state (Ok one)) m) stands.0, rest.1),
        (
          m.events,
          map moved (events_of rest.0),
          refl,
          inl (
            one.0,
            one.1,
            subst (Raids now slot m.events) m.works.1 (subst (λ (x : Slot). Raids now x m.events m.works.0) same m.works.2),
            each_moved (Raids now) 0 node (a.0 + one.0) (a.1 + one.1) (events_of rest.0) (did sums.0 sums.1) rest.2,
          ),
        ),
        took_one now sums a old new olds news slot node one raids stands.0 rest.0 rest.3,
      )

  raid_safe : (result : Result (ℕ × ℕ) LineFault) (olds news : List (ShardView D)) (now : ℕ) (r : Reply) → RaidsEach view now result olds news
      → ((outcome : Outcome) → IsRaided result outcome → r ≡ raided_reply outcome) → (node : Node) → Each (StandsSafelyOn view) olds node
      → ActsFrom (StandsSafely view) (views_of view) (HaltsSafely view) (BothShown view command.Raid) true (serving olds) node command.Raid now r (serving news)
  raid_safe (Ok sums) olds news now r each is node stands =
      let t = raid_shown now sums (0, 0) olds news node each stands in
      let told : r ≡ reply.Raided sums.0 sums.1 = is (did sums.0 sums.1) refl in
      acts_safe view olds news node t.0 t.1 command.Raid now r (did sums.0 sums.1, t.2, told) (λ h. raided_goes_on (did sums.0 sums.1) (sym told ∙ h)) (
        (λ raid removed cleared so counts since.
            let took = t.3 counts since in
            let both : reply.Raided sums.0 sums.1 ≡ reply.Raided removed cleared = sym told ∙ so in
            let one : sums.0 ≡ removed = cc in
            let two : sums.1 ≡ cleared = cc in
            let gone : took.0.0 ≡ removed = omega (arith, took.1, one) in
            let bare : took.0.1 ≡ cleared = omega (arith, took.2, two) in
            subst (λ (x : Node). RaidsAll counts (LeftBy olds) (LeftBy news) now node x removed cleared) (sym (node_after_of t.0 node))
            (subst (λ (n : ℕ). RaidsAll counts (LeftBy olds) (LeftBy news) now node (slots_after t.0 node) n cleared) gone
            (subst (λ (n : ℕ). RaidsAll counts (LeftBy olds) (LeftBy news) now node (slots_after t.0 node) took.0.0 n) bare took.3))),
        (λ d get. cc),
      )
  raid_safe (Err fault) olds news now r each is node stands =
      let t = raid_turns view (StandsSafelyOn view) (Safely view) (over_safe view is_disk) now (Err fault) olds news node each stands in
      acts_safe view olds news node t.0 t.1 command.Raid now r (t.2.0, t.2.2, is t.2.0 t.2.1) (λ h. raided_goes_on t.2.0 (sym (is t.2.0 t.2.1) ∙ h)) (
        (λ raid removed cleared so.
            let both : raided_reply (stopped t.2.1.0) ≡ reply.Raided removed cleared = ap raided_reply (sym t.2.1.2) ∙ sym (is t.2.0 t.2.1) ∙ so in
            absurd cc),
        (λ d get. cc),
      )

  pub raid_acts : (result : Result (ℕ × ℕ) LineFault) (olds news : List (ShardView D)) (now : ℕ) (r : Reply) → RaidsEach view now result olds news
      → ((outcome : Outcome) → IsRaided result outcome → r ≡ raided_reply outcome) → Acts view (serving olds) command.Raid now r (serving news)
  raid_acts result olds news now r each is =
      acts_serving olds news command.Raid now r (work_later (RaidsOn view now) plus_both (λ done old new does. does.goes) result (0, 0) olds news each)
      (sure_work view (RaidsOn view now) plus_both (λ done old new does. does.goes) result (0, 0) olds news each) (λ e. cc) tt
      (λ e. raid_exact_each result olds news now r each is) (λ e. absurd cc)
      (λ node stands.
      let t = raid_turns view (StandsOn view) (Made false (StandsOn view)) (over_any view) now result olds news node each stands in
      acts_any view olds news node t.0 t.1 command.Raid now r (t.2.0, t.2.2, is t.2.0 t.2.1) (λ h. raided_goes_on t.2.0 (sym (is t.2.0 t.2.1) ∙ h)) (λ d get. cc))
      (λ node stands. raid_safe result olds news now r each is node stands)

  -- ---- the numbers

  pub stat_acts : (olds : List (ShardView D)) (now : ℕ) (counts : Counts) → ((node : Node) → Each (StandsOn view) olds node → counts ≡ node_counts node)
      → Acts view (serving olds) command.Stat now (reply.StatOf counts) (serving olds)
  stat_acts olds now counts told =
      acts_serving olds olds command.Stat now (reply.StatOf counts) (later_same view is_disk (disks_served olds)) (λ counts sure. sure) (λ e. cc) tt (λ e. absurd cc) (λ e. absurd cc)
      (λ node stands.
      acts_any view olds olds node (nones (length olds)) (along_none (Made false (StandsOn view)) (StandsOn view) (over_any view).rests olds node stands) command.Stat now (reply.StatOf counts)
      (no_events (length olds), ap reply.StatOf (told node stands)) (stat_goes_on counts) (λ d get. cc))
      (λ node stands.
      let plain = each_more (StandsSafelyOn view) (StandsOn view) (λ shard slot s. s.stands) olds node stands in
      acts_safe view olds olds node (nones (length olds)) (along_none (Safely view) (StandsSafelyOn view) (over_safe view is_disk).rests olds node stands) command.Stat now (reply.StatOf counts)
      (no_events (length olds), ap reply.StatOf (told node plain)) (stat_goes_on counts) ((λ raid. cc), (λ d get. cc)))

  -- ---- tending

  tends_from : {A : Type 0} (a b : A) (olds news : List (ShardView D)) → Through (TendTurn view) (length olds) a olds news b → (node : Node) → StandsFor view (serving olds) node
      → TendsFrom (StandsFor view) unknown false (serving olds) node (serving news)
  tends_from {A} a b olds news through node stands =
      let here = subst (λ (s : List (ShardView D)). Each (StandsOn view) s node) (sym (one_shards olds stands.0 stands.1)) stands.2 in
      let t = tend_turns view (StandsOn view) (Made false (StandsOn view)) (over_any view) a b olds news node through here in
      tends_any view olds news node t.0 t.1 t.2

  pub tend_tends : {A : Type 0} (a b : A) (olds news : List (ShardView D)) → Through (TendTurn view) (length olds) a olds news b → Tends view (serving olds) (serving news)
  tend_tends {A} a b olds news through = record {
    later = later_through view (TendTurn {A = A} view) (λ x old new y turn. turn.goes.later) a b olds news through;
    any = tends_from a b olds news through;
    left = λ node stands. each_left false node (tends_from a b olds news through node stands).tended (tends_from a b olds news through node stands).legal;
    safe = λ node stands.
        let here = subst (λ (s : List (ShardView D)). Each (StandsSafelyOn view) s node) (sym (one_shards olds stands.0 stands.1)) stands.2 in
        let t = tend_turns view (StandsSafelyOn view) (Safely view) (over_safe view is_disk) a b olds news node through here in tends_safe view olds news node t.0 t.1 t.2;
    sure = sure_through view (TendTurn {A = A} view) (λ x old new y turn. turn.goes) a b olds news through;
    stays = λ why disks same. absurd (serves_or_halts olds why disks same);
  }

  -- ---- a node that halted

  pub acts_halted : (why : ℕ × StartCause) (disks : List D) (c : Command) (now : ℕ) → Acts view (halted why disks) c now reply.Halted (halted why disks)
  acts_halted why disks c now = record {
    later = later_same view is_disk disks;
    any = λ node stands. absurd (serves_or_halts stands.0 why disks (sym stands.1));
    safe = λ node stands. absurd (serves_or_halts stands.0 why disks (sym stands.1));
    stored = λ shards same. absurd (serves_or_halts shards why disks (sym same));
    again = λ shards same is. absurd (serves_or_halts shards why disks (sym same));
    exact = λ before after same then is removed cleared told. absurd (serves_or_halts before why disks (sym same));
    healed = λ before after same then is gates told none. absurd (serves_or_halts before why disks (sym same));
    sure = λ counts sure. sure;
    left = λ node stands. absurd (serves_or_halts stands.0 why disks (sym stands.1));
    stays = λ other kept same. (refl, refl);
  }

  pub tends_halted : (why : ℕ × StartCause) (disks : List D) → Tends view (halted why disks) (halted why disks)
  tends_halted why disks = record {
    later = later_same view is_disk disks;
    any = λ node stands. absurd (serves_or_halts stands.0 why disks (sym stands.1));
    safe = λ node stands. absurd (serves_or_halts stands.0 why disks (sym stands.1));
    sure = λ counts sure. sure;
    left = λ node stands. absurd (serves_or_halts stands.0 why disks (sym stands.1));
    stays = λ other kept same. refl;
  }
