-- What a get shows of the disk of its device, and that no other command makes one.
use Rattle.std.proofs.Common.{◌≡◌, inl, inr, ℕ, zero, suc, ◌+◌, List, [], ◌∷◌, length, map, refl, sym, ◌∙◌, ap, subst}
use Rattle.std.specs.Prelude.{◌≢◌, Option, Some, None, Result, Ok, Err, MatchOption, MatchResult, Contains, slice_get}
use Rattle.std.specs.List.{AllByRecursion}
use Rattle.std.proofs.lemmas.List.Elements.{Contains-append_left}
use Rattle.law_lists.proofs.Each.{all_from, all_to_map, all_before_map}
use Rattle.disk_model.specs.Disk.{DiskView}
use Rattle.rec_format.specs.declared.version.Digest.{Digest}
use Rattle.rec_format.specs.declared.version.Version.{Version}
use Rattle.rec_format.specs.declared.entry.Entry.{Entry}
use Rattle.rec_format.specs.Places.{device_number}
use Rattle.model_device.specs.Book.{Setup, Buffer}
use Rattle.model_device.specs.Device.{seen}
use Rattle.model_device.specs.Events.{Event, Call, put_call, bury_call, delete_call, expire_call, get_call, found_version, refused}
use Rattle.model_device.specs.Vacating.{Outcome, stopped}
use Rattle.model_device.specs.Expiring.{ExpiresEach}
use Rattle.write_buffer.specs.declared.stream.Stream.{Stream}
use Rattle.write_buffer.specs.declared.stream.Stream.TheVariants.{Client, Defrag}
use Rattle.write_buffer.specs.Buffers.{BufferState}
use Rattle.block_shelf.specs.declared.refusals.ReadRefusal.{ReadRefusal}
use Rattle.block_shelf.specs.declared.refusals.ReadRefusal.TheVariants as read
use Rattle.block_shelf.specs.View.{IsShelf, in_memory}
use Rattle.block_shelf.specs.Standing.{IsCopyIn, book_buffer, book_stream}
use Rattle.block_shelf.specs.Reads.{copy_bytes}
use Rattle.law_steps.specs.Sprigs.{place_of}
use Rattle.law_steps.specs.Events.{cause_of_read}
use Rattle.shard_core.specs.View.{ShardView}
use Rattle.shard_core.specs.Stands.{IsWhole}
use Rattle.shard_core.specs.Calls.{HasGot, GetsStored, read_answer}
use Rattle.shard_core.proofs.Seen.{SeenAt, seen_at}
use Rattle.line_proto.specs.declared.command.Command.{Command}
use Rattle.line_proto.specs.declared.command.Command.TheVariants as command
use Rattle.line_proto.specs.declared.reply.Reply.{Reply}
use Rattle.model_node.specs.Commands.{Slot, Node, NodeEvent, Does, Expires, OneEvent, expired_entries, on_device}
use Rattle.model_node.specs.Headline.{On}
use Rattle.model_node.specs.Shown.{GivesCopy, GivesBytes, GetShows, ShowsGet}
use Rattle.model_node.proofs.Expiries.{if_refused}
use Rattle.law_commit.proofs.Unwriting.{IsUnwriting}
use Rattle.model_node.proofs.Unwritten.{all_worked, all_flushes, all_heals, all_defrags, all_raids}
use Rattle.core_run.specs.Views.{serving, disks_served, view_at, views_of}
use Rattle.core_run.specs.Standing.{Each, StandsOn}
use Rattle.core_run.proofs.Making.{slot_at}

-- ---- what is answered

-- a buffer gives its copy
gives_copy : (stream : Stream) (v : Version) (got : Result (Option Version) ReadRefusal)
    → MatchResult got (λ found. (copy : Version) × (found ≡ Some copy) × IsCopyIn stream v copy) (λ refusal. refusal ≡ read.Memory)
    → GivesCopy (book_stream stream) v (read_answer got)
gives_copy Client v (Ok found) (copy, is, same) = inl (ap found_version (is ∙ ap Some same))
gives_copy Defrag v (Ok found) (copy, is, instead) = inl (copy, instead, ap found_version is)
gives_copy Client v (Err refusal) is = inr (ap (λ (r : ReadRefusal). refused (cause_of_read r)) is)
gives_copy Defrag v (Err refusal) is = inr (ap (λ (r : ReadRefusal). refused (cause_of_read r)) is)

-- the disk gives what stands there
gives_bytes : (e : Entry) (bytes : List ℕ) (got : Result (Option Version) ReadRefusal) → HasGot e bytes got → GivesBytes e bytes (read_answer got)
gives_bytes e bytes (Ok None) is = absurd is
gives_bytes e bytes (Ok (Some v)) is = is
gives_bytes e bytes (Err (read.Damaged kept found)) is = is.2
gives_bytes e bytes (Err read.Memory) is = tt
gives_bytes e bytes (Err read.Fault) is = tt

-- ---- one device

module _ {D : Type 0} (view : D → DiskView) (shard : ShardView D) (slot : Slot) (stands : StandsOn view shard slot) (is : IsShelf view shard.shelf) (whole : IsWhole shard)
    (digest : Digest) (own : device_number shard.shelf.geometry.devices digest ≡ shard.shelf.geometry.device) (now : ℕ) (got : Result (Option Version) ReadRefusal)
    (stored : GetsStored view shard digest now got) (v : Version) (sees : seen slot.state now digest ≡ Some v) where
  at : SeenAt shard slot.state digest now v
  at = seen_at view shard slot.state is whole stands.agrees digest own now v sees

  abbrev e : Entry
  e = at.entry

  -- of each buffer in memory
  copied : (b : BufferState) → Contains (in_memory shard.shelf) b → b.block ≡ e.block → GivesCopy (book_stream b.stream) v (read_answer got)
  copied b there here = gives_copy b.stream v got (stored.copied slot.state stands.agrees v sees e b at.held_is there here)

  waiting : AllByRecursion (λ (b : Buffer). b.block ≡ e.block → GivesCopy b.stream v (read_answer got)) (map book_buffer shard.shelf.buffers)
  waiting = all_to_map (λ b. b.block ≡ e.block → GivesCopy (book_stream b.stream) v (read_answer got)) (λ (b : Buffer). b.block ≡ e.block → GivesCopy b.stream v (read_answer got)) book_buffer
      (λ b gives. gives) shard.shelf.buffers
      (all_from (λ b. b.block ≡ e.block → GivesCopy (book_stream b.stream) v (read_answer got)) shard.shelf.buffers
      (λ b there. copied b (Contains-append_left shard.shelf.buffers _ b there)))

  pub get_shows : GetShows (view shard.shelf.disk) slot digest v (read_answer got)
  get_shows = record {
    shape = shard.shelf.geometry;
    is_shape = (
      is.geometry,
      record {
        capacity = ap (λ (x : Setup). x.capacity) stands.setup_is;
        blocks = ap (λ (x : Setup). x.blocks) stands.setup_is;
        device = ap (λ (x : Setup). x.device) stands.setup_is;
        devices = ap (λ (x : Setup). x.devices) stands.setup_is;
      },
    );
    entry = e;
    digest_is = at.digest_is;
    names = at.names;
    place = at.place;
    waits = subst (AllByRecursion (λ (b : Buffer). b.block ≡ e.block → GivesCopy b.stream v (read_answer got))) (sym stands.agrees.shelf.stands.buffers) waiting;
    read = λ tells waits.
        gives_bytes e (copy_bytes shard.shelf.geometry (place_of e) (view shard.shelf.disk).seen) got
        (stored.placed tells e at.seen_is
        (all_before_map (λ b. b.block ≢ e.block) (λ (b : Buffer). b.block ≢ e.block) book_buffer (λ b other. other) shard.shelf.buffers
        (subst (AllByRecursion (λ (b : Buffer). b.block ≢ e.block)) stands.agrees.shelf.stands.buffers waits)));
  }

-- ---- the device of the digest

-- the disk at the place of a device
view_there : {D : Type 0} (view : D → DiskView) (shards : List (ShardView D)) (place : ℕ) (shard : ShardView D) → slice_get shards place ≡ Some shard
    → view_at view (disks_served shards) place ≡ view shard.shelf.disk
view_there view [] place shard there = absurd cc
view_there {D} view (x ∷ shards) zero shard there = let same : x ≡ shard = cc in ap (λ (s : ShardView D). view s.shelf.disk) same
view_there view (x ∷ shards) (suc place) shard there = view_there view shards place shard there

module _ {D : Type 0} (view : D → DiskView) (olds : List (ShardView D)) (place : ℕ) (shard : ShardView D) (there : slice_get olds place ≡ Some shard)
    (node : Node) (stands : Each (StandsOn view) olds node) (is : IsShelf view shard.shelf) (whole : IsWhole shard)
    (digest : Digest) (own : device_number shard.shelf.geometry.devices digest ≡ shard.shelf.geometry.device) (now : ℕ) (got : Result (Option Version) ReadRefusal)
    (stored : GetsStored view shard digest now got) where
  abbrev Says : ℕ → Digest → ℕ → Event → Slot → Type 0
  Says n d t e slot = (w : Version) → seen slot.state t d ≡ Some w → GetShows (views_of view (serving olds) n) slot d w e.answer

  at_slot : (event : Event) → event.answer ≡ read_answer got → On node place (Says place digest now event)
  at_slot event given =
      let slot = slot_at (StandsOn view) olds node place shard stands there in
      subst (λ (o : Option Slot). MatchOption o (Unit {0}) (Says place digest now event)) (sym slot.1)
      (λ w sees.
      subst (λ (disk : DiskView). GetShows disk slot.0 digest w event.answer) (sym (view_there view olds place shard there))
      (subst (GetShows (view shard.shelf.disk) slot.0 digest w) (sym given) (get_shows view shard slot.0 slot.2 is whole digest own now got stored w sees)))

  -- the one event of the get
  pub node_shows : (event : Event) (work : List NodeEvent) → event.call ≡ get_call digest now → event.answer ≡ read_answer got → work ≡ on_device place event ∷ []
      → ShowsGet (views_of view (serving olds)) node work
  node_shows event work is_call given made device other d time same called =
      let one : on_device place event ∷ [] ≡ on_device device other ∷ [] = sym made ∙ same in
      let both : on_device place event ≡ on_device device other = cc in
      let here : place ≡ device = ap (λ (e : NodeEvent). e.device) both in
      let event_is : event ≡ other = ap (λ (e : NodeEvent). e.event) both in
      let call_is : get_call digest now ≡ get_call d time = sym is_call ∙ ap (λ (e : Event). e.call) event_is ∙ called in
      let digest_is : digest ≡ d = cc in
      let time_is : now ≡ time = cc in
      subst (λ (n : ℕ). On node n (Says n d time other)) here
      (subst (λ (x : Event). On node place (Says place d time x)) event_is
      (subst (λ (x : Digest). On node place (Says place x time event)) digest_is
      (subst (λ (t : ℕ). On node place (Says place digest t event)) time_is (at_slot event given))))

-- ---- no other command makes a get

abbrev IsNoGet : Event → Type 0
IsNoGet event = (digest : Digest) (now : ℕ) → event.call ≡ get_call digest now → ⊥

unwriting_not : (call : Call) → IsUnwriting call → (digest : Digest) (now : ℕ) → call ≡ get_call digest now → ⊥
unwriting_not call unwriting digest now is = subst IsUnwriting is unwriting

expires_not : (now : ℕ) (digests : List Digest) (removed : ℕ) (events : List Event) (outcome : Outcome) → ExpiresEach now digests removed events outcome → AllByRecursion IsNoGet events
expires_not now [] removed events outcome none = subst (AllByRecursion IsNoGet) (sym none.0) tt
expires_not now (d ∷ digests) removed events outcome (event, rest, is, call, how) = subst (AllByRecursion IsNoGet) (sym is) (
  (λ digest time called. let clash : expire_call d now ≡ get_call digest time = sym call ∙ called in cc),
  if_refused event.answer (λ cause. (rest ≡ []) × (outcome ≡ stopped cause)) (ExpiresEach now digests (removed + 1) rest outcome) (AllByRecursion IsNoGet rest)
      (λ cause ends. subst (AllByRecursion IsNoGet) (sym ends.0) tt) (λ more. expires_not now digests (removed + 1) rest outcome more) how,
)

module _ (node : Node) (now : ℕ) (work : List NodeEvent) (r : Reply) (device : ℕ) (event : Event) (digest : Digest) (time : ℕ) (made : work ≡ on_device device event ∷ [])
    (called : event.call ≡ get_call digest time) where
  no_work : work ≡ [] → ⊥
  no_work none = let clash : [] ≡ on_device device event ∷ [] = sym none ∙ made in cc

  other_event : (d : Digest) (call : Call) → (call ≡ get_call digest time → ⊥) → OneEvent node d call work r → ⊥
  other_event d call other (x, is, is_call, given) =
      let one : on_device (device_number (length node) d) x ∷ [] ≡ on_device device event ∷ [] = sym is ∙ made in
      let both : on_device (device_number (length node) d) x ≡ on_device device event = cc in
      let event_is : x ≡ event = ap (λ (e : NodeEvent). e.event) both in
      other (sym is_call ∙ ap (λ (e : Event). e.call) event_is ∙ called)

  none_among : AllByRecursion (λ e. IsNoGet e.event) work → ⊥
  none_among all = (subst (AllByRecursion (λ e. IsNoGet e.event)) made all).0 digest time called

  unwriting_among : AllByRecursion (λ e. IsUnwriting e.event.call) work → ⊥
  unwriting_among all = unwriting_not event.call (subst (AllByRecursion (λ e. IsUnwriting e.event.call)) made all).0 digest time called

  pub only_get : (c : Command) → Does node c now work r → (d : Digest) × (c ≡ command.Get d)
  only_get (command.Put d ttl expect payload) does = absurd (other_event d (put_call d ttl expect payload now) (λ is. cc) does)
  only_get (command.Get d) does = (d, refl)
  only_get (command.Meta d) does = absurd (no_work does.0)
  only_get (command.Del d) does = absurd (other_event d (delete_call d now) (λ is. cc) does)
  only_get (command.Bury d) does = absurd (other_event d (bury_call d now) (λ is. cc) does)
  only_get command.Flush does = absurd (unwriting_among (all_flushes node work does.0 does.1))
  only_get command.Heal does = absurd (unwriting_among (all_heals node work does.0 does.1))
  only_get command.Defrag does = absurd (unwriting_among (all_defrags node work does.0 does.1))
  only_get command.Expire does = absurd (none_among (all_worked IsNoGet (Expires now)
      (λ slot events outcome expires. expires_not now (expired_entries slot.setup now slot.state) 0 events outcome expires) 0 node 0 0 work does.0 does.1))
  only_get command.Raid does = absurd (unwriting_among (all_raids now node work does.0 does.1))
  only_get command.Stat does = absurd (no_work does.0)
  only_get command.Restart does = absurd does
  only_get command.Quit does = absurd (no_work does.0)
