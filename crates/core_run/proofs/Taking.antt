-- What a raid took of a device none of whose gates was unsure, by what its disk might leave when it began.
use Rattle.std.proofs.Common.{◌≡◌, ◌⊎◌, inl, inr, ℕ, ◌+◌, ◌<◌, ◌^◌, Bool, true, false, List, [], ◌∷◌, map, sym, ◌∙◌, ap, subst, arith}
use Rattle.std.proofs.lemmas.Bool.{eq-eqb}
use Rattle.std.specs.Prelude.{◌==◌, Some, Ok, MatchBool, Contains}
use Rattle.model_faults.specs.Counts.{Rose}
use Rattle.disk_model.specs.Disk.{DiskView, Images}
use Rattle.rec_format.specs.declared.version.Digest.{Digest}
use Rattle.rec_format.specs.declared.version.Version.{Version}
use Rattle.rec_format.specs.Places.{same_digest}
use Rattle.rec_format.specs.Versions.{is_later, version_units}
use Rattle.rec_format.proofs.Laws.{same_digest_refl}
use Rattle.model_device.specs.Book.{Setup, Buffer, is_opening, pending_of}
use Rattle.model_device.specs.Device.{State, history, entry}
use Rattle.model_device.specs.Events.{after_events}
use Rattle.block_format.specs.declared.geometry.Geometry.{Geometry}
use Rattle.block_format.specs.declared.geometry.Gate.{Gate}
use Rattle.block_format.specs.Layout.{Body}
use Rattle.block_format.specs.Copies.{Copy, copies_from, copies_of, copies_named}
use Rattle.law_start.specs.Surviving.{IsStored, HasNoOlder}
use Rattle.law_lists.proofs.Each.{all_at}
use Rattle.law_lists.proofs.Members.{cons_cases, first_there, rest_there, map_there, map_from, filter_there, flat_map_there}
use Rattle.law_facts.specs.Facts.{NoneOlder, IsOlder}
use Rattle.law_trail.specs.Trail.{Records, WaitsIn}
use Rattle.law_trail.specs.Numbers.{versions_for}
use Rattle.law_lists.proofs.Finding.{any_there}
use Rattle.law_images.specs.Kept.{IsLeftIn, possible_in}
use Rattle.law_images.specs.Held.{AreSure, loosened, IsKeptLoosened}
use Rattle.law_images.proofs.Loosening.{loosened_sure}
use Rattle.law_images.proofs.Reading.{shown_there}
use Rattle.block_shelf.specs.View.{records_of, gate_at, AreSure as Sure}
use Rattle.block_shelf.proofs.Unsure.{sure_at}
use Rattle.law_raid.specs.Exact.{RaidsExactly, RaidLeavesNone, RaidTakesJust, SomeOlder, MayWait, HasOlder}
use Rattle.model_node.specs.Commands.{Slot, slot_after_all}
use Rattle.shard_core.specs.View.{ShardView, setup_of}
use Rattle.shard_core.specs.Vacating.{MakesEvents}
use Rattle.core_run.specs.Standing.{StandsSafelyOn}
use Rattle.core_run.specs.Sure.{IsSureSince}
use Rattle.core_run.specs.Turns.{RaidsOn, IsRaid}
use Rattle.core_run.proofs.Places.{slot_after_is}
use Rattle.core_run.proofs.Sparing.{none_left, leaves_none}

-- each record of a body is a copy
copied : (block unit : ℕ) (records : List (Digest × Version)) (digest : Digest) (v : Version) → Contains records (digest, v)
    → (c : Copy) × Contains (copies_from block unit records) c × (c.digest ≡ digest) × (c.version ≡ v)
copied block unit [] digest v there = absurd (omega (arith, there.1))
copied block unit (r ∷ records) digest v there = by (cons_cases r records (digest, v) there) (copied block (unit + version_units r.1) records digest v)
  where
    c : Copy
    c = record { digest = r.0; version = r.1; block = block; unit = unit }

    rest : List Copy
    rest = copies_from block (unit + version_units r.1) records

    by : (r ≡ (digest, v)) ⊎ Contains records (digest, v)
        → (Contains records (digest, v) → (d : Copy) × Contains rest d × (d.digest ≡ digest) × (d.version ≡ v))
        → (d : Copy) × Contains (c ∷ rest) d × (d.digest ≡ digest) × (d.version ≡ v)
    by (inl e) more = (c, first_there c rest, ap (λ (x : Digest × Version). x.0) e, ap (λ (x : Digest × Version). x.1) e)
    by (inr in_rest) more = let one = more in_rest in (one.0, rest_there c rest one.0 one.1, one.2, one.3)

module _ (setup : Setup) (g : Geometry) (s : State) (records : Records) (gates : ℕ → Gate) (images : Images) (held : IsKeptLoosened setup g s records gates images) where
  -- where no gate is unsure, what an image shows it has
  stored : AreSure g gates → (block : ℕ) (digest : Digest) (v : Version) → IsLeftIn g (loosened g gates images) block digest v → IsStored setup images digest v
  stored sure block digest v left =
      let u = held.upheld left.image left.is_left in
      let there = shown_there g left.image u.bodies left.body u.readable left.shown in
      let one = copied left.body.block 0 left.body.records digest v left.has in
      let among = flat_map_there (λ (x : Body). copies_from x.block 0 x.records) u.bodies left.body one.0 there one.1 in
      let same : same_digest digest one.0.digest ≡ true = subst (λ (d : Digest). same_digest digest d ≡ true) (sym one.2) (same_digest_refl digest) in
      let named = filter_there (λ (c : Copy). same_digest digest c.digest) (copies_of u.bodies) one.0 same among in
      record {
        image = left.image;
        is_left = loosened_sure g gates images sure left.image left.is_left;
        shape = g;
        is_shape = held.shape;
        bodies = u.bodies;
        readable = u.readable;
        copy = subst (λ (w : Version). Contains (map (λ (c : Copy). c.version) (copies_named digest (copies_of u.bodies))) w) one.3
            (map_there (λ (c : Copy). c.version) (copies_named digest (copies_of u.bodies)) one.0 named);
      }

  -- and what waits in a buffer may be in it
  waits : (number block : ℕ) (digest : Digest) (v : Version) → WaitsIn s.book records number block digest v → MayWait s digest v
  waits number block digest v is =
      let m = map_from (λ (b : Buffer). (b.number, b.block)) s.book.buffers (number, block) is.placed in
      let here : m.0.number ≡ number = ap (λ (p : ℕ × ℕ). p.0) m.2 in
      let there = map_there (λ (b : Buffer). (b.number, is_opening b.phase)) s.book.buffers m.0 m.1 in (
        number,
        any_there (λ (p : ℕ × Bool). p.0 == number) (pending_of s.book) (m.0.number, is_opening m.0.phase) there (eq-eqb m.0.number number here),
        all_at (λ (r : Digest × Version). Contains (versions_for number (history s r.0)) r.1) (records number) (digest, v) (held.order.written number) is.has,
      )

  module _ (sure : AreSure g gates) where
    some_is : (digest : Digest) (e : Version) → entry s digest ≡ Some e → SomeOlder s (possible_in g s.book records (loosened g gates images)) digest → HasOlder setup s images digest e
    some_is digest e top some =
        let older : IsOlder s (possible_in g s.book records (loosened g gates images)) some.0 digest some.1 = some.2 in
        let both : Some older.newer ≡ Some e = sym older.top ∙ top in
        let same : older.newer ≡ e = cc in (
          some.1,
          subst (λ (newer : Version). is_later newer some.1 ≡ true) same older.later,
          by some.0 some.1 older.may_come,
        )
      where
        by : (block : ℕ) (v : Version) → possible_in g s.book records (loosened g gates images) block digest v → MayWait s digest v ⊎ IsStored setup images digest v
        by block v (inl waiting) = inl (waits waiting.0 block digest v waiting.1)
        by block v (inr left) = inr (stored sure block digest v left)

    pub takes_just : (now removed cleared : ℕ) (after : State) → RaidsExactly setup now s (possible_in g s.book records (loosened g gates images)) removed cleared after
        → RaidTakesJust setup now s images removed cleared after
    takes_just now removed cleared after exact = record {
      bare = exact.bare;
      bare_is = λ digest eligible e top. by digest e top (exact.bare digest) (exact.bare_is digest eligible);
      removed_are = exact.removed_are;
      cleared_are = exact.cleared_are;
      histories = exact.histories;
    }
      where
        by : (digest : Digest) (e : Version) → entry s digest ≡ Some e → (b : Bool)
            → MatchBool b (NoneOlder s (possible_in g s.book records (loosened g gates images)) digest) (SomeOlder s (possible_in g s.book records (loosened g gates images)) digest)
            → MatchBool b (HasNoOlder setup s images digest e) (HasOlder setup s images digest e)
        by digest e top true none = none_left setup g s s records gates images held digest none e top
        by digest e top false some = some_is digest e top some

-- What a raid has done on one device: the events are those that the device makes.
module _ {D : Type 0} (view : D → DiskView) (now : ℕ) (old new : ShardView D) (slot : Slot) (one : ℕ × ℕ) (raids : RaidsOn view now (Ok one) old new) (stands : StandsSafelyOn view old slot) where
  abbrev m : MakesEvents view (IsRaid view old new now slot.state (Ok one)) old slot.state new
  m = raids.makes slot.state stands.stands.agrees

  abbrev then : State
  then = after_events (setup_of old) m.events slot.state

  then_is : (slot_after_all m.events slot).state ≡ then
  then_is = ap (λ (x : Slot). x.state) (slot_after_is m.events slot) ∙ ap (λ (setup : Setup). after_events setup m.events slot.state) stands.stands.setup_is

  pub device_leaves : RaidLeavesNone slot.setup slot.state (slot_after_all m.events slot).state (view new.shelf.disk).may_leave
  device_leaves =
      subst (λ (x : State). RaidLeavesNone slot.setup slot.state x (view new.shelf.disk).may_leave) (sym then_is)
      (subst (λ (x : Setup). RaidLeavesNone x slot.state then (view new.shelf.disk).may_leave) (sym stands.stands.setup_is)
      (leaves_none (setup_of old) new.shelf.geometry slot.state then (records_of new.shelf.buffers) (gate_at new.shelf.gates) (view new.shelf.disk).may_leave
      (m.safe stands.honest stands.safe).safe.held (m.works.4 stands.honest stands.safe)))

  pub device_takes : (count : ℕ) → IsSureSince view count old → slot.faults ≡ count → count + 1 < 2 ^ 64
      → RaidTakesJust slot.setup now slot.state (view old.shelf.disk).may_leave one.0 one.1 (slot_after_all m.events slot).state
  device_takes count since same below = by since.sure
    where
      by : Sure old.shelf.gates ⊎ Rose count (view old.shelf.disk).faults → RaidTakesJust slot.setup now slot.state (view old.shelf.disk).may_leave one.0 one.1 (slot_after_all m.events slot).state
      by (inl sure) =
          subst (λ (x : State). RaidTakesJust slot.setup now slot.state (view old.shelf.disk).may_leave one.0 one.1 x) (sym then_is)
          (subst (λ (x : Setup). RaidTakesJust x now slot.state (view old.shelf.disk).may_leave one.0 one.1 then) (sym stands.stands.setup_is)
          (takes_just (setup_of old) old.shelf.geometry slot.state (records_of old.shelf.buffers) (gate_at old.shelf.gates) (view old.shelf.disk).may_leave stands.safe.safe.held
          (λ k lt. sure_at old.shelf.gates k sure) now one.0 one.1 then (m.works.3 sure stands.honest stands.safe)))
      by (inr rose) = let is = stands.stands.faults_is in let risen = rose (omega (arith, below, is, same)) in absurd (omega (arith, risen, is, same))
