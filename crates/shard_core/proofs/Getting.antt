-- A get makes one event that changes nothing.
use Rattle.std.proofs.Common.{◌≡◌, inl, inr, ℕ, Bool, true, false, cond, List, [], refl, sym, ◌∙◌, ap, subst}
use Rattle.std.specs.Prelude.{Option, Some, None, Result, Ok, Err, IfOk, IfErr, MatchResult}
use Rattle.std.proofs.Math.Nat.{le_refl}
use Rattle.std.proofs.lemmas.Bool.{false≢true}
use Rattle.model_faults.specs.Counts.{Rose}
use Rattle.rec_format.specs.declared.version.Digest.{Digest}
use Rattle.rec_format.specs.declared.version.Version.{Version}
use Rattle.rec_format.specs.declared.entry.Entry.{Entry}
use Rattle.model_device.specs.Book.{Setup, live_of}
use Rattle.model_device.specs.Device as device
use Rattle.model_device.specs.Device.{State}
use Rattle.model_device.specs.Events.{Event, get_call, found_version}
use Rattle.model_device.specs.Legal.{Allowed, Reads, WhereReads}
use Rattle.disk_model.specs.Disk.{DiskView, IsDisk, IsHonest}
use Rattle.expiry_rule.specs.Seen.{seen_entry, is_live_entry}
use Rattle.write_buffer.specs.declared.stream.Stream.{Stream}
use Rattle.write_buffer.specs.declared.stream.Stream.TheVariants.{Client, Defrag}
use Rattle.block_shelf.specs.declared.place.Place.{Place}
use Rattle.block_shelf.specs.declared.refusals.ReadRefusal.{ReadRefusal}
use Rattle.block_shelf.specs.declared.refusals.ReadRefusal.TheVariants as read
use Rattle.block_shelf.specs.View.{ShelfView}
use Rattle.block_shelf.specs.Disks.{OnlyRead}
use Rattle.block_shelf.specs.Standing.{StandsFor, BooksStand, IsPlaced, IsCopyIn}
use Rattle.block_shelf.specs.Calls.{copy_live}
use Rattle.block_shelf.specs.Reads.{HasRead, IsUndamaged}
use Rattle.rec_format.specs.Entries.{Names}
use Rattle.block_shelf.proofs.Going.{goes_none}
use Rattle.model_device.specs.Device.{part_of}
use Rattle.sprig_tree.specs.Entries.{entry_of}
use Rattle.sprig_tree.specs.State.{SprigState}
use Rattle.law_steps.specs.Sprigs.{place_of}
use Rattle.law_steps.specs.Standing.{StandTogether}
use Rattle.shard_core.specs.Calls.{HasGot, read_answer}
use Rattle.law_steps.specs.Events.{StepMakes}
use Rattle.law_steps.proofs.Making.{makes_by}
use Rattle.block_shelf.proofs.Looking.{goes_read, stands_over}
use Rattle.law_steps.proofs.Reading.{both_named}
use Rattle.shard_core.proofs.Found.{SeenIs, seen_none}
use Rattle.law_steps.proofs.Found.{entry_named, live_found}

-- ---- what was read

abbrev pub shown : Result Version ReadRefusal → Result (Option Version) ReadRefusal
shown (Ok v) = Ok (Some v)
shown (Err refusal) = Err refusal

module _ {D : Type 0} (view : D → DiskView) (setup : Setup) (digest : Digest) (sprig : SprigState) (old new : ShelfView D) (s : State) (now : ℕ)
    (stand : StandTogether setup (part_of setup digest) sprig old s) where
  abbrev part : ℕ
  part = part_of setup digest

  pub makes_unseen : IsDisk (view old.disk) → seen_entry now (entry_of digest sprig.entries) ≡ None → StepMakes view setup part (get_call digest now) (read_answer (Ok None)) old s sprig old
  makes_unseen has_now none =
      let nothing : device.seen s now digest ≡ None = seen_none setup s now digest sprig stand.sprig_stands none in
      let may = λ (told : Bool). unseen told nothing in
      makes_by view setup old old s (get_call digest now) (found_version None) [] (StandTogether setup part sprig old) (le_refl (view old.disk).faults)
      (goes_none view setup old s has_now stand.shelf_stands.stands) (may false) (λ honest safe. may true) stand
    where
      unseen : (told : Bool) → device.seen s now digest ≡ None
          → Allowed setup told s (record {
            call = get_call digest now;
            answer = found_version None;
            steps = [];
            faults_before = (view old.disk).faults;
            faults_after =
                (view old.disk).faults;
          }) (get_call digest now)
      unseen told nothing = inl (None, refl, refl, subst (λ (o : Option Version). Reads told o None) (sym nothing) refl)

  module _ (e : Entry) (is : SeenIs s now digest sprig.entries e) (result : Result Version ReadRefusal) (same : new ≡ record old { disk = new.disk })
      (only : OnlyRead (view old.disk) (view new.disk)) (has_now : IsDisk (view new.disk))
      (names : IfOk result (Names e)) (cause : IfErr result (λ refusal. refusal ≡ read.Fault → Rose (view old.disk).faults (view new.disk).faults))
      (written : IsHonest (view old.disk) → IsPlaced view old s → MatchResult result (λ v. v ≡ is.version) IsUndamaged) where
    abbrev event_of : Result (Option Version) ReadRefusal → Event
    event_of answered = record { call = get_call digest now; answer = read_answer answered; steps = []; faults_before = (view old.disk).faults; faults_after = (view new.disk).faults }

    may_be : (told : Bool) (r : Result Version ReadRefusal) → IfOk r (Names e) → IfErr r (λ refusal. refusal ≡ read.Fault → Rose (view old.disk).faults (view new.disk).faults)
        → (told ≡ true → MatchResult r (λ v. v ≡ is.version) IsUndamaged) → Allowed setup told s (event_of (shown r)) (get_call digest now)
    may_be true (Ok v) named caused right = inl (Some v, refl, refl, subst (λ (o : Option Version). Reads true o (Some v)) (sym is.seen) (right refl))
    may_be false (Ok v) named caused right = inl (Some v, refl, refl, subst (λ (o : Option Version). Reads false o (Some v)) (sym is.seen) (both_named e is.version v is.names named))
    may_be told (Err read.Memory) named caused right = inr (inl (refl, refl))
    may_be told (Err read.Fault) named caused right = inr (inr (subst (WhereReads told (event_of (Err read.Fault))) (sym is.seen) (inr (refl, refl, caused refl))))
    may_be true (Err (read.Damaged kept found)) named caused right = absurd (right refl)
    may_be false (Err (read.Damaged kept found)) named caused right = inr (inr (subst (WhereReads false (event_of (Err (read.Damaged kept found)))) (sym is.seen) (inl (refl, refl, refl))))

    pub makes_read : StepMakes view setup part (get_call digest now) (read_answer (shown result)) old s sprig new
    makes_read =
        makes_by view setup old new s (get_call digest now) (read_answer (shown result)) [] (StandTogether setup part sprig new) only.later
        (goes_read view setup old new s same only has_now stand.shelf_stands.stands)
        (may_be false result names cause (λ no. absurd (false≢true no))) (λ honest safe. may_be true result names cause (λ yes. written honest safe.placed))
        (record {
          sprig_stands = stand.sprig_stands;
          shelf_stands = record {
            stands = subst (λ (x : ShelfView D). StandsFor setup x s) (sym same) (stands_over setup old new.disk s stand.shelf_stands.stands);
            queue = subst (λ (x : ShelfView D). BooksStand setup x s) (sym same)
                (record { same = stand.shelf_stands.queue.same; all = stand.shelf_stands.queue.all; raid = stand.shelf_stands.queue.raid });
          };
        })

  -- the live copy of an entry that is seen
  pub record LiveIs (e : Entry) (v : Version) (place : Place) : Type 0 where
    pub live : live_of e.digest s.book.live ≡ Some (copy_live e.digest place)
    pub entry_is : device.entry s e.digest ≡ Some v

  pub live_is : (e : Entry) (place : Place) (is : SeenIs s now digest sprig.entries e) → place ≡ place_of e → LiveIs e is.version place
  live_is e place is at =
      let one : digest ≡ e.digest = entry_named digest sprig.entries e is.found_is in
      record {
        live = subst (λ (d : Digest). live_of d s.book.live ≡ Some (copy_live e.digest place)) one
            (live_found setup digest sprig old s stand e is.found_is ∙ ap (λ (p : Place). Some (copy_live e.digest p)) (sym at));
        entry_is = subst (λ (d : Digest). device.entry s d ≡ Some is.version) one is.entry_is;
      }

-- ---- where it is read

pub seen_held : (now : ℕ) (o : Option Entry) (e : Entry) → seen_entry now o ≡ Some e → o ≡ Some e
seen_held now None e is = absurd (cc)
seen_held now (Some x) e is = by (is_live_entry now x) is
  where
    by : (c : Bool) → cond c (Some x) None ≡ Some e → Some x ≡ Some e
    by true here = here
    by false here = absurd (cc)

-- what a read gave is what is shown
pub shown_got : (e : Entry) (bytes : List ℕ) (r : Result Version ReadRefusal) → HasRead e bytes r → HasGot e bytes (shown r)
shown_got e bytes (Ok v) is = is
shown_got e bytes (Err refusal) is = is

-- a client's buffer has what was put
pub shown_is : (o : Option Version) (v : Version) (stream : Stream) (Q : ReadRefusal → Type 0) (r : Result Version ReadRefusal) → stream ≡ Client → o ≡ Some v
    → MatchResult r (IsCopyIn stream v) Q → MatchResult (shown r) (λ found. found ≡ o) Q
shown_is o v Client Q (Ok w) client some is = ap Some is ∙ sym some
shown_is o v Defrag Q (Ok w) client some is = absurd cc
shown_is o v stream Q (Err refusal) client some q = q

-- so has each buffer the copy of what is seen
pub shown_copy : (o : Option Version) (v w : Version) (stream : Stream) (Q : ReadRefusal → Type 0) (r : Result Version ReadRefusal) → o ≡ Some v → o ≡ Some w
    → MatchResult r (IsCopyIn stream v) Q → MatchResult (shown r) (λ found. (copy : Version) × (found ≡ Some copy) × IsCopyIn stream w copy) Q
shown_copy o v w stream Q (Ok x) some more is =
    let both : Some v ≡ Some w = sym some ∙ more in
    let same : v ≡ w = cc in
    (x, refl, subst (λ (y : Version). IsCopyIn stream y x) same is)
shown_copy o v w stream Q (Err refusal) some more q = q

pub shown_err : (P : Version → Type 0) (Q : ReadRefusal → Type 0) (r : Result Version ReadRefusal) → MatchResult r P Q → IfErr (shown r) Q
shown_err P Q (Ok v) p = tt
shown_err P Q (Err refusal) q = q
