-- A move makes one event that may follow, and sprig and shelf stand for the state after it.
use Rattle.std.proofs.Common.{◌≡◌, ◌⊎◌, inl, inr, ℕ, ◌≤◌, max, Bool, true, false, List, [], ◌∷◌, refl, sym, ◌∙◌, ap, subst, arith}
use Rattle.std.specs.Prelude.{◌==◌, Option, Some, None, Err, IsSome, option_map}
use Rattle.std.specs.List.{AllByRecursion}
use Rattle.std.proofs.Math.Nat.{le_refl, le_trans}
use Rattle.std.proofs.lemmas.Bool.{false≢true, eq-eqb}
use Rattle.law_lists.proofs.Answers.{match_true, match_false}
use Rattle.model_faults.specs.Counts.{Rose}
use Rattle.rec_format.specs.declared.version.Digest.{Digest}
use Rattle.rec_format.specs.declared.version.Version.{Version}
use Rattle.rec_format.specs.declared.entry.Entry.{Entry}
use Rattle.rec_format.specs.Entries.{Names}
use Rattle.rec_format.specs.Versions.{version_units}
use Rattle.model_device.specs.Book.{Setup, Live, defrag, has_room, live_of, live_of_entry}
use Rattle.model_device.specs.Device as device
use Rattle.model_device.specs.Device.{State, part_of}
use Rattle.model_device.specs.Steps.{Step, moved, closing_failed, after_step}
use Rattle.model_device.specs.Events.{Event, Answer, happened, refused, Cause, move_call, too_big, spent, overload, no_space, damaged, no_memory, disk_fault}
use Rattle.model_device.specs.Legal.{Allowed, NoMemory, Unless, DamageFound, DiskFails, is_in_block, live_units, no_place, move_reserve}
use Rattle.disk_model.specs.Disk.{DiskView, IsDisk, IsHonest}
use Rattle.disk_model.specs.Runs.{OneOf, advances_on, leaves_then, leaves_more}
use Rattle.law_start.specs.Surviving.{Survives}
use Rattle.sprig_tree.specs.Entries.{entry_of, with_replaced}
use Rattle.sprig_tree.specs.State.{SprigState}
use Rattle.sprig_tree.proofs.Laws.{entry_of-with_replaced_same}
use Rattle.law_sprig.specs.Fits.{IsShown}
use Rattle.law_sprig.specs.Becoming.{Replaces, moved_to}
use Rattle.law_sprig.proofs.Taking.{at_entry, found_shown, moved_fits}
use Rattle.law_sprig.proofs.Looking.{place_is}
use Rattle.law_sprig.proofs.Edits.{each_replaced}
use Rattle.block_shelf.specs.declared.place.Place.{Place}
use Rattle.block_shelf.specs.declared.place.Class.TheVariants as class
use Rattle.block_shelf.specs.declared.refusals.PutRefusal.{PutRefusal}
use Rattle.block_shelf.specs.declared.refusals.PutRefusal.TheVariants as put
use Rattle.block_shelf.specs.View.{ShelfView, IsSetupOf}
use Rattle.block_shelf.specs.Disks.{IsLater, OnlyRead}
use Rattle.block_shelf.specs.Standing.{IsPlaced}
use Rattle.block_shelf.specs.Calls.{Goes, IsPriorIn, copy_live}
use Rattle.block_shelf.specs.Appends.{IsAppendRefusal, IsLeftBy, IsReadCopy, TakesIn, append_refusal, refused_steps}
use Rattle.block_shelf.proofs.Going.{goes_none, goes_then}
use Rattle.law_steps.specs.Sprigs.{place_of}
use Rattle.law_steps.specs.Standing.{SprigStands, StandTogether}
use Rattle.law_steps.specs.Events.{StepMakes}
use Rattle.law_steps.proofs.Found.{entry_named, lies_found, live_found}
use Rattle.law_steps.proofs.Making.{IsFlushing, makes_by, together_on}
use Rattle.block_shelf.proofs.Looking.{goes_read}
use Rattle.law_steps.proofs.Reading.{both_named}
use Rattle.law_refused.proofs.Leaving.{refused_leaves}
use Rattle.defrag_pass.proofs.Asking.{move_refusal}
use Rattle.defrag_pass.specs.declared.refusal.MoveRefusal.{MoveRefusal}
use Rattle.defrag_pass.specs.declared.refusal.MoveRefusal.TheVariants as why
use Rattle.defrag_pass.specs.Moves.{Answers, IsShelfLeft, IsUnread, IsUndamaged, refusal_to_append}
use Rattle.defrag_pass.proofs.Telling.{left_room}

-- a count that didn't fall, and then rose, has risen
pub rose_later : (a b c : ℕ) → a ≤ b → Rose b c → Rose a c
rose_later a b c le rose = λ lt. omega (arith, le, rose lt)

-- a disk that was only read is one at a later time
pub read_then_later : (a b c : DiskView) → OnlyRead a b → IsLater b c → IsLater a c
read_then_later a b c first then = record {
  time = advances_on a b c first.time then.time;
  count = le_trans first.later then.count;
  size = then.size ∙ first.size;
}

-- and its shelf has the same shape
pub setup_read : {D : Type 0} (setup : Setup) (old mid : ShelfView D) → mid ≡ record old { disk = mid.disk } → IsSetupOf setup old → IsSetupOf setup mid
setup_read {D} setup old mid same shape =
    subst (λ (x : ShelfView D). IsSetupOf setup x) (sym same)
    (record { shape = shape.shape; pending = shape.pending; lwm = shape.lwm; cache = shape.cache; sprigs = shape.sprigs })

-- and the same live copies
pub prior_read : {D : Type 0} (place : Place) (old mid : ShelfView D) → mid ≡ record old { disk = mid.disk } → IsPriorIn old (Some place) → IsPriorIn mid (Some place)
prior_read {D} place old mid same there = subst (λ (x : ShelfView D). IsPriorIn x (Some place)) (sym same) there

-- a sprig in which an entry was replaced
pub replaced_by : (x to : Entry) (old new : SprigState) → x ≡ to → new ≡ record old { entries = with_replaced x old.entries; hw = max old.hw x.stamp.lut } → Replaces to old new
replaced_by x to old new one is =
    subst (λ (y : Entry). Replaces y old new) one (record { entries = ap (λ (p : SprigState). p.entries) is; high = ap (λ (p : SprigState). p.hw) is })

-- what is found in it
pub replaced_found : (digest : Digest) (e to : Entry) (old new : SprigState) → digest ≡ to.digest → entry_of digest old.entries ≡ Some e → Replaces to old new → entry_of digest new.entries ≡ Some to
replaced_found digest e to old new named found replaces =
    let there : IsSome (entry_of to.digest old.entries) = subst (λ (d : Digest). IsSome (entry_of d old.entries)) named (subst IsSome (sym found) refl) in
    ap (entry_of digest) replaces.entries ∙ subst (λ (d : Digest). entry_of d (with_replaced to old.entries) ≡ Some to) (sym named) (entry_of-with_replaced_same to old.entries there)

-- ---- the event

module _ {D : Type 0} (view : D → DiskView) (setup : Setup) (digest : Digest) (block : ℕ) (sprig : SprigState) (old : ShelfView D) (s : State)
    (stand : StandTogether setup (part_of setup digest) sprig old s) where
  abbrev part : ℕ
  part = part_of setup digest

  abbrev Makes : Answer → SprigState → ShelfView D → Type 0
  Makes answer after new = StepMakes view setup part (move_call digest block) answer old s after new

  -- ---- no copy in the block

  pub makes_elsewhere : IsDisk (view old.disk) → is_in_block block (live_of digest s.book.live) ≡ false → Makes (happened false) sprig old
  makes_elsewhere now out =
      makes_by view setup old old s (move_call digest block) (happened false) [] (StandTogether setup part sprig old) (le_refl (view old.disk).faults)
      (goes_none view setup old s now stand.shelf_stands.stands) (may false) (λ honest safe. may true) stand
    where
      event : Event
      event = record { call = move_call digest block; answer = happened false; steps = []; faults_before = (view old.disk).faults; faults_after = (view old.disk).faults }

      may : (told : Bool) → Allowed setup told s event (move_call digest block)
      may told = match_false (is_in_block block (live_of digest s.book.live)) _ _ out (refl, refl)

  pub none_there : entry_of digest sprig.entries ≡ None → is_in_block block (live_of digest s.book.live) ≡ false
  none_there none = ap (is_in_block block) (place_is setup part sprig s stand.sprig_stands.fits.entries digest refl ∙ ap (option_map live_of_entry) none)

  -- ---- a copy in the block

  module _ (e : Entry) (is : entry_of digest sprig.entries ≡ Some e) where
    pub live_here : live_of digest s.book.live ≡ Some (live_of_entry e)
    live_here = live_found setup digest sprig old s stand e is

    pub shown_here : IsShown s digest e
    shown_here = let both = found_shown setup part sprig s digest e stand.sprig_stands.fits.entries is in both.1

    pub named_here : digest ≡ e.digest
    named_here = entry_named digest sprig.entries e is

    pub out_of : (b : Bool) → (e.block == block) ≡ b → is_in_block block (live_of digest s.book.live) ≡ b
    out_of b same = ap (is_in_block block) live_here ∙ same

    pub fits_here : IsSetupOf setup old → e.units ≤ setup.capacity
    fits_here shape =
        let lies = lies_found setup digest sprig old s stand e is in
        omega (arith, lies.lies.within, shape.shape.capacity)

    -- as an append asks it, and a read
    pub prior_at : (place : Place) → place ≡ place_of e → live_of digest s.book.live ≡ Some (copy_live digest place)
    prior_at place at = live_here ∙ (λ i. Some (copy_live (sym named_here i) (sym at i)))

    pub live_at : (place : Place) → place ≡ place_of e → live_of e.digest s.book.live ≡ Some (copy_live e.digest place)
    live_at place at = subst (λ (d : Digest). live_of d s.book.live ≡ Some (copy_live d place)) named_here (prior_at place at)

    pub version_at : device.entry s e.digest ≡ Some shown_here.version
    version_at = subst (λ (d : Digest). device.entry s d ≡ Some shown_here.version) named_here shown_here.top

    -- what is read is the entry's version, as far as an entry names it
    pub copy_is_read : (v : Version) → Names e v → IsReadCopy s digest v
    copy_is_read v named = record {
      version = shown_here.version;
      entry_is = shown_here.top;
      read = both_named e shown_here.version v shown_here.names named;
      live = live_of_entry e;
      is_live = live_here;
    }

    module _ (at : e.block ≡ block) where
      abbrev Ends : (told : Bool) → Event → ℕ → Type 0
      Ends told event units =
          ((event.answer ≡ happened true) × (event.steps ≡ moved digest ∷ []))
          ⊎ DamageFound told event []
          ⊎ DiskFails event []
          ⊎ ((has_room setup defrag units s.book ≡ false) × DiskFails event (closing_failed ∷ []))

      abbrev cause : ℕ → Option Cause
      cause units = no_place setup defrag move_reserve units s.book

      may_end : (told : Bool) (event : Event) → NoMemory event ⊎ Unless event (cause e.units) (Ends told event e.units) → Allowed setup told s event (move_call digest block)
      may_end told event ends =
          match_true (is_in_block block (live_of digest s.book.live)) _ _ (out_of true (eq-eqb e.block block at))
          (subst (λ (o : Option Live). NoMemory event ⊎ Unless event (cause (live_units o)) (Ends told event (live_units o))) (sym live_here) ends)

      may_end_so : (told : Bool) (event : Event) → cause e.units ≡ None → Ends told event e.units → Allowed setup told s event (move_call digest block)
      may_end_so told event none ends = may_end told event (inr (subst (λ (o : Option Cause). Unless event o (Ends told event e.units)) (sym none) ends))

      module _ (mid : ShelfView D) (same : mid ≡ record old { disk = mid.disk }) (only : OnlyRead (view old.disk) (view mid.disk)) (now : IsDisk (view mid.disk)) where
        read_goes : Goes view setup [] old s mid
        read_goes = goes_read view setup old mid s same only now stand.shelf_stands.stands

        pub stand_read : StandTogether setup part sprig mid s
        stand_read = record { sprig_stands = stand.sprig_stands; shelf_stands = record { stands = read_goes.stands; queue = read_goes.queued stand.shelf_stands.queue } }

        -- ---- the record isn't read

        abbrev unread_event : Answer → Event
        unread_event answer = record { call = move_call digest block; answer = answer; steps = []; faults_before = (view old.disk).faults; faults_after = (view mid.disk).faults }

        stands_against : (why_not : Cause) → cause e.units ≡ Some why_not → (told : Bool) → Allowed setup told s (unread_event (refused why_not)) (move_call digest block)
        stands_against why_not stands told =
            let event = unread_event (refused why_not) in
            may_end told event (inr (subst (λ (o : Option Cause). Unless event o (Ends told event e.units)) (sym stands) (refl, refl)))

        damage_found : cause e.units ≡ None → (told : Bool) → (told ≡ true → ⊥) → Allowed setup told s (unread_event (refused damaged)) (move_call digest block)
        damage_found none true sound = absurd (sound refl)
        damage_found none false sound = may_end_so false (unread_event (refused damaged)) none (inr (inl (refl, refl, refl)))

        may_be_unread : (refusal : MoveRefusal) → IsUnread (cause e.units) refusal → (refusal ≡ why.Fault → Rose (view old.disk).faults (view mid.disk).faults)
            → (answer : Answer) × Answers (Err refusal) answer × ((told : Bool) → (told ≡ true → IsUndamaged refusal) → Allowed setup told s (unread_event answer) (move_call digest block))
        may_be_unread why.Spent stands rose = (refused spent, refl, λ told sound. stands_against spent stands told)
        may_be_unread why.Load stands rose = (refused (overload stands.0), (stands.0, refl), λ told sound. stands_against (overload stands.0) stands.1 told)
        may_be_unread why.Space stands rose = (refused (no_space stands.0), (stands.0, refl), λ told sound. stands_against (no_space stands.0) stands.1 told)
        may_be_unread (why.Damaged kept bytes) none rose = (refused damaged, refl, λ told sound. damage_found none told sound)
        may_be_unread why.Memory free rose = (refused no_memory, refl, λ told sound. may_end told (unread_event (refused no_memory)) (inl (refl, refl)))
        may_be_unread why.Fault none rose = (refused disk_fault, refl, λ told sound. may_end_so told (unread_event (refused disk_fault)) none (inr (inr (inl (refl, refl, rose refl)))))

        pub makes_unread : (refusal : MoveRefusal) → IsUnread (cause e.units) refusal → (refusal ≡ why.Fault → Rose (view old.disk).faults (view mid.disk).faults)
            → (IsHonest (view old.disk) → IsPlaced view old s → IsUndamaged refusal) → (answer : Answer) × Answers (Err refusal) answer × Makes answer sprig mid
        makes_unread refusal unread rose sound =
            let it = may_be_unread refusal unread rose in (
              it.0,
              it.1,
              makes_by view setup old mid s (move_call digest block) it.0 [] (StandTogether setup part sprig mid) only.later read_goes
                  (it.2 false (λ no. absurd (false≢true no))) (λ honest safe. it.2 true (λ yes. sound honest safe.placed)) stand_read,
            )

        -- ---- it is read

        module _ (fits : e.units ≤ setup.capacity) (v : Version) (named : Names e v) (none : cause e.units ≡ None) (new : ShelfView D) (later : (view mid.disk).faults ≤ (view new.disk).faults) where
          abbrev event_of : Answer → List Step → Event
          event_of answer steps = record { call = move_call digest block; answer = answer; steps = steps; faults_before = (view old.disk).faults; faults_after = (view new.disk).faults }

          up : (view old.disk).faults ≤ (view new.disk).faults
          up = le_trans only.later later

          makes_refused : (answer : Answer) (steps : List Step) → AllByRecursion IsFlushing steps → Goes view setup steps mid s new
              → ((told : Bool) → Allowed setup told s (event_of answer steps) (move_call digest block))
              → Makes answer sprig new
          makes_refused answer steps flushing goes may =
              makes_by view setup old new s (move_call digest block) answer steps (StandTogether setup part sprig new) up
              (goes_then view setup [] steps old mid new s only.honest read_goes goes) (may false) (λ honest safe. may true)
              (together_on setup part sprig s steps flushing new stand.sprig_stands (record { stands = goes.stands; queue = goes.queued stand_read.shelf_stands.queue }))

          none_for : append_refusal setup class.Move (version_units v) s.book ≡ None
          none_for = ap (λ (n : ℕ). append_refusal setup class.Move n s.book) (sym named.units) ∙ move_refusal setup e.units s.book fits ∙ none

          none_told : (c : Cause) → append_refusal setup class.Move (version_units v) s.book ≡ Some c → ⊥
          none_told c stands = let clash : None ≡ Some c = sym none_for ∙ stands in absurd cc

          -- what is left then
          pub left_unappended : (refusal : PutRefusal) → IsAppendRefusal (append_refusal setup class.Move (version_units v) s.book) refusal → IsLeftBy mid new refusal
              → IsShelfLeft view old new (refusal_to_append refusal)
          left_unappended (put.Big units capacity) stands left = absurd (none_told (too_big units capacity) stands)
          left_unappended put.Spent stands left = absurd (none_told spent stands)
          left_unappended (put.Load pending) stands left = absurd (none_told (overload pending) stands)
          left_unappended (put.Space free) stands left = absurd (none_told (no_space free) stands)
          left_unappended put.Memory stands left = left_room view old mid new same only left
          left_unappended put.Fault stands left = inr (subst (λ (x : ShelfView D). IsLeftBy x new put.Fault) same left)

          -- Nothing stood against it as it was asked, so only memory was wanting, or a gate couldn't be closed.
          pub makes_unappended : (refusal : PutRefusal) → IsAppendRefusal (append_refusal setup class.Move (version_units v) s.book) refusal
              → (refusal ≡ put.Fault → has_room setup defrag (version_units v) s.book ≡ false) → (refusal ≡ put.Fault → Rose (view mid.disk).faults (view new.disk).faults)
              → Goes view setup (refused_steps refusal) mid s new → (answer : Answer) × Answers (Err (refusal_to_append refusal)) answer × Makes answer sprig new
          makes_unappended (put.Big units capacity) stands closing rose goes = absurd (none_told (too_big units capacity) stands)
          makes_unappended put.Spent stands closing rose goes = absurd (none_told spent stands)
          makes_unappended (put.Load pending) stands closing rose goes = absurd (none_told (overload pending) stands)
          makes_unappended (put.Space free) stands closing rose goes = absurd (none_told (no_space free) stands)
          makes_unappended put.Memory stands closing rose goes =
              (refused no_memory, refl, makes_refused (refused no_memory) [] tt goes (λ told. may_end told (event_of (refused no_memory) []) (inl (refl, refl))))
          makes_unappended put.Fault stands closing rose goes =
              let event = event_of (refused disk_fault) (closing_failed ∷ []) in
              let room = ap (λ (n : ℕ). has_room setup defrag n s.book) named.units ∙ closing refl in (
                refused disk_fault,
                refl,
                makes_refused (refused disk_fault) (closing_failed ∷ []) (tt, tt) goes
                    (λ told. may_end_so told event none (inr (inr (inr (room, (refl, refl, rose_later (view old.disk).faults (view mid.disk).faults (view new.disk).faults only.later (rose refl))))))),
              )

          -- ---- and its copy is placed

          module _ (place : Place) (units : place.units ≡ version_units v) (takes : TakesIn view setup class.Move digest v mid s new place) (after : SprigState)
              (replaces : Replaces (moved_to place.block place.unit e) sprig after) (exact : IsHonest (view old.disk) → IsPlaced view old s → v ≡ shown_here.version) where
            abbrev behind : State
            behind = after_step setup (moved digest) s

            lives_there : live_of digest behind.book.live ≡ Some (live_of_entry (moved_to place.block place.unit e))
            lives_there = takes.live ∙ (λ i. let l : Live = record { digest = named_here i; block = place.block; unit = place.unit; units = (units ∙ sym named.units) i } in Some l)

            sprig_behind : SprigStands setup part after behind
            sprig_behind = record {
              fits = moved_fits setup part sprig after s digest e place.block place.unit is lives_there replaces stand.sprig_stands.fits;
              times = subst (AllByRecursion (λ x. 1 ≤ x.stamp.lut)) (sym replaces.entries)
                  (each_replaced (λ x. 1 ≤ x.stamp.lut) (moved_to place.block place.unit e) sprig.entries
                  (at_entry (λ x. 1 ≤ x.stamp.lut) digest sprig.entries e stand.sprig_stands.times is) stand.sprig_stands.times);
            }

            is_exact : IsHonest (view old.disk) → IsPlaced view old s → device.entry s digest ≡ Some v
            is_exact honest placed = shown_here.top ∙ ap Some (sym (exact honest placed))

            placed_behind : IsHonest (view old.disk) → IsPlaced view old s → IsPlaced view new behind
            placed_behind honest placed = takes.placed (only.honest honest) (is_exact honest placed) (read_goes.placed honest placed)

            on_the_way : (c : List ℕ) → OneOf (Survives setup) (s ∷ []) c → OneOf (Survives setup) (s ∷ behind ∷ []) c
            on_the_way c (inl first) = inl first
            on_the_way c (inr none) = absurd none

            may_be_moved : (told : Bool) → Allowed setup told s (event_of (happened true) (moved digest ∷ [])) (move_call digest block)
            may_be_moved told = may_end_so told (event_of (happened true) (moved digest ∷ [])) none (inl (refl, refl))

            pub makes_moved : Makes (happened true) after new
            makes_moved = record {
              event = event_of (happened true) (moved digest ∷ []);
              is_call = refl;
              is_answer = refl;
              follows = record { begins = refl; counts = up; allowed = may_be_moved false };
              told = λ honest safe. record { begins = refl; counts = up; allowed = may_be_moved true };
              left = refused_leaves setup false s (event_of (happened true) (moved digest ∷ [])) (may_be_moved false);
              counted = refl;
              stands = record { sprig_stands = sprig_behind; shelf_stands = record { stands = takes.stands; queue = takes.queued stand_read.shelf_stands.queue } };
              placed = placed_behind;
              safe = λ honest safe. record {
                placed = placed_behind honest safe.placed;
                safe = takes.safe (only.honest honest) (is_exact honest safe.placed) (read_goes.safe honest safe.safe);
              };
              leaves = λ honest safe. leaves_then (leaves_more on_the_way (read_goes.leaves honest safe.safe)) (takes.leaves (only.honest honest) (read_goes.safe honest safe.safe));
            }
