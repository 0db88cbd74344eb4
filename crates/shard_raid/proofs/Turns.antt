-- The events of a raid's beginning and of its turns at a part, from a state for which the sprig and the shelf stood.
use Rattle.std.proofs.Common.{◌≡◌, ◌≢◌, ℕ, ◌+◌, ◌<◌, ◌≤◌, Bool, true, false, cond, not, ◌&&◌, List, [], ◌∷◌, length, Option, Some, None, refl, sym, ◌∙◌, ap, subst, arith}
use Rattle.std.specs.Prelude.{◌==◌, count_by, MatchBool}
use Rattle.std.specs.List.{AllByRecursion}
use Rattle.std.proofs.lemmas.Bool.{eq-eqb, ne_eqb, eqb-true, both_ways, le-leb, lt-leb}
use Rattle.disk_model.specs.Disk.{DiskView, IsDisk}
use Rattle.rec_format.specs.declared.version.Digest.{Digest}
use Rattle.rec_format.specs.declared.version.Stamp.{Stamp}
use Rattle.rec_format.specs.declared.entry.Entry.{Entry}
use Rattle.rec_format.specs.Versions.{top_number}
use Rattle.model_device.specs.Book.{Setup}
use Rattle.model_device.specs.Device.{State, Turn, mark_turn, apply_turn, eligible_in}
use Rattle.model_device.specs.Steps.{Step, raid_begun, marked_part, compared_part, after_step, after_steps}
use Rattle.model_device.specs.Events.{Event, Answer, begin_call, turn_call, raid_numbered, marks_made, marks_undone, refused, stale}
use Rattle.model_device.specs.Legal.{Allowed, Only, TurnEnds, same_turn, unmarked_by}
use Rattle.tomb_rules.specs.Covers.{is_eligible_entry}
use Rattle.sprig_tree.specs.State.{SprigState}
use Rattle.law_sprig.specs.Fits.{is_running}
use Rattle.law_sprig.specs.Becoming.{mark_given, mark_left, found_of, remarked}
use Rattle.law_sprig.specs.Tests.{has_older_copy}
use Rattle.law_sprig.proofs.Marking.{marked_fits, marks_made_are, compared_fits, marks_undone_are}
use Rattle.law_sprig.proofs.Spared.{spared}
use Rattle.law_sprig.proofs.Taking.{times_below}
use Rattle.raid_book.specs.declared.found.FoundCopy.{FoundCopy}
use Rattle.raid_book.specs.declared.turn.RaidNext.{RaidNext}
use Rattle.raid_book.specs.declared.turn.RaidNext.TheVariants.{Mark, Apply}
use Rattle.raid_book.specs.Found.{copies_for, least_part}
use Rattle.raid_book.specs.Turns.{turn_of, after_mark, turn_with}
use Rattle.raid_book.specs.Books.{IsBook, begun, after_turn}
use Rattle.raid_book.specs.Raids.{RaidStandsBut}
use Rattle.raid_book.proofs.Standing.{marked_stands, compared_stands}
use Rattle.block_shelf.specs.View.{ShelfView}
use Rattle.block_shelf.specs.Standing.{BooksStand}
use Rattle.block_shelf.specs.Calls.{Goes}
use Rattle.block_shelf.proofs.Going.{goes_none}
use Rattle.block_shelf.proofs.RaidTurns.{goes_by_turn, goes_begun}
use Rattle.law_steps.specs.Sprigs.{HasTimes}
use Rattle.law_steps.specs.Standing.{SprigStands, ShelfStands, StandTogether}
use Rattle.law_steps.specs.Events.{MakesEvent, StepMakes}
use Rattle.law_steps.proofs.Making.{event_of, makes_by}
use Rattle.shard_raid.specs.Marks.{HasMarksBy, is_marked_by}
use Rattle.shard_raid.specs.Raids.{StandOn}
use Rattle.shard_raid.proofs.Times.{times_remarked}
use Rattle.shard_raid.proofs.Comparing.{mark_is, is_undone}

-- ---- the book behind a comparison

-- these copies were left when it ended
abbrev pub with_compared : {D : Type 0} → ℕ → List FoundCopy → ShelfView D → ShelfView D
with_compared part row shelf = record shelf { raid = after_turn (Apply part) part (record shelf.raid { found = row }) }

pub compared_is : {D : Type 0} (part : ℕ) (old mid new : ShelfView D) → old.raid.next ≡ Apply part → mid ≡ record old { raid = record old.raid { found = mid.raid.found } }
    → new ≡ record mid { raid = after_turn mid.raid.next part mid.raid } → new ≡ with_compared part mid.raid.found old
compared_is {D} part old mid new at taken ended =
    ended ∙ ap (λ (v : ShelfView D). record v { raid = after_turn v.raid.next part v.raid }) taken
    ∙ ap (λ (n : RaidNext). record old { raid = after_turn n part (record old.raid { found = mid.raid.found }) }) at

pub book_told : {D : Type 0} (part : ℕ) (row : List FoundCopy) (old new : ShelfView D) → new ≡ with_compared part row old
    → new ≡ record old { raid = record old.raid { found = new.raid.found; next = turn_with old.raid.blocks old.raid.scanned (least_part new.raid.found) } }
book_told {D} part row old new put =
    put ∙ ap (λ (found : List FoundCopy). record old { raid = record old.raid { found = found; next = turn_with old.raid.blocks old.raid.scanned (least_part found) } })
    (sym (ap (λ (v : ShelfView D). v.raid.found) put))

-- ---- the events

module _ {D : Type 0} (view : D → DiskView) (setup : Setup) (old : ShelfView D) (s : State) (is_disk : IsDisk (view old.disk)) where
  -- ---- the beginning

  module _ (stand : ShelfStands setup old s) where
    number_is : old.raid.number ≡ s.raid.number
    number_is = stand.queue.raid.turns.number

    -- the last number was given
    pub makes_spent : old.raid.number ≡ top_number → MakesEvent view setup begin_call (raid_numbered None) old s old (StandOn setup old s)
    makes_spent top = makes_by view setup old old s begin_call (raid_numbered None) [] (StandOn setup old s) (omega arith) (goes_none view setup old s is_disk stand.stands) (allowed false)
        (λ honest safe. allowed true)
        (record { shelf_stands = stand; sprigs = λ part sprig stands. stands })
      where
        e : Event
        e = event_of view setup old old s begin_call (raid_numbered None) []

        allowed : (told : Bool) → Allowed setup told s e begin_call
        allowed told =
            subst (λ (b : Bool). MatchBool b (Only e (raid_numbered None)) ((e.answer ≡ raid_numbered (Some (s.raid.number + 1))) × (e.steps ≡ raid_begun ∷ [])))
            (sym (le-leb top_number s.raid.number (omega (arith, top, number_is)))) (refl, refl)

    pub makes_begun : old.raid.number < top_number → MakesEvent view setup begin_call (raid_numbered (Some (old.raid.number + 1))) old s (record old { raid = begun old.raid })
        (StandOn setup (record old { raid = begun old.raid }) s)
    makes_begun below = makes_by view setup old new s begin_call answer steps (StandOn setup new s) (omega arith) goes (allowed false) (λ honest safe. allowed true) (record {
      shelf_stands = record { stands = goes.stands; queue = goes.queued stand.queue };
      sprigs = λ part sprig stands. record { fits = spared setup part sprig s raid_begun (omega (arith, below, number_is)) stands.fits; times = stands.times };
    })
      where
        new : ShelfView D
        new = record old { raid = begun old.raid }

        answer : Answer
        answer = raid_numbered (Some (old.raid.number + 1))

        steps : List Step
        steps = raid_begun ∷ []

        goes : Goes view setup steps old s new
        goes = goes_begun view setup old s is_disk stand.stands

        e : Event
        e = event_of view setup old new s begin_call answer steps

        allowed : (told : Bool) → Allowed setup told s e begin_call
        allowed told =
            subst (λ (b : Bool). MatchBool b (Only e (raid_numbered None)) ((e.answer ≡ raid_numbered (Some (s.raid.number + 1))) × (e.steps ≡ raid_begun ∷ [])))
            (sym (lt-leb top_number s.raid.number (omega (arith, below, number_is)))) (ap (λ (n : ℕ). raid_numbered (Some (n + 1))) number_is, refl)

    -- one of both, as the book answers
    pub makes_begin : IsBook old.raid → (told : Option ℕ) → told ≡ cond (old.raid.number == top_number) None (Some (old.raid.number + 1)) → (new : ShelfView D)
        → new ≡ record old { raid = cond (old.raid.number == top_number) old.raid (begun old.raid) } → MakesEvent view setup begin_call (raid_numbered told) old s new (StandOn setup new s)
    makes_begin book told answer new put = by (old.raid.number == top_number) refl answer put
      where
        by : (b : Bool) → (old.raid.number == top_number) ≡ b → told ≡ cond b None (Some (old.raid.number + 1)) → new ≡ record old { raid = cond b old.raid (begun old.raid) }
            → MakesEvent view setup begin_call (raid_numbered told) old s new (StandOn setup new s)
        by true top answer put =
            subst (λ (v : ShelfView D). MakesEvent view setup begin_call (raid_numbered told) old s v (StandOn setup v s)) (sym put)
            (subst (λ (o : Option ℕ). MakesEvent view setup begin_call (raid_numbered o) old s old (StandOn setup old s)) (sym answer) (makes_spent (eqb-true old.raid.number top_number top)))
        by false below answer put =
            subst (λ (v : ShelfView D). MakesEvent view setup begin_call (raid_numbered told) old s v (StandOn setup v s)) (sym put)
            (subst (λ (o : Option ℕ). MakesEvent view setup begin_call (raid_numbered o) old s (record old { raid = begun old.raid })
            (StandOn setup (record old { raid = begun old.raid }) s)) (sym answer)
            (makes_begun (omega (arith, book.number, λ (same : old.raid.number ≡ top_number). both_ways (old.raid.number == top_number) below (eq-eqb old.raid.number top_number same)))))

  -- ---- a turn of a part

  module _ (part : ℕ) (was is : SprigState) (stand : StandTogether setup part was old s) where
    books : BooksStand setup old s
    books = stand.shelf_stands.queue

    -- the call names the raid and its next turn
    is_next : (next : RaidNext) (turn : Turn) → old.raid.next ≡ next → turn_of next ≡ turn → same_turn turn turn ≡ true → ((old.raid.number == s.raid.number) && same_turn turn s.raid.next) ≡ true
    is_next next turn at same itself =
        (λ i. eq-eqb old.raid.number s.raid.number books.raid.turns.number i && same_turn turn ((sym books.raid.turns.next ∙ ap turn_of at ∙ same) i)) ∙ itself

    timed : (mark_for : Entry → ℕ) → is.entries ≡ remarked mark_for was.entries → HasTimes is
    timed mark_for entries = subst (AllByRecursion (λ e. 1 ≤ e.stamp.lut)) (sym entries) (times_remarked (λ n. 1 ≤ n) mark_for was.entries stand.sprig_stands.times)

    -- A shelf that goes by the steps of its next turn makes the event of that turn.
    pub makes_turn : (next : RaidNext) (turn : Turn) (steps : List Step) (answer : Answer) (now : ℕ) (new : ShelfView D) → old.raid.next ≡ next → turn_of next ≡ turn
        → same_turn turn turn ≡ true → Goes view setup steps old s new
        → ((told : Bool) → TurnEnds setup told s (event_of view setup old new s (turn_call old.raid.number turn now) answer steps) turn now) → (view old.disk).faults ≤ (view new.disk).faults
        → SprigStands setup part is (after_steps setup steps s) → StepMakes view setup part (turn_call old.raid.number turn now) answer old s is new
    makes_turn next turn steps answer now new at same itself goes ends up sprig_stands =
        makes_by view setup old new s (turn_call old.raid.number turn now) answer steps (StandTogether setup part is new) up goes (allowed false) (λ honest safe. allowed true)
        (record { sprig_stands = sprig_stands; shelf_stands = record { stands = goes.stands; queue = goes.queued books } })
      where
        e : Event
        e = event_of view setup old new s (turn_call old.raid.number turn now) answer steps

        allowed : (told : Bool) → Allowed setup told s e (turn_call old.raid.number turn now)
        allowed told = subst (λ (b : Bool). MatchBool b (TurnEnds setup told s e turn now) (Only e (refused (stale s.raid.number s.raid.next)))) (sym (is_next next turn at same itself)) (ends told)

    -- The part is marked.
    module _ (at : old.raid.next ≡ Mark part) (age now marked : ℕ) (aged : setup.raid_age ≡ age) (marks : HasMarksBy (mark_given age now old.raid.number) was is)
        (count : marked ≡ count_by (is_eligible_entry age now) was.entries) where
      abbrev to : ShelfView D
      to = record old { raid = record old.raid { next = after_mark old.raid.parts part } }

      mark_comes : s.raid.next ≡ mark_turn part
      mark_comes = sym books.raid.turns.next ∙ ap turn_of at

      goes_marked : Goes view setup (marked_part part now ∷ []) old s to
      unfolding after_step
      goes_marked = goes_by_turn view setup old to.raid s (after_step setup (marked_part part now) s).raid (marked_part part now) refl refl is_disk (λ honest safe. mark_comes)
          (λ was. marked_stands setup s old.raid part now was.raid) stand.shelf_stands.stands

      sprig_marked : SprigStands setup part is (after_step setup (marked_part part now) s)
      sprig_marked = record {
        fits = marked_fits setup part now was is s mark_comes (marks.entries ∙ (λ i. remarked (mark_given (sym aged i) now (books.raid.turns.number i)) was.entries))
            (marks.high (times_below setup part was s stand.sprig_stands.fits.entries)) stand.sprig_stands.fits;
        times = timed (mark_given age now old.raid.number) marks.entries;
      }

      made_are : marked ≡ length (eligible_in setup now part s)
      made_are = count ∙ ap (λ (n : ℕ). count_by (is_eligible_entry n now) was.entries) (sym aged) ∙ sym (marks_made_are setup part now was s stand.sprig_stands.fits.entries)

      pub makes_marked : (new : ShelfView D) → new ≡ record old { raid = after_turn old.raid.next part old.raid }
          → StepMakes view setup part (turn_call old.raid.number (mark_turn part) now) (marks_made marked) old s is new
      makes_marked new put =
          subst (λ (v : ShelfView D). StepMakes view setup part (turn_call old.raid.number (mark_turn part) now) (marks_made marked) old s is v)
          (sym (put ∙ ap (λ (n : RaidNext). record old { raid = after_turn n part old.raid }) at))
          (makes_turn (Mark part) (mark_turn part) (marked_part part now ∷ []) (marks_made marked) now to at refl (eq-eqb part part refl) goes_marked
          (λ told. (ap (λ (n : ℕ). marks_made n) made_are, refl)) (omega arith) sprig_marked)

    -- Its found copies are compared.
    module _ (at : old.raid.next ≡ Apply part) (now undone : ℕ) (marks : HasMarksBy (mark_left (copies_for part old.raid.found)) was is)
        (count : undone ≡ count_by (is_undone old.raid.number (copies_for part old.raid.found)) was.entries)
        (row : List FoundCopy) (others : (other : ℕ) → other ≢ part → copies_for other row ≡ copies_for other old.raid.found) where
      abbrev behind : ShelfView D
      behind = with_compared part row old

      apply_comes : s.raid.next ≡ apply_turn part
      apply_comes = sym books.raid.turns.next ∙ ap turn_of at

      copies_are : copies_for part old.raid.found ≡ found_of setup part s.raid
      copies_are = books.raid.copies part

      stands_but : BooksStand setup old s → RaidStandsBut part setup (record old.raid { found = row }) s.raid
      stands_but was = record {
        turns = record { number = was.raid.turns.number; next = was.raid.turns.next; scanned = was.raid.turns.scanned; parts = was.raid.turns.parts; blocks = was.raid.turns.blocks };
        copies = λ other apart. others other apart ∙ was.raid.copies other;
      }

      goes_compared : Goes view setup (compared_part part ∷ []) old s behind
      unfolding after_step
      goes_compared = goes_by_turn view setup old behind.raid s (after_step setup (compared_part part) s).raid (compared_part part) refl refl is_disk (λ honest safe. tt)
          (λ was. compared_stands setup s (record old.raid { found = row }) part (stands_but was)) stand.shelf_stands.stands

      sprig_compared : SprigStands setup part is (after_step setup (compared_part part) s)
      sprig_compared = record {
        fits = compared_fits setup part was is s apply_comes (marks.entries ∙ ap (λ (l : List (Digest × Stamp)). remarked (mark_left l) was.entries) copies_are)
            (marks.high (times_below setup part was s stand.sprig_stands.fits.entries)) stand.sprig_stands.fits;
        times = timed (mark_left (copies_for part old.raid.found)) marks.entries;
      }

      runs : is_running s.raid.next ≡ not (s.raid.number == 0)
      runs = ap is_running apply_comes ∙ sym (ap not (ne_eqb s.raid.number 0 (λ zero. absurd (omega (arith, zero, stand.sprig_stands.fits.marks.begun (ap is_running apply_comes))))))

      undone_are : undone ≡ unmarked_by setup (compared_part part) s
      undone_are =
          count
          ∙ (λ i. count_by (λ e. is_marked_by (books.raid.turns.number i) e && has_older_copy (copies_are i) e) was.entries)
          ∙ ap (λ (p : Entry → Bool). count_by p was.entries) (λ i e. sym (mark_is s.raid.number e s.raid.next runs) i && has_older_copy (found_of setup part s.raid) e)
          ∙ sym (marks_undone_are setup part was s stand.sprig_stands.fits)

      pub makes_compared : (new : ShelfView D) → new ≡ behind → StepMakes view setup part (turn_call old.raid.number (apply_turn part) now) (marks_undone undone) old s is new
      makes_compared new put =
          subst (λ (v : ShelfView D). StepMakes view setup part (turn_call old.raid.number (apply_turn part) now) (marks_undone undone) old s is v) (sym put)
          (makes_turn (Apply part) (apply_turn part) (compared_part part ∷ []) (marks_undone undone) now behind at refl (eq-eqb part part refl) goes_compared
          (λ told. (ap (λ (n : ℕ). marks_undone n) undone_are, refl)) (omega arith) sprig_compared)
