-- The event of a raid's end for a part, from a state for which sprig and shelf stood, and what it spares.
use Rattle.std.proofs.Common.{◌≡◌, inl, inr, ⊎_elim, ℕ, ◌+◌, ◌-◌, ◌≤◌, Bool, true, false, not, cond, ◌&&◌, List, [], ◌∷◌, ◌++◌, map, length, Option, Some, None, refl, sym, ◌∙◌, ap, subst, arith}
use Rattle.std.specs.Prelude.{filter, count_by, flat_map}
use Rattle.std.specs.List.{AllByRecursion, filter_map}
use Rattle.std.proofs.lemmas.Bool.{eq-eqb}
use Rattle.std.proofs.lemmas.List.Sums.{sum_by-cons}
use Rattle.disk_model.specs.Disk.{DiskView, IsDisk, IsHonest}
use Rattle.rec_format.specs.declared.version.Digest.{Digest}
use Rattle.rec_format.specs.declared.entry.Entry.{Entry}
use Rattle.rec_format.specs.Versions.{is_tomb_kind, is_tombstone}
use Rattle.model_device.specs.Book.{Setup}
use Rattle.model_device.specs.Device.{State, drop_turn, entry, entry_passes}
use Rattle.model_device.specs.Steps.{Step, rid_of, uncovered, done_part, after_step, after_steps}
use Rattle.model_device.specs.Events.{turn_call, part_ended}
use Rattle.model_device.specs.Legal.{drop_step, drop_steps, marked_in, marked_tombstones}
use Rattle.raid_book.specs.declared.turn.RaidNext.{RaidNext}
use Rattle.raid_book.specs.declared.turn.RaidNext.TheVariants.{Drop}
use Rattle.raid_book.specs.Turns.{after_drop}
use Rattle.raid_book.specs.Books.{after_turn}
use Rattle.raid_book.proofs.Standing.{ended_stands}
use Rattle.sprig_tree.specs.Entries.{digests_in, entry_of}
use Rattle.sprig_tree.specs.State.{SprigState}
use Rattle.sprig_tree.proofs.Laws.{entry_of-digest}
use Rattle.law_sprig.specs.Fits.{has_mark, FitsPart}
use Rattle.law_sprig.specs.Tests.{is_tombstone_entry}
use Rattle.law_sprig.specs.Becoming.{without_cover, raid_ended}
use Rattle.law_sprig.proofs.Ordered.{each_entry}
use Rattle.law_sprig.proofs.Showing.{marked_are}
use Rattle.law_sprig.proofs.Taking.{found_shown, times_below}
use Rattle.law_sprig.proofs.Walks.{marked_count_is, marked_tombstones_are}
use Rattle.law_sprig.proofs.Ending.{dropped_fits}
use Rattle.block_shelf.specs.View.{ShelfView}
use Rattle.block_shelf.specs.Standing.{ImagesHold}
use Rattle.block_shelf.specs.Calls.{Goes}
use Rattle.block_shelf.specs.Scans.{possible_copies}
use Rattle.block_shelf.proofs.Going.{goes_then}
use Rattle.block_shelf.proofs.RaidTurns.{goes_by_turn}
use Rattle.law_steps.specs.Standing.{SprigStands}
use Rattle.law_steps.specs.Events.{StepMakes}
use Rattle.shard_raid.specs.Marks.{is_marked_by}
use Rattle.shard_raid.specs.Ends.{SparesOlder, EndsMarked, end_steps, StandAtEnd, GoTogether, SameDisk}
use Rattle.shard_raid.proofs.Turns.{makes_turn}
use Rattle.shard_raid.proofs.OneEnd.{stand_on, drop_comes, marks_are, none_older_than}
use Rattle.shard_raid.proofs.EndWalk.{is_gone, is_bare, marked_or_same}

-- those that pass are those that pass the second too, and those that don't
count_parted : (p q : Entry → Bool) (es : List Entry) → count_by p es ≡ count_by (λ e. p e && q e) es + count_by (λ e. p e && not (q e)) es
count_parted p q [] = refl
count_parted p q (e ∷ es) =
    let one = sum_by-cons (λ x. cond (p x) 1 0) e es in
    let two = sum_by-cons (λ x. cond (p x && q x) 1 0) e es in
    let three = sum_by-cons (λ x. cond (p x && not (q x)) 1 0) e es in
    omega (arith, one, two, three, by (p e) (q e), count_parted p q es)
  where
    by : (a b : Bool) → cond a 1 0 ≡ cond (a && b) 1 0 + cond (a && not b) 1 0
    by true true = refl
    by true false = refl
    by false b = refl

module _ {D : Type 0} (setup : Setup) (part : ℕ) (was : SprigState) (old : ShelfView D) (s : State) (stand : StandAtEnd setup part was old s) where
  fits : FitsPart setup part was s
  fits = stand.together.sprig_stands.fits

  -- ---- the steps

  kinds : AllByRecursion (λ e. entry_passes is_tombstone (entry s e.digest) ≡ is_tombstone_entry e) was.entries
  kinds = each_entry (λ e. entry_passes is_tombstone (entry s e.digest) ≡ is_tombstone_entry e) was.entries fits.entries.order
      (λ d e found. let is = (found_shown setup part was s d e fits.entries found).1 in
      ap (λ (k : Digest). entry_passes is_tombstone (entry s k)) (entry_of-digest d was.entries e found) ∙ ap (entry_passes is_tombstone) is.top ∙ ap is_tomb_kind (sym is.names.kind))

  -- the steps of the entries are those of the marked digests
  steps_along : (es : List Entry) → AllByRecursion (λ e. entry_passes is_tombstone (entry s e.digest) ≡ is_tombstone_entry e) es
      → flat_map (end_steps old.raid.number) es ≡ map (drop_step s) (digests_in (filter (has_mark s.raid) es))
  steps_along [] all = refl
  steps_along (e ∷ es) all =
      (λ i. cond (sym (marks_are setup part was old s stand e) i) (cond (sym all.0 i) (rid_of e.digest) (uncovered e.digest) ∷ []) [] ++ steps_along es all.1 i) ∙ by (has_mark s.raid e)
    where
      rest : List Entry
      rest = filter (has_mark s.raid) es

      by : (b : Bool) → cond b (drop_step s e.digest ∷ []) [] ++ map (drop_step s) (digests_in rest) ≡ map (drop_step s) (digests_in (cond b (e ∷ rest) rest))
      by true = refl
      by false = refl

  steps_are : flat_map (end_steps old.raid.number) was.entries ++ done_part part ∷ [] ≡ drop_steps setup part s
  steps_are = ap (λ (l : List Step). l ++ done_part part ∷ []) (steps_along was.entries kinds ∙ ap (map (drop_step s)) (sym (marked_are setup part was s fits.entries fits.marks)))

  -- ---- the numbers

  removed_are : count_by (is_gone old.raid.number) was.entries ≡ marked_tombstones setup part s
  removed_are = ap (λ (p : Entry → Bool). count_by p was.entries) (λ i e. sym (marks_are setup part was old s stand e) i && is_tombstone_entry e) ∙ sym (marked_tombstones_are setup part was s fits)

  cleared_are : count_by (is_bare old.raid.number) was.entries ≡ length (marked_in setup part s) - marked_tombstones setup part s
  cleared_are =
      let all : length (marked_in setup part s) ≡ count_by (is_marked_by old.raid.number) was.entries =
      marked_count_is setup part was s fits ∙ ap (λ (p : Entry → Bool). count_by p was.entries) (λ i e. marks_are setup part was old s stand e i) in
      omega (arith, all, count_parted (is_marked_by old.raid.number) is_tombstone_entry was.entries, removed_are)

  -- ---- what is spared

  pub spares_older : (view : D → DiskView) (sprig : SprigState) → EndsMarked old.raid.number was sprig → ImagesHold setup view old s
      → SparesOlder s (possible_copies view old s) was.entries sprig.entries
  spares_older view sprig ends safe d =
      ⊎_elim (λ same. inl (ap (entry_of d) ends.entries ∙ same)) (λ marked. inr (none_older_than setup part was old s stand view d marked.0 marked.1 marked.2 safe))
      (marked_or_same old.raid.number d was.entries)

  -- ---- the event

  module _ (view : D → DiskView) (is_disk : (d : D) → IsDisk (view d)) (sprig : SprigState) (mid : ShelfView D) (rest : SameDisk old mid) (ends : EndsMarked old.raid.number was sprig)
      (go : GoTogether view setup part (flat_map (end_steps old.raid.number) was.entries) old s sprig mid) where
    abbrev walked : List Step
    walked = flat_map (end_steps old.raid.number) was.entries

    abbrev t : State
    t = after_steps setup walked s

    abbrev behind : ShelfView D
    behind = record mid { raid = record mid.raid { next = after_drop mid.raid.parts part } }

    goes_done : Goes view setup (done_part part ∷ []) mid t behind
    unfolding after_step
    goes_done = goes_by_turn view setup mid behind.raid t (after_step setup (done_part part) t).raid (done_part part) refl refl (is_disk mid.disk)
        (λ honest safe. drop_comes setup part sprig mid t (stand_on view setup part walked was old s sprig mid rest.shape stand go))
        (λ books. ended_stands setup t mid.raid part books.raid) go.goes.stands

    goes_all : Goes view setup (drop_steps setup part s) old s behind
    goes_all =
        subst (λ (l : List Step). Goes view setup l old s behind) steps_are
        (goes_then view setup walked (done_part part ∷ []) old mid behind s (λ honest. subst (λ (d : D). IsHonest (view d)) (sym rest.disk) honest) go.goes goes_done)

    entries_are : sprig.entries ≡ raid_ended s.raid was.entries
    entries_are = ends.entries ∙ ap (λ (f : Entry → Option Entry). filter_map f was.entries)
        (λ i e. cond (sym (marks_are setup part was old s stand e) i) (cond (is_tombstone_entry e) None (Some (without_cover e))) (Some e))

    sprig_ended : SprigStands setup part sprig (after_steps setup (drop_steps setup part s) s)
    sprig_ended = record {
      fits = dropped_fits setup part s was sprig (drop_comes setup part was old s stand) entries_are (ends.high (times_below setup part was s fits.entries)) fits;
      times = go.together.sprig_stands.times;
    }

    pub makes_ended : (now removed cleared : ℕ) → removed ≡ count_by (is_gone old.raid.number) was.entries → cleared ≡ count_by (is_bare old.raid.number) was.entries → (new : ShelfView D)
        → new ≡ record mid { raid = after_turn mid.raid.next part mid.raid } → StepMakes view setup part (turn_call old.raid.number (drop_turn part) now) (part_ended removed cleared) old s sprig new
    makes_ended now removed cleared removed_is cleared_is new put =
        subst (λ (v : ShelfView D). StepMakes view setup part (turn_call old.raid.number (drop_turn part) now) (part_ended removed cleared) old s sprig v)
        (sym (put ∙ ap (λ (n : RaidNext). record mid { raid = after_turn n part mid.raid }) (ap (λ b. b.next) rest.shape.raid ∙ stand.turn)))
        (makes_turn view setup old s (is_disk old.disk) part was sprig stand.together (Drop part) (drop_turn part) (drop_steps setup part s)
        (part_ended removed cleared) now behind stand.turn refl (eq-eqb part part refl) goes_all
        (λ told. (λ i. part_ended ((removed_is ∙ removed_are) i) ((cleared_is ∙ cleared_are) i), refl)) same_faults sprig_ended)
      where
        same_faults : (view old.disk).faults ≤ (view behind.disk).faults
        same_faults = let same : (view mid.disk).faults ≡ (view old.disk).faults = ap (λ (d : D). (view d).faults) rest.disk in omega (arith, same)
