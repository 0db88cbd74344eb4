-- The loop that compares the found copies of a part, the last one first: the entries have lost their marks for those that were taken.
use Rattle.std.proofs.Common.{◌≡◌, ◌≢◌, ℕ, ◌+◌, ◌≤◌, max, Bool, true, false, not, ◌&&◌, ◌||◌, cond, List, [], ◌∷◌, ◌++◌, length, Option, Some, None, refl, sym, ◌∙◌, ap, subst, arith, append_assoc}
use Rattle.std.specs.Prelude.{◌==◌, map, count_by}
use Rattle.std.specs.List.{AllByRecursion}
use Rattle.std.proofs.lemmas.Bool.{eqb-true, eq-eqb, ne_eqb, not_from_false}
use Rattle.std.proofs.lemmas.List.{append-nil}
use Rattle.std.proofs.lemmas.List.Sums.{count_by-le-length}
use Rattle.std.proofs.lemmas.List.Folds.{list_any-append}
use Rattle.law_lists.proofs.Counts.{one_if}
use Rattle.law_lists.proofs.Filters.{filter_out, filter_twice}
use Rattle.rec_format.specs.declared.version.Digest.{Digest}
use Rattle.rec_format.specs.declared.version.Stamp.{Stamp}
use Rattle.rec_format.specs.declared.entry.Entry.{Entry}
use Rattle.rec_format.specs.Places.{same_digest}
use Rattle.rec_format.specs.Versions.{is_later_stamp}
use Rattle.model_device.specs.Device.{RaidState, Turn, apply_turn, finished}
use Rattle.sprig_tree.specs.Entries.{IsInDigestOrder, entry_of, with_replaced}
use Rattle.sprig_tree.specs.State.{SprigState}
use Rattle.law_sprig.specs.Fits.{is_running, has_mark}
use Rattle.law_sprig.specs.Tests.{has_older_copy, passes_test}
use Rattle.law_sprig.specs.Becoming.{with_mark, remarked, mark_left}
use Rattle.law_sprig.proofs.Applying.{copy_passed, copy_found, undone_more}
use Rattle.raid_book.specs.declared.found.FoundCopy.{FoundCopy}
use Rattle.raid_book.specs.Found.{copy_in, copies_for, without_part}
use Rattle.block_shelf.specs.View.{ShelfView}
use Rattle.shard_raid.specs.Marks.{HasHighTime, HasMarksBy, is_marked_by, if_later, with_unmarked, Unmarks}
use Rattle.shard_raid.proofs.Times.{times_remarked, high_stays}

-- ---- marks of one raid

-- A raid of this number, which runs where the number isn't 0.
abbrev pub raid_of : ℕ → RaidState
raid_of number = record { number = number; next = cond (number == 0) finished (apply_turn 0); scanned = 0; marked = []; found = [] }

pub mark_is : (number : ℕ) (e : Entry) (next : Turn) → is_running next ≡ not (number == 0) → (is_running next && (e.mark == number)) ≡ is_marked_by number e
mark_is number e next runs = ap (λ (b : Bool). b && (e.mark == number)) runs ∙ by (number == 0) refl (e.mark == 0) refl (e.mark == number) refl
  where
    by : (a : Bool) → (number == 0) ≡ a → (b : Bool) → (e.mark == 0) ≡ b → (c : Bool) → (e.mark == number) ≡ c → (not a && c) ≡ (not b && c)
    by true zero true mark c is = refl
    by true zero false mark true is = let some : (e.mark == 0) ≡ true = eq-eqb e.mark 0 (eqb-true e.mark number is ∙ eqb-true number 0 zero) in let never : true ≡ false = sym some ∙ mark in absurd cc
    by true zero false mark false is = refl
    by false some true mark true is = let zero : (number == 0) ≡ true = eq-eqb number 0 (sym (eqb-true e.mark number is) ∙ eqb-true e.mark 0 mark) in let never : true ≡ false =
        sym zero ∙ some in absurd cc
    by false some true mark false is = refl
    by false some false mark c is = refl

runs_as : (number : ℕ) → is_running (raid_of number).next ≡ not (number == 0)
runs_as number = by (number == 0)
  where
    by : (b : Bool) → is_running (cond b finished (apply_turn 0)) ≡ not b
    by true = refl
    by false = refl

pub has_mark_is : (number : ℕ) (e : Entry) → has_mark (raid_of number) e ≡ is_marked_by number e
has_mark_is number e = mark_is number e (raid_of number).next (runs_as number)

no_mark : (number : ℕ) (e : Entry) → e.mark ≡ 0 → has_mark (raid_of number) e ≡ false
no_mark number e zero = has_mark_is number e ∙ ap (λ (b : Bool). not b && (e.mark == number)) (eq-eqb e.mark 0 zero)

-- ---- copies

-- one copy more, at either end
swapped : (f : Digest × Stamp) (taken : List (Digest × Stamp)) (e : Entry) → has_older_copy (taken ++ f ∷ []) e ≡ has_older_copy (f ∷ taken) e
swapped f taken e =
    list_any-append (λ g. same_digest e.digest g.0 && is_later_stamp e.stamp g.1) taken (f ∷ []) ∙ by (has_older_copy taken e) (same_digest e.digest f.0 && is_later_stamp e.stamp f.1)
  where
    by : (a b : Bool) → (a || (b || false)) ≡ (b || a)
    by true true = refl
    by true false = refl
    by false true = refl
    by false false = refl

-- no copy leaves all marks
remarked_none : (es : List Entry) → es ≡ remarked (mark_left []) es
remarked_none [] = refl
remarked_none (e ∷ es) = ap (λ (l : List Entry). e ∷ l) (remarked_none es)

abbrev pub is_undone : ℕ → List (Digest × Stamp) → Entry → Bool
is_undone number found e = is_marked_by number e && has_older_copy found e

count_none : (number : ℕ) (es : List Entry) → count_by (is_undone number []) es ≡ 0
count_none number es = ap (λ (p : Entry → Bool). count_by p es) (λ i e. none (is_marked_by number e) i) ∙ no_one es
  where
    none : (b : Bool) → (b && false) ≡ false
    none true = refl
    none false = refl

    no_one : (xs : List Entry) → count_by (λ e. false) xs ≡ 0
    no_one [] = refl
    no_one (x ∷ xs) = no_one xs

-- the entries behind one copy more
module _ (taken : List (Digest × Stamp)) (f : Digest × Stamp) (es : List Entry) (order : IsInDigestOrder es) where
  abbrev so_far : List Entry
  so_far = remarked (mark_left taken) es

  abbrev behind : List Entry
  behind = remarked (mark_left (taken ++ f ∷ [])) es

  unmarked_next : with_unmarked (if_later f.1 (entry_of f.0 so_far)) so_far ≡ behind
  unmarked_next = by (entry_of f.0 so_far) refl
    where
      later : (x : Entry) → entry_of f.0 so_far ≡ Some x → (b : Bool) → is_later_stamp x.stamp f.1 ≡ b → with_unmarked (cond b (Some x) None) so_far ≡ behind
      later x is true passes = copy_found taken f es order x is passes
      later x is false fails = copy_passed taken f es order (ap (passes_test (λ e. is_later_stamp e.stamp f.1)) is ∙ fails)

      by : (o : Option Entry) → entry_of f.0 so_far ≡ o → with_unmarked (if_later f.1 o) so_far ≡ behind
      by None is = copy_passed taken f es order (ap (passes_test (λ e. is_later_stamp e.stamp f.1)) is)
      by (Some x) is = later x is (is_later_stamp x.stamp f.1) refl

  unmarked_more : with_unmarked (if_later f.1 (entry_of f.0 so_far)) so_far ≡ remarked (mark_left (f ∷ taken)) es
  unmarked_more = unmarked_next ∙ ap (λ (m : Entry → ℕ). remarked m es) (λ i e. cond (swapped f taken e i) 0 e.mark)

  counted_more : (number : ℕ) → count_by (is_undone number (f ∷ taken)) es
      ≡ count_by (is_undone number taken) es + one_if (passes_test (λ e. is_marked_by number e && is_later_stamp e.stamp f.1) (entry_of f.0 so_far))
  counted_more number =
      ap (λ (p : Entry → Bool). count_by p es) (λ i e. sym (has_mark_is number e) i && sym (swapped f taken e) i)
      ∙ undone_more (raid_of number) taken f es order (no_mark number)
      ∙ (λ i. count_by (λ e. has_mark_is number e i && has_older_copy taken e) es + one_if (passes_test (λ e. has_mark_is number e i && is_later_stamp e.stamp f.1) (entry_of f.0 so_far)))

-- ---- one copy

-- The entry is later than the copy.
pub unmarks_later : (digest : Digest) (stamp : Stamp) (number : ℕ) (old new : SprigState) (told : Bool) (e x : Entry) → entry_of digest old.entries ≡ Some e
    → is_later_stamp e.stamp stamp ≡ true → x ≡ with_mark 0 e
    → new ≡ record old { entries = with_replaced x old.entries; hw = max old.hw x.stamp.lut } → told ≡ is_marked_by number e → Unmarks digest stamp number old new told
unmarks_later digest stamp number old new told e x found later is put marked = record {
  entries = ap (λ (v : SprigState). v.entries) put ∙ ap (λ (y : Entry). with_replaced y old.entries) is
      ∙ sym (ap (λ (o : Option Entry). with_unmarked (if_later stamp o) old.entries) found ∙ ap (λ (b : Bool). with_unmarked (cond b (Some e) None) old.entries) later);
  told_is = marked ∙ sym (ap (passes_test (λ y. is_marked_by number y && is_later_stamp y.stamp stamp)) found ∙ ap (λ (b : Bool). is_marked_by number e && b) later ∙ whole (is_marked_by number e));
  high = λ high. ap (λ (v : SprigState). v.hw) put ∙ ap (λ (y : Entry). max old.hw y.stamp.lut) is ∙ high_stays old digest e found high;
  spare = ap (λ (v : SprigState). v.spare) put;
}
  where
    whole : (b : Bool) → (b && true) ≡ b
    whole true = refl
    whole false = refl

-- ---- the loop

-- The last copies of the part were taken, these are left, and so many marks were undone.
pub record HasCompared (number : ℕ) (found left : List (Digest × Stamp)) (old mid : SprigState) (undone : ℕ) : Type 0 where
  pub taken : List (Digest × Stamp)
  pub parts : found ≡ left ++ taken
  pub entries : mid.entries ≡ remarked (mark_left taken) old.entries
  pub count : undone ≡ count_by (is_undone number taken) old.entries
  pub high : HasHighTime old → mid.hw ≡ old.hw
  pub spare : mid.spare ≡ old.spare

pub begins : (number : ℕ) (found : List (Digest × Stamp)) (old : SprigState) → HasCompared number found found old old 0
begins number found old = record {
  taken = [];
  parts = sym (append-nil found);
  entries = remarked_none old.entries;
  count = sym (count_none number old.entries);
  high = λ _. refl;
  spare = refl;
}

module _ (number : ℕ) (found left : List (Digest × Stamp)) (old mid : SprigState) (undone : ℕ) (order : IsInDigestOrder old.entries) (compared : HasCompared number found left old mid undone) where
  -- one more copy
  module _ (less : List (Digest × Stamp)) (f : Digest × Stamp) (last : left ≡ less ++ f ∷ []) (new : SprigState) (told : Bool) (unmarks : Unmarks f.0 f.1 number mid new told) (n : ℕ)
      (n_is : n ≡ undone + one_if told) where
    count_more : undone + one_if told ≡ count_by (is_undone number (f ∷ compared.taken)) old.entries
    count_more =
        (λ i. compared.count i + one_if (unmarks.told_is i))
        ∙ ap (λ (es : List Entry). count_by (is_undone number compared.taken) old.entries + one_if (passes_test (λ e. is_marked_by number e && is_later_stamp e.stamp f.1) (entry_of f.0 es)))
        compared.entries
        ∙ sym (counted_more compared.taken f old.entries order number)

    mid_high : HasHighTime old → HasHighTime mid
    mid_high high =
        let all = times_remarked (λ n. n ≤ old.hw) (mark_left compared.taken) old.entries high in
        subst (λ (es : List Entry). AllByRecursion (λ e. e.stamp.lut ≤ mid.hw) es) (sym compared.entries)
        (subst (λ (h : ℕ). AllByRecursion (λ e. e.stamp.lut ≤ h) (remarked (mark_left compared.taken) old.entries)) (sym (compared.high high)) all)

    pub one_more : HasCompared number found less old new n
    one_more = record {
      taken = f ∷ compared.taken;
      parts = compared.parts ∙ ap (λ (l : List (Digest × Stamp)). l ++ compared.taken) last ∙ append_assoc less (f ∷ []) compared.taken;
      entries = unmarks.entries ∙ ap (λ (es : List Entry). with_unmarked (if_later f.1 (entry_of f.0 es)) es) compared.entries ∙ unmarked_more compared.taken f old.entries order;
      count = n_is ∙ count_more;
      high = λ high. unmarks.high (mid_high high) ∙ compared.high high;
      spare = unmarks.spare ∙ compared.spare;
    }

    pub few : n ≤ length old.entries
    few = omega (arith, n_is, count_more, count_by-le-length (is_undone number (f ∷ compared.taken)) old.entries)

  -- at the end
  module _ (none : left ≡ []) where
    all_taken : found ≡ compared.taken
    all_taken = compared.parts ∙ ap (λ (l : List (Digest × Stamp)). l ++ compared.taken) none

    pub all_marked : HasMarksBy (mark_left found) old mid
    all_marked = record {
      entries = compared.entries ∙ ap (λ (l : List (Digest × Stamp)). remarked (mark_left l) old.entries) (sym all_taken);
      high = compared.high;
      spare = compared.spare;
    }

    pub all_counted : undone ≡ count_by (is_undone number found) old.entries
    all_counted = compared.count ∙ ap (λ (l : List (Digest × Stamp)). count_by (is_undone number l) old.entries) (sym all_taken)

-- ---- the book

-- a shelf from which copies are taken keeps the rest
pub rest_on : {D : Type 0} (old mid new : ShelfView D) → mid ≡ record old { raid = record old.raid { found = mid.raid.found } } → new ≡ record mid { raid = record mid.raid { found = new.raid.found } }
    → new ≡ record old { raid = record old.raid { found = new.raid.found } }
rest_on {D} old mid new first then = then ∙ ap (λ (v : ShelfView D). record v { raid = record v.raid { found = new.raid.found } }) first

-- the copies of other parts stay
pub others_stay : (part other : ℕ) (row : List FoundCopy) → other ≢ part → copies_for other (without_part part row) ≡ copies_for other row
others_stay part other row apart =
    ap (map copy_in) (filter_twice (λ c. c.part == other) (λ c. not (c.part == part))
    (λ c is. not_from_false (c.part == part) (ne_eqb c.part part (λ same. apart (sym (eqb-true c.part other is) ∙ same)))) row)

pub none_left : (part : ℕ) (row : List FoundCopy) → copies_for part (without_part part row) ≡ []
none_left part row = ap (map copy_in) (filter_out (λ c. c.part == part) row)
