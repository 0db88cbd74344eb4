-- The walk that marks the entries of a sprig: those that were gone over have their marks, and the others are as they were.
use Rattle.std.proofs.Common.{◌≡◌, ◌⊎◌, inl, inr, ℕ, ◌+◌, ◌<◌, ◌≤◌, max, Bool, true, false, List, ◌++◌, length, take, drop, get_or, Option, Some, None, refl, sym, ◌∙◌, ap, arith}
use Rattle.std.specs.Prelude.{slice_get, count_by}
use Rattle.std.proofs.lemmas.Bool.{cond-true, cond-false}
use Rattle.std.proofs.lemmas.List.{append-nil, take_all, drop_all, length-take}
use Rattle.std.proofs.lemmas.List.Sums.{count_by-le-length, count_by_more_yes, count_by_more_no}
use Rattle.std.proofs.lemmas.Option.{slice_get_within, slice_get_cases, get_or_from_slice_get}
use Rattle.rec_format.specs.declared.entry.Entry.{Entry}
use Rattle.sprig_tree.specs.Entries.{IsInDigestOrder, entry_of, entry_after, with_replaced}
use Rattle.sprig_tree.specs.State.{SprigState}
use Rattle.sprig_tree.proofs.Laws.{entry_of-at, entry_after-at}
use Rattle.sprig_tree.proofs.Parted.{entry_after-start}
use Rattle.tomb_rules.specs.Covers.{is_eligible_entry}
use Rattle.law_sprig.specs.Becoming.{with_mark, remarked, mark_given}
use Rattle.law_sprig.proofs.Behind.{behind, walk_from, entries_behind}
use Rattle.law_sprig.proofs.Turns.{mark_found, mark_at, stays_at, next_at}
use Rattle.shard_raid.specs.Marks.{HasHighTime, HasMarksBy}
use Rattle.shard_raid.proofs.Times.{high_stays}

-- So many entries from the first on were gone over, of which so many were marked.
pub record HasWalked (mark age now : ℕ) (old mid : SprigState) (next : Option Entry) (marked : ℕ) : Type 0 where
  pub at : ℕ
  pub entries : mid.entries ≡ remarked (mark_given age now mark) (take at old.entries) ++ drop at old.entries
  pub next_is : next ≡ slice_get old.entries at
  pub count : marked ≡ count_by (is_eligible_entry age now) (take at old.entries)
  pub high : HasHighTime old → mid.hw ≡ old.hw
  pub spare : mid.spare ≡ old.spare

-- the entries from the next one on
abbrev pub left_from : Option Entry → List Entry → List Entry
left_from next es = walk_from (λ e. e.digest) next es

-- where there is none, all were gone over
pub past_all : (es : List Entry) (i : ℕ) → slice_get es i ≡ None → length es ≤ i
past_all es i none = by (slice_get_cases es i).1
  where
    by : ((x : Entry) × (i < length es) × (slice_get es i ≡ Some x) × (get_or es i x ≡ x)) ⊎ ((length es ≤ i) × (slice_get es i ≡ None)) → length es ≤ i
    by (inl there) = let never : Some there.0 ≡ None = sym there.2 ∙ none in absurd cc
    by (inr past) = past.0

-- fewer are left from one behind an entry than from the entry
pub fewer_left : (es : List Entry) (at : ℕ) (e : Entry) (after : Option Entry) → IsInDigestOrder es → slice_get es at ≡ Some e → after ≡ slice_get es (at + 1)
    → length (left_from after es) < length (left_from (Some e) es)
fewer_left es at e after order there after_is =
    let behind_it : length (left_from after es) ≡ length (behind (λ x. x.digest) (Some e.digest) es) =
    ap (λ (o : Option Entry). length (left_from o es)) (after_is ∙ sym (entry_after-at es at e order there)) ∙ ap length (sym (entries_behind (Some e.digest) es order)) in
    omega (arith, behind_it)

module _ (mark age now : ℕ) (old : SprigState) (order : IsInDigestOrder old.entries) where
  abbrev m : Entry → ℕ
  m = mark_given age now mark

  abbrev test : Entry → Bool
  test = is_eligible_entry age now

  pub begins : (next : Option Entry) → next ≡ entry_after None old.entries → HasWalked mark age now old old next 0
  begins next is = record {
    at = 0;
    entries = refl;
    next_is = is ∙ entry_after-start old.entries;
    count = refl;
    high = λ _. refl;
    spare = refl;
  }

  module _ (mid : SprigState) (next : Option Entry) (marked : ℕ) (walked : HasWalked mark age now old mid next marked) where
    -- at the end
    pub all_marked : next ≡ None → HasMarksBy m old mid
    all_marked none =
        let past = past_all old.entries walked.at (sym walked.next_is ∙ none) in
        record {
          entries = walked.entries ∙ (λ i. remarked m (take_all walked.at old.entries past i) ++ drop_all walked.at old.entries past i) ∙ append-nil (remarked m old.entries);
          high = walked.high;
          spare = walked.spare;
        }

    pub all_counted : next ≡ None → marked ≡ count_by test old.entries
    all_counted none = walked.count ∙ ap (count_by test) (take_all walked.at old.entries (past_all old.entries walked.at (sym walked.next_is ∙ none)))

    module _ (e : Entry) (is : next ≡ Some e) where
      there : slice_get old.entries walked.at ≡ Some e
      there = sym walked.next_is ∙ is

      within : walked.at < length old.entries
      within = slice_get_within old.entries walked.at e there

      read : get_or old.entries walked.at e ≡ e
      read = get_or_from_slice_get old.entries walked.at e e there

      pub found : entry_of e.digest mid.entries ≡ Some e
      found = ap (entry_of e.digest) walked.entries ∙ mark_found old.entries walked.at e there order m

      -- The entry after this one is the next of all.
      after_is : (es : List Entry) (after : Option Entry) → es ≡ remarked m (take (walked.at + 1) old.entries) ++ drop (walked.at + 1) old.entries → after ≡ entry_after (Some e.digest) es
          → after ≡ slice_get old.entries (walked.at + 1)
      after_is es after entries is = is ∙ ap (entry_after (Some e.digest)) entries ∙ next_at old.entries walked.at e there order m

      fewer : (after : Option Entry) → after ≡ slice_get old.entries (walked.at + 1) → length (left_from after old.entries) < length (left_from next old.entries)
      fewer after after_is =
          let less = fewer_left old.entries walked.at e after order there after_is in
          let with_it : length (left_from next old.entries) ≡ length (left_from (Some e) old.entries) = ap (λ (o : Option Entry). length (left_from o old.entries)) is in
          omega (arith, less, with_it)

      pub few : marked < length old.entries
      few = omega (arith, within, walked.count, count_by-le-length test (take walked.at old.entries), length-take walked.at old.entries)

      -- an entry that may go is marked
      module _ (may : test e ≡ true) (x : Entry) (made : x ≡ with_mark mark e) (new : SprigState)
          (put : new ≡ record mid { entries = with_replaced x mid.entries; hw = max mid.hw x.stamp.lut }) (n : ℕ) (one : n ≡ marked + 1) (after : Option Entry)
          (after_new : after ≡ entry_after (Some e.digest) new.entries) where
        entries_marked : new.entries ≡ remarked m (take (walked.at + 1) old.entries) ++ drop (walked.at + 1) old.entries
        entries_marked =
            ap (λ (s : SprigState). s.entries) put
            ∙ ap (λ (y : Entry). with_replaced y mid.entries) made
            ∙ (λ i. with_replaced (with_mark (sym (cond-true (test e) mark e.mark may) i) e) (walked.entries i))
            ∙ mark_at old.entries walked.at e there order m

        pub marks : HasWalked mark age now old new after n
        marks = record {
          at = walked.at + 1;
          entries = entries_marked;
          next_is = after_is new.entries after entries_marked after_new;
          count = one ∙ ap (λ (k : ℕ). k + 1) walked.count ∙ sym (count_by_more_yes test old.entries walked.at e within (ap test read ∙ may));
          high = λ high. ap (λ (s : SprigState). s.hw) put ∙ (λ i. max (walked.high high i) (made i).stamp.lut) ∙ high_stays old e.digest e (entry_of-at old.entries walked.at e order there) high;
          spare = ap (λ (s : SprigState). s.spare) put ∙ walked.spare;
        }

        pub fewer_marked : length (left_from after old.entries) < length (left_from next old.entries)
        fewer_marked = fewer after (after_is new.entries after entries_marked after_new)

      -- another stays as it is
      module _ (never : test e ≡ false) (new : SprigState) (same : new ≡ mid) (n : ℕ) (none : n ≡ marked) (after : Option Entry) (after_new : after ≡ entry_after (Some e.digest) new.entries) where
        entries_kept : new.entries ≡ remarked m (take (walked.at + 1) old.entries) ++ drop (walked.at + 1) old.entries
        entries_kept = ap (λ (s : SprigState). s.entries) same ∙ walked.entries ∙ stays_at old.entries walked.at e there order m (cond-false (test e) mark e.mark never)

        pub passes : HasWalked mark age now old new after n
        passes = record {
          at = walked.at + 1;
          entries = entries_kept;
          next_is = after_is new.entries after entries_kept after_new;
          count = none ∙ walked.count ∙ sym (count_by_more_no test old.entries walked.at e within (ap test read ∙ never));
          high = λ high. ap (λ (s : SprigState). s.hw) same ∙ walked.high high;
          spare = ap (λ (s : SprigState). s.spare) same ∙ walked.spare;
        }

        pub fewer_passed : length (left_from after old.entries) < length (left_from next old.entries)
        fewer_passed = fewer after (after_is new.entries after entries_kept after_new)
