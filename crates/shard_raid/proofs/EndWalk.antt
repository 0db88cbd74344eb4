-- The walk that ends a raid for the entries of a part: what was gone over is ended, and the others are as they were.
use Rattle.std.proofs.Common.{◌≡◌, ◌⊎◌, inl, inr, ℕ, ◌+◌, ◌<◌, ◌≤◌, Bool, true, false, cond, ◌&&◌, List, [], ◌∷◌, ◌++◌, length, take, drop, get_or, Option}
use Rattle.std.proofs.Common.{Some, None, refl, sym, ◌∙◌, ap, subst, arith}
use Rattle.std.specs.Prelude.{slice_get, count_by, flat_map}
use Rattle.std.specs.List.{filter_map, cons_option}
use Rattle.std.proofs.lemmas.Bool.{cond-true, cond-false, cond_both}
use Rattle.std.proofs.lemmas.Grind.{flat_map-append}
use Rattle.std.proofs.lemmas.List.{append-nil, take_all, drop_all, take_more, length-take}
use Rattle.std.proofs.lemmas.List.Sums.{count_by-le-length, sum_by_more}
use Rattle.std.proofs.lemmas.Option.{slice_get_within, get_or_from_slice_get}
use Rattle.law_lists.proofs.Counts.{one_if}
use Rattle.disk_model.specs.Disk.{DiskView, IsDisk, IsHonest}
use Rattle.rec_format.specs.declared.version.Digest.{Digest}
use Rattle.rec_format.specs.declared.entry.Entry.{Entry}
use Rattle.rec_format.specs.Places.{same_digest}
use Rattle.model_device.specs.Book.{Setup}
use Rattle.model_device.specs.Device.{State}
use Rattle.model_device.specs.Steps.{Step, after_steps}
use Rattle.model_device.proofs.InRow.{after_joined}
use Rattle.sprig_tree.specs.Entries.{IsInDigestOrder, entry_of, entry_after, with_replaced, without_digest}
use Rattle.sprig_tree.specs.State.{SprigState}
use Rattle.sprig_tree.proofs.Laws.{entry_of-at}
use Rattle.sprig_tree.proofs.Parted.{entry_after-start}
use Rattle.law_sprig.specs.Tests.{is_put_entry, is_tombstone_entry}
use Rattle.law_sprig.specs.Becoming.{without_cover, ended_entry, raid_ended}
use Rattle.law_sprig.proofs.Turns.{end_found, goes_at, becomes_at, left_at, next_left_at}
use Rattle.block_shelf.specs.View.{ShelfView}
use Rattle.block_shelf.proofs.KeptAll.{all_same}
use Rattle.block_shelf.proofs.Names.{all_then}
use Rattle.block_shelf.proofs.Going.{goes_none, goes_then}
use Rattle.law_steps.specs.Standing.{StandTogether}
use Rattle.shard_raid.specs.Marks.{HasHighTime, is_marked_by}
use Rattle.shard_raid.specs.Ends.{left_by, EndsMarked, EndsOne, end_steps, StandAtEnd, GoTogether, SameDisk}
use Rattle.shard_raid.proofs.Times.{below_found}
use Rattle.shard_raid.proofs.Walking.{left_from, past_all, fewer_left}
use Rattle.shard_raid.proofs.Comparing.{raid_of, has_mark_is}
use Rattle.shard_raid.proofs.OneEnd.{stand_on}

abbrev pub is_gone : ℕ → Entry → Bool
is_gone number e = is_marked_by number e && is_tombstone_entry e

abbrev pub is_bare : ℕ → Entry → Bool
is_bare number e = is_marked_by number e && is_put_entry e

-- what is left of an entry, as the raid's drop turn says it
left_is : (number : ℕ) (e : Entry) → ended_entry (raid_of number) e ≡ left_by number e
left_is number e = ap (λ (b : Bool). cond b (cond (is_tombstone_entry e) None (Some (without_cover e))) (Some e)) (has_mark_is number e)

-- ---- the disk

same_disk : {D : Type 0} (old : ShelfView D) → SameDisk old old
same_disk old = record { disk = refl; gates = refl; buffers = refl; kept = all_same old; shape = record { geometry = refl; limits = refl; raid = refl } }

disk_on : {D : Type 0} (old mid new : ShelfView D) → SameDisk old mid → SameDisk mid new → SameDisk old new
disk_on old mid new first then = record {
  disk = then.disk ∙ first.disk;
  gates = then.gates ∙ first.gates;
  buffers = then.buffers ∙ first.buffers;
  kept = all_then old mid new first.kept then.kept;
  shape = record { geometry = then.shape.geometry ∙ first.shape.geometry; limits = then.shape.limits ∙ first.shape.limits; raid = then.shape.raid ∙ first.shape.raid };
}

-- ---- the walk

-- So many entries from the first on were gone over, of which so many are gone, and so many have lost their cover flags.
pub record HasEnded {D : Type 0} (view : D → DiskView) (number : ℕ) (old mid : SprigState) (was is : ShelfView D) (next : Option Entry) (removed cleared : ℕ) : Type 0 where
  pub at : ℕ
  pub entries : mid.entries ≡ raid_ended (raid_of number) (take at old.entries) ++ drop at old.entries
  pub next_is : next ≡ slice_get old.entries at
  pub removed_is : removed ≡ count_by (is_gone number) (take at old.entries)
  pub cleared_is : cleared ≡ count_by (is_bare number) (take at old.entries)
  pub high : HasHighTime old → mid.hw ≡ old.hw
  pub goes : (setup : Setup) (s : State) (part : ℕ) → StandAtEnd setup part old was s → GoTogether view setup part (flat_map (end_steps number) (take at old.entries)) was s mid is
  pub rest : SameDisk was is

module _ {D : Type 0} (view : D → DiskView) (is_disk : (d : D) → IsDisk (view d)) (number : ℕ) (old : SprigState) (was : ShelfView D) (order : IsInDigestOrder old.entries) where
  pub begins : (next : Option Entry) → next ≡ entry_after None old.entries → HasEnded view number old old was was next 0 0
  begins next is = record {
    at = 0;
    entries = refl;
    next_is = is ∙ entry_after-start old.entries;
    removed_is = refl;
    cleared_is = refl;
    high = λ _. refl;
    goes = λ setup s part stand. record { goes = goes_none view setup was s (is_disk was.disk) stand.together.shelf_stands.stands; together = stand.together };
    rest = same_disk was;
  }

  module _ (mid : SprigState) (is : ShelfView D) (next : Option Entry) (removed cleared : ℕ) (ended : HasEnded view number old mid was is next removed cleared) where
    -- at the end
    module _ (none : next ≡ None) where
      whole : take ended.at old.entries ≡ old.entries
      whole = take_all ended.at old.entries (past_all old.entries ended.at (sym ended.next_is ∙ none))

      pub all_ended : EndsMarked number old mid
      all_ended = record {
        entries = ended.entries
            ∙ (λ i. raid_ended (raid_of number) (whole i) ++ drop_all ended.at old.entries (past_all old.entries ended.at (sym ended.next_is ∙ none)) i)
            ∙ append-nil (raid_ended (raid_of number) old.entries)
            ∙ ap (λ (f : Entry → Option Entry). filter_map f old.entries) (λ i e. left_is number e i);
        high = ended.high;
      }

      pub all_removed : removed ≡ count_by (is_gone number) old.entries
      all_removed = ended.removed_is ∙ ap (count_by (is_gone number)) whole

      pub all_cleared : cleared ≡ count_by (is_bare number) old.entries
      all_cleared = ended.cleared_is ∙ ap (count_by (is_bare number)) whole

      pub all_gone_over : (setup : Setup) (s : State) (part : ℕ) → StandAtEnd setup part old was s → GoTogether view setup part (flat_map (end_steps number) old.entries) was s mid is
      all_gone_over setup s part stand = subst (λ (es : List Entry). GoTogether view setup part (flat_map (end_steps number) es) was s mid is) whole (ended.goes setup s part stand)

    -- both stand at the end of the part again
    pub stand_now : (setup : Setup) (s : State) (part : ℕ) → StandAtEnd setup part old was s
        → StandAtEnd setup part mid is (after_steps setup (flat_map (end_steps number) (take ended.at old.entries)) s)
    stand_now setup s part stand = stand_on view setup part (flat_map (end_steps number) (take ended.at old.entries)) old was s mid is ended.rest.shape stand (ended.goes setup s part stand)

    module _ (e : Entry) (is_next : next ≡ Some e) where
      there : slice_get old.entries ended.at ≡ Some e
      there = sym ended.next_is ∙ is_next

      within : ended.at < length old.entries
      within = slice_get_within old.entries ended.at e there

      read : get_or old.entries ended.at e ≡ e
      read = get_or_from_slice_get old.entries ended.at e e there

      pub found : entry_of e.digest mid.entries ≡ Some e
      found = ap (entry_of e.digest) ended.entries ∙ end_found old.entries ended.at e there order (raid_of number)

      one_more : (test : Entry → Bool) (n k : ℕ) → n ≡ count_by test (take ended.at old.entries) → k ≡ one_if (test e) → n + k ≡ count_by test (take (ended.at + 1) old.entries)
      one_more test n k so_far one = (λ i. so_far i + one i) ∙ sym (sum_by_more (λ x. one_if (test x)) old.entries ended.at e within
          ∙ ap (λ (x : Entry). count_by test (take ended.at old.entries) + one_if (test x)) read)

      few : (test : Entry → Bool) (n k : ℕ) → n ≡ count_by test (take ended.at old.entries) → k ≡ one_if (test e) → n + k ≤ length old.entries
      few test n k so_far one =
          let le : one_if (test e) ≤ 1 = cond_both (test e) 1 0 (λ m. m ≤ 1) (λ _. omega arith) (λ _. omega arith) in
          omega (arith, so_far, one, le, within, count_by-le-length test (take ended.at old.entries), length-take ended.at old.entries)

      pub few_removed : (k : ℕ) → k ≡ one_if (is_gone number e) → removed + k ≤ length old.entries
      few_removed k one = few (is_gone number) removed k ended.removed_is one

      pub few_cleared : (k : ℕ) → k ≡ one_if (is_bare number e) → cleared + k ≤ length old.entries
      few_cleared k one = few (is_bare number) cleared k ended.cleared_is one

      -- This entry is ended.
      module _ (new : SprigState) (later : ShelfView D) (one : EndsOne number e mid new) (after : Option Entry) (after_new : after ≡ entry_after (Some e.digest) new.entries) where
        entries_more : new.entries ≡ raid_ended (raid_of number) (take (ended.at + 1) old.entries) ++ drop (ended.at + 1) old.entries
        entries_more = one.entries ∙ by (is_marked_by number e) refl (is_tombstone_entry e) refl
          where
            left : (b : Bool) → is_marked_by number e ≡ b → (t : Bool) → is_tombstone_entry e ≡ t → ended_entry (raid_of number) e ≡ cond b (cond t None (Some (without_cover e))) (Some e)
            left b marked t tomb = left_is number e ∙ (λ i. cond (marked i) (cond (tomb i) None (Some (without_cover e))) (Some e))

            by : (b : Bool) → is_marked_by number e ≡ b → (t : Bool) → is_tombstone_entry e ≡ t
                → cond b (cond t (without_digest e.digest mid.entries) (with_replaced (without_cover e) mid.entries)) mid.entries
                ≡ raid_ended (raid_of number) (take (ended.at + 1) old.entries) ++ drop (ended.at + 1) old.entries
            by true marked true tomb = ap (without_digest e.digest) ended.entries ∙ goes_at old.entries ended.at e there order (raid_of number) (left true marked true tomb)
            by true marked false put = ap (with_replaced (without_cover e)) ended.entries
                ∙ becomes_at old.entries ended.at e there order (raid_of number) (without_cover e) (left true marked false put)
            by false unmarked t kind = ended.entries ∙ left_at old.entries ended.at e there order (raid_of number) (left false unmarked t kind)

        after_is : after ≡ slice_get old.entries (ended.at + 1)
        after_is = after_new ∙ ap (entry_after (Some e.digest)) entries_more ∙ next_left_at old.entries ended.at e there order (raid_of number)

        pub fewer : length (left_from after old.entries) < length (left_from next old.entries)
        fewer =
            let less = fewer_left old.entries ended.at e after order there after_is in
            let with_it : length (left_from next old.entries) ≡ length (left_from (Some e) old.entries) = ap (λ (o : Option Entry). length (left_from o old.entries)) is_next in
            omega (arith, less, with_it)

        steps_more : flat_map (end_steps number) (take ended.at old.entries) ++ end_steps number e ≡ flat_map (end_steps number) (take (ended.at + 1) old.entries)
        steps_more = sym (
            ap (flat_map (end_steps number)) (take_more old.entries ended.at e within ∙ ap (λ (x : Entry). take ended.at old.entries ++ x ∷ []) read)
            ∙ flat_map-append (end_steps number) (take ended.at old.entries) (e ∷ [])
            ∙ ap (λ (l : List Step). flat_map (end_steps number) (take ended.at old.entries) ++ l) (append-nil (end_steps number e))
            )

        pub ends_more : (gone bare : ℕ) → gone ≡ one_if (is_gone number e) → bare ≡ one_if (is_bare number e)
            → ((setup : Setup) (s : State) (part : ℕ) → StandAtEnd setup part mid is s → GoTogether view setup part (end_steps number e) is s new later) → SameDisk is later
            → HasEnded view number old new was later after (removed + gone) (cleared + bare)
        ends_more gone bare gone_is bare_is goes same = record {
          at = ended.at + 1;
          entries = entries_more;
          next_is = after_is;
          removed_is = one_more (is_gone number) removed gone ended.removed_is gone_is;
          cleared_is = one_more (is_bare number) cleared bare ended.cleared_is bare_is;
          high = λ high.
              one.high (subst (λ (h : ℕ). e.stamp.lut ≤ h) (sym (ended.high high)) (below_found old.hw e.digest old.entries e high (entry_of-at old.entries ended.at e order there))) ∙ ended.high high;
          goes = λ setup s part stand.
              let steps = flat_map (end_steps number) (take ended.at old.entries) in
              let first = ended.goes setup s part stand in
              let then = goes setup (after_steps setup steps s) part (stand_now setup s part stand) in
              subst (λ (l : List Step). GoTogether view setup part l was s new later) steps_more (record {
                goes = goes_then view setup steps (end_steps number e) was is later s (λ honest. subst (λ (d : D). IsHonest (view d)) (sym ended.rest.disk) honest) first.goes then.goes;
                together = subst (λ (t : State). StandTogether setup part new later t) (sym (after_joined setup steps (end_steps number e) s)) then.together;
              });
          rest = disk_on was is later ended.rest same;
        }

-- ---- what a digest has then

-- Its entry stays as it was, or had the mark.
pub marked_or_same : (number : ℕ) (d : Digest) (es : List Entry) → (entry_of d (filter_map (left_by number) es) ≡ entry_of d es)
    ⊎ ((e : Entry) × (entry_of d es ≡ Some e) × (is_marked_by number e ≡ true))
marked_or_same number d [] = inl refl
marked_or_same number d (x ∷ xs) = by (is_marked_by number x) refl (is_tombstone_entry x) (same_digest d x.digest) refl (marked_or_same number d xs)
  where
    rest : List Entry
    rest = filter_map (left_by number) xs

    Same : (new old : Option Entry) → Type 0
    Same new old = (new ≡ old) ⊎ ((e : Entry) × (old ≡ Some e) × (is_marked_by number e ≡ true))

    by : (m : Bool) → is_marked_by number x ≡ m → (t b : Bool) → same_digest d x.digest ≡ b → Same (entry_of d rest) (entry_of d xs)
        → Same (entry_of d (cons_option (cond m (cond t None (Some (without_cover x))) (Some x)) rest)) (cond b (Some x) (entry_of d xs))
    by true marked t true same behind = inr (x, refl, marked)
    by true marked true false other behind = behind
    by true marked false false other behind = subst (λ (o : Option Entry). Same o (entry_of d xs)) (sym (cond-false (same_digest d x.digest) (Some (without_cover x)) (entry_of d rest) other)) behind
    by false unmarked t true same behind = inl (cond-true (same_digest d x.digest) (Some x) (entry_of d rest) same)
    by false unmarked t false other behind = subst (λ (o : Option Entry). Same o (entry_of d xs)) (sym (cond-false (same_digest d x.digest) (Some x) (entry_of d rest) other)) behind
