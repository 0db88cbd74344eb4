-- What a put, a take and a further stage make of the slots that aren't in use.
use Rattle.std.proofs.Common.{◌≡◌, ◌≢◌, ℕ, ◌+◌, ◌-◌, ◌^◌, ◌<◌, ◌≤◌, cond, Bool, true, false, List, [], ◌∷◌, ◌++◌, length, get_or, set, replicate, Option, None, Some, refl, ap, sym, subst}
use Rattle.std.proofs.Common.{◌∙◌, ⊎_elim, zero, suc, length-append, lt_of_not-le, arith}
use Rattle.std.specs.Prelude.{is_some, count_by}
use Rattle.std.specs.List.{range_with_len}
use Rattle.std.proofs.lemmas.Bool.{cases_lt}
use Rattle.std.proofs.lemmas.List.{get_or_append_left, get_or-append_right, get_or_push, get_or_past, get_or-set_same, get_or-set_other, get_or-replicate, length-set, length-replicate}
use Rattle.std.proofs.lemmas.List.{length_push, same_lists}
use Rattle.std.proofs.lemmas.List.FromFn.{length-range_with_len, get_or-range_with_len}
use Rattle.std.proofs.lemmas.List.Sums.{sum_by-set, sum_by-append}
use Rattle.rec_format.specs.declared.entry.Entry.{Entry}
use Rattle.entry_arena.specs.Free.{IsFree}

abbrev one_if : Option Entry → ℕ
one_if o = cond (is_some o) 1 0

abbrev pub no_entry : Option Entry
no_entry = None

pub few_free : (slots : List (Option Entry)) (free : List ℕ) (capacity : ℕ) → IsFree slots free capacity → length free ≤ length slots
few_free slots free capacity was = omega (arith, was.counted)

-- the last free slot is given an entry
module _ (slots : List (Option Entry)) (rest : List ℕ) (slot capacity : ℕ) (entry : Entry) (was : IsFree slots (rest ++ slot ∷ []) capacity) where
  last_is : (d : ℕ) → get_or (rest ++ slot ∷ []) (length rest) d ≡ slot
  last_is d = get_or_push rest slot d (length rest) refl

  pub slot_within : slot < length slots
  slot_within = subst (λ n. n < length slots) (last_is 0) (was.within (length rest) 0 (omega (arith, length_push rest slot)))

  pub slot_vacant : get_or slots slot None ≡ None
  slot_vacant = ap (λ n. get_or slots n None) (sym (last_is 0)) ∙ was.vacant (length rest) 0 (omega (arith, length_push rest slot))

  pub put_others : (k d : ℕ) → k < length rest → get_or rest k d ≢ slot
  put_others k d lt e =
      let size = length_push rest slot in
      was.differ k (length rest) d lt (omega arith) (get_or_append_left rest (slot ∷ []) d k lt ∙ e ∙ sym (last_is d))

  pub put_kept : IsFree (set slots slot (Some entry)) rest capacity
  put_kept =
      let size = length_push rest slot in
      let same = length-set slots slot (Some entry) in
      let front = λ (k d : ℕ) (lt : k < length rest). get_or_append_left rest (slot ∷ []) d k lt in
      let swapped = sum_by-set one_if slots slot (Some entry) None slot_within in
      let none : one_if (get_or slots slot None) ≡ 0 = ap one_if slot_vacant in
      record {
        within = λ k d lt. let old = was.within k d (omega arith) in let e = front k d lt in omega arith;
        vacant = λ k d lt. get_or-set_other slots slot (get_or rest k d) (Some entry) None (put_others k d lt) ∙ ap (λ n. get_or slots n None) (sym (front k d lt)) ∙ was.vacant k d (omega arith);
        differ = λ i j d lt within e. was.differ i j d lt (omega arith) (front i d (omega arith) ∙ e ∙ sym (front j d within));
        counted = omega (arith, was.counted);
        room = omega (arith, was.room);
        numbered = omega (arith, was.numbered);
      }

-- a slot in use
module _ (slots : List (Option Entry)) (free : List ℕ) (slot capacity : ℕ) (was : IsFree slots free capacity) (there : is_some (get_or slots slot None) ≡ true) where
  pub used_within : slot < length slots
  used_within = lt_of_not-le (λ (le : length slots ≤ slot). let past : is_some (get_or slots slot None) ≡ false = ap is_some (get_or_past slots slot None le) in cc)

  pub others : (k d : ℕ) → k < length free → get_or free k d ≢ slot
  others k d lt e = let none : is_some (get_or slots slot None) ≡ false = ap is_some (ap (λ n. get_or slots n None) (sym e) ∙ was.vacant k d lt) in cc

  one : one_if (get_or slots slot None) ≡ 1
  one = ap (λ (b : Bool). cond b 1 0) there

  -- it is given another entry
  pub set_kept : (entry : Entry) → IsFree (set slots slot (Some entry)) free capacity
  set_kept entry =
      let same = length-set slots slot (Some entry) in
      let swapped = sum_by-set one_if slots slot (Some entry) None used_within in
      record {
        within = λ k d lt. let old = was.within k d lt in omega arith;
        vacant = λ k d lt. get_or-set_other slots slot (get_or free k d) (Some entry) None (others k d lt) ∙ was.vacant k d lt;
        differ = was.differ;
        counted = omega (arith, one, was.counted);
        room = omega (arith, was.room);
        numbered = omega (arith, was.numbered);
      }

  pub take_room : length free < capacity
  take_room =
      let swapped = sum_by-set one_if slots slot None None used_within in
      omega (arith, one, was.counted, was.room)

  -- it is freed
  pub take_kept : IsFree (set slots slot None) (free ++ slot ∷ []) capacity
  take_kept =
      let size = length_push free slot in
      let same = length-set slots slot None in
      let front = λ (k d : ℕ) (lt : k < length free). get_or_append_left free (slot ∷ []) d k lt in
      let swapped = sum_by-set one_if slots slot None None used_within in
      record {
        within = λ k d lt. ⊎_elim
            (λ (in_front : k < length free). let old = was.within k d in_front in let e = front k d in_front in omega arith)
            (λ (at_end : length free ≤ k). let k_is : length free ≡ k = omega arith in let e = get_or_push free slot d k k_is in omega (arith, used_within))
            (cases_lt k (length free));
        vacant = λ k d lt. ⊎_elim
            (λ (in_front : k < length free). ap (λ n. get_or (set slots slot None) n None) (front k d in_front)
            ∙ get_or-set_other slots slot (get_or free k d) None None (others k d in_front) ∙ was.vacant k d in_front)
            (λ (at_end : length free ≤ k). let k_is : length free ≡ k = omega arith in
            ap (λ n. get_or (set slots slot None) n None) (get_or_push free slot d k k_is) ∙ get_or-set_same slots slot None None used_within)
            (cases_lt k (length free));
        differ = λ i j d lt within e. ⊎_elim
            (λ (in_front : j < length free). was.differ i j d lt in_front (sym (front i d (omega arith)) ∙ e ∙ front j d in_front))
            (λ (at_end : length free ≤ j). let j_is : length free ≡ j = omega arith in others i d (omega arith) (sym (front i d (omega arith)) ∙ e ∙ get_or_push free slot d j j_is))
            (cases_lt j (length free));
        counted = omega (arith, one, was.counted);
        room = omega (arith, was.room);
        numbered = omega (arith, was.numbered);
      }

none_counted : (n : ℕ) → count_by is_some (replicate n no_entry) ≡ 0
none_counted zero = refl
none_counted (suc n) = none_counted n

-- more free slots behind all others
module _ (slots : List (Option Entry)) (free : List ℕ) (count capacity wide : ℕ) (was : IsFree slots free capacity) (room : length slots + count ≤ wide)
    (numbered : length slots + count < 2 ^ 32) where
  pub grow_kept : IsFree (slots ++ replicate count no_entry) (free ++ range_with_len (length slots) count) wide
  grow_kept =
      let more : length (replicate count no_entry) ≡ count = length-replicate count no_entry in
      let all = length-append slots (replicate count no_entry) in
      let span = length-range_with_len (length slots) count in
      let both = length-append free (range_with_len (length slots) count) in
      let front = λ (k d : ℕ) (lt : k < length free). get_or_append_left free (range_with_len (length slots) count) d k lt in
      let back = λ (k d : ℕ) (le : length free ≤ k) (lt : k - length free < count).
      get_or-append_right free (range_with_len (length slots) count) (length free) k d refl le ∙ get_or-range_with_len (length slots) count (k - length free) d lt in
      let sum = sum_by-append one_if slots (replicate count no_entry) in
      record {
        within = λ k d lt. ⊎_elim
            (λ (in_front : k < length free). let old = was.within k d in_front in let e = front k d in_front in omega arith)
            (λ (behind : length free ≤ k). let e = back k d behind (omega arith) in omega arith)
            (cases_lt k (length free));
        vacant = λ k d lt. ⊎_elim
            (λ (in_front : k < length free).
            ap (λ n. get_or (slots ++ replicate count no_entry) n None) (front k d in_front)
            ∙ get_or_append_left slots (replicate count no_entry) None (get_or free k d) (was.within k d in_front)
            ∙ was.vacant k d in_front)
            (λ (behind : length free ≤ k).
            ap (λ n. get_or (slots ++ replicate count no_entry) n None) (back k d behind (omega arith))
            ∙ get_or-append_right slots (replicate count no_entry) (length slots) (length slots + (k - length free)) None refl (omega arith)
            ∙ get_or-replicate count (length slots + (k - length free) - length slots) None None (omega arith))
            (cases_lt k (length free));
        differ = λ i j d lt within e. ⊎_elim
            (λ (in_front : j < length free). was.differ i j d lt in_front (sym (front i d (omega arith)) ∙ e ∙ front j d in_front))
            (λ (behind : length free ≤ j).
            let right = back j d behind (omega arith) in
            ⊎_elim
            (λ (in_front : i < length free). let low = was.within i d in_front in let left = front i d in_front in absurd (omega arith))
            (λ (back_too : length free ≤ i). let left = back i d back_too (omega arith) in absurd (omega arith))
            (cases_lt i (length free)))
            (cases_lt j (length free));
        counted = let none = none_counted count in omega (arith, was.counted);
        room = omega arith;
        numbered = omega arith;
      }

pub range_more : (a n : ℕ) → range_with_len a (n + 1) ≡ range_with_len a n ++ (a + n) ∷ []
range_more a n =
    let one = length-range_with_len a (n + 1) in
    let two = length-range_with_len a n in
    let three = length_push (range_with_len a n) (a + n) in
    same_lists (range_with_len a (n + 1)) (range_with_len a n ++ (a + n) ∷ []) (omega arith)
    (λ k d lt. get_or-range_with_len a (n + 1) k d (omega arith) ∙ ⊎_elim
    (λ (less : k < n). sym (get_or_append_left (range_with_len a n) ((a + n) ∷ []) d k (omega arith) ∙ get_or-range_with_len a n k d less))
    (λ (more : n ≤ k). let is : length (range_with_len a n) ≡ k = omega arith in (let e : a + k ≡ a + n = omega arith in e) ∙ sym (get_or_push (range_with_len a n) (a + n) d k is))
    (cases_lt k n))
