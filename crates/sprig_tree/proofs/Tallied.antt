-- What an edit of a list of entries makes of its tally.
use Rattle.std.proofs.Common.{◌≡◌, ℕ, suc, ◌+◌, ◌-◌, ◌%◌, ◌^◌, ◌<◌, ◌≤◌, Bool, cond, List, [], ◌∷◌, ◌++◌, length, take, drop, get_or, set, sym, ap, subst, ◌∙◌, add-one, length-append, arith}
use Rattle.std.specs.Prelude.{count_by}
use Rattle.std.specs.List.{insert, remove}
use Rattle.std.proofs.lemmas.List.{take-append-drop, drop_more, set_split}
use Rattle.std.proofs.lemmas.List.Edits.{length-insert}
use Rattle.std.proofs.lemmas.List.Sums.{sum_by-append, sum_by-cons, count_by-le-length}
use Rattle.rec_format.specs.declared.entry.Entry.{Entry}
use Rattle.sprig_tree.specs.Tallies.{is_put_entry, is_tomb_entry, is_covered_entry, tally_of, joined, parted}

-- numbers below 2^64
added : (a b n : ℕ) → a + b ≡ n → n < 2 ^ 64 → (a + b) % 2 ^ 64 ≡ n
added a b n e lt = omega arith

left : (a b n : ℕ) → n + b ≡ a → a < 2 ^ 64 → (a + 2 ^ 64 - b) % 2 ^ 64 ≡ n
left a b n e lt = omega arith

-- an entry between others counts once more
counted : (p : Entry → Bool) (front rest : List Entry) (e : Entry) → count_by p (front ++ rest) + count_by p (e ∷ []) ≡ count_by p (front ++ e ∷ rest)
counted p front rest e =
    let one : Entry → ℕ = λ x. cond (p x) 1 0 in
    let without = sum_by-append one front rest in
    let whole = sum_by-append one front (e ∷ rest) in
    let step = sum_by-cons one e rest in
    let single = sum_by-cons one e [] in
    omega (arith, without, whole, step, single)

module _ (front rest : List Entry) (e : Entry) (small : length (front ++ e ∷ rest) < 2 ^ 64) where
  below : (p : Entry → Bool) → count_by p (front ++ e ∷ rest) < 2 ^ 64
  below p = omega (arith, count_by-le-length p (front ++ e ∷ rest))

  pub tally_with : joined (tally_of (front ++ rest)) (tally_of (e ∷ [])) ≡ tally_of (front ++ e ∷ rest)
  tally_with =
      let by = λ (p : Entry → Bool). added (count_by p (front ++ rest)) (count_by p (e ∷ [])) (count_by p (front ++ e ∷ rest)) (counted p front rest e) (below p) in
      λ i. record { records = by is_put_entry i; tombstones = by is_tomb_entry i; covered = by is_covered_entry i }

  pub tally_without : parted (tally_of (front ++ e ∷ rest)) (tally_of (e ∷ [])) ≡ tally_of (front ++ rest)
  tally_without =
      let by = λ (p : Entry → Bool). left (count_by p (front ++ e ∷ rest)) (count_by p (e ∷ [])) (count_by p (front ++ rest)) (counted p front rest e) (below p) in
      λ i. record { records = by is_put_entry i; tombstones = by is_tomb_entry i; covered = by is_covered_entry i }

-- what stands at a place, between what is before and behind it
cut : (xs : List Entry) (at : ℕ) (e : Entry) → at < length xs → e ≡ get_or xs at e → xs ≡ take at xs ++ e ∷ drop (suc at) xs
cut xs at e lt read =
    sym (take-append-drop at xs)
    ∙ ap (λ l. take at xs ++ l) (drop_more xs at e lt)
    ∙ ap (λ (x : Entry). take at xs ++ x ∷ drop (at + 1) xs) (sym read)
    ∙ ap (λ n. take at xs ++ e ∷ drop n xs) (add-one at)

module _ (xs : List Entry) (at : ℕ) (small : length xs < 2 ^ 63) where
  pub tally_inserted : (e : Entry) → at ≤ length xs → joined (tally_of xs) (tally_of (e ∷ [])) ≡ tally_of (insert xs at e)
  tally_inserted e le =
      ap (λ (l : List Entry). joined (tally_of l) (tally_of (e ∷ []))) (sym (take-append-drop at xs))
      ∙ tally_with (take at xs) (drop at xs) e (omega (arith, length-insert xs at e le))

  -- where an entry stands
  module _ (e : Entry) (lt : at < length xs) (read : e ≡ get_or xs at e) where
    whole : length (take at xs ++ e ∷ drop (suc at) xs) < 2 ^ 64
    whole = subst (λ (l : List Entry). length l < 2 ^ 64) (cut xs at e lt read) (omega arith)

    pub tally_removed : parted (tally_of xs) (tally_of (e ∷ [])) ≡ tally_of (remove xs at)
    tally_removed =
        ap (λ (l : List Entry). parted (tally_of l) (tally_of (e ∷ []))) (cut xs at e lt read)
        ∙ tally_without (take at xs) (drop (suc at) xs) e whole

    pub tally_replaced : (new : Entry) → joined (parted (tally_of xs) (tally_of (e ∷ []))) (tally_of (new ∷ [])) ≡ tally_of (set xs at new)
    tally_replaced new =
        ap (λ t. joined t (tally_of (new ∷ []))) tally_removed
        ∙ tally_with (take at xs) (drop (suc at) xs) new
        (omega (arith, whole, length-append (take at xs) (e ∷ drop (suc at) xs), length-append (take at xs) (new ∷ drop (suc at) xs)))
        ∙ ap tally_of (sym (set_split xs at new lt))
