-- The numbers of a device are the sums of those of its sprigs.
use Rattle.std.proofs.Common.{◌≡◌, ◌⊎◌, inl, inr, ℕ, suc, ◌+◌, ◌-◌, ◌*◌, ◌/◌, ◌<◌, ◌≤◌, Bool, true, false, cond, ◌&&◌, List, [], ◌∷◌, length, Some, refl, sym, ◌∙◌, ap, subst, arith}
use Rattle.std.specs.Prelude.{◌==◌, filter, count_by, sum_by, nat_le, slice_get}
use Rattle.std.specs.List.{AllByRecursion}
use Rattle.std.proofs.lemmas.Bool.{le-leb, lt-leb, eq-eqb, ne_eqb, cases_lt}
use Rattle.std.proofs.lemmas.List.{length-map}
use Rattle.std.proofs.lemmas.List.Sums.{length-filter, sum_by-cons}
use Rattle.std.proofs.lemmas.Nat.{mod_below}
use Rattle.rec_format.specs.declared.version.Digest.{Digest}
use Rattle.rec_format.specs.declared.entry.Entry.{Entry}
use Rattle.rec_format.specs.Places.{partition_number, sprig_number, device_number}
use Rattle.rec_format.specs.Versions.{is_put, is_tombstone}
use Rattle.model_device.specs.Book.{Setup}
use Rattle.model_device.specs.Device.{State, entry, entry_is_covered, entry_passes, part_of, digests_of as logged, in_part, put_count, tombstone_count, covered_count}
use Rattle.model_device.specs.Steps.{part_total}
use Rattle.partition_map.proofs.PartLaws.{part_below}
use Rattle.sprig_tree.specs.Entries.{digests_in}
use Rattle.sprig_tree.specs.State.{SprigState}
use Rattle.law_sprig.specs.Fits.{FitsPart}
use Rattle.law_sprig.specs.Tests.{is_put_entry, is_tombstone_entry}
use Rattle.tomb_rules.specs.Covers.{is_covered_put}
use Rattle.law_sprig.specs.Parts.{FitsParts}
use Rattle.law_sprig.proofs.Showing.{puts_are, tombstones_are, covered_are}

-- a digest of the device is of one of its parts
pub part_exists : (setup : Setup) (d : Digest) → 0 < setup.devices → 0 < setup.sprigs → device_number setup.devices d ≡ setup.device → part_of setup d < part_total setup
part_exists setup d some_devices some_sprigs own =
    subst (λ (n : ℕ). part_of setup d < ((4095 - n) / setup.devices + 1) * setup.sprigs) own
    (part_below (partition_number d) (sprig_number setup.sprigs d) setup.devices setup.sprigs some_devices (mod_below _ 4096 (omega arith)) (mod_below _ setup.sprigs some_sprigs))

each_digest : (P Q : Digest → Type 0) (xs : List Digest) → ((d : Digest) → P d → Q d) → AllByRecursion P xs → AllByRecursion Q xs
each_digest P Q [] step all = tt
each_digest P Q (x ∷ xs) step all = (step x all.0, each_digest P Q xs step all.1)

count_agree : (p q : Digest → Bool) (xs : List Digest) → AllByRecursion (λ d. p d ≡ q d) xs → count_by p xs ≡ count_by q xs
count_agree p q [] all = refl
count_agree p q (x ∷ xs) all =
    sum_by-cons (λ d. cond (p d) 1 0) x xs ∙ (λ i. cond (all.0 i) 1 0 + count_agree p q xs all.1 i) ∙ sym (sum_by-cons (λ d. cond (q d) 1 0) x xs)

-- each that passes the first passes one of the others
count_split : (p q r : Digest → Bool) (xs : List Digest) → ((d : Digest) → cond (p d) 1 0 ≡ cond (q d) 1 0 + cond (r d) 1 0) → count_by p xs ≡ count_by q xs + count_by r xs
count_split p q r [] each = refl
count_split p q r (x ∷ xs) each =
    let one = sum_by-cons (λ d. cond (p d) 1 0) x xs in
    let two = sum_by-cons (λ d. cond (q d) 1 0) x xs in
    let three = sum_by-cons (λ d. cond (r d) 1 0) x xs in
    omega (arith, one, two, three, each x, count_split p q r xs each)

count_none : (p : Digest → Bool) (xs : List Digest) → AllByRecursion (λ d. p d ≡ false) xs → count_by p xs ≡ 0
count_none p [] all = refl
count_none p (x ∷ xs) all = sum_by-cons (λ d. cond (p d) 1 0) x xs ∙ (λ i. cond (all.0 i) 1 0 + count_none p xs all.1 i)

module _ (setup : Setup) (s : State) (test : Digest → Bool) (mine : Entry → Bool)
    (same : (part : ℕ) (sprig : SprigState) → FitsPart setup part sprig s → in_part setup part test s ≡ digests_in (filter mine sprig.entries)) where
  -- of one part
  part_count_is : (part : ℕ) (sprig : SprigState) → FitsPart setup part sprig s → count_by (λ d. (part_of setup d == part) && test d) (logged s.log) ≡ count_by mine sprig.entries
  part_count_is part sprig fits =
      sym (length-filter (λ d. (part_of setup d == part) && test d) (logged s.log)) ∙ ap length (same part sprig fits)
      ∙ length-map (filter mine sprig.entries) (λ (e : Entry). e.digest) ∙ length-filter mine sprig.entries

  -- a part from this on is this one or a later one
  parted : (from p : ℕ) (t : Bool) → cond (nat_le from p && t) 1 0 ≡ cond ((p == from) && t) 1 0 + cond (nat_le (from + 1) p && t) 1 0
  parted from p t = by (cases_lt from p) (cases_lt p from)
    where
      sides : (a b c : Bool) → nat_le from p ≡ a → (p == from) ≡ b → nat_le (from + 1) p ≡ c → cond (a && t) 1 0 ≡ cond (b && t) 1 0 + cond (c && t) 1 0
          → cond (nat_le from p && t) 1 0 ≡ cond ((p == from) && t) 1 0 + cond (nat_le (from + 1) p && t) 1 0
      sides a b c one two three e =
          ap (λ (x : Bool). cond (x && t) 1 0) one ∙ e ∙ (λ i. cond (sym two i && t) 1 0 + cond (sym three i && t) 1 0)

      first : (x : Bool) → cond x 1 0 ≡ cond x 1 0 + 0
      first true = refl
      first false = refl

      last : (x : Bool) → cond x 1 0 ≡ 0 + cond x 1 0
      last true = refl
      last false = refl

      by : (from < p) ⊎ (p ≤ from) → (p < from) ⊎ (from ≤ p) → cond (nat_le from p && t) 1 0 ≡ cond ((p == from) && t) 1 0 + cond (nat_le (from + 1) p && t) 1 0
      by (inl lt) other = sides true false true (le-leb from p (omega arith)) (ne_eqb p from (λ e. absurd (omega (arith, e, lt)))) (le-leb (from + 1) p (omega arith)) (last t)
      by (inr le) (inl lt) = sides false false false (lt-leb from p lt) (ne_eqb p from (λ e. absurd (omega (arith, e, lt)))) (lt-leb (from + 1) p (omega arith)) refl
      by (inr le) (inr ge) = sides true true false (le-leb from p ge) (eq-eqb p from (omega arith)) (lt-leb (from + 1) p (omega arith)) (first t)

  along : (from : ℕ) (sprigs : List SprigState) → ((k : ℕ) (sprig : SprigState) → slice_get sprigs k ≡ Some sprig → FitsPart setup (from + k) sprig s)
      → AllByRecursion (λ d. part_of setup d < from + length sprigs) (logged s.log)
      → count_by (λ d. nat_le from (part_of setup d) && test d) (logged s.log) ≡ sum_by (λ sprig. count_by mine sprig.entries) sprigs
  along from [] each below =
      count_none (λ d. nat_le from (part_of setup d) && test d) (logged s.log)
      (each_digest (λ d. part_of setup d < from + 0) (λ d. (nat_le from (part_of setup d) && test d) ≡ false) (logged s.log)
      (λ d lt. ap (λ (b : Bool). b && test d) (lt-leb from (part_of setup d) (omega arith))) below)
  along from (sprig ∷ sprigs) each below =
      count_split (λ d. nat_le from (part_of setup d) && test d) (λ d. (part_of setup d == from) && test d) (λ d. nat_le (from + 1) (part_of setup d) && test d) (logged s.log)
      (λ d. parted from (part_of setup d) (test d))
      ∙ (λ i. part_count_is from sprig (subst (λ (n : ℕ). FitsPart setup n sprig s) (plus_zero from) (each 0 sprig refl)) i
      + along (from + 1) sprigs (λ k x at. subst (λ (n : ℕ). FitsPart setup n x s) (next from k) (each (suc k) x at))
      (each_digest (λ d. part_of setup d < from + suc (length sprigs)) (λ d. part_of setup d < (from + 1) + length sprigs) (logged s.log) (λ d lt. omega arith) below) i)
      ∙ sym (sum_by-cons (λ (x : SprigState). count_by mine x.entries) sprig sprigs)
    where
      plus_zero : (n : ℕ) → n + 0 ≡ n
      plus_zero n = omega arith

      next : (n k : ℕ) → n + suc k ≡ (n + 1) + k
      next n k = omega arith

  -- over all parts
  pub parts_sum : (sprigs : List SprigState) → 0 < setup.devices → 0 < setup.sprigs → FitsParts setup sprigs s → count_by test (logged s.log) ≡ sum_by (λ sprig. count_by mine sprig.entries) sprigs
  parts_sum sprigs some_devices some_sprigs fits =
      count_agree test (λ d. nat_le 0 (part_of setup d) && test d) (logged s.log)
      (each_digest (λ d. device_number setup.devices d ≡ setup.device) (λ d. test d ≡ (nat_le 0 (part_of setup d) && test d)) (logged s.log)
      (λ d _. sym (ap (λ (b : Bool). b && test d) (le-leb 0 (part_of setup d) (omega arith)))) fits.own)
      ∙ along 0 sprigs (λ k sprig at. subst (λ (n : ℕ). FitsPart setup n sprig s) (zero_plus k) (fits.each k sprig at))
      (each_digest (λ d. device_number setup.devices d ≡ setup.device) (λ d. part_of setup d < 0 + length sprigs) (logged s.log)
      (λ d own. let below = part_exists setup d some_devices some_sprigs own in omega (arith, below, fits.count)) fits.own)
    where
      zero_plus : (n : ℕ) → n ≡ 0 + n
      zero_plus n = omega arith

-- The records, the tombstones and the covered records of a device are those of its parts together.
pub puts_sum : (setup : Setup) (sprigs : List SprigState) (s : State) → 0 < setup.devices → 0 < setup.sprigs → FitsParts setup sprigs s
    → put_count s ≡ sum_by (λ sprig. count_by is_put_entry sprig.entries) sprigs
puts_sum setup sprigs s some_devices some_sprigs fits =
    parts_sum setup s (λ d. entry_passes is_put (entry s d)) is_put_entry (λ part sprig one. puts_are setup part sprig s one.entries) sprigs some_devices some_sprigs fits

pub tombstones_sum : (setup : Setup) (sprigs : List SprigState) (s : State) → 0 < setup.devices → 0 < setup.sprigs → FitsParts setup sprigs s
    → tombstone_count s ≡ sum_by (λ sprig. count_by is_tombstone_entry sprig.entries) sprigs
tombstones_sum setup sprigs s some_devices some_sprigs fits =
    parts_sum setup s (λ d. entry_passes is_tombstone (entry s d)) is_tombstone_entry (λ part sprig one. tombstones_are setup part sprig s one.entries) sprigs some_devices some_sprigs fits

pub covered_sum : (setup : Setup) (sprigs : List SprigState) (s : State) → 0 < setup.devices → 0 < setup.sprigs → FitsParts setup sprigs s
    → covered_count s ≡ sum_by (λ sprig. count_by is_covered_put sprig.entries) sprigs
covered_sum setup sprigs s some_devices some_sprigs fits =
    parts_sum setup s (λ d. entry_passes is_put (entry s d) && entry_is_covered s d) is_covered_put (λ part sprig one. covered_are setup part sprig s one.entries) sprigs some_devices some_sprigs fits
