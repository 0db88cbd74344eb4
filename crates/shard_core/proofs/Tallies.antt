-- What a step over one sprig makes of the tally of all, and what the tally says of a state.
use Rattle.std.proofs.Common.{◌≡◌, ℕ, zero, suc, ◌+◌, ◌-◌, ◌%◌, ◌^◌, ◌<◌, ◌≤◌, Bool, true, ◌&&◌, List, [], ◌∷◌, length, get_or, set, get_or-set_same, refl, sym, ◌∙◌, ap, subst, arith}
use Rattle.std.specs.Prelude.{◌==◌, Option, Some, None, sum_by, count_by, slice_get}
use Rattle.std.proofs.lemmas.Bool.{and_parts, false≢true}
use Rattle.std.proofs.lemmas.List.Sums.{sum_by-set, sum_by-cons, length-filter}
use Rattle.rec_format.specs.declared.version.Digest.{Digest}
use Rattle.rec_format.specs.declared.version.Version.{Version}
use Rattle.rec_format.specs.Versions.{is_put, is_tombstone, is_expired_put}
use Rattle.model_device.specs.Device.{State, entry, entry_passes, entry_is_covered, part_of, digests_of, expired_in, put_count, tombstone_count, covered_count}
use Rattle.disk_model.specs.Disk.{DiskView}
use Rattle.sprig_tree.specs.declared.tally.Tally.{Tally}
use Rattle.sprig_tree.specs.State.{SprigState}
use Rattle.sprig_tree.specs.Tallies.{tally_of, is_tomb_entry, is_put_entry, joined, parted}
use Rattle.law_sprig.proofs.Counting.{puts_sum, tombstones_sum, covered_sum}
use Rattle.block_shelf.specs.View.{IsShelf}
use Rattle.shard_core.specs.Stands.{Agrees, IsWhole}
use Rattle.shard_core.specs.Numbers.{tally_sum}
use Rattle.shard_core.specs.View.{ShardView, setup_of}
use Rattle.shard_core.proofs.Places.{few_entries}

-- ---- a step over one sprig

-- A sum without a number and with another is the sum in which the other took its place.
turned : (sum a b new : ℕ) → new + a ≡ sum + b → a < 2 ^ 64 → ((sum % 2 ^ 64 + 2 ^ 64 - a) % 2 ^ 64 + b) % 2 ^ 64 ≡ new % 2 ^ 64
turned sum a b new e lt = omega arith

-- one sprig takes another's place
module _ (sprigs : List SprigState) (k : ℕ) (before after : SprigState) (there : k < length sprigs) (at : before ≡ get_or sprigs k before) where
  turned_sum : (f : SprigState → ℕ) → f before < 2 ^ 64 → ((sum_by f sprigs % 2 ^ 64 + 2 ^ 64 - f before) % 2 ^ 64 + f after) % 2 ^ 64 ≡ sum_by f (set sprigs k after) % 2 ^ 64
  turned_sum f lt =
      turned (sum_by f sprigs) (f before) (f after) (sum_by f (set sprigs k after))
      (ap (λ (x : SprigState). sum_by f (set sprigs k after) + f x) at ∙ sum_by-set f sprigs k after before there) lt

  tally_moved : (tally_of before.entries).records < 2 ^ 64 → (tally_of before.entries).tombstones < 2 ^ 64 → (tally_of before.entries).covered < 2 ^ 64
      → joined (parted (tally_sum sprigs) (tally_of before.entries)) (tally_of after.entries) ≡ tally_sum (set sprigs k after)
  tally_moved records tombstones covered =
      let one = turned_sum (λ s. (tally_of s.entries).records) records in
      let two = turned_sum (λ s. (tally_of s.entries).tombstones) tombstones in
      let three = turned_sum (λ s. (tally_of s.entries).covered) covered in
      λ i. record { records = one i; tombstones = two i; covered = three i }

  -- The tally that a step leaves, by those of the sprig before it and after it.
  module _ (seen : SprigState) (behind : seen ≡ get_or (set sprigs k after) k seen) (tally first last without with : Tally)
      (is_tally : tally ≡ tally_sum sprigs) (is_first : first ≡ tally_of before.entries) (is_last : last ≡ tally_of seen.entries)
      (is_without : without ≡ parted tally first) (is_with : with ≡ joined without last) where
    pub tally_behind : first.records < 2 ^ 64 → first.tombstones < 2 ^ 64 → first.covered < 2 ^ 64 → with ≡ tally_sum (set sprigs k after)
    tally_behind records tombstones covered =
        let same : seen ≡ after = behind ∙ get_or-set_same sprigs k after seen there in
        is_with
        ∙ (λ i. joined (is_without i) (is_last i))
        ∙ (λ i. joined (parted (is_tally i) (is_first i)) (tally_of (same i).entries))
        ∙ tally_moved (subst (λ (x : Tally). x.records < 2 ^ 64) is_first records) (subst (λ (x : Tally). x.tombstones < 2 ^ 64) is_first tombstones)
        (subst (λ (x : Tally). x.covered < 2 ^ 64) is_first covered)

-- a sprig that counts the same leaves the sum
same_sum : (f : SprigState → ℕ) (sprigs : List SprigState) (k : ℕ) (before after : SprigState) → before ≡ get_or sprigs k before → f after ≡ f before → sum_by f (set sprigs k after) ≡ sum_by f sprigs
same_sum f [] k before after at same = refl
same_sum f (x ∷ xs) zero before after at same = sum_by-cons f after xs ∙ ap (λ n. n + sum_by f xs) (same ∙ ap f at) ∙ sym (sum_by-cons f x xs)
same_sum f (x ∷ xs) (suc k) before after at same = sum_by-cons f x (set xs k after) ∙ ap (λ n. f x + n) (same_sum f xs k before after at same) ∙ sym (sum_by-cons f x xs)

-- a sprig whose entries stay leaves the tally
pub tally_same : (sprigs : List SprigState) (k : ℕ) (before after : SprigState) → before ≡ get_or sprigs k before → after.entries ≡ before.entries → tally_sum (set sprigs k after) ≡ tally_sum sprigs
tally_same sprigs k before after at same =
    let one = same_sum (λ s. (tally_of s.entries).records) sprigs k before after at (ap (λ l. (tally_of l).records) same) in
    let two = same_sum (λ s. (tally_of s.entries).tombstones) sprigs k before after at (ap (λ l. (tally_of l).tombstones) same) in
    let three = same_sum (λ s. (tally_of s.entries).covered) sprigs k before after at (ap (λ l. (tally_of l).covered) same) in
    λ i. record { records = one i % 2 ^ 64; tombstones = two i % 2 ^ 64; covered = three i % 2 ^ 64 }

-- one of them counts for no more than all
part_of_sum : (f : SprigState → ℕ) (sprigs : List SprigState) (k : ℕ) (sprig : SprigState) → slice_get sprigs k ≡ Some sprig → f sprig ≤ sum_by f sprigs
part_of_sum f [] k sprig at = absurd cc
part_of_sum f (x ∷ xs) zero sprig at = let one : x ≡ sprig = cc in let sum = sum_by-cons f x xs in let is = ap f one in omega (arith, sum, is)
part_of_sum f (x ∷ xs) (suc k) sprig at = let sum = sum_by-cons f x xs in let rest = part_of_sum f xs k sprig at in omega (arith, sum, rest)

-- ---- a state

-- a small sum doesn't go around
unturned : (n k : ℕ) → n ≡ k → n ≤ 2 ^ 32 → k % 2 ^ 64 ≡ n
unturned n k e le = omega arith

module _ {D : Type 0} (view : D → DiskView) (shard : ShardView D) (s : State) (is : IsShelf view shard.shelf) (whole : IsWhole shard) (agrees : Agrees shard s) where
  -- a version that passes is there
  passed : (test : Version → Bool) (o : Option Version) → entry_passes test o ≡ true → (v : Version) × (o ≡ Some v)
  passed test None passes = absurd (false≢true passes)
  passed test (Some v) passes = (v, refl)

  some_devices : 0 < shard.shelf.geometry.devices
  some_devices = omega (arith, is.geometry.device)

  some_sprigs : 0 < shard.set.sprigs
  some_sprigs = omega (arith, whole.settings.sprigs)

  -- At most 2^32 entries are of each kind.
  pub few_puts : put_count s ≤ 2 ^ 32
  few_puts = few_entries view shard s is whole agrees (λ d. entry_passes is_put (entry s d)) (λ d passes. passed is_put (entry s d) passes)

  pub few_tombstones : tombstone_count s ≤ 2 ^ 32
  few_tombstones = few_entries view shard s is whole agrees (λ d. entry_passes is_tombstone (entry s d)) (λ d passes. passed is_tombstone (entry s d) passes)

  pub few_covered : covered_count s ≤ 2 ^ 32
  few_covered =
      few_entries view shard s is whole agrees (λ d. entry_passes is_put (entry s d) && entry_is_covered s d)
      (λ d passes. passed is_put (entry s d) (and_parts (entry_passes is_put (entry s d)) (entry_is_covered s d) passes).0)

  -- and of a part at most so many are expired
  pub few_expired : (part now : ℕ) → length (expired_in (setup_of shard) now part s) ≤ 2 ^ 32
  few_expired part now =
      let told : Digest → Bool = λ d. (part_of (setup_of shard) d == part) && entry_passes (is_expired_put now) (entry s d) in
      subst (λ (n : ℕ). n ≤ 2 ^ 32) (sym (length-filter told (digests_of s.log)))
      (few_entries view shard s is whole agrees told
      (λ d passes. passed (is_expired_put now) (entry s d) (and_parts (part_of (setup_of shard) d == part) (entry_passes (is_expired_put now) (entry s d)) passes).1))

  -- A sprig has at most 2^32 entries of each kind.
  pub few_in_sprig : (k : ℕ) (sprig : SprigState) → slice_get shard.sprigs k ≡ Some sprig → (count_by is_put_entry sprig.entries ≤ 2 ^ 32) × (count_by is_tomb_entry sprig.entries ≤ 2 ^ 32)
  few_in_sprig k sprig at =
      let puts = puts_sum (setup_of shard) shard.sprigs s some_devices some_sprigs agrees.sprigs in
      let tombs = tombstones_sum (setup_of shard) shard.sprigs s some_devices some_sprigs agrees.sprigs in
      let one = part_of_sum (λ x. count_by is_put_entry x.entries) shard.sprigs k sprig at in
      let two = part_of_sum (λ x. count_by is_tomb_entry x.entries) shard.sprigs k sprig at in
      (omega (arith, puts, few_puts, one), omega (arith, tombs, few_tombstones, two))

  -- The tally of a shard tells how many records, tombstones and covered records the state has.
  pub tally_tells : record {
    records : (tally_sum shard.sprigs).records ≡ put_count s;
    tombstones : (tally_sum shard.sprigs).tombstones ≡ tombstone_count s;
    covered : (tally_sum shard.sprigs).covered ≡ covered_count s;
  }
  tally_tells = record {
    records = unturned (put_count s) _ (puts_sum (setup_of shard) shard.sprigs s some_devices some_sprigs agrees.sprigs) few_puts;
    tombstones = unturned (tombstone_count s) _ (tombstones_sum (setup_of shard) shard.sprigs s some_devices some_sprigs agrees.sprigs) few_tombstones;
    covered = unturned (covered_count s) _ (covered_sum (setup_of shard) shard.sprigs s some_devices some_sprigs agrees.sprigs) few_covered;
  }
