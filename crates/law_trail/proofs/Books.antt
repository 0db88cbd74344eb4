-- What a book keeps of its blocks: what is live or held isn't free, and after each change what is free may be so.
use Rattle.std.proofs.Common.{◌≡◌, ◌≢◌, ℕ, ◌≤◌, Bool, true, false, not, cond, ◌&&◌, List, [], ◌∷◌, Option, Some, None, refl, sym, ◌∙◌, ap, subst, arith}
use Rattle.std.proofs.lemmas.Bool.{and_parts, both_ways, not-true, eq-eqb, eqb-true, cond_both, cond-false}
use Rattle.std.specs.Prelude.{◌==◌, filter, Contains}
use Rattle.std.specs.List.{AllByRecursion}
use Rattle.law_lists.proofs.Counts.{part_of_sum}
use Rattle.law_lists.proofs.Each.{all_at, all_from}
use Rattle.law_lists.proofs.Finding.{any_there}
use Rattle.law_lists.proofs.Members.{first_there, rest_there, filter_there}
use Rattle.rec_format.specs.declared.version.Digest.{Digest}
use Rattle.rec_format.specs.Places.{same_digest}
use Rattle.model_device.specs.Book.{Setup, Book, Live, has_buffer, is_held, use_of, may_be_free, refreshed, live_of, without_live}
use Rattle.model_device.proofs.Laws.{free_qualifies}
use Rattle.rec_format.proofs.Laws.{same_digest_is}
use Rattle.law_trail.specs.Trail.{places_of, HaveOwnBlocks, IsBooked, NotFree}
use Rattle.law_trail.proofs.Places.{hold_held}

-- ---- what isn't free

-- what a free block hasn't
pub record HasNothing (book : Book) (block : ℕ) : Type 0 where
  pub buffer : has_buffer book block ≡ false
  pub live : use_of book block ≡ 0
  pub hold : is_held book block ≡ false

pub nothing_in : (book : Book) (block : ℕ) → may_be_free book block ≡ true → HasNothing book block
nothing_in book block free =
    let two = and_parts (not (has_buffer book block) && (use_of book block == 0)) (not (is_held book block)) free in
    let one = and_parts (not (has_buffer book block)) (use_of book block == 0) two.0 in
    record { buffer = not-true (has_buffer book block) one.0; live = eqb-true (use_of book block) 0 one.1; hold = not-true (is_held book block) two.1 }

pub free_has_nothing : (book : Book) (block : ℕ) → IsBooked book → Contains book.free block → HasNothing book block
free_has_nothing book block booked there = nothing_in book block (all_at (λ b. may_be_free book b ≡ true) book.free block booked.free there)

-- a block that is held isn't free
pub held_not_free : (book : Book) (number block : ℕ) → IsBooked book → Contains book.holds (number, block) → NotFree book block
held_not_free book number block booked held =
    all_from (λ b. b ≢ block) book.free
    (λ b there same. both_ways (is_held book block) (subst (λ (k : ℕ). is_held book k ≡ false) same (free_has_nothing book b booked there).hold) (hold_held book number block held))

-- nor is one with a live copy
pub used_not_free : (book : Book) (l : Live) → IsBooked book → Contains book.live l → NotFree book l.block
used_not_free book l booked live =
    all_from (λ b. b ≢ l.block) book.free
    (λ b there same.
    let none : use_of book l.block ≡ 0 = subst (λ (k : ℕ). use_of book k ≡ 0) same (free_has_nothing book b booked there).live in
    let part = part_of_sum (λ (m : Live). m.units) (filter (λ m. m.block == l.block) book.live) l (filter_there (λ (m : Live). m.block == l.block) book.live l (eq-eqb l.block l.block refl) live) in
    let takes = all_at (λ m. 1 ≤ m.units) book.live l booked.units live in omega (arith, none, part, takes))

-- ---- live copies

pub live_there : (digest : Digest) (live : List Live) (l : Live) → live_of digest live ≡ Some l → Contains live l
live_there digest [] l found = absurd (cc)
live_there digest (m ∷ live) l found = by (same_digest digest m.digest) found (live_there digest live l)
  where
    by : (b : Bool) → cond b (Some m) (live_of digest live) ≡ Some l → (live_of digest live ≡ Some l → Contains live l) → Contains (m ∷ live) l
    by true found rest = let same : m ≡ l = cc in subst (Contains (m ∷ live)) same (first_there m live)
    by false found rest = rest_there m live l (rest found)

-- the block of a live copy isn't free
pub live_not_free : (book : Book) (digest : Digest) (l : Live) → IsBooked book → live_of digest book.live ≡ Some l → NotFree book l.block
live_not_free book digest l booked live = used_not_free book l booked (live_there digest book.live l live)

-- the live copies of others stay
pub others_live : (digest e : Digest) (live : List Live) → same_digest e digest ≡ false → live_of e (without_live digest live) ≡ live_of e live
others_live digest e [] other = refl
others_live digest e (m ∷ live) other = by (same_digest digest m.digest) refl (others_live digest e live other)
  where
    by : (b : Bool) → same_digest digest m.digest ≡ b → live_of e (without_live digest live) ≡ live_of e live
        → live_of e (cond (not b) (m ∷ without_live digest live) (without_live digest live)) ≡ cond (same_digest e m.digest) (Some m) (live_of e live)
    by true same rest =
        rest ∙ sym (cond-false (same_digest e m.digest) (Some m) (live_of e live) (ap (same_digest e) (sym (same_digest_is digest m.digest same)) ∙ other))
    by false apart rest = ap (λ (o : Option Live). cond (same_digest e m.digest) (Some m) o) rest

-- and those of the digest are gone
pub none_live : (digest : Digest) (live : List Live) → live_of digest (without_live digest live) ≡ None
none_live digest [] = refl
none_live digest (m ∷ live) = by (same_digest digest m.digest) refl (none_live digest live)
  where
    by : (b : Bool) → same_digest digest m.digest ≡ b → live_of digest (without_live digest live) ≡ None
        → live_of digest (cond (not b) (m ∷ without_live digest live) (without_live digest live)) ≡ None
    by true same rest = rest
    by false apart rest = cond-false (same_digest digest m.digest) (Some m) (live_of digest (without_live digest live)) apart ∙ rest

-- ---- after a change

pub refreshed_booked : (setup : Setup) (book : Book) → HaveOwnBlocks (places_of book) → AllByRecursion (λ l. 1 ≤ l.units) book.live → IsBooked (refreshed setup book)
unfolding refreshed
refreshed_booked setup book apart units = record {
  free = all_from (λ b. may_be_free book b ≡ true) (refreshed setup book).free
      (λ b there. free_qualifies setup book b (any_there (λ k. k == b) (refreshed setup book).free b there (eq-eqb b b refl)));
  apart = apart;
  units = units;
}

-- fewer live copies take room too
pub fewer_live : (p : Live → Bool) (live : List Live) → AllByRecursion (λ l. 1 ≤ l.units) live → AllByRecursion (λ l. 1 ≤ l.units) (filter p live)
fewer_live p [] all = tt
fewer_live p (l ∷ live) all =
    let rest = fewer_live p live all.1 in cond_both (p l) (l ∷ filter p live) (filter p live) (AllByRecursion (λ l. 1 ≤ l.units)) (λ _. (all.0, rest)) (λ _. rest)
