-- The free blocks of a book behind a change: those that still qualify, in order, and behind them those that newly do.
use Rattle.std.proofs.Common.{◌≡◌, ◌≢◌, ℕ, ◌<◌, ◌≤◌, Bool, true, false, not, ◌&&◌, List, [], ◌∷◌, ◌++◌, sum_by, refl, sym, ◌∙◌, ap, subst, arith}
use Rattle.std.specs.Prelude.{filter, Contains, ◌==◌}
use Rattle.std.specs.List.{AllByRecursion}
use Rattle.std.proofs.lemmas.Bool.{cond-false, eq-eqb, eqb-true, ne_eqb, both_ways}
use Rattle.std.proofs.lemmas.List.{append-nil}
use Rattle.std.proofs.lemmas.List.Elements.{Contains-append_left, Contains-append_right}
use Rattle.law_lists.proofs.Counts.{part_of_sum}
use Rattle.law_lists.proofs.Each.{all_from, all_at}
use Rattle.law_lists.proofs.Filters.{filter_all, filter_none}
use Rattle.law_lists.proofs.Finding.{any_there, some_at, none_at, none_from}
use Rattle.law_lists.proofs.Members.{filter_there}
use Rattle.law_lists.proofs.Ranges.{in_range}
use Rattle.model_device.specs.Book.{Setup, Book, Live, may_be_free, updated, is_in, all_blocks, refreshed, has_buffer, use_of, is_held}
use Rattle.law_trail.specs.Trail.{places_of}
use Rattle.law_trail.proofs.Places.{buffer_place}
use Rattle.law_trail.proofs.Books.{HasNothing, nothing_in}

-- ---- lists

pub in_is : (blocks : List ℕ) (b : ℕ) → is_in blocks b ≡ true → Contains blocks b
in_is blocks b is = let some = some_at (λ (k : ℕ). k == b) blocks is in subst (Contains blocks) (eqb-true some.0 b some.2) some.1

pub is_in_there : (blocks : List ℕ) (b : ℕ) → Contains blocks b → is_in blocks b ≡ true
is_in_there blocks b there = any_there (λ k. k == b) blocks b there (eq-eqb b b refl)

pub not_in : (blocks : List ℕ) (b : ℕ) → AllByRecursion (λ k. k ≢ b) blocks → is_in blocks b ≡ false
not_in blocks b apart = none_from (λ k. k == b) blocks (λ k there. ne_eqb k b (all_at (λ j. j ≢ b) blocks k apart there))

-- a test that no other block of a range passes
-- ---- what qualifies

pub refreshed_free : (setup : Setup) (book : Book) → (refreshed setup book).free ≡ updated (may_be_free book) book.free (all_blocks setup)
unfolding refreshed
refreshed_free setup book = refl

-- those that were free still are, and these come
pub updated_more : (q : ℕ → Bool) (old all more : List ℕ) → AllByRecursion (λ b. q b ≡ true) old → filter (λ b. q b && not (is_in old b)) all ≡ more → updated q old all ≡ old ++ more
updated_more q old all more still is = ap (λ (l : List ℕ). l ++ filter (λ b. q b && not (is_in old b)) all) (filter_all q old still) ∙ ap (λ (l : List ℕ). old ++ l) is

-- no other qualifies than those that were free
none_new : (q : ℕ → Bool) (old all : List ℕ) → AllByRecursion (λ b. q b ≡ true → Contains old b) all → filter (λ b. q b && not (is_in old b)) all ≡ []
none_new q old all each = filter_none (λ b. q b && not (is_in old b)) all (over all each)
  where
    by : (b : ℕ) (qb : Bool) → q b ≡ qb → (q b ≡ true → Contains old b) → (qb && not (is_in old b)) ≡ false
    by b true is in_old = ap not (is_in_there old b (in_old is))
    by b false is in_old = refl

    over : (bs : List ℕ) → AllByRecursion (λ b. q b ≡ true → Contains old b) bs → AllByRecursion (λ b. (q b && not (is_in old b)) ≡ false) bs
    over [] each = tt
    over (b ∷ bs) each = (by b (q b) refl each.0, over bs each.1)

pub updated_same : (q : ℕ → Bool) (old all : List ℕ) → AllByRecursion (λ b. q b ≡ true) old → AllByRecursion (λ b. q b ≡ true → Contains old b) all → updated q old all ≡ old
updated_same q old all still each = updated_more q old all [] still (none_new q old all each) ∙ append-nil old

-- the first is taken
pub updated_taken : (q : ℕ → Bool) (first : ℕ) (rest all : List ℕ) → q first ≡ false → AllByRecursion (λ b. q b ≡ true) rest
    → AllByRecursion (λ b. q b ≡ true → Contains (first ∷ rest) b) all → updated q (first ∷ rest) all ≡ rest
updated_taken q first rest all gone still each =
    ap (λ (l : List ℕ). l ++ filter (λ b. q b && not (is_in (first ∷ rest) b)) all) (cond-false (q first) (first ∷ filter q rest) (filter q rest) gone ∙ filter_all q rest still)
    ∙ ap (λ (l : List ℕ). rest ++ l) (none_new q (first ∷ rest) all each) ∙ append-nil rest

-- ---- blocks that have nothing

-- no buffer has the block, nothing in it is live, and no buffer holds it
pub record IsVacant (book : Book) (block : ℕ) : Type 0 where
  pub places : (number : ℕ) → Contains (places_of book) (number, block) → ⊥
  pub live : (l : Live) → Contains book.live l → l.block ≢ block
  pub holds : (number : ℕ) → Contains book.holds (number, block) → ⊥

pub vacant_from : (book : Book) (block : ℕ) → AllByRecursion (λ l. 1 ≤ l.units) book.live → may_be_free book block ≡ true → IsVacant book block
vacant_from book block units may = record {
  places = λ number there. both_ways (block == block) (none_at (λ (p : ℕ × ℕ). p.1 == block) (places_of book) (number, block) (sym (buffer_place book block) ∙ nothing.buffer) there)
      (eq-eqb block block refl);
  live = λ l there same.
      let part = part_of_sum (λ (m : Live). m.units) (filter (λ m. m.block == block) book.live) l (filter_there (λ (m : Live). m.block == block) book.live l (eq-eqb l.block block same) there) in
      let takes = all_at (λ m. 1 ≤ m.units) book.live l units there in
      let none = nothing.live in omega (arith, none, part, takes);
  holds = λ number there. both_ways (block == block) (none_at (λ (h : ℕ × ℕ). h.1 == block) book.holds (number, block) nothing.hold there) (eq-eqb block block refl);
}
  where
    nothing : HasNothing book block
    nothing = nothing_in book block may

pub vacant_is : (book : Book) (block : ℕ) → IsVacant book block → may_be_free book block ≡ true
vacant_is book block vacant =
    ap (λ (x : Bool). not x && (use_of book block == 0) && not (is_held book block)) unbuffered
    ∙ ap (λ (n : ℕ). (n == 0) && not (is_held book block)) unused ∙ ap not unheld
  where
    unbuffered : has_buffer book block ≡ false
    unbuffered = buffer_place book block ∙ none_from (λ (p : ℕ × ℕ). p.1 == block) (places_of book)
        (λ p there. ne_eqb p.1 block (λ same. vacant.places p.0 (subst (λ (k : ℕ). Contains (places_of book) (p.0, k)) same there)))

    unused : use_of book block ≡ 0
    unused = ap (sum_by (λ (l : Live). l.units)) (filter_none (λ (l : Live). l.block == block) book.live
        (all_from (λ l. (l.block == block) ≡ false) book.live (λ l there. ne_eqb l.block block (vacant.live l there))))

    unheld : is_held book block ≡ false
    unheld = none_from (λ (h : ℕ × ℕ). h.1 == block) book.holds (λ h there. ne_eqb h.1 block (λ same. vacant.holds h.0 (subst (λ (k : ℕ). Contains book.holds (h.0, k)) same there)))

-- ---- all that may be free are among the free ones

pub refreshed_all : (setup : Setup) (book : Book) → (block : ℕ) → block < setup.blocks → may_be_free book block ≡ true → Contains (refreshed setup book).free block
refreshed_all setup book block lt may = subst (λ (l : List ℕ). Contains l block) (sym (refreshed_free setup book)) (by (is_in book.free block) refl)
  where
    kept : List ℕ
    kept = filter (may_be_free book) book.free

    come : List ℕ
    come = filter (λ b. may_be_free book b && not (is_in book.free b)) (all_blocks setup)

    by : (was : Bool) → is_in book.free block ≡ was → Contains (kept ++ come) block
    by true was = Contains-append_left kept come block (filter_there (may_be_free book) book.free block may (in_is book.free block was))
    by false was =
        Contains-append_right kept come block (filter_there (λ b. may_be_free book b && not (is_in book.free b)) (all_blocks setup) block
        (ap (λ (x : Bool). x && not (is_in book.free block)) may ∙ ap not was) (in_range 0 setup.blocks block (omega arith) (omega (arith, lt))))
