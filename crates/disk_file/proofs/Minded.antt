-- The spans in mind go on having each byte that matters.
use Rattle.std.proofs.Common.{◌≡◌, ℕ, ◌<◌, inl, inr, Bool, true, false, not, List, [], ◌∷◌, ◌++◌, length, nat_le, nat_lt, ◌&&◌, ◌||◌, if◌then◌else◌, IsTrue, refl, sym, subst, arith}
use Rattle.std.proofs.lemmas.Bool.{or_cases, and_parts, and_from, leb-true, ltb-true, le-leb, lt-ltb, not-true, both_ways}
use Rattle.disk_file.specs.declared.unsynced.Span.{Span}
use Rattle.disk_file.specs.Spans.{Waiting, whole, kept_in, is_covered, left_by, after_write, after_sync}
use Rattle.disk_file.specs.Bytes.{has_byte, IsIn, Bytes, bytes_after_write, bytes_after_sync, Minds}

in_kept : (len : ℕ) (spans : List Span) (b : ℕ) → b < len → IsIn spans b → IsIn (kept_in len spans) b
in_kept len spans b below here = by (nat_le (length spans) 16)
  where
    by : (fits : Bool) → IsIn (if fits then spans else whole len ∷ []) b
    by true = here
    by false = inl (and_from (nat_le 0 b) (nat_lt b len) (le-leb 0 b (omega arith)) (lt-ltb b len below))

in_front : (xs ys : List Span) (b : ℕ) → IsIn xs b → IsIn (xs ++ ys) b
in_front [] ys b h = absurd h
in_front (x ∷ xs) ys b (inl h) = inl h
in_front (x ∷ xs) ys b (inr h) = inr (in_front xs ys b h)

in_back : (xs ys : List Span) (b : ℕ) → IsIn ys b → IsIn (xs ++ ys) b
in_back [] ys b h = h
in_back (x ∷ xs) ys b h = inr (in_back xs ys b h)

-- what covers a span has its bytes
covered_has : (by span : Span) (b : ℕ) → IsTrue (is_covered by span) → IsTrue (has_byte span b) → IsTrue (has_byte by b)
covered_has by span b covered here = and_from (nat_le by.start b) (nat_lt b by.end)
    (le-leb by.start b (omega (arith, leb-true _ _ ends.0, leb-true _ _ is.0)))
    (lt-ltb b by.end (omega (arith, leb-true _ _ ends.1, ltb-true _ _ is.1)))
  where
    ends : IsTrue (nat_le by.start span.start) × IsTrue (nat_le span.end by.end)
    ends = and_parts (nat_le by.start span.start) (nat_le span.end by.end) covered

    is : IsTrue (nat_le span.start b) × IsTrue (nat_lt b span.end)
    is = and_parts (nat_le span.start b) (nat_lt b span.end) here

-- a byte outside of the span that takes some out stays in
in_left : (by : Span) (spans : List Span) (b : ℕ) → has_byte by b ≡ false → IsIn spans b → IsIn (left_by by spans) b
in_left by [] b out h = h
in_left by (x ∷ xs) b out h = cases (in_left by xs b out) (is_covered by x) refl h
  where
    cases : (IsIn xs b → IsIn (left_by by xs) b) → (t : Bool) → is_covered by x ≡ t → IsIn (x ∷ xs) b → IsIn (if not t then x ∷ left_by by xs else left_by by xs) b
    cases rest true is (inl here) = absurd (both_ways (has_byte by b) out (covered_has by x b is here))
    cases rest true is (inr later) = rest later
    cases rest false is (inl here) = inl here
    cases rest false is (inr later) = inr (rest later)

write_minds : (span : Span) (landed : Bool) (a : Bytes) (w : Waiting) → Minds a w → Minds (bytes_after_write span landed a) (after_write span landed w)
write_minds span landed a w minds = record {
  written = λ b below is. in_kept w.len (w.written ++ span ∷ []) b below (elim (or_cases (a.written b) (has_byte span b) is) [
    | inl before ↦ in_front w.written (span ∷ []) b (minds.written b below before)
    | inr here ↦ in_back w.written (span ∷ []) b (inl here)
  ]);
  lost = by landed;
}
  where
    by : (did : Bool) (b : ℕ) → b < w.len → IsTrue (a.lost b && not (did && has_byte span b)) → IsIn (if did then left_by span w.lost else w.lost) b
    by true b below is = let both = and_parts (a.lost b) (not (has_byte span b)) is in
        in_left span w.lost b (not-true (has_byte span b) both.1) (minds.lost b below both.0)
    by false b below is = minds.lost b below (and_parts (a.lost b) true is).0

sync_minds : (went_well : Bool) (a : Bytes) (w : Waiting) → Minds a w → Minds (bytes_after_sync went_well a) (after_sync went_well w)
sync_minds went_well a w minds = record {
  written = λ b below is. absurd (both_ways false refl is);
  lost = by went_well;
}
  where
    by : (well : Bool) (b : ℕ) → b < w.len → IsTrue (a.lost b || (not well && a.written b)) → IsIn (if well then w.lost else kept_in w.len (w.lost ++ w.written)) b
    by true b below is = elim (or_cases (a.lost b) false is) [
      | inl before ↦ minds.lost b below before
      | inr never ↦ absurd (both_ways false refl never)
    ]
    by false b below is = in_kept w.len (w.lost ++ w.written) b below (elim (or_cases (a.lost b) (a.written b) is) [
      | inl before ↦ in_front w.lost w.written b (minds.lost b below before)
      | inr fresh ↦ in_back w.lost w.written b (minds.written b below fresh)
    ])

-- of the state after, however it is written
pub write_minded : (span : Span) (landed : Bool) (w next : Waiting) → next ≡ after_write span landed w → (a : Bytes) → Minds a w → Minds (bytes_after_write span landed a) next
write_minded span landed w next is a minds = subst (λ (n : Waiting). Minds (bytes_after_write span landed a) n) (sym is) (write_minds span landed a w minds)

pub sync_minded : (went_well : Bool) (w next : Waiting) → next ≡ after_sync went_well w → (a : Bytes) → Minds a w → Minds (bytes_after_sync went_well a) next
sync_minded went_well w next is a minds = subst (λ (n : Waiting). Minds (bytes_after_sync went_well a) n) (sym is) (sync_minds went_well a w minds)
