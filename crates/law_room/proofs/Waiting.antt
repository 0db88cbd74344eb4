-- Which blocks may be queued.
use Rattle.std.proofs.Common.{◌≡◌, ℕ, ◌*◌, ◌<◌, Bool, true, false, not, ◌&&◌, refl, ◌∙◌, ap, arith}
use Rattle.std.specs.Prelude.{nat_lt}
use Rattle.std.proofs.lemmas.Bool.{both_ways, and_parts, and_from, not-true, ltb-true, ltb-false, lt-ltb}
use Rattle.model_device.specs.Book.{Setup, Book, has_buffer, use_of, may_be_queued}

-- one in which nothing is live isn't
pub unused_waits_not : (setup : Setup) (book : Book) (block : ℕ) → use_of book block ≡ 0 → may_be_queued setup book block ≡ false
unused_waits_not setup book block none =
    ap (λ (n : ℕ). not (has_buffer book block) && nat_lt 0 n && nat_lt (n * 100) (setup.lwm * setup.capacity)) none ∙ by (not (has_buffer book block))
  where
    by : (t : Bool) → (t && false && nat_lt (0 * 100) (setup.lwm * setup.capacity)) ≡ false
    by true = refl
    by false = refl

-- nor one that has a buffer
pub buffered_waits_not : (setup : Setup) (book : Book) (block : ℕ) → has_buffer book block ≡ true → may_be_queued setup book block ≡ false
buffered_waits_not setup book block has = ap (λ (t : Bool). not t && nat_lt 0 (use_of book block) && nat_lt (use_of book block * 100) (setup.lwm * setup.capacity)) has

-- a queued block is below the mark
pub waits_below : (setup : Setup) (book : Book) (block : ℕ) → may_be_queued setup book block ≡ true → use_of book block * 100 < setup.lwm * setup.capacity
waits_below setup book block may =
    ltb-true (use_of book block * 100) (setup.lwm * setup.capacity)
    (and_parts (not (has_buffer book block) && nat_lt 0 (use_of book block)) (nat_lt (use_of book block * 100) (setup.lwm * setup.capacity)) may).1

-- and has no buffer
pub waits_bare : (setup : Setup) (book : Book) (block : ℕ) → may_be_queued setup book block ≡ true → has_buffer book block ≡ false
waits_bare setup book block may =
    not-true (has_buffer book block)
    (and_parts (not (has_buffer book block)) (nat_lt 0 (use_of book block))
    (and_parts (not (has_buffer book block) && nat_lt 0 (use_of book block)) (nat_lt (use_of book block * 100) (setup.lwm * setup.capacity)) may).0).0

-- one below the mark, without a buffer, that isn't queued has nothing live
pub waits_not : (setup : Setup) (book : Book) (block : ℕ) → has_buffer book block ≡ false → use_of book block * 100 < setup.lwm * setup.capacity
    → may_be_queued setup book block ≡ false → use_of book block ≡ 0
waits_not setup book block bare less may = by (nat_lt 0 (use_of book block)) refl
  where
    by : (t : Bool) → nat_lt 0 (use_of book block) ≡ t → use_of book block ≡ 0
    by true some =
        absurd (both_ways (may_be_queued setup book block) may
        (and_from (not (has_buffer book block) && nat_lt 0 (use_of book block)) (nat_lt (use_of book block * 100) (setup.lwm * setup.capacity))
        (and_from (not (has_buffer book block)) (nat_lt 0 (use_of book block)) (ap not bare) some) (lt-ltb (use_of book block * 100) (setup.lwm * setup.capacity) less)))
    by false none = omega (arith, ltb-false 0 (use_of book block) none)
