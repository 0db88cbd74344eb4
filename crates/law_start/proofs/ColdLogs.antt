-- The log that a start makes of some copies: of each digest it has the versions of the digest's copies, the latest first.
use Rattle.std.proofs.Common.{◌≡◌, ℕ, max, Bool, true, false, ◌&&◌, cond, List, [], ◌∷◌, refl, sym, ◌∙◌, ap, arith}
use Rattle.std.proofs.lemmas.Bool.{cond-true, cond-false, and_parts, false≢true, eqb-true}
use Rattle.std.specs.Prelude.{◌==◌}
use Rattle.std.specs.List.{AllByRecursion}
use Rattle.law_lists.proofs.Each.{all_map}
use Rattle.rec_format.specs.declared.version.Digest.{Digest}
use Rattle.rec_format.specs.declared.version.Stamp.{Stamp}
use Rattle.rec_format.specs.declared.version.Version.{Version}
use Rattle.rec_format.specs.Places.{same_digest}
use Rattle.rec_format.specs.Versions.{is_later, is_later_stamp}
use Rattle.model_device.specs.Histories.{Item, write}
use Rattle.model_device.specs.Book.{Setup}
use Rattle.model_device.specs.Device.{Log, history_of, part_of, high_time}
use Rattle.rec_format.proofs.Laws.{same_digest_is}
use Rattle.block_format.specs.Copies.{Copy}
use Rattle.law_start.specs.Start.{with_copy, log_of}
use Rattle.law_start.specs.Cold.{copies_high}
use Rattle.law_start.proofs.ColdOrder.{later_than_behind, later_one_way}

-- ---- copies in the order of the log

abbrev pub same_stamp : Version → Version → Bool
same_stamp v w = (w.stamp.lut == v.stamp.lut) && (w.stamp.gen_ == v.stamp.gen_)

abbrev pub log_item : Copy → Digest × Item
log_item c = (c.digest, write c.version [])

abbrev pub log_from : List Copy → Log
log_from [] = []
log_from (c ∷ copies) = log_item c ∷ log_from copies

-- a copy among others, the latest first; one with the digest and stamp of one that is there is passed over
abbrev pub inserted : Copy → List Copy → List Copy
inserted c [] = c ∷ []
inserted c (d ∷ copies) =
    cond (same_digest c.digest d.digest && same_stamp c.version d.version) (d ∷ copies) (cond (is_later c.version d.version) (c ∷ d ∷ copies) (d ∷ inserted c copies))

-- all copies so
abbrev pub sorted : List Copy → List Copy
sorted [] = []
sorted (c ∷ copies) = inserted c (sorted copies)

inserted_log : (c : Copy) (copies : List Copy) → with_copy c (log_from copies) ≡ log_from (inserted c copies)
inserted_log c [] = refl
inserted_log c (d ∷ copies) = by (same_digest c.digest d.digest && same_stamp c.version d.version) (is_later c.version d.version) (inserted_log c copies)
  where
    by : (s l : Bool) → with_copy c (log_from copies) ≡ log_from (inserted c copies)
        → cond s (log_from (d ∷ copies)) (cond l (log_from (c ∷ d ∷ copies)) (log_item d ∷ with_copy c (log_from copies)))
        ≡ log_from (cond s (d ∷ copies) (cond l (c ∷ d ∷ copies) (d ∷ inserted c copies)))
    by true l rest = refl
    by false true rest = refl
    by false false rest = ap (λ (log : Log). log_item d ∷ log) rest

-- the log is made of the sorted copies
pub sorted_log : (copies : List Copy) → log_of copies ≡ log_from (sorted copies)
sorted_log [] = refl
sorted_log (c ∷ copies) = ap (with_copy c) (sorted_log copies) ∙ inserted_log c (sorted copies)

-- ---- times

high_from : (setup : Setup) (part : ℕ) (copies : List Copy) → high_time setup part (log_from copies) ≡ copies_high setup part copies
high_from setup part [] = refl
high_from setup part (c ∷ copies) = ap (λ (n : ℕ). cond (part_of setup c.digest == part) (max c.version.stamp.lut n) n) (high_from setup part copies)

-- a time that counts where a test passes
abbrev raised_if : Bool → (time high : ℕ) → ℕ
raised_if b time high = cond b (max time high) high

raised_twice : (b : Bool) (m n high : ℕ) → n ≡ m → raised_if b n high ≡ raised_if b m (raised_if b n high)
raised_twice true m n high e = omega arith
raised_twice false m n high e = refl

raised_either : (a b : Bool) (m n high : ℕ) → raised_if a m (raised_if b n high) ≡ raised_if b n (raised_if a m high)
raised_either true true m n high = omega arith
raised_either true false m n high = refl
raised_either false true m n high = refl
raised_either false false m n high = refl

high_inserted : (setup : Setup) (part : ℕ) (c : Copy) (copies : List Copy) → copies_high setup part (inserted c copies) ≡ copies_high setup part (c ∷ copies)
high_inserted setup part c [] = refl
high_inserted setup part c (d ∷ copies) =
    by (same_digest c.digest d.digest && same_stamp c.version d.version) (is_later c.version d.version) refl (high_inserted setup part c copies)
  where
    counts : Digest → Bool
    counts digest = part_of setup digest == part

    high : ℕ
    high = copies_high setup part copies

    by : (s l : Bool) → (same_digest c.digest d.digest && same_stamp c.version d.version) ≡ s → copies_high setup part (inserted c copies) ≡ copies_high setup part (c ∷ copies)
        → copies_high setup part (cond s (d ∷ copies) (cond l (c ∷ d ∷ copies) (d ∷ inserted c copies))) ≡ copies_high setup part (c ∷ d ∷ copies)
    by true l e rest =
        let both = and_parts (same_digest c.digest d.digest) (same_stamp c.version d.version) e in
        let times = and_parts (d.version.stamp.lut == c.version.stamp.lut) (d.version.stamp.gen_ == c.version.stamp.gen_) both.1 in
        raised_twice (counts d.digest) c.version.stamp.lut d.version.stamp.lut high (eqb-true d.version.stamp.lut c.version.stamp.lut times.0)
        ∙ ap (λ (x : Digest). raised_if (counts x) c.version.stamp.lut (raised_if (counts d.digest) d.version.stamp.lut high)) (sym (same_digest_is c.digest d.digest both.0))
    by false true e rest = refl
    by false false e rest =
        ap (raised_if (counts d.digest) d.version.stamp.lut) rest ∙ raised_either (counts d.digest) (counts c.digest) d.version.stamp.lut c.version.stamp.lut high

high_sorted : (setup : Setup) (part : ℕ) (copies : List Copy) → copies_high setup part (sorted copies) ≡ copies_high setup part copies
high_sorted setup part [] = refl
high_sorted setup part (c ∷ copies) =
    high_inserted setup part c (sorted copies) ∙ ap (λ (n : ℕ). cond (part_of setup c.digest == part) (max c.version.stamp.lut n) n) (high_sorted setup part copies)

-- the greatest time in the log is that of the copies
pub log_times : (setup : Setup) (part : ℕ) (copies : List Copy) → high_time setup part (log_of copies) ≡ copies_high setup part copies
log_times setup part copies = ap (high_time setup part) (sorted_log copies) ∙ high_from setup part (sorted copies) ∙ high_sorted setup part copies

-- ---- versions

-- a version among others of its digest, the latest first; one whose stamp is there is passed over
abbrev pub with_version : Version → List Version → List Version
with_version v [] = v ∷ []
with_version v (w ∷ older) = cond (same_stamp v w) (w ∷ older) (cond (is_later v w) (v ∷ w ∷ older) (w ∷ with_version v older))

-- the versions of the copies of a digest, the latest first and each stamp once
abbrev pub versions_of : Digest → List Copy → List Version
versions_of digest [] = []
versions_of digest (c ∷ copies) = cond (same_digest digest c.digest) (with_version c.version (versions_of digest copies)) (versions_of digest copies)

-- flushed writes of these versions
abbrev pub as_writes : List Version → List Item
as_writes [] = []
as_writes (v ∷ versions) = write v [] ∷ as_writes versions

-- the versions of a digest in the order of the copies
abbrev versions_named : Digest → List Copy → List Version
versions_named digest [] = []
versions_named digest (c ∷ copies) = cond (same_digest digest c.digest) (c.version ∷ versions_named digest copies) (versions_named digest copies)

history_from : (digest : Digest) (copies : List Copy) → history_of digest (log_from copies) ≡ as_writes (versions_named digest copies)
history_from digest [] = refl
history_from digest (c ∷ copies) = by (same_digest digest c.digest) (history_from digest copies)
  where
    by : (b : Bool) → history_of digest (log_from copies) ≡ as_writes (versions_named digest copies)
        → cond b (write c.version [] ∷ history_of digest (log_from copies)) (history_of digest (log_from copies))
        ≡ as_writes (cond b (c.version ∷ versions_named digest copies) (versions_named digest copies))
    by true rest = ap (λ (l : List Item). write c.version [] ∷ l) rest
    by false rest = rest

-- no copy is later than one before it
abbrev AreInOrder : List Copy → Type 0
AreInOrder [] = Unit {0}
AreInOrder (c ∷ copies) = AllByRecursion (λ d. is_later d.version c.version ≡ false) copies × AreInOrder copies

all_inserted : (P : Copy → Type 0) (c : Copy) (copies : List Copy) → P c → AllByRecursion P copies → AllByRecursion P (inserted c copies)
all_inserted P c [] here all = (here, tt)
all_inserted P c (d ∷ copies) here all = by (same_digest c.digest d.digest && same_stamp c.version d.version) (is_later c.version d.version) (all_inserted P c copies here all.1)
  where
    by : (s l : Bool) → AllByRecursion P (inserted c copies) → AllByRecursion P (cond s (d ∷ copies) (cond l (c ∷ d ∷ copies) (d ∷ inserted c copies)))
    by true l rest = all
    by false true rest = (here, all)
    by false false rest = (all.0, rest)

order_inserted : (c : Copy) (copies : List Copy) → AreInOrder copies → AreInOrder (inserted c copies)
order_inserted c [] order = (tt, tt)
order_inserted c (d ∷ copies) order = by (same_digest c.digest d.digest && same_stamp c.version d.version) (is_later c.version d.version) refl (order_inserted c copies order.1)
  where
    behind : is_later c.version d.version ≡ true → (x : Copy) → is_later x.version d.version ≡ false → is_later x.version c.version ≡ false
    behind later x e = later_one_way c.version.stamp x.version.stamp (later_than_behind c.version.stamp d.version.stamp x.version.stamp later e)

    by : (s l : Bool) → is_later c.version d.version ≡ l → AreInOrder (inserted c copies) → AreInOrder (cond s (d ∷ copies) (cond l (c ∷ d ∷ copies) (d ∷ inserted c copies)))
    by true l e rest = order
    by false true e rest =
        ((later_one_way c.version.stamp d.version.stamp e, all_map (λ x. is_later x.version d.version ≡ false) (λ x. is_later x.version c.version ≡ false) copies (behind e) order.0), order)
    by false false e rest = (all_inserted (λ x. is_later x.version d.version ≡ false) c copies e order.0, rest)

-- the sorted copies are in order
sorted_order : (copies : List Copy) → AreInOrder (sorted copies)
sorted_order [] = tt
sorted_order (c ∷ copies) = order_inserted c (sorted copies) (sorted_order copies)

all_named : (P : Version → Type 0) (digest : Digest) (copies : List Copy) → AllByRecursion (λ c. P c.version) copies → AllByRecursion P (versions_named digest copies)
all_named P digest [] all = tt
all_named P digest (c ∷ copies) all = by (same_digest digest c.digest) (all_named P digest copies all.1)
  where
    by : (b : Bool) → AllByRecursion P (versions_named digest copies) → AllByRecursion P (cond b (c.version ∷ versions_named digest copies) (versions_named digest copies))
    by true rest = (all.0, rest)
    by false rest = rest

apart : (a b : Stamp) → is_later_stamp a b ≡ true → ((b.lut == a.lut) && (b.gen_ == a.gen_)) ≡ false
apart a b later = grind arith

-- a version that is later than all others comes in front
in_front : (v : Version) (versions : List Version) → AllByRecursion (λ w. is_later v w ≡ true) versions → with_version v versions ≡ v ∷ versions
in_front v [] all = refl
in_front v (w ∷ older) all =
    cond-false (same_stamp v w) (w ∷ older) (cond (is_later v w) (v ∷ w ∷ older) (w ∷ with_version v older)) (apart v.stamp w.stamp all.0)
    ∙ cond-true (is_later v w) (v ∷ w ∷ older) (w ∷ with_version v older) all.0

-- a copy of another digest changes no versions
named_miss : (digest : Digest) (c : Copy) (copies : List Copy) → same_digest digest c.digest ≡ false → versions_named digest (inserted c copies) ≡ versions_named digest copies
named_miss digest c [] other = cond-false (same_digest digest c.digest) (c.version ∷ []) [] other
named_miss digest c (d ∷ copies) other =
    by (same_digest c.digest d.digest && same_stamp c.version d.version) (is_later c.version d.version) (named_miss digest c copies other)
  where
    by : (s l : Bool) → versions_named digest (inserted c copies) ≡ versions_named digest copies
        → versions_named digest (cond s (d ∷ copies) (cond l (c ∷ d ∷ copies) (d ∷ inserted c copies))) ≡ versions_named digest (d ∷ copies)
    by true l rest = refl
    by false true rest = cond-false (same_digest digest c.digest) (c.version ∷ versions_named digest (d ∷ copies)) (versions_named digest (d ∷ copies)) other
    by false false rest = ap (λ (l : List Version). cond (same_digest digest d.digest) (d.version ∷ l) l) rest

second_false : (a b : Bool) → a ≡ true → (a && b) ≡ false → b ≡ false
second_false true b e h = h
second_false false b e h = absurd (false≢true e)

-- one of this digest comes among its versions
named_hit : (digest : Digest) (c : Copy) (copies : List Copy) → same_digest digest c.digest ≡ true → AreInOrder copies
    → versions_named digest (inserted c copies) ≡ with_version c.version (versions_named digest copies)
named_hit digest c [] same order = cond-true (same_digest digest c.digest) (c.version ∷ []) [] same
named_hit digest c (d ∷ copies) same order =
    by (same_digest c.digest d.digest && same_stamp c.version d.version) (is_later c.version d.version) refl refl (named_hit digest c copies same order.1)
  where
    behind : List Version
    behind = versions_named digest copies

    here : List Version
    here = versions_named digest (d ∷ copies)

    one : same_digest digest d.digest ≡ same_digest c.digest d.digest
    one = ap (λ (x : Digest). same_digest x d.digest) (same_digest_is digest c.digest same)

    passes : (m : Bool) → same_digest digest d.digest ≡ m → (same_digest c.digest d.digest && same_stamp c.version d.version) ≡ false → is_later c.version d.version ≡ false
        → cond m (d.version ∷ with_version c.version behind) (with_version c.version behind) ≡ with_version c.version (cond m (d.version ∷ behind) behind)
    passes true is absent no_later =
        sym (cond-false (same_stamp c.version d.version) (d.version ∷ behind) (cond (is_later c.version d.version) (c.version ∷ d.version ∷ behind) (d.version ∷ with_version c.version behind))
        (second_false (same_digest c.digest d.digest) (same_stamp c.version d.version) (sym one ∙ is) absent)
        ∙ cond-false (is_later c.version d.version) (c.version ∷ d.version ∷ behind) (d.version ∷ with_version c.version behind) no_later)
    passes false is absent no_later = refl

    by : (s l : Bool) → (same_digest c.digest d.digest && same_stamp c.version d.version) ≡ s → is_later c.version d.version ≡ l
        → versions_named digest (inserted c copies) ≡ with_version c.version behind
        → versions_named digest (cond s (d ∷ copies) (cond l (c ∷ d ∷ copies) (d ∷ inserted c copies))) ≡ with_version c.version here
    by true l there e rest =
        let both = and_parts (same_digest c.digest d.digest) (same_stamp c.version d.version) there in
        let first = cond-true (same_digest digest d.digest) (d.version ∷ behind) behind (one ∙ both.0) in
        first
        ∙ sym (ap (with_version c.version) first
        ∙ cond-true (same_stamp c.version d.version) (d.version ∷ behind) (cond (is_later c.version d.version) (c.version ∷ d.version ∷ behind) (d.version ∷ with_version c.version behind)) both.1)
    by false true there e rest =
        cond-true (same_digest digest c.digest) (c.version ∷ here) here same
        ∙ sym (in_front c.version here (all_named (λ w. is_later c.version w ≡ true) digest (d ∷ copies) (
          e,
          all_map (λ x. is_later x.version d.version ≡ false) (λ x. is_later c.version x.version ≡ true) copies
              (λ x no_later. later_than_behind c.version.stamp d.version.stamp x.version.stamp e no_later) order.0,
        )))
    by false false there e rest =
        ap (λ (l : List Version). cond (same_digest digest d.digest) (d.version ∷ l) l) rest ∙ passes (same_digest digest d.digest) refl there e

named_inserted : (digest : Digest) (c : Copy) (copies : List Copy) → AreInOrder copies
    → versions_named digest (inserted c copies) ≡ cond (same_digest digest c.digest) (with_version c.version (versions_named digest copies)) (versions_named digest copies)
named_inserted digest c copies order = by (same_digest digest c.digest) refl
  where
    by : (b : Bool) → same_digest digest c.digest ≡ b
        → versions_named digest (inserted c copies) ≡ cond b (with_version c.version (versions_named digest copies)) (versions_named digest copies)
    by true same = named_hit digest c copies same order
    by false other = named_miss digest c copies other

-- so the sorted copies of a digest have its versions
named_sorted : (digest : Digest) (copies : List Copy) → versions_named digest (sorted copies) ≡ versions_of digest copies
named_sorted digest [] = refl
named_sorted digest (c ∷ copies) =
    named_inserted digest c (sorted copies) (sorted_order copies)
    ∙ ap (λ (l : List Version). cond (same_digest digest c.digest) (with_version c.version l) l) (named_sorted digest copies)

-- the history of a digest has the versions of its copies
pub log_history : (digest : Digest) (copies : List Copy) → history_of digest (log_of copies) ≡ as_writes (versions_of digest copies)
log_history digest copies = ap (history_of digest) (sorted_log copies) ∙ history_from digest (sorted copies) ∙ ap as_writes (named_sorted digest copies)
