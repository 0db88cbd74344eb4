-- Laws of the model of a device.
use Rattle.std.proofs.Common.{◌≡◌, ◌⊎◌, inl, inr, ⊎_elim, ℕ, ◌+◌, ◌*◌, ◌<◌, ◌≤◌, max, Bool, true, false, not, cond, ◌&&◌, ◌||◌, List, [], ◌∷◌, ◌++◌, refl, sym, ◌∙◌, ap, subst, arith, append_assoc}
use Rattle.std.proofs.lemmas.List.{append-nil}
use Rattle.std.proofs.lemmas.Bool.{and_parts, and_from, or_cases, or_left, or_right, not-true, not_from_false, both_ways, false≢true, ltb-true, eqb-true, eq-eqb, cond-true, cond-false}
use Rattle.std.proofs.lemmas.List.Folds.{list_any-append}
use Rattle.std.specs.Prelude.{Option, Some, None, map, filter, nat_lt, nat_le, ◌==◌}
use Rattle.std.specs.List.{list_any}
use Rattle.rec_format.specs.declared.version.Digest.{Digest}
use Rattle.rec_format.specs.declared.version.Stamp.{Stamp}
use Rattle.rec_format.specs.declared.version.Version.{Version}
use Rattle.model_device.specs.Histories.{Item, write, dropped, rid, cleared, Pending, is_pending, is_flushed, has_flushed, has_flushed_tombstone, is_durable}
use Rattle.model_device.specs.Histories.{ends_well, is_nothing, Keeps, may_keep, choices_after, choices}
use Rattle.std.specs.List.{AllByRecursion}
use Rattle.rec_format.specs.Places.{same_digest}
use Rattle.rec_format.proofs.Laws.{later_fact, later_test, later_trans, stamp_after_later, same_digest_refl, same_digest_is}
use Rattle.rec_format.specs.Versions.{is_later_stamp, stamp_after, first_stamp, wanted_stamp, top_number, version_units}
use Rattle.model_device.specs.Histories.{top_of}
use Rattle.model_device.specs.Device.{State, Log, history, history_of, entry, stamp_of, next_stamp_of, part_of, high_time, item_time}
use Rattle.model_device.specs.Steps.{Step, wrote, moved, removed, rid_of, uncovered, sealed_stream, gate_begun, flushed_buffer, closing_failed, raid_begun}
use Rattle.model_device.specs.Steps.{raid_given_up, marked_part, scanned_block, compared_part, done_part, after_step, moved_state}
use Rattle.model_device.specs.Book.{Setup, Book, Buffer, Live, Stream, client, defrag, filling, sealed, seal_stream, opened_if, used_more, with_new_buffer}
use Rattle.model_device.specs.Book.{with_room, has_room, filling_buffer, first_block, put_in, placed, dropped_live, with_flushed, live_of, may_be_free}
use Rattle.model_device.specs.Book.{may_be_queued, updated, is_in, all_blocks, refreshed, use_of, has_buffer, is_held, pending_of, with_seal, sealed_if}
use Rattle.model_device.specs.Book.{same_stream, is_filling, is_opening}

-- ---- what may be kept

-- one of these histories
abbrev pub IsOneOf : List Item → List (List Item) → Type 0
IsOneOf h [] = ⊥
IsOneOf h (x ∷ xs) = (h ≡ x) ⊎ IsOneOf h xs

left_one : (h : List Item) (xs ys : List (List Item)) → IsOneOf h xs → IsOneOf h (xs ++ ys)
left_one h [] ys k = absurd k
left_one h (x ∷ xs) ys (inl e) = inl e
left_one h (x ∷ xs) ys (inr k) = inr (left_one h xs ys k)

right_one : (h : List Item) (xs ys : List (List Item)) → IsOneOf h ys → IsOneOf h (xs ++ ys)
right_one h [] ys k = k
right_one h (x ∷ xs) ys k = inr (right_one h xs ys k)

chosen_here : (h : List Item) (b : Bool) → b ≡ true → IsOneOf h (cond b (h ∷ []) [])
chosen_here h true e = inl refl
chosen_here h false e = absurd (false≢true e)

-- a part that may be kept is among the choices
pub choices_has : (p : Pending) (lost newer kept : List Item) → may_keep p (lost ++ newer) kept ≡ true → IsOneOf kept (choices_after p lost (newer ++ kept))
choices_has p lost [] [] e = chosen_here [] (may_keep p lost []) (ap (λ (l : List Item). may_keep p l []) (sym (append-nil lost)) ∙ e)
choices_has p lost [] (k ∷ ks) e =
    left_one (k ∷ ks) (cond (may_keep p lost (k ∷ ks)) ((k ∷ ks) ∷ []) []) (choices_after p (lost ++ k ∷ []) ks)
    (chosen_here (k ∷ ks) (may_keep p lost (k ∷ ks)) (ap (λ (l : List Item). may_keep p l (k ∷ ks)) (sym (append-nil lost)) ∙ e))
choices_has p lost (n ∷ newer) kept e =
    right_one kept (cond (may_keep p lost (n ∷ newer ++ kept)) ((n ∷ newer ++ kept) ∷ []) []) (choices_after p (lost ++ n ∷ []) (newer ++ kept))
    (choices_has p (lost ++ n ∷ []) newer kept (ap (λ (l : List Item). may_keep p l kept) (append_assoc lost (n ∷ []) newer) ∙ e))

implies_test : (a b : Bool) → (a ≡ true → b ≡ false) → not (a && b) ≡ true
implies_test true b f = not_from_false b (f refl)
implies_test false b f = refl

test_implies : (a b : Bool) → not (a && b) ≡ true → a ≡ true → b ≡ false
test_implies true b e a = not-true b e
test_implies false b e a = absurd (false≢true a)

-- what is kept passes the test, and what passes the test may be kept
pub Keeps-test : (p : Pending) (h kept : List Item) (k : Keeps p h kept) → may_keep p k.lost kept ≡ true
Keeps-test p h kept k =
    and_from (ends_well p kept && not (is_durable p (k.lost ++ kept) && has_flushed p k.lost)) (is_nothing kept || not (has_flushed_tombstone p k.lost))
    (and_from (ends_well p kept) (not (is_durable p (k.lost ++ kept) && has_flushed p k.lost)) k.end
    (implies_test (is_durable p (k.lost ++ kept)) (has_flushed p k.lost) (λ d. k.durable (ap (is_durable p) k.parts ∙ d))))
    k.tombstones

pub Keeps-from_test : (p : Pending) (lost kept : List Item) → may_keep p lost kept ≡ true → Keeps p (lost ++ kept) kept
Keeps-from_test p lost kept e =
    let both = and_parts (ends_well p kept && not (is_durable p (lost ++ kept) && has_flushed p lost)) (is_nothing kept || not (has_flushed_tombstone p lost)) e in
    let first = and_parts (ends_well p kept) (not (is_durable p (lost ++ kept) && has_flushed p lost)) both.0 in
    record {
      lost = lost;
      parts = refl;
      end = first.0;
      durable = test_implies (is_durable p (lost ++ kept)) (has_flushed p lost) first.1;
      tombstones = both.1;
    }

-- whatever is kept is one of the choices
pub Keeps-choices : (p : Pending) (h kept : List Item) → Keeps p h kept → IsOneOf kept (choices p h)
Keeps-choices p h kept k = subst (λ (l : List Item). IsOneOf kept (choices_after p [] l)) (sym k.parts) (choices_has p [] k.lost kept (Keeps-test p h kept k))

-- ---- what is never lost

durable_has : (p : Pending) (h : List Item) → is_durable p h ≡ true → has_flushed p h ≡ true
durable_has p [] e = e
durable_has p (write v ns ∷ h) e =
    ⊎_elim (λ f. or_left (is_flushed p ns) (has_flushed p h) f) (λ d. or_right (is_flushed p ns) (has_flushed p h) (durable_has p h d)) (or_cases (is_flushed p ns) (is_durable p h) e)
durable_has p (dropped ∷ h) e = absurd (false≢true e)
durable_has p (rid ∷ h) e = absurd (false≢true e)
durable_has p (cleared ∷ h) e = durable_has p h e

-- a history with a flushed write and no removal since is never lost whole
pub durable_kept : (p : Pending) (h : List Item) → is_durable p h ≡ true → Keeps p h [] → ⊥
durable_kept p h d k =
    let whole : h ≡ k.lost = k.parts ∙ append-nil k.lost in
    both_ways (has_flushed p k.lost) (k.durable d) (ap (has_flushed p) (sym whole) ∙ durable_has p h d)

-- behind a flushed tombstone nothing older is kept
pub older_lost : (p : Pending) (newer older kept : List Item) (v : Version) (ns : List ℕ) → has_flushed_tombstone p (newer ++ write v ns ∷ []) ≡ true
    → (k : Keeps p (newer ++ write v ns ∷ older) kept) → k.lost ≡ newer ++ write v ns ∷ [] → is_nothing kept ≡ true
older_lost p newer older kept v ns buried k lost =
    ⊎_elim (λ n. n) (λ t. absurd (both_ways (has_flushed_tombstone p k.lost) (not-true (has_flushed_tombstone p k.lost) t) (ap (has_flushed_tombstone p) lost ∙ buried)))
    (or_cases (is_nothing kept) (not (has_flushed_tombstone p k.lost)) k.tombstones)

-- ---- free and queue

filter_step : (q t : ℕ → Bool) (x : ℕ) (xs : List ℕ) → (list_any t (filter q xs) ≡ true → list_any (λ y. q y && t y) xs ≡ true)
    → (b : Bool) → q x ≡ b → list_any t (cond b (x ∷ filter q xs) (filter q xs)) ≡ true → ((q x && t x) || list_any (λ y. q y && t y) xs) ≡ true
filter_step q t x xs rest true is e =
    ⊎_elim (λ h. or_left (q x && t x) (list_any (λ y. q y && t y) xs) (and_from (q x) (t x) is h)) (λ r. or_right (q x && t x) (list_any (λ y. q y && t y) xs) (rest r))
    (or_cases (t x) (list_any t (filter q xs)) e)
filter_step q t x xs rest false is e = or_right (q x && t x) (list_any (λ y. q y && t y) xs) (rest e)

any_filter : (q t : ℕ → Bool) (xs : List ℕ) → list_any t (filter q xs) ≡ true → list_any (λ x. q x && t x) xs ≡ true
any_filter q t [] e = e
any_filter q t (x ∷ xs) e = filter_step q t x xs (any_filter q t xs) (q x) refl e

qualifies_at : (q : ℕ → Bool) (b : ℕ) (xs : List ℕ) → list_any (λ x. q x && (x == b)) xs ≡ true → q b ≡ true
qualifies_at q b [] e = absurd (false≢true e)
qualifies_at q b (x ∷ xs) e =
    ⊎_elim (λ h. let two = and_parts (q x) (x == b) h in ap q (sym (eqb-true x b two.1)) ∙ two.0) (qualifies_at q b xs) (or_cases (q x && (x == b)) (list_any (λ y. q y && (y == b)) xs) e)

-- what stands in an updated list qualifies
pub updated_qualifies : (q : ℕ → Bool) (old all : List ℕ) (b : ℕ) → is_in (updated q old all) b ≡ true → q b ≡ true
updated_qualifies q old all b e =
    ⊎_elim
    (λ l. qualifies_at q b old (any_filter q (λ x. x == b) old l))
    (λ r. let both = and_parts (q b) (not (is_in old b)) (qualifies_at (λ x. q x && not (is_in old x)) b all (any_filter (λ x. q x && not (is_in old x)) (λ x. x == b) all r)) in both.0)
    (or_cases (is_in (filter q old) b) (is_in (filter (λ x. q x && not (is_in old x)) all) b) (sym (list_any-append (λ x. x == b) (filter q old) (filter (λ x. q x && not (is_in old x)) all)) ∙ e))

clash : (n : ℕ) → (n == 0) ≡ true → nat_lt 0 n ≡ true → ⊥
clash n z m = omega (arith, eqb-true n 0 z, ltb-true 0 n m)

-- no block is both free and queued
pub free_not_queued : (setup : Setup) (book : Book) (b : ℕ) → is_in (refreshed setup book).free b ≡ true → is_in (refreshed setup book).queue b ≡ true → ⊥
unfolding refreshed
free_not_queued setup book b free queued =
    let f = updated_qualifies (may_be_free book) book.free (all_blocks setup) b free in
    let q = updated_qualifies (may_be_queued setup book) book.queue (all_blocks setup) b queued in
    let f2 = and_parts (not (has_buffer book b) && (use_of book b == 0)) (not (is_held book b)) f in
    let f3 = and_parts (not (has_buffer book b)) (use_of book b == 0) f2.0 in
    let q2 = and_parts (not (has_buffer book b) && nat_lt 0 (use_of book b)) (nat_lt (use_of book b * 100) (setup.lwm * setup.capacity)) q in
    let q3 = and_parts (not (has_buffer book b)) (nat_lt 0 (use_of book b)) q2.0 in
    clash (use_of book b) f3.1 q3.1

-- ---- a flushed write stays flushed

-- a number that is pending after a change was pending before, or is the next one
abbrev pub AddsAtMost : ℕ → (old new : Pending) → Type 0
AddsAtMost next old new = (n : ℕ) → is_pending new n ≡ true → (is_pending old n ≡ true) ⊎ (n ≡ next)

abbrev pub AllBelow : ℕ → List ℕ → Type 0
AllBelow next ns = AllByRecursion (λ n. n < next) ns

not_pending : (next : ℕ) (old new : Pending) (n : ℕ) → AddsAtMost next old new → n < next → not (is_pending old n) ≡ true → not (is_pending new n) ≡ true
not_pending next old new n adds lt e = by (is_pending new n) refl
  where
    by : (b : Bool) → is_pending new n ≡ b → not b ≡ true
    by false is = refl
    by true is = absurd (⊎_elim (λ o. both_ways (is_pending old n) (not-true (is_pending old n) e) o) (λ (same : n ≡ next). omega arith) (adds n is))

some_not_pending : (next : ℕ) (old new : Pending) (ns : List ℕ) → AddsAtMost next old new → AllBelow next ns
    → list_any (λ n. not (is_pending old n)) ns ≡ true → list_any (λ n. not (is_pending new n)) ns ≡ true
some_not_pending next old new [] adds below e = e
some_not_pending next old new (n ∷ ns) adds below e =
    ⊎_elim (λ h. or_left (not (is_pending new n)) (list_any (λ m. not (is_pending new m)) ns) (not_pending next old new n adds below.0 h))
    (λ r. or_right (not (is_pending new n)) (list_any (λ m. not (is_pending new m)) ns) (some_not_pending next old new ns adds below.1 r))
    (or_cases (not (is_pending old n)) (list_any (λ m. not (is_pending old m)) ns) e)

-- a write whose numbers were all given out stays flushed
pub flushed_stays : (next : ℕ) (old new : Pending) (ns : List ℕ) → AddsAtMost next old new → AllBelow next ns → is_flushed old ns ≡ true → is_flushed new ns ≡ true
flushed_stays next old new [] adds below e = refl
flushed_stays next old new (n ∷ ns) adds below e = some_not_pending next old new (n ∷ ns) adds below e

-- changes that keep each buffer's number keep the pending numbers
abbrev pub KeepsNumber : (Buffer → Buffer) → Type 0
KeepsNumber change = (b : Buffer) → (change b).number ≡ b.number

pub map_adds_none : (change : Buffer → Buffer) → KeepsNumber change → (bs : List Buffer) (n : ℕ)
    → list_any (λ b. b.number == n) (map change bs) ≡ true → list_any (λ b. b.number == n) bs ≡ true
map_adds_none change keeps [] n e = e
map_adds_none change keeps (b ∷ bs) n e =
    ⊎_elim (λ h. or_left (b.number == n) (list_any (λ c. c.number == n) bs) (ap (λ (k : ℕ). k == n) (sym (keeps b)) ∙ h))
    (λ r. or_right (b.number == n) (list_any (λ c. c.number == n) bs) (map_adds_none change keeps bs n r))
    (or_cases ((change b).number == n) (list_any (λ c. c.number == n) (map change bs)) e)

pending_numbers : (bs : List Buffer) (n : ℕ) → is_pending (map (λ b. (b.number, is_opening b.phase)) bs) n ≡ list_any (λ b. b.number == n) bs
pending_numbers [] n = refl
pending_numbers (b ∷ bs) n = ap (λ (c : Bool). (b.number == n) || c) (pending_numbers bs n)

sealed_number : (b : Bool) (x : Buffer) → (sealed_if b x).number ≡ x.number
sealed_number true x = by (is_filling x.phase)
  where
    by : (f : Bool) → (cond f (record x { phase = sealed }) x).number ≡ x.number
    by true = refl
    by false = refl
sealed_number false x = refl

-- sealing adds no number
pub seal_adds_none : (stream : Stream) (book : Book) (next : ℕ) → AddsAtMost next (pending_of book) (pending_of (with_seal stream book))
seal_adds_none stream book next n e =
    inl (pending_numbers book.buffers n
    ∙ map_adds_none (λ b. sealed_if (same_stream stream b.stream) b) (λ b. sealed_number (same_stream stream b.stream) b) book.buffers n
    (sym (pending_numbers (map (λ b. sealed_if (same_stream stream b.stream) b) book.buffers) n) ∙ e))

-- ---- stamps

-- each write is later than all older ones
abbrev pub LaterThanAll : Stamp → List Item → Type 0
LaterThanAll stamp [] = Unit {0}
LaterThanAll stamp (write v ns ∷ older) = (is_later_stamp stamp v.stamp ≡ true) × LaterThanAll stamp older
LaterThanAll stamp (dropped ∷ older) = LaterThanAll stamp older
LaterThanAll stamp (rid ∷ older) = LaterThanAll stamp older
LaterThanAll stamp (cleared ∷ older) = LaterThanAll stamp older

abbrev pub Rises : List Item → Type 0
Rises [] = Unit {0}
Rises (write v ns ∷ older) = LaterThanAll v.stamp older × Rises older
Rises (dropped ∷ older) = Rises older
Rises (rid ∷ older) = Rises older
Rises (cleared ∷ older) = Rises older

pub later_than_all : (a b : Stamp) (older : List Item) → is_later_stamp a b ≡ true → LaterThanAll b older → LaterThanAll a older
later_than_all a b [] e l = tt
later_than_all a b (write v ns ∷ older) e l =
    (later_test a v.stamp (later_trans a b v.stamp (later_fact a b e) (later_fact b v.stamp l.0)), later_than_all a b older e l.1)
later_than_all a b (dropped ∷ older) e l = later_than_all a b older e l
later_than_all a b (rid ∷ older) e l = later_than_all a b older e l
later_than_all a b (cleared ∷ older) e l = later_than_all a b older e l

-- no write of these items has a time above this
abbrev pub TimesUpTo : ℕ → List Item → Type 0
TimesUpTo high [] = Unit {0}
TimesUpTo high (write v ns ∷ older) = (v.stamp.lut ≤ high) × TimesUpTo high older
TimesUpTo high (dropped ∷ older) = TimesUpTo high older
TimesUpTo high (rid ∷ older) = TimesUpTo high older
TimesUpTo high (cleared ∷ older) = TimesUpTo high older

first_later : (high now : ℕ) (h : List Item) → TimesUpTo high h → LaterThanAll (first_stamp high now) h
first_later high now [] t = tt
first_later high now (write v ns ∷ h) t = (later_test (first_stamp high now) v.stamp (inl (omega (arith, t.0))), first_later high now h t.1)
first_later high now (dropped ∷ h) t = first_later high now h t
first_later high now (rid ∷ h) t = first_later high now h t
first_later high now (cleared ∷ h) t = first_later high now h t

-- Along a history whose stamps rise, and whose times are at most `high`, the next stamp is later than all.
pub wanted_later : (h : List Item) (high now : ℕ) → Rises h → TimesUpTo high h → LaterThanAll (wanted_stamp (stamp_of (top_of h)) high now) h
wanted_later [] high now r t = tt
wanted_later (write v ns ∷ h) high now r t =
    let e = later_test (stamp_after v.stamp now) v.stamp (stamp_after_later v.stamp now) in (e, later_than_all (stamp_after v.stamp now) v.stamp h e r.0)
wanted_later (dropped ∷ h) high now r t = first_later high now h t
wanted_later (rid ∷ h) high now r t = first_later high now h t
wanted_later (cleared ∷ h) high now r t = wanted_later h high now r t

-- so the stamps still rise when a version with it is written
pub write_rises : (h : List Item) (high now : ℕ) (v : Version) (ns : List ℕ) → Rises h → TimesUpTo high h → v.stamp ≡ wanted_stamp (stamp_of (top_of h)) high now → Rises (write v ns ∷ h)
write_rises h high now v ns r t e = (subst (λ (s : Stamp). LaterThanAll s h) (sym e) (wanted_later h high now r t), r)

-- ---- the times of a part

times_more : (a b : ℕ) (h : List Item) → a ≤ b → TimesUpTo a h → TimesUpTo b h
times_more a b [] le t = tt
times_more a b (write v ns ∷ h) le t = (omega (arith, t.0), times_more a b h le t.1)
times_more a b (dropped ∷ h) le t = times_more a b h le t
times_more a b (rid ∷ h) le t = times_more a b h le t
times_more a b (cleared ∷ h) le t = times_more a b h le t

times_item : (high : ℕ) (item : Item) (h : List Item) → item_time item ≤ high → TimesUpTo high h → TimesUpTo high (item ∷ h)
times_item high (write v ns) h le t = (le, t)
times_item high dropped h le t = t
times_item high rid h le t = t
times_item high cleared h le t = t

times_step : (setup : Setup) (d : Digest) (e : Digest × Item) (log : Log) → TimesUpTo (high_time setup (part_of setup d) log) (history_of d log)
    → (b c : Bool) → same_digest d e.0 ≡ b → (part_of setup e.0 == part_of setup d) ≡ c
    → TimesUpTo (cond c (max (item_time e.1) (high_time setup (part_of setup d) log)) (high_time setup (part_of setup d) log)) (cond b (e.1 ∷ history_of d log) (history_of d log))
times_step setup d e log t true true same in_part =
    times_item (max (item_time e.1) (high_time setup (part_of setup d) log)) e.1 (history_of d log) (omega arith)
    (times_more (high_time setup (part_of setup d) log) (max (item_time e.1) (high_time setup (part_of setup d) log)) (history_of d log) (omega arith) t)
times_step setup d e log t true false same in_part =
    absurd (both_ways (part_of setup e.0 == part_of setup d) in_part (eq-eqb (part_of setup e.0) (part_of setup d) (ap (part_of setup) (sym (same_digest_is d e.0 same)))))
times_step setup d e log t false true same in_part =
    times_more (high_time setup (part_of setup d) log) (max (item_time e.1) (high_time setup (part_of setup d) log)) (history_of d log) (omega arith) t
times_step setup d e log t false false same in_part = t

-- no write of a digest has a time above the greatest of its part
pub times_of_part : (setup : Setup) (d : Digest) (log : Log) → TimesUpTo (high_time setup (part_of setup d) log) (history_of d log)
times_of_part setup d [] = tt
times_of_part setup d (e ∷ log) = times_step setup d e log (times_of_part setup d log) (same_digest d e.0) (part_of setup e.0 == part_of setup d) refl refl

-- so a version with the next stamp of its digest keeps the stamps rising
pub legal_write_rises : (setup : Setup) (s : State) (now : ℕ) (d : Digest) (v : Version) (ns : List ℕ) → Rises (history s d) → next_stamp_of setup s now d ≡ Some v.stamp
    → Rises (write v ns ∷ history s d)
legal_write_rises setup s now d v ns r e =
    write_rises (history s d) (high_time setup (part_of setup d) s.log) now v ns r (times_of_part setup d s.log)
    (given (wanted_stamp (stamp_of (entry s d)) (high_time setup (part_of setup d) s.log) now) v.stamp e)
  where
    given : (wanted stamp : Stamp) → cond (nat_le wanted.lut top_number) (Some wanted) None ≡ Some stamp → stamp ≡ wanted
    given wanted stamp h = by (nat_le wanted.lut top_number) h
      where
        by : (b : Bool) → cond b (Some wanted) None ≡ Some stamp → stamp ≡ wanted
        by true k = cc
        by false k = absurd cc

-- ---- a flushed write stays flushed in every step

-- what is pending among buffers after a change was pending among those before it, or is the next number
abbrev AddsOne : ℕ → (old new : List Buffer) → Type 0
AddsOne next old new = (n : ℕ) → list_any (λ b. b.number == n) new ≡ true → (list_any (λ b. b.number == n) old ≡ true) ⊎ (n ≡ next)

adds_pending : (next : ℕ) (old new : List Buffer) → AddsOne next old new → AddsAtMost next (map (λ b. (b.number, is_opening b.phase)) old) (map (λ b. (b.number, is_opening b.phase)) new)
adds_pending next old new adds n e =
    ⊎_elim (λ h. inl (pending_numbers old n ∙ h)) (λ h. inr h) (adds n (sym (pending_numbers new n) ∙ e))

map_adds : (next : ℕ) (change : Buffer → Buffer) → KeepsNumber change → (bs : List Buffer) → AddsOne next bs (map change bs)
map_adds next change keeps bs n e = inl (map_adds_none change keeps bs n e)

opened_number : (b : Bool) (x : Buffer) → (opened_if b x).number ≡ x.number
opened_number true x = refl
opened_number false x = refl

used_number : (number units : ℕ) (x : Buffer) → (used_more number units x).number ≡ x.number
used_number number units x = by (x.number == number)
  where
    by : (b : Bool) → (cond b (record x { used = x.used + units }) x).number ≡ x.number
    by true = refl
    by false = refl

filter_buffer : (keep : Buffer → Bool) (b : Buffer) (bs : List Buffer) (n : ℕ) → (c : Bool)
    → (list_any (λ x. x.number == n) (filter keep bs) ≡ true → list_any (λ x. x.number == n) bs ≡ true)
    → list_any (λ x. x.number == n) (cond c (b ∷ filter keep bs) (filter keep bs)) ≡ true → ((b.number == n) || list_any (λ x. x.number == n) bs) ≡ true
filter_buffer keep b bs n true rest e =
    ⊎_elim (λ h. or_left (b.number == n) (list_any (λ x. x.number == n) bs) h) (λ r. or_right (b.number == n) (list_any (λ x. x.number == n) bs) (rest r))
    (or_cases (b.number == n) (list_any (λ x. x.number == n) (filter keep bs)) e)
filter_buffer keep b bs n false rest e = or_right (b.number == n) (list_any (λ x. x.number == n) bs) (rest e)

filter_only : (keep : Buffer → Bool) (bs : List Buffer) (n : ℕ) → list_any (λ b. b.number == n) (filter keep bs) ≡ true → list_any (λ b. b.number == n) bs ≡ true
filter_only keep [] n e = e
filter_only keep (b ∷ bs) n e = filter_buffer keep b bs n (keep b) (filter_only keep bs n) e

seals_add : (next : ℕ) (stream : Stream) (bs : List Buffer) → AddsOne next bs (seal_stream stream bs)
seals_add next stream bs = map_adds next (λ b. sealed_if (same_stream stream b.stream) b) (λ b. sealed_number (same_stream stream b.stream) b) bs

new_adds : (stream : Stream) (book : Book) → AddsOne book.next_number book.buffers (with_new_buffer stream book).buffers
new_adds stream book n e =
    ⊎_elim (λ h. seals_add book.next_number stream book.buffers n h)
    (λ h. inr (sym (eqb-true book.next_number n (⊎_elim (λ k. k) (λ k. absurd (false≢true k)) (or_cases (book.next_number == n) false h)))))
    (or_cases (list_any (λ b. b.number == n) (seal_stream stream book.buffers)) (list_any (λ b. b.number == n) (fresh ∷ []))
    (sym (list_any-append (λ b. b.number == n) (seal_stream stream book.buffers) (fresh ∷ [])) ∙ e))
  where
    fresh : Buffer
    fresh = record { number = book.next_number; block = first_block book.free; stream = stream; used = 0; phase = filling }

room_adds : (setup : Setup) (stream : Stream) (units : ℕ) (book : Book) → AddsOne book.next_number book.buffers (with_room setup stream units book).buffers
room_adds setup stream units book = by (has_room setup stream units book)
  where
    by : (b : Bool) → AddsOne book.next_number book.buffers (cond b book (with_new_buffer stream book)).buffers
    by true = λ n e. inl e
    by false = new_adds stream book

put_in_adds : (setup : Setup) (d : Digest) (units : ℕ) (book : Book) (next : ℕ) (o : Option Buffer) → AddsOne next book.buffers (put_in setup d units book o).buffers
unfolding refreshed
put_in_adds setup d units book next None n e = inl e
put_in_adds setup d units book next (Some b) n e = map_adds next (used_more b.number units) (λ x. used_number b.number units x) book.buffers n e

placed_adds : (setup : Setup) (stream : Stream) (d : Digest) (units : ℕ) (book : Book) → AddsOne book.next_number book.buffers (placed setup stream d units book).buffers
unfolding placed
placed_adds setup stream d units book n e =
    let ready = with_room setup stream units book in
    ⊎_elim (λ h. room_adds setup stream units book n h) (λ h. inr h) (put_in_adds setup d units ready book.next_number (filling_buffer stream ready.buffers) n e)

same_adds : (next : ℕ) (bs : List Buffer) → AddsOne next bs bs
same_adds next bs n e = inl e

moved_adds : (setup : Setup) (d : Digest) (o : Option Live) (s : State) → AddsOne s.book.next_number s.book.buffers (moved_state setup d o s).book.buffers
moved_adds setup d None s = same_adds s.book.next_number s.book.buffers
moved_adds setup d (Some copy) s = placed_adds setup defrag d copy.units s.book

-- a step adds no pending number but the next one
step_adds : (setup : Setup) (step : Step) (s : State) → AddsOne s.book.next_number s.book.buffers (after_step setup step s).book.buffers
unfolding after_step dropped_live with_flushed refreshed
step_adds setup (wrote d v) s = placed_adds setup client d (version_units v) s.book
step_adds setup (moved d) s = moved_adds setup d (live_of d s.book.live) s
step_adds setup (removed d) s = same_adds s.book.next_number s.book.buffers
step_adds setup (rid_of d) s = same_adds s.book.next_number s.book.buffers
step_adds setup (uncovered d) s = same_adds s.book.next_number s.book.buffers
step_adds setup (sealed_stream stream) s = seals_add s.book.next_number stream s.book.buffers
step_adds setup (gate_begun number) s = map_adds s.book.next_number (λ b. opened_if (b.number == number) b) (λ b. opened_number (b.number == number) b) s.book.buffers
step_adds setup (flushed_buffer number) s = λ n e. inl (filter_only (λ b. not (b.number == number)) s.book.buffers n e)
step_adds setup closing_failed s = same_adds s.book.next_number s.book.buffers
step_adds setup raid_begun s = same_adds s.book.next_number s.book.buffers
step_adds setup raid_given_up s = same_adds s.book.next_number s.book.buffers
step_adds setup (marked_part part now) s = same_adds s.book.next_number s.book.buffers
step_adds setup (scanned_block copies) s = same_adds s.book.next_number s.book.buffers
step_adds setup (compared_part part) s = same_adds s.book.next_number s.book.buffers
step_adds setup (done_part part) s = same_adds s.book.next_number s.book.buffers

-- a write whose numbers were given out before stays flushed in every step
pub step_keeps_flushed : (setup : Setup) (step : Step) (s : State) (ns : List ℕ) → AllBelow s.book.next_number ns
    → is_flushed (pending_of s.book) ns ≡ true → is_flushed (pending_of (after_step setup step s).book) ns ≡ true
step_keeps_flushed setup step s ns below e =
    flushed_stays s.book.next_number (pending_of s.book) (pending_of (after_step setup step s).book) ns
    (adds_pending s.book.next_number s.book.buffers (after_step setup step s).book.buffers (step_adds setup step s)) below e

-- ---- one log for all digests

-- one more item of a digest stands in front of its history, and no other history changes
pub history_hit : (d : Digest) (item : Item) (log : Log) → history_of d ((d, item) ∷ log) ≡ item ∷ history_of d log
history_hit d item log = cond-true (same_digest d d) (item ∷ history_of d log) (history_of d log) (same_digest_refl d)

pub history_miss : (d e : Digest) (item : Item) (log : Log) → same_digest d e ≡ false → history_of d ((e, item) ∷ log) ≡ history_of d log
history_miss d e item log ne = cond-false (same_digest d e) (item ∷ history_of d log) (history_of d log) ne

-- ---- free blocks

-- a block in free qualifies, whatever the list was before
pub free_qualifies : (setup : Setup) (book : Book) (b : ℕ) → is_in (refreshed setup book).free b ≡ true → may_be_free book b ≡ true
unfolding refreshed
free_qualifies setup book b e = updated_qualifies (may_be_free book) book.free (all_blocks setup) b e

pub queue_qualifies : (setup : Setup) (book : Book) (b : ℕ) → is_in (refreshed setup book).queue b ≡ true → may_be_queued setup book b ≡ true
unfolding refreshed
queue_qualifies setup book b e = updated_qualifies (may_be_queued setup book) book.queue (all_blocks setup) b e
