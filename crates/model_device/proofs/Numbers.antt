-- The numbers of buffers: what a move adds to a history, and that all numbers given out are below the next one.
use Rattle.std.proofs.Common.{◌≡◌, ◌⊎◌, inl, inr, ℕ, ◌≤◌, Bool, true, false, cond, ◌&&◌, List, [], ◌∷◌, refl, sym, ◌∙◌, ap, arith}
use Rattle.std.proofs.lemmas.Bool.{cond-true, cond-false, and_from, and_left, and_right, cases_Bool}
use Rattle.std.specs.Prelude.{Option, Some, None}
use Rattle.rec_format.specs.declared.version.Digest.{Digest}
use Rattle.rec_format.specs.Places.{same_digest}
use Rattle.rec_format.specs.Versions.{version_units}
use Rattle.model_device.specs.Histories.{Item, write, dropped, rid, cleared, with_number}
use Rattle.model_device.specs.Book.{Setup, Book, Buffer, Live, Stream, client, defrag, has_room, with_new_buffer, with_room, put_in, filling_buffer, placed}
use Rattle.model_device.specs.Book.{dropped_live, with_flushed, refreshed, live_of}
use Rattle.model_device.specs.Device.{State, Log, history_of, stops_search, item_with_number, log_with_number}
use Rattle.model_device.specs.Steps.{Step, wrote, moved, removed, rid_of, uncovered, sealed_stream, gate_begun, flushed_buffer, closing_failed, raid_begun}
use Rattle.model_device.specs.Steps.{raid_given_up, marked_part, scanned_block, compared_part, done_part, after_step, moved_state}

-- ---- a move and the histories

stops_with : (n : ℕ) (item : Item) (h : List Item) → stops_search item ≡ true → with_number n (item ∷ h) ≡ item_with_number n item ∷ h
stops_with n (write v []) h e = refl
stops_with n (write v (m ∷ ms)) h e = refl
stops_with n dropped h e = refl
stops_with n rid h e = refl
stops_with n cleared h e = cc

goes_with : (n : ℕ) (item : Item) (h : List Item) → stops_search item ≡ false → with_number n (item ∷ h) ≡ item ∷ with_number n h
goes_with n (write v ns) h e = cc
goes_with n dropped h e = cc
goes_with n rid h e = cc
goes_with n cleared h e = refl

at_stop : (d x : Digest) (n : ℕ) (item : Item) (log : Log) → same_digest d x ≡ true → stops_search item ≡ true
    → history_of d (log_with_number d n ((x, item) ∷ log)) ≡ with_number n (history_of d ((x, item) ∷ log))
at_stop d x n item log same stop =
    let iw = item_with_number n item in
    let h = history_of d log in
    ap (history_of d) (cond-true (same_digest d x && stops_search item) ((x, iw) ∷ log) ((x, item) ∷ log_with_number d n log) (and_from (same_digest d x) (stops_search item) same stop))
    ∙ cond-true (same_digest d x) (iw ∷ h) h same ∙ sym (stops_with n item h stop) ∙ ap (with_number n) (sym (cond-true (same_digest d x) (item ∷ h) h same))

at_go : (d x : Digest) (n : ℕ) (item : Item) (log : Log) → history_of d (log_with_number d n log) ≡ with_number n (history_of d log) → same_digest d x ≡ true → stops_search item ≡ false
    → history_of d (log_with_number d n ((x, item) ∷ log)) ≡ with_number n (history_of d ((x, item) ∷ log))
at_go d x n item log rest same go =
    let h = history_of d log in
    let h' = history_of d (log_with_number d n log) in
    ap (history_of d) (cond-false (same_digest d x && stops_search item) ((x, item_with_number n item) ∷ log) ((x, item) ∷ log_with_number d n log)
    (and_right (same_digest d x) (stops_search item) go))
    ∙ cond-true (same_digest d x) (item ∷ h') h' same ∙ ap (λ (l : List Item). item ∷ l) rest ∙ sym (goes_with n item h go)
    ∙ ap (with_number n) (sym (cond-true (same_digest d x) (item ∷ h) h same))

at_other : (d x : Digest) (n : ℕ) (item : Item) (log : Log) → history_of d (log_with_number d n log) ≡ with_number n (history_of d log) → same_digest d x ≡ false
    → history_of d (log_with_number d n ((x, item) ∷ log)) ≡ with_number n (history_of d ((x, item) ∷ log))
at_other d x n item log rest other =
    let h = history_of d log in
    let h' = history_of d (log_with_number d n log) in
    ap (history_of d) (cond-false (same_digest d x && stops_search item) ((x, item_with_number n item) ∷ log) ((x, item) ∷ log_with_number d n log)
    (and_left (same_digest d x) (stops_search item) other))
    ∙ cond-false (same_digest d x) (item ∷ h') h' other ∙ rest ∙ ap (with_number n) (sym (cond-false (same_digest d x) (item ∷ h) h other))

by_tests : (d x : Digest) (n : ℕ) (item : Item) (log : Log) → history_of d (log_with_number d n log) ≡ with_number n (history_of d log)
    → (same_digest d x ≡ true) ⊎ (same_digest d x ≡ false) → (stops_search item ≡ true) ⊎ (stops_search item ≡ false)
    → history_of d (log_with_number d n ((x, item) ∷ log)) ≡ with_number n (history_of d ((x, item) ∷ log))
by_tests d x n item log rest (inl same) (inl stop) = at_stop d x n item log same stop
by_tests d x n item log rest (inl same) (inr go) = at_go d x n item log rest same go
by_tests d x n item log rest (inr other) stops = at_other d x n item log rest other

-- a move adds its number to the history of its digest
pub history_with_number : (d : Digest) (n : ℕ) (log : Log) → history_of d (log_with_number d n log) ≡ with_number n (history_of d log)
history_with_number d n [] = refl
history_with_number d n (e ∷ log) = by_tests d e.0 n e.1 log (history_with_number d n log) (cases_Bool (same_digest d e.0)) (cases_Bool (stops_search e.1))

-- ---- the next number

put_in_next : (setup : Setup) (d : Digest) (units : ℕ) (book : Book) (o : Option Buffer) → (put_in setup d units book o).next_number ≡ book.next_number
unfolding refreshed
put_in_next setup d units book None = refl
put_in_next setup d units book (Some b) = refl

room_next : (setup : Setup) (stream : Stream) (units : ℕ) (book : Book) → book.next_number ≤ (with_room setup stream units book).next_number
room_next setup stream units book = by (has_room setup stream units book)
  where
    by : (b : Bool) → book.next_number ≤ (cond b book (with_new_buffer stream book)).next_number
    by true = omega arith
    by false = omega arith

placed_next : (setup : Setup) (stream : Stream) (d : Digest) (units : ℕ) (book : Book) → book.next_number ≤ (placed setup stream d units book).next_number
unfolding placed
placed_next setup stream d units book =
    let ready = with_room setup stream units book in
    omega (arith, room_next setup stream units book, put_in_next setup d units ready (filling_buffer stream ready.buffers))

moved_next : (setup : Setup) (d : Digest) (o : Option Live) (s : State) → s.book.next_number ≤ (moved_state setup d o s).book.next_number
moved_next setup d None s = omega arith
moved_next setup d (Some copy) s = placed_next setup defrag d copy.units s.book

-- the next number never falls
pub next_number_rises : (setup : Setup) (step : Step) (s : State) → s.book.next_number ≤ (after_step setup step s).book.next_number
unfolding after_step dropped_live with_flushed refreshed
next_number_rises setup (wrote d v) s = placed_next setup client d (version_units v) s.book
next_number_rises setup (moved d) s = moved_next setup d (live_of d s.book.live) s
next_number_rises setup (removed d) s = omega arith
next_number_rises setup (rid_of d) s = omega arith
next_number_rises setup (uncovered d) s = omega arith
next_number_rises setup (sealed_stream stream) s = omega arith
next_number_rises setup (gate_begun number) s = omega arith
next_number_rises setup (flushed_buffer number) s = omega arith
next_number_rises setup closing_failed s = omega arith
next_number_rises setup raid_begun s = omega arith
next_number_rises setup raid_given_up s = omega arith
next_number_rises setup (marked_part part now) s = omega arith
next_number_rises setup (scanned_block copies) s = omega arith
next_number_rises setup (compared_part part) s = omega arith
next_number_rises setup (done_part part) s = omega arith
