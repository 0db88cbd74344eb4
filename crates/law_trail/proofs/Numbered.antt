-- Numbers stay in order: buffers stand in rising number, and all numbers are below the next.
use Rattle.std.proofs.Common.{◌≡◌, ℕ, ◌+◌, ◌<◌, ◌≤◌, Bool, true, false, not, List, [], ◌∷◌, ◌++◌, map, Option, Some, None, refl, sym, ap, subst, arith}
use Rattle.std.proofs.lemmas.Bool.{cond_both}
use Rattle.std.specs.Prelude.{◌==◌, filter}
use Rattle.std.specs.List.{AllByRecursion}
use Rattle.law_lists.proofs.Each.{all_map, all_joined, all_fewer}
use Rattle.rec_format.specs.declared.version.Digest.{Digest}
use Rattle.rec_format.specs.declared.version.Version.{Version}
use Rattle.rec_format.specs.Places.{same_digest}
use Rattle.rec_format.specs.Versions.{version_units}
use Rattle.model_device.specs.Histories.{Item, write, dropped, rid, cleared, with_number}
use Rattle.model_device.specs.Book.{Setup, Buffer, Book, Live, Stream, client, defrag, filling, same_stream, sealed_if, seal_stream, first_block, used_more}
use Rattle.model_device.specs.Book.{opened_if, filling_buffer, has_room, with_new_buffer, with_room, put_in, placed, placing_number, refreshed, dropped_live}
use Rattle.model_device.specs.Book.{with_seal, with_gate_begun, with_flushed, live_of}
use Rattle.model_device.specs.Device.{State, history, history_of, log_with_number}
use Rattle.model_device.specs.Steps.{Step, wrote, moved, removed, rid_of, uncovered, sealed_stream, gate_begun, flushed_buffer, closing_failed, raid_begun}
use Rattle.model_device.specs.Steps.{raid_given_up, marked_part, scanned_block, compared_part, done_part, with_item, moved_state, after_step}
use Rattle.model_device.proofs.Laws.{KeepsNumber}
use Rattle.rec_format.proofs.Laws.{same_digest_is}
use Rattle.model_device.proofs.Numbers.{history_with_number, next_number_rises}
use Rattle.law_start.specs.Orderly.{NumbersBelow}
use Rattle.law_start.specs.Holding.{AreRising, HasRisingNumbers}
use Rattle.law_start.proofs.Growing.{numbers_rise}
use Rattle.law_start.proofs.Orderly.{placing_below}
use Rattle.law_start.proofs.HeldWrites.{wrote_case}
use Rattle.law_trail.specs.Numbers.{HasNumbers}
use Rattle.law_trail.proofs.Moving.{other_history}
use Rattle.law_trail.proofs.Placing.{sealed_place, used_place, opened_place}

-- ---- buffers in rising number

module _ (change : Buffer → Buffer) (keeps : KeepsNumber change) where
  each_number : (P : ℕ → Type 0) (bs : List Buffer) → AllByRecursion (λ b. P b.number) bs → AllByRecursion (λ b. P b.number) (map change bs)
  each_number P [] all = tt
  each_number P (b ∷ bs) all = (subst P (sym (keeps b)) all.0, each_number P bs all.1)

  rising_changed : (bs : List Buffer) → AreRising bs → AreRising (map change bs)
  rising_changed [] rising = tt
  rising_changed (b ∷ bs) rising =
      (subst (λ (n : ℕ). AllByRecursion (λ c. n < c.number) (map change bs)) (sym (keeps b)) (each_number (λ n. b.number < n) bs rising.0), rising_changed bs rising.1)

rising_joined : (bs : List Buffer) (new : Buffer) → AreRising bs → AllByRecursion (λ b. b.number < new.number) bs → AreRising (bs ++ new ∷ [])
rising_joined [] new rising below = (tt, tt)
rising_joined (b ∷ bs) new rising below = (all_joined (λ c. b.number < c.number) bs (new ∷ []) rising.0 (below.0, tt), rising_joined bs new rising.1 below.1)

rising_fewer : (test : Buffer → Bool) (bs : List Buffer) → AreRising bs → AreRising (filter test bs)
rising_fewer test [] rising = tt
rising_fewer test (b ∷ bs) rising =
    let rest = rising_fewer test bs rising.1 in cond_both (test b) (b ∷ filter test bs) (filter test bs) AreRising (λ _. (all_fewer (λ c. b.number < c.number) test bs rising.0, rest)) (λ _. rest)

changed_counted : (change : Buffer → Buffer) → KeepsNumber change → (old new : Book) → new.buffers ≡ map change old.buffers → new.next_number ≡ old.next_number
    → HasRisingNumbers old → HasRisingNumbers new
changed_counted change keeps old new buffers next counted = record {
  rising = subst AreRising (sym buffers) (rising_changed change keeps old.buffers counted.rising);
  below = subst (λ (n : ℕ). AllByRecursion (λ b. b.number < n) new.buffers) (sym next)
      (subst (AllByRecursion (λ b. b.number < old.next_number)) (sym buffers) (each_number change keeps (λ n. n < old.next_number) old.buffers counted.below));
}

keeps_sealed : (stream : Stream) → KeepsNumber (λ b. sealed_if (same_stream stream b.stream) b)
keeps_sealed stream b = ap (λ (p : ℕ × ℕ). p.0) (sealed_place (same_stream stream b.stream) b)

keeps_used : (number units : ℕ) → KeepsNumber (used_more number units)
keeps_used number units b = ap (λ (p : ℕ × ℕ). p.0) (used_place number units b)

keeps_opened : (number : ℕ) → KeepsNumber (λ b. opened_if (b.number == number) b)
keeps_opened number b = ap (λ (p : ℕ × ℕ). p.0) (opened_place (b.number == number) b)

new_counted : (stream : Stream) (book : Book) → HasRisingNumbers book → HasRisingNumbers (with_new_buffer stream book)
new_counted stream book counted =
    let seals : Buffer → Buffer = λ b. sealed_if (same_stream stream b.stream) b in
    let below = each_number seals (keeps_sealed stream) (λ n. n < book.next_number) book.buffers counted.below in
    record {
      rising = rising_joined (seal_stream stream book.buffers) (record { number = book.next_number; block = first_block book.free; stream = stream; used = 0; phase = filling })
          (rising_changed seals (keeps_sealed stream) book.buffers counted.rising) below;
      below = all_joined (λ b. b.number < book.next_number + 1) (seal_stream stream book.buffers)
          ((record { number = book.next_number; block = first_block book.free; stream = stream; used = 0; phase = filling }) ∷ [])
          (all_map (λ b. b.number < book.next_number) (λ b. b.number < book.next_number + 1) (seal_stream stream book.buffers) (λ b lt. omega arith) below) (omega arith, tt);
    }

room_counted : (setup : Setup) (stream : Stream) (units : ℕ) (book : Book) → HasRisingNumbers book → HasRisingNumbers (with_room setup stream units book)
room_counted setup stream units book counted = cond_both (has_room setup stream units book) book (with_new_buffer stream book) HasRisingNumbers (λ _. counted) (λ _. new_counted stream book counted)

put_counted : (setup : Setup) (digest : Digest) (units : ℕ) (book : Book) (o : Option Buffer) → HasRisingNumbers book → HasRisingNumbers (put_in setup digest units book o)
unfolding refreshed
put_counted setup digest units book None counted = counted
put_counted setup digest units book (Some b) counted = changed_counted (used_more b.number units) (keeps_used b.number units) book (put_in setup digest units book (Some b)) refl refl counted

pub placed_counted : (setup : Setup) (stream : Stream) (digest : Digest) (units : ℕ) (book : Book) → HasRisingNumbers book → HasRisingNumbers (placed setup stream digest units book)
unfolding placed
placed_counted setup stream digest units book counted =
    put_counted setup digest units (with_room setup stream units book) (filling_buffer stream (with_room setup stream units book).buffers) (room_counted setup stream units book counted)

flushed_counted : (setup : Setup) (number : ℕ) (book : Book) → HasRisingNumbers book → HasRisingNumbers (with_flushed setup number book)
unfolding with_flushed refreshed
flushed_counted setup number book counted = record {
  rising = rising_fewer (λ b. not (b.number == number)) book.buffers counted.rising;
  below = all_fewer (λ b. b.number < book.next_number) (λ b. not (b.number == number)) book.buffers counted.below;
}

-- ---- the numbers of a history

pub number_below : (limit number : ℕ) (items : List Item) → number < limit → NumbersBelow limit items → NumbersBelow limit (with_number number items)
number_below limit number [] lt below = below
number_below limit number (write v [] ∷ older) lt below = below
number_below limit number (write v (n ∷ ns) ∷ older) lt below = ((lt, below.0), below.1)
number_below limit number (dropped ∷ older) lt below = below
number_below limit number (rid ∷ older) lt below = below
number_below limit number (cleared ∷ older) lt below = number_below limit number older lt below

-- ---- the steps

module _ (setup : Setup) (s : State) (numbered : HasNumbers s) where
  wrote_numbered : (digest : Digest) (v : Version) → HasNumbers (after_step setup (wrote digest v) s)
  unfolding after_step
  wrote_numbered digest v = record { counted = placed_counted setup client digest (version_units v) s.book numbered.counted; below = below }
    where
      below : (e : Digest) → NumbersBelow (placed setup client digest (version_units v) s.book).next_number (history (after_step setup (wrote digest v) s) e)
      below e =
          let up = numbers_rise s.book.next_number (placed setup client digest (version_units v) s.book).next_number (history s e) (next_number_rises setup (wrote digest v) s) (numbered.below e) in
          wrote_case setup s digest v e (NumbersBelow (placed setup client digest (version_units v) s.book).next_number)
          (λ _. ((placing_below setup client digest (version_units v) s.book numbered.counted, tt), up)) (λ _. up)

  moved_numbered : (digest : Digest) (live : Option Live) → (s.book.next_number ≤ (moved_state setup digest live s).book.next_number) → HasNumbers (moved_state setup digest live s)
  moved_numbered digest None le = numbered
  moved_numbered digest (Some copy) le = record { counted = placed_counted setup defrag digest copy.units s.book numbered.counted; below = λ e. by e (same_digest e digest) refl }
    where
      number : ℕ
      number = placing_number setup defrag copy.units s.book

      limit : ℕ
      limit = (placed setup defrag digest copy.units s.book).next_number

      up : (e : Digest) → NumbersBelow limit (history s e)
      up e = numbers_rise s.book.next_number limit (history s e) le (numbered.below e)

      by : (e : Digest) (b : Bool) → same_digest e digest ≡ b → NumbersBelow limit (history_of e (log_with_number digest number s.log))
      by e true same =
          subst (λ (d : Digest). NumbersBelow limit (history_of d (log_with_number digest number s.log))) (sym (same_digest_is e digest same))
          (subst (NumbersBelow limit) (sym (history_with_number digest number s.log))
          (number_below limit number (history s digest) (placing_below setup defrag digest copy.units s.book numbered.counted) (up digest)))
      by e false other = subst (NumbersBelow limit) (sym (other_history digest e number s.log other)) (up e)

  item_numbered : (digest : Digest) (item : Item) → ((items : List Item) → NumbersBelow s.book.next_number items → NumbersBelow s.book.next_number (item ∷ items)) → (book : Book)
      → HasRisingNumbers book → s.book.next_number ≡ book.next_number
      → HasNumbers (with_item digest item book s)
  item_numbered digest item more book counted next = record {
    counted = counted;
    below = λ e. subst (λ (n : ℕ). NumbersBelow n (history (with_item digest item book s) e)) next
        (cond_both (same_digest e digest) (item ∷ history s e) (history s e) (NumbersBelow s.book.next_number) (λ _. more (history s e) (numbered.below e)) (λ _. numbered.below e));
  }

  gone_counted : (digest : Digest) → HasRisingNumbers (dropped_live setup digest s.book)
  unfolding dropped_live refreshed
  gone_counted digest = record { rising = numbered.counted.rising; below = numbered.counted.below }

  gone_next : (digest : Digest) → s.book.next_number ≡ (dropped_live setup digest s.book).next_number
  unfolding dropped_live refreshed
  gone_next digest = refl

  flush_numbered : (number : ℕ) → HasNumbers (after_step setup (flushed_buffer number) s)
  unfolding after_step with_flushed refreshed
  flush_numbered number = record { counted = flushed_counted setup number s.book numbered.counted; below = numbered.below }

  -- After each step numbers are in order.
  pub step_numbered : (step : Step) → HasNumbers (after_step setup step s)
  unfolding after_step
  step_numbered (wrote digest v) = wrote_numbered digest v
  step_numbered (moved digest) = moved_numbered digest (live_of digest s.book.live) (next_number_rises setup (moved digest) s)
  step_numbered (removed digest) = item_numbered digest dropped (λ items below. below) (dropped_live setup digest s.book) (gone_counted digest) (gone_next digest)
  step_numbered (rid_of digest) = item_numbered digest rid (λ items below. below) (dropped_live setup digest s.book) (gone_counted digest) (gone_next digest)
  step_numbered (uncovered digest) = item_numbered digest cleared (λ items below. below) s.book numbered.counted refl
  step_numbered (sealed_stream stream) = record {
    counted = changed_counted (λ b. sealed_if (same_stream stream b.stream) b) (keeps_sealed stream) s.book (with_seal stream s.book) refl refl numbered.counted;
    below = numbered.below;
  }
  step_numbered (gate_begun number) = record {
    counted = changed_counted (λ b. opened_if (b.number == number) b) (keeps_opened number) s.book (with_gate_begun number s.book) refl refl numbered.counted;
    below = numbered.below;
  }
  step_numbered (flushed_buffer number) = flush_numbered number
  step_numbered closing_failed = record { counted = record { rising = numbered.counted.rising; below = numbered.counted.below }; below = numbered.below }
  step_numbered raid_begun = record { counted = numbered.counted; below = numbered.below }
  step_numbered raid_given_up = record { counted = numbered.counted; below = numbered.below }
  step_numbered (marked_part part now) = record { counted = numbered.counted; below = numbered.below }
  step_numbered (scanned_block copies) = record { counted = numbered.counted; below = numbered.below }
  step_numbered (compared_part part) = record { counted = numbered.counted; below = numbered.below }
  step_numbered (done_part part) = record { counted = numbered.counted; below = numbered.below }
