-- Sealing and flushing keep a book tidy: no block that is free or queued leaves, nothing live changes, and no hold comes.
use Rattle.std.proofs.Common.{◌≡◌, ℕ, ◌≤◌, Bool, true, false, not, ◌&&◌, List, [], ◌∷◌, length, refl, sym, ◌∙◌, arith}
use Rattle.std.proofs.lemmas.Bool.{and_parts, cond_both, false≢true}
use Rattle.std.specs.Prelude.{◌==◌}
use Rattle.std.specs.List.{AllByRecursion, list_any}
use Rattle.law_lists.proofs.Counts.{count_changed, count_fewer}
use Rattle.law_lists.proofs.Each.{all_map}
use Rattle.law_lists.proofs.Finding.{any_fewer}
use Rattle.model_device.specs.Book.{Setup, Book, Buffer, Stream, sealed, opening, is_filling, same_stream, sealed_if, opened_if, has_buffer}
use Rattle.model_device.specs.Book.{may_be_free, may_be_queued, with_seal, with_gate_begun, with_flushed, refreshed}
use Rattle.model_device.specs.Device.{State}
use Rattle.model_device.specs.Steps.{Step, wrote, moved, removed, rid_of, uncovered, sealed_stream, gate_begun, flushed_buffer, closing_failed, raid_begun}
use Rattle.model_device.specs.Steps.{raid_given_up, marked_part, scanned_block, compared_part, done_part, after_step, after_steps}
use Rattle.defrag_queue.proofs.Refreshed.{each_of}
use Rattle.law_start.specs.Holding.{HasRisingNumbers}
use Rattle.law_trail.proofs.Flushing.{flushed_booked}
use Rattle.law_trail.proofs.Numbered.{step_numbered}
use Rattle.law_trail.proofs.Others.{open_places, sealed_booked, begun_booked}
use Rattle.law_trail.proofs.Placing.{seal_places}
use Rattle.law_trail.proofs.Within.{step_within}
use Rattle.law_trail.proofs.Unchanged.{queued_alike, queued_same, without_buffer, unbuffered_still, free_still}
use Rattle.law_room.specs.Tidy.{fills, IsTidy}
use Rattle.law_room.proofs.Keeping.{IsSound, refreshed_tidy, free_grows, queue_grows}
use Rattle.law_room.proofs.Waiting.{waits_bare}

-- a step of sealing or of flushing
abbrev pub IsQuiet : Step → Type 0
IsQuiet (sealed_stream stream) = Unit {0}
IsQuiet (gate_begun number) = Unit {0}
IsQuiet (flushed_buffer number) = Unit {0}
IsQuiet _ = ⊥

-- what such steps keep
pub record Keeps (setup : Setup) (old new : Book) : Type 0 where
  pub tidy : IsTidy setup new
  pub free : length old.free ≤ length new.free
  pub queue : length old.queue ≤ length new.queue
  pub live : new.live ≡ old.live
  pub holds : (test : ℕ × ℕ → Bool) → list_any test new.holds ≡ true → list_any test old.holds ≡ true

-- ---- one step

pub sealed_fills : (stream : Stream) (chosen : Bool) (b : Buffer) → fills stream (sealed_if chosen b) ≡ true → fills stream b ≡ true
sealed_fills stream chosen b =
    cond_both (chosen && is_filling b.phase) (record b { phase = sealed }) b (λ (c : Buffer). fills stream c ≡ true → fills stream b ≡ true)
    (λ _ is. absurd (false≢true (and_parts (same_stream stream b.stream) false is).1)) (λ _ is. is)

opened_fills : (stream : Stream) (chosen : Bool) (b : Buffer) → fills stream (opened_if chosen b) ≡ true → fills stream b ≡ true
opened_fills stream chosen b =
    cond_both chosen (record b { phase = opening }) b (λ (c : Buffer). fills stream c ≡ true → fills stream b ≡ true)
    (λ _ is. absurd (false≢true (and_parts (same_stream stream b.stream) false is).1)) (λ _ is. is)

module _ (setup : Setup) (s : State) (tidy : IsTidy setup s.book) where
  -- the numbers of buffers rise whatever the log has
  counted : (step : Step) → HasRisingNumbers (after_step setup step (record s { log = [] })).book
  counted step = (step_numbered setup (record s { log = [] }) (record { counted = tidy.numbered; below = λ digest. tt }) step).counted

  sealed_keeps : (stream : Stream) → Keeps setup s.book (with_seal stream s.book)
  unfolding after_step
  sealed_keeps stream = record {
    tidy = record {
      booked = sealed_booked setup s tidy.booked stream;
      within = step_within setup s tidy.within (sealed_stream stream) tt;
      numbered = counted (sealed_stream stream);
      alone = λ other. let before = tidy.alone other in
          omega (
            arith,
            before,
            count_changed (fills other) (fills other) (λ b. sealed_if (same_stream stream b.stream) b) s.book.buffers
                (λ b there. sealed_fills other (same_stream stream b.stream) b),
          );
      once = tidy.once;
      own = tidy.own;
      below = tidy.below;
      queued = λ block lt. tidy.queued block lt ∙ sym (queued_same setup s.book (with_seal stream s.book) (seal_places stream s.book.buffers) refl block);
    };
    free = omega arith;
    queue = omega arith;
    live = refl;
    holds = λ test is. is;
  }

  begun_keeps : (number : ℕ) → Keeps setup s.book (with_gate_begun number s.book)
  unfolding after_step
  begun_keeps number = record {
    tidy = record {
      booked = begun_booked setup s tidy.booked number;
      within = step_within setup s tidy.within (gate_begun number) tt;
      numbered = counted (gate_begun number);
      alone = λ other. let before = tidy.alone other in
          omega (arith, before, count_changed (fills other) (fills other) (λ b. opened_if (b.number == number) b) s.book.buffers (λ b there. opened_fills other (b.number == number) b));
      once = tidy.once;
      own = tidy.own;
      below = tidy.below;
      queued = λ block lt. tidy.queued block lt ∙ sym (queued_same setup s.book (with_gate_begun number s.book) (open_places number s.book) refl block);
    };
    free = omega arith;
    queue = omega arith;
    live = refl;
    holds = λ test is. is;
  }

  module _ (number : ℕ) where
    -- the book without the buffer and its holds
    abbrev pub left : Book
    left = without_buffer number s.book

    still_queued : (block : ℕ) → may_be_queued setup s.book block ≡ true → may_be_queued setup left block ≡ true
    still_queued block may = queued_alike setup s.book left block (unbuffered_still number s.book block bare ∙ sym bare) refl ∙ may
      where
        bare : has_buffer s.book block ≡ false
        bare = waits_bare setup s.book block may

    left_sound : IsSound setup left
    unfolding after_step with_flushed refreshed
    left_sound = record {
      apart = (flushed_booked setup number s.book tidy.booked).apart;
      units = tidy.booked.units;
      within = record {
        free = tidy.within.free;
        places = (step_within setup s tidy.within (flushed_buffer number) tt).places;
        live = tidy.within.live;
      };
      numbered = record { rising = (counted (flushed_buffer number)).rising; below = (counted (flushed_buffer number)).below };
      alone = λ other. let before = tidy.alone other in omega (arith, before, count_fewer (fills other) (λ b. not (b.number == number)) s.book.buffers);
      once = tidy.once;
      own = tidy.own;
      below = tidy.below;
    }

    still_live : (refreshed setup left).live ≡ s.book.live
    unfolding refreshed
    still_live = refl

    still_held : (test : ℕ × ℕ → Bool) → list_any test (refreshed setup left).holds ≡ true → list_any test s.book.holds ≡ true
    unfolding refreshed
    still_held test some = any_fewer test (λ (h : ℕ × ℕ). not (h.0 == number)) s.book.holds some

    flushed_keeps : Keeps setup s.book (with_flushed setup number s.book)
    unfolding with_flushed
    flushed_keeps = record {
      tidy = refreshed_tidy setup left left_sound;
      free = free_grows setup left (all_map (λ b. may_be_free s.book b ≡ true) (λ b. may_be_free left b ≡ true) s.book.free (free_still number s.book) tidy.booked.free);
      queue = queue_grows setup left
          (each_of setup.blocks (λ b. may_be_queued setup left b ≡ true) s.book.queue tidy.below (λ b lt is. still_queued b (sym (tidy.queued b lt) ∙ is)));
      live = still_live;
      holds = still_held;
    }

  pub step_keeps : (step : Step) → IsQuiet step → Keeps setup s.book (after_step setup step s).book
  unfolding after_step
  step_keeps (sealed_stream stream) quiet = sealed_keeps stream
  step_keeps (gate_begun number) quiet = begun_keeps number
  step_keeps (flushed_buffer number) quiet = flushed_keeps number
  step_keeps (wrote digest v) quiet = absurd quiet
  step_keeps (moved digest) quiet = absurd quiet
  step_keeps (removed digest) quiet = absurd quiet
  step_keeps (rid_of digest) quiet = absurd quiet
  step_keeps (uncovered digest) quiet = absurd quiet
  step_keeps closing_failed quiet = absurd quiet
  step_keeps raid_begun quiet = absurd quiet
  step_keeps raid_given_up quiet = absurd quiet
  step_keeps (marked_part part now) quiet = absurd quiet
  step_keeps (scanned_block copies) quiet = absurd quiet
  step_keeps (compared_part part) quiet = absurd quiet
  step_keeps (done_part part) quiet = absurd quiet

-- ---- several steps

pub steps_keep : (setup : Setup) (steps : List Step) (s : State) → IsTidy setup s.book → AllByRecursion IsQuiet steps → Keeps setup s.book (after_steps setup steps s).book
steps_keep setup [] s tidy quiet = record { tidy = tidy; free = omega arith; queue = omega arith; live = refl; holds = λ test is. is }
steps_keep setup (step ∷ steps) s tidy quiet =
    let first = step_keeps setup s tidy step quiet.0 in
    let rest = steps_keep setup steps (after_step setup step s) first.tidy quiet.1 in
    record {
      tidy = rest.tidy;
      free = omega (arith, first.free, rest.free);
      queue = omega (arith, first.queue, rest.queue);
      live = rest.live ∙ first.live;
      holds = λ test is. first.holds test (rest.holds test is);
    }
