-- The flush of all sealed buffers leaves those that are filling, and vacates nothing.
use Rattle.std.proofs.Common.{◌≡◌, ◌+◌, Bool, true, false, not, cond, ◌&&◌, List, [], ◌∷◌, ◌++◌, append_assoc, refl, ap, sym, ◌∙◌, arith}
use Rattle.std.proofs.lemmas.Bool.{and_left, and_right}
use Rattle.std.specs.Prelude.{filter, count_by, flat_map}
use Rattle.law_lists.proofs.Counts.{count_at}
use Rattle.model_device.specs.Book.{Setup, Book, Buffer, Phase, filling, sealed, opening, is_filling}
use Rattle.model_device.specs.Device.{State}
use Rattle.model_device.specs.Steps.{gate_begun, flushed_buffer, after_step, after_steps}
use Rattle.model_device.specs.Legal.{flush_of}
use Rattle.law_room.specs.Room.{is_below, may_come}
use Rattle.law_room.specs.Tidy.{IsTidy}
use Rattle.law_room.proofs.Quiet.{step_keeps}
use Rattle.law_room.proofs.Leaving.{VacatesNone, nothing_new, one_more, opened_buffers, flushed_buffers, flushed_vacates}

-- the block of a buffer that takes no records counts where it is below the mark
unfilled_comes : (setup : Setup) (book : Book) (b : Buffer) → is_filling b.phase ≡ false → may_come setup book b ≡ is_below setup book b.block
unfilled_comes setup book b unfilled =
    ap (λ (x : Bool). is_below setup book b.block && not x) (and_left _ _ (and_right _ _ unfilled)) ∙ with_true (is_below setup book b.block)
  where
    with_true : (x : Bool) → (x && true) ≡ x
    with_true true = refl
    with_true false = refl

-- the write of a gate changes nothing that counts
begun_vacates : (setup : Setup) (s : State) → IsTidy setup s.book → (front : List Buffer) (b : Buffer) (bs : List Buffer) → s.book.buffers ≡ front ++ b ∷ bs → is_filling b.phase ≡ false
    → VacatesNone setup s.book (after_step setup (gate_begun b.number) s).book
unfolding after_step
begun_vacates setup s tidy front b bs at unfilled = record { left = omega (arith, same); sum = omega (arith, same) }
  where
    begun : Buffer
    begun = record b { phase = opening }

    same : count_by (may_come setup s.book) (after_step setup (gate_begun b.number) s).book.buffers ≡ count_by (may_come setup s.book) s.book.buffers
    same =
        ap (count_by (may_come setup s.book)) (opened_buffers setup s tidy front b bs at) ∙ count_at (may_come setup s.book) front begun bs
        ∙ ap (λ (x : Bool). count_by (may_come setup s.book) (front ++ bs) + cond x 1 0) (unfilled_comes setup s.book begun refl ∙ sym (unfilled_comes setup s.book b unfilled))
        ∙ sym (count_at (may_come setup s.book) front b bs) ∙ sym (ap (count_by (may_come setup s.book)) at)

pub record IsEmptied (setup : Setup) (old : Book) (kept : List Buffer) (new : Book) : Type 0 where
  pub buffers : new.buffers ≡ kept
  pub vacates : VacatesNone setup old new

abbrev pub filling_of : List Buffer → List Buffer
filling_of bs = filter (λ b. is_filling b.phase) bs

abbrev pub AllFlushed : Setup → List Buffer → Type 0
AllFlushed setup bs = (front : List Buffer) (s : State) → IsTidy setup s.book → s.book.buffers ≡ front ++ bs
    → IsEmptied setup s.book (front ++ filling_of bs) (after_steps setup (flat_map flush_of bs) s).book

module _ (setup : Setup) (b : Buffer) (bs : List Buffer) (rest : AllFlushed setup bs) (front : List Buffer) where
  -- a buffer whose gate's write has begun
  last_flushed : (s : State) → IsTidy setup s.book → s.book.buffers ≡ front ++ (record b { phase = opening }) ∷ bs
      → IsEmptied setup s.book (front ++ filling_of bs) (after_steps setup (flat_map flush_of bs) (after_step setup (flushed_buffer b.number) s)).book
  last_flushed s tidy at =
      let c : Buffer = record b { phase = opening } in
      let then = rest front (after_step setup (flushed_buffer b.number) s) (step_keeps setup s tidy (flushed_buffer b.number) tt).tidy (flushed_buffers setup s tidy front c bs at) in
      record {
        buffers = then.buffers;
        vacates = one_more setup s.book (after_step setup (flushed_buffer b.number) s).book (after_steps setup (flat_map flush_of bs) (after_step setup (flushed_buffer b.number) s)).book
            (flushed_vacates setup s tidy front c bs at refl) then.vacates;
      }

  first_flushed : (s : State) → IsTidy setup s.book → (phase : Phase) → s.book.buffers ≡ front ++ (record b { phase = phase }) ∷ bs
      → IsEmptied setup s.book (front ++ filling_of (record b { phase = phase } ∷ bs)) (after_steps setup (flush_of (record b { phase = phase }) ++ flat_map flush_of bs) s).book
  first_flushed s tidy filling at =
      let c : Buffer = record b { phase = filling } in
      let then = rest (front ++ c ∷ []) s tidy (at ∙ sym (append_assoc front (c ∷ []) bs)) in
      record { buffers = then.buffers ∙ append_assoc front (c ∷ []) (filling_of bs); vacates = then.vacates }
  first_flushed s tidy sealed at =
      let c : Buffer = record b { phase = sealed } in
      let begun : State = after_step setup (gate_begun b.number) s in
      let then = last_flushed begun (step_keeps setup s tidy (gate_begun b.number) tt).tidy (opened_buffers setup s tidy front c bs at) in
      record {
        buffers = then.buffers;
        vacates = one_more setup s.book begun.book (after_steps setup (flat_map flush_of bs) (after_step setup (flushed_buffer b.number) begun)).book
            (begun_vacates setup s tidy front c bs at refl) then.vacates;
      }
  first_flushed s tidy opening at = last_flushed s tidy at

pub all_flushed : (setup : Setup) (bs : List Buffer) → AllFlushed setup bs
all_flushed setup [] front s tidy at = record { buffers = at; vacates = nothing_new setup s.book }
all_flushed setup (b ∷ bs) front s tidy at = first_flushed setup b bs (all_flushed setup bs) front s tidy b.phase at
