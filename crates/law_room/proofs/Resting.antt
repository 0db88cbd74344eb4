-- A tending that vacates nothing leaves a device at rest, and a tending of a device at rest makes no step.
use Rattle.std.proofs.Common.{◌≡◌, ◌⊎◌, inl, inr, ℕ, ◌≤◌, Bool, true, false, cond, ◌&&◌, List, [], ◌∷◌, ◌++◌, length, length-append, Option, Some, None, refl, ap, sym, subst, ◌∙◌, arith}
use Rattle.std.proofs.lemmas.Bool.{and_parts, and_from, or_cases, or_left, or_right, false≢true, false_from_ne_true, leb-true, le-leb}
use Rattle.std.specs.Prelude.{◌==◌, nat_le, flat_map, MatchBool}
use Rattle.std.specs.List.{AllByRecursion, list_any}
use Rattle.model_device.proofs.Blocks.{empty_is}
use Rattle.model_device.specs.Book.{Setup, Book, Buffer, Live, Stream, client, defrag, Phase, filling, sealed, opening, is_filling, filling_buffer, use_of, holds_dead}
use Rattle.model_device.specs.Device.{State}
use Rattle.model_device.specs.Steps.{Step, after_steps}
use Rattle.model_device.specs.Events.{choose_call, flush_sealed_call, block_chosen, refused, Event, after_event, steps_of}
use Rattle.model_device.specs.Legal.{Allowed, seal_if, seal_low, is_due, is_short, is_empty, has_gathered, flush_of, flush_all, queue_front, IsLegal}
use Rattle.model_device.specs.Vacating.{Outcome, can_gain, Vacates, Tends}
use Rattle.law_room.specs.Room.{IsAtRest}
use Rattle.law_room.proofs.Moves.{choice_ends}
use Rattle.law_room.proofs.Sealed.{sealed_low, client_found, defrag_found, filling_found}
use Rattle.law_room.proofs.Flushed.{IsFlushed, flushed_filling}

-- ---- what a flush leaves

pub few_nothing : (blocks : List ℕ) → length blocks ≤ 0 → is_empty blocks ≡ true
few_nothing [] few = refl
few_nothing (b ∷ bs) few = absurd (omega (arith, few))

-- where each buffer takes records none is flushed
pub none_sealed : (bs : List Buffer) → AllByRecursion (λ b. is_filling b.phase ≡ true) bs → flat_map flush_of bs ≡ []
none_sealed [] all = refl
none_sealed (b ∷ bs) all = by b.phase all.0 (none_sealed bs all.1)
  where
    by : (phase : Phase) → is_filling phase ≡ true → flat_map flush_of bs ≡ [] → flat_map flush_of (record b { phase = phase } ∷ bs) ≡ []
    by filling told rest = rest
    by sealed told rest = absurd (false≢true told)
    by opening told rest = absurd (false≢true told)

module _ (setup : Setup) (old new : Book) (is : IsFlushed setup old new) where
  -- where nothing was, nothing is now fewer
  nothing_before : (was now : List ℕ) → length was ≤ length now → is_empty now ≡ true → is_empty was ≡ true
  nothing_before was now less none = few_nothing was (let no = ap length (empty_is now none) in omega (arith, less, no))

  found : (stream : Stream) → filling_buffer stream new.buffers ≡ cond (is_due setup old stream) None (filling_buffer stream old.buffers)
  found client =
      ap (filling_buffer client) is.buffers ∙ filling_found client (sealed_low (is_due setup old client) (is_due setup old defrag) old.buffers)
      ∙ client_found (is_due setup old client) (is_due setup old defrag) old.buffers
  found defrag =
      ap (filling_buffer defrag) is.buffers ∙ filling_found defrag (sealed_low (is_due setup old client) (is_due setup old defrag) old.buffers)
      ∙ defrag_found (is_due setup old client) (is_due setup old defrag) old.buffers

  dead_before : (b : Buffer) → holds_dead new (Some b) ≡ true → holds_dead old (Some b) ≡ true
  dead_before b dead =
      is.keeps.holds (λ h. (h.0 == b.number) && (use_of old h.1 == 0))
      (ap (λ (l : List Live). list_any (λ h. (h.0 == b.number) && (use_of (record old { live = l }) h.1 == 0)) new.holds) (sym is.keeps.live) ∙ dead)

  gathered_before : (stream : Stream) (b : Buffer) → filling_buffer stream new.buffers ≡ Some b → filling_buffer stream old.buffers ≡ Some b → has_gathered setup new stream ≡ true
      → has_gathered setup old stream ≡ true
  gathered_before client b now was gathered = refl
  gathered_before defrag b now was gathered = by (or_cases (is_empty new.queue) (is_empty new.free && is_short setup (filling_buffer defrag new.buffers)) gathered)
    where
      by : (is_empty new.queue ≡ true) ⊎ ((is_empty new.free && is_short setup (filling_buffer defrag new.buffers)) ≡ true) → has_gathered setup old defrag ≡ true
      by (inl none) = or_left _ _ (nothing_before old.queue new.queue is.keeps.queue none)
      by (inr both) =
          let two = and_parts (is_empty new.free) (is_short setup (filling_buffer defrag new.buffers)) both in
          or_right _ _ (and_from _ _ (nothing_before old.free new.free is.keeps.free two.0) (ap (is_short setup) (was ∙ sym now) ∙ two.1))

  -- nothing is due that wasn't sealed
  not_due : (stream : Stream) → is_due setup new stream ≡ false
  not_due stream = false_from_ne_true (is_due setup new stream) (λ due.
      let two = and_parts (nat_le (length new.free) 6 && holds_dead new (filling_buffer stream new.buffers)) (has_gathered setup new stream) due in
      let one = and_parts (nat_le (length new.free) 6) (holds_dead new (filling_buffer stream new.buffers)) two.0 in
      by (filling_buffer stream new.buffers) (is_due setup old stream) refl refl (found stream) one.0 one.1 two.1)
    where
      by : (o : Option Buffer) (was : Bool) → filling_buffer stream new.buffers ≡ o → is_due setup old stream ≡ was → o ≡ cond was None (filling_buffer stream old.buffers)
          → nat_le (length new.free) 6 ≡ true → holds_dead new o ≡ true → has_gathered setup new stream ≡ true → ⊥
      by None was now is_was same few dead gathered = false≢true dead
      by (Some b) true now is_was same few dead gathered = cc
      by (Some b) false now is_was same few dead gathered =
          let most = leb-true (length new.free) 6 few in
          false≢true (sym is_was ∙ and_from _ _
          (and_from _ _ (le-leb (length old.free) 6 (let less = is.keeps.free in omega (arith, most, less))) (ap (holds_dead old) (sym same) ∙ dead_before b dead))
          (gathered_before stream b now (sym same) gathered))

  -- where nothing can be vacated the device is at rest
  pub at_rest : (can_gain new ≡ false) ⊎ (new.queue ≡ []) → IsAtRest setup new
  at_rest none = record {
    sealed = λ i. seal_if (not_due client i) client ++ seal_if (not_due defrag i) defrag;
    flushed = none_sealed new.buffers (flushed_filling setup old new is);
    vacated = none;
  }

-- ---- a device at rest

module _ (setup : Setup) (told : Bool) (s : State) (rest : IsAtRest setup s.book) where
  flush_rests : (event : Event) → Allowed setup told s event flush_sealed_call → event.steps ≡ []
  flush_rests event allowed = elim allowed [
    | inl made ↦ made.0 ∙ whole
    | inr failed ↦ absurd (let long = ap length (sym whole ∙ ap (λ (l : List Step). seal_low setup s.book ++ l) failed.4.2) in
        omega (arith, long, length-append (seal_low setup s.book) (failed.2 ++ failed.4.0 ∷ failed.4.1), length-append failed.2 (failed.4.0 ∷ failed.4.1)))
  ]
    where
      whole : seal_low setup s.book ++ flush_all (after_steps setup (seal_low setup s.book) s).book ≡ []
      whole = ap (λ (l : List Step). l ++ flush_all (after_steps setup l s).book) rest.sealed ∙ rest.flushed

  choice_rests : s.book.queue ≡ [] → (event : Event) → Allowed setup told s event choose_call → (event.steps ≡ []) × ((block : ℕ) → event.answer ≡ block_chosen (Some block) → ⊥)
  choice_rests empty event allowed =
      let ends = choice_ends setup told s event allowed in (
        ends.0,
        λ block chosen. elim ends.1 [
          | inl is ↦ (let none : queue_front s.book.queue ≡ None = ap queue_front empty in cc)
          | inr fails ↦ (let clash : refused fails.cause ≡ block_chosen (Some block) = sym fails.answers ∙ chosen in cc)
        ],
      )

  vacating_rests : s.book.queue ≡ [] → (faults : ℕ) (events : List Event) (outcome : Outcome) → Vacates setup s events outcome → IsLegal setup told s faults events → steps_of events ≡ []
  vacating_rests empty faults events outcome vacates legal =
      let first : Event = vacates.0 in
      let moves : List Event = vacates.1 in
      let parts : IsLegal setup told s faults (first ∷ moves) = subst (IsLegal setup told s faults) vacates.2 legal in
      let choice = choice_rests empty first (subst (Allowed setup told s first) vacates.3 parts.0.allowed) in
      ap steps_of vacates.2 ∙ (λ i. choice.0 i ++ steps_of moves) ∙ ap steps_of (elim vacates.4 [
        | inl nothing ↦ nothing.1
        | inr more ↦ elim more [
          | inl chosen ↦ absurd (choice.1 chosen.0 chosen.1)
          | inr failed ↦ failed.2
        ]
      ])

  pub rests : (faults : ℕ) (events : List Event) → Tends setup s events → IsLegal setup told s faults events → steps_of events ≡ []
  rests faults events tends legal = ap steps_of tends.2 ∙ (λ i. quiet i ++ then (can_gain s.book) refl as_it_was i)
    where
      first : Event
      first = tends.0

      more : List Event
      more = tends.1

      parts : IsLegal setup told s faults (first ∷ more)
      parts = subst (IsLegal setup told s faults) tends.2 legal

      quiet : first.steps ≡ []
      quiet = flush_rests first (subst (Allowed setup told s first) tends.3 parts.0.allowed)

      same : after_event setup first s ≡ s
      same = ap (λ (l : List Step). after_steps setup l s) quiet

      as_it_was : MatchBool (can_gain s.book) ((outcome : Outcome) × Vacates setup s more outcome) (more ≡ [])
      as_it_was = subst (λ (t : State). MatchBool (can_gain t.book) ((outcome : Outcome) × Vacates setup t more outcome) (more ≡ [])) same tends.4

      then : (gain : Bool) → can_gain s.book ≡ gain → MatchBool gain ((outcome : Outcome) × Vacates setup s more outcome) (more ≡ []) → steps_of more ≡ []
      then false is none = ap steps_of none
      then true is vacates = elim rest.vacated [
        | inl no_gain ↦ absurd (false≢true (sym no_gain ∙ is))
        | inr empty ↦ vacating_rests empty first.faults_after more vacates.0 vacates.1 (subst (λ (t : State). IsLegal setup told t first.faults_after more) same parts.1)
      ]
