-- The choice of a block to vacate is an event without steps, and few units are live in the block.
use Rattle.std.proofs.Common.{◌≡◌, inl, inr, ℕ, ◌*◌, ◌<◌, ◌≤◌, ◌^◌, Bool, true, false, not, ◌&&◌, List, [], ◌∷◌, refl, sym, ◌∙◌, ap, subst, arith}
use Rattle.std.specs.Prelude.{◌==◌, nat_lt, Option, Some, None, Result, Ok, Err, IfOk, IfErr, IfSome}
use Rattle.std.proofs.Math.Nat.{mul-le-mul_left}
use Rattle.std.proofs.lemmas.Bool.{false≢true, and_parts, not-true, or_left, eq-eqb, ltb-true}
use Rattle.model_faults.specs.Counts.{Rose}
use Rattle.disk_model.specs.Disk.{DiskView, IsDisk, IsHonest}
use Rattle.model_device.specs.Book.{Setup, Book, has_buffer, use_of, may_be_queued, is_in}
use Rattle.model_device.specs.Device.{State}
use Rattle.model_device.specs.Events.{Event, block_chosen, choose_call}
use Rattle.model_device.specs.Legal.{Allowed, WhereReads, queue_front}
use Rattle.block_shelf.specs.declared.refusals.VacateRefusal.{VacateRefusal}
use Rattle.block_shelf.specs.declared.refusals.VacateRefusal.TheVariants as vacate
use Rattle.block_shelf.specs.View.{ShelfView, IsSetupOf, IsShelf}
use Rattle.block_shelf.specs.Disks.{OnlyRead}
use Rattle.block_shelf.specs.Scans.{IsSound}
use Rattle.block_shelf.specs.Standing.{ImagesHold}
use Rattle.block_shelf.specs.Vacating.{IsToldOfNext}
use Rattle.block_shelf.proofs.Looking.{goes_read}
use Rattle.block_shelf.proofs.StartLives.{capacity_most}
use Rattle.law_steps.specs.Standing.{ShelfStands, ShelfIsSafe}
use Rattle.law_steps.specs.Events.{MakesEvent}
use Rattle.law_steps.proofs.Making.{event_of, makes_by}
use Rattle.defrag_pass.specs.Choosing.{HasFew, choose_answer}

-- ---- the event

module _ {D : Type 0} (view : D → DiskView) (setup : Setup) (old new : ShelfView D) (s : State) (stands : ShelfStands setup old s) (result : Result (Option ℕ) VacateRefusal)
    (same : new ≡ record old { disk = new.disk }) (only : OnlyRead (view old.disk) (view new.disk)) (is_disk : IsDisk (view new.disk)) where
  abbrev choice : Event
  choice = event_of view setup old new s choose_call (choose_answer result) []

  makes : (IsHonest (view old.disk) → ShelfIsSafe view setup old s → Allowed setup true s choice choose_call) → Allowed setup false s choice choose_call
      → MakesEvent view setup choose_call (choose_answer result) old s new (ShelfStands setup new)
  makes told allowed =
      let goes = goes_read view setup old new s same only is_disk stands.stands in
      makes_by view setup old new s choose_call (choose_answer result) [] (ShelfStands setup new) only.later goes allowed told (record { stands = goes.stands; queue = goes.queued stands.queue })

  -- a read of the block in front may fail
  reads : (told : Bool) (refusal : VacateRefusal) (front : Option ℕ) → (front ≡ None → ⊥) → IsToldOfNext old refusal → (refusal ≡ vacate.Fault → Rose (view old.disk).faults (view new.disk).faults)
      → (told ≡ true → IsSound refusal) → WhereReads told (event_of view setup old new s choose_call (choose_answer (Err refusal)) []) front
  reads told refusal None some tells rose sound = absurd (some refl)
  reads false (vacate.Damaged block place) (Some front) some tells rose sound = inl (refl, refl, refl)
  reads true (vacate.Damaged block place) (Some front) some tells rose sound = absurd (sound refl)
  reads told vacate.Memory (Some front) some tells rose sound = absurd tells
  reads told vacate.Fault (Some front) some tells rose sound = inr (refl, refl, rose refl)

  may : (told : Bool) (r : Result (Option ℕ) VacateRefusal) → IfOk r (λ chosen. chosen ≡ queue_front s.book.queue) → (queue_front s.book.queue ≡ None → r ≡ Ok None) → IfErr r (IsToldOfNext old)
      → (r ≡ Err vacate.Fault → Rose (view old.disk).faults (view new.disk).faults) → (told ≡ true → IfErr r IsSound)
      → Allowed setup told s (event_of view setup old new s choose_call (choose_answer r) []) choose_call
  may told (Ok chosen) is idle tells rose sound = inl (ap block_chosen is, refl)
  may told (Err refusal) is idle tells rose sound =
      inr (reads told refusal (queue_front s.book.queue) (λ none. let clash = idle none in cc) tells (λ fault. rose (ap (λ (e : VacateRefusal). Err e) fault)) sound)

  pub makes_choice : IfOk result (λ chosen. chosen ≡ queue_front old.queue.queue) → (queue_front old.queue.queue ≡ None → result ≡ Ok None) → IfErr result (IsToldOfNext old)
      → (result ≡ Err vacate.Fault → Rose (view old.disk).faults (view new.disk).faults) → (IsHonest (view old.disk) → ImagesHold setup view old s → IfErr result IsSound)
      → MakesEvent view setup choose_call (choose_answer result) old s new (ShelfStands setup new)
  makes_choice first idle tells rose sound =
      makes (λ honest safe. may true result is none tells rose (λ told. sound honest safe.safe)) (may false result is none tells rose (λ told. absurd (false≢true told)))
    where
      fronts : queue_front old.queue.queue ≡ queue_front s.book.queue
      fronts = ap queue_front (sym stands.queue.same)

      is : IfOk result (λ chosen. chosen ≡ queue_front s.book.queue)
      is = subst (λ (o : Option ℕ). IfOk result (λ chosen. chosen ≡ o)) fronts first

      none : queue_front s.book.queue ≡ None → result ≡ Ok None
      none empty = idle (fronts ∙ empty)

-- ---- the block

front_in : (queue : List ℕ) (block : ℕ) → queue_front queue ≡ Some block → is_in queue block ≡ true
front_in [] block front = absurd (cc)
front_in (b ∷ queue) block front = let same : b ≡ block = cc in or_left (b == block) (is_in queue block) (eq-eqb b block same)

-- what a queued block is
record IsQueued (setup : Setup) (book : Book) (block : ℕ) : Type 0 where
  unbuffered : has_buffer book block ≡ false
  low : use_of book block * 100 < setup.lwm * setup.capacity

is_queued : (setup : Setup) (book : Book) (block : ℕ) → may_be_queued setup book block ≡ true → IsQueued setup book block
is_queued setup book block may =
    let two = and_parts (not (has_buffer book block) && nat_lt 0 (use_of book block)) (nat_lt (use_of book block * 100) (setup.lwm * setup.capacity)) may in
    let one = and_parts (not (has_buffer book block)) (nat_lt 0 (use_of book block)) two.0 in
    record { unbuffered = not-true (has_buffer book block) one.0; low = ltb-true (use_of book block * 100) (setup.lwm * setup.capacity) two.1 }

-- less than the mark of a block is less than 2^16 units
low_few : (n lwm capacity : ℕ) → n * 100 < lwm * capacity → lwm ≤ 99 → capacity ≤ 65278 → n < 2 ^ 16
low_few n lwm capacity low mark most =
    let first : lwm * capacity ≤ lwm * 65278 = mul-le-mul_left lwm most in
    omega (arith, low, first, mark)

-- few units are live in the front of the queue, and it has no buffer
module _ {D : Type 0} (view : D → DiskView) (setup : Setup) (shelf : ShelfView D) (s : State) (is_setup : IsSetupOf setup shelf) (stands : ShelfStands setup shelf s)
    (whole : IsShelf view shelf) where
  front_few : (block : ℕ) → block < shelf.geometry.blocks → queue_front shelf.queue.queue ≡ Some block → HasFew block s.book
  front_few block within front =
      let inside : block < setup.blocks = subst (λ (n : ℕ). block < n) (sym is_setup.shape.blocks) within in
      let queued = is_queued setup s.book block (sym (stands.queue.all block inside) ∙ front_in s.book.queue block (ap queue_front stands.queue.same ∙ front)) in
      record {
        unbuffered = queued.unbuffered;
        few = low_few (use_of s.book block) setup.lwm setup.capacity queued.low (subst (λ (n : ℕ). n ≤ 99) (sym is_setup.lwm) whole.limits.lwm)
            (subst (λ (n : ℕ). n ≤ 65278) (sym is_setup.shape.capacity) (capacity_most shelf.geometry whole.geometry));
      }

  pub chosen_few : (result : Result (Option ℕ) VacateRefusal) → IfOk result (λ chosen. chosen ≡ queue_front shelf.queue.queue)
      → IfOk result (λ chosen. IfSome chosen (λ block. block < shelf.geometry.blocks)) → IfOk result (λ chosen. IfSome chosen (λ block. HasFew block s.book))
  chosen_few (Ok None) first below = tt
  chosen_few (Ok (Some block)) first below = front_few block below (sym first)
  chosen_few (Err refusal) first below = tt
