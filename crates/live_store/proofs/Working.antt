-- Work of all devices, one after another, up to the first that is refused; and that of one device, call after call.
use Rattle.std.proofs.Common.{◌≡◌, inl, inr, ℕ, zero, suc, ◌+◌, ◌-◌, ◌<◌, List, [], ◌∷◌, length, get_or, set, refl, sym, ap, subst, arith}
use Rattle.std.specs.Prelude.{Ok, Err, Some, None}
use Rattle.disk_model.specs.Disk.{DiskView}
use Rattle.model_device.specs.Events.{Cause, overload, no_space, spent, damaged, no_memory, disk_fault}
use Rattle.model_device.specs.Vacating.{Outcome, did, stopped}
use Rattle.shard_core.specs.declared.defrag.Vacated.{Vacated}
use Rattle.shard_core.specs.declared.refusals.DefragRefusal.{DefragRefusal}
use Rattle.shard_core.specs.declared.refusals.DefragCause.{DefragCause}
use Rattle.shard_core.specs.declared.refusals.DefragCause.TheVariants as why
use Rattle.shard_core.specs.declared.refusals.ExpireRefusal.{ExpireRefusal}
use Rattle.shard_core.specs.Calls.{cause_of_write}
use Rattle.shard_core.specs.Vacating.{IsCauseOf}
use Rattle.node_replies.specs.Counts.{wrapped}
use Rattle.node_replies.specs.Through.{Through}
use Rattle.node_replies.proofs.Through.{through_next, through_all}
use Rattle.live_node.specs.Opening.{Opening}
use Rattle.live_node.specs.Calls.{LiveView}
use Rattle.live_node.specs.Lives.{Live, LivePass}
use Rattle.live_node.specs.Vacates.{Defrags}
use Rattle.live_node.specs.Sweeps.{Sweeps}
use Rattle.live_store.specs.Known.{Known, known_of, known_each}
use Rattle.live_store.proofs.Known.{known_at, known_length, known_set}
use Rattle.live_store.specs.Works.{EachDevice, VacatesUpTo, SweepsFrom}

-- ---- all devices

-- one device's turn, in which its sums are taken up
abbrev pub WorkTurn : {D : Type 0} → (Work : (old new : Known D) → Outcome → Type 0) → ℕ × ℕ → (old new : Known D) → ℕ × ℕ → Type 0
WorkTurn Work a old new b = (x : ℕ) × (y : ℕ) × Work old new (did x y) × (b ≡ (wrapped a.0 x, wrapped a.1 y))

module _ {D : Type 0} (Work : (old new : Known D) → Outcome → Type 0) where
  pub worked_all : (a : ℕ × ℕ) (olds news : List (Known D)) (b : ℕ × ℕ) → Through (WorkTurn Work) (length olds) a olds news b → EachDevice Work olds news a.0 a.1 (did b.0 b.1)
  worked_all a [] news b through = (through.0, ap (λ (p : ℕ × ℕ). did p.0 p.1) through.1)
  worked_all a (o ∷ olds) [] b through = absurd through
  worked_all a (o ∷ olds) (x ∷ news) b through =
      let turn = through.1 in
      inl (turn.0, turn.1, turn.2, subst (λ (c : ℕ × ℕ). EachDevice Work olds news c.0 c.1 (did b.0 b.1)) turn.3 (worked_all through.0 olds news b through.2))

  -- the next is refused
  pub work_stops : (cause : Cause) (k : ℕ) (a : ℕ × ℕ) (olds mid : List (Known D)) (b : ℕ × ℕ) (d x : Known D) → Through (WorkTurn Work) k a olds mid b → k < length mid
      → Work (get_or mid k d) x (stopped cause) → EachDevice Work olds (set mid k x) a.0 a.1 (stopped cause)
  work_stops cause zero a [] mid b d x through there work = let none : length mid ≡ 0 = ap length through.0 in absurd (omega (arith, none))
  work_stops cause zero a (o ∷ olds) [] b d x through there work = absurd (omega arith)
  work_stops cause zero a (o ∷ olds) (m ∷ mid) b d x through there work =
      let first : m ≡ o = cc in
      let rest : mid ≡ olds = cc in
      inr (cause, subst (λ (s : Known D). Work s x (stopped cause)) first work, rest, refl)
  work_stops cause (suc k) a [] mid b d x through there work = absurd through
  work_stops cause (suc k) a (o ∷ olds) [] b d x through there work = absurd through
  work_stops cause (suc k) a (o ∷ olds) (m ∷ mid) b d x through there work =
      let turn = through.1 in
      inl (
        turn.0,
        turn.1,
        turn.2,
        subst (λ (c : ℕ × ℕ). EachDevice Work olds (set mid k x) c.0 c.1 (stopped cause)) turn.3 (work_stops cause k through.0 olds mid b d x through.2 (omega arith) work),
      )

-- ---- by lives and passes

module _ {D : Type 0} (lives : List (Live D)) (olds mid : List (LivePass D)) (k : ℕ) (live : Live D) (old : LivePass D) (there : k < length lives) (many : length mid ≡ length lives)
    (live_is : live ≡ get_or lives k live) (old_is : old ≡ get_or mid k old) where
  there_too : k < length mid
  there_too = omega (arith, there, many)

  known_here : get_or (known_each lives mid) k (known_of live old) ≡ known_of live old
  known_here = known_at lives mid k live old there there_too live_is old_is (known_of live old)

  within : k < length (known_each lives mid)
  within = let all = known_length lives mid many in omega (arith, there, all)

  -- the next device takes its turn
  pub turn_taken : {A : Type 0} (Turn : A → (old new : Known D) → A → Type 0) (a b c : A) (new : LivePass D) → Through Turn k a (known_each lives olds) (known_each lives mid) b
      → Turn b (known_of live old) (known_of live new) c → Through Turn (k + 1) a (known_each lives olds) (known_each lives (set mid k new)) c
  turn_taken {A = A} Turn a b c new through turn =
      subst (λ (l : List (Known D)). Through Turn (k + 1) a (known_each lives olds) l c) (sym (known_set lives mid k live new there live_is))
      (through_next Turn k a (known_each lives olds) (known_each lives mid) b (known_of live old) (known_of live new) c through within
      (subst (λ (s : Known D). Turn b s (known_of live new) c) (sym known_here) turn))

  -- it is refused
  pub turn_stops : (Work : (old new : Known D) → Outcome → Type 0) (a b : ℕ × ℕ) (new : LivePass D) (cause : Cause) → Through (WorkTurn Work) k a (known_each lives olds) (known_each lives mid) b
      → Work (known_of live old) (known_of live new) (stopped cause) → EachDevice Work (known_each lives olds) (known_each lives (set mid k new)) a.0 a.1 (stopped cause)
  turn_stops Work a b new cause through work =
      subst (λ (l : List (Known D)). EachDevice Work (known_each lives olds) l a.0 a.1 (stopped cause)) (sym (known_set lives mid k live new there live_is))
      (work_stops Work cause k a (known_each lives olds) (known_each lives mid) b (known_of live old) (known_of live new) through within
      (subst (λ (s : Known D). Work s (known_of live new) (stopped cause)) (sym known_here) work))

-- all took their turns
pub turns_over : {D A : Type 0} (Turn : A → (old new : Known D) → A → Type 0) (lives : List (Live D)) (olds mid : List (LivePass D)) (k : ℕ) (a b : A) → length mid ≡ length lives
    → Through Turn k a (known_each lives olds) (known_each lives mid) b → (k < length lives → ⊥) → Through Turn (length (known_each lives olds)) a (known_each lives olds) (known_each lives mid) b
turns_over Turn lives olds mid k a b many through over =
    through_all Turn k a (known_each lives olds) (known_each lives mid) b through (λ there. over (let all = known_length lives mid many in omega (arith, there, all)))

-- ---- the vacatings of one device

-- a cause of each refusal, whose numbers no reply tells
pub cause_there : (w : DefragCause) → (cause : Cause) × IsCauseOf w cause
cause_there why.Spent = (spent, refl)
cause_there why.Load = (overload 0, (0, refl))
cause_there why.Space = (no_space 0, (0, refl))
cause_there (why.Damaged damage) = (damaged, refl)
cause_there why.Memory = (no_memory, refl)
cause_there why.Fault = (disk_fault, refl)

left_one : (all done : ℕ) → done < all → all - done ≡ suc (all - (done + 1))
left_one all done there = omega (arith, there)

module _ {D : Type 0} (view : D → DiskView) (o : Opening D) (most : ℕ) (first : LiveView D) where
  -- What is done from here on completes what was done so far.
  abbrev pub VacatedSoFar : (moved vacated : ℕ) → (here : LiveView D) → Type 0
  VacatedSoFar moved vacated here = (after : LiveView D) (outcome : Outcome) → VacatesUpTo view o (most - vacated) moved vacated here after outcome → VacatesUpTo view o most 0 0 first after outcome

  pub vacated_more : (moved vacated : ℕ) (here next : LiveView D) (one : Vacated) → VacatedSoFar moved vacated here → vacated < most → Defrags view o here next (Ok (Some one))
      → VacatedSoFar (wrapped moved one.moved) (vacated + 1) next
  vacated_more moved vacated here next one so_far there did_one = λ after outcome rest.
      so_far after outcome (subst (λ (n : ℕ). VacatesUpTo view o n moved vacated here after outcome) (sym (left_one most vacated there)) (inr (inl (next, one, did_one, rest))))

  pub vacated_none : (moved vacated : ℕ) (here after : LiveView D) → VacatedSoFar moved vacated here → vacated < most → Defrags view o here after (Ok None)
      → VacatesUpTo view o most 0 0 first after (did moved vacated)
  vacated_none moved vacated here after so_far there none =
      so_far after (did moved vacated) (subst (λ (n : ℕ). VacatesUpTo view o n moved vacated here after (did moved vacated)) (sym (left_one most vacated there)) (inl (none, refl)))

  pub vacated_stop : (moved vacated : ℕ) (here after : LiveView D) (refusal : DefragRefusal) (cause : Cause) → VacatedSoFar moved vacated here → vacated < most
      → Defrags view o here after (Err refusal) → IsCauseOf refusal.cause cause → VacatesUpTo view o most 0 0 first after (stopped cause)
  vacated_stop moved vacated here after refusal cause so_far there stop is =
      so_far after (stopped cause)
      (subst (λ (n : ℕ). VacatesUpTo view o n moved vacated here after (stopped cause)) (sym (left_one most vacated there)) (inr (inr (refusal, cause, stop, is, refl))))

  pub vacated_all : (moved vacated : ℕ) (here : LiveView D) → VacatedSoFar moved vacated here → most - vacated ≡ 0 → VacatesUpTo view o most 0 0 first here (did moved vacated)
  vacated_all moved vacated here so_far over =
      so_far here (did moved vacated) (subst (λ (n : ℕ). VacatesUpTo view o n moved vacated here here (did moved vacated)) (sym over) (refl, refl))

-- ---- the sweeps of one device

module _ {D : Type 0} (view : D → DiskView) (o : Opening D) (now count : ℕ) (first : LiveView D) where
  abbrev pub SweptSoFar : (part removed : ℕ) → (here : LiveView D) → Type 0
  SweptSoFar part removed here = (after : LiveView D) (outcome : Outcome) → SweepsFrom view o now (count - part) part removed here after outcome → SweepsFrom view o now count 0 0 first after outcome

  pub swept_more : (part removed : ℕ) (here next : LiveView D) (gone : ℕ) → SweptSoFar part removed here → part < count → Sweeps view o here next part now (Ok gone)
      → SweptSoFar (part + 1) (wrapped removed gone) next
  swept_more part removed here next gone so_far there one = λ after outcome rest.
      so_far after outcome (subst (λ (n : ℕ). SweepsFrom view o now n part removed here after outcome) (sym (left_one count part there)) (inl (next, gone, one, rest)))

  pub swept_stop : (part removed : ℕ) (here after : LiveView D) (refusal : ExpireRefusal) → SweptSoFar part removed here → part < count → Sweeps view o here after part now (Err refusal)
      → SweepsFrom view o now count 0 0 first after (stopped (cause_of_write refusal.cause))
  swept_stop part removed here after refusal so_far there stop =
      so_far after (stopped (cause_of_write refusal.cause))
      (subst (λ (n : ℕ). SweepsFrom view o now n part removed here after (stopped (cause_of_write refusal.cause))) (sym (left_one count part there)) (inr (refusal, stop, refl)))

  pub swept_all : (part removed : ℕ) (here : LiveView D) → SweptSoFar part removed here → count - part ≡ 0 → SweepsFrom view o now count 0 0 first here (did removed 0)
  swept_all part removed here so_far over =
      so_far here (did removed 0) (subst (λ (n : ℕ). SweepsFrom view o now n part removed here here (did removed 0)) (sym over) (refl, refl))
