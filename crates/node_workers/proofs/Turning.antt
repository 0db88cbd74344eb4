-- One turn more, and what turns keep.
use Rattle.std.proofs.Common.{◌≡◌, refl, sym, subst, ℕ, ◌+◌, ◌-◌, ◌^◌, min, length, Bool, true, List, [], ◌∷◌, ◌++◌, arith, length-append}
use Rattle.node_workers.specs.Turns.{Times, TakesTurn, GoesOn, Works, is_idle}
use Rattle.node_workers.specs.declared.chore.Did.{Did}

-- turns and one behind them
goes_on_once_more : {T : Type 0} (turns : T → ℕ → Did → T → Type 0) (tells : Bool → Bool → Type 0) (dids : List Did)
    (old : T) (times : Times) (mid : T) (then : Times) (did : Did) (new : T) (later : Times)
    → GoesOn turns tells dids old times mid then → TakesTurn turns mid then did new later → tells (is_idle did) true
    → GoesOn turns tells (dids ++ did ∷ []) old times new later
goes_on_once_more turns tells [] old times mid then did new later (m, t) turn told =
    (new, later, subst (λ c. TakesTurn turns c times did new later) m (subst (λ c. TakesTurn turns mid c did new later) t turn), told, (refl, refl))
goes_on_once_more turns tells (d ∷ dids) old times mid then did new later (next, at, first, go, rest) turn told =
    (next, at, first, go, goes_on_once_more turns tells dids next at mid then did new later rest turn told)

-- So many turns were taken, counted up to the last value of a counter, and behind each the worker was told to go on.
abbrev pub HasTaken : {T : Type 0} → (T → ℕ → Did → T → Type 0) → (Bool → Bool → Type 0) → ℕ → T → Times → T → Times → Type 0
HasTaken turns tells count old times new later =
    (dids : List Did) × (count ≡ min (length dids) (2 ^ 64 - 1)) × GoesOn turns tells dids old times new later

-- and one more
pub has_taken_more : {T : Type 0} (turns : T → ℕ → Did → T → Type 0) (tells : Bool → Bool → Type 0) (count : ℕ)
    (old : T) (times : Times) (mid : T) (then : Times) (did : Did) (new : T) (later : Times) (more : ℕ)
    → HasTaken turns tells count old times mid then → TakesTurn turns mid then did new later
    → (idle goes_on : Bool) → tells idle goes_on → idle ≡ is_idle did → goes_on ≡ true
    → more ≡ min (count + 1) (2 ^ 64 - 1) → HasTaken turns tells more old times new later
has_taken_more turns tells count old times mid then did new later more (dids, counted, so_far) turn idle goes_on told is_idle_so goes is_more = (
  dids ++ did ∷ [],
  (let e = length-append dids (did ∷ []) in omega arith),
  goes_on_once_more turns tells dids old times mid then did new later so_far turn
      (subst (λ b. tells (is_idle did) b) goes (subst (λ b. tells b goes_on) is_idle_so told)),
)

module _ {T : Type 0} (turns : T → ℕ → Did → T → Type 0) (tells : Bool → Bool → Type 0) (Q : T → Type 0)
    (on_turn : (old : T) (now : ℕ) (did : Did) (new : T) → turns old now did new → Q old → Q new) where
  turn_keeps : (old : T) (times : Times) (did : Did) (new : T) (later : Times) → TakesTurn turns old times did new later → Q old → Q new
  turn_keeps old times did new later turn q = on_turn old _ did new turn.turned q

  turns_keep : (dids : List Did) (old : T) (times : Times) (new : T) (later : Times) → GoesOn turns tells dids old times new later → Q old → Q new
  turns_keep [] old times new later (same, same_times) q = subst Q (sym same) q
  turns_keep (did ∷ dids) old times new later (mid, then, turn, goes, rest) q = turns_keep dids mid then new later rest (turn_keeps old times did mid then turn q)

  -- What each turn of a chore keeps, a worker keeps.
  pub works_keep : (count : ℕ) (old : T) (times : Times) (new : T) (later : Times) → Works turns tells count old times new later → Q old → Q new
  works_keep count old times new later works q =
      turn_keeps works.mid works.then works.last new later works.turned (turns_keep works.dids old times works.mid works.then works.went_on q)
