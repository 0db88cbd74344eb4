-- Removals one behind another: those of more entries, and what each of their events is.
use Rattle.std.proofs.Common.{◌≡◌, ℕ, ◌+◌, List, [], ◌∷◌, ◌++◌, sym, ap, subst, arith}
use Rattle.std.specs.List.{AllByRecursion}
use Rattle.rec_format.specs.declared.version.Digest.{Digest}
use Rattle.model_device.specs.Events.{Event, expire_call, Cause, Answer, stamp_given, happened, found_version, counted, block_chosen, raid_numbered, marks_made}
use Rattle.model_device.specs.Events.{block_scanned, marks_undone, part_ended, raid_over, refused}
use Rattle.model_device.specs.Vacating.{Outcome, did, stopped, IfRefused}
use Rattle.model_device.specs.Expiring.{ExpiresEach}

pub if_refused : (answer : Answer) (Refused : Cause → Type 0) (Else P : Type 0) → ((cause : Cause) → Refused cause → P) → (Else → P) → IfRefused answer Refused Else → P
if_refused (refused cause) Refused Else P one other is = one cause is
if_refused (stamp_given s) Refused Else P one other is = other is
if_refused (happened b) Refused Else P one other is = other is
if_refused (found_version v) Refused Else P one other is = other is
if_refused (counted n) Refused Else P one other is = other is
if_refused (block_chosen b) Refused Else P one other is = other is
if_refused (raid_numbered n) Refused Else P one other is = other is
if_refused (marks_made n) Refused Else P one other is = other is
if_refused (block_scanned b) Refused Else P one other is = other is
if_refused (marks_undone n) Refused Else P one other is = other is
if_refused (part_ended r c) Refused Else P one other is = other is
if_refused raid_over Refused Else P one other is = other is

refused_so : (answer : Answer) (R S : Cause → Type 0) (E F : Type 0) → ((cause : Cause) → R cause → S cause) → (E → F) → IfRefused answer R E → IfRefused answer S F
refused_so (refused cause) R S E F one other is = one cause is
refused_so (stamp_given s) R S E F one other is = other is
refused_so (happened b) R S E F one other is = other is
refused_so (found_version v) R S E F one other is = other is
refused_so (counted n) R S E F one other is = other is
refused_so (block_chosen b) R S E F one other is = other is
refused_so (raid_numbered n) R S E F one other is = other is
refused_so (marks_made n) R S E F one other is = other is
refused_so (block_scanned b) R S E F one other is = other is
refused_so (marks_undone n) R S E F one other is = other is
refused_so (part_ended r c) R S E F one other is = other is
refused_so raid_over R S E F one other is = other is

-- ---- more entries

module _ (now : ℕ) where
  -- some were removed, and then others
  pub then_others : (xs ys : List Digest) (a n m : ℕ) (es fs : List Event) (outcome : Outcome) → ExpiresEach now xs a es (did n m) → ExpiresEach now ys n fs outcome
      → ExpiresEach now (xs ++ ys) a (es ++ fs) outcome
  then_others [] ys a n m es fs outcome first then =
      let same : n ≡ a = cc in
      subst (λ (l : List Event). ExpiresEach now ys a (l ++ fs) outcome) (sym first.0) (subst (λ (k : ℕ). ExpiresEach now ys k fs outcome) same then)
  then_others (x ∷ xs) ys a n m es fs outcome (event, rest, is, call, how) then = (
    event,
    rest ++ fs,
    ap (λ (l : List Event). l ++ fs) is,
    call,
    refused_so event.answer (λ cause. (rest ≡ []) × (did n m ≡ stopped cause)) (λ cause. (rest ++ fs ≡ []) × (outcome ≡ stopped cause)) (ExpiresEach now xs (a + 1) rest (did n m))
        (ExpiresEach now (xs ++ ys) (a + 1) (rest ++ fs) outcome)
        (λ cause ends. let never : did n m ≡ stopped cause = ends.1 in absurd cc) (λ more. then_others xs ys (a + 1) n m rest fs outcome more then) how,
  )

  -- one was refused, and the others weren't come to
  pub not_come_to : (xs ys : List Digest) (a : ℕ) (es : List Event) (cause : Cause) → ExpiresEach now xs a es (stopped cause) → ExpiresEach now (xs ++ ys) a es (stopped cause)
  not_come_to [] ys a es cause ends = let never : stopped cause ≡ did a 0 = ends.1 in absurd cc
  not_come_to (x ∷ xs) ys a es cause (event, rest, is, call, how) = (
    event,
    rest,
    is,
    call,
    refused_so event.answer (λ why. (rest ≡ []) × (stopped cause ≡ stopped why)) (λ why. (rest ≡ []) × (stopped cause ≡ stopped why)) (ExpiresEach now xs (a + 1) rest (stopped cause))
        (ExpiresEach now (xs ++ ys) (a + 1) rest (stopped cause))
        (λ why ends. ends) (λ more. not_come_to xs ys (a + 1) rest cause more) how,
  )

  -- with more removed before
  abbrev pub counted_on : ℕ → Outcome → Outcome
  counted_on k (did n m) = did (k + n) m
  counted_on k (stopped cause) = stopped cause

  pub behind : (k : ℕ) (xs : List Digest) (a : ℕ) (es : List Event) (outcome : Outcome) → ExpiresEach now xs a es outcome → ExpiresEach now xs (k + a) es (counted_on k outcome)
  behind k [] a es outcome none = (none.0, ap (counted_on k) none.1)
  behind k (x ∷ xs) a es outcome (event, rest, is, call, how) = (
    event,
    rest,
    is,
    call,
    refused_so event.answer (λ cause. (rest ≡ []) × (outcome ≡ stopped cause)) (λ cause. (rest ≡ []) × (counted_on k outcome ≡ stopped cause)) (ExpiresEach now xs (a + 1) rest outcome)
        (ExpiresEach now xs (k + a + 1) rest (counted_on k outcome))
        (λ cause ends. (ends.0, ap (counted_on k) ends.1))
        (λ more. let next : k + (a + 1) ≡ k + a + 1 = omega arith in subst (λ (n : ℕ). ExpiresEach now xs n rest (counted_on k outcome)) next (behind k xs (a + 1) rest outcome more)) how,
  )

  -- ---- the events

  -- each removes the entry of one of the digests
  pub calls_are : (P : Digest → Type 0) (ds : List Digest) (a : ℕ) (es : List Event) (outcome : Outcome) → AllByRecursion P ds → ExpiresEach now ds a es outcome
      → AllByRecursion (λ e. (d : Digest) × (e.call ≡ expire_call d now) × P d) es
  calls_are P [] a es outcome all none = subst (AllByRecursion (λ e. (d : Digest) × (e.call ≡ expire_call d now) × P d)) (sym none.0) tt
  calls_are P (x ∷ xs) a es outcome all (event, rest, is, call, how) =
      subst (AllByRecursion (λ e. (d : Digest) × (e.call ≡ expire_call d now) × P d)) (sym is) (
        (x, call, all.0),
        if_refused event.answer (λ cause. (rest ≡ []) × (outcome ≡ stopped cause)) (ExpiresEach now xs (a + 1) rest outcome)
            (AllByRecursion (λ e. (d : Digest) × (e.call ≡ expire_call d now) × P d) rest)
            (λ cause ends. subst (AllByRecursion (λ e. (d : Digest) × (e.call ≡ expire_call d now) × P d)) (sym ends.0) tt) (λ more. calls_are P xs (a + 1) rest outcome all.1 more) how,
      )

-- an entry was removed, at whatever time
abbrev pub HasRemoved : Event → Type 0
HasRemoved event = ((digest : Digest) × (now : ℕ) × (event.call ≡ expire_call digest now)) × IfRefused event.answer (λ cause. ⊥) (Unit {0})

-- and where none is refused each has removed one
pub all_removed : (now : ℕ) (ds : List Digest) (a n m : ℕ) (es : List Event) → ExpiresEach now ds a es (did n m) → AllByRecursion HasRemoved es
all_removed now [] a n m es none = subst (AllByRecursion HasRemoved) (sym none.0) tt
all_removed now (x ∷ xs) a n m es (event, rest, is, call, how) =
    subst (AllByRecursion HasRemoved) (sym is) (
      (
        (x, now, call),
        refused_so event.answer (λ cause. (rest ≡ []) × (did n m ≡ stopped cause)) (λ cause. ⊥) (ExpiresEach now xs (a + 1) rest (did n m)) (Unit {0})
            (λ cause ends. let never : did n m ≡ stopped cause = ends.1 in absurd cc) (λ more. tt) how,
      ),
      if_refused event.answer (λ cause. (rest ≡ []) × (did n m ≡ stopped cause)) (ExpiresEach now xs (a + 1) rest (did n m)) (AllByRecursion HasRemoved rest)
          (λ cause ends. let never : did n m ≡ stopped cause = ends.1 in absurd cc) (λ more. all_removed now xs (a + 1) n m rest more) how,
    )
