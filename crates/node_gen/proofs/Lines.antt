-- How many lines the script has.
use Rattle.std.proofs.Common.{◌≡◌, ◌≢◌, ℕ, zero, suc, ◌+◌, ◌-◌, ◌%◌, Bool, true, false, cond, List, ◌∷◌, filter, length, refl, sym, ap, ◌∙◌, arith, length-append}
use Rattle.std.specs.Prelude.{◌==◌}
use Rattle.std.specs.Int.{div_ceil}
use Rattle.std.specs.List.{range_with_len, flat_map}
use Rattle.std.proofs.lemmas.List.{length-map}
use Rattle.std.proofs.lemmas.Bool.Decides.{nat_tests}
use Rattle.node_gen.specs.declared.step.Step.{Step}
use Rattle.node_gen.specs.declared.step.Step.TheVariants.{Put, PutAgain, Delete, Bury, Flush, Get, Quit}
use Rattle.node_gen.specs.Script.{script}
use Rattle.node_gen.proofs.Steps.{lines_are_script}
use Rattle.node_gen.specs.Places.{stride, numbers, step_line, steps_after, numbers_from, step_lines}

-- One number more is one multiple more just where it begins with one.
record Steps (k a : ℕ) : Type 0 where
  at : a % k ≡ 0 → div_ceil (suc a) k ≡ suc (div_ceil a k)
  past : a % k ≢ 0 → div_ceil (suc a) k ≡ div_ceil a k

by_stride : (step : Step) (a : ℕ) → Steps (stride step) a
by_stride Put a = record { at = λ h. omega arith; past = λ h. omega arith }
by_stride PutAgain a = record { at = λ h. omega arith; past = λ h. omega arith }
by_stride Delete a = record { at = λ h. omega arith; past = λ h. omega arith }
by_stride Bury a = record { at = λ h. omega arith; past = λ h. omega arith }
by_stride Flush a = record { at = λ h. omega arith; past = λ h. omega arith }
by_stride Get a = record { at = λ h. omega arith; past = λ h. omega arith }
by_stride Quit a = record { at = λ h. omega arith; past = λ h. omega arith }

abbrev multiples : (k from n : ℕ) → ℕ
multiples k from n = length (filter (λ i. i % k == 0) (range_with_len from n))

step_counted : (r whole rest before end next : ℕ) → whole ≡ cond (r == 0) (suc rest) rest → rest + next ≡ end → (r ≡ 0 → next ≡ suc before) → (r ≢ 0 → next ≡ before)
    → whole + before ≡ end
step_counted r whole rest before end next is sum at past = grind (arith, nat_tests)

none_of : (step : Step) → div_ceil 0 (stride step) ≡ 0
none_of Put = refl
none_of PutAgain = refl
none_of Delete = refl
none_of Bury = refl
none_of Flush = refl
none_of Get = refl
none_of Quit = refl

length-cond : (b : Bool) (x : ℕ) (xs : List ℕ) → length (cond b (x ∷ xs) xs) ≡ cond b (suc (length xs)) (length xs)
length-cond true x xs = refl
length-cond false x xs = refl

count_multiples : (k from n : ℕ) → ((a : ℕ) → Steps k a) → multiples k from n + div_ceil from k ≡ div_ceil (from + n) k
count_multiples k from zero steps =
    let same : div_ceil from k ≡ div_ceil (from + 0) k = ap (λ m. div_ceil m k) (omega arith) in omega arith
count_multiples k from (suc n) steps =
    let first = length-cond (from % k == 0) from (filter (λ i. i % k == 0) (range_with_len (from + 1) n)) in
    let rest = count_multiples k (from + 1) n steps in
    let end : div_ceil (from + 1 + n) k ≡ div_ceil (from + suc n) k = ap (λ m. div_ceil m k) (omega arith) in
    let next : div_ceil (from + 1) k ≡ div_ceil (suc from) k = ap (λ m. div_ceil m k) (omega arith) in
    step_counted (from % k) (multiples k from (suc n)) (multiples k (from + 1) n) (div_ceil from k) (div_ceil (from + suc n) k) (div_ceil (suc from) k) first (omega arith)
    (steps from).at (steps from).past

pub step_count : (step : Step) (n : ℕ) → length (step_lines step 0 n) ≡ div_ceil (numbers step n) (stride step)
step_count step n =
    let all : numbers step n - 0 ≡ numbers step n = omega arith in
    let counted = count_multiples (stride step) 0 (numbers step n) (by_stride step) in
    let from_none : div_ceil 0 (stride step) ≡ 0 = none_of step in
    let to_end : div_ceil (0 + numbers step n) (stride step) ≡ div_ceil (numbers step n) (stride step) = ap (λ m. div_ceil m (stride step)) (omega arith) in
    length-map (numbers_from step 0 n) (step_line step)
    ∙ ap (λ m. multiples (stride step) 0 m) all
    ∙ omega arith

pub all_counted : (n : ℕ) → length (step_lines Put 0 n) + length (flat_map (λ later. step_lines later 0 n) (steps_after Put)) ≡ length (script n)
all_counted n =
    sym (length-append (step_lines Put 0 n) (flat_map (λ later. step_lines later 0 n) (steps_after Put))) ∙ ap length (lines_are_script n)
