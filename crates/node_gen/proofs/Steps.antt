-- The lines of a step, one after another, and the steps from the first on.
use Rattle.std.proofs.Common.{◌≡◌, ◌≢◌, ℕ, suc, ◌+◌, ◌-◌, ◌%◌, ◌<◌, ◌≤◌, Bool, true, false, cond, List, [], ◌∷◌, ◌++◌, map, filter, refl, sym, ap, ◌∙◌, arith, append_assoc}
use Rattle.std.specs.Prelude.{◌==◌, codes}
use Rattle.std.specs.List.{range_with_len, flat_map}
use Rattle.std.proofs.lemmas.Bool.Decides.{nat_tests}
use Rattle.node_gen.specs.declared.step.Step.{Step}
use Rattle.node_gen.specs.declared.step.Step.TheVariants.{Put}
use Rattle.node_gen.specs.Script.{digest_line, put_line, all_of, divisible_by, script}
use Rattle.node_gen.specs.Places.{stride, numbers, step_line, steps_after, numbers_from, step_lines, lines_from}

range_step : (from limit : ℕ) → from < limit → range_with_len from (limit - from) ≡ from ∷ range_with_len (from + 1) (limit - (from + 1))
range_step from limit below =
    let one_more : limit - from ≡ suc (limit - (from + 1)) = omega arith in ap (range_with_len from) one_more

-- a number that has a line is the first of the step's
pub number_found : (step : Step) (from n : ℕ) → from < numbers step n → from % stride step ≡ 0 → numbers_from step from n ≡ from ∷ numbers_from step (from + 1) n
number_found step from n below divides =
    let test : (from % stride step == 0) ≡ true = grind (arith, nat_tests) in
    ap (filter (λ i. i % stride step == 0)) (range_step from (numbers step n) below)
    ∙ ap (λ b. cond b (from ∷ numbers_from step (from + 1) n) (numbers_from step (from + 1) n)) test

-- one that has none is passed over
pub number_passed : (step : Step) (from n : ℕ) → from < numbers step n → from % stride step ≢ 0 → numbers_from step from n ≡ numbers_from step (from + 1) n
number_passed step from n below rest =
    let test : (from % stride step == 0) ≡ false = grind (arith, nat_tests) in
    ap (filter (λ i. i % stride step == 0)) (range_step from (numbers step n) below)
    ∙ ap (λ b. cond b (from ∷ numbers_from step (from + 1) n) (numbers_from step (from + 1) n)) test

pub no_number : (step : Step) (from n : ℕ) → numbers step n ≤ from → numbers_from step from n ≡ []
no_number step from n over =
    let none : numbers step n - from ≡ 0 = omega arith in ap (λ k. filter (λ i. i % stride step == 0) (range_with_len from k)) none

-- the line of a number that was found is the first of the lines
pub line_found : (step : Step) (from n i : ℕ) → numbers_from step from n ≡ i ∷ numbers_from step (i + 1) n → lines_from step from n ≡ step_line step i ∷ lines_from step (i + 1) n
line_found step from n i found = ap (λ (l : List ℕ). map (step_line step) l ++ flat_map (λ later. step_lines later 0 n) (steps_after step)) found

-- a step with no line left is passed over
pub step_passed : (step next : Step) (from n : ℕ) → numbers_from step from n ≡ [] → steps_after step ≡ next ∷ steps_after next → lines_from step from n ≡ lines_from next 0 n
step_passed step next from n none after =
    λ i. map (step_line step) (none i) ++ flat_map (λ later. step_lines later 0 n) (after i)

pub no_line : (step : Step) (from n : ℕ) → numbers_from step from n ≡ [] → steps_after step ≡ [] → lines_from step from n ≡ []
no_line step from n none after = λ i. map (step_line step) (none i) ++ flat_map (λ later. step_lines later 0 n) (after i)

all_pass : (p : ℕ → Bool) (xs : List ℕ) → ((x : ℕ) → p x ≡ true) → filter p xs ≡ xs
all_pass p [] all = refl
all_pass p (x ∷ xs) all = (λ i. cond (all x i) (x ∷ filter p xs) (filter p xs)) ∙ ap (λ (l : List ℕ). x ∷ l) (all_pass p xs all)

by_one : (x : ℕ) → (x % 1 == 0) ≡ true
by_one x = let none : x % 1 ≡ 0 = omega arith in ap (λ k. k == 0) none

-- where each number has a line, it goes over all
each_number : (n : ℕ) → filter (λ i. i % 1 == 0) (range_with_len 0 (n - 0)) ≡ all_of n
each_number n =
    let all : n - 0 ≡ n = omega arith in
    all_pass (λ i. i % 1 == 0) (range_with_len 0 (n - 0)) by_one ∙ ap (range_with_len 0) all

some_numbers : (k n : ℕ) → filter (λ i. i % k == 0) (range_with_len 0 (n - 0)) ≡ divisible_by k n
some_numbers k n = let all : n - 0 ≡ n = omega arith in ap (λ m. filter (λ i. i % k == 0) (range_with_len 0 m)) all

-- the lines from the first place on are the script
pub lines_are_script : (n : ℕ) → lines_from Put 0 n ≡ script n
lines_are_script n =
    (λ i.
    map (λ x. put_line x x) (each_number n i)
    ++ (map (λ x. put_line x (x + 1)) (some_numbers 2 n i)
    ++ (map (digest_line (codes "del")) (some_numbers 5 n i)
    ++ (map (digest_line (codes "bury")) (some_numbers 7 n i)
    ++ (codes "flush" ∷ (map (digest_line (codes "get")) (each_number n i)
    ++ (codes "quit" ∷ [])))))))
    ∙ sym (simp append_assoc)
