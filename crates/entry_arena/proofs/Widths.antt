-- How wide the stages are, and at which slot each begins.
use Rattle.std.proofs.Common.{◌≡◌, ℕ, zero, suc, ◌+◌, ◌-◌, ◌*◌, ◌/◌, ◌%◌, ◌^◌, ◌<◌, ◌≤◌, refl, ap, sym, ◌∙◌, arith, pow_mono, pow-add, pow-suc, lt_of_not-le, ⊎_elim}
use Rattle.std.proofs.lemmas.Bool.{cases_lt}
use Rattle.entry_arena.specs.State.{width_after}
use Rattle.entry_arena.specs.Stages.{width_of, first_of, IsAt}

pub width_early : (stage : ℕ) → stage < 10 → width_of stage ≡ 4 * 2 ^ stage
width_early stage lt = let le : stage ≤ 9 = omega arith in let p : 2 ^ stage ≤ 512 = pow_mono le in omega arith

pub width_late : (stage : ℕ) → 10 ≤ stage → width_of stage ≡ 4096
width_late stage le = let p : 1024 ≤ 2 ^ stage = pow_mono le in omega arith

pub first_early : (stage : ℕ) → stage ≤ 10 → first_of stage + 4 ≡ 4 * 2 ^ stage
first_early zero le = refl
first_early (suc stage) le =
    let before = first_early stage (omega arith) in
    let width = width_early stage (omega arith) in
    let power : 2 ^ suc stage ≡ 2 ^ stage * 2 = pow-suc 2 stage in
    omega arith

pub first_late : (more at : ℕ) → at ≡ more + 10 → first_of at ≡ 4092 + 4096 * more
first_late zero at e = ap first_of e
first_late (suc more) at e =
    let next : at ≡ suc (more + 10) = omega arith in
    let first : first_of at ≡ first_of (more + 10) + width_of (more + 10) = ap first_of next in
    let before = first_late more (more + 10) refl in
    let width = width_late (more + 10) (omega arith) in
    omega arith

pub first_mono : (stage more at : ℕ) → at ≡ stage + more → first_of stage ≤ first_of at
first_mono stage zero at e = let same : at ≡ stage = omega arith in let first : first_of at ≡ first_of stage = ap first_of same in omega arith
first_mono stage (suc more) at e =
    let next : at ≡ suc (stage + more) = omega arith in
    let first : first_of at ≡ first_of (stage + more) + width_of (stage + more) = ap first_of next in
    let before = first_mono stage more (stage + more) refl in
    omega arith

-- where a slot before stage 10 is: top is the greatest power of two in its number and 4
pub at_early : (slot top : ℕ) → slot + 4 < 4096 → 2 ^ top ≤ slot + 4 → slot + 4 < 2 * 2 ^ top → (2 ≤ top) × IsAt slot (top - 2) (slot + 4 - 2 ^ top)
at_early slot top few low high =
    let above : 2 ≤ top = lt_of_not-le (λ (le : top ≤ 1). let p : 2 ^ top ≤ 2 = pow_mono le in omega arith) in
    let below : top < 12 = lt_of_not-le (λ (le : 12 ≤ top). let p : 4096 ≤ 2 ^ top = pow_mono le in omega arith) in
    let whole : 2 + (top - 2) ≡ top = omega arith in
    let power : 4 * 2 ^ (top - 2) ≡ 2 ^ top = sym (pow-add 2 2 (top - 2)) ∙ ap (λ (k : ℕ). 2 ^ k) whole in
    let first = first_early (top - 2) (omega arith) in
    let width = width_early (top - 2) (omega arith) in
    (above, record { within = omega arith; there = omega arith })

pub at_late : (slot stage place : ℕ) → 4096 ≤ slot + 4 → stage ≡ (slot + 4) / 4096 + 9 → place ≡ (slot + 4) % 4096 → IsAt slot stage place
at_late slot stage place many is rest =
    let more : ℕ = stage - 10 in
    let first = first_late more stage (omega arith) in
    let width = width_late stage (omega arith) in
    record { within = omega arith; there = omega arith }

-- the width of a stage by the number of slots before it
pub width_by_first : (stage : ℕ) → width_of stage ≡ width_after (first_of stage)
width_by_first stage = ⊎_elim
    (λ (early : stage < 10). let first = first_early stage (omega arith) in let width = width_early stage early in
    let few : 2 ^ stage ≤ 512 = pow_mono (let le : stage ≤ 9 = omega arith in le) in omega arith)
    (λ (late : 10 ≤ stage). let mono = first_mono 10 (stage - 10) stage (omega arith) in let width = width_late stage late in omega arith)
    (cases_lt stage 10)
