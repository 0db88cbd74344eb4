-- What holds within a part of a list holds of all of that part.
use Rattle.std.proofs.Common.{ℕ, ◌+◌, ◌<◌, ◌≤◌, List, length, take, drop, sym, subst, arith}
use Rattle.std.specs.List.{All, AllWithin}
use Rattle.std.proofs.lemmas.List.{length-take, length-drop, get_or-take, get_or-drop}

pub All-front : {X : Type 0} (P : X → Type 0) (xs : List X) (i : ℕ) → i ≤ length xs → AllWithin P xs 0 i → All P (take i xs)
All-front P xs i bound within k d lt =
    let below : k < i = omega (arith, length-take i xs) in
    subst P (sym (get_or-take i xs k d below)) (within k d (omega arith) below)

pub All-rest : {X : Type 0} (P : X → Type 0) (xs : List X) (i : ℕ) → AllWithin P xs i (length xs) → All P (drop i xs)
All-rest P xs i within k d lt = subst P (sym (get_or-drop i xs k d)) (within (i + k) d (omega arith) (omega (arith, length-drop i xs)))
