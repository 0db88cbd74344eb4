-- A list of words falls into options and names in one way.
use Rattle.std.proofs.Common.{◌≡◌, true, List, [], ◌∷◌, ◌++◌, refl, inl, inr, rules}
use Rattle.std.specs.Prelude.{flat_map, Contains}
use Rattle.std.specs.List.{AllByRecursion}
use Rattle.std.proofs.lemmas.Bool.{ne_eqb, cases_Bool}
use Rattle.std.proofs.lemmas.List.Elements.{All-from_recursion, All-contains}
use Rattle.node_words.specs.declared.job.Job.{Job}
use Rattle.node_words.specs.declared.job.Job.TheVariants.{Check, Audit}
use Rattle.node_words.specs.Options.{split, is_dashed}
use Rattle.node_words.specs.Words.{Text, Pair, IsName, names_in, rows_of}

-- the words that options with their values stand for
abbrev pub flat : List Pair → List Text
flat pairs = flat_map (λ pair. pair.0 ∷ pair.1 ∷ []) pairs

split_names : (names : List Text) → AllByRecursion IsName names → split names ≡ ([], names)
split_names [] all = refl
split_names (name ∷ []) all = refl
split_names ([] ∷ other ∷ names) all = absurd all.0
split_names ((byte ∷ bytes) ∷ other ∷ names) all = rw (ne_eqb byte 45 all.0) refl

-- each option has a dash in front
abbrev pub Dashed : List Pair → Type 0
Dashed pairs = AllByRecursion (λ pair. is_dashed pair.0 ≡ true) pairs

pub split_flat : (pairs : List Pair) (names : List Text) → Dashed pairs → AllByRecursion IsName names → split (flat pairs ++ names) ≡ (pairs, names)
split_flat [] names dashed all = split_names names all
split_flat (pair ∷ pairs) names dashed all =
    let rest = split_flat pairs names dashed.1 all in
    rw dashed.0 (λ i. (pair ∷ (rest i).0, (rest i).1))

pub rejoin : (words : List Text) → words ≡ flat (split words).0 ++ (split words).1
rejoin [] = refl
rejoin (word ∷ []) = refl
rejoin (option ∷ value ∷ words) = elim (cases_Bool (is_dashed option)) [
  | inl is ↦ rw is (λ i. option ∷ value ∷ rejoin words i)
  | inr isnt ↦ rw isnt refl
]

dashed_names : (job : Job) → AllByRecursion (λ name. is_dashed name ≡ true) (names_in (rows_of job))
dashed_names Check = tt
dashed_names Audit = tt
dashed_names _ = search rules

-- the options of a job have a dash in front
pub dashed : (job : Job) (pairs : List Pair) → AllByRecursion (λ pair. Contains (names_in (rows_of job)) pair.0) pairs → Dashed pairs
dashed job [] known = tt
dashed job (pair ∷ pairs) known =
    let all = All-from_recursion (λ name. is_dashed name ≡ true) (names_in (rows_of job)) (dashed_names job) in
    (All-contains (λ name. is_dashed name ≡ true) (names_in (rows_of job)) pair.0 all known.0, dashed job pairs known.1)
