-- Each option was asked for once: none is left exactly where each was one of those asked for, and given once.
use Rattle.std.proofs.Common.{◌≡◌, ◌≢◌, ℕ, ◌+◌, ◌-◌, ◌≤◌, Bool, true, false, cond, List, [], ◌∷◌, length, map, Option, Some, None, refl, sym, ◌∙◌, ap, subst, inl, inr, arith}
use Rattle.std.specs.Prelude.{Contains, bytes_eq}
use Rattle.std.specs.List.{AllByRecursion}
use Rattle.std.proofs.lemmas.Bool.{cases_Bool, true≢false}
use Rattle.std.proofs.lemmas.List.Elements.{All-from_recursion, All-contains, Contains-get_or, Contains-append_right}
use Rattle.std.proofs.lemmas.Slice.Eq.{bytes_eq-Decides}
use Rattle.node_words.specs.Options.{Offer, one_if, asked, asked_all}
use Rattle.node_words.specs.Words.{Text, Pair, given, AllDiffer}

-- a text is among texts
abbrev pub among : Text → List Text → Bool
among name [] = false
among name (other ∷ names) = cond (bytes_eq name other) true (among name names)

-- each text differs from the later ones
abbrev pub distinct : List Text → Bool
distinct [] = true
distinct (name ∷ names) = cond (among name names) false (distinct names)

-- how many of them were given
abbrev pub count : List Text → List Pair → ℕ
count [] pairs = 0
count (name ∷ names) pairs = one_if (given name pairs) + count names pairs

pub unread_after : (names : List Text) (offer : Offer) → (asked_all offer names).unread ≡ offer.unread - count names offer.pairs
unread_after [] offer = omega arith
unread_after (name ∷ names) offer = let rest = unread_after names (asked offer name) in omega arith

at_most_one : (o : Option Text) → one_if o ≤ 1
at_most_one None = omega arith
at_most_one (Some text) = omega arith

-- the first of two lists that end alike
none_among : (name : Text) (names : List Text) → distinct (name ∷ names) ≡ true → among name names ≡ false
none_among name names d = elim (cases_Bool (among name names)) [
  | inl is ↦ let wrong : false ≡ true = rw is at d in absurd (true≢false (sym wrong))
  | inr isnt ↦ isnt
]

rest_distinct : (name : Text) (names : List Text) → distinct (name ∷ names) ≡ true → distinct names ≡ true
rest_distinct name names d = let no = none_among name names d in rw no at d

-- one pair more is one more that is found, where its name is among them and wasn't found yet
pub count_step : (pair : Pair) (pairs : List Pair) (names : List Text) → distinct names ≡ true
    → count names (pair ∷ pairs) ≡ count names pairs + cond (among pair.0 names) (1 - one_if (given pair.0 pairs)) 0
count_step pair pairs [] d = omega arith
count_step pair pairs (name ∷ names) d =
    let rest = count_step pair pairs names (rest_distinct name names d) in
    let few = at_most_one (given name pairs) in
    elim (cases_Bool (bytes_eq pair.0 name)) [
      | inl is ↦
          let same : pair.0 ≡ name = (bytes_eq-Decides pair.0 name).0 is in
          let isnt : among pair.0 names ≡ false = rw same (none_among name names d) in
          let others : count names (pair ∷ pairs) ≡ count names pairs + 0 = rest ∙ ap (λ (b : Bool). count names pairs + cond b (1 - one_if (given pair.0 pairs)) 0) isnt in
          let found : one_if (given name (pair ∷ pairs)) ≡ 1 = rw is refl in
          let moved : one_if (given pair.0 pairs) ≡ one_if (given name pairs) = ap (λ (x : Text). one_if (given x pairs)) same in
          let more : cond (among pair.0 (name ∷ names)) (1 - one_if (given pair.0 pairs)) 0 ≡ 1 - one_if (given pair.0 pairs) = rw is refl in
          omega arith
      | inr isnt ↦ rw isnt (omega arith)
    ]

-- ---- texts that are among others, and options that weren't given

not_among : (name : Text) (names : List Text) → among name names ≡ false → AllByRecursion (λ other. name ≢ other) names
not_among name [] none = tt
not_among name (other ∷ names) none = elim (cases_Bool (bytes_eq name other)) [
  | inl is ↦ let wrong : true ≡ false = rw is at none in absurd (true≢false wrong)
  | inr isnt ↦
      let rest : among name names ≡ false = rw isnt at none in
      (λ same. true≢false (sym ((bytes_eq-Decides name other).1 same) ∙ isnt), not_among name names rest)
]

among_contains : (name : Text) (names : List Text) → among name names ≡ true → Contains names name
among_contains name [] wrong = absurd (true≢false (sym wrong))
among_contains name (other ∷ names) found = elim (cases_Bool (bytes_eq name other)) [
  | inl is ↦
      subst (λ (x : Text). Contains (other ∷ names) x) (sym ((bytes_eq-Decides name other).0 is)) (Contains-get_or (other ∷ names) 0 [] (omega arith))
  | inr isnt ↦
      let rest : among name names ≡ true = rw isnt at found in
      Contains-append_right (other ∷ []) names name (among_contains name names rest)
]

contains_among : (name : Text) (names : List Text) → Contains names name → among name names ≡ true
contains_among name names contains = elim (cases_Bool (among name names)) [
  | inl is ↦ is
  | inr isnt ↦
      let all = All-from_recursion (λ other. name ≢ other) names (not_among name names isnt) in
      absurd (All-contains (λ other. name ≢ other) names name all contains refl)
]

not_given : (name : Text) (pairs : List Pair) → one_if (given name pairs) ≡ 0 → AllByRecursion (λ other. name ≢ other) (map (λ pair. pair.0) pairs)
not_given name [] none = tt
not_given name (pair ∷ pairs) none = elim (cases_Bool (bytes_eq pair.0 name)) [
  | inl is ↦ let found : one_if (given name (pair ∷ pairs)) ≡ 1 = rw is refl in absurd (omega arith)
  | inr isnt ↦
      let rest : one_if (given name pairs) ≡ 0 = rw isnt at none in
      (λ same. true≢false (sym ((bytes_eq-Decides pair.0 name).1 (sym same)) ∙ isnt), not_given name pairs rest)
]

given_none : (name : Text) (pairs : List Pair) → AllByRecursion (λ other. name ≢ other) (map (λ pair. pair.0) pairs) → one_if (given name pairs) ≡ 0
given_none name [] all = refl
given_none name (pair ∷ pairs) all = elim (cases_Bool (bytes_eq pair.0 name)) [
  | inl is ↦ absurd (all.0 (sym ((bytes_eq-Decides pair.0 name).0 is)))
  | inr isnt ↦ rw isnt (given_none name pairs all.1)
]

-- ---- all pairs

count_none : (names : List Text) → count names [] ≡ 0
count_none [] = refl
count_none (name ∷ names) = let rest = count_none names in omega arith

not_more : (names : List Text) → distinct names ≡ true → (pairs : List Pair) → count names pairs ≤ length pairs
not_more names d [] = let none = count_none names in omega arith
not_more names d (pair ∷ pairs) =
    let rest = not_more names d pairs in
    let step = count_step pair pairs names d in
    elim (cases_Bool (among pair.0 names)) [
      | inl is ↦ let one = rw is at step in omega arith
      | inr isnt ↦ let none = rw isnt at step in omega arith
    ]

pub all_counted : (names : List Text) → distinct names ≡ true → (pairs : List Pair) → length pairs ≤ count names pairs
    → AllByRecursion (λ pair. Contains names pair.0) pairs × AllDiffer (map (λ pair. pair.0) pairs)
all_counted names d [] enough = (tt, tt)
all_counted names d (pair ∷ pairs) enough =
    let most = not_more names d pairs in
    let step = count_step pair pairs names d in
    elim (cases_Bool (among pair.0 names)) [
      | inl is ↦
          let one : count names (pair ∷ pairs) ≡ count names pairs + (1 - one_if (given pair.0 pairs)) = rw is at step in
          let few = at_most_one (given pair.0 pairs) in
          let rest = all_counted names d pairs (omega arith) in
          ((among_contains pair.0 names is, rest.0), (not_given pair.0 pairs (omega arith), rest.1))
      | inr isnt ↦
          let none : count names (pair ∷ pairs) ≡ count names pairs + 0 = rw isnt at step in
          absurd (omega arith)
    ]

pub counted_all : (names : List Text) → distinct names ≡ true → (pairs : List Pair)
    → AllByRecursion (λ pair. Contains names pair.0) pairs → AllDiffer (map (λ pair. pair.0) pairs) → length pairs ≤ count names pairs
counted_all names d [] known once = omega arith
counted_all names d (pair ∷ pairs) known once =
    let rest = counted_all names d pairs known.1 once.1 in
    let is = contains_among pair.0 names known.0 in
    let free = given_none pair.0 pairs once.0 in
    let step = count_step pair pairs names d in
    let one : count names (pair ∷ pairs) ≡ count names pairs + (1 - one_if (given pair.0 pairs)) = rw is at step in
    omega arith
