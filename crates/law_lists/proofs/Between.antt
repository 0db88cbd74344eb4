-- A list with an element between others: without it, with another in its place, and with one that comes there.
use Rattle.std.proofs.Common.{◌≡◌, ◌≢◌, ◌⊎◌, inl, inr, ⊎_elim, Bool, false, ◌||◌, List, [], ◌∷◌, ◌++◌, length, map, refl, sym, ◌∙◌, ap, subst, arith}
use Rattle.std.specs.Prelude.{Contains}
use Rattle.std.specs.List.{AllByRecursion, list_any, remove}
use Rattle.std.proofs.lemmas.List.Elements.{Contains-append_left, Contains-append_right, Contains-append_cases}
use Rattle.law_lists.proofs.Each.{all_map, all_joined, all_parted}
use Rattle.law_lists.proofs.Members.{cons_cases, first_there, rest_there}

-- ---- what holds of each

module _ {X : Type 0} (P : X → Type 0) where
  module _ (front : List X) (b : X) (behind : List X) (all : AllByRecursion P (front ++ b ∷ behind)) where
    pub all_own : P b
    all_own = (all_parted P front (b ∷ behind) all).1.0

    pub all_without : AllByRecursion P (front ++ behind)
    all_without = let parts = all_parted P front (b ∷ behind) all in all_joined P front behind parts.0 parts.1.1

  -- another one stands in its place
  pub all_instead : (front : List X) (b c : X) (behind : List X) → AllByRecursion P (front ++ b ∷ behind) → P c → AllByRecursion P (front ++ c ∷ behind)
  all_instead front b c behind all own = let parts = all_parted P front (b ∷ behind) all in all_joined P front (c ∷ behind) parts.0 (own, parts.1.1)

  -- it comes between others
  pub all_with : (front : List X) (b : X) (behind : List X) → AllByRecursion P (front ++ behind) → P b → AllByRecursion P (front ++ b ∷ behind)
  all_with front b behind all own = let parts = all_parted P front behind all in all_joined P front (b ∷ behind) parts.0 (own, parts.1)

-- another one stands in its place, of which more holds
pub all_but_one : {X : Type 0} (P Q : X → Type 0) (front : List X) (b c : X) (behind : List X) → AllByRecursion P (front ++ b ∷ behind) → ((x : X) → P x → Q x) → (P b → Q c)
    → AllByRecursion Q (front ++ c ∷ behind)
all_but_one P Q front b c behind all others this =
    let parts = all_parted P front (b ∷ behind) all in
    all_joined Q front (c ∷ behind) (all_map P Q front others parts.0) (this parts.1.0, all_map P Q behind others parts.1.1)

-- ---- what is there

pub own_there : {X : Type 0} (front : List X) (b : X) (behind : List X) → Contains (front ++ b ∷ behind) b
own_there front b behind = Contains-append_right front (b ∷ behind) b (first_there b behind)

pub other_there : {X : Type 0} (front : List X) (b : X) (behind : List X) (c : X) → Contains (front ++ b ∷ behind) c → (b ≡ c) ⊎ Contains (front ++ behind) c
other_there front b behind c there =
    ⊎_elim (λ (before : Contains front c). inr (Contains-append_left front behind c before))
    (λ (more : Contains (b ∷ behind) c). ⊎_elim (λ (same : b ≡ c). inl same) (λ (after : Contains behind c). inr (Contains-append_right front behind c after)) (cons_cases b behind c more))
    (Contains-append_cases front (b ∷ behind) c there)

-- an element stands between others
pub record Parted {X : Type 0} (x : X) (xs : List X) : Type 0 where
  pub front : List X
  pub behind : List X
  pub parts : xs ≡ front ++ x ∷ behind
  pub others : (y : X) → x ≢ y → Contains xs y → Contains (front ++ behind) y

pub parted : {X : Type 0} (x : X) (xs : List X) → Contains xs x → Parted x xs
parted x [] there = absurd (omega (arith, there.1))
parted {X} x (y ∷ xs) there = by (cons_cases y xs x there) (parted x xs)
  where
    by : (y ≡ x) ⊎ Contains xs x → (Contains xs x → Parted x xs) → Parted x (y ∷ xs)
    by (inl e) rest = record {
      front = [];
      behind = xs;
      parts = ap (λ (z : X). z ∷ xs) e;
      others = λ z other in_all. ⊎_elim (λ (same : y ≡ z). absurd (other (sym e ∙ same))) (λ (more : Contains xs z). more) (cons_cases y xs z in_all);
    }
    by (inr more) rest =
        let is = rest more in
        record {
          front = y ∷ is.front;
          behind = is.behind;
          parts = ap (λ (l : List X). y ∷ l) is.parts;
          others = λ z other in_all.
              ⊎_elim (λ (same : y ≡ z). subst (Contains (y ∷ (is.front ++ is.behind))) same (first_there y (is.front ++ is.behind)))
              (λ (in_xs : Contains xs z). rest_there y (is.front ++ is.behind) z (is.others z other in_xs)) (cons_cases y xs z in_all);
        }

-- ---- what is made of it

pub remove_own : {X : Type 0} (front : List X) (b : X) (behind : List X) → remove (front ++ b ∷ behind) (length front) ≡ front ++ behind
remove_own [] b behind = refl
remove_own {X} (x ∷ front) b behind = ap (λ (l : List X). x ∷ l) (remove_own front b behind)

pub map_instead : {X Y : Type 0} (f : X → Y) (front : List X) (b c : X) (behind : List X) → f c ≡ f b → map f (front ++ c ∷ behind) ≡ map f (front ++ b ∷ behind)
map_instead {X} {Y} f [] b c behind same = ap (λ (y : Y). y ∷ map f behind) same
map_instead {X} {Y} f (x ∷ front) b c behind same = ap (λ (l : List Y). f x ∷ l) (map_instead f front b c behind same)

pub any_without : {X : Type 0} (p : X → Bool) (front : List X) (b : X) (behind : List X) → p b ≡ false → list_any p (front ++ b ∷ behind) ≡ list_any p (front ++ behind)
any_without p [] b behind none = ap (λ (t : Bool). t || list_any p behind) none
any_without p (x ∷ front) b behind none = ap (λ (t : Bool). p x || t) (any_without p front b behind none)
