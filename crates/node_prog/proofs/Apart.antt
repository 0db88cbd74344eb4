-- Names that stand apart, one after another, and changes one after another.
use Rattle.std.proofs.Common.{◌≡◌, inl, inr, ℕ, ◌+◌, ◌<◌, true, false, List, [], ◌∷◌, ◌++◌, length, Option, slice_get, Some, sym, ◌∙◌, subst, arith}
use Rattle.std.proofs.lemmas.Bool.Decides.{eqb_tells}
use Rattle.std.proofs.lemmas.Option.{same_Some, slice_get_within}
use Rattle.disk_file.specs.Devices.{Change}
use Rattle.disk_file.specs.Refusals.{Came, AreTold}
use Rattle.disk_file.specs.Calls.{Call}
use Rattle.disk_file.specs.Known.{Known, Standing}
use Rattle.node_prog.specs.declared.devices.Undone.{Undone}
use Rattle.node_prog.specs.declared.devices.Way.{Way}
use Rattle.node_prog.specs.Undone.{StandsApart, IsSame, IsApart, AreApart, IsUndoneAt, IsUndone, undone_at}

-- ---- names before a place

-- the name that was looked at is the one of that place
pub named_so : (names : List (List ℕ)) (at : ℕ) (name text : List ℕ) → slice_get names at ≡ Some text → slice_get names at ≡ Some name → text ≡ name
named_so names at name text there so = same_Some text name (sym there ∙ so)

pub apart_none : (known : Known) (names : List (List ℕ)) (name : List ℕ) → StandsApart known names name 0
apart_none known names name sooner other before there = absurd (none sooner before)
  where
    none : (n : ℕ) → n < 0 → ⊥
    none n before = omega (arith, before)

-- and the next of them stands apart too
pub apart_more : (known : Known) (names : List (List ℕ)) (name this text : List ℕ) (at place : ℕ) → slice_get names place ≡ Some text → slice_get names at ≡ Some this → AreTold known text this false
    → slice_get names place ≡ Some name → StandsApart known names name at → StandsApart known names name (at + 1)
apart_more known names name this text at place looked there told so so_far sooner other before named = elim (eqb_tells sooner at) [
  | inl here ↦ subst (λ (n : List ℕ). AreTold known n other false) (named_so names place name text looked so)
      (subst (λ (n : List ℕ). AreTold known text n false) (same_Some this other (sym there ∙ subst (λ (i : ℕ). slice_get names i ≡ Some other) here.1 named)) told)
  | inr earlier ↦ so_far sooner other (omega (arith, before, earlier.1)) named
]

-- the first that is of the same thing
pub is_same : (known : Known) (names : List (List ℕ)) (name first text : List ℕ) (place at : ℕ) → slice_get names at ≡ Some text → slice_get names place ≡ Some first → place < at
    → AreTold known text first true → slice_get names at ≡ Some name → StandsApart known names name place → IsSame known names name at first
is_same known names name first text place at looked there before told so apart = record {
  place = place;
  before = before;
  there = there;
  same = subst (λ (n : List ℕ). AreTold known n first true) (named_so names at name text looked so) told;
  apart = apart;
}

-- ---- changes

pub came_then : {D : Type 0} (becomes : D → Change → D → Type 0) (old mid new : D) (sooner later : List Change) → Came becomes old sooner mid → Came becomes mid later new
    → Came becomes old (sooner ++ later) new
came_then becomes old mid new [] later first then = subst (λ d. Came becomes d later new) first then
came_then becomes old mid new (change ∷ sooner) later first then = (first.0, first.1, came_then becomes first.0 mid new sooner later first.2 then)

-- ---- the names so far

-- those before the next place stand apart
abbrev pub AreApartTo : {D : Type 0} → (D → Known) → (D → Change → D → Type 0) → (old new : D) → (names : List (List ℕ)) → ℕ → Type 0
AreApartTo known becomes old new names next = (at : ℕ) (name : List ℕ) → at < next → slice_get names at ≡ Some name → IsApart known becomes old new names name at

pub apart_to_none : {D : Type 0} (known : D → Known) (becomes : D → Change → D → Type 0) (old : D) (names : List (List ℕ)) → AreApartTo known becomes old old names 0
apart_to_none known becomes old names at name before there = absurd (none at before)
  where
    none : (n : ℕ) → n < 0 → ⊥
    none n before = omega (arith, before)

-- and the next one
pub apart_to_more : {D : Type 0} (known : D → Known) (becomes : D → Change → D → Type 0) (old mid new : D) (names : List (List ℕ)) (next : ℕ) (sooner later : List Change)
    → Came becomes old sooner mid → Came becomes mid later new → AreApartTo known becomes old mid names next
    → ((name : List ℕ) → slice_get names next ≡ Some name → StandsApart (known mid) names name next) → AreApartTo known becomes old new names (next + 1)
apart_to_more known becomes old mid new names next sooner later first then so_far this at name before there = elim (eqb_tells at next) [
  | inl here ↦ record {
    moment = mid;
    sooner = sooner;
    later = later;
    before = first;
    behind = then;
    apart = subst (λ (i : ℕ). StandsApart (known mid) names name i) (sym here.1) (this name (subst (λ (i : ℕ). slice_get names i ≡ Some name) here.1 there));
  }
  | inr earlier ↦
      let is = so_far at name (omega (arith, before, earlier.1)) there in
      record {
        moment = is.moment;
        sooner = is.sooner;
        later = is.later ++ later;
        before = is.before;
        behind = came_then becomes is.moment mid new is.later later is.behind then;
        apart = is.apart;
      }
]

-- all of them
pub apart_all : {D : Type 0} (known : D → Known) (becomes : D → Change → D → Type 0) (old new : D) (texts names : List (List ℕ)) (next : ℕ) → texts ≡ names → next ≡ length texts
    → AreApartTo known becomes old new texts next → AreApart known becomes old new names
apart_all known becomes old new texts names next same all so_far =
    subst (λ (l : List (List ℕ)). AreApart known becomes old new l) same
    (λ at name there. so_far at name (omega (arith, all, slice_get_within texts at name there)) there)

-- ---- why there are none

-- the names and the way are those of the job
pub undone_so : {D F : Type 0} (known : D → Known) (becomes : D → Change → D → Type 0) (past : F → List Call) (stands : F → Option Standing) (old moment new : D) (texts names : List (List ℕ))
    (how as_job : Way) (at : ℕ) (why : Undone) (sooner : List Change) → texts ≡ names → how ≡ as_job → Came becomes old sooner moment
    → IsUndoneAt known becomes past stands moment new texts how at why → IsUndone known becomes past stands old new names as_job why
undone_so known becomes past stands old moment new texts names how as_job at why sooner same way came undone =
    undone_at at moment sooner came
    (subst (λ (l : List (List ℕ)). IsUndoneAt known becomes past stands moment new l as_job at why) same
    (subst (λ (w : Way). IsUndoneAt known becomes past stands moment new texts w at why) way undone))
