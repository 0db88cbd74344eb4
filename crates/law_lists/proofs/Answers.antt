-- What holds behind a test, an answer that may be an error, and one that may be nothing.
use Rattle.std.proofs.Common.{◌≡◌, Bool, true, false, not, refl, sym, ◌∙◌, ap, subst}
use Rattle.std.specs.Prelude.{Option, Some, None, Result, Ok, Err, MatchBool, MatchResult, OnErr, IfErr, IsErrAnd, is_some}
use Rattle.std.specs.Result.{IsErr}

-- ---- tests

pub match_true : (b : Bool) (P Q : Type 0) → b ≡ true → P → MatchBool b P Q
match_true b P Q is h = rw is h

pub match_false : (b : Bool) (P Q : Type 0) → b ≡ false → Q → MatchBool b P Q
match_false b P Q is h = rw is h

pub match_more : (b : Bool) (P Q R S : Type 0) → (P → R) → (Q → S) → MatchBool b P Q → MatchBool b R S
match_more true P Q R S first second h = first h
match_more false P Q R S first second h = second h

-- ---- errors

-- what holds behind any error
pub on_err : {T E : Type 0} (r : Result T E) (P : Type 0) → P → OnErr r P
on_err (Ok x) P holds = tt
on_err (Err e) P holds = holds

-- what holds of an error holds of an answer that is one
pub err_alone : {T E : Type 0} (P : Result T E → Type 0) (r : Result T E) → IsErr r → ((e : E) → P (Err e)) → P r
err_alone P (Ok x) is each = let e : false ≡ true = is in cc
err_alone P (Err e) is each = each e

pub only_err : {X E : Type 0} (P : X → Type 0) (R S : E → Type 0) (r : Result X E) → ((e : E) → R e → S e) → MatchResult r P R → IfErr r S
only_err P R S (Ok x) err is = tt
only_err P R S (Err e) err is = err e is

-- what holds of an error that was passed on
pub passed_on : {T E : Type 0} (r : Result T E) (said : E) (P : Result T E → Type 0) → IsErrAnd r (λ e. e ≡ said) → P (Err said) → P r
passed_on (Ok a) said P is holds = absurd is
passed_on {E = E} (Err e) said P is holds = subst (λ (x : E). P (Err x)) (sym is) holds

pub err_said : {T E : Type 0} (r : Result T E) (said : E) (P : T → Type 0) (Q : E → Type 0) → IsErrAnd r (λ e. e ≡ said) → Q said → MatchResult r P Q
err_said (Ok a) said P Q is holds = absurd is
err_said (Err e) said P Q is holds = subst Q (sym is) holds

pub err_is : {T E : Type 0} (r : Result T E) (said : E) (Q : E → Type 0) → IsErrAnd r (λ e. e ≡ said) → Q said → IfErr r Q
err_is (Ok a) said Q is holds = tt
err_is (Err e) said Q is holds = subst Q (sym is) holds

-- ---- a value or nothing

pub not_some : {X : Type 0} (o : Option X) (told : Bool) → told ≡ is_some o → told ≡ false → o ≡ None
not_some None told is none = refl
not_some (Some x) told is none = let e : true ≡ false = sym is ∙ none in cc

pub is_there : {X : Type 0} (o : Option X) (told : Bool) → told ≡ is_some o → told ≡ true → (x : X) × (o ≡ Some x)
is_there None told is some = let e : false ≡ true = sym is ∙ some in cc
is_there (Some x) told is some = (x, refl)

-- the same by a test for nothing
pub none_by : {X : Type 0} (o : Option X) (none : Bool) → is_some o ≡ not none → none ≡ true → o ≡ None
none_by None none is yes_none = refl
none_by (Some x) none is yes_none = let e : true ≡ false = is ∙ ap not yes_none in cc

pub some_by : {X : Type 0} (o : Option X) (none : Bool) → is_some o ≡ not none → none ≡ false → (x : X) × (o ≡ Some x)
some_by None none is some = let e : false ≡ true = is ∙ ap not some in cc
some_by (Some x) none is some = (x, refl)
