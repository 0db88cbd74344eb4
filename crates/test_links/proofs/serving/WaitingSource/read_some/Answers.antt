use Rattle.std.proofs.Common.{ℕ, List, ◌++◌, Option, None, refl, sym, ◌∙◌, ap, arith, length-append}
use Rattle.std.specs.Prelude.{Result, Ok, Err}
use Rattle.std.proofs.lemmas.List.{take-append-le}
use Rattle.io_traits.specs.Source.{ReadGives}
use Rattle.test_links.proofs.serving.WaitingSource.read_some.Goals as goal

-- What was read into the first part of a buffer was read into the buffer. Of the bytes left nothing is told.
gives_first : {E : Type 0} (taken taken' : List ℕ) (left left' : Option (List ℕ)) (first others : List ℕ) (result : Result ℕ E)
    → ReadGives taken taken' left left' first result → ReadGives taken taken' None None (first ++ others) result
gives_first taken taken' left left' first others (Ok n) gives = record {
  fits = omega (arith, gives.fits, length-append first others);
  grows = gives.grows ∙ ap (λ (l : List ℕ). taken ++ l) (sym (take-append-le n first others gives.fits));
  shortens = tt;
  end = λ _. tt;
}
gives_first taken taken' left left' first others (Err e) gives = record { same_taken = gives.same_taken; same_left = refl }

pub returns-clause-bytes : goal.returns-clause-bytes
returns-clause-bytes c = gives_first _ _ _ _ _ _ c.read_some.result c.read_some.ensures.bytes
