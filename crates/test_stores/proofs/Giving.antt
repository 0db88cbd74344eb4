-- The passes of a store, as they come off the end of their list.
use Rattle.std.proofs.Common.{◌≡◌, ◌+◌, List, [], ◌∷◌, ◌++◌, length, refl, sym, ◌∙◌, ap, subst, arith, length-append}
use Rattle.std.specs.List.{AllByRecursion}
use Rattle.live_node.specs.Lives.{Live, LivePass, IsPassAt}
use Rattle.live_store.specs.Pairs.{EachPair}
use Rattle.live_store.proofs.Pairs.{pairs_length}
use Rattle.test_stores.specs.Trials.{HasOne, IsShare}

module _ {D : Type 0} where
  -- each of them is a share of its device
  pub shares_of : (lives : List (Live D)) (passes : List (LivePass D)) → EachPair IsPassAt lives passes → AllByRecursion HasOne passes → EachPair IsShare lives passes
  shares_of [] [] at ones = tt
  shares_of [] (pass ∷ passes) at ones = absurd at
  shares_of (live ∷ lives) [] at ones = absurd at
  shares_of (live ∷ lives) (pass ∷ passes) at ones = (record { at = at.0; one = ones.0 }, shares_of lives passes at.1 ones.1)

  -- and is a pass of it, with one number
  pub shares_at : (lives : List (Live D)) (passes : List (LivePass D)) → EachPair IsShare lives passes → EachPair IsPassAt lives passes
  shares_at [] [] shares = tt
  shares_at [] (pass ∷ passes) shares = absurd shares
  shares_at (live ∷ lives) [] shares = absurd shares
  shares_at (live ∷ lives) (pass ∷ passes) shares = (shares.0.at, shares_at lives passes shares.1)

  pub shares_one : (lives : List (Live D)) (passes : List (LivePass D)) → EachPair IsShare lives passes → AllByRecursion HasOne passes
  shares_one [] [] shares = tt
  shares_one [] (pass ∷ passes) shares = absurd shares
  shares_one (live ∷ lives) [] shares = absurd shares
  shares_one (live ∷ lives) (pass ∷ passes) shares = (shares.0.one, shares_one lives passes shares.1)

  -- nothing stands in front of as many as there are
  none_before : (rest passes : List (LivePass D)) → length (rest ++ passes) ≡ length passes → rest ≡ []
  none_before [] passes many = refl
  none_before (pass ∷ rest) passes many = absurd (omega (arith, length-append (pass ∷ rest) passes, many))

  pub one_given : (live : Live D) (passes rest : List (LivePass D)) (pass : LivePass D) → EachPair IsPassAt (live ∷ []) passes → AllByRecursion HasOne passes
      → passes ≡ rest ++ pass ∷ [] → IsShare live pass
  one_given live passes rest pass at ones is =
      let many = pairs_length IsPassAt (live ∷ []) passes at in
      let none : rest ≡ [] = none_before rest (pass ∷ []) (sym (ap length is) ∙ many) in
      let are : passes ≡ pass ∷ [] = is ∙ ap (λ (front : List (LivePass D)). front ++ pass ∷ []) none in
      (subst (EachPair IsShare (live ∷ [])) are (shares_of (live ∷ []) passes at ones)).0

  pub two_given : (lives : List (Live D)) (passes mid rest : List (LivePass D)) (first second : LivePass D) → length lives ≡ 2 → EachPair IsPassAt lives passes → AllByRecursion HasOne passes
      → passes ≡ mid ++ second ∷ [] → mid ≡ rest ++ first ∷ [] → EachPair IsShare lives (first ∷ second ∷ [])
  two_given lives passes mid rest first second two at ones is is_mid =
      let many = pairs_length IsPassAt lives passes at in
      let longer : length passes ≡ length mid + 1 = ap length is ∙ length-append mid (second ∷ []) in
      let shorter : length (rest ++ first ∷ []) ≡ length mid = sym (ap length is_mid) in
      let none : rest ≡ [] = none_before rest (first ∷ []) (omega (arith, many, two, longer, shorter)) in
      let are : passes ≡ first ∷ second ∷ [] = is ∙ ap (λ (front : List (LivePass D)). front ++ second ∷ []) (is_mid ∙ ap (λ (front : List (LivePass D)). front ++ first ∷ []) none) in
      subst (EachPair IsShare lives) are (shares_of lives passes at ones)
