-- Blocks that nothing keeps come to the back of the free ones, one after another.
use Rattle.std.proofs.Common.{◌≡◌, ◌≢◌, inl, inr, ℕ, zero, suc, ◌+◌, ◌-◌, ◌<◌, ◌≤◌, Bool, true, false, List, [], ◌∷◌, ◌++◌, length, take, sum_by, refl, sym, ◌∙◌, ap, subst, arith, append_assoc}
use Rattle.std.specs.Prelude.{filter, ◌==◌, ◌↔◌, IsTrue, MatchBool}
use Rattle.std.specs.List.{AllByRecursion, range_with_len}
use Rattle.std.proofs.lemmas.Bool.{cond-true, cond-false, eqb-true, eqb-false, ne_eqb}
use Rattle.std.proofs.lemmas.List.{append-nil, length-append}
use Rattle.std.proofs.lemmas.List.Sums.{sum_by-cons}
use Rattle.std.proofs.Math.Seq.{take-length}
use Rattle.law_lists.proofs.Each.{all_map, all_from, all_joined}
use Rattle.law_lists.proofs.Finding.{any_none}
use Rattle.law_lists.proofs.Ranges.{filter_next}
use Rattle.block_shelf.specs.Lives.{LiveCopy, copies_in, use_in}
use Rattle.write_buffer.specs.Buffers.{BufferState}
use Rattle.block_shelf.specs.View.{AreApart, IsLiveList}
use Rattle.block_shelf.specs.Changes.{has_buffer_in}
use Rattle.block_shelf.specs.LetGo.{IsBare, IsFreeOrLetGo}
use Rattle.block_shelf.proofs.Blocks.{apart_push, few}

-- ---- whether a block is kept

-- live copies take room
pub no_units : (cs : List LiveCopy) → AllByRecursion (λ c. 1 ≤ c.units) cs → sum_by (λ c. c.units) cs ≡ 0 → cs ≡ []
no_units [] takes none = refl
no_units (c ∷ cs) takes none = let first = takes.0 in absurd (omega (arith, sum_by-cons (λ (d : LiveCopy). d.units) c cs, first, none))

-- no buffer has a block: the loop went over all of them
pub none_has : (buffers : List BufferState) (block n : ℕ) → AllByRecursion (λ b. b.block ≢ block) (take n buffers) → n ≤ length buffers → length buffers ≤ n → false ≡ has_buffer_in buffers block
none_has buffers block n none within all =
    sym (any_none (λ b. b.block == block) buffers (all_map (λ b. b.block ≢ block) (λ b. (b.block == block) ≡ false) buffers (λ b other. ne_eqb b.block block other)
    (subst (AllByRecursion (λ b. b.block ≢ block)) (ap (λ (m : ℕ). take m buffers) (let e : n ≡ length buffers = omega (arith, within, all) in e) ∙ take-length buffers) none)))

pub told_bare : (buffers : List BufferState) (lives : List (List LiveCopy)) (block n : ℕ) → n ≡ use_in block lives → IsLiveList (copies_in block lives)
    → AllByRecursion (λ b. b.block ≢ block) buffers → MatchBool (n == 0) (IsBare buffers lives block) (IsBare buffers lives block → ⊥)
told_bare buffers lives block n same list unbuffered = by (n == 0) refl
  where
    by : (b : Bool) → (n == 0) ≡ b → MatchBool b (IsBare buffers lives block) (IsBare buffers lives block → ⊥)
    by true is = record { unbuffered = unbuffered; dead = no_units (copies_in block lives) list.takes (sym same ∙ eqb-true n 0 is) }
    by false is = λ bare. eqb-false n 0 is (same ∙ ap (sum_by (λ (c : LiveCopy). c.units)) bare.dead)

-- ---- one block after another

module _ (blocks : ℕ) (Goes : ℕ → Type 0) (old : List ℕ) where
  -- the blocks below this number were looked at
  pub record AreFreed (n : ℕ) (free : List ℕ) : Type 0 where
    pub freed : (come : ℕ → Bool) → ((block : ℕ) → block < blocks → (IsTrue (come block) ↔ Goes block)) → free ≡ old ++ filter come (range_with_len 0 n)
    pub each : AllByRecursion (IsFreeOrLetGo blocks old Goes) free
    pub below : AllByRecursion (λ b. b < blocks) free
    pub apart : AreApart free
    pub others : (block : ℕ) → n ≤ block → block < blocks → Goes block → AllByRecursion (λ b. b ≢ block) free

  pub freed_first : AllByRecursion (λ b. b < blocks) old → AreApart old → ((block : ℕ) → block < blocks → Goes block → AllByRecursion (λ b. b ≢ block) old) → AreFreed 0 old
  freed_first below apart others = record {
    freed = λ come decides. sym (append-nil old);
    each = all_from (IsFreeOrLetGo blocks old Goes) old (λ b there. inl there);
    below = below;
    apart = apart;
    others = λ block low lt go. others block lt go;
  }

  module _ (n : ℕ) (free : List ℕ) (lt : n < blocks) (are : AreFreed n free) where
    -- it is let go
    pub freed_more : Goes n → AreFreed (n + 1) (free ++ n ∷ [])
    freed_more go = record {
      freed = λ come decides.
          ap (λ (l : List ℕ). l ++ n ∷ []) (are.freed come decides) ∙ append_assoc old (filter come (range_with_len 0 n)) (n ∷ [])
          ∙ ap (λ (l : List ℕ). old ++ l) (sym (filter_next come n ∙ ap (λ (l : List ℕ). filter come (range_with_len 0 n) ++ l) (cond-true (come n) (n ∷ []) [] ((decides n lt).1 go))));
      each = all_joined (IsFreeOrLetGo blocks old Goes) free (n ∷ []) are.each (inr (lt, go), tt);
      below = all_joined (λ b. b < blocks) free (n ∷ []) are.below (lt, tt);
      apart = apart_push free n are.apart (are.others n (omega arith) lt go);
      others = λ block low lt_block go_block. all_joined (λ b. b ≢ block) free (n ∷ []) (are.others block (omega arith) lt_block go_block) ((λ same. absurd (omega (arith, same, low))), tt);
    }

    -- it isn't
    pub freed_same : (Goes n → ⊥) → AreFreed (n + 1) free
    freed_same kept = record {
      freed = λ come decides.
          are.freed come decides
          ∙ ap (λ (l : List ℕ). old ++ l)
          (sym (filter_next come n ∙ ap (λ (l : List ℕ). filter come (range_with_len 0 n) ++ l) (cond-false (come n) (n ∷ []) [] (by (come n) (λ is. kept ((decides n lt).0 is))))
          ∙ append-nil (filter come (range_with_len 0 n))));
      each = are.each;
      below = are.below;
      apart = are.apart;
      others = λ block low lt_block go_block. are.others block (omega arith) lt_block go_block;
    }
      where
        by : (b : Bool) → (b ≡ true → ⊥) → b ≡ false
        by true never = absurd (never refl)
        by false never = refl

    -- there is room for it
    pub freed_fits : Goes n → length free + 1 ≤ blocks
    freed_fits go = subst (λ (k : ℕ). k ≤ blocks) (length-append free (n ∷ [])) (few blocks (free ++ n ∷ []) (freed_more go).apart (freed_more go).below)

  -- none of the next ones is
  pub freed_past : (k n : ℕ) (free : List ℕ) → n + k ≤ blocks → ((block : ℕ) → n ≤ block → block < n + k → Goes block → ⊥) → AreFreed n free → AreFreed (n + k) free
  freed_past zero n free le none are = subst (λ m. AreFreed m free) (let e : n ≡ n + 0 = omega arith in e) are
  freed_past (suc k) n free le none are =
      subst (λ m. AreFreed m free) (let e : (n + 1) + k ≡ n + suc k = omega arith in e)
      (freed_past k (n + 1) free (omega arith) (λ block low lt. none block (omega arith) (omega arith)) (freed_same n free (omega arith) are (none n (omega arith) (omega arith))))

  pub freed_to : (n m : ℕ) (free : List ℕ) → n ≤ m → m ≤ blocks → ((block : ℕ) → n ≤ block → block < m → Goes block → ⊥) → AreFreed n free → AreFreed m free
  freed_to n m free le within none are =
      let same : n + (m - n) ≡ m = omega arith in
      subst (λ j. AreFreed j free) same (freed_past (m - n) n free (omega (arith, same)) (λ block low lt. none block low (omega (arith, same))) are)
