-- The buffers in memory: those that aren't flushed, and the flushed ones that are kept.
use Rattle.std.proofs.Common.{◌≡◌, ◌≢◌, ◌<◌, ⊎_elim, ℕ, Bool, true, false, cond, eqb, List, [], ◌∷◌, map, Option, Some, None, Bor, refl, sym, ◌∙◌, ap, subst, arith}
use Rattle.std.specs.Prelude.{Contains, option_map, IfSome}
use Rattle.std.specs.List.{AllByRecursion}
use Rattle.std.proofs.lemmas.Bool.{eqb-true}
use Rattle.std.proofs.lemmas.List.Elements.{Contains-append_cases, Contains-append_right}
use Rattle.law_lists.proofs.Each.{all_at, all_joined, all_before_map}
use Rattle.law_lists.proofs.Members.{cons_cases, first_there, rest_there}
use Rattle.rec_format.specs.Versions.{block_capacity}
use Rattle.block_format.specs.declared.geometry.Geometry.{Geometry}
use Rattle.write_buffer.specs.Buffers.{BufferState}
use Rattle.post_cache.specs.Bodies.{KeptBody, KeepOwnBlocks, kept_at, body_of}
use Rattle.post_cache.proofs.Laws.{absent-all}
use Rattle.block_shelf.specs.View.{ShelfView, IsKeptOf, in_memory}

abbrev pub bodies : List (KeptBody BufferState) → List BufferState
bodies ks = map (λ k. k.body) ks

module _ (g : Geometry) where
  -- what is told of what is kept of a block is told of the buffers of the block
  pub bodies_all : (P : BufferState → Type 0) (block : ℕ) (ks : List (KeptBody BufferState)) → AllByRecursion (IsKeptOf g) ks → AllByRecursion (λ k. k.block ≡ block → P k.body) ks
      → AllByRecursion (λ b. b.block ≡ block → P b) (bodies ks)
  bodies_all P block [] each all = tt
  bodies_all P block (k ∷ ks) each all = ((λ at. all.0 (sym each.0.block ∙ at)), bodies_all P block ks each.1 all.1)

  pub memory_all : {D : Type 0} (P : BufferState → Type 0) (block : ℕ) (shelf : ShelfView D) → AllByRecursion (IsKeptOf g) shelf.cache.kept → AllByRecursion (λ b. b.block ≡ block → P b) shelf.buffers
      → AllByRecursion (λ k. k.block ≡ block → P k.body) shelf.cache.kept → AllByRecursion (λ b. b.block ≡ block → P b) (in_memory shelf)
  memory_all P block shelf each buffers kept = all_joined (λ b. b.block ≡ block → P b) shelf.buffers (bodies shelf.cache.kept) buffers (bodies_all P block shelf.cache.kept each kept)

  -- ---- what is kept of a block

  pub record IsBodyOf (block : ℕ) (ks : List (KeptBody BufferState)) (b : BufferState) : Type 0 where
    pub there : Contains (bodies ks) b
    pub at : b.block ≡ block
    pub capacity : b.capacity ≡ block_capacity g.block_size

  pub found_body : (block : ℕ) (ks : List (KeptBody BufferState)) → AllByRecursion (IsKeptOf g) ks → IfSome (body_of block ks) (IsBodyOf block ks)
  found_body block [] each = tt
  found_body block (k ∷ ks) each = by (eqb k.block block) refl (kept_at block ks) (found_body block ks each.1)
    where
      by : (x : Bool) → eqb k.block block ≡ x → (o : Option (KeptBody BufferState)) → IfSome (option_map (λ (y : KeptBody BufferState). y.body) o) (IsBodyOf block ks)
          → IfSome (option_map (λ (y : KeptBody BufferState). y.body) (cond x (Some k) o)) (IsBodyOf block (k ∷ ks))
      by true is o rest = record { there = first_there k.body (bodies ks); at = each.0.block ∙ eqb-true k.block block is; capacity = each.0.capacity }
      by false is None rest = tt
      by false is (Some y) rest = record { there = rest_there k.body (bodies ks) y.body rest.there; at = rest.at; capacity = rest.capacity }

  none_body : (block : ℕ) (ks : List (KeptBody BufferState)) → body_of block ks ≡ None → kept_at block ks ≡ None
  none_body block ks none = by (kept_at block ks) none
    where
      by : (o : Option (KeptBody BufferState)) → option_map (λ (y : KeptBody BufferState). y.body) o ≡ None → o ≡ None
      by None none = refl
      by (Some y) none = absurd (cc)

  bodies_other : (block : ℕ) (ks : List (KeptBody BufferState)) → AllByRecursion (IsKeptOf g) ks → kept_at block ks ≡ None → AllByRecursion (λ b. b.block ≢ block) (bodies ks)
  bodies_other block ks each none = over ks each (absent-all block ks none)
    where
      over : (ks : List (KeptBody BufferState)) → AllByRecursion (IsKeptOf g) ks → AllByRecursion (λ k. k.block ≢ block) ks → AllByRecursion (λ b. b.block ≢ block) (bodies ks)
      over [] each others = tt
      over (k ∷ ks) each others = ((λ at. others.0 (sym each.0.block ∙ at)), over ks each.1 others.1)

  -- only one is kept of a block
  one_body : (ks : List (KeptBody BufferState)) → AllByRecursion (IsKeptOf g) ks → KeepOwnBlocks ks → (b c : BufferState) → Contains (bodies ks) b → Contains (bodies ks) c → b.block ≡ c.block → b ≡ c
  one_body [] each own b c in_b in_c same = absurd (omega (arith, in_b.1))
  one_body (k ∷ ks) each own b c in_b in_c same =
      let others = bodies_other k.block ks each.1 own.0 in
      ⊎_elim
      (λ (first_b : k.body ≡ b). ⊎_elim
      (λ (first_c : k.body ≡ c). sym first_b ∙ first_c)
      (λ (more_c : Contains (bodies ks) c). absurd (all_at (λ x. x.block ≢ k.block) (bodies ks) c others more_c (sym same ∙ ap (λ (x : BufferState). x.block) (sym first_b) ∙ each.0.block)))
      (cons_cases k.body (bodies ks) c in_c))
      (λ (more_b : Contains (bodies ks) b). ⊎_elim
      (λ (first_c : k.body ≡ c). absurd (all_at (λ x. x.block ≢ k.block) (bodies ks) b others more_b (same ∙ ap (λ (x : BufferState). x.block) (sym first_c) ∙ each.0.block)))
      (λ (more_c : Contains (bodies ks) c). one_body ks each.1 own.1 b c more_b more_c same)
      (cons_cases k.body (bodies ks) c in_c))
      (cons_cases k.body (bodies ks) b in_b)

  -- ---- as a call finds it

  module _ {D : Type 0} (shelf : ShelfView D) (block : ℕ) (each : AllByRecursion (IsKeptOf g) shelf.cache.kept) where
    -- where the block has a buffer, nothing is kept of it
    pub unkept_of : (b : BufferState) → Contains shelf.buffers b → b.block ≡ block → AllByRecursion (λ n. kept_at n shelf.cache.kept ≡ None) (map (λ c. c.block) shelf.buffers)
        → kept_at block shelf.cache.kept ≡ None
    unkept_of b there at apart =
        subst (λ (n : ℕ). kept_at n shelf.cache.kept ≡ None) at
        (all_at (λ c. kept_at c.block shelf.cache.kept ≡ None) shelf.buffers b
        (all_before_map (λ c. kept_at c.block shelf.cache.kept ≡ None) (λ n. kept_at n shelf.cache.kept ≡ None) (λ c. c.block) (λ c absent. absent) shelf.buffers apart) there)

    pub only_buffer : (b : BufferState) → b.block ≡ block → kept_at block shelf.cache.kept ≡ None → ((other : BufferState) → Contains shelf.buffers other → other.block ≡ block → other ≡ b)
        → (other : BufferState) → Contains (in_memory shelf) other → other.block ≡ block → other ≡ b
    only_buffer b at none only other there same =
        ⊎_elim (λ (in_buffers : Contains shelf.buffers other). only other in_buffers same)
        (λ (in_kept : Contains (bodies shelf.cache.kept) other). absurd (all_at (λ x. x.block ≢ block) (bodies shelf.cache.kept) other (bodies_other block shelf.cache.kept each none) in_kept same))
        (Contains-append_cases shelf.buffers (bodies shelf.cache.kept) other there)

    module _ (unbuffered : AllByRecursion (λ b. b.block ≢ block) shelf.buffers) (peeked : Option (Bor BufferState))
        (is : option_map (λ (b : Bor BufferState). b.now) peeked ≡ body_of block shelf.cache.kept) where
      found : IfSome (option_map (λ (b : Bor BufferState). b.now) peeked) (IsBodyOf block shelf.cache.kept)
      found = subst (λ (o : Option BufferState). IfSome o (IsBodyOf block shelf.cache.kept)) (sym is) (found_body block shelf.cache.kept each)

      pub peeked_some : IfSome peeked (λ b. Contains (in_memory shelf) b.now × (b.now.block ≡ block))
      peeked_some = by peeked found
        where
          by : (o : Option (Bor BufferState)) → IfSome (option_map (λ (b : Bor BufferState). b.now) o) (IsBodyOf block shelf.cache.kept)
              → IfSome o (λ b. Contains (in_memory shelf) b.now × (b.now.block ≡ block))
          by None is = tt
          by (Some b) is = (Contains-append_right shelf.buffers (bodies shelf.cache.kept) b.now is.there, is.at)

      pub peeked_only : KeepOwnBlocks shelf.cache.kept → IfSome peeked (λ b. (other : BufferState) → Contains (in_memory shelf) other → other.block ≡ block → other ≡ b.now)
      peeked_only own = by peeked found
        where
          by : (o : Option (Bor BufferState)) → IfSome (option_map (λ (b : Bor BufferState). b.now) o) (IsBodyOf block shelf.cache.kept)
              → IfSome o (λ b. (other : BufferState) → Contains (in_memory shelf) other → other.block ≡ block → other ≡ b.now)
          by None is = tt
          by (Some b) is = λ other there same.
              ⊎_elim (λ (in_buffers : Contains shelf.buffers other). absurd (all_at (λ x. x.block ≢ block) shelf.buffers other unbuffered in_buffers same))
              (λ (in_kept : Contains (bodies shelf.cache.kept) other). one_body shelf.cache.kept each own other b.now in_kept is.there (same ∙ sym is.at))
              (Contains-append_cases shelf.buffers (bodies shelf.cache.kept) other there)

      pub peeked_none : peeked ≡ None → AllByRecursion (λ b. b.block ≢ block) (in_memory shelf)
      peeked_none none = all_joined (λ b. b.block ≢ block) shelf.buffers (bodies shelf.cache.kept) unbuffered
          (bodies_other block shelf.cache.kept each (none_body block shelf.cache.kept (sym is ∙ ap (option_map (λ (b : Bor BufferState). b.now)) none)))

      pub peeked_capacity : block_capacity g.block_size < 65536 → IfSome peeked (λ b. (b.now.capacity ≡ block_capacity g.block_size) × (b.now.capacity < 65536))
      peeked_capacity few = by peeked found
        where
          by : (o : Option (Bor BufferState)) → IfSome (option_map (λ (b : Bor BufferState). b.now) o) (IsBodyOf block shelf.cache.kept)
              → IfSome o (λ b. (b.now.capacity ≡ block_capacity g.block_size) × (b.now.capacity < 65536))
          by None is = tt
          by (Some b) is = (is.capacity, subst (λ (n : ℕ). n < 65536) (sym is.capacity) few)
