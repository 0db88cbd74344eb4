-- The bodies of the first blocks of an image, whatever stands behind them.
use Rattle.std.proofs.Common.{◌≡◌, inl, inr, ℕ, suc, true, ◌+◌, ◌-◌, ◌<◌, List, [], ◌∷◌, ◌++◌, refl, sym, ◌∙◌, ap, subst, arith}
use Rattle.std.specs.Prelude.{map}
use Rattle.std.specs.List.{range_with_len}
use Rattle.std.proofs.lemmas.List.{append_assoc, append-nil, map-append}
use Rattle.std.proofs.lemmas.Grind.{flat_map-append}
use Rattle.rec_format.specs.declared.version.Digest.{Digest}
use Rattle.rec_format.specs.declared.version.Version.{Version}
use Rattle.rec_format.specs.Versions.{version_units, block_capacity}
use Rattle.block_format.specs.declared.geometry.Geometry.{Geometry}
use Rattle.block_format.specs.Layout.{IsOpen, IsClosed, gate_sector, body_bytes, Body, IsBody}
use Rattle.block_format.specs.Copies.{Copy, HasBodies, copies_from, copies_of}
use Rattle.block_format.specs.Refusals.{IsBlock}
use Rattle.block_format.proofs.BodyLaws.{one_body}
use Rattle.test_hist.specs.Finds.{records_of}
use Rattle.test_hist.specs.Steps.{AddsBlock}

-- ---- records

abbrev record_of : Copy → Digest × Version
record_of c = (c.digest, c.version)

from_copies : (block unit : ℕ) (records : List (Digest × Version)) → map record_of (copies_from block unit records) ≡ records
from_copies block unit [] = refl
from_copies block unit (r ∷ records) = ap (λ (l : List (Digest × Version)). r ∷ l) (from_copies block (unit + version_units r.1) records)

-- the records of one body more
records_more : (bodies : List Body) (b : Body) → records_of (bodies ++ b ∷ []) ≡ records_of bodies ++ b.records
records_more bodies b =
    ap (map record_of) (flat_map-append (λ (x : Body). copies_from x.block 0 x.records) bodies (b ∷ []) ∙ ap (λ (l : List Copy). copies_of bodies ++ l) (append-nil (copies_from b.block 0 b.records)))
    ∙ map-append record_of (copies_of bodies) (copies_from b.block 0 b.records)
    ∙ ap (λ (l : List (Digest × Version)). records_of bodies ++ l) (from_copies b.block 0 b.records)

-- ---- bodies

abbrev all_blocks : Geometry → List ℕ
all_blocks g = range_with_len 0 g.blocks

abbrev blocks_from : Geometry → ℕ → List ℕ
blocks_from g k = range_with_len k (g.blocks - k)

next_block : (g : Geometry) (k : ℕ) → k < g.blocks → blocks_from g k ≡ k ∷ blocks_from g (k + 1)
next_block g k below = let one : g.blocks - k ≡ suc (g.blocks - (k + 1)) = omega arith in ap (range_with_len k) one

-- Before block k are these bodies: with any behind them they are those of all blocks, and those of all blocks begin with them.
pub record Front (g : Geometry) (image : List ℕ) (k : ℕ) (front : List Body) : Type 0 where
  pub there : (behind : List Body) → HasBodies g image (blocks_from g k) behind → HasBodies g image (all_blocks g) (front ++ behind)
  pub only : (bodies : List Body) → HasBodies g image (all_blocks g) bodies → (behind : List Body) × HasBodies g image (blocks_from g k) behind × (bodies ≡ front ++ behind)

module _ (g : Geometry) (image : List ℕ) where
  pub front_none : Front g image 0 []
  front_none = record {
    there = λ behind has. subst (λ (l : List ℕ). HasBodies g image l behind) all_behind has;
    only = λ bodies has. (bodies, subst (λ (l : List ℕ). HasBodies g image l bodies) (sym all_behind) has, refl);
  }
    where
      all_behind : blocks_from g 0 ≡ all_blocks g
      all_behind = let all : g.blocks - 0 ≡ g.blocks = omega arith in ap (range_with_len 0) all

  -- what has this block first has its bodies
  at_next : (k : ℕ) (behind : List Body) → k < g.blocks → HasBodies g image (blocks_from g k) behind → HasBodies g image (k ∷ blocks_from g (k + 1)) behind
  at_next k behind below has = subst (λ (l : List ℕ). HasBodies g image l behind) (next_block g k below) has

  from_next : (k : ℕ) (behind : List Body) → k < g.blocks → HasBodies g image (k ∷ blocks_from g (k + 1)) behind → HasBodies g image (blocks_from g k) behind
  from_next k behind below has = subst (λ (l : List ℕ). HasBodies g image l behind) (sym (next_block g k below)) has

  front_closed : (k : ℕ) (front : List Body) → k < g.blocks → Front g image k front → IsClosed (gate_sector g k image) → Front g image (k + 1) front
  front_closed k front below is closed = record {
    there = λ behind has. is.there behind (from_next k behind below (inl (closed, has)));
    only = λ bodies has. let r = is.only bodies has in elim (at_next k r.0 below r.1) [ inl h ↦ (r.0, h.1, r.2) | inr h ↦ absurd (closed h.0) ];
  }

  front_open : (k : ℕ) (front : List Body) (b : Body) → k < g.blocks → Front g image k front → IsOpen (gate_sector g k image)
      → IsBody (block_capacity g.block_size) (body_bytes g k image) b → b.block ≡ k → Front g image (k + 1) (front ++ b ∷ [])
  front_open k front b below is opened is_body at = record {
    there = λ behind has. subst (λ (l : List Body). HasBodies g image (all_blocks g) l) (sym (append_assoc front (b ∷ []) behind))
        (is.there (b ∷ behind) (from_next k (b ∷ behind) below (inr (opened, b, behind, is_body, at, refl, has))));
    only = λ bodies has. let r = is.only bodies has in elim (at_next k r.0 below r.1) [
      | inl h ↦ absurd (h.0 opened)
      | inr h ↦
          let capacity = block_capacity g.block_size in
          let same : h.1 ≡ b = one_body capacity capacity (body_bytes g k image) h.1 b h.3 is_body (h.4 ∙ sym at) in
          (h.2, h.6, r.2 ∙ ap (λ (l : List Body). front ++ l) (h.5 ∙ ap (λ (x : Body). x ∷ h.2) same) ∙ sym (append_assoc front (b ∷ []) h.2))
    ];
  }

  -- what is added by the next block
  pub front_adds : (k : ℕ) (front : List Body) (old new : List (Digest × Version)) → k < g.blocks → Front g image k front → old ≡ records_of front → AddsBlock g image k true old new
      → (after : List Body) × Front g image (k + 1) after × (new ≡ records_of after)
  front_adds k front old new below is so_far (inl shut) = (front, front_closed k front below is shut.0, shut.1 ∙ so_far)
  front_adds k front old new below is so_far (inr b) = (
    front ++ b.1 ∷ [],
    front_open k front b.1 below is b.0 b.2 b.3,
    b.4 ∙ ap (λ (l : List (Digest × Version)). l ++ b.1.records) so_far ∙ sym (records_more front b.1),
  )

  -- where a block is damaged, all blocks have no bodies
  pub front_damaged : (k : ℕ) (front : List Body) → k < g.blocks → Front g image k front → (IsBlock g image k → ⊥) → (bodies : List Body) → HasBodies g image (all_blocks g) bodies → ⊥
  front_damaged k front below is damaged bodies has =
      let r = is.only bodies has in elim (at_next k r.0 below r.1) [ inl h ↦ damaged (inl h.0) | inr h ↦ damaged (inr (h.1, h.3, h.4)) ]

  none_behind : blocks_from g g.blocks ≡ []
  none_behind = let none : g.blocks - g.blocks ≡ 0 = omega arith in ap (range_with_len g.blocks) none

  -- before the end are the bodies of all blocks
  pub front_whole : (front : List Body) → Front g image g.blocks front → HasBodies g image (all_blocks g) front
  front_whole front is = subst (λ (l : List Body). HasBodies g image (all_blocks g) l) (append-nil front) (is.there [] (subst (λ (l : List ℕ). HasBodies g image l []) (sym none_behind) refl))

  pub front_one : (front bodies : List Body) → Front g image g.blocks front → HasBodies g image (all_blocks g) bodies → bodies ≡ front
  front_one front bodies is has =
      let r = is.only bodies has in
      let none : r.0 ≡ [] = subst (λ (l : List ℕ). HasBodies g image l r.0) none_behind r.1 in
      r.2 ∙ ap (λ (l : List Body). front ++ l) none ∙ append-nil front
