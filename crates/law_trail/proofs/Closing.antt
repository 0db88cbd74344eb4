-- When the gate of a block is closed its body goes from the image, and where the block is free trails are kept.
use Rattle.std.proofs.Common.{◌≡◌, ◌≢◌, ◌⊎◌, inl, inr, ℕ, ◌<◌, ◌≤◌, not, List, [], ◌∷◌, sym, ◌∙◌, ap, subst, arith}
use Rattle.std.proofs.lemmas.Bool.{cases_eq, eq-eqb, ne_eqb, not_from_true, not_from_false, cond-true, cond-false}
use Rattle.std.specs.Prelude.{◌==◌, Contains}
use Rattle.std.specs.List.{AllByRecursion, range_with_len}
use Rattle.law_lists.proofs.Each.{all_at}
use Rattle.law_lists.proofs.Members.{filter_there}
use Rattle.law_lists.proofs.Ranges.{range_below}
use Rattle.rec_format.specs.Versions.{block_capacity}
use Rattle.model_device.specs.Device.{State}
use Rattle.block_format.specs.declared.geometry.Geometry.{Geometry}
use Rattle.block_format.specs.Layout.{IsOpen, IsClosed, gate_sector, device_end, Body, IsBody, IsHeader}
use Rattle.block_format.specs.Copies.{HasBodies, IsReadable}
use Rattle.law_start.specs.Writes.{DiffersIn}
use Rattle.law_trail.specs.Trail.{Records, IsTrailed, IsBooked, without_body}
use Rattle.law_trail.proofs.Carrying.{bodies_kept}

module _ (g : Geometry) (block : ℕ) (old new : List ℕ) (differs : DiffersIn g block old new) (closed : IsClosed (gate_sector g block new)) where
  abbrev IsLeft : List ℕ → Type 0
  IsLeft blocks = (bodies : List Body) → HasBodies g old blocks bodies → HasBodies g new blocks (without_body block bodies)

  left_at : (k : ℕ) (blocks : List ℕ) (bodies : List Body) → k < g.blocks → (k ≡ block) ⊎ (k ≢ block) → IsLeft blocks → HasBodies g old (k ∷ blocks) bodies
      → HasBodies g new (k ∷ blocks) (without_body block bodies)
  left_at k blocks bodies lt (inl same) rest (inl h) = inl (subst (λ (b : ℕ). IsClosed (gate_sector g b new)) (sym same) closed, rest bodies h.1)
  left_at k blocks bodies lt (inl same) rest (inr h) = inl (
    subst (λ (b : ℕ). IsClosed (gate_sector g b new)) (sym same) closed,
    subst (HasBodies g new blocks)
        (sym (ap (without_body block) h.5 ∙ cond-false (not (h.1.block == block)) (h.1 ∷ without_body block h.2) (without_body block h.2)
        (not_from_true (h.1.block == block) (eq-eqb h.1.block block (h.4 ∙ same))))) (rest h.2 h.6),
  )
  left_at k blocks bodies lt (inr apart) rest (inl h) = inl (subst IsClosed (sym (differs.gates k lt apart)) h.0, rest bodies h.1)
  left_at k blocks bodies lt (inr apart) rest (inr h) = inr (
    subst IsOpen (sym (differs.gates k lt apart)) h.0,
    h.1,
    without_body block h.2,
    subst (λ (bytes : List ℕ). IsBody (block_capacity g.block_size) bytes h.1) (sym (differs.bodies k lt apart)) h.3,
    h.4,
    ap (without_body block) h.5
        ∙ cond-true (not (h.1.block == block)) (h.1 ∷ without_body block h.2) (without_body block h.2) (not_from_false (h.1.block == block) (ne_eqb h.1.block block (λ e. apart (sym h.4 ∙ e)))),
    rest h.2 h.6,
  )

  bodies_left : (blocks : List ℕ) → AllByRecursion (λ k. k < g.blocks) blocks → IsLeft blocks
  bodies_left [] all bodies none = ap (without_body block) none
  bodies_left (k ∷ blocks) all bodies has = left_at k blocks bodies all.0 (cases_eq k block) (bodies_left blocks all.1) has

  -- the image has the bodies of before but that of the block
  pub readable_closed : (bodies : List Body) → IsReadable old g bodies → IsReadable new g (without_body block bodies)
  readable_closed bodies r = record {
    header = subst (λ (bytes : List ℕ). IsHeader bytes g) (sym differs.header) r.header;
    size = subst (λ (n : ℕ). device_end g ≤ n) (sym differs.size) r.size;
    blocks = bodies_left (range_with_len 0 g.blocks) (range_below 0 g.blocks g.blocks (omega arith)) bodies r.blocks;
  }

-- the body of a free block goes
pub closed_trailed : (s : State) (records : Records) (bodies : List Body) (block : ℕ) → IsBooked s.book → Contains s.book.free block → IsTrailed s records bodies
    → IsTrailed s records (without_body block bodies)
closed_trailed s records bodies block booked free trailed =
    bodies_kept s records bodies (without_body block bodies) booked
    (λ body there none used. filter_there (λ (b : Body). not (b.block == block)) bodies body
    (not_from_false (body.block == block) (ne_eqb body.block block (λ e. all_at (λ b. b ≢ body.block) s.book.free block used free (sym e)))) there) trailed
