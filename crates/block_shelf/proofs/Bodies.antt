-- Which bodies stand in the bytes of a disk that tells them, through the calls of a shelf.
use Rattle.std.proofs.Common.{◌≡◌, ◌≢◌, inl, inr, ⊎_elim, ℕ, ◌+◌, ◌-◌, ◌≤◌, true, false, List, [], ◌∷◌, ◌++◌, map, None, sym, ◌∙◌, ap, subst, arith}
use Rattle.std.specs.List.{AllByRecursion}
use Rattle.std.proofs.lemmas.Bool.{false≢true, cases_eq}
use Rattle.law_lists.proofs.Between.{all_own, all_without, all_with}
use Rattle.law_lists.proofs.Each.{all_map, all_both, all_joined, all_before_map}
use Rattle.disk_model.specs.Bytes.{Apart, Torn}
use Rattle.disk_model.specs.Disk.{DiskView, TellsSame, TellsTorn}
use Rattle.block_format.specs.declared.geometry.Geometry.{Geometry}
use Rattle.block_format.specs.Layout.{IsGeometry, block_place, body_bytes}
use Rattle.law_images.proofs.Parts.{away, low, body_stays}
use Rattle.write_buffer.specs.declared.phase.Phase.{Phase}
use Rattle.write_buffer.specs.Buffers.{BufferState, with_phase}
use Rattle.post_cache.specs.Bodies.{KeptBody, CacheState, kept_at}
use Rattle.post_cache.proofs.Laws.{absent-all, all-with, all-without}
use Rattle.block_shelf.specs.View.{IsKeptOf, BodyStands, BodiesStand, is_written}
use Rattle.block_shelf.specs.Changes.{with_flushed, without_kept}

-- ---- what is written of a block

module _ (g : Geometry) (is : IsGeometry g) (block : ℕ) where
  -- what is torn within a block leaves the bodies of the others
  part_stays : (old new : List ℕ) (place n : ℕ) → block_place g block ≤ place → place + n ≤ block_place g block + g.block_size → Torn place n old new
      → (k : ℕ) → k ≢ block → body_bytes g k new ≡ body_bytes g k old
  part_stays old new place n from to torn k other =
      torn.apart (block_place g k + 4096) (g.block_size - 4096) (narrowed (away g block is k 4096 (g.block_size - 4096) other (omega (arith, low g block is))))
    where
      narrowed : Apart (block_place g k + 4096) (g.block_size - 4096) (block_place g block) g.block_size → Apart (block_place g k + 4096) (g.block_size - 4096) place n
      narrowed (inl before) = inl (omega arith)
      narrowed (inr behind) = inr (omega arith)

  -- its body
  pub other_bodies : (old new : List ℕ) → Torn (block_place g block + 4096) (g.block_size - 4096) old new → (k : ℕ) → k ≢ block → body_bytes g k new ≡ body_bytes g k old
  other_bodies old new torn = part_stays old new (block_place g block + 4096) (g.block_size - 4096) (omega arith) (omega (arith, low g block is)) torn

  -- its gate
  pub all_bodies : (old new : List ℕ) → Torn (block_place g block) 4096 old new → (k : ℕ) → body_bytes g k new ≡ body_bytes g k old
  all_bodies old new torn k = ⊎_elim
      (λ (here : k ≡ block). subst (λ (j : ℕ). body_bytes g j new ≡ body_bytes g j old) (sym here) (body_stays g block is old new torn))
      (λ (other : k ≢ block). part_stays old new (block_place g block) 4096 (omega arith) (omega (arith, low g block is)) torn k other)
      (cases_eq k block)

-- ---- the bodies that were written

module _ (g : Geometry) (old new : List ℕ) (buffers : List BufferState) (kept : List (KeptBody BufferState)) where
  bodies_same : ((k : ℕ) → body_bytes g k new ≡ body_bytes g k old) → BodiesStand g old buffers kept → BodiesStand g new buffers kept
  bodies_same same stand = record {
    pending = all_map (λ b. is_written b.phase ≡ true → BodyStands g old b) (λ b. is_written b.phase ≡ true → BodyStands g new b) buffers
        (λ b was written. same b.block ∙ was written) stand.pending;
    flushed = all_map (λ k. BodyStands g old k.body) (λ k. BodyStands g new k.body) kept (λ k was. same k.body.block ∙ was) stand.flushed;
  }

-- the disk was only read
pub bodies_read : (g : Geometry) (old new : DiskView) (buffers : List BufferState) (kept : List (KeptBody BufferState)) → (new.tells → old.tells) → TellsSame old new
    → (old.tells → BodiesStand g old.seen buffers kept) → new.tells → BodiesStand g new.seen buffers kept
bodies_read g old new buffers kept was same stand told =
    bodies_same g old.seen new.seen buffers kept (λ k. ap (body_bytes g k) (same (was told)).1) (stand (was told))

-- the gate of a block was written
pub bodies_gate : (g : Geometry) → IsGeometry g → (block : ℕ) (old new : DiskView) (buffers : List BufferState) (kept : List (KeptBody BufferState)) → (new.tells → old.tells)
    → TellsTorn (block_place g block) 4096 old new → (old.tells → BodiesStand g old.seen buffers kept) → new.tells → BodiesStand g new.seen buffers kept
bodies_gate g is block old new buffers kept was torn stand told =
    bodies_same g old.seen new.seen buffers kept (all_bodies g is block old.seen new.seen (torn (was told)).1) (stand (was told))

-- a buffer is of a later phase
pub bodies_phase : (g : Geometry) (bytes : List ℕ) (front : List BufferState) (b : BufferState) (behind : List BufferState) (kept : List (KeptBody BufferState)) (p : Phase)
    → is_written b.phase ≡ true → BodiesStand g bytes (front ++ b ∷ behind) kept → BodiesStand g bytes (front ++ with_phase p b ∷ behind) kept
bodies_phase g bytes front b behind kept p written stand = record {
  pending = all_with (λ c. is_written c.phase ≡ true → BodyStands g bytes c) front (with_phase p b) behind
      (all_without (λ c. is_written c.phase ≡ true → BodyStands g bytes c) front b behind stand.pending)
      (λ later. all_own (λ c. is_written c.phase ≡ true → BodyStands g bytes c) front b behind stand.pending written);
  flushed = stand.flushed;
}

-- the body of a buffer was written, or maybe in part
module _ (g : Geometry) (is : IsGeometry g) (old new : DiskView) (front : List BufferState) (b : BufferState) (behind : List BufferState) (kept : List (KeptBody BufferState))
    (others : AllByRecursion (λ c. c.block ≢ b.block) (front ++ behind)) (each : AllByRecursion (IsKeptOf g) kept)
    (apart : AllByRecursion (λ n. kept_at n kept ≡ None) (map (λ c. c.block) (front ++ b ∷ behind))) where
  unkept : AllByRecursion (λ k. k.block ≢ b.block) kept
  unkept = absent-all b.block kept (all_own (λ c. kept_at c.block kept ≡ None) front b behind
      (all_before_map (λ c. kept_at c.block kept ≡ None) (λ n. kept_at n kept ≡ None) (λ c. c.block) (λ c absent. absent) (front ++ b ∷ behind) apart))

  pub bodies_body : (p : Phase) → (new.tells → old.tells) → TellsTorn (block_place g b.block + 4096) (g.block_size - 4096) old new → (new.tells → is_written p ≡ true → BodyStands g new.seen b)
      → (old.tells → BodiesStand g old.seen (front ++ b ∷ behind) kept) → new.tells → BodiesStand g new.seen (front ++ with_phase p b ∷ behind) kept
  bodies_body p was torn own stand told = record {
    pending = all_with (λ c. is_written c.phase ≡ true → BodyStands g new.seen c) front (with_phase p b) behind
        (all_both (λ c. c.block ≢ b.block) (λ c. is_written c.phase ≡ true → BodyStands g old.seen c) (λ c. is_written c.phase ≡ true → BodyStands g new.seen c)
        (λ c other there written. same c.block other ∙ there written) (front ++ behind) others
        (all_without (λ c. is_written c.phase ≡ true → BodyStands g old.seen c) front b behind before.pending)) (own told);
    flushed = all_both (λ k. (k.block ≢ b.block) × IsKeptOf g k) (λ k. BodyStands g old.seen k.body) (λ k. BodyStands g new.seen k.body)
        (λ k of there. same k.body.block (λ here. of.0 (sym of.1.block ∙ here)) ∙ there) kept
        (all_both (λ k. k.block ≢ b.block) (IsKeptOf g) (λ k. (k.block ≢ b.block) × IsKeptOf g k) (λ k other of. (other, of)) kept unkept each) before.flushed;
  }
    where
      before : BodiesStand g old.seen (front ++ b ∷ behind) kept
      before = stand (was told)

      same : (k : ℕ) → k ≢ b.block → body_bytes g k new.seen ≡ body_bytes g k old.seen
      same = other_bodies g is b.block old.seen new.seen (torn (was told)).1

-- it is flushed, and kept
pub bodies_flushed : (g : Geometry) (bytes : List ℕ) (front : List BufferState) (b : BufferState) (behind : List BufferState) (cache : CacheState BufferState) → is_written b.phase ≡ true
    → BodiesStand g bytes (front ++ b ∷ behind) cache.kept → BodiesStand g bytes (front ++ behind) (with_flushed b cache).kept
bodies_flushed g bytes front b behind cache written stand = record {
  pending = all_without (λ c. is_written c.phase ≡ true → BodyStands g bytes c) front b behind stand.pending;
  flushed = all-with cache.limit b.block b cache.kept (λ k. BodyStands g bytes k.body) stand.flushed
      (all_own (λ c. is_written c.phase ≡ true → BodyStands g bytes c) front b behind stand.pending written);
}

-- another one begins, and what was kept of its block is forgotten
pub bodies_begun : (g : Geometry) (bytes : List ℕ) (buffers : List BufferState) (last : BufferState) (block : ℕ) (cache : CacheState BufferState) → is_written last.phase ≡ false
    → BodiesStand g bytes buffers cache.kept → BodiesStand g bytes (buffers ++ last ∷ []) (without_kept block cache).kept
bodies_begun g bytes buffers last block cache unwritten stand = record {
  pending = all_joined (λ c. is_written c.phase ≡ true → BodyStands g bytes c) buffers (last ∷ []) stand.pending ((λ written. absurd (false≢true (sym unwritten ∙ written))), tt);
  flushed = all-without (λ k. BodyStands g bytes k.body) block cache.kept stand.flushed;
}
