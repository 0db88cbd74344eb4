-- What is torn of a block, its body or its gate, is a change within that block.
use Rattle.std.proofs.Common.{◌≡◌, inl, inr, ℕ, ◌+◌, ◌-◌, ◌≤◌, Bool, true, false, List, take, refl, sym, ◌∙◌, subst, ⊎_elim, arith}
use Rattle.std.specs.Prelude.{◌≢◌, ◌⊎◌, nat_eq}
use Rattle.std.specs.Cmp.Lexicographic.{pointwise}
use Rattle.std.proofs.Math.Nat.{mul-le-mul_right}
use Rattle.std.proofs.Math.Pow.{pow_mono}
use Rattle.std.proofs.lemmas.Bool.{false≢true}
use lib.Pointwise.{bytes_decides}
use Rattle.disk_model.specs.Bytes.{Apart, Torn}
use Rattle.disk_model.specs.Disk.{Images, TornFrom}
use Rattle.block_format.specs.declared.geometry.Geometry.{Geometry}
use Rattle.block_format.specs.Layout.{IsGeometry, IsBlockSize, IsOpen, IsClosed, block_place, gate_text, body_bytes}
use Rattle.law_start.specs.Writes.{DiffersIn}
use Rattle.law_images.specs.Changes.{ChangesIn}

-- a gate is closed or open
pub closed_or_open : (sector : List ℕ) → IsClosed sector ⊎ IsOpen sector
closed_or_open sector = by (pointwise nat_eq (take 16 sector) gate_text) refl
  where
    by : (b : Bool) → pointwise nat_eq (take 16 sector) gate_text ≡ b → IsClosed sector ⊎ IsOpen sector
    by true e = inr ((bytes_decides (take 16 sector) gate_text).0 e)
    by false e = inl (λ open_. false≢true (sym e ∙ (bytes_decides (take 16 sector) gate_text).1 open_))

sized : (size : ℕ) → IsBlockSize size → 16384 ≤ size
sized size is = subst (λ (n : ℕ). 16384 ≤ n) (sym is.3) (pow_mono {i = 14} {j = is.0} is.1)

module _ (g : Geometry) (block : ℕ) (is : IsGeometry g) where
  pub low : 16384 ≤ g.block_size
  low = sized g.block_size is.block_size

  -- a part of another block is apart from this one
  pub away : (k from n : ℕ) → k ≢ block → from + n ≤ g.block_size → Apart (block_place g k + from) n (block_place g block) g.block_size
  away k from n other within = ⊎_elim
      (λ below. inl (omega (arith, mul-le-mul_right {m = k + 1} {n = block} g.block_size below)))
      (λ above. inr (omega (arith, mul-le-mul_right {m = block + 1} {n = k} g.block_size above)))
      sides
    where
      sides : (k + 1 ≤ block) ⊎ (block + 1 ≤ k)
      sides = grind (arith, other)

  whole_differs : (old new : List ℕ) → Torn (block_place g block) g.block_size old new → DiffersIn g block old new
  whole_differs old new torn = record {
    size = torn.size;
    header = torn.apart 0 4096 (inl (omega arith));
    gates = λ k lt other. torn.apart (block_place g k) 4096 (gate_away k other);
    bodies = λ k lt other. torn.apart (block_place g k + 4096) (g.block_size - 4096) (away k 4096 (g.block_size - 4096) other (omega (arith, low)));
  }
    where
      gate_away : (k : ℕ) → k ≢ block → Apart (block_place g k) 4096 (block_place g block) g.block_size
      gate_away k other = subst (λ (p : ℕ). Apart p 4096 (block_place g block) g.block_size) (omega arith) (away k 0 4096 other (omega (arith, low)))

  part_differs : (old new : List ℕ) (place n : ℕ) → block_place g block ≤ place → place + n ≤ block_place g block + g.block_size → Torn place n old new → DiffersIn g block old new
  part_differs old new place n from to torn = whole_differs old new (record { size = torn.size; apart = λ a m away. torn.apart a m (narrowed a m away) })
    where
      narrowed : (a m : ℕ) → Apart a m (block_place g block) g.block_size → Apart a m place n
      narrowed a m (inl before) = inl (omega arith)
      narrowed a m (inr behind) = inr (omega arith)

  -- the body is written
  pub body_changes : (before now : Images) → TornFrom (block_place g block + 4096) (g.block_size - 4096) before now → ChangesIn g block before now
  body_changes before now torn c image =
      let t = torn c image in (t.0, t.1, part_differs t.0 c (block_place g block + 4096) (g.block_size - 4096) (omega arith) (omega (arith, low)) t.2)

  -- the gate is written
  pub gate_changes : (before now : Images) → TornFrom (block_place g block) 4096 before now → ChangesIn g block before now
  gate_changes before now torn c image =
      let t = torn c image in (t.0, t.1, part_differs t.0 c (block_place g block) 4096 (omega arith) (omega (arith, low)) t.2)

  -- and the body behind it stays
  pub body_stays : (old new : List ℕ) → Torn (block_place g block) 4096 old new → body_bytes g block new ≡ body_bytes g block old
  body_stays old new torn = torn.apart (block_place g block + 4096) (g.block_size - 4096) (inr (omega arith))
