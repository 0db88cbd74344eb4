-- What formatting leaves: closed gates, behind a header.
use Rattle.std.proofs.Common.{◌≡◌, ◌≢◌, inl, inr, ℕ, zero, suc, ◌+◌, ◌<◌, ◌≤◌, List, [], length, take, replicate, refl, sym, ◌∙◌, ap, subst, arith}
use Rattle.std.specs.Prelude.{Result, Ok, Err, OnOk}
use Rattle.std.proofs.Math.Nat.{mul-le-mul_right}
use Rattle.std.proofs.lemmas.List.{take-replicate}
use Rattle.std.specs.List.{range_with_len}
use Rattle.disk_model.specs.Bytes.{Apart, Torn}
use Rattle.disk_model.specs.Disk.{Images, DiskView, IsDisk, Written, Within, TornFrom, IsOnly, Advances, meanwhile}
use Rattle.disk_model.specs.Runs.{Leaves, leaves_then, leaves_more, leaves_now}
use Rattle.block_format.specs.declared.geometry.Geometry.{Geometry}
use Rattle.block_format.specs.Layout.{IsGeometry, IsClosed, gate_text, gate_sector, block_place, closed_sector, device_end, header_text}
use Rattle.block_format.specs.Copies.{HasBodies}
use Rattle.block_format.specs.Copies.{IsFormatted}
use Rattle.shard_core.specs.Finding.{AllClosed, AllZeros, HasHeaderOf, IsHalfFormatted}
use Rattle.cold_scan.proofs.Room.{size_bounds}

zeros_differ : replicate 16 0 ≢ gate_text
zeros_differ same = cc

-- a sector of zeros closes its block
pub closes : (g : Geometry) (block : ℕ) (bytes : List ℕ) → gate_sector g block bytes ≡ closed_sector → IsClosed (gate_sector g block bytes)
closes g block bytes zeros is_open = zeros_differ (sym (ap (take 16) zeros ∙ take-replicate 16 4096 0 (omega arith)) ∙ is_open)

-- the gate sector of a block ends before the next one begins
pub gates_apart : (g : Geometry) (k block : ℕ) → IsGeometry g → k < block → block_place g k + 4096 ≤ block_place g block
gates_apart g k block is lt = omega (arith, (size_bounds g is).0, mul-le-mul_right {m = k + 1} {n = block} g.block_size (omega arith))

-- a write over one block's gate sector, or over the header, leaves the other gates as they were
pub stays_closed : (g : Geometry) (old new : List ℕ) (place : ℕ) (k : ℕ) → Torn place 4096 old new → Apart (block_place g k) 4096 place 4096 → IsClosed (gate_sector g k old)
    → IsClosed (gate_sector g k new)
stays_closed g old new place k torn away closed = subst IsClosed (sym (torn.apart (block_place g k) 4096 away)) closed

-- and the zeros of such a gate stay
pub stays_zeros : (g : Geometry) (old new : List ℕ) (place : ℕ) (k : ℕ) → Torn place 4096 old new → Apart (block_place g k) 4096 place 4096 → gate_sector g k old ≡ closed_sector
    → gate_sector g k new ≡ closed_sector
stays_zeros g old new place k torn away zeros = torn.apart (block_place g k) 4096 away ∙ zeros

pub zeros_close : (g : Geometry) (bytes : List ℕ) (count : ℕ) → AllZeros g bytes count → AllClosed g bytes count
zeros_close g bytes count zeros k lt = closes g k bytes (zeros k lt)

-- the header stands in front of the gates
pub headed : {T E : Type 0} (g : Geometry) (r : Result T E) (old new header : List ℕ) → AllZeros g old g.blocks → header ≡ header_text g → OnOk r (Written 0 header old new)
    → OnOk r (AllZeros g new g.blocks)
headed g (Ok x) old new header zeros text write =
    let written : Written 0 (header_text g) old new = subst (λ (l : List ℕ). Written 0 l old new) text write in
    λ k lt. stays_zeros g old new 0 k written.torn (inr (omega arith)) (zeros k lt)
headed g (Err e) old new header zeros text write = tt

no_bodies : (g : Geometry) (bytes : List ℕ) (a n : ℕ) → ((k : ℕ) → k < a + n → IsClosed (gate_sector g k bytes)) → HasBodies g bytes (range_with_len a n) []
no_bodies g bytes a zero closed = refl
no_bodies g bytes a (suc n) closed = inl (closed a (omega arith), no_bodies g bytes (a + 1) n (λ k lt. closed k (omega arith)))

-- the bytes of a written gate, at their block
pub gate_written : (g : Geometry) (block : ℕ) (old new gate : List ℕ) (place : ℕ) → gate ≡ closed_sector → place ≡ block_place g block → Written place gate old new
    → Written (block_place g block) closed_sector old new
gate_written g block old new gate place zeros is write =
    subst (λ (p : ℕ). Written p closed_sector old new) is (subst (λ (l : List ℕ). Written place l old new) zeros write)

is_formatted : (g : Geometry) (old new : List ℕ) → IsGeometry g → AllClosed g old g.blocks → Written 0 (header_text g) old new → device_end g ≤ length new → IsFormatted g new
is_formatted g old new is closed header size = record {
  header = record { geometry = is; text = header.there };
  size = size;
  blocks = no_bodies g new 0 g.blocks (λ k lt. stays_closed g old new 0 k header.torn (inr (omega arith)) (closed k (omega arith)));
}

pub formatted : {T E : Type 0} (g : Geometry) (r : Result T E) (old new header : List ℕ) → IsGeometry g → AllClosed g old g.blocks → header ≡ header_text g
    → OnOk r (Written 0 header old new) → device_end g ≤ length new → OnOk r (IsFormatted g new)
formatted g (Ok x) old new header is closed text write size = is_formatted g old new is closed (subst (λ (l : List ℕ). Written 0 l old new) text write) size
formatted g (Err e) old new header is closed text write size = tt

-- ---- formatting, as a crash may show it

module _ (old mid new : DiskView) (is : IsDisk mid) where
  -- a call that brings up no image
  pub leaves_same : (P : Images) → Leaves P old mid → Advances mid new → Within mid.may_leave (meanwhile mid new) → Leaves P old new
  leaves_same P run time images = leaves_then run (record { time = time; each = λ c left. leaves_now is run c (images c left) })

  -- a write behind the header
  pub header_stays : (before : Images) (place n : ℕ) → 4096 ≤ place → Leaves (HasHeaderOf before) old mid → Advances mid new → TornFrom place n mid.may_leave (meanwhile mid new)
      → Leaves (HasHeaderOf before) old new
  header_stays before place n behind run time images =
      leaves_then run (record {
        time = time;
        each = λ c left.
            let from = images c left in
            let has = leaves_now is run from.0 from.1 in
            (has.0, has.1, from.2.apart 0 4096 (inl behind) ∙ has.2);
      })

  -- the header's own write, over closed gates
  pub header_comes : (g : Geometry) (before : Images) (bytes : List ℕ) (n : ℕ) → n ≡ 4096 → AllClosed g bytes g.blocks → IsOnly bytes mid.may_leave
      → Leaves (HasHeaderOf before) old mid → Advances mid new → TornFrom 0 n mid.may_leave (meanwhile mid new)
      → Leaves (IsHalfFormatted g before) old new
  header_comes g before bytes n size closed only run time images =
      leaves_then (leaves_more (λ c has. inl has) run) (record {
        time = time;
        each = λ c left.
            let from = images c left in
            inr (λ k lt. stays_closed g from.0 c 0 k (subst (λ (m : ℕ). Torn 0 m from.0 c) size from.2) (inr (gate_behind g k))
            (subst (λ (l : List ℕ). IsClosed (gate_sector g k l)) (sym (only.alone from.0 from.1)) (closed k lt)));
      })
    where
      gate_behind : (g : Geometry) (k : ℕ) → 0 + 4096 ≤ block_place g k
      gate_behind g k = omega arith
