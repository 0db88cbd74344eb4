-- Bytes that were copied into a part of a list are a write of them.
use Rattle.std.proofs.Common.{◌≡◌, ℕ, ◌+◌, ◌≤◌, min, List, ◌++◌, length, take, drop, sym, ◌∙◌, subst, arith}
use Rattle.std.proofs.Math.Seq.{take-length}
use borrow.Rule.Slice.PartMut.{put_mid}
use Rattle.disk_model.specs.Bytes.{overwrite, overwrite_there, overwrite_torn, over_middle}
use Rattle.disk_model.specs.Disk.{Written}

pub copied : (place start k : ℕ) (held piece copy : List ℕ) → start ≡ min place (length held) → k ≡ length piece → copy ≡ piece → place + length piece ≤ length held
    → Written place piece held (put_mid start k held copy)
copied place start k held piece copy start_is k_is copy_is within =
    subst (λ (l : List ℕ). Written place piece held l) (sym is) (record { there = overwrite_there place piece held within; torn = overwrite_torn place piece held })
  where
    here : start ≡ place
    here = omega arith

    all : copy ≡ take (length piece) piece
    all = copy_is ∙ sym (take-length piece)

    is : put_mid start k held copy ≡ overwrite place piece held
    is = (λ i. take (here i) held ++ (all i ++ drop (k_is i) (drop (here i) held))) ∙ over_middle place piece held (length piece) (omega arith) (omega arith)
