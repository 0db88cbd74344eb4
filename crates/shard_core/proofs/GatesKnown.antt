-- What is known of each gate behind a scan of a disk that has one image.
use Rattle.std.proofs.Common.{◌≡◌, ◌≢◌, inl, inr, ℕ, List, length, sym, ap, subst, arith}
use Rattle.std.specs.List.{AllByRecursion, range_with_len}
use Rattle.std.proofs.lemmas.Option.{slice_get-get_or}
use Rattle.std.proofs.lemmas.List.Elements.{Contains-get_or}
use Rattle.law_lists.proofs.Each.{all_at, all_map}
use Rattle.disk_model.specs.Disk.{Images, IsOnly}
use Rattle.block_format.specs.declared.geometry.Geometry.{Geometry}
use Rattle.block_format.specs.declared.geometry.Gate.{Gate}
use Rattle.block_format.specs.declared.geometry.Gate.TheVariants.{Shut, Set, Unsure}
use Rattle.block_format.specs.Layout.{IsOpen, IsClosed, gate_sector, body_bytes, Body}
use Rattle.block_format.specs.Copies.{HasBodies}
use Rattle.block_format.specs.Refusals.{IsBlock}
use Rattle.block_flusher.specs.Images.{IsBodyOf}
use Rattle.law_images.specs.Gates.{GateStands}
use Rattle.law_images.specs.Held.{AreSure}
use Rattle.block_shelf.specs.View.{GatesStand, gate_at}
use Rattle.block_shelf.specs.View as shelf
use Rattle.cold_scan.specs.Found.{IsSure, TellsSector, AreGates}
use Rattle.cold_scan.proofs.Scans.{each_block}

module _ (g : Geometry) (bytes : List ℕ) (images : Images) (only : IsOnly bytes images) where
  body_there : (block : ℕ) → IsBlock g bytes block → IsOpen (gate_sector g block bytes) → IsBodyOf g block (body_bytes g block bytes)
  body_there block (inl closed) opens = absurd (closed opens)
  body_there block (inr body) opens = body

  one_stands : (block : ℕ) → IsBlock g bytes block → (gate : Gate) → TellsSector gate (gate_sector g block bytes) → GateStands g images block gate
  one_stands block there Shut told = λ c left. subst (λ (l : List ℕ). IsClosed (gate_sector g block l)) (sym (only.alone c left)) told
  one_stands block there Set told = (
    λ c left. subst (λ (l : List ℕ). IsOpen (gate_sector g block l)) (sym (only.alone c left)) told,
    (body_bytes g block bytes, record { one = λ c left. ap (body_bytes g block) (only.alone c left); is_body = body_there block there told }),
  )
  one_stands block there Unsure told = absurd told

  pub gates_stand : (gates : List Gate) (bodies : List Body) → length gates ≡ g.blocks → AreGates g bytes gates → HasBodies g bytes (range_with_len 0 g.blocks) bodies → GatesStand g images gates
  gates_stand gates bodies count are has block lt =
      one_stands block (each_block g bytes 0 g.blocks bodies has block (omega arith) (omega (arith, lt))) (gate_at gates block)
      (are block (gate_at gates block) (slice_get-get_or gates block Shut (omega (arith, lt, count))))

sure_is : (gate : Gate) → IsSure gate → gate ≢ Unsure
sure_is Shut sure same = cc
sure_is Set sure same = cc
sure_is Unsure sure same = sure

pub gates_sure : (g : Geometry) (gates : List Gate) → length gates ≡ g.blocks → AllByRecursion IsSure gates → AreSure g (gate_at gates)
gates_sure g gates count sure block lt = sure_is (gate_at gates block) (all_at IsSure gates (gate_at gates block) sure (Contains-get_or gates block Shut (omega (arith, lt, count))))

-- none is unsure
pub none_unsure : (gates : List Gate) → AllByRecursion IsSure gates → shelf.AreSure gates
none_unsure gates sure = all_map IsSure (λ (gate : Gate). gate ≢ Unsure) gates sure_is sure
