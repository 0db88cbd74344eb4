-- What was found on a device is what a shard begins with.
use Rattle.std.proofs.Common.{◌≡◌, ℕ, ◌+◌, ◌-◌, ◌≤◌, List, length, sym, ◌∙◌, ap, subst, arith}
use Rattle.std.proofs.lemmas.List.{take_all}
use Rattle.rec_format.specs.Versions.{top_number}
use Rattle.block_format.specs.Layout.{Body}
use Rattle.block_format.specs.Copies.{copies_of}
use Rattle.law_start.specs.Start.{greatest_number}
use Rattle.cold_scan.specs.declared.device.Finding as scanned
use Rattle.cold_scan.specs.Found.{set_blocks, HasFound}
use Rattle.shard_core.specs.declared.settings.Settings.{Settings}
use Rattle.shard_core.specs.declared.index.Finding.{Finding}
use Rattle.shard_core.specs.View.{setup_for}
use Rattle.shard_core.specs.Finding.{AreLatest, IsFinding}

before_next : (n next greatest : ℕ) → n ≡ next - 1 → next ≡ greatest + 1 → n ≡ greatest
before_next n next greatest one more = omega arith

pub is_finding : {D : Type 0} (found : scanned.Finding D) (set : Settings) (bodies : List Body) (new : Finding) → HasFound found bodies → length found.gates.items ≡ found.geometry.blocks
    → AreLatest (setup_for found.geometry set) (copies_of bodies) new.sprigs.items → new.greatest ≡ found.next_number - 1
    → IsFinding found.geometry set found.gates.items found.geometry.blocks bodies new
is_finding found set bodies new has count latest number =
    let greatest = before_next new.greatest found.next_number (greatest_number bodies) number has.next in
    record {
      latest = latest;
      lie = has.lie;
      opened = has.opened ∙ ap (set_blocks 0) (sym (take_all found.geometry.blocks found.gates.items (omega (arith, count))));
      number = greatest;
      top = subst (λ (n : ℕ). n ≤ top_number) (sym greatest) has.top;
    }
