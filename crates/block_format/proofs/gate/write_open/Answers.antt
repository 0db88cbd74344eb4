-- The words that open a gate, and zeros.
use Rattle.std.proofs.Common.{◌≡◌, ◌∙◌, ◌++◌, ap, ℕ, List, length, replicate}
use Rattle.block_format.proofs.Sectors.{front_and_zeros, zeros_room}
use Rattle.block_format.proofs.gate.write_open.Goals as goal

pub returns : goal.returns
returns c =
    let opened = c.copy_from_slice.ensures.after in
    let room = zeros_room c.copy_from_slice.new.self c.args.sector.now 16 4080 (ap length opened) c.told-sector in
    let zeros : c.fill.new.self ≡ replicate 4080 0 = c.fill.ensures.after (λ y h. h) ∙ ap (λ (k : ℕ). replicate k 0) room in
    front_and_zeros c.copy_from_slice.new.self c.args.sector.now c.fill.new.self 16 4080 (ap length opened) c.told-sector zeros
    ∙ ap (λ (f : List ℕ). f ++ replicate 4080 0) opened
