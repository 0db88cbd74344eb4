-- The front of the header, and zeros.
use Rattle.std.proofs.Common.{◌≡◌, ◌∙◌, ◌++◌, ap, ℕ, List, length, replicate}
use Rattle.block_format.proofs.Sectors.{front_and_zeros, zeros_room}
use Rattle.block_format.proofs.header.write_header.Goals as goal

pub returns : goal.returns
returns c =
    let front = c.copy_from_slice.ensures.after ∙ c.front_of.ensures in
    let room = zeros_room c.copy_from_slice.new.self c.args.out.now 32 4064 (ap length front) c.told-out in
    let zeros : c.fill.new.self ≡ replicate 4064 0 = c.fill.ensures.after (λ y h. h) ∙ ap (λ (k : ℕ). replicate k 0) room in
    front_and_zeros c.copy_from_slice.new.self c.args.out.now c.fill.new.self 32 4064 (ap length front) c.told-out zeros
    ∙ ap (λ (f : List ℕ). f ++ replicate 4064 0) front
