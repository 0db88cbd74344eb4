use Rattle.std.proofs.Common.{◌≡◌, ℕ, ◌+◌, ◌-◌, ◌≤◌, length, take, drop, ◌∙◌, ap, arith, rules}
use Rattle.test_hist.proofs.Places.{size_bounds, block_within}
use Rattle.test_hist.proofs.reading.gate_of.Goals as goal

pub slice_bounds-result-end : goal.slice_bounds-result-end
slice_bounds-result-end c =
    let g = c.args.geometry.now in
    let inside : c.place_of-place.result + 4096 ≤ length c.args.image.now =
    omega (arith, (size_bounds g c.requires.geometry).0, block_within g c.args.block c.requires.block, c.requires.room, c.place_of-place.ensures) in
    search (rules, inside)

pub returns-clause-bytes : goal.returns-clause-bytes
returns-clause-bytes c =
    let image = c.args.image.now in
    let long : c.place_of-place.result + 4096 - c.place_of-place.result ≡ 4096 = omega arith in
    ap (λ (n : ℕ). take n (drop c.place_of-place.result image)) long ∙ ap (λ (p : ℕ). take 4096 (drop p image)) c.place_of-place.ensures
