use Rattle.std.proofs.Common.{◌≡◌, ℕ, ◌+◌, ◌-◌, ◌≤◌, length, take, drop, ◌∙◌, ap, arith, rules}
use Rattle.std.proofs.lemmas.List.{length-drop, length-take}
use Rattle.test_hist.proofs.Places.{size_bounds, block_within}
use Rattle.test_hist.proofs.reading.body_of.Goals as goal

pub slice_bounds-result-count : goal.slice_bounds-result-count
slice_bounds-result-count c = omega (arith, (size_bounds c.args.geometry.now c.requires.geometry).0)

pub slice_bounds-result-start : goal.slice_bounds-result-start
slice_bounds-result-start c =
    let inside : c.place_of-place.result + 4096 ≤ c.place_of-place.result + c.args.geometry.now.block_size = omega (arith, (size_bounds c.args.geometry.now c.requires.geometry).0) in
    search (rules, inside)

pub slice_bounds-result-end : goal.slice_bounds-result-end
slice_bounds-result-end c =
    let g = c.args.geometry.now in
    let inside : c.place_of-place.result + g.block_size ≤ length c.args.image.now = omega (arith, block_within g c.args.block c.requires.block, c.requires.room, c.place_of-place.ensures) in
    search (rules, inside)

pub returns-clause-bytes : goal.returns-clause-bytes
returns-clause-bytes c =
    let g = c.args.geometry.now in
    let image = c.args.image.now in
    let long : c.place_of-place.result + g.block_size - (c.place_of-place.result + 4096) ≡ g.block_size - 4096 = omega arith in
    ap (λ (n : ℕ). take n (drop (c.place_of-place.result + 4096) image)) long ∙ ap (λ (p : ℕ). take (g.block_size - 4096) (drop (p + 4096) image)) c.place_of-place.ensures

pub returns-clause-size : goal.returns-clause-size
returns-clause-size c =
    let g = c.args.geometry.now in
    let image = c.args.image.now in
    let place = c.place_of-place.result in
    let inside : place + g.block_size ≤ length image = omega (arith, block_within g c.args.block c.requires.block, c.requires.room, c.place_of-place.ensures) in
    omega (arith, inside, length-take (place + g.block_size - (place + 4096)) (drop (place + 4096) image), length-drop (place + 4096) image)
