use Rattle.std.proofs.Common.{◌≤◌, ◌+◌, ◌*◌, length, arith, rules}
use Rattle.test_hist.proofs.Places.{place_within}
use Rattle.test_hist.proofs.reading.record_at.Goals as goal

pub slice_bounds-parse-count : goal.slice_bounds-parse-count
slice_bounds-parse-count c = let r = c.requires in omega (arith, place_within c.args.body.now _ r.0 r.1 r.2)

pub slice_bounds-parse-start : goal.slice_bounds-parse-start
slice_bounds-parse-start c =
    let r = c.requires in
    let inside : 32 + 16 * c.args.unit ≤ length c.args.body.now = omega (arith, place_within c.args.body.now _ r.0 r.1 r.2) in
    search (rules, inside)
