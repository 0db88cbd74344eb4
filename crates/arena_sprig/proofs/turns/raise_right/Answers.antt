use Rattle.std.proofs.Common.{◌≡◌, ℕ, List, ap, sym, subst, ◌∙◌}
use Rattle.arena_sprig.specs.declared.links.Link.{Link}
use Rattle.arena_sprig.specs.Tree.{left_of, with_right, with_left, pointed, root_by, right_raised, IsPlaced}
use Rattle.arena_sprig.proofs.Turned.{right_kept, right_turned}
use Rattle.arena_sprig.proofs.turns.raise_right.Goals as goal

pub returns-then-right : goal.returns-then-right
returns-then-right c = λ slots p t placed.
    right_kept slots c.args.links.now c.args.root.now p c.args.gap c.args.at t (sym (ap (λ (k : Link). k.right) c.link_of-right.ensures) ∙ c.if-right.true) placed

pub returns : goal.returns
returns c = λ slots p t placed.
    let links = c.args.links.now in
    let at = c.args.at in
    let gap = c.args.gap in
    let up = c.link_of-right.result.right in
    let up_is = ap (λ (k : Link). k.right) c.link_of-right.ensures in
    let done = right_turned slots links c.args.root.now p gap at t (λ none. c.if-right.false (up_is ∙ none)) placed in
    let moved = subst (λ y. IsPlaced slots (pointed gap y (with_left y at (with_right at (left_of links y) links))) (root_by gap y c.args.root.now) p gap y (right_raised t)) (sym up_is) done in
    let first : c.set_right.new.links ≡ with_right at (left_of links up) links = c.set_right.ensures ∙ ap (λ (k : Link). with_right at k.left links) c.link_of-inner.ensures in
    let all : c.point.new.links ≡ pointed gap up (with_left up at (with_right at (left_of links up) links)) =
    c.point.ensures.links ∙ ap (λ (l : List Link). pointed gap up l) (c.set_left.ensures ∙ ap (λ (l : List Link). with_left up at l) first) in
    subst (λ (l : List Link). IsPlaced slots l c.point.new.root p gap up (right_raised t)) (sym all)
    (subst (λ (r : ℕ). IsPlaced slots (pointed gap up (with_left up at (with_right at (left_of links up) links))) r p gap up (right_raised t)) (sym c.point.ensures.root) moved)
