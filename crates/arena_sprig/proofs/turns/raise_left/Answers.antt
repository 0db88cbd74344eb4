use Rattle.std.proofs.Common.{◌≡◌, ℕ, List, ap, sym, subst, ◌∙◌}
use Rattle.arena_sprig.specs.declared.links.Link.{Link}
use Rattle.arena_sprig.specs.Tree.{right_of, with_left, with_right, pointed, root_by, left_raised, IsPlaced}
use Rattle.arena_sprig.proofs.Turned.{left_kept, left_turned}
use Rattle.arena_sprig.proofs.turns.raise_left.Goals as goal

pub returns-then-left : goal.returns-then-left
returns-then-left c = λ slots p t placed.
    left_kept slots c.args.links.now c.args.root.now p c.args.gap c.args.at t (sym (ap (λ (k : Link). k.left) c.link_of-left.ensures) ∙ c.if-left.true) placed

pub returns : goal.returns
returns c = λ slots p t placed.
    let links = c.args.links.now in
    let at = c.args.at in
    let gap = c.args.gap in
    let up = c.link_of-left.result.left in
    let up_is = ap (λ (k : Link). k.left) c.link_of-left.ensures in
    let done = left_turned slots links c.args.root.now p gap at t (λ none. c.if-left.false (up_is ∙ none)) placed in
    let moved = subst (λ y. IsPlaced slots (pointed gap y (with_right y at (with_left at (right_of links y) links))) (root_by gap y c.args.root.now) p gap y (left_raised t)) (sym up_is) done in
    let first : c.set_left.new.links ≡ with_left at (right_of links up) links = c.set_left.ensures ∙ ap (λ (k : Link). with_left at k.right links) c.link_of-inner.ensures in
    let all : c.point.new.links ≡ pointed gap up (with_right up at (with_left at (right_of links up) links)) =
    c.point.ensures.links ∙ ap (λ (l : List Link). pointed gap up l) (c.set_right.ensures ∙ ap (λ (l : List Link). with_right up at l) first) in
    subst (λ (l : List Link). IsPlaced slots l c.point.new.root p gap up (left_raised t)) (sym all)
    (subst (λ (r : ℕ). IsPlaced slots (pointed gap up (with_right up at (with_left at (right_of links up) links))) r p gap up (left_raised t)) (sym c.point.ensures.root) moved)
