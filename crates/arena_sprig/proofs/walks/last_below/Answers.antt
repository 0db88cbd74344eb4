use Rattle.std.proofs.Common.{◌+◌, sym, subst, ap, ◌∙◌}
use Rattle.arena_sprig.specs.declared.links.Link.{Link}
use Rattle.arena_sprig.specs.declared.links.Gap.TheVariants.{Left, Right}
use Rattle.arena_sprig.specs.Tree.{Node}
use Rattle.arena_sprig.proofs.Lasts.{IsNearing, nearing, nearing_evened, farther, nearest, nearest_spent}
use Rattle.arena_sprig.proofs.walks.last_below.Goals as goal

pub loop-step-init : goal.loop-step-init
loop-step-init c = λ slots outer outer_gap entry a low below b r placed small.
    subst (λ n. IsNearing slots c.args.links.now c.args.root.now outer c.args.slot entry r (Node a low below b) (Left c.args.slot) n 0 c.args.count)
    (sym (ap (λ (l : Link). l.left) c.link_of-at.ensures))
    (nearing slots c.args.links.now c.args.root.now outer c.args.slot entry r c.args.count outer_gap a b low below placed small)

pub returns-then-right : goal.returns-then-right
returns-then-right c = λ slots outer outer_gap entry a low below b r placed small.
    let way = c.loop-step.invariant slots outer outer_gap entry a low below b r placed small in
    let even = nearing_evened slots c.loop-step.links c.loop-step.root outer c.args.slot entry r c.args.count (Node a low below b) c.loop-step.gap
    c.loop-step.at c.loop-step.step c.even_out-at.new.links c.even_out-at.new.root c.even_out-at.result c.even_out-at.ensures way in
    nearest slots c.even_out-at.new.links c.even_out-at.new.root outer c.args.slot entry r c.args.count (Node a low below b) c.loop-step.gap
    c.even_out-at.result c.loop-step.step even (sym (ap (λ (l : Link). l.right) c.link_of-right.ensures) ∙ c.if-right.true)

pub returns : goal.returns
returns c = λ slots outer outer_gap entry a low below b r placed small.
    let way = c.loop-step.invariant slots outer outer_gap entry a low below b r placed small in
    nearest_spent slots c.loop-step.links c.loop-step.root outer c.args.slot entry r c.args.count (Node a low below b) c.loop-step.gap c.loop-step.at c.loop-step.step way c.loop-step-test.false

pub loop-step-preserved : goal.loop-step-preserved
loop-step-preserved c = λ slots outer outer_gap entry a low below b r placed small.
    let way = c.loop-step.invariant slots outer outer_gap entry a low below b r placed small in
    let even = nearing_evened slots c.loop-step.links c.loop-step.root outer c.args.slot entry r c.args.count (Node a low below b) c.loop-step.gap
    c.loop-step.at c.loop-step.step c.even_out-at.new.links c.even_out-at.new.root c.even_out-at.result c.even_out-at.ensures way in
    let right_is = ap (λ (l : Link). l.right) c.link_of-right.ensures in
    let far = farther slots c.even_out-at.new.links c.even_out-at.new.root outer c.args.slot entry r c.args.count (Node a low below b) c.loop-step.gap
    c.even_out-at.result c.loop-step.step even (λ none. c.if-right.false (right_is ∙ none)) in
    subst (λ n. IsNearing slots c.even_out-at.new.links c.even_out-at.new.root outer c.args.slot entry r (Node a low below b) (Right c.even_out-at.result) n (c.loop-step.step + 1) c.args.count)
    (sym right_is) far
