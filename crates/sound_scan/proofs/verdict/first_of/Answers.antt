use Rattle.std.proofs.Common.{Option, sym, ◌∙◌, ap, subst}
use Rattle.rec_format.specs.declared.version.Digest.{Digest}
use Rattle.sound_scan.specs.Least.{lesser, IsLeast}
use Rattle.sound_scan.proofs.Leasts.{any_of, least_of_three, found_is, found_other, first_passes, second_passes, third_passes}
use Rattle.sound_scan.proofs.verdict.first_of.Goals as goal

pub returns-in-Some : goal.returns-in-Some
returns-in-Some c p q r x y z =
    let all = subst (IsLeast (any_of p q r)) (ap (λ (o : Option Digest). lesser o c.args.bare) (sym c.least_of.ensures) ∙ sym c.least_of-2.ensures ∙ c.in-Some.is)
    (least_of_three p q r c.args.stray c.args.twins c.args.bare x y z) in
    first_passes p q r c.in-Some.least all c.args.stray x (found_is c.args.stray c.in-Some.least (sym (c.if-is_found.ensures {u = tt})))

pub returns-in-Some-2 : goal.returns-in-Some-2
returns-in-Some-2 c p q r x y z =
    let all = subst (IsLeast (any_of p q r)) (ap (λ (o : Option Digest). lesser o c.args.bare) (sym c.least_of.ensures) ∙ sym c.least_of-2.ensures ∙ c.in-Some.is)
    (least_of_three p q r c.args.stray c.args.twins c.args.bare x y z) in
    second_passes p q r c.in-Some.least all c.args.stray c.args.twins x y (found_other c.args.stray c.in-Some.least (sym (c.if-is_found.ensures {u = tt})))
    (found_is c.args.twins c.in-Some.least (sym (c.if-is_found-2.ensures {u = tt})))

pub returns-in-Some-3 : goal.returns-in-Some-3
returns-in-Some-3 c p q r x y z =
    let all = subst (IsLeast (any_of p q r)) (ap (λ (o : Option Digest). lesser o c.args.bare) (sym c.least_of.ensures) ∙ sym c.least_of-2.ensures ∙ c.in-Some.is)
    (least_of_three p q r c.args.stray c.args.twins c.args.bare x y z) in
    third_passes p q r c.in-Some.least all c.args.stray c.args.twins x y (found_other c.args.stray c.in-Some.least (sym (c.if-is_found.ensures {u = tt})))
    (found_other c.args.twins c.in-Some.least (sym (c.if-is_found-2.ensures {u = tt})))
