use Rattle.std.proofs.Common.{◌≡◌, ℕ, Bool, true, List, subst, arith}
use Rattle.disk_file.specs.Refusals.{AreTold}
use Rattle.node_prog.specs.Undone.{StandsApart}
use Rattle.node_prog.proofs.Apart.{apart_more, is_same, named_so}
use Rattle.node_prog.proofs.devices.same_before.Goals as goal

pub returns-then-are_one-clause-same : goal.returns-then-are_one-clause-same
returns-then-are_one-clause-same g c name so =
    let known = g.D.Devices.known c.args.devices.now in
    is_same known c.args.names.now name c.get-then-are_one.result.now c.get.result.now c.loop-other.other c.args.at c.get.ensures c.get-then-are_one.ensures c.loop-other-test.true
    (subst (λ (t : List ℕ). AreTold known c.get.result.now t true)
    (named_so c.args.names.now c.loop-other.other c.get-then-are_one.result.now c.get-in-loop-other.result.now c.get-in-loop-other.ensures c.get-then-are_one.ensures)
    (subst (λ (b : Bool). AreTold known c.get.result.now c.get-in-loop-other.result.now b) c.if-are_one.true c.are_one.ensures))
    so (c.loop-other.invariant name so)

pub loop-other-preserved : goal.loop-other-preserved
loop-other-preserved g c name so =
    let known = g.D.Devices.known c.args.devices.now in
    apart_more known c.args.names.now name c.get-in-loop-other.result.now c.get.result.now c.loop-other.other c.args.at c.get.ensures c.get-in-loop-other.ensures
    (subst (λ (b : Bool). AreTold known c.get.result.now c.get-in-loop-other.result.now b) c.if-are_one.false c.are_one.ensures) so (c.loop-other.invariant name so)

pub returns-clause-apart : goal.returns-clause-apart
returns-clause-apart g c name so =
    let all : c.loop-other.other ≡ c.args.at = omega (arith, c.loop-other-test.false, c.loop-other.auto.other-end) in
    subst (λ (n : ℕ). StandsApart (g.D.Devices.known c.args.devices.now) c.args.names.now name n) all (c.loop-other.invariant name so)
