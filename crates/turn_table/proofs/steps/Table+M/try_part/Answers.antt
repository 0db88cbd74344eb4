use Rattle.std.proofs.Common.{rules, ◌∙◌, arith}
use Rattle.turn_table.specs.Passes.{slots_out}
use Rattle.turn_table.proofs.Takes.{takes_part_as}
use Rattle.turn_table.proofs.PassSteps.{front, took_part_pass, out_pass}
use Rattle.turn_table.proofs.steps.Table+M.try_part.Goals as goal

pub swap-requires : goal.swap-requires
swap-requires g c =
    let of = c.requires.pass.0 in
    let sized = c.args.self.now.sized in
    let no_part = c.requires.pass.1.0 in
    let no_hub = c.requires.pass.1.1 in (
      of.same_table,
      omega (arith, sized.0, c.requires.part),
      takes_part_as g.M.Machine.hub_fits g.M.Machine.part_fits g.M.Machine.may_follow g.M.Machine.part_named g.M.Machine.fits_on _ _ _ _ c.args.pass.now.seat.me
          (omega (arith, sized.1, c.requires.part)) (omega (arith, of.numbered, of.own_is)) no_part no_hub (of.slots ∙ (λ i. slots_out c.args.self.now.parts (no_part i) (no_hub i))),
    )

pub returns-then-swap-ne1-clause-pass : goal.returns-then-swap-ne1-clause-pass
returns-then-swap-ne1-clause-pass g c =
    (out_pass g.M.Machine.hub_fits g.M.Machine.part_fits g.M.Machine.may_follow g.M.Machine.part_named c.args.self.now c.args.pass.now c.requires.pass.0 c.swap.new.seat _ c.swap.ensures.0
    (c.swap.ensures.2.1 c.if-swap-ne1.true)).0

pub returns-then-swap-ne1-clause-none : goal.returns-then-swap-ne1-clause-none
returns-then-swap-ne1-clause-none g c =
    (out_pass g.M.Machine.hub_fits g.M.Machine.part_fits g.M.Machine.may_follow g.M.Machine.part_named c.args.self.now c.args.pass.now c.requires.pass.0 c.swap.new.seat _ c.swap.ensures.0
    (c.swap.ensures.2.1 c.if-swap-ne1.true)).1

pub exchange-requires : goal.exchange-requires
exchange-requires g c = let took = c.swap.ensures.2.0 c.if-swap-ne1.false in (search rules, front _ _ _ _ took.1)

pub returns-clause-pass : goal.returns-clause-pass
returns-clause-pass g c =
    let ex = c.exchange.ensures in
    took_part_pass g.M.Machine.hub_fits g.M.Machine.part_fits g.M.Machine.may_follow g.M.Machine.part_named c.args.self.now c.args.pass.now c.requires.pass.0 c.swap.new.seat
    c.exchange.new.seat c.args.part c.requires.pass.1.0 c.requires.pass.1.1
    c.swap.ensures.0 (c.swap.ensures.2.0 c.if-swap-ne1.false) ex.0 ex.3 c.requires.part
