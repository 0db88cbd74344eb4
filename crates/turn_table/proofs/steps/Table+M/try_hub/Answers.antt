use Rattle.std.proofs.Common.{rules, arith}
use Rattle.turn_table.proofs.Takes.{takes_hub}
use Rattle.turn_table.proofs.PassSteps.{front, out_pass, hub_still}
use Rattle.turn_table.proofs.steps.Table+M.try_hub.Goals as goal

pub swap-requires : goal.swap-requires
swap-requires g c =
    let of = c.requires.0 in
    let sized = c.args.self.now.sized in (
      of.same_table,
      omega (arith, sized.0),
      takes_hub g.M.Machine.hub_fits g.M.Machine.part_fits g.M.Machine.may_follow g.M.Machine.part_named g.M.Machine.fits_on _ _ _ _ c.args.pass.now.seat.me.0 c.args.pass.now.seat.me.1
          (omega (arith, sized.1)) (omega (arith, of.numbered, of.own_is)) (c.requires.1),
    )

pub returns-then-swap-ne1-clause-pass : goal.returns-then-swap-ne1-clause-pass
returns-then-swap-ne1-clause-pass g c =
    (out_pass g.M.Machine.hub_fits g.M.Machine.part_fits g.M.Machine.may_follow g.M.Machine.part_named c.args.self.now c.args.pass.now c.requires.0 c.swap.new.seat _ c.swap.ensures.0
    (c.swap.ensures.2.1 c.if-swap-ne1.true)).0

pub returns-then-swap-ne1-clause-none : goal.returns-then-swap-ne1-clause-none
returns-then-swap-ne1-clause-none g c =
    (out_pass g.M.Machine.hub_fits g.M.Machine.part_fits g.M.Machine.may_follow g.M.Machine.part_named c.args.self.now c.args.pass.now c.requires.0 c.swap.new.seat _ c.swap.ensures.0
    (c.swap.ensures.2.1 c.if-swap-ne1.true)).1

pub exchange-requires : goal.exchange-requires
exchange-requires g c = let took = c.swap.ensures.2.0 c.if-swap-ne1.false in (search rules, front _ _ _ _ took.3.1)

pub returns-clause-still : goal.returns-clause-still
returns-clause-still g c = hub_still g.M.Machine.hub_fits g.M.Machine.part_fits g.M.Machine.may_follow g.M.Machine.part_named g.M.Machine.fits_on c.args.self.now c.args.pass.now
    c.swap.new.seat.me c.exchange.new.seat.me _ c.requires.0 (c.swap.ensures.2.0 c.if-swap-ne1.false) c.exchange.ensures.3
