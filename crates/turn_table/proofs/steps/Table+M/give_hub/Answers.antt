use Rattle.std.proofs.Common.{refl, ap, ◌∙◌, subst, arith}
use Rattle.turn_table.specs.declared.rule.View.{View}
use Rattle.turn_table.specs.Plays.{with_event, SeesMore}
use Rattle.turn_table.proofs.Gives.{gives_with_as}
use Rattle.turn_table.proofs.PassSteps.{front_is, gave_hub_pass}
use Rattle.turn_table.proofs.steps.Table+M.give_hub.Goals as goal

pub store-requires : goal.store-requires
store-requires g c =
    let of = c.requires.pass.0 in
    let sized = c.args.self.now.sized in (
      c.exchange.ensures.0 ∙ of.same_table,
      omega (arith, sized.0),
      gives_with_as g.M.Machine.hub_fits g.M.Machine.part_fits g.M.Machine.may_follow g.M.Machine.part_named g.M.Machine.fits_on _ _ _ _ c.exchange.new.seat.me c.args.pass.now.seat.me.0
          c.args.hub _ c.args.event _
          c.exchange.ensures.3 (omega (arith, of.numbered, of.own_is)) (omega (arith, sized.1)) (c.requires.pass.1) of.opened c.of-told.ensures c.requires.fits c.requires.follows
          (λ j e. c.requires.names j e),
    )

pub returns-clause-pass : goal.returns-clause-pass
returns-clause-pass g c =
    let ex = c.exchange.ensures in
    let gave = (c.store.ensures.2 c.args.event c.args.hub c.args.self.now.parts c.of-told.result (front_is _ _ _ _ (ap (λ m. m.1) ex.3)) c.of-told.ensures).0 in
    let w = with_event c.args.event c.exchange.new.seat.me.0 in
    let old = ap (λ m. m.0) ex.3 in (
      gave_hub_pass g.M.Machine.hub_fits g.M.Machine.part_fits g.M.Machine.may_follow g.M.Machine.part_named c.args.self.now c.args.pass.now c.requires.pass.0 c.exchange.new.seat
          c.store.new.seat w _ c.requires.pass.1
          ex.0 ex.3 c.store.ensures.0 gave (ap (λ v. v.opening) old) (ap (λ v. v.own) old) (ap (λ v. v.joined) old) (ap (λ v. v.part) old) refl,
      ap (λ m. m.0) gave ∙ ap (with_event c.args.event) old,
    )

pub returns-clause-seen : goal.returns-clause-seen
returns-clause-seen g c =
    let ex = c.exchange.ensures in
    let gave = (c.store.ensures.2 c.args.event c.args.hub c.args.self.now.parts c.of-told.result (front_is _ _ _ _ (ap (λ m. m.1) ex.3)) c.of-told.ensures).1 in
    subst (λ (v : View _ _). SeesMore g.M.Machine.may_follow v c.store.new.seat.me.0) (ap (λ m. m.0) ex.3) gave
