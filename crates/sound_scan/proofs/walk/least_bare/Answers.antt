use Rattle.std.proofs.Common.{◌≡◌, true, false, List, Some, None, sym, ◌∙◌, ap, subst}
use Rattle.std.specs.Prelude.{◌&&◌, ◌||◌}
use Rattle.std.proofs.lemmas.Bool.{cond-true, and_from}
use Rattle.sound_scan.specs.Least.{is_found}
use Rattle.sound_scan.specs.Tallied.{walk, is_met}
use Rattle.sound_scan.proofs.Walks.{Entry, Finds, walk_finds}
use Rattle.sound_scan.proofs.Bares.{least_found}
use Rattle.sound_scan.proofs.walk.least_bare.Goals as goal

pub returns : goal.returns
returns c gg bytes copies has =
    let done : walk None false c.args.past.now.entries ≡ None =
    sym c.loop-name.invariant ∙ ap (λ (es : List Entry). walk c.loop-name.last c.loop-name.behind es) ((c.in-None.ensures {u = tt}).steps.0) in
    least_found gg bytes copies c.args.past.now has c.iter-name-items.ensures.ordered None
    (subst (Finds c.args.past.now.entries) done (walk_finds c.args.past.now.entries c.iter-name-items.ensures.ordered))

pub returns-then-known : goal.returns-then-known
returns-then-known c gg bytes copies has =
    let e : Entry = (c.in-Some.name.now, c.in-Some.known.now) in
    let again : is_found c.loop-name.last e.0.digest ≡ true = sym c.is_found-again.ensures ∙ c.if-again.true in
    let met : is_met c.loop-name.last c.loop-name.behind e ≡ true =
    and_from (is_found c.loop-name.last e.0.digest) (c.loop-name.behind && e.1.uncovered) again (and_from c.loop-name.behind e.1.uncovered c.if-behind.true c.if-known.true) in
    let done : walk None false c.args.past.now.entries ≡ Some e.0.digest =
    sym c.loop-name.invariant ∙ ap (λ (es : List Entry). walk c.loop-name.last c.loop-name.behind es) ((c.in-Some.ensures {u = tt}).steps)
    ∙ cond-true (is_met c.loop-name.last c.loop-name.behind e) (Some e.0.digest)
    (walk (Some e.0.digest) (is_found c.loop-name.last e.0.digest && (c.loop-name.behind || e.1.tombstone)) c.next.new.self) met in
    least_found gg bytes copies c.args.past.now has c.iter-name-items.ensures.ordered (Some e.0.digest)
    (subst (Finds c.args.past.now.entries) done (walk_finds c.args.past.now.entries c.iter-name-items.ensures.ordered))
