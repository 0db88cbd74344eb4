use Rattle.std.proofs.Common.{Bor, eqb, option_map, ap, sym, ◌∙◌, rules, tests}
use Rattle.std.proofs.lemmas.Iterator.{YieldsList-from_slice}
use Rattle.std.proofs.lemmas.Iterator.Search.{find_from_yields_List}
use Rattle.post_cache.specs.declared.cache.Slot.{Slot}
use Rattle.post_cache.specs.Bodies.{CacheState, body_of}
use Rattle.post_cache.proofs.Slots.{body_of-found}
use Rattle.post_cache.proofs.cache.Cache.peek.Goals as goal

pub returns-in_err-slot : goal.returns-in_err-slot
returns-in_err-slot g c =
    let slots = c.self.inside.slots.items in
    let found = find_from_yields_List (λ s. eqb s.block c.args.block) _ _ c.find.result c.find.ensures.ran (YieldsList-from_slice slots cc) (λ x b q k. search (rules, tests)) in
    ap (option_map (λ (x : Bor _). x.now)) c.from_residual.ensures
    ∙ ap (λ (r : _). option_map (λ (s : Slot _). s.body) (option_map (λ (x : Bor (Slot _)). x.now) r)) (sym c.in_err-slot.was)
    ∙ body_of-found c.args.block slots _ found
    ∙ ap (λ (s : CacheState _). body_of c.args.block s.kept) c.self.view_is

pub returns : goal.returns
returns g c =
    let slots = c.self.inside.slots.items in
    let found = find_from_yields_List (λ s. eqb s.block c.args.block) _ _ c.find.result c.find.ensures.ran (YieldsList-from_slice slots cc) (λ x b q k. search (rules, tests)) in
    ap (λ (r : _). option_map (λ (s : Slot _). s.body) (option_map (λ (x : Bor (Slot _)). x.now) r)) (sym c.in_ok-slot.was)
    ∙ body_of-found c.args.block slots _ found
    ∙ ap (λ (s : CacheState _). body_of c.args.block s.kept) c.self.view_is
