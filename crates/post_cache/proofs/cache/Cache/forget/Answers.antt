use Rattle.std.proofs.Common.{◌≡◌, not, eqb, ap, ◌∙◌, rules, arith}
use Rattle.std.proofs.lemmas.Fn.{filter_same}
use Rattle.post_cache.specs.declared.cache.Slot.{Slot}
use Rattle.post_cache.specs.Bodies.{CacheState, without_block}
use Rattle.post_cache.specs.Slots.{bodies_in}
use Rattle.post_cache.proofs.Kept.{IsCache-without_block}
use Rattle.post_cache.proofs.Slots.{bodies_in-filter}
use Rattle.post_cache.proofs.cache.Cache.forget.Goals as goal

-- the closure keeps the slots of the other blocks
others : (g : _) (c : goal.After-retain g) → bodies_in c.retain.new.self.items ≡ without_block c.args.block (bodies_in c.self.inside.slots.items)
others g c =
    ap bodies_in (filter_same _ (λ (x : Slot _). not (eqb x.block c.args.block)) _ (λ x b f' called. search rules) _ _ c.retain.ensures.filtered)
    ∙ bodies_in-filter c.args.block c.self.inside.slots.items

pub invariant_of-self : goal.invariant_of-self
invariant_of-self g c =
    (rw (others g c) (IsCache-without_block c.args.block _ c.self.invariant.0), omega (arith, c.retain.ensures.capacity, c.self.invariant.1))

pub returns-clause-kept : goal.returns-clause-kept
returns-clause-kept g c =
    let kept = others g c ∙ ap (λ (s : CacheState _). without_block c.args.block s.kept) c.self.view_is in
    let limit = ap (λ (s : CacheState _). s.limit) c.self.view_is in
    λ i. record { kept = kept i; limit = limit i }

pub returns-clause-bounds : goal.returns-clause-bounds
returns-clause-bounds g c = rw (others g c) (IsCache-without_block c.args.block _ c.self.invariant.0)
