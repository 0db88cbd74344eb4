use Rattle.std.proofs.Common.{length, ap, sym, ◌∙◌, arith}
use Rattle.std.proofs.lemmas.List.{length-map}
use Rattle.post_cache.specs.Bodies.{CacheState, kept_at}
use Rattle.post_cache.specs.Slots.{as_kept}
use Rattle.post_cache.proofs.Kept.{kept_at-without_same, IsCache-instead, IsCache-beside}
use Rattle.post_cache.proofs.Slots.{bodies_in-push, bodies_in-rest}
use Rattle.post_cache.proofs.cache.Cache.keep.Goals as goal

-- where there is one body too many, the oldest goes
pub invariant_of-self : goal.invariant_of-self
invariant_of-self g c =
    let before = c.self.inside.slots.items in
    let absent = ap (λ (s : CacheState _). kept_at c.args.block s.kept) (c.self.view_is ∙ c.forget.ensures.kept) ∙ kept_at-without_same c.args.block c.args.self.now.kept in
    let all = bodies_in-push _ before c.push_reserved.new.self.items c.push_reserved.ensures.items in
    let left = bodies_in-rest c.push_reserved.new.self.items c.remove.new.self.items c.remove.ensures.by_index.2 in
    (rw (left, all) (IsCache-instead _ _ c.self.invariant.0 absent), omega (arith, c.self.invariant.1, c.push_reserved.ensures.capacity, c.remove.ensures.capacity))

pub returns-then-len-self-clause-bounds : goal.returns-then-len-self-clause-bounds
returns-then-len-self-clause-bounds g c =
    let before = c.self.inside.slots.items in
    let absent = ap (λ (s : CacheState _). kept_at c.args.block s.kept) (c.self.view_is ∙ c.forget.ensures.kept) ∙ kept_at-without_same c.args.block c.args.self.now.kept in
    let all = bodies_in-push _ before c.push_reserved.new.self.items c.push_reserved.ensures.items in
    let left = bodies_in-rest c.push_reserved.new.self.items c.remove.new.self.items c.remove.ensures.by_index.2 in
    rw (left, all) (IsCache-instead _ _ c.self.invariant.0 absent)

-- where all may stay, they do
pub invariant_of-self-else-len-self : goal.invariant_of-self-else-len-self
invariant_of-self-else-len-self g c =
    let before = c.self.inside.slots.items in
    let after = c.push_reserved.new.self.items in
    let absent = ap (λ (s : CacheState _). kept_at c.args.block s.kept) (c.self.view_is ∙ c.forget.ensures.kept) ∙ kept_at-without_same c.args.block c.args.self.now.kept in
    let all = bodies_in-push _ before after c.push_reserved.ensures.items in
    let long = sym (ap length all) ∙ length-map after as_kept in (
      rw all (IsCache-beside _ _ c.self.invariant.0 absent (omega (arith, long, c.len.ensures, c.if-len-self.false, c.push_reserved.new.self.ok.0))),
      omega
          (arith, c.self.invariant.1, c.push_reserved.ensures.capacity),
    )

pub returns-else-len-self-clause-bounds : goal.returns-else-len-self-clause-bounds
returns-else-len-self-clause-bounds g c =
    let before = c.self.inside.slots.items in
    let after = c.push_reserved.new.self.items in
    let absent = ap (λ (s : CacheState _). kept_at c.args.block s.kept) (c.self.view_is ∙ c.forget.ensures.kept) ∙ kept_at-without_same c.args.block c.args.self.now.kept in
    let all = bodies_in-push _ before after c.push_reserved.ensures.items in
    let long = sym (ap length all) ∙ length-map after as_kept in
    rw all (IsCache-beside _ _ c.self.invariant.0 absent (omega (arith, long, c.len.ensures, c.if-len-self.false, c.push_reserved.new.self.ok.0)))
