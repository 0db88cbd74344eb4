use Rattle.std.proofs.Common.{◌≡◌, ◌⊎◌, inl, inr, ℕ, ◌+◌, ◌-◌, ◌<◌, ◌≤◌, List, [], ◌∷◌, ◌++◌, length, take, get_or, Some, None, sym, ◌∙◌, ap, arith, append_assoc}
use Rattle.std.specs.Prelude.{slice_get}
use Rattle.std.proofs.lemmas.List.{append-nil, length-append, map-append, take_all, take_more}
use Rattle.std.proofs.lemmas.Option.{slice_get_within, slice_get_cases, get_or_from_slice_get}
use Rattle.rec_format.specs.declared.version.Digest.{Digest}
use Rattle.rec_format.specs.declared.entry.Entry.{Entry}
use Rattle.block_shelf.specs.declared.place.Place.{Place}
use Rattle.sprig_tree.proofs.Laws.{entry_after-at}
use Rattle.sprig_tree.proofs.Parted.{entry_after-start}
use Rattle.law_steps.specs.Sprigs.{place_of}
use Rattle.shard_core.specs.Finding.{live_places}
use Rattle.shard_core.proofs.sprigs.push_copies.Goals as goal

-- one more is pushed
grown_by : (n m k : ℕ) → n ≤ m → k ≡ m + 1 → k - n ≡ (m - n) + 1
grown_by n m k le is = omega arith

nothing_yet : (n : ℕ) → n - n ≡ 0
nothing_yet n = omega arith

pushed_more : (old live new : List (Digest × Place)) (es : List Entry) (k : ℕ) (e : Entry) (p : Place) → live ≡ old ++ live_places (take k es) → new ≡ live ++ (e.digest, p) ∷ []
    → p ≡ place_of e → slice_get es k ≡ Some e
    → new ≡ old ++ live_places (take (k + 1) es)
pushed_more old live new es k e p before push place at =
    let next = take_more es k e (slice_get_within es k e at) ∙ ap (λ (x : Entry). take k es ++ x ∷ []) (get_or_from_slice_get es k e e at) in
    push ∙ (λ i. before i ++ (e.digest, place i) ∷ []) ∙ append_assoc old (live_places (take k es)) (live_places (e ∷ []))
    ∙ ap (λ (l : List (Digest × Place)). old ++ l) (sym (map-append (λ (x : Entry). (x.digest, place_of x)) (take k es) (e ∷ [])) ∙ ap live_places (sym next))

-- where there is none, all were taken
all_taken : (es : List Entry) (k : ℕ) → slice_get es k ≡ None → take k es ≡ es
all_taken es k none = by (slice_get_cases es k).1
  where
    by : ((x : Entry) × (k < length es) × (slice_get es k ≡ Some x) × (get_or es k x ≡ x)) ⊎ ((length es ≤ k) × (slice_get es k ≡ None)) → take k es ≡ es
    by (inl there) = let never : Some there.0 ≡ None = sym there.2 ∙ none in absurd cc
    by (inr past) = take_all k es past.0

pub loop-next-init : goal.loop-next-init
loop-next-init c =
    let es = c.args.sprig.now.entries in
    let none = nothing_yet (length c.args.live.now.items) in
    record {
      grown = omega arith;
      pushed = sym (ap (λ (k : ℕ). c.args.live.now.items ++ live_places (take k es)) none ∙ append-nil c.args.live.now.items);
      next = c.next_after-next.ensures.value ∙ entry_after-start es ∙ ap (slice_get es) (sym none);
    }

pub loop-next-preserved : goal.loop-next-preserved
loop-next-preserved c =
    let es = c.args.sprig.now.entries in
    let old = c.args.live.now.items in
    let k = length c.loop-next.live.items - length old in
    let at : slice_get es k ≡ Some c.in-Some.entry = sym c.loop-next.invariant.next ∙ c.in-Some.is in
    let long : length c.push.new.self.items ≡ length c.loop-next.live.items + 1 = ap length c.in_ok-push.ensures.items ∙ length-append c.loop-next.live.items _ in
    let more = grown_by (length old) (length c.loop-next.live.items) (length c.push.new.self.items) c.loop-next.invariant.grown long in
    record {
      grown = omega (arith, long, c.loop-next.invariant.grown);
      pushed = pushed_more old c.loop-next.live.items c.push.new.self.items es k c.in-Some.entry c.place_of_entry.result c.loop-next.invariant.pushed c.in_ok-push.ensures.items
          c.place_of_entry.ensures at
          ∙ ap (λ (n : ℕ). old ++ live_places (take n es)) (sym more);
      next = c.next_after-next-in-Some.ensures.value ∙ entry_after-at es k c.in-Some.entry c.next_after-next.ensures.sorted at ∙ ap (slice_get es) (sym more);
    }

pub loop-next-smaller : goal.loop-next-smaller
loop-next-smaller c =
    let es = c.args.sprig.now.entries in
    let old = c.args.live.now.items in
    let k = length c.loop-next.live.items - length old in
    let within = slice_get_within es k c.in-Some.entry (sym c.loop-next.invariant.next ∙ c.in-Some.is) in
    let long : length c.push.new.self.items ≡ length c.loop-next.live.items + 1 = ap length c.in_ok-push.ensures.items ∙ length-append c.loop-next.live.items _ in
    omega (arith, within, long, c.loop-next.invariant.grown)

pub returns : goal.returns
returns c =
    let es = c.args.sprig.now.entries in
    let k = length c.loop-next.live.items - length c.args.live.now.items in
    c.loop-next.invariant.pushed ∙ ap (λ (l : List Entry). c.args.live.now.items ++ live_places l) (all_taken es k (sym c.loop-next.invariant.next ∙ c.in_default.is))
