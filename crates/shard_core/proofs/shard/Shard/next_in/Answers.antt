use Rattle.std.proofs.Common.{◌≡◌, ◌⊎◌, inl, inr, ℕ, ◌+◌, ◌<◌, ◌≤◌, true, false, length, get_or, sym, ap, ◌∙◌, subst, refl, arith, rules}
use Rattle.std.specs.Prelude.{Option, Some, None, is_some, MatchOption, slice_get}
use Rattle.std.proofs.lemmas.Option.{slice_get_read}
use Rattle.std.proofs.Math.Nat.{eq-or-lt_of_le}
use Rattle.rec_format.specs.declared.version.Digest.{Digest}
use Rattle.rec_format.specs.declared.entry.Entry.{Entry}
use Rattle.law_sprig.proofs.Alike.{Says}
use Rattle.model_device.specs.Device.{part_of}
use Rattle.sprig_tree.specs.Entries.{entry_of}
use Rattle.sprig_tree.specs.State.{SprigState}
use Rattle.shard_core.specs.Sprigs.{entry_in, held}
use Rattle.shard_core.specs.View.{ShardView, setup_of}
use Rattle.shard_core.specs.Stands.{IsWhole}
use Rattle.shard_core.specs.Vacating.{HasParts, IsNextIn, NoneLies, lies_in}
use Rattle.shard_core.proofs.Lying.{has_parts, lies_own, lies_live}
use Rattle.shard_core.proofs.shard.Shard.next_in.Goals as goal

none_more : {D : Type 0} (shard : ShardView D) (block from part : ℕ) (sprig : SprigState) → slice_get shard.sprigs part ≡ Some sprig
    → ((digest : Digest) → lies_in block (entry_of digest sprig.entries) ≡ false) → NoneLies shard block from part → NoneLies shard block from (part + 1)
none_more shard block from part sprig at none before digest up below = by (eq-or-lt_of_le (le_less below))
  where
    le_less : part_of (setup_of shard) digest < part + 1 → part_of (setup_of shard) digest ≤ part
    le_less lt = omega (arith, lt)

    by : (part_of (setup_of shard) digest ≡ part) ⊎ (part_of (setup_of shard) digest < part) → lies_in block (held (setup_of shard) digest shard.sprigs) ≡ false
    by (inl same) = ap (λ (n : ℕ). lies_in block (entry_in digest (slice_get shard.sprigs n))) same ∙ ap (λ (o : Option SprigState). lies_in block (entry_in digest o)) at ∙ none digest
    by (inr less) = before digest up less

-- an entry is in the sprig of its digest's part
found_part : {D : Type 0} (shard : ShardView D) (whole : IsWhole shard) (block part : ℕ) (sprig : SprigState) → slice_get shard.sprigs part ≡ Some sprig → (digest : Digest)
    → lies_in block (entry_of digest sprig.entries) ≡ true → part_of (setup_of shard) digest ≡ part
found_part shard whole block part sprig at digest lies = by (entry_of digest sprig.entries) lies ((whole.stands.1.sprigs.each part sprig at).entries.shown digest)
  where
    by : (o : Option Entry) → lies_in block o ≡ true → Says (setup_of shard) part whole.stands.0 digest o → part_of (setup_of shard) digest ≡ part
    by None lies says = absurd cc
    by (Some e) lies says = says.0

-- what was found in the sprig of a part is the next
next_found : {D : Type 0} (shard : ShardView D) (whole : IsWhole shard) (block from part : ℕ) (sprig : SprigState) → slice_get shard.sprigs part ≡ Some sprig → from ≤ part
    → NoneLies shard block from part → (found : Option Digest) → is_some found ≡ true
    → MatchOption found ((digest : Digest) → lies_in block (entry_of digest sprig.entries) ≡ false) (λ digest. lies_in block (entry_of digest sprig.entries) ≡ true)
    → MatchOption found (NoneLies shard block from (length shard.sprigs)) (IsNextIn shard block from)
next_found shard whole block from part sprig at up none None some tells = absurd cc
next_found shard whole block from part sprig at up none (Some digest) some lies =
    let place : part_of (setup_of shard) digest ≡ part = found_part shard whole block part sprig at digest lies in
    let there : lies_in block (held (setup_of shard) digest shard.sprigs) ≡ true =
    ap (λ (n : ℕ). lies_in block (entry_in digest (slice_get shard.sprigs n))) place ∙ ap (λ (o : Option SprigState). lies_in block (entry_in digest o)) at ∙ lies in
    record {
      own = lies_own shard whole.stands.0 whole.stands.1 block digest (lies_live shard whole.stands.0 whole.stands.1 block digest there);
      lies = there;
      behind = subst (λ (n : ℕ). from ≤ n) (sym place) up;
      none = subst (NoneLies shard block from) (sym place) none;
    }

none_found : (block : ℕ) (sprig : SprigState) (found : Option Digest) → is_some found ≡ false
    → MatchOption found ((digest : Digest) → lies_in block (entry_of digest sprig.entries) ≡ false) (λ digest. lies_in block (entry_of digest sprig.entries) ≡ true)
    → (digest : Digest) → lies_in block (entry_of digest sprig.entries) ≡ false
none_found block sprig None none tells = tells
none_found block sprig (Some digest) none tells = absurd cc

sprig_at : {D : Type 0} (inside self : ShardView D) → inside ≡ self → (part : ℕ) → (sprig : SprigState) → part < length inside.sprigs → sprig ≡ get_or inside.sprigs part sprig
    → slice_get self.sprigs part ≡ Some sprig
sprig_at inside self is part sprig below at = subst (λ v. slice_get v.sprigs part ≡ Some sprig) is (slice_get_read inside.sprigs (length inside.sprigs) part sprig refl below at)

pub returns-then-is_some-clause-next : goal.returns-then-is_some-clause-next
returns-then-is_some-clause-next g c =
    let inside : ShardView g.row.D.Denot = record { shelf = c.self.inside.shelf; set = c.self.inside.set; sprigs = c.self.inside.sprigs.items } in
    next_found c.args.self.now (subst IsWhole c.self.view_is c.self.invariant.whole) c.args.block c.args.from c.loop-part.part c.index.result.now
    (sprig_at inside c.args.self.now c.self.view_is c.loop-part.part c.index.result.now (search rules) c.index.ensures)
    (search rules) c.loop-part.invariant c.first_in-found.result (sym c.is_some.ensures ∙ c.if-is_some.true) c.first_in-found.ensures

pub returns-then-is_some-clause-parts : goal.returns-then-is_some-clause-parts
returns-then-is_some-clause-parts g c =
    subst HasParts c.self.view_is
    (has_parts g.D.Disk.view (record { shelf = c.self.inside.shelf; set = c.self.inside.set; sprigs = c.self.inside.sprigs.items }) c.geometry-shape.ensures.whole c.self.invariant.whole)

pub loop-part-preserved : goal.loop-part-preserved
loop-part-preserved g c =
    let inside : ShardView g.row.D.Denot = record { shelf = c.self.inside.shelf; set = c.self.inside.set; sprigs = c.self.inside.sprigs.items } in
    none_more c.args.self.now c.args.block c.args.from c.loop-part.part c.index.result.now
    (sprig_at inside c.args.self.now c.self.view_is c.loop-part.part c.index.result.now (search rules) c.index.ensures)
    (none_found c.args.block c.index.result.now c.first_in-found.result (sym c.is_some.ensures ∙ c.if-is_some.false) c.first_in-found.ensures) c.loop-part.invariant

pub returns-clause-parts : goal.returns-clause-parts
returns-clause-parts g c =
    subst HasParts c.self.view_is
    (has_parts g.D.Disk.view (record { shelf = c.self.inside.shelf; set = c.self.inside.set; sprigs = c.self.inside.sprigs.items }) c.geometry-shape.ensures.whole c.self.invariant.whole)
