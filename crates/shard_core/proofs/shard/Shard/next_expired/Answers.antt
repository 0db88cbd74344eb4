use Rattle.std.proofs.Common.{◌≡◌, ℕ, ◌<◌, length, get_or, refl, sym, ap, ◌∙◌, subst}
use Rattle.std.specs.Prelude.{Option, Some, slice_get}
use Rattle.std.proofs.lemmas.Option.{slice_get_read}
use Rattle.model_device.specs.Steps.{part_total}
use Rattle.sprig_tree.specs.State.{SprigState}
use Rattle.shard_core.specs.Expiring.{entries_in, expired_among}
use Rattle.shard_core.specs.View.{ShardView, setup_of}
use Rattle.shard_core.specs.Stands.{IsWhole}
use Rattle.shard_core.proofs.shard.Shard.next_expired.Goals as goal

-- the sprig of the part
sprig_at : {D : Type 0} (inside self : ShardView D) → inside ≡ self → IsWhole inside → (part : ℕ) → part < part_total (setup_of self) → (sprig : SprigState)
    → sprig ≡ get_or inside.sprigs part sprig → slice_get self.sprigs part ≡ Some sprig
sprig_at {D} inside self is whole part below sprig at =
    let within : part < length inside.sprigs = subst (λ (n : ℕ). part < n) (sym whole.stands.1.sprigs.count) (subst (λ (v : ShardView D). part < part_total (setup_of v)) (sym is) below) in
    subst (λ (v : ShardView D). slice_get v.sprigs part ≡ Some sprig) is (slice_get_read inside.sprigs (length inside.sprigs) part sprig refl within at)

pub returns-clause-next : goal.returns-clause-next
returns-clause-next g c =
    c.next_expired.ensures
    ∙ ap (λ (o : Option SprigState). slice_get (expired_among (entries_in o) c.args.now c.args.last) 0)
    (sym (sprig_at _ c.args.self.now c.self.view_is c.self.invariant.whole c.args.part c.requires c.index.result.now c.index.ensures))
