use Rattle.std.proofs.Common.{◌≡◌, List, [], ◌∷◌, ◌++◌, length, None, refl, sym, ◌∙◌, ap, subst, append_assoc}
use Rattle.std.proofs.lemmas.List.{with_items_is, append-nil}
use Rattle.std.specs.Vec.{with_items}
use Rattle.rec_format.specs.declared.version.Digest.{Digest}
use Rattle.rec_format.specs.declared.entry.Entry.{Entry}
use Rattle.rec_format.specs.Places.{device_number}
use Rattle.sprig_tree.specs.State.{SprigState}
use Rattle.cold_scan.specs.declared.bodies.Kept.{Kept}
use Rattle.cold_scan.specs.Starting.{own_copies}
use Rattle.shard_core.specs.View.{setup_for}
use Rattle.shard_core.specs.Sprigs.{held}
use Rattle.shard_core.specs.Finding.{entry_kept, KeepsOne}
use Rattle.shard_core.proofs.Latest.{latest_none}
use Rattle.shard_core.proofs.Indexed.{one_there, apart_there, these_more, these_none, these_all, own_one}
use Rattle.shard_core.proofs.index.index_of.Goals as goal

pub loop-kept-init : goal.loop-kept-init
loop-kept-init c = record {
  can = tt;
  ends = tt;
  parts = c.in_ok-sprigs.ensures.count ∙ c.parts_of-parts.ensures.value;
  yields = c.into_iter-kept-iterator.ensures.into_iter_gives.0;
  have = λ copies has. (
    tt,
    latest_none (setup_for c.args.geometry.now c.args.set.now) c.in_ok-sprigs.sprigs.items
        (c.in_ok-sprigs.ensures.count ∙ c.parts_of-parts.ensures.value) c.in_ok-sprigs.ensures.empty,
  );
}

pub put_entry-requires-clause-own : goal.put_entry-requires-clause-own
put_entry-requires-clause-own c =
    let e : Digest × Kept = (c.in-Some.field-0-0, c.in-Some.kept) in
    let splits : c.loop-kept.yielded ++ (e ∷ c.next.new.self) ≡ c.args.latest.entries = ap (λ (l : List (Digest × Kept)). c.loop-kept.yielded ++ l) (sym c.in-Some.ensures.steps)
    ∙ c.loop-kept.invariant.yields in
    let has = c.requires.kept in
    ap (λ (x : Entry). device_number c.args.geometry.now.devices x.digest) c.entry_of.ensures
    ∙ own_one c.args.geometry.now.device c.args.geometry.now.devices has.0 e (one_there c.args.geometry.now has.0 c.args.latest has.1 c.loop-kept.yielded e c.next.new.self splits)

pub put_entry-requires-clause-absent : goal.put_entry-requires-clause-absent
put_entry-requires-clause-absent c =
    let e : Digest × Kept = (c.in-Some.field-0-0, c.in-Some.kept) in
    let splits : c.loop-kept.yielded ++ (e ∷ c.next.new.self) ≡ c.args.latest.entries = ap (λ (l : List (Digest × Kept)). c.loop-kept.yielded ++ l) (sym c.in-Some.ensures.steps)
    ∙ c.loop-kept.invariant.yields in
    let has = c.requires.kept in
    let setup = setup_for c.args.geometry.now c.args.set.now in
    let one = one_there c.args.geometry.now has.0 c.args.latest has.1 c.loop-kept.yielded e c.next.new.self splits in
    subst (λ (x : Entry). held setup x.digest c.deref_mut.result.now ≡ None) (sym c.entry_of.ensures)
    (subst (λ (l : List SprigState). held setup e.1.head.digest l ≡ None) (sym c.deref_mut.ensures.value)
    (these_none setup (own_copies c.args.geometry.now.device c.args.geometry.now.devices has.0) c.loop-kept.yielded e c.loop-kept.sprigs.items (c.loop-kept.invariant.have has.0 has.1) one
    (apart_there c.args.geometry.now has.0 c.args.latest has.1 c.loop-kept.yielded e c.next.new.self splits)))

pub loop-kept-preserved : goal.loop-kept-preserved
loop-kept-preserved c =
    let e : Digest × Kept = (c.in-Some.field-0-0, c.in-Some.kept) in
    let splits : c.loop-kept.yielded ++ (e ∷ c.next.new.self) ≡ c.args.latest.entries = ap (λ (l : List (Digest × Kept)). c.loop-kept.yielded ++ l) (sym c.in-Some.ensures.steps)
    ∙ c.loop-kept.invariant.yields in
    let setup = setup_for c.args.geometry.now c.args.set.now in
    let sprigs = with_items c.loop-kept.sprigs c.put_entry.new.sprigs in
    let same : sprigs.items ≡ c.put_entry.new.sprigs = with_items_is c.loop-kept.sprigs c.put_entry.new.sprigs (c.put_entry.auto.sprigs ∙ c.deref_mut.ensures.len) in
    record {
      can = tt;
      ends = tt;
      parts = ap length same ∙ c.put_entry.ensures.parts ∙ ap length c.deref_mut.ensures.value ∙ c.loop-kept.invariant.parts;
      yields = append_assoc c.loop-kept.yielded (e ∷ []) c.next.new.self ∙ splits;
      have = λ copies has.
          these_more setup (own_copies c.args.geometry.now.device c.args.geometry.now.devices copies) c.loop-kept.yielded e c.loop-kept.sprigs.items sprigs.items
          (c.loop-kept.invariant.have copies has)
          (one_there c.args.geometry.now copies c.args.latest has c.loop-kept.yielded e c.next.new.self splits)
          (subst (λ (l : List SprigState). KeepsOne setup (entry_kept e.1) c.loop-kept.sprigs.items l) (sym same)
          (subst (λ (l : List SprigState). KeepsOne setup (entry_kept e.1) l c.put_entry.new.sprigs) c.deref_mut.ensures.value
          (subst (λ (x : Entry). KeepsOne setup x c.deref_mut.result.now c.put_entry.new.sprigs) c.entry_of.ensures c.in_ok-put_entry.ensures.kept)));
    }

pub returns : goal.returns
returns c = λ copies has.
    let whole : c.loop-kept.yielded ≡ c.args.latest.entries = sym (append-nil c.loop-kept.yielded)
    ∙ ap (λ (l : List (Digest × Kept)). c.loop-kept.yielded ++ l) (sym c.in-None.ensures.steps.0) ∙ c.loop-kept.invariant.yields in
    these_all c.args.geometry.now copies c.args.latest has (setup_for c.args.geometry.now c.args.set.now) refl refl c.loop-kept.yielded c.loop-kept.sprigs.items whole
    (c.loop-kept.invariant.have copies has)
