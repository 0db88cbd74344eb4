-- How far the devices of a node were brought.
use Rattle.std.proofs.Common.{◌≡◌, List, [], ◌∷◌, ◌++◌, sym, ap, subst, ◌∙◌, append_assoc}
use Rattle.std.proofs.lemmas.List.{append-nil}
use Rattle.disk_model.specs.Disk.{DiskView}
use Rattle.shard_core.specs.View.{ShardView}
use Rattle.turn_table.specs.Passes.{view}
use Rattle.live_node.specs.Calls.{seen_by}
use Rattle.live_node.specs.Lives.{Live, LivePass, opening_at}
use Rattle.live_serve.specs.declared.closing.Closing.{Closing}
use Rattle.live_store.specs.Pairs.{EachPair}
use Rattle.live_store.specs.Known.{Known, known_each}
use Rattle.live_serve.specs.Devices.{ComesOut, ComesOutAt, IsFlushed}
use Rattle.live_serve.proofs.Pairing.{pair_push}

-- Some came out of their tables, and stand behind the first.
pub record OutSoFar {D : Type 0} (view : D → DiskView) (all : List (Known D)) (first shards : List (ShardView D)) (lives : List (Live D)) (passes : List (LivePass D)) : Type 0 where
  pub done : List (Known D)
  pub outs : List (ShardView D)
  pub parts : all ≡ done ++ known_each lives passes
  pub there : shards ≡ first ++ outs
  pub each : EachPair (ComesOutAt view) done outs

-- Some were flushed.
pub record FlushedSoFar {D : Type 0} (view : D → DiskView) (all : List (ShardView D)) (closings : List (Closing D)) (shards : List (ShardView D)) : Type 0 where
  pub done : List (ShardView D)
  pub parts : all ≡ done ++ shards
  pub each : EachPair (IsFlushed view) done closings

module _ {D : Type 0} (view' : D → DiskView) (all : List (Known D)) (first : List (ShardView D)) where
  pub out_more : (shards shards' : List (ShardView D)) (lives lives' : List (Live D)) (passes passes' : List (LivePass D)) (live : Live D) (pass : LivePass D) (out : ShardView D)
      → OutSoFar view' all first shards lives passes → lives ≡ live ∷ lives' → passes ≡ pass ∷ passes' → ComesOut view' (opening_at live) (seen_by (view pass)) out → shards' ≡ shards ++ out ∷ []
      → OutSoFar view' all first shards' lives' passes'
  out_more shards shards' lives lives' passes passes' live pass out so_far is_lives is_passes one is_shards =
      let known : Known D = record { opening = opening_at live; pass = view pass } in record {
        done = so_far.done ++ known ∷ [];
        outs = so_far.outs ++ out ∷ [];
        parts = so_far.parts ∙ (ap (λ (l : List (Known D)). so_far.done ++ l) (λ i. known_each (is_lives i) (is_passes i)) ∙ sym (append_assoc so_far.done (known ∷ []) (known_each lives' passes')));
        there = is_shards ∙ (ap (λ (l : List (ShardView D)). l ++ out ∷ []) so_far.there ∙ append_assoc first so_far.outs (out ∷ []));
        each = pair_push (ComesOutAt view') so_far.done so_far.outs known out so_far.each one;
      }

  pub out_all : (shards : List (ShardView D)) (lives : List (Live D)) (passes : List (LivePass D)) → OutSoFar view' all first shards lives passes → lives ≡ []
      → (outs : List (ShardView D)) × (shards ≡ first ++ outs) × EachPair (ComesOutAt view') all outs
  out_all shards lives passes so_far none = (
    so_far.outs,
    so_far.there,
    subst (λ (l : List (Known D)). EachPair (ComesOutAt view') l so_far.outs)
        (sym (so_far.parts ∙ (ap (λ (l : List (Live D)). so_far.done ++ known_each l passes) none ∙ append-nil so_far.done))) so_far.each,
  )

module _ {D : Type 0} (view' : D → DiskView) (all : List (ShardView D)) where
  pub flushed_more : (closings closings' : List (Closing D)) (shards shards' : List (ShardView D)) (shard : ShardView D) (closing : Closing D) → FlushedSoFar view' all closings shards
      → shards ≡ shard ∷ shards' → IsFlushed view' shard closing → closings' ≡ closings ++ closing ∷ [] → FlushedSoFar view' all closings' shards'
  flushed_more closings closings' shards shards' shard closing so_far is_shards one is_closings = record {
    done = so_far.done ++ shard ∷ [];
    parts = so_far.parts ∙ (ap (λ (l : List (ShardView D)). so_far.done ++ l) is_shards ∙ sym (append_assoc so_far.done (shard ∷ []) shards'));
    each = subst (EachPair (IsFlushed view') (so_far.done ++ shard ∷ [])) (sym is_closings) (pair_push (IsFlushed view') so_far.done closings shard closing so_far.each one);
  }

  pub flushed_all : (closings : List (Closing D)) (shards : List (ShardView D)) → FlushedSoFar view' all closings shards → shards ≡ [] → EachPair (IsFlushed view') all closings
  flushed_all closings shards so_far none =
      subst (λ (l : List (ShardView D)). EachPair (IsFlushed view') l closings) (sym (so_far.parts ∙ (ap (λ (l : List (ShardView D)). so_far.done ++ l) none ∙ append-nil so_far.done))) so_far.each
