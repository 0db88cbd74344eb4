use Rattle.std.proofs.Common.{◌≡◌, ◌+◌, List, [], ◌∷◌, ◌++◌, take, sym, ◌∙◌, ap}
use Rattle.std.proofs.lemmas.List.{append-nil, map-append, take_more}
use Rattle.std.proofs.lemmas.Grind.{flat_map-append}
use Rattle.std.proofs.lemmas.List.Concat.{flat_map-cons}
use Rattle.rec_format.specs.declared.version.Digest.{Digest}
use Rattle.rec_format.specs.declared.entry.Entry.{Entry}
use Rattle.block_shelf.specs.declared.place.Place.{Place}
use Rattle.sprig_tree.specs.State.{SprigState}
use Rattle.shard_core.specs.Sprigs.{all_entries}
use Rattle.law_steps.specs.Sprigs.{place_of}
use Rattle.shard_core.specs.Finding.{live_places}
use Rattle.shard_core.proofs.sprigs.live_copies.Goals as goal

one_more : (xs : List SprigState) (x : SprigState) → all_entries (xs ++ x ∷ []) ≡ all_entries xs ++ x.entries
one_more xs x =
    flat_map-append (λ (s : SprigState). s.entries) xs (x ∷ [])
    ∙ ap (λ (l : List Entry). all_entries xs ++ l) (flat_map-cons (λ (s : SprigState). s.entries) x [] ∙ append-nil x.entries)

pub loop-sprig-preserved : goal.loop-sprig-preserved
loop-sprig-preserved c =
    let xs = c.args.sprigs.now in
    let k = c.loop-sprig.sprig-index in
    let x = c.sprig-item.result in
    let more : take (k + 1) xs ≡ take k xs ++ x ∷ [] = take_more xs k x c.loop-sprig-test.true ∙ ap (λ (s : SprigState). take k xs ++ s ∷ []) (sym c.sprig-item.is) in
    c.in_ok-push_copies.ensures ∙ ap (λ (l : List (Digest × Place)). l ++ live_places x.entries) c.loop-sprig.invariant
    ∙ sym (map-append (λ (e : Entry). (e.digest, place_of e)) (all_entries (take k xs)) x.entries)
    ∙ ap live_places (sym (ap all_entries more ∙ one_more (take k xs) x))
