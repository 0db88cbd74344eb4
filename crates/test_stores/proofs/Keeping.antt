-- What a call of a store keeps of it.
use Rattle.std.proofs.Common.{◌≡◌, List, [], ◌∷◌, ◌∙◌}
use Rattle.std.specs.List.{AllByRecursion}
use Rattle.live_node.specs.Lives.{Live, LivePass}
use Rattle.live_store.specs.declared.store.LiveStore.{LiveStore}
use Rattle.live_store.specs.Known.{KeepNumbers}
use Rattle.live_store.specs.Stores.{lives_of, passes_of}
use Rattle.test_stores.specs.Trials.{HasOne, IsStoreOf}

ones_stay : {D : Type 0} (olds news : List (LivePass D)) → KeepNumbers olds news → AllByRecursion HasOne olds → AllByRecursion HasOne news
ones_stay [] [] keep ones = tt
ones_stay [] (new ∷ news) keep ones = absurd keep
ones_stay (old ∷ olds) [] keep ones = absurd keep
ones_stay (old ∷ olds) (new ∷ news) keep ones =
    (record { own = keep.0.0 ∙ ones.0.own; joined = keep.0.1 ∙ ones.0.joined }, ones_stay olds news keep.1 ones.1)

pub store_stays : {D R : Type 0} (lives : List (Live D)) (old new : LiveStore D R) → lives_of new ≡ lives_of old → KeepNumbers (passes_of old) (passes_of new) → IsStoreOf lives old → IsStoreOf lives new
store_stays lives old new same keep is = record { lives_are = same ∙ is.lives_are; ones = ones_stay (passes_of old) (passes_of new) keep is.ones }
