-- What a session keeps of its store: the devices, and the numbers of the passes.
use Rattle.std.proofs.Common.{◌≡◌, refl, sym, ◌∙◌, subst}
use Rattle.disk_model.specs.Disk.{DiskView}
use Rattle.node_session.specs.declared.ended.Ended.{Ended}
use Rattle.node_session.specs.Turns.{Times}
use Rattle.node_session.specs.Session.{Ran}
use Rattle.law_session.proofs.Kept.{ran_keeps}
use Rattle.turn_table.specs.Passes.{KeepsNumbers}
use Rattle.live_store.specs.declared.store.LiveStore.{LiveStore}
use Rattle.live_store.specs.Known.{KeepNumbers}
use Rattle.live_store.specs.Stores.{Acts, lives_of, passes_of}
use Rattle.live_store.proofs.Pairs.{pairs_same, pairs_then}
use Rattle.live_session.proofs.Lines.{Ticked}

module _ {D R : Type 0} (view : D → DiskView) where
  abbrev pub Keeps : (old new : LiveStore D R) → Type 0
  Keeps old new = (lives_of new ≡ lives_of old) × KeepNumbers (passes_of old) (passes_of new)

  keeps_none : (store : LiveStore D R) → Keeps store store
  keeps_none store = (refl, pairs_same KeepsNumbers (λ pass. (refl, refl)) (passes_of store))

  keeps_then : (old mid new : LiveStore D R) → Keeps old mid → Keeps mid new → Keeps old new
  keeps_then old mid new first then = (
    then.0 ∙ first.0,
    pairs_then KeepsNumbers (λ x y z one two. (two.0 ∙ one.0, two.1 ∙ one.1)) (passes_of old) (passes_of mid) (passes_of new) first.1 then.1,
  )

  pub ran_kept : (limit : _) (taken taken' : _) (left left' written written' : _) (old new : LiveStore D R) (times later : Times) (result : Ended)
      → Ran (Acts view) (Ticked R view) limit taken taken' left left' written written' old new times later result → Keeps old new
  ran_kept limit taken taken' left left' written written' old new times later result ran =
      ran_keeps (Acts view) (Ticked R view) Keeps keeps_none keeps_then (λ old c now r new acts. (acts.lives, acts.numbers))
      (λ old new same. subst (λ (s : LiveStore D R). Keeps old s) (sym same) (keeps_none old))
      limit taken taken' left left' written written' old new times later result ran
