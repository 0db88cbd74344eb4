-- What a move makes of what is kept of flushed buffers.
use Rattle.std.proofs.Common.{◌≡◌, inl, inr, ℕ, Bool, true, false, sym, subst}
use Rattle.std.specs.Prelude.{Option, Some, None, Result, Ok, Err, MatchOption}
use Rattle.rec_format.specs.declared.entry.Entry.{Entry}
use Rattle.write_buffer.specs.declared.stream.Stream.TheVariants.{Defrag}
use Rattle.block_shelf.specs.declared.refusals.PutRefusal.{PutRefusal}
use Rattle.block_shelf.specs.View.{ShelfView}
use Rattle.block_shelf.specs.Appends.{BeginsInFirst, IsLeftBy}
use Rattle.block_shelf.specs.Keeping.{KeepsAll}
use Rattle.block_shelf.proofs.KeptAll.{all_beside, all_left, all_same}
use Rattle.block_shelf.proofs.Names.{all_then}
use Rattle.defrag_pass.specs.declared.refusal.MoveRefusal.{MoveRefusal}
use Rattle.defrag_pass.specs.Moves.{KeepsMoved}

-- as it is told, by the entry that was found
abbrev pub KeepsFound : {D : Type 0} → Option Entry → (old new : ShelfView D) → Result Bool MoveRefusal → Type 0
KeepsFound found old new r = MatchOption found (KeepsAll old new) (λ e. KeepsMoved e.units old new r)

pub keeps_unfound : {D : Type 0} (found : Option Entry) (shelf : ShelfView D) (r : Result Bool MoveRefusal) → found ≡ None → KeepsFound found shelf shelf r
keeps_unfound found shelf r none = subst (λ (o : Option Entry). KeepsFound o shelf shelf r) (sym none) (all_same shelf)

keeps_found : {D : Type 0} (found : Option Entry) (e : Entry) (old new : ShelfView D) (r : Result Bool MoveRefusal) → found ≡ Some e → KeepsMoved e.units old new r → KeepsFound found old new r
keeps_found found e old new r some keeps = subst (λ (o : Option Entry). KeepsFound o old new r) (sym some) keeps

pub keeps_elsewhere : {D : Type 0} (found : Option Entry) (e : Entry) (shelf : ShelfView D) → found ≡ Some e → KeepsFound found shelf shelf (Ok false)
keeps_elsewhere found e shelf some = keeps_found found e shelf shelf (Ok false) some (all_same shelf)

module _ {D : Type 0} (found : Option Entry) (e : Entry) (some : found ≡ Some e) (old mid : ShelfView D) (read : mid ≡ record old { disk = mid.disk }) where
  only_read : KeepsAll old mid
  only_read = all_beside old mid mid.disk old.gates old.raid read

  -- the record wasn't read
  pub keeps_unread : (r : Result Bool MoveRefusal) (refusal : MoveRefusal) → r ≡ Err refusal → KeepsFound found old mid r
  keeps_unread r refusal is = subst (KeepsFound found old mid) (sym is) (keeps_found found e old mid (Err refusal) some only_read)

  -- its copy was refused
  pub keeps_unappended : (new : ShelfView D) (why : PutRefusal) (refusal : MoveRefusal) → IsLeftBy mid new why → KeepsFound found old new (Err refusal)
  keeps_unappended new why refusal left = keeps_found found e old new (Err refusal) some (all_then old mid new only_read (all_left mid new why left))

  begins_read : (new : ShelfView D) → BeginsInFirst Defrag e.units (record old { disk = mid.disk }) new → BeginsInFirst Defrag e.units old new
  begins_read new (inl room) = let k = room.2 in inl (room.0, room.1, record { cache = k.cache; names = k.names; next = k.next })
  begins_read new (inr none) = let k = none.2 in inr (none.0, none.1, record { cache = k.cache; names = k.names; next = k.next })

  -- it was moved
  pub keeps_moved : (new : ShelfView D) (units : ℕ) → e.units ≡ units → BeginsInFirst Defrag units mid new → KeepsFound found old new (Ok true)
  keeps_moved new units same begins =
      keeps_found found e old new (Ok true) some
      (begins_read new (subst (λ (v : ShelfView D). BeginsInFirst Defrag e.units v new) read (subst (λ (n : ℕ). BeginsInFirst Defrag n mid new) (sym same) begins)))
