-- Behind a heal of all devices no gate is unsure, where no gate's write had begun; so it is known of each gate since the counts of then.
use Rattle.std.proofs.Common.{◌≡◌, inl, ℕ, true, false, not, List, [], ◌∷◌, map, refl, sym, subst, arith}
use Rattle.std.proofs.lemmas.Bool.{and_parts}
use Rattle.std.specs.Prelude.{Ok}
use Rattle.std.specs.List.{AllByRecursion}
use Rattle.disk_model.specs.Disk.{DiskView}
use Rattle.model_device.specs.Book.{Buffer, is_opening}
use Rattle.write_buffer.specs.declared.phase.Phase.{Phase}
use Rattle.write_buffer.specs.declared.phase.Phase.TheVariants.{Filling, Sealed, BodyDone, GateBegun}
use Rattle.write_buffer.specs.Buffers.{BufferState}
use Rattle.block_shelf.specs.View.{has_begun}
use Rattle.block_shelf.specs.Standing.{book_phase, book_buffer}
use Rattle.shard_core.specs.View.{ShardView}
use Rattle.model_node.specs.Commands.{Node}
use Rattle.model_node.specs.Outside.{counts_of}
use Rattle.model_node.specs.Opening.{none_begun, none_opening}
use Rattle.core_run.specs.Standing.{Each, StandsOn}
use Rattle.core_run.specs.Sure.{AreSureSince, NoneBegun, AllSure}
use Rattle.core_run.specs.Turns.{WorksEach, plus_one, HealsOn}

-- a buffer's gate whose write has begun is one that the model's buffer opens
begun_is : (phase : Phase) → not (is_opening (book_phase phase)) ≡ true → has_begun phase ≡ false
begun_is Filling none = refl
begun_is Sealed none = refl
begun_is BodyDone none = refl
begun_is GateBegun none = let e : false ≡ true = none in cc

none_of : (buffers : List BufferState) → none_begun (map book_buffer buffers) ≡ true → AllByRecursion (λ b. has_begun b.phase ≡ false) buffers
none_of [] none = tt
none_of (b ∷ buffers) none =
    let parts = and_parts (not (is_opening (book_phase b.phase))) (none_begun (map book_buffer buffers)) none in (begun_is b.phase parts.0, none_of buffers parts.1)

module _ {D : Type 0} (view : D → DiskView) where
  pub none_begun_of : (olds : List (ShardView D)) (node : Node) → Each (StandsOn view) olds node → none_opening node ≡ true → NoneBegun olds
  none_begun_of [] node stands none = tt
  none_begun_of (old ∷ olds) [] stands none = absurd stands
  none_begun_of (old ∷ olds) (slot ∷ node) stands none =
      let parts = and_parts (none_begun slot.state.book.buffers) (none_opening node) none in (
        none_of old.shelf.buffers (subst (λ (bs : List Buffer). none_begun bs ≡ true) stands.0.agrees.shelf.stands.buffers parts.0),
        none_begun_of olds node stands.1 parts.1,
      )

  pub sure_since : (news : List (ShardView D)) (node : Node) → Each (StandsOn view) news node → AllSure news → AreSureSince view (counts_of node) news
  sure_since [] node stands sure = tt
  sure_since (new ∷ news) [] stands sure = absurd stands
  sure_since (new ∷ news) (slot ∷ node) stands sure =
      let same = stands.0.faults_is in (record { later = omega (arith, same); sure = inl sure.0 }, sure_since news node stands.1 sure.1)

  pub heals_sure : (E : Type 0) (sum a : ℕ) (olds news : List (ShardView D)) → WorksEach (HealsOn {E = E} view) plus_one (Ok sum) a olds news → NoneBegun olds → AllSure news
  heals_sure E sum a [] news each none = subst (λ (s : List (ShardView D)). AllSure s) (sym each.0) tt
  heals_sure E sum a (old ∷ olds) [] each none = tt
  heals_sure E sum a (old ∷ olds) (new ∷ news) (one, heals, more) none = (heals.known none.0, heals_sure E sum (plus_one a one) olds news more none.1)
