-- The buffer that is flushed, and the shelf on the way, between the parts of a flush.
use Rattle.std.proofs.Common.{◌≡◌, ◌⊎◌, inl, inr, ℕ, ◌<◌, true, false, List, ◌∷◌, ◌++◌, length, refl, sym, ap, ◌∙◌, subst, arith}
use Rattle.std.specs.Prelude.{slice_index_or}
use Rattle.std.specs.List.{AllByRecursion}
use Rattle.std.proofs.lemmas.List.{get_or-set_same}
use Rattle.std.proofs.Math.Seq.{get_or-append_seam}
use Rattle.law_lists.proofs.Between.{all_own}
use Rattle.disk_model.specs.Disk.{DiskView}
use Rattle.disk_model.specs.Runs.{advances_on}
use Rattle.model_device.specs.Book.{Setup}
use Rattle.block_format.specs.declared.geometry.Gate.{Gate}
use Rattle.block_format.specs.declared.geometry.Gate.TheVariants.{Shut, Set, Unsure}
use Rattle.law_start.specs.Sound.{IsShapeOf}
use Rattle.write_buffer.specs.declared.phase.Phase.{Phase}
use Rattle.write_buffer.specs.declared.phase.Phase.TheVariants.{BodyDone, GateBegun}
use Rattle.write_buffer.specs.Buffers.{BufferState, with_phase}
use Rattle.hold_book.specs.Holds.{HoldState, without_buffer}
use Rattle.block_shelf.specs.Lives.{use_in}
use Rattle.defrag_queue.specs.Queues.{QueueState, considered}
use Rattle.post_cache.specs.Bodies.{CacheState}
use Rattle.block_shelf.specs.Changes.{with_flushed}
use Rattle.block_shelf.specs.declared.place.ShelfLimits.{ShelfLimits}
use Rattle.block_shelf.specs.Disks.{IsLater}
use Rattle.block_shelf.specs.View.{ShelfView, IsShelf, IsBufferOf, IsSetupOf, SameShape, is_unsealed, is_written, gate_at}
use Rattle.block_shelf.specs.Flushes.{FirstSealed, IsFirstAt, FirstLeaves, FirstStays, IsWithoutFirst, with_phase_of, with_disk, with_body, with_opening}
use Rattle.block_shelf.proofs.FirstSealed.{first_is}

-- one buffer stands at the place
pub one_first : (at : ℕ) (buffers : List BufferState) (P : BufferState → Type 0) (first : IsFirstAt at buffers) → P first.sealed.buffer → (other : IsFirstAt at buffers) → P other.sealed.buffer
one_first at buffers P first is other = subst P (first_is at buffers other first.sealed.buffer here) is
  where
    here : first.sealed.buffer ≡ slice_index_or buffers at first.sealed.buffer
    here =
        sym (get_or-append_seam first.sealed.front first.sealed.buffer first.sealed.behind first.sealed.buffer)
        ∙ ap (λ (n : ℕ). slice_index_or (first.sealed.front ++ first.sealed.buffer ∷ first.sealed.behind) n first.sealed.buffer) first.before
        ∙ ap (λ (l : List BufferState). slice_index_or l at first.sealed.buffer) (sym first.sealed.parts)

-- in a later phase it stands there
abbrev pub first_later : (p : Phase) → is_unsealed p ≡ false → (at : ℕ) (buffers : List BufferState) (first : IsFirstAt at buffers) → IsFirstAt at (with_phase_of p first.sealed)
first_later p sealed at buffers first = record {
  sealed = record {
    front = first.sealed.front;
    buffer = with_phase p first.sealed.buffer;
    behind = first.sealed.behind;
    parts = refl;
    filling = first.sealed.filling;
    sealed = sealed;
  };
  before = first.before;
}

-- what leaves it out, by the buffer that was found
pub without_first : {D : Type 0} (number at : ℕ) (old new : ShelfView D) (first : IsFirstAt at old.buffers) (bs : List BufferState) (b : BufferState) (holds : HoldState) (free : List ℕ)
    → bs ≡ first.sealed.front ++ first.sealed.behind → b ≡ first.sealed.buffer
    → new ≡ record old { buffers = bs; holds = holds; free = free; queue = considered old.queue b.block (use_in b.block old.lives) true; cache = with_flushed b old.cache }
    → holds.holds ≡ without_buffer old.holds.holds number → IsWithoutFirst number first.sealed old new
without_first {D} number at old new first bs b holds free left same is unheld = record {
  rest =
      is ∙ ap (λ (l : List BufferState). record old {
        buffers = l;
        holds = holds;
        free = free;
        queue = considered old.queue b.block (use_in b.block old.lives) true;
        cache =
            with_flushed b old.cache;
      }) left
      ∙ ap (λ (x : BufferState). record old {
        buffers = others;
        holds = holds;
        free = free;
        queue = considered old.queue x.block (use_in x.block old.lives) true;
        cache =
            with_flushed x old.cache;
      }) same
      ∙ ap (λ (h : HoldState). record old { buffers = others; holds = h; free = free; queue = queue; cache = cache }) (sym holds_are)
      ∙ ap (λ (l : List ℕ). record old { buffers = others; holds = new.holds; free = l; queue = queue; cache = cache }) (sym (ap (λ (v : ShelfView D). v.free) is));
  unheld = ap (λ (h : HoldState). h.holds) holds_are ∙ unheld;
}
  where
    others : List BufferState
    others = first.sealed.front ++ first.sealed.behind

    queue : QueueState
    queue = considered old.queue first.sealed.buffer.block (use_in first.sealed.buffer.block old.lives) true

    cache : CacheState BufferState
    cache = with_flushed first.sealed.buffer old.cache

    holds_are : new.holds ≡ holds
    holds_are = ap (λ (v : ShelfView D). v.holds) is

-- ---- the shelf on the way

module _ {D : Type 0} (at : ℕ) (old : ShelfView D) (first : IsFirstAt at old.buffers) where
  -- the body is there
  abbrev pub IsSettled : ShelfView D → Type 0
  IsSettled mid = ((is_written first.sealed.buffer.phase ≡ true) × (mid ≡ old)) ⊎ (mid ≡ with_body mid.disk old first.sealed)

  -- the buffer is still the first sealed one, and what follows is as if the body had been there before
  pub record StandsSettled (mid : ShelfView D) : Type 0 where
    pub first_then : IsFirstAt at mid.buffers
    pub written : is_written first_then.sealed.buffer.phase ≡ true
    pub number : first_then.sealed.buffer.number ≡ first.sealed.buffer.number
    pub opens : (disk : D) (gate : Gate) → with_opening disk gate mid first_then.sealed ≡ with_opening disk gate old first.sealed

  pub settled_first : (mid : ShelfView D) → IsSettled mid → StandsSettled mid
  settled_first mid (inl was) = subst StandsSettled (sym was.1) (record { first_then = first; written = was.0; number = refl; opens = λ disk gate. refl })
  settled_first mid (inr is) = subst StandsSettled (sym is) (record { first_then = first_later BodyDone refl at old.buffers first; written = refl; number = refl; opens = λ disk gate. refl })

  -- the gate is open over it
  pub record StandsOpened (opened : ShelfView D) : Type 0 where
    pub first_then : IsFirstAt at opened.buffers
    pub begun : first_then.sealed.buffer.phase ≡ GateBegun
    pub number : first_then.sealed.buffer.number ≡ first.sealed.buffer.number
    pub gate : gate_at opened.gates first_then.sealed.buffer.block ≡ Set

  module _ (opened : ShelfView D) (is : opened ≡ with_opening opened.disk Set old first.sealed) where
    pub opened_first : first.sealed.buffer.block < length old.gates → StandsOpened opened
    opened_first lt = subst StandsOpened (sym is) (record {
      first_then = first_later GateBegun refl at old.buffers first;
      begun = refl;
      number = refl;
      gate = get_or-set_same old.gates first.sealed.buffer.block Set Shut lt;
    })

    -- then it leaves
    module _ (number : ℕ) (new : ShelfView D) (left : (then : IsFirstAt at opened.buffers) → IsWithoutFirst number then.sealed opened new) where
      leaves_it : IsWithoutFirst number (first_later GateBegun refl at old.buffers first).sealed (with_opening opened.disk Set old first.sealed) new
      leaves_it = subst (λ (v : ShelfView D). (then : IsFirstAt at v.buffers) → IsWithoutFirst number then.sealed v new) is left (first_later GateBegun refl at old.buffers first)

      pub left_disk : new.disk ≡ opened.disk
      left_disk = ap (λ (v : ShelfView D). v.disk) leaves_it.rest

      pub left_shape : SameShape old new
      left_shape = record {
        geometry = ap (λ (v : ShelfView D). v.geometry) leaves_it.rest;
        limits = ap (λ (v : ShelfView D). v.limits) leaves_it.rest;
        raid =
            ap (λ (v : ShelfView D). v.raid) leaves_it.rest;
      }

      pub leaves_shelf : first.sealed.buffer.number ≡ number → FirstLeaves number old new
      leaves_shelf own = record {
        first = first.sealed;
        left = ap (λ (v : ShelfView D). v.buffers) leaves_it.rest;
        own = own;
        gates = ap (λ (v : ShelfView D). v.gates) leaves_it.rest;
        holds = leaves_it.unheld;
        lives = ap (λ (v : ShelfView D). v.lives) leaves_it.rest;
        queue = ap (λ (v : ShelfView D). v.queue) leaves_it.rest;
        cache = ap (λ (v : ShelfView D). v.cache) leaves_it.rest;
        next = ap (λ (v : ShelfView D). v.next_number) leaves_it.rest;
      }

  -- shape and limits stay
  pub opened_shape : (opened : ShelfView D) (gate : Gate) → opened ≡ with_opening opened.disk gate old first.sealed → SameShape old opened
  opened_shape opened gate is = record { geometry = ap (λ (v : ShelfView D). v.geometry) is; limits = ap (λ (v : ShelfView D). v.limits) is; raid = ap (λ (v : ShelfView D). v.raid) is }

pub setup_in : {D : Type 0} (setup : Setup) (old new : ShelfView D) → SameShape old new → IsSetupOf setup old → IsSetupOf setup new
setup_in setup old new same of_old = record {
  shape = subst (IsShapeOf setup) (sym same.geometry) of_old.shape;
  pending = of_old.pending ∙ ap (λ (l : ShelfLimits). l.pending) (sym same.limits);
  lwm = of_old.lwm ∙ ap (λ (l : ShelfLimits). l.lwm) (sym same.limits);
  cache = of_old.cache ∙ ap (λ (l : ShelfLimits). l.cache) (sym same.limits);
  sprigs = of_old.sprigs ∙ ap (λ (l : ShelfLimits). l.sprigs) (sym same.limits);
}

pub later_then : (old mid new : DiskView) → IsLater old mid → IsLater mid new → IsLater old new
later_then old mid new first then =
    let up = first.count in let more = then.count in
    record { time = advances_on old mid new first.time then.time; count = omega (arith, up, more); size = then.size ∙ first.size }

-- a block of the device has a gate
pub first_below : {D : Type 0} (view : D → DiskView) (shelf : ShelfView D) (first : FirstSealed shelf.buffers) → IsShelf view shelf → first.buffer.block < length shelf.gates
first_below view shelf first is =
    subst (λ (n : ℕ). first.buffer.block < n) (sym is.gates)
    (all_own (IsBufferOf shelf.geometry shelf.next_number) first.front first.buffer first.behind (subst (AllByRecursion (IsBufferOf shelf.geometry shelf.next_number)) first.parts is.buffers)).block

-- ---- after a fault

pub stays_unwritten : {D : Type 0} (old new : ShelfView D) (first : FirstSealed old.buffers) → (is_written first.buffer.phase ≡ false) × (new ≡ with_disk new.disk old) → FirstStays old new
stays_unwritten old new first is = record { first = first; stage = inl is }

pub stays_begun : {D : Type 0} (old new : ShelfView D) (first : FirstSealed old.buffers) → new ≡ with_opening new.disk Unsure old first → FirstStays old new
stays_begun old new first is = record { first = first; stage = inr is }
