-- What calls make of the flushed buffers that a shelf keeps.
use Rattle.std.proofs.Common.{◌≡◌, inl, inr, ℕ, Bool, true, false, cond, ◌&&◌, List, [], ◌∷◌, ◌++◌, map, refl, sym, ◌∙◌, ap, subst}
use Rattle.std.specs.Prelude.{Option, Some, None, Result, Ok, Err, MatchOption}
use Rattle.std.specs.List.{AllByRecursion}
use Rattle.std.proofs.lemmas.Bool.{false≢true}
use Rattle.std.proofs.lemmas.List.{map-append}
use Rattle.rec_format.specs.declared.entry.Entry.{Entry}
use Rattle.model_device.specs.Book.{Setup, Buffer, Stream, client, defrag, is_filling, same_stream, sealed, sealed_if, seal_stream}
use Rattle.model_device.specs.Device.{State}
use Rattle.model_device.specs.Steps.{after_step, after_steps}
use Rattle.model_device.specs.Legal.{seal_if}
use Rattle.write_buffer.specs.declared.phase.Phase.TheVariants.{GateBegun}
use Rattle.write_buffer.specs.declared.stream.Stream as buffer
use Rattle.write_buffer.specs.declared.stream.Stream.TheVariants.{Client, Defrag}
use Rattle.write_buffer.specs.Buffers.{BufferState, with_phase}
use Rattle.post_cache.specs.Bodies.{CacheState}
use Rattle.block_shelf.specs.View.{ShelfView, is_unsealed}
use Rattle.block_shelf.specs.Standing.{StandsFor, book_buffer}
use Rattle.block_shelf.specs.Changes.{with_flushed}
use Rattle.block_shelf.specs.Appends.{BeginsInFirst}
use Rattle.block_shelf.specs.Keeping.{KeepsAll, names_of}
use Rattle.block_shelf.specs.Flushes.{FirstSealed, FirstLeaves, FirstStays}
use Rattle.block_shelf.specs.declared.refusals.PutRefusal.TheVariants as put
use Rattle.block_shelf.proofs.KeptAll.{all_left, all_room, all_same}
use Rattle.block_shelf.proofs.Names.{names_joined}
use Rattle.defrag_pass.specs.declared.refusal.MoveRefusal.{MoveRefusal}
use Rattle.defrag_pass.specs.Moves.{KeepsMoved}
use Rattle.shard_core.specs.declared.refusals.WriteRefusal.{WriteRefusal}
use Rattle.shard_core.specs.declared.refusals.WriteRefusal.TheVariants as write
use Rattle.shard_core.specs.Calls.{IsShelfLeft}
use Rattle.shard_core.specs.Keeping.{written_out, kept_after, LeaveInTurn, FlushesInTurn, SealsAndFlushes, FlushesFront, CopiesAndFlushes, KeepsWritten, KeepsBy}
use Rattle.shard_core.specs.Keeping.{KeepsOne, KeepsOver, KeepsThrough}

-- ---- the loop of a flush

-- they left, and nothing else has changed
abbrev pub LeaveAlone : (flushed old new : List BufferState) → Type 0
LeaveAlone [] old new = new ≡ old
LeaveAlone (b ∷ flushed) old new = (first : FirstSealed old) × (b ≡ written_out first.buffer) × LeaveAlone flushed (first.front ++ first.behind) new

pub record FlushesAlone {D : Type 0} (old new : ShelfView D) : Type 0 where
  pub flushed : List BufferState
  pub leave : LeaveAlone flushed old.buffers new.buffers
  pub kept : new.cache ≡ kept_after flushed old.cache
  pub next : new.next_number ≡ old.next_number

leaves_more : (flushed old mid new : List BufferState) (b : BufferState) → LeaveAlone flushed old mid → (first : FirstSealed mid) → b ≡ written_out first.buffer
    → new ≡ first.front ++ first.behind → LeaveAlone (flushed ++ b ∷ []) old new
leaves_more [] old mid new b at first is left =
    subst (λ (l : List BufferState). (f : FirstSealed l) × (b ≡ written_out f.buffer) × (new ≡ f.front ++ f.behind)) at (first, is, left)
leaves_more (x ∷ flushed) old mid new b out first is left = (out.0, out.1, leaves_more flushed (out.0.front ++ out.0.behind) mid new b out.2 first is left)

leaves_so : (flushed old mid new : List BufferState) → LeaveAlone flushed old mid → map written_out new ≡ map written_out mid → LeaveInTurn flushed old new
leaves_so [] old mid new at same = same ∙ ap (map written_out) at
leaves_so (b ∷ flushed) old mid new out same = (out.0, out.1, leaves_so flushed (out.0.front ++ out.0.behind) mid new out.2 same)

kept_more : (flushed : List BufferState) (b : BufferState) (cache : CacheState BufferState) → kept_after (flushed ++ b ∷ []) cache ≡ with_flushed b (kept_after flushed cache)
kept_more [] b cache = refl
kept_more (x ∷ flushed) b cache = kept_more flushed b (with_flushed x cache)

pub flushes_none : {D : Type 0} (old : ShelfView D) → FlushesAlone old old
flushes_none old = record { flushed = []; leave = refl; kept = refl; next = refl }

pub flushes_more : {D : Type 0} (number : ℕ) (old mid new : ShelfView D) → FlushesAlone old mid → FirstLeaves number mid new → FlushesAlone old new
flushes_more number old mid new so leaves =
    let b : BufferState = written_out leaves.first.buffer in
    record {
      flushed = so.flushed ++ b ∷ [];
      leave = leaves_more so.flushed old.buffers mid.buffers new.buffers b so.leave leaves.first refl leaves.left;
      kept = leaves.cache ∙ ap (with_flushed b) so.kept ∙ sym (kept_more so.flushed b old.cache);
      next = leaves.next ∙ so.next;
    }

pub flushes_so : {D : Type 0} (old mid new : ShelfView D) → FlushesAlone old mid → map written_out new.buffers ≡ map written_out mid.buffers → new.cache ≡ mid.cache
    → new.next_number ≡ mid.next_number → FlushesInTurn old new
flushes_so old mid new so same cache next = record {
  flushed = so.flushed;
  leave = leaves_so so.flushed old.buffers mid.buffers new.buffers so.leave same;
  kept = cache ∙ so.kept;
  next = next ∙ so.next;
}

-- a flush that failed leaves the buffer, written as far as it came
stays_same : {D : Type 0} (mid new : ShelfView D) → FirstStays mid new → (map written_out new.buffers ≡ map written_out mid.buffers) × (new.cache ≡ mid.cache) × (new.next_number ≡ mid.next_number)
stays_same {D} mid new stays = elim stays.stage [
  | inl before ↦ (
    ap (λ (v : ShelfView D). map written_out v.buffers) before.1,
    ap (λ (v : ShelfView D). v.cache) before.1,
    ap (λ (v : ShelfView D). v.next_number) before.1,
  )
  | inr begun ↦ (
    ap (λ (v : ShelfView D). map written_out v.buffers) begun ∙ map-append written_out stays.first.front (with_phase GateBegun stays.first.buffer ∷ stays.first.behind)
        ∙ sym (map-append written_out stays.first.front (stays.first.buffer ∷ stays.first.behind)) ∙ ap (map written_out) (sym stays.first.parts),
    ap (λ (v : ShelfView D). v.cache) begun,
    ap (λ (v : ShelfView D). v.next_number) begun,
  )
]

pub flushes_stopped : {D : Type 0} (old mid new : ShelfView D) → FlushesAlone old mid → FirstStays mid new → FlushesInTurn old new
flushes_stopped old mid new so stays = let same = stays_same mid new stays in flushes_so old mid new so same.0 same.1 same.2

pub flushes_here : {D : Type 0} (old mid new : ShelfView D) → FlushesAlone old mid → new ≡ mid → FlushesInTurn old new
flushes_here {D} old mid new so is =
    flushes_so old mid new so (ap (λ (v : ShelfView D). map written_out v.buffers) is) (ap (λ (v : ShelfView D). v.cache) is) (ap (λ (v : ShelfView D). v.next_number) is)

-- ---- a flush of all

-- where all are sealed the first of them leave
front_leaves : (flushed old new : List BufferState) → AllByRecursion (λ b. is_unsealed b.phase ≡ false) old → LeaveInTurn flushed old new → map written_out old ≡ flushed ++ map written_out new
front_leaves [] old new all same = sym same
front_leaves (b ∷ flushed) old new all out = by out.0.front out.0.filling out.0.parts out.2 (λ rest all then. front_leaves flushed rest new all then)
  where
    by : (front : List BufferState) → AllByRecursion (λ c. is_unsealed c.phase ≡ true) front → old ≡ front ++ out.0.buffer ∷ out.0.behind → LeaveInTurn flushed (front ++ out.0.behind) new
        → ((rest : List BufferState) → AllByRecursion (λ c. is_unsealed c.phase ≡ false) rest → LeaveInTurn flushed rest new → map written_out rest ≡ flushed ++ map written_out new)
        → map written_out old ≡ b ∷ (flushed ++ map written_out new)
    by [] fills parts then leaves =
        let rest = subst (AllByRecursion (λ c. is_unsealed c.phase ≡ false)) parts all in
        ap (map written_out) parts ∙ ap (λ (l : List BufferState). written_out out.0.buffer ∷ l) (leaves out.0.behind rest.1 then)
        ∙ ap (λ (c : BufferState). c ∷ (flushed ++ map written_out new)) (sym out.1)
    by (c ∷ front) fills parts then leaves =
        let rest = subst (AllByRecursion (λ c. is_unsealed c.phase ≡ false)) parts all in
        absurd (false≢true (sym rest.0 ∙ fills.0))

names_out : (buffers : List BufferState) → names_of (map written_out buffers) ≡ names_of buffers
names_out [] = refl
names_out (b ∷ buffers) = ap (λ (l : List (ℕ × ℕ)). (b.number, b.block) ∷ l) (names_out buffers)

front_names : (flushed old new : List BufferState) → map written_out old ≡ flushed ++ map written_out new → names_of old ≡ names_of flushed ++ names_of new
front_names flushed old new parts =
    sym (names_out old) ∙ ap names_of parts ∙ names_joined flushed (map written_out new)
    ∙ ap (λ (l : List (ℕ × ℕ)). names_of flushed ++ l) (names_out new)

-- ---- seals, by the state

abbrev name_in : Buffer → ℕ × ℕ
name_in b = (b.number, b.block)

abbrev names_in : List Buffer → List (ℕ × ℕ)
names_in buffers = map name_in buffers

book_names : (buffers : List BufferState) → names_in (map book_buffer buffers) ≡ names_of buffers
book_names [] = refl
book_names (b ∷ buffers) = ap (λ (l : List (ℕ × ℕ)). (b.number, b.block) ∷ l) (book_names buffers)

names_stand : {D : Type 0} (setup : Setup) (shelf : ShelfView D) (s : State) → StandsFor setup shelf s → names_in s.book.buffers ≡ names_of shelf.buffers
names_stand setup shelf s stands = ap names_in stands.buffers ∙ book_names shelf.buffers

sealed_one : (chosen : Bool) (b : Buffer) → name_in (sealed_if chosen b) ≡ name_in b
sealed_one chosen b = by (chosen && is_filling b.phase)
  where
    by : (c : Bool) → name_in (cond c (record b { phase = sealed }) b) ≡ name_in b
    by true = refl
    by false = refl

sealed_names : (stream : Stream) (buffers : List Buffer) → names_in (seal_stream stream buffers) ≡ names_in buffers
sealed_names stream [] = refl
sealed_names stream (b ∷ buffers) = λ i. sealed_one (same_stream stream b.stream) b i ∷ sealed_names stream buffers i

abbrev sealed_where : Bool → Stream → List Buffer → List Buffer
sealed_where true stream buffers = seal_stream stream buffers
sealed_where false stream buffers = buffers

after_seals : (setup : Setup) (one two : Bool) (s : State)
    → ((after_steps setup (seal_if one client ++ seal_if two defrag) s).book.buffers ≡ sealed_where two defrag (sealed_where one client s.book.buffers))
    × ((after_steps setup (seal_if one client ++ seal_if two defrag) s).book.next_number ≡ s.book.next_number)
unfolding after_step
after_seals setup true true s = (refl, refl)
after_seals setup true false s = (refl, refl)
after_seals setup false true s = (refl, refl)
after_seals setup false false s = (refl, refl)

where_names : (chosen : Bool) (stream : Stream) (buffers : List Buffer) → names_in (sealed_where chosen stream buffers) ≡ names_in buffers
where_names true stream buffers = sealed_names stream buffers
where_names false stream buffers = refl

-- buffers may have been sealed, of one stream or of both
pub seals_keep : {D : Type 0} (setup : Setup) (one two : Bool) (s : State) (old mid : ShelfView D) → StandsFor setup old s
    → StandsFor setup mid (after_steps setup (seal_if one client ++ seal_if two defrag) s) → mid.cache ≡ old.cache → KeepsAll old mid
seals_keep setup one two s old mid was is cache =
    let seals = after_seals setup one two s in
    let t : State = after_steps setup (seal_if one client ++ seal_if two defrag) s in
    record {
      cache = cache;
      names = sym (names_stand setup mid t is) ∙ ap names_in seals.0 ∙ where_names two defrag (sealed_where one client s.book.buffers) ∙ where_names one client s.book.buffers
          ∙ names_stand setup old s was;
      next = sym is.next ∙ seals.1 ∙ was.next;
    }

pub flushes_front : {D : Type 0} (old mid new : ShelfView D) → KeepsAll old mid → AllByRecursion (λ b. is_unsealed b.phase ≡ false) mid.buffers → FlushesInTurn mid new → FlushesFront old new
flushes_front old mid new seals all flushes = record {
  flushed = flushes.flushed;
  parts = sym seals.names ∙ front_names flushes.flushed mid.buffers new.buffers (front_leaves flushes.flushed mid.buffers new.buffers all flushes.leave);
  kept = flushes.kept ∙ ap (kept_after flushes.flushed) seals.cache;
  next = flushes.next ∙ seals.next;
}

-- ---- a commit

pub flushes_nothing : {D : Type 0} (shelf : ShelfView D) → SealsAndFlushes shelf shelf
flushes_nothing shelf = record { sealed = shelf; seals = all_same shelf; flushes = record { flushed = []; leave = refl; kept = refl; next = refl } }

pub flushes_sealed : {D : Type 0} (old mid new : ShelfView D) → KeepsAll old mid → FlushesInTurn mid new → SealsAndFlushes old new
flushes_sealed old mid new seals flushes = record { sealed = mid; seals = seals; flushes = flushes }

-- ---- writes

pub keeps_flush : {D : Type 0} (units : ℕ) (old mid new : ShelfView D) → BeginsInFirst Client units old mid → SealsAndFlushes mid new → CopiesAndFlushes units old new
keeps_flush units old mid new copies flushes = record { copied = mid; copies = copies; flushes = flushes }

-- with commit off, and on
pub written_off : {D : Type 0} (commit : Bool) (units : ℕ) (old new : ShelfView D) → commit ≡ false → BeginsInFirst Client units old new → KeepsWritten commit units old new
written_off commit units old new off keeps = subst (λ (b : Bool). KeepsWritten b units old new) (sym off) keeps

pub written_on : {D : Type 0} (commit : Bool) (units : ℕ) (old new : ShelfView D) → commit ≡ true → CopiesAndFlushes units old new → KeepsWritten commit units old new
written_on commit units old new on keeps = subst (λ (b : Bool). KeepsWritten b units old new) (sym on) keeps

-- a shelf that a refusal left as it was keeps what it kept
pub left_keeps : {D : Type 0} (old new : ShelfView D) (refusal : WriteRefusal) → IsShelfLeft old new refusal → KeepsAll old new
left_keeps old new (write.Big units capacity) is = all_left old new put.Spent is
left_keeps old new (write.Gen seen) is = all_left old new put.Spent is
left_keeps old new write.Spent is = all_left old new put.Spent is
left_keeps old new (write.Load pending) is = all_left old new put.Spent is
left_keeps old new (write.Space free) is = all_left old new put.Spent is
left_keeps old new write.Memory is = all_room old new is
left_keeps old new write.Fault is = all_left old new put.Fault is

-- a write that was refused before it called the shelf
pub keeps_all : {D T : Type 0} (commit : Bool) (units : ℕ) (shelf : ShelfView D) (r : Result T WriteRefusal) (refusal : WriteRefusal) → r ≡ Err refusal → KeepsBy commit units shelf shelf r
keeps_all commit units shelf r refusal is = subst (KeepsBy commit units shelf shelf) (sym is) (inl (all_same shelf))

-- the answer may be of another kind
pub keeps_as : {D T U : Type 0} (commit : Bool) (units : ℕ) (old new : ShelfView D) (r : Result T WriteRefusal) (done : U) (x : T) → r ≡ Ok x → KeepsBy commit units old new r
    → KeepsBy {D = D} {T = U} commit units old new (Ok done)
keeps_as commit units old new r done x is keeps = subst (KeepsBy commit units old new) is keeps

pub keeps_refused : {D T U : Type 0} (commit : Bool) (units : ℕ) (old new : ShelfView D) (r : Result T WriteRefusal) (s : Result U WriteRefusal) (refusal : WriteRefusal) → r ≡ Err refusal
    → s ≡ Err refusal → KeepsBy commit units old new r → KeepsBy commit units old new s
keeps_refused {D} {T} {U} commit units old new r s refusal is same keeps =
    subst (KeepsBy {D = D} {T = U} commit units old new) (sym same) (subst (KeepsBy {D = D} {T = T} commit units old new) is keeps)

-- ---- several in a row

over_then : {D : Type 0} (flushing : Bool) (first then : List (ShelfView D)) (old mid new : ShelfView D) → KeepsOver flushing first old mid → KeepsOver flushing then mid new
    → KeepsOver flushing (first ++ mid ∷ then) old new
over_then flushing [] then old mid new one more = (one, more)
over_then flushing (x ∷ first) then old mid new one more = (one.0, over_then flushing first then x mid new one.1 more)

pub through_then : {D : Type 0} (flushing : Bool) (old mid new : ShelfView D) → KeepsThrough flushing old mid → KeepsThrough flushing mid new → KeepsThrough flushing old new
through_then flushing old mid new first then = record {
  between = first.between ++ mid ∷ then.between;
  over = over_then flushing first.between then.between old mid new first.over then.over;
}

through_one : {D : Type 0} (flushing : Bool) (old new : ShelfView D) → KeepsOne flushing old new → KeepsThrough flushing old new
through_one flushing old new one = record { between = []; over = one }

pub through_all : {D : Type 0} (flushing : Bool) (old new : ShelfView D) → KeepsAll old new → KeepsThrough flushing old new
through_all flushing old new keeps = through_one flushing old new (inl keeps)

pub through_copy : {D : Type 0} (flushing : Bool) (stream : buffer.Stream) (units : ℕ) (old new : ShelfView D) → BeginsInFirst stream units old new → KeepsThrough flushing old new
through_copy flushing stream units old new (inl room) = through_all flushing old new room.2
through_copy flushing stream units old new (inr none) = through_one flushing old new (inr (inl (_, none.2)))

through_flush : {D : Type 0} (old new : ShelfView D) → SealsAndFlushes old new → KeepsThrough true old new
through_flush old new flushes =
    through_then true old flushes.sealed new (through_all true old flushes.sealed flushes.seals) (through_one true flushes.sealed new (inr (inr (refl, flushes.flushes))))

through_written : {D : Type 0} (commit : Bool) (units : ℕ) (old new : ShelfView D) → KeepsWritten commit units old new → KeepsThrough commit old new
through_written false units old new keeps = through_copy false Client units old new keeps
through_written true units old new keeps =
    through_then true old keeps.copied new (through_copy true Client units old keeps.copied keeps.copies) (through_flush keeps.copied new keeps.flushes)

-- what one write makes of it
pub through_write : {D T : Type 0} (commit : Bool) (units : ℕ) (old new : ShelfView D) (r : Result T WriteRefusal) → KeepsBy commit units old new r → KeepsThrough commit old new
through_write commit units old new (Ok done) keeps = through_written commit units old new keeps
through_write commit units old new (Err refusal) (inl keeps) = through_all commit old new keeps
through_write commit units old new (Err refusal) (inr failed) = through_written commit units old new failed.2

-- and one removal, which writes only where the entry is covered
pub through_removal : {D T : Type 0} (covered commit : Bool) (units : ℕ) (old new : ShelfView D) (r : Result T WriteRefusal)
    → (covered ≡ false → KeepsAll old new) × (covered ≡ true → KeepsBy commit units old new r) → KeepsThrough commit old new
through_removal false commit units old new r keeps = through_all commit old new (keeps.0 refl)
through_removal true commit units old new r keeps = through_write commit units old new r (keeps.1 refl)

pub through_none : {D : Type 0} (flushing : Bool) (old new : ShelfView D) → new ≡ old → KeepsThrough flushing old new
through_none flushing old new is = through_all flushing old new (all_left old new put.Spent is)

-- where the disk alone was read
pub through_read : {D : Type 0} (flushing : Bool) (old new : ShelfView D) → new ≡ record old { disk = new.disk } → KeepsThrough flushing old new
through_read {D} flushing old new is = through_all flushing old new (record {
  cache = ap (λ (v : ShelfView D). v.cache) is;
  names = ap (λ (v : ShelfView D). names_of v.buffers) is;
  next = ap (λ (v : ShelfView D). v.next_number) is;
})

through_move : {D : Type 0} (units : ℕ) (old new : ShelfView D) (r : Result Bool MoveRefusal) → KeepsMoved units old new r → KeepsThrough false old new
through_move units old new (Ok true) keeps = through_copy false Defrag units old new keeps
through_move units old new (Ok false) keeps = through_all false old new keeps
through_move units old new (Err refusal) keeps = through_all false old new keeps

-- and one move of a record
pub through_found : {D : Type 0} (found : Option Entry) (old new : ShelfView D) (r : Result Bool MoveRefusal)
    → MatchOption found (KeepsAll old new) (λ e. KeepsMoved e.units old new r) → KeepsThrough false old new
through_found None old new r keeps = through_all false old new keeps
through_found (Some e) old new r keeps = through_move e.units old new r keeps
