-- Crate model_device. The history of one digest, and what a restart may keep of it.
-- Histories stand newest first: what is left of one when some of its newest items are lost is the rest of the list.
use Rattle.std.specs.Prelude.{ℕ, Bool, true, false, not, ◌&&◌, ◌||◌, ◌==◌, List, [], ◌∷◌, ◌++◌, Option, Some, None, ◌≡◌, if◌then◌else◌, IsTrue}
use Rattle.std.specs.List.{list_any}
use Rattle.rec_format.specs.declared.version.Version.{Version}
use Rattle.rec_format.specs.Versions.{is_tombstone, is_live_put}

-- a version with the numbers of the buffers that it went to, a removal by an ordinary delete or an expiry,
-- a tombstone's entry removed by a raid, and a cover flag cleared by a raid
pub data Item : Type 0 where
  write : Version → List ℕ → Item
  dropped rid cleared : Item

-- the buffers that aren't flushed, each with whether the write of its gate has begun
abbrev pub Pending : Type 0
Pending = List (ℕ × Bool)

abbrev pub is_pending : Pending → ℕ → Bool
is_pending pending number = list_any (λ p. p.0 == number) pending

abbrev pub is_begun : Pending → ℕ → Bool
is_begun pending number = list_any (λ p. p.0 == number && p.1) pending

-- in what state of being stored a write is
pub data Stage : Type 0 where
  waiting begun flushed : Stage

-- a write is flushed where it has no number, or one of its buffers is flushed
abbrev pub is_flushed : Pending → List ℕ → Bool
is_flushed pending [] = true
is_flushed pending (n ∷ ns) = list_any (λ number. not (is_pending pending number)) (n ∷ ns)

abbrev pub stage_of : Pending → List ℕ → Stage
stage_of pending numbers =
    if is_flushed pending numbers then flushed else if list_any (is_begun pending) numbers then begun else waiting

abbrev pub is_waiting : Stage → Bool
is_waiting waiting = true
is_waiting begun = false
is_waiting flushed = false

-- the entry: the newest write, unless it was removed since
abbrev pub top_of : List Item → Option Version
top_of [] = None
top_of (write v numbers ∷ older) = Some v
top_of (dropped ∷ older) = None
top_of (rid ∷ older) = None
top_of (cleared ∷ older) = top_of older

-- the entry's cover flag: as it was written, unless a raid has cleared it since
abbrev pub is_covered : List Item → Bool
is_covered [] = false
is_covered (write v numbers ∷ older) = v.cover
is_covered (dropped ∷ older) = false
is_covered (rid ∷ older) = false
is_covered (cleared ∷ older) = false

-- a version, if it is a put that isn't expired
abbrev pub if_live : ℕ → Option Version → Option Version
if_live now None = None
if_live now (Some v) = if is_live_put now v then Some v else None

-- what a reader sees
abbrev pub seen_at : ℕ → List Item → Option Version
seen_at now history = if_live now (top_of history)

-- the entry went to one more buffer; a write without numbers is flushed already, and stays so
abbrev pub with_number : ℕ → List Item → List Item
with_number number [] = []
with_number number (write v [] ∷ older) = write v [] ∷ older
with_number number (write v (n ∷ ns) ∷ older) = write v (number ∷ n ∷ ns) ∷ older
with_number number (dropped ∷ older) = dropped ∷ older
with_number number (rid ∷ older) = rid ∷ older
with_number number (cleared ∷ older) = cleared ∷ with_number number older

-- whether a history has a flushed write
abbrev pub has_flushed : Pending → List Item → Bool
has_flushed pending [] = false
has_flushed pending (write v numbers ∷ older) = is_flushed pending numbers || has_flushed pending older
has_flushed pending (dropped ∷ older) = has_flushed pending older
has_flushed pending (rid ∷ older) = has_flushed pending older
has_flushed pending (cleared ∷ older) = has_flushed pending older

abbrev pub has_flushed_tombstone : Pending → List Item → Bool
has_flushed_tombstone pending [] = false
has_flushed_tombstone pending (write v numbers ∷ older) = (is_flushed pending numbers && is_tombstone v) || has_flushed_tombstone pending older
has_flushed_tombstone pending (dropped ∷ older) = has_flushed_tombstone pending older
has_flushed_tombstone pending (rid ∷ older) = has_flushed_tombstone pending older
has_flushed_tombstone pending (cleared ∷ older) = has_flushed_tombstone pending older

-- there is a flushed write, and after the newest of them nothing was removed
abbrev pub is_durable : Pending → List Item → Bool
is_durable pending [] = false
is_durable pending (write v numbers ∷ older) = is_flushed pending numbers || is_durable pending older
is_durable pending (dropped ∷ older) = false
is_durable pending (rid ∷ older) = false
is_durable pending (cleared ∷ older) = is_durable pending older

-- nothing, or a history that ends in a write which may be on the device
abbrev pub ends_well : Pending → List Item → Bool
ends_well pending [] = true
ends_well pending (write v numbers ∷ older) = not (is_waiting (stage_of pending numbers))
ends_well pending (dropped ∷ older) = false
ends_well pending (rid ∷ older) = false
ends_well pending (cleared ∷ older) = false

abbrev pub is_nothing : List Item → Bool
is_nothing [] = true
is_nothing (item ∷ older) = false

-- What a crash may leave of a history: nothing, or the history up to a write whose flush has at least begun.
-- It reaches the newest flushed write if nothing was removed since, and if it isn't nothing, every flushed tombstone.
pub record Keeps (pending : Pending) (history kept : List Item) : Type 0 where
  pub lost : List Item
  pub parts : history ≡ lost ++ kept
  pub end : IsTrue (ends_well pending kept)
  pub durable : IsTrue (is_durable pending history) → has_flushed pending lost ≡ false
  pub tombstones : IsTrue (is_nothing kept || not (has_flushed_tombstone pending lost))

-- the same as a test of the two parts of a history
abbrev pub may_keep : Pending → (lost kept : List Item) → Bool
may_keep pending lost kept =
    ends_well pending kept
    && not (is_durable pending (lost ++ kept) && has_flushed pending lost)
    && (is_nothing kept || not (has_flushed_tombstone pending lost))

-- all that may be kept, the longest first
abbrev pub choices_after : Pending → (lost kept : List Item) → List (List Item)
choices_after pending lost [] = if may_keep pending lost [] then [] ∷ [] else []
choices_after pending lost (item ∷ older) =
    (if may_keep pending lost (item ∷ older) then (item ∷ older) ∷ [] else []) ++ choices_after pending (lost ++ item ∷ []) older

abbrev pub choices : Pending → List Item → List (List Item)
choices pending history = choices_after pending [] history

-- what a restart makes of a kept history: its writes are on the device, so no buffer is named any more
abbrev pub without_numbers : List Item → List Item
without_numbers [] = []
without_numbers (write v numbers ∷ older) = write v [] ∷ without_numbers older
without_numbers (dropped ∷ older) = dropped ∷ without_numbers older
without_numbers (rid ∷ older) = rid ∷ without_numbers older
without_numbers (cleared ∷ older) = cleared ∷ without_numbers older

-- what a history shows after a restart: the version at its end
abbrev pub last_write : List Item → Option Version
last_write [] = None
last_write (write v numbers ∷ older) = Some v
last_write (dropped ∷ older) = last_write older
last_write (rid ∷ older) = last_write older
last_write (cleared ∷ older) = last_write older

-- all versions that were written
abbrev pub writes_of : List Item → List Version
writes_of [] = []
writes_of (write v numbers ∷ older) = v ∷ writes_of older
writes_of (dropped ∷ older) = writes_of older
writes_of (rid ∷ older) = writes_of older
writes_of (cleared ∷ older) = writes_of older
