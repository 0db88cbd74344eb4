-- The calls on an open file, in order, and what came of each.
use Rattle.std.specs.Prelude.{◌≡◌, ◌⊎◌, ℕ, ◌+◌, ◌-◌, ◌^◌, ◌<◌, ◌≤◌, ◌==◌, Bool, true, false, List, [], ◌∷◌, ◌++◌, length, take, drop, map, Option, Some, None, Result, Ok, Err, OnOk, IsTrue, if◌then◌else◌}
use Rattle.disk_file.specs.Spans.{Waiting, after_sync}

-- What is done with a device besides reading and writing it: it is opened under a name, to be written too or not, or made under a name that
-- nothing has; it is looked at, and is a file or not; it is locked; it is synced with its length; its name is synced in its folder. The last
-- three go well or not.
pub data Deed : Type 0 where
  opened : (name : List ℕ) (writes : Bool) → Deed
  made : (name : List ℕ) → Deed
  seen : (is_file : Bool) → Deed
  locked settled : (went_well : Bool) → Deed
  named : (name : List ℕ) (went_well : Bool) → Deed

-- At a place there was room for so many bytes, and a read gave these, which are none where it failed. Bytes were given to be written at a
-- place, of which these were taken, which are none where it failed. A sync went well or not. What the system keeps in memory was let go
-- of. The file's length was asked for, and told or not. Or it was one of these deeds.
pub data Call : Type 0 where
  read_call : (place room : ℕ) (bytes : List ℕ) → Call
  write_call : (place : ℕ) (given taken : List ℕ) → Call
  sync_call : (went_well : Bool) → Call
  let_go_call : Call
  length_call : (found : Option ℕ) → Call
  deed_call : Deed → Call

-- so many bytes of these were moved, none where the call failed
abbrev pub moved : {E : Type 0} → Result ℕ E → List ℕ → List ℕ
moved (Ok n) bytes = take n bytes
moved (Err e) bytes = []

abbrev pub found_by : {E : Type 0} → Result ℕ E → Option ℕ
found_by (Ok n) = Some n
found_by (Err e) = None

-- the bytes that reads gave, and those that writes took, in order
abbrev pub bytes_read : List Call → List ℕ
bytes_read [] = []
bytes_read (read_call place room bytes ∷ calls) = bytes ++ bytes_read calls
bytes_read (write_call place given taken ∷ calls) = bytes_read calls
bytes_read (sync_call went_well ∷ calls) = bytes_read calls
bytes_read (let_go_call ∷ calls) = bytes_read calls
bytes_read (length_call found ∷ calls) = bytes_read calls
bytes_read (deed_call deed ∷ calls) = bytes_read calls

abbrev pub bytes_written : List Call → List ℕ
bytes_written [] = []
bytes_written (read_call place room bytes ∷ calls) = bytes_written calls
bytes_written (write_call place given taken ∷ calls) = taken ++ bytes_written calls
bytes_written (sync_call went_well ∷ calls) = bytes_written calls
bytes_written (let_go_call ∷ calls) = bytes_written calls
bytes_written (length_call found ∷ calls) = bytes_written calls
bytes_written (deed_call deed ∷ calls) = bytes_written calls

-- Reads alone, each at the place to which those before it came, and none behind the end.
abbrev pub AreReads : (place end : ℕ) → List Call → Type 0
AreReads place end [] = Unit {0}
AreReads place end (read_call at room bytes ∷ calls) = (at ≡ place) × (at + room ≤ end) × AreReads (place + length bytes) end calls
AreReads place end (write_call at given taken ∷ calls) = ⊥
AreReads place end (sync_call went_well ∷ calls) = ⊥
AreReads place end (let_go_call ∷ calls) = ⊥
AreReads place end (length_call found ∷ calls) = ⊥
AreReads place end (deed_call deed ∷ calls) = ⊥

-- Writes alone, each at the place to which those before it came, of bytes from the front of those that are left.
abbrev pub AreWrites : (place : ℕ) (bytes : List ℕ) → List Call → Type 0
AreWrites place bytes [] = Unit {0}
AreWrites place bytes (read_call at room got ∷ calls) = ⊥
AreWrites place bytes (write_call at given taken ∷ calls) = (at ≡ place) × ((later : List ℕ) × (bytes ≡ given ++ later)) × AreWrites (place + length taken) (drop (length taken) bytes) calls
AreWrites place bytes (sync_call went_well ∷ calls) = ⊥
AreWrites place bytes (let_go_call ∷ calls) = ⊥
AreWrites place bytes (length_call found ∷ calls) = ⊥
AreWrites place bytes (deed_call deed ∷ calls) = ⊥

-- A read into a buffer from a place on calls for bytes of that range alone. Where it went well, the bytes in the buffer are those that the
-- file gave, one after another.
pub record IsRead {T E : Type 0} (place : ℕ) (out : List ℕ) (result : Result T E) (old new : List Call) : Type 0 where
  pub calls : List Call
  pub since : new ≡ old ++ calls
  pub in_place : AreReads place (place + length out) calls
  pub whole : OnOk result (bytes_read calls ≡ out)

-- Calls write these bytes at their places, and do nothing else. Where all went well, the file took them all.
pub record WritesOn {T E : Type 0} (place : ℕ) (bytes : List ℕ) (result : Result T E) (old new : List Call) : Type 0 where
  pub calls : List Call
  pub since : new ≡ old ++ calls
  pub in_place : AreWrites place bytes calls
  pub whole : OnOk result (bytes_written calls ≡ bytes)

-- the length was told, and these n bytes at a place end within it
abbrev pub HasRange : ℕ → ℕ → Option ℕ → Type 0
HasRange place n None = ⊥
HasRange place n (Some len) = place + n ≤ len

-- A write first asks for the length. It calls for more only where the file has the whole range, so it makes no file longer.
pub record IsWrite {T E : Type 0} (place : ℕ) (bytes : List ℕ) (result : Result T E) (old new : List Call) : Type 0 where
  pub found : Option ℕ
  pub writes : WritesOn place bytes result (old ++ length_call found ∷ []) new
  pub within : (new ≡ old ++ length_call found ∷ []) ⊎ HasRange place (length bytes) found

-- a sync of the system; where it failed, what the system keeps in memory is let go of before any other call
abbrev pub sync_calls : Bool → List Call
sync_calls true = sync_call true ∷ []
sync_calls false = sync_call false ∷ let_go_call ∷ []

-- A sync is one of the system, by whose end it is known what waits. It goes well only where the system's did.
pub record IsSync {T E : Type 0} (result : Result T E) (old new : List Call) (before after : Waiting) : Type 0 where
  pub went_well : Bool
  pub since : new ≡ old ++ sync_calls went_well
  pub waits : after ≡ after_sync went_well before
  pub whole : OnOk result (IsTrue went_well)

-- There were bytes to move, and none was, as where a call fails.
abbrev pub MovedNone : Call → Type 0
MovedNone (read_call place room bytes) = (1 ≤ room) × (bytes ≡ [])
MovedNone (write_call place given taken) = (1 ≤ length given) × (taken ≡ [])
MovedNone (sync_call went_well) = ⊥
MovedNone let_go_call = ⊥
MovedNone (length_call found) = ⊥
MovedNone (deed_call deed) = ⊥

-- The last of the calls since then moved nothing; or there were as many as a number of 64 bits counts.
abbrev pub GaveUp : (old new : List Call) → Type 0
GaveUp old new = ((sooner : List Call) × (last : Call) × (new ≡ old ++ (sooner ++ last ∷ [])) × MovedNone last) ⊎ (length new ≡ length old + (2 ^ 64 - 1))

-- the length wasn't told, or these n bytes at a place end behind it
abbrev pub LacksRange : ℕ → ℕ → Option ℕ → Type 0
LacksRange place n None = Unit {0}
LacksRange place n (Some len) = len < place + n

-- The length was asked for. The file lacks the range, or the writes behind that gave up.
abbrev pub WriteGaveUp : (place n : ℕ) → (old new : List Call) → Type 0
WriteGaveUp place n old new = (found : Option ℕ) × (((new ≡ old ++ length_call found ∷ []) × LacksRange place n found) ⊎ GaveUp (old ++ length_call found ∷ []) new)

-- A call as it is kept: its kind, its numbers, and its bytes.
abbrev pub call_of : List ℕ × List ℕ → Call
call_of (kind ∷ place ∷ count ∷ [], bytes) =
    if kind == 0 then read_call place count bytes
    else (if kind == 1 then write_call place bytes (take count bytes)
    else (if kind == 2 then sync_call (count == 1)
    else (if kind == 3 then length_call (if place == 1 then Some count else None)
    else (if kind == 5 then deed_call (opened bytes (count == 1))
    else (if kind == 6 then deed_call (made bytes)
    else (if kind == 7 then deed_call (locked (count == 1))
    else (if kind == 8 then deed_call (settled (count == 1))
    else (if kind == 9 then deed_call (named bytes (count == 1))
    else (if kind == 10 then deed_call (seen (count == 1)) else let_go_call)))))))))
call_of (numbers, bytes) = let_go_call

abbrev pub calls_of : List (List ℕ × List ℕ) → List Call
calls_of notes = map call_of notes
