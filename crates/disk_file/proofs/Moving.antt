-- How far a read or a write over several calls has come.
use Rattle.std.proofs.Common.{◌≡◌, inl, inr, ℕ, ◌+◌, ◌-◌, ◌≤◌, List, [], ◌∷◌, ◌++◌, length, take, drop, Option, Some, None, Ok, Err}
use Rattle.std.proofs.Common.{refl, sym, ap, ◌∙◌, subst, arith, append_assoc, append-nil, length-append, length-take-le, length-drop}
use Rattle.std.proofs.Math.Seq.{take-add, take-append-add, take-length}
use Rattle.std.proofs.lemmas.List.{drop-drop}
use Rattle.std.proofs.lemmas.Slice.{take-put_mid}
use borrow.Rule.Slice.PartMut.{put_mid, mid_of, same_len_mid}
use Rattle.disk_model.specs.Bytes.{range, Torn, torn_refl}
use Rattle.disk_file.specs.Calls.{Call, read_call, write_call, sync_call, let_go_call, length_call, deed_call, bytes_read, bytes_written, AreReads, AreWrites, IsRead, WritesOn, MovedNone, GaveUp}
use Rattle.disk_file.specs.Told.{Gives, Puts, Tears}

-- the calls so far, and one more
bytes_read-append : (calls more : List Call) → bytes_read (calls ++ more) ≡ bytes_read calls ++ bytes_read more
bytes_read-append [] more = refl
bytes_read-append (read_call place room bytes ∷ calls) more = ap (λ (l : List ℕ). bytes ++ l) (bytes_read-append calls more) ∙ sym (append_assoc bytes (bytes_read calls) (bytes_read more))
bytes_read-append (write_call place given taken ∷ calls) more = bytes_read-append calls more
bytes_read-append (sync_call went_well ∷ calls) more = bytes_read-append calls more
bytes_read-append (let_go_call ∷ calls) more = bytes_read-append calls more
bytes_read-append (length_call found ∷ calls) more = bytes_read-append calls more
bytes_read-append (deed_call deed ∷ calls) more = bytes_read-append calls more

reads_on : (place end : ℕ) (calls : List Call) (at room : ℕ) (bytes : List ℕ) → AreReads place end calls → at ≡ place + length (bytes_read calls) → at + room ≤ end
    → AreReads place end (calls ++ read_call at room bytes ∷ [])
reads_on place end [] at room bytes so_far is within = (omega arith, within, tt)
reads_on place end (read_call at' room' bytes' ∷ calls) at room bytes so_far is within =
    (so_far.0, so_far.1, reads_on (place + length bytes') end calls at room bytes so_far.2 (omega (arith, is, length-append bytes' (bytes_read calls))) within)
reads_on place end (write_call at' given taken ∷ calls) at room bytes so_far is within = absurd so_far
reads_on place end (sync_call went_well ∷ calls) at room bytes so_far is within = absurd so_far
reads_on place end (let_go_call ∷ calls) at room bytes so_far is within = absurd so_far
reads_on place end (length_call found ∷ calls) at room bytes so_far is within = absurd so_far
reads_on place end (deed_call deed ∷ calls) at room bytes so_far is within = absurd so_far

-- so many calls were made, and one more
pub made_more : (tries next : ℕ) (old now new : List Call) (last : Call) → length now ≡ length old + tries → next ≡ tries + 1 → new ≡ now ++ last ∷ [] → length new ≡ length old + next
made_more tries next old now new last so_far is pushed = ap (λ (l : List Call). length l) pushed ∙ length-append now (last ∷ []) ∙ omega (arith, so_far, is)

-- the last call moved nothing
pub gave_up : (old now new calls : List Call) (last : Call) → now ≡ old ++ calls → new ≡ now ++ last ∷ [] → MovedNone last → GaveUp old new
gave_up old now new calls last since pushed none = inl (calls, last, pushed ∙ ap (λ (l : List Call). l ++ last ∷ []) since ∙ append_assoc old calls (last ∷ []), none)

-- a range and the one behind it
gives_on : (told : Option (List ℕ)) (place at : ℕ) (bytes more : List ℕ) → at ≡ place + length bytes → Gives told place bytes → Gives told at more → Gives told place (bytes ++ more)
gives_on None place at bytes more is first then = tt
gives_on (Some held) place at bytes more is first then =
    (λ i. first i ++ then i)
    ∙ (λ i. range place (length bytes) held ++ take (length more) (drop (is i) held))
    ∙ ap (λ (l : List ℕ). range place (length bytes) held ++ take (length more) l) (sym (drop-drop (length bytes) place held))
    ∙ sym (take-add (length bytes) (length more) (drop place held))
    ∙ ap (λ (n : ℕ). range place n held) (sym (length-append bytes more))

-- `at` bytes of a buffer were read
pub record ReadTo (place at : ℕ) (out : List ℕ) (told : Option (List ℕ)) (old now : List Call) : Type 0 where
  pub calls : List Call
  pub since : now ≡ old ++ calls
  pub in_place : AreReads place (place + length out) calls
  pub got : bytes_read calls ≡ take at out
  pub gives : Gives told place (take at out)

gives_none : (told : Option (List ℕ)) (place : ℕ) → Gives told place []
gives_none None place = tt
gives_none (Some held) place = refl

pub read_none : (place : ℕ) (out : List ℕ) (told : Option (List ℕ)) (old : List Call) → ReadTo place 0 out told old old
read_none place out told old = record { calls = []; since = sym (append-nil old); in_place = tt; got = refl; gives = gives_none told place }

read_more : (place at n room at' next_at : ℕ) (out sub next got : List ℕ) (told : Option (List ℕ)) (old now now' : List Call) → ReadTo place at out told old now → at ≤ length out
    → room ≡ length out - at → length sub ≡ room → n ≤ room → at' ≡ place + at → next_at ≡ at + n → next ≡ take at out ++ sub → got ≡ take n sub
    → Gives told at' got → now' ≡ now ++ read_call at' room got ∷ [] → ReadTo place next_at next told old now'
read_more place at n room at' next_at out sub next got told old now now' so_far within room_is same fits at_is on next_is got_is gives pushed = record {
  calls = so_far.calls ++ read_call at' room got ∷ [];
  since = pushed ∙ ap (λ (l : List Call). l ++ read_call at' room got ∷ []) so_far.since ∙ append_assoc old so_far.calls (read_call at' room got ∷ []);
  in_place = subst (λ (k : ℕ). AreReads place (place + k) (so_far.calls ++ read_call at' room got ∷ [])) (sym length_next)
      (reads_on place (place + length out) so_far.calls at' room got so_far.in_place (omega (arith, ap length so_far.got, front)) (omega arith));
  got = bytes_read-append so_far.calls (read_call at' room got ∷ []) ∙ (λ i. so_far.got i ++ append-nil got i) ∙ ap (λ (l : List ℕ). take at out ++ l) got_is ∙ sym taken;
  gives = subst (λ (l : List ℕ). Gives told place l) (ap (λ (l : List ℕ). take at out ++ l) got_is ∙ sym taken)
      (gives_on told place at' (take at out) got (omega (arith, front)) so_far.gives gives);
}
  where
    front : length (take at out) ≡ at
    front = length-take-le at out within

    length_next : length next ≡ length out
    length_next = ap length next_is ∙ length-append (take at out) sub ∙ omega (arith, front)

    taken : take next_at next ≡ take at out ++ take n sub
    taken = (λ i. take (on i) (next_is i)) ∙ ap (λ (k : ℕ). take (k + n) (take at out ++ sub)) (sym front) ∙ take-append-add (take at out) sub n

pub room : (at : ℕ) (out : List ℕ) → at ≤ length out → length (mid_of at (length out - at) out) ≡ length out - at
room at out within = length-take-le (length out - at) (drop at out) (omega (arith, length-drop at out))

pub length-tail_put : (at : ℕ) (out sub : List ℕ) → length sub ≡ length (mid_of at (length out - at) out) → length (put_mid at (length out - at) out sub) ≡ length out
length-tail_put at out sub same = same_len_mid at (length out - at) out sub same

-- a buffer whose back was filled
tail_put : (at : ℕ) (out sub : List ℕ) → at ≤ length out → length sub ≡ length (mid_of at (length out - at) out) → put_mid at (length out - at) out sub ≡ take at out ++ sub
tail_put at out sub within same =
    sym (take-length (put_mid at (length out - at) out sub)) ∙ ap (λ (k : ℕ). take k (put_mid at (length out - at) out sub)) whole
    ∙ take-put_mid at (length out - at) out sub (length out) (omega (arith, same, room at out within)) within
  where
    whole : length (put_mid at (length out - at) out sub) ≡ length out
    whole = same_len_mid at (length out - at) out sub same

pub read_step : (place at n next_at : ℕ) (out sub : List ℕ) (told mid : Option (List ℕ)) (old now now' : List Call) → ReadTo place at out told old now → at ≤ length out
    → length sub ≡ length (mid_of at (length out - at) out) → n ≤ length (mid_of at (length out - at) out) → next_at ≡ at + n → mid ≡ told → Gives mid (place + at) (take n sub)
    → now' ≡ now ++ read_call (place + at) (length (mid_of at (length out - at) out)) (take n sub) ∷ [] → ReadTo place next_at (put_mid at (length out - at) out sub) told old now'
read_step place at n next_at out sub told mid old now now' so_far within same fits on stays gives pushed =
    read_more place at n (length (mid_of at (length out - at) out)) (place + at) next_at out sub (put_mid at (length out - at) out sub) (take n sub) told old now now'
    so_far within (room at out within) same fits refl on (tail_put at out sub within same) refl (subst (λ (t : Option (List ℕ)). Gives t (place + at) (take n sub)) stays gives) pushed

-- all of it
pub read_done : {T E : Type 0} (place at : ℕ) (out : List ℕ) (told : Option (List ℕ)) (old now : List Call) (x : T) → ReadTo place at out told old now → at ≤ length out → length out ≤ at
    → IsRead {E = E} place out (Ok x) old now × Gives told place out
read_done place at out told old now x so_far within reached = (
  record { calls = so_far.calls; since = so_far.since; in_place = so_far.in_place; whole = so_far.got ∙ all },
  subst (λ (l : List ℕ). Gives told place l) all so_far.gives,
)
  where
    all : take at out ≡ out
    all = ap (λ (k : ℕ). take k out) (omega arith) ∙ take-length out

pub read_failed : {T E : Type 0} (place at : ℕ) (out : List ℕ) (told : Option (List ℕ)) (old now : List Call) (e : E) → ReadTo place at out told old now → IsRead {T = T} place out (Err e) old now
read_failed place at out told old now e so_far = record { calls = so_far.calls; since = so_far.since; in_place = so_far.in_place; whole = tt }

pub bytes_written-append : (calls more : List Call) → bytes_written (calls ++ more) ≡ bytes_written calls ++ bytes_written more
bytes_written-append [] more = refl
bytes_written-append (read_call place room bytes ∷ calls) more = bytes_written-append calls more
bytes_written-append (write_call place given taken ∷ calls) more = ap (λ (l : List ℕ). taken ++ l) (bytes_written-append calls more)
    ∙ sym (append_assoc taken (bytes_written calls) (bytes_written more))
bytes_written-append (sync_call went_well ∷ calls) more = bytes_written-append calls more
bytes_written-append (let_go_call ∷ calls) more = bytes_written-append calls more
bytes_written-append (length_call found ∷ calls) more = bytes_written-append calls more
bytes_written-append (deed_call deed ∷ calls) more = bytes_written-append calls more

writes_on : (place : ℕ) (bytes : List ℕ) (calls : List Call) (at : ℕ) (given taken : List ℕ) → AreWrites place bytes calls → at ≡ place + length (bytes_written calls)
    → drop (length (bytes_written calls)) bytes ≡ given → AreWrites place bytes (calls ++ write_call at given taken ∷ [])
writes_on place bytes [] at given taken so_far is left = (omega arith, ([], left ∙ sym (append-nil given)), tt)
writes_on place bytes (write_call at' given' taken' ∷ calls) at given taken so_far is left = (
  so_far.0,
  so_far.1,
  writes_on (place + length taken') (drop (length taken') bytes) calls at given taken so_far.2 (omega (arith, is, length-append taken' (bytes_written calls)))
      (drop-drop (length (bytes_written calls)) (length taken') bytes ∙ ap (λ (n : ℕ). drop n bytes) (sym (length-append taken' (bytes_written calls))) ∙ left),
)
writes_on place bytes (read_call at' room' bytes' ∷ calls) at given taken so_far is left = absurd so_far
writes_on place bytes (sync_call went_well ∷ calls) at given taken so_far is left = absurd so_far
writes_on place bytes (let_go_call ∷ calls) at given taken so_far is left = absurd so_far
writes_on place bytes (length_call found ∷ calls) at given taken so_far is left = absurd so_far
writes_on place bytes (deed_call deed ∷ calls) at given taken so_far is left = absurd so_far

-- a smaller part of the range was torn once more
torn_more : (place n at k : ℕ) (old mid new : List ℕ) → place ≤ at → at + k ≤ place + n → Torn place n old mid → Torn at k mid new → Torn place n old new
torn_more place n at k old mid new from to first then = record {
  size = then.size ∙ first.size;
  apart = λ a m away. then.apart a m (elim away [ inl before ↦ inl (omega arith) | inr behind ↦ inr (omega arith) ]) ∙ first.apart a m away;
}

-- Of n bytes that are written at a place, the first `at` stand there, and those behind may be any yet.
abbrev Stands : Option (List ℕ) → (place at n : ℕ) → List ℕ → Option (List ℕ) → Type 0
Stands None place at n bytes mid = Unit {0}
Stands (Some held) place at n bytes mid = place + n ≤ length held → (now : List ℕ) × (mid ≡ Some now) × Torn place n held now × (range place at now ≡ take at bytes)

stands_none : (told : Option (List ℕ)) (place n : ℕ) (bytes : List ℕ) → Stands told place 0 n bytes told
stands_none None place n bytes = tt
stands_none (Some held) place n bytes = λ within. (held, refl, torn_refl place n held, refl)

stands_torn : (told : Option (List ℕ)) (place at n : ℕ) (bytes : List ℕ) (mid : Option (List ℕ)) → Stands told place at n bytes mid → Tears told place n mid
stands_torn None place at n bytes mid so_far = tt
stands_torn (Some held) place at n bytes mid so_far = λ within. let s = so_far within in (s.0, s.1, s.2)

stands_done : (told : Option (List ℕ)) (place at n : ℕ) (bytes : List ℕ) (mid : Option (List ℕ)) → Stands told place at n bytes mid → at ≡ length bytes → n ≡ length bytes → Puts told place bytes mid
stands_done None place at n bytes mid so_far all whole = tt
stands_done (Some held) place at n bytes mid so_far all whole = λ within. let s = so_far (omega arith) in (
  s.0,
  s.1,
  record {
    there = ap (λ (k : ℕ). range place k s.0) (sym all) ∙ s.3 ∙ ap (λ (k : ℕ). take k bytes) all ∙ take-length bytes;
    torn = subst (λ (k : ℕ). Torn place k held s.0) whole s.2;
  },
)

stands_err : (told : Option (List ℕ)) (place at n at' rest : ℕ) (bytes : List ℕ) (mid new : Option (List ℕ)) → Stands told place at n bytes mid → at' ≡ place + at → at + rest ≡ n
    → Tears mid at' rest new → Stands told place at n bytes new
stands_err None place at n at' rest bytes mid new so_far is room torn = tt
stands_err (Some held) place at n at' rest bytes mid new so_far is room torn = λ within.
    let s = so_far within in
    let t = subst (λ (m : Option (List ℕ)). Tears m at' rest new) s.1 torn (omega (arith, s.2.size)) in
    (t.0, t.1, torn_more place n at' rest held s.0 t.0 (omega arith) (omega arith) s.2 t.2, t.2.apart place at (inl (omega arith)) ∙ s.3)

stands_ok : (told : Option (List ℕ)) (place at n at' next k : ℕ) (bytes piece : List ℕ) (mid new : Option (List ℕ)) → Stands told place at n bytes mid → at' ≡ place + at → next ≡ at + k
    → next ≤ n → length piece ≡ k → piece ≡ take k (drop at bytes) → Puts mid at' piece new → Stands told place next n bytes new
stands_ok None place at n at' next k bytes piece mid new so_far is on within long piece_is puts = tt
stands_ok (Some held) place at n at' next k bytes piece mid new so_far is on within long piece_is puts = λ fits.
    let s = so_far fits in
    let t = subst (λ (m : Option (List ℕ)). Puts m at' piece new) s.1 puts (omega (arith, s.2.size)) in
    let torn : Torn at' k s.0 t.0 = subst (λ (l : ℕ). Torn at' l s.0 t.0) long t.2.torn in
    let there : range at' k t.0 ≡ piece = ap (λ (l : ℕ). range at' l t.0) (sym long) ∙ t.2.there in (
      t.0,
      t.1,
      torn_more place n at' k held s.0 t.0 (omega arith) (omega arith) s.2 torn,
      ap (λ (l : ℕ). range place l t.0) on ∙ take-add at k (drop place t.0)
          ∙ ap (λ (l : List ℕ). range place at t.0 ++ take k l) (drop-drop at place t.0)
          ∙ ap (λ (p : ℕ). range place at t.0 ++ range p k t.0) (sym is)
          ∙ (λ i. (torn.apart place at (inl (omega arith)) ∙ s.3) i ++ (there ∙ piece_is) i)
          ∙ sym (take-add at k bytes) ∙ ap (λ (l : ℕ). take l bytes) (sym on),
    )

-- `at` bytes of those given were written
pub record WroteTo (place at : ℕ) (bytes : List ℕ) (told mid : Option (List ℕ)) (old now : List Call) : Type 0 where
  pub calls : List Call
  pub since : now ≡ old ++ calls
  pub in_place : AreWrites place bytes calls
  pub put : bytes_written calls ≡ take at bytes
  pub stands : Stands told place at (length bytes) bytes mid

pub wrote_none : (place : ℕ) (bytes : List ℕ) (told : Option (List ℕ)) (old : List Call) → WroteTo place 0 bytes told told old old
wrote_none place bytes told old = record { calls = []; since = sym (append-nil old); in_place = tt; put = refl; stands = stands_none told place (length bytes) bytes }

-- one more call
wrote_more : (place at at' next : ℕ) (bytes given taken : List ℕ) (told mid new : Option (List ℕ)) (old now now' : List Call) → WroteTo place at bytes told mid old now → at ≤ length bytes
    → at' ≡ place + at → given ≡ drop at bytes → take at bytes ++ taken ≡ take next bytes → Stands told place next (length bytes) bytes new → now' ≡ now ++ write_call at' given taken ∷ []
    → WroteTo place next bytes told new old now'
wrote_more place at at' next bytes given taken told mid new old now now' so_far within is given_is taken_is stands pushed = record {
  calls = so_far.calls ++ write_call at' given taken ∷ [];
  since = pushed ∙ ap (λ (l : List Call). l ++ write_call at' given taken ∷ []) so_far.since ∙ append_assoc old so_far.calls (write_call at' given taken ∷ []);
  in_place = writes_on place bytes so_far.calls at' given taken so_far.in_place (omega (arith, long)) (ap (λ (k : ℕ). drop k bytes) long ∙ sym given_is);
  put = bytes_written-append so_far.calls (write_call at' given taken ∷ []) ∙ (λ i. so_far.put i ++ append-nil taken i) ∙ taken_is;
  stands = stands;
}
  where
    long : length (bytes_written so_far.calls) ≡ at
    long = ap (λ (l : List ℕ). length l) so_far.put ∙ length-take-le at bytes within

wrote_ok : (place at n next : ℕ) (bytes : List ℕ) (told mid new : Option (List ℕ)) (old now now' : List Call) → WroteTo place at bytes told mid old now → at ≤ length bytes
    → n ≤ length (drop at bytes) → next ≡ at + n → Puts mid (place + at) (take n (drop at bytes)) new
    → now' ≡ now ++ write_call (place + at) (drop at bytes) (take n (drop at bytes)) ∷ [] → WroteTo place next bytes told new old now'
wrote_ok place at n next bytes told mid new old now now' so_far within fits on puts pushed =
    wrote_more place at (place + at) next bytes (drop at bytes) (take n (drop at bytes)) told mid new old now now' so_far within refl refl
    (sym (take-add at n bytes) ∙ ap (λ (k : ℕ). take k bytes) (sym on))
    (stands_ok told place at (length bytes) (place + at) next n bytes (take n (drop at bytes)) mid new so_far.stands refl on
    (omega (arith, length-drop at bytes)) (length-take-le n (drop at bytes) fits) refl puts) pushed

wrote_err : (place at : ℕ) (bytes : List ℕ) (told mid new : Option (List ℕ)) (old now now' : List Call) → WroteTo place at bytes told mid old now → at ≤ length bytes
    → Tears mid (place + at) (length (drop at bytes)) new → now' ≡ now ++ write_call (place + at) (drop at bytes) [] ∷ [] → WroteTo place at bytes told new old now'
wrote_err place at bytes told mid new old now now' so_far within torn pushed =
    wrote_more place at (place + at) at bytes (drop at bytes) [] told mid new old now now' so_far within refl refl (append-nil (take at bytes))
    (stands_err told place at (length bytes) (place + at) (length (drop at bytes)) bytes mid new so_far.stands refl (omega (arith, length-drop at bytes)) torn) pushed

-- the back of the bytes as a slice of them
back : (at : ℕ) (bytes : List ℕ) → drop at bytes ≡ mid_of at (length bytes - at) bytes
back at bytes = sym (take-length (drop at bytes)) ∙ ap (λ (k : ℕ). take k (drop at bytes)) (length-drop at bytes)

pub write_step : (place at n next : ℕ) (bytes : List ℕ) (told mid new : Option (List ℕ)) (old now now' : List Call) → WroteTo place at bytes told mid old now → at ≤ length bytes
    → n ≤ length (mid_of at (length bytes - at) bytes) → next ≡ at + n → Puts mid (place + at) (take n (mid_of at (length bytes - at) bytes)) new
    → now' ≡ now ++ write_call (place + at) (mid_of at (length bytes - at) bytes) (take n (mid_of at (length bytes - at) bytes)) ∷ [] → WroteTo place next bytes told new old now'
write_step place at n next bytes told mid new old now now' so_far within =
    subst (λ (rest : List ℕ). n ≤ length rest → next ≡ at + n → Puts mid (place + at) (take n rest) new → now' ≡ now ++ write_call (place + at) rest (take n rest) ∷ []
    → WroteTo place next bytes told new old now') (back at bytes) (wrote_ok place at n next bytes told mid new old now now' so_far within)

pub write_lost : (place at next : ℕ) (bytes : List ℕ) (told mid new : Option (List ℕ)) (old now now' : List Call) → WroteTo place at bytes told mid old now → at ≤ length bytes → next ≡ at
    → Tears mid (place + at) (length (mid_of at (length bytes - at) bytes)) new → now' ≡ now ++ write_call (place + at) (mid_of at (length bytes - at) bytes) [] ∷ []
    → WroteTo place next bytes told new old now'
write_lost place at next bytes told mid new old now now' so_far within stays torn pushed =
    subst (λ (k : ℕ). WroteTo place k bytes told new old now') (sym stays)
    (subst (λ (rest : List ℕ). Tears mid (place + at) (length rest) new → now' ≡ now ++ write_call (place + at) rest [] ∷ [] → WroteTo place at bytes told new old now')
    (back at bytes) (wrote_err place at bytes told mid new old now now' so_far within) torn pushed)

pub wrote_done : {T E : Type 0} (place at : ℕ) (bytes : List ℕ) (told mid : Option (List ℕ)) (old now : List Call) (x : T) → WroteTo place at bytes told mid old now → at ≤ length bytes
    → length bytes ≤ at → WritesOn {E = E} place bytes (Ok x) old now × Puts told place bytes mid
wrote_done place at bytes told mid old now x so_far within reached = (
  record {
    calls = so_far.calls;
    since = so_far.since;
    in_place = so_far.in_place;
    whole = so_far.put ∙ ap (λ (k : ℕ). take k bytes) all ∙ take-length bytes;
  },
  stands_done told place at (length bytes) bytes mid so_far.stands all refl,
)
  where
    all : at ≡ length bytes
    all = omega arith

pub wrote_failed : {T E : Type 0} (place at : ℕ) (bytes : List ℕ) (told mid : Option (List ℕ)) (old now : List Call) (e : E) → WroteTo place at bytes told mid old now
    → WritesOn {T = T} place bytes (Err e) old now × Tears told place (length bytes) mid
wrote_failed place at bytes told mid old now e so_far = (
  record { calls = so_far.calls; since = so_far.since; in_place = so_far.in_place; whole = tt },
  stands_torn told place at (length bytes) bytes mid so_far.stands,
)
