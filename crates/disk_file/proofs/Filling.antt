-- How far a file is filled with zeros.
use Rattle.std.proofs.Common.{◌≡◌, ℕ, ◌+◌, ◌-◌, ◌≤◌, true, List, [], ◌∷◌, ◌++◌, length, take, drop, replicate, Ok, refl, sym, ap, ◌∙◌, subst, arith, append_assoc, append-nil, length-append}
use Rattle.std.proofs.Math.Seq.{drop-append_seam}
use Rattle.std.proofs.lemmas.List.{length-replicate, drop-replicate, take-replicate, replicate-append-replicate, drop-append-le, drop-drop}
use Rattle.disk_file.specs.Calls.{Call, read_call, write_call, sync_call, let_go_call, length_call, deed_call, locked, settled, named, bytes_written, AreWrites, WritesOn}
use Rattle.disk_file.specs.Devices.{IsFilled}
use Rattle.disk_file.proofs.Moving.{bytes_written-append}

-- whole writes of the front of some bytes
writes_wider : (place : ℕ) (more later : List ℕ) (calls : List Call) → AreWrites place more calls → bytes_written calls ≡ more → AreWrites place (more ++ later) calls
writes_wider place more later [] so_far all = tt
writes_wider place more later (write_call at given taken ∷ calls) so_far all = (
  so_far.0,
  (so_far.1.0 ++ later, ap (λ (l : List ℕ). l ++ later) so_far.1.1 ∙ append_assoc given so_far.1.0 later),
  subst (λ (l : List ℕ). AreWrites (place + length taken) l calls) (sym (drop-append-le (length taken) more later within))
      (writes_wider (place + length taken) (drop (length taken) more) later calls so_far.2
      (sym (drop-append_seam taken (bytes_written calls)) ∙ ap (λ (l : List ℕ). drop (length taken) l) all)),
)
  where
    within : length taken ≤ length more
    within = omega (arith, ap (λ (l : List ℕ). length l) all, length-append taken (bytes_written calls))
writes_wider place more later (read_call at room bytes ∷ calls) so_far all = absurd so_far
writes_wider place more later (sync_call went_well ∷ calls) so_far all = absurd so_far
writes_wider place more later (let_go_call ∷ calls) so_far all = absurd so_far
writes_wider place more later (length_call found ∷ calls) so_far all = absurd so_far
writes_wider place more later (deed_call deed ∷ calls) so_far all = absurd so_far

-- and more calls behind those so far
writes_then : (place at : ℕ) (bytes more later : List ℕ) (calls next : List Call) → AreWrites place bytes calls → at ≡ place + length (bytes_written calls)
    → drop (length (bytes_written calls)) bytes ≡ more ++ later → AreWrites at more next → bytes_written next ≡ more → AreWrites place bytes (calls ++ next)
writes_then place at bytes more later [] next so_far is left then all =
    subst (λ (l : List ℕ). AreWrites place l next) (sym left) (subst (λ (p : ℕ). AreWrites p (more ++ later) next) (omega arith) (writes_wider at more later next then all))
writes_then place at bytes more later (write_call at' given' taken' ∷ calls) next so_far is left then all = (
  so_far.0,
  so_far.1,
  writes_then (place + length taken') at (drop (length taken') bytes) more later calls next so_far.2 (omega (arith, is, length-append taken' (bytes_written calls)))
      (drop-drop (length (bytes_written calls)) (length taken') bytes ∙ ap (λ (n : ℕ). drop n bytes) (sym (length-append taken' (bytes_written calls))) ∙ left) then all,
)
writes_then place at bytes more later (read_call at' room bytes' ∷ calls) next so_far is left then all = absurd so_far
writes_then place at bytes more later (sync_call went_well ∷ calls) next so_far is left then all = absurd so_far
writes_then place at bytes more later (let_go_call ∷ calls) next so_far is left then all = absurd so_far
writes_then place at bytes more later (length_call found ∷ calls) next so_far is left then all = absurd so_far
writes_then place at bytes more later (deed_call deed ∷ calls) next so_far is left then all = absurd so_far

-- `done` zeros of `len` were written
pub record FilledTo (len done : ℕ) (old now : List Call) : Type 0 where
  pub calls : List Call
  pub since : now ≡ old ++ calls
  pub in_place : AreWrites 0 (replicate len 0) calls
  pub put : bytes_written calls ≡ replicate done 0

pub filled_none : (len : ℕ) (old : List Call) → FilledTo len 0 old old
filled_none len old = record { calls = []; since = sym (append-nil old); in_place = tt; put = refl }

pub filled_more : {T E : Type 0} (len done count next : ℕ) (piece : List ℕ) (old now now' : List Call) (x : T) → FilledTo len done old now → done + count ≤ len → next ≡ done + count
    → piece ≡ replicate count 0 → WritesOn {E = E} done piece (Ok x) now now' → FilledTo len next old now'
filled_more len done count next piece old now now' x so_far within on zeros wrote = record {
  calls = so_far.calls ++ wrote.calls;
  since = wrote.since ∙ ap (λ (l : List Call). l ++ wrote.calls) so_far.since ∙ append_assoc old so_far.calls wrote.calls;
  in_place = writes_then 0 done (replicate len 0) piece (replicate (len - done - count) 0) so_far.calls wrote.calls so_far.in_place (omega (arith, long))
      (ap (λ (n : ℕ). drop n (replicate len 0)) long ∙ drop-replicate done len 0
      ∙ ap (λ (n : ℕ). replicate n 0) parts ∙ sym (replicate-append-replicate count (len - done - count) 0) ∙ ap (λ (l : List ℕ). l ++ replicate (len - done - count) 0) (sym zeros))
      wrote.in_place wrote.whole;
  put = bytes_written-append so_far.calls wrote.calls ∙ (λ i. so_far.put i ++ (wrote.whole ∙ zeros) i) ∙ replicate-append-replicate done count 0 ∙ ap (λ (n : ℕ). replicate n 0) (sym on);
}
  where
    long : length (bytes_written so_far.calls) ≡ done
    long = ap (λ (l : List ℕ). length l) so_far.put ∙ length-replicate done 0

    parts : len - done ≡ count + (len - done - count)
    parts = omega arith

-- a piece of the front of some zeros
pub filled_piece : {T E : Type 0} (len done count n : ℕ) (zeros : List ℕ) (old now now' : List Call) (x : T) → zeros ≡ replicate n 0 → FilledTo len done old now → done + count ≤ len
    → count ≤ length zeros → WritesOn {E = E} done (take count zeros) (Ok x) now now' → FilledTo len (done + count) old now'
filled_piece len done count n zeros old now now' x is so_far within short on =
    filled_more len done count (done + count) (take count zeros) old now now' x so_far within refl
    (ap (λ (l : List ℕ). take count l) is ∙ take-replicate count n 0 (omega (arith, short, ap (λ (l : List ℕ). length l) is, length-replicate {A = ℕ} n 0))) on

pub filled_all : {T E : Type 0} (len done : ℕ) (old now : List Call) (x : T) → FilledTo len done old now → done ≡ len → WritesOn {E = E} 0 (replicate len 0) (Ok x) old now
filled_all len done old now x so_far all = record { calls = so_far.calls; since = so_far.since; in_place = so_far.in_place; whole = so_far.put ∙ ap (λ (n : ℕ). replicate n 0) all }

-- what was done to a new file, one after another
pub filled_by : {T E : Type 0} (name : List ℕ) (len : ℕ) (old behind_lock behind_writes behind_sync new : List Call) (x : T) → behind_lock ≡ old ++ deed_call (locked true) ∷ []
    → WritesOn {E = E} 0 (replicate len 0) (Ok x) behind_lock behind_writes → behind_sync ≡ behind_writes ++ deed_call (settled true) ∷ []
    → new ≡ behind_sync ++ deed_call (named name true) ∷ [] → IsFilled name len old new
filled_by name len old behind_lock behind_writes behind_sync new x lock wrote sync folder = record {
  writes = wrote.calls;
  past = folder ∙ ap (λ (l : List Call). l ++ deed_call (named name true) ∷ []) (sync
      ∙ ap (λ (l : List Call). l ++ deed_call (settled true) ∷ []) (wrote.since ∙ ap (λ (l : List Call). l ++ wrote.calls) lock))
      ∙ append_assoc ((old ++ deed_call (locked true) ∷ []) ++ wrote.calls) (deed_call (settled true) ∷ []) (deed_call (named name true) ∷ [])
      ∙ append_assoc (old ++ deed_call (locked true) ∷ []) wrote.calls (deed_call (settled true) ∷ deed_call (named name true) ∷ [])
      ∙ append_assoc old (deed_call (locked true) ∷ []) (wrote.calls ++ deed_call (settled true) ∷ deed_call (named name true) ∷ []);
  in_place = wrote.in_place;
  whole = wrote.whole;
}
