-- A write that waits for its flush is flushed when it is answered as done.
use Rattle.std.proofs.Common.{◌≡◌, ℕ, ◌+◌, ◌≤◌, Bool, true, false, not, cond, ◌&&◌, List, [], ◌∷◌, ◌++◌, map, refl, sym, ap, ◌∙◌, subst, arith, inl, inr}
use Rattle.std.specs.Prelude.{Option, Some, ◌==◌, nat_le, filter, flat_map}
use Rattle.std.specs.List.{AllByRecursion, list_any}
use Rattle.std.proofs.lemmas.Bool.{and_parts, and_from, or_cases, or_left, or_right, false≢true, eqb-true, eq-eqb, le-leb, or_parts, or_from}
use Rattle.rec_format.specs.declared.version.Digest.{Digest}
use Rattle.rec_format.specs.declared.version.Version.{Version}
use Rattle.rec_format.specs.Versions.{version_units}
use Rattle.model_device.specs.Histories.{Item, write, is_pending}
use Rattle.model_device.specs.Book.{Setup, Book, Buffer, Phase, Stream, client, filling, sealed, opening, is_filling, is_opening, same_stream, filling_buffer}
use Rattle.model_device.specs.Book.{sealed_if, seal_stream, with_room, used_more, put_in, placed, refreshed, placing_number, with_seal, opened_if, with_flushed}
use Rattle.model_device.specs.Device.{State, history_of}
use Rattle.model_device.specs.Steps.{Step, wrote, sealed_stream, gate_begun, flushed_buffer, wrote_state, after_step, after_steps}
use Rattle.model_device.specs.Legal.{flush_of, flush_between, commit_seal, commit_flush}
use Rattle.std.proofs.lemmas.List.Folds.{list_any-append}
use Rattle.law_lists.proofs.Each.{all_joined}
use Rattle.model_device.proofs.Laws.{history_hit}
use Rattle.law_start.proofs.Placing.{room_of}
use Rattle.law_commit.specs.Commits.{top_is_flushed, flushed_if_wrote}

-- ---- buffers of a number

-- no buffer of this number is pending
abbrev HasNone : ℕ → List Buffer → Type 0
HasNone number buffers = is_pending (map (λ b. (b.number, is_opening b.phase)) buffers) number ≡ false

opened_number : (chosen : Bool) (b : Buffer) → (opened_if chosen b).number ≡ b.number
opened_number true b = refl
opened_number false b = refl

begun_none : (m n : ℕ) (bs : List Buffer) → HasNone n bs → HasNone n (map (λ b. opened_if (b.number == m) b) bs)
begun_none m n [] none = none
begun_none m n (b ∷ bs) none =
    let parts = or_parts (b.number == n) (is_pending (map (λ x. (x.number, is_opening x.phase)) bs) n) none in
    or_from ((opened_if (b.number == m) b).number == n) _ (ap (λ (k : ℕ). k == n) (opened_number (b.number == m) b) ∙ parts.0) (begun_none m n bs parts.1)

filter_none : (keep : Buffer → Bool) (n : ℕ) (bs : List Buffer) → HasNone n bs → HasNone n (filter keep bs)
filter_none keep n [] none = none
filter_none keep n (b ∷ bs) none =
    let parts = or_parts (b.number == n) (is_pending (map (λ x. (x.number, is_opening x.phase)) bs) n) none in
    kept (keep b) parts.0 (filter_none keep n bs parts.1)
  where
    kept : (c : Bool) → (b.number == n) ≡ false → HasNone n (filter keep bs) → HasNone n (cond c (b ∷ filter keep bs) (filter keep bs))
    kept true here rest = or_from (b.number == n) _ here rest
    kept false here rest = rest

filter_gone : (n : ℕ) (bs : List Buffer) → HasNone n (filter (λ b. not (b.number == n)) bs)
filter_gone n [] = refl
filter_gone n (b ∷ bs) = kept (b.number == n) refl (filter_gone n bs)
  where
    kept : (c : Bool) → (b.number == n) ≡ c → HasNone n (filter (λ x. not (x.number == n)) bs)
        → HasNone n (cond (not c) (b ∷ filter (λ x. not (x.number == n)) bs) (filter (λ x. not (x.number == n)) bs))
    kept true here rest = rest
    kept false here rest = or_from (b.number == n) _ here rest

-- ---- the steps of a flush

abbrev pub FlushStep : Step → Type 0
FlushStep (gate_begun m) = Unit {0}
FlushStep (flushed_buffer m) = Unit {0}
FlushStep _ = ⊥

abbrev flushes : ℕ → Step → Bool
flushes n (flushed_buffer m) = m == n
flushes n _ = false

step_none : (setup : Setup) (step : Step) (s : State) (n : ℕ) → FlushStep step → HasNone n s.book.buffers → HasNone n (after_step setup step s).book.buffers
unfolding after_step with_flushed refreshed
step_none setup (gate_begun m) s n is none = begun_none m n s.book.buffers none
step_none setup (flushed_buffer m) s n is none = filter_none (λ b. not (b.number == m)) n s.book.buffers none
step_none setup step s n is none = absurd is

step_gone : (setup : Setup) (step : Step) (s : State) (n : ℕ) → flushes n step ≡ true → HasNone n (after_step setup step s).book.buffers
unfolding after_step with_flushed refreshed
step_gone setup (flushed_buffer m) s n is =
    subst (λ (k : ℕ). HasNone n (filter (λ b. not (b.number == k)) s.book.buffers)) (sym (eqb-true m n is)) (filter_gone n s.book.buffers)
step_gone setup step s n is = absurd (false≢true is)

step_log : (setup : Setup) (step : Step) (s : State) → FlushStep step → (after_step setup step s).log ≡ s.log
unfolding after_step
step_log setup (gate_begun m) s is = refl
step_log setup (flushed_buffer m) s is = refl
step_log setup step s is = absurd is

steps_none : (setup : Setup) (steps : List Step) (s : State) (n : ℕ) → AllByRecursion FlushStep steps → HasNone n s.book.buffers → HasNone n (after_steps setup steps s).book.buffers
steps_none setup [] s n all none = none
steps_none setup (step ∷ steps) s n all none = steps_none setup steps (after_step setup step s) n all.1 (step_none setup step s n all.0 none)

steps_gone : (setup : Setup) (steps : List Step) (s : State) (n : ℕ) → AllByRecursion FlushStep steps → list_any (flushes n) steps ≡ true → HasNone n (after_steps setup steps s).book.buffers
steps_gone setup [] s n all has = absurd (false≢true has)
steps_gone setup (step ∷ steps) s n all has = elim (or_cases (flushes n step) (list_any (flushes n) steps) has) [
  | inl now ↦ steps_none setup steps (after_step setup step s) n all.1 (step_gone setup step s n now)
  | inr later ↦ steps_gone setup steps (after_step setup step s) n all.1 later
]

steps_log : (setup : Setup) (steps : List Step) (s : State) → AllByRecursion FlushStep steps → (after_steps setup steps s).log ≡ s.log
steps_log setup [] s all = refl
steps_log setup (step ∷ steps) s all = steps_log setup steps (after_step setup step s) all.1 ∙ step_log setup step s all.0

phase_steps : (number block : ℕ) (stream : Stream) (used : ℕ) (phase : Phase)
    → AllByRecursion FlushStep (flush_of (record { number = number; block = block; stream = stream; used = used; phase = phase }))
phase_steps number block stream used filling = tt
phase_steps number block stream used sealed = (tt, (tt, tt))
phase_steps number block stream used opening = (tt, tt)

pub flush_steps : (b : Buffer) → AllByRecursion FlushStep (flush_of b)
flush_steps b = phase_steps b.number b.block b.stream b.used b.phase

pub all_flush_steps : (bs : List Buffer) → AllByRecursion FlushStep (flat_map flush_of bs)
all_flush_steps [] = tt
all_flush_steps (b ∷ bs) = all_joined FlushStep (flush_of b) (flat_map flush_of bs) (flush_steps b) (all_flush_steps bs)

-- a buffer of this number that no longer takes records
abbrev is_ready : ℕ → Buffer → Bool
is_ready n b = (b.number == n) && not (is_filling b.phase)

ready_flushes : (n number block : ℕ) (stream : Stream) (used : ℕ) (phase : Phase) → (number == n) ≡ true → not (is_filling phase) ≡ true
    → list_any (flushes n) (flush_of (record { number = number; block = block; stream = stream; used = used; phase = phase })) ≡ true
ready_flushes n number block stream used filling here is = absurd (false≢true is)
ready_flushes n number block stream used sealed here is = or_left (number == n) false here
ready_flushes n number block stream used opening here is = or_left (number == n) false here

abbrev in_range : (first n : ℕ) → Buffer → Bool
in_range first n b = nat_le first b.number && nat_le b.number n

between_flushes : (first n : ℕ) (bs : List Buffer) → first ≤ n → list_any (is_ready n) bs ≡ true → list_any (flushes n) (flat_map flush_of (filter (in_range first n) bs)) ≡ true
between_flushes first n [] up has = absurd (false≢true has)
between_flushes first n (b ∷ bs) up has = elim (or_cases (is_ready n b) (list_any (is_ready n) bs) has) [
  | inl here ↦
      let parts = and_parts (b.number == n) (not (is_filling b.phase)) here in
      let same : b.number ≡ n = eqb-true b.number n parts.0 in
      let chosen : in_range first n b ≡ true = and_from (nat_le first b.number) (nat_le b.number n) (le-leb first b.number (omega arith)) (le-leb b.number n (omega arith)) in
      taken (in_range first n b) chosen (ready_flushes n b.number b.block b.stream b.used b.phase parts.0 parts.1)
  | inr later ↦ passed (in_range first n b) (between_flushes first n bs up later)
]
  where
    taken : (c : Bool) → c ≡ true → list_any (flushes n) (flush_of b) ≡ true
        → list_any (flushes n) (flat_map flush_of (cond c (b ∷ filter (in_range first n) bs) (filter (in_range first n) bs))) ≡ true
    taken true is here = list_any-append (flushes n) (flush_of b) (flat_map flush_of (filter (in_range first n) bs)) ∙ or_left _ _ here
    taken false is here = absurd (false≢true is)

    passed : (c : Bool) → list_any (flushes n) (flat_map flush_of (filter (in_range first n) bs)) ≡ true
        → list_any (flushes n) (flat_map flush_of (cond c (b ∷ filter (in_range first n) bs) (filter (in_range first n) bs))) ≡ true
    passed true later = list_any-append (flushes n) (flush_of b) (flat_map flush_of (filter (in_range first n) bs)) ∙ or_right _ _ later
    passed false later = later

-- ---- the buffer that a write goes to

abbrev takes_records : Buffer → Bool
takes_records b = same_stream client b.stream && is_filling b.phase

sealed_here : (m units : ℕ) (b : Buffer) → takes_records b ≡ true → is_ready b.number (sealed_if (same_stream client (used_more m units b).stream) (used_more m units b)) ≡ true
sealed_here m units b takes =
    let parts = and_parts (same_stream client b.stream) (is_filling b.phase) takes in by_number (b.number == m) parts.0 parts.1
  where
    by_number : (c : Bool) → same_stream client b.stream ≡ true → is_filling b.phase ≡ true
        → is_ready b.number (sealed_if (same_stream client (cond c (record b { used = b.used + units }) b).stream) (cond c (record b { used = b.used + units }) b)) ≡ true
    by_number true mine fills = rw (mine, fills) (and_from (b.number == b.number) true (eq-eqb b.number b.number refl) refl)
    by_number false mine fills = rw (mine, fills) (and_from (b.number == b.number) true (eq-eqb b.number b.number refl) refl)

sealed_ready : (m units : ℕ) (bs : List Buffer) (b : Buffer) → filling_buffer client bs ≡ Some b → list_any (is_ready b.number) (seal_stream client (map (used_more m units) bs)) ≡ true
sealed_ready m units [] b found = cc
sealed_ready m units (x ∷ xs) b found = at_head (takes_records x) refl found (sealed_ready m units xs b)
  where
    at_head : (c : Bool) → takes_records x ≡ c → cond c (Some x) (filling_buffer client xs) ≡ Some b
        → (filling_buffer client xs ≡ Some b → list_any (is_ready b.number) (seal_stream client (map (used_more m units) xs)) ≡ true)
        → list_any (is_ready b.number) (seal_stream client (map (used_more m units) (x ∷ xs))) ≡ true
    at_head true takes is rest =
        let same : x ≡ b = cc in
        or_left _ _ (subst (λ (y : Buffer). is_ready y.number (sealed_if (same_stream client (used_more m units x).stream) (used_more m units x)) ≡ true) same (sealed_here m units x takes))
    at_head false takes is rest = or_right _ _ (rest is)

placed_buffers : (setup : Setup) (digest : Digest) (units : ℕ) (book : Book) (b : Buffer) → filling_buffer client (with_room setup client units book).buffers ≡ Some b
    → (placed setup client digest units book).buffers ≡ map (used_more b.number units) (with_room setup client units book).buffers
unfolding placed refreshed
placed_buffers setup digest units book b found = ap (λ (o : Option Buffer). (put_in setup digest units (with_room setup client units book) o).buffers) found

placed_ready : (setup : Setup) (digest : Digest) (units : ℕ) (book : Book)
    → list_any (is_ready (placing_number setup client units book)) (seal_stream client (placed setup client digest units book).buffers) ≡ true
placed_ready setup digest units book =
    let room = room_of setup client units book in
    subst (λ (n : ℕ). list_any (is_ready n) (seal_stream client (placed setup client digest units book).buffers) ≡ true) room.same
    (subst (λ (bs : List Buffer). list_any (is_ready room.buffer.number) (seal_stream client bs) ≡ true) (sym (placed_buffers setup digest units book room.buffer room.found))
    (sealed_ready room.buffer.number units (with_room setup client units book).buffers room.buffer room.found))

-- ---- a write that waits

top_flushed : (s : State) (digest : Digest) (v : Version) (n : ℕ) (older : List Item) → history_of digest s.log ≡ write v (n ∷ []) ∷ older → HasNone n s.book.buffers → top_is_flushed s digest ≡ true
top_flushed s digest v n older is none = rw (is, none) refl

only_flushes : (s : State) (steps : List Step) → AllByRecursion FlushStep steps → AllByRecursion (flushed_if_wrote s) steps
only_flushes s [] all = tt
only_flushes s (step ∷ steps) all = (one step all.0, only_flushes s steps all.1)
  where
    one : (step : Step) → FlushStep step → flushed_if_wrote s step
    one (gate_begun m) is = tt
    one (flushed_buffer m) is = tt
    one step is = absurd is

-- the write is made, its buffer sealed, and these are flushed
waited : (setup : Setup) (s : State) (digest : Digest) (v : Version) (n : ℕ) → n ≡ placing_number setup client (version_units v) s.book
    → (rest : List Step) → rest ≡ flush_between 0 n (with_seal client (wrote_state setup digest v s).book)
    → AllByRecursion (flushed_if_wrote (after_steps setup ((wrote digest v ∷ sealed_stream client ∷ []) ++ rest) s)) ((wrote digest v ∷ sealed_stream client ∷ []) ++ rest)
unfolding after_step
waited setup s digest v n is rest flushed =
    let sealed_state : State = after_step setup (sealed_stream client) (after_step setup (wrote digest v) s) in
    let end : State = after_steps setup rest sealed_state in
    let all : AllByRecursion FlushStep rest = subst (λ (steps : List Step). AllByRecursion FlushStep steps) (sym flushed) (all_flush_steps (filter (in_range 0 n) sealed_state.book.buffers)) in
    let ready : list_any (is_ready n) sealed_state.book.buffers ≡ true =
    subst (λ (m : ℕ). list_any (is_ready m) sealed_state.book.buffers ≡ true) (sym is) (placed_ready setup digest (version_units v) s.book) in
    let has : list_any (flushes n) rest ≡ true = subst (λ (steps : List Step). list_any (flushes n) steps ≡ true) (sym flushed) (between_flushes 0 n sealed_state.book.buffers (omega arith) ready) in
    let item : history_of digest end.log ≡ write v (n ∷ []) ∷ history_of digest s.log =
    ap (history_of digest) (steps_log setup rest sealed_state all) ∙ history_hit digest (write v (placing_number setup client (version_units v) s.book ∷ [])) s.log
    ∙ ap (λ (m : ℕ). write v (m ∷ []) ∷ history_of digest s.log) (sym is) in
    (top_flushed end digest v n (history_of digest s.log) item (steps_gone setup rest sealed_state n all has), (tt, only_flushes end rest all))

-- a write with the steps of its commit
pub write_commits : (setup : Setup) (s : State) (digest : Digest) (v : Version) (steps : List Step) → setup.commit ≡ true
    → steps ≡ (wrote digest v ∷ commit_seal setup) ++ commit_flush setup (placing_number setup client (version_units v) s.book) (after_steps setup (wrote digest v ∷ commit_seal setup) s)
    → AllByRecursion (flushed_if_wrote (after_steps setup steps s)) steps
unfolding after_step
write_commits setup s digest v steps commit is =
    let n : ℕ = placing_number setup client (version_units v) s.book in
    let whole : (wrote digest v ∷ commit_seal setup) ++ commit_flush setup n (after_steps setup (wrote digest v ∷ commit_seal setup) s)
    ≡ (wrote digest v ∷ sealed_stream client ∷ []) ++ flush_between 0 n (with_seal client (wrote_state setup digest v s).book) = rw commit refl in
    subst (λ (xs : List Step). AllByRecursion (flushed_if_wrote (after_steps setup xs s)) xs) (sym (is ∙ whole))
    (waited setup s digest v n refl (flush_between 0 n (with_seal client (wrote_state setup digest v s).book)) refl)

-- so the version is flushed that was written
pub written_flushed : (setup : Setup) (s : State) (digest : Digest) (v : Version) (steps : List Step) → setup.commit ≡ true
    → steps ≡ (wrote digest v ∷ commit_seal setup) ++ commit_flush setup (placing_number setup client (version_units v) s.book) (after_steps setup (wrote digest v ∷ commit_seal setup) s)
    → top_is_flushed (after_steps setup steps s) digest ≡ true
written_flushed setup s digest v steps commit is = (subst (AllByRecursion (flushed_if_wrote (after_steps setup steps s))) is (write_commits setup s digest v steps commit is)).0
