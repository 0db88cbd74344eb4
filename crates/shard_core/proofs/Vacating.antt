-- How the moves out of a block go on, and how they end.
use Rattle.std.proofs.Common.{◌≡◌, ℕ, ◌+◌, ◌≤◌, ◌<◌, ◌^◌, Bool, true, false, List, [], ◌∷◌, ◌++◌, length, refl, sym, ◌∙◌, ap, subst, arith}
use Rattle.std.specs.Prelude.{Ok, Err}
use Rattle.std.proofs.lemmas.List.{append-nil}
use Rattle.std.proofs.lemmas.List.Sums.{sum_by-cons}
use Rattle.law_lists.proofs.Each.{all_joined}
use Rattle.disk_model.specs.Disk.{DiskView, IsDisk, IsHonest}
use Rattle.rec_format.specs.declared.version.Digest.{Digest}
use Rattle.model_device.specs.Book.{Setup, live_of, use_of}
use Rattle.model_device.specs.Device.{State, part_of}
use Rattle.model_device.specs.Events.{Event, Call, Answer, Cause, happened, refused, move_call, after_event, after_events}
use Rattle.model_device.specs.Legal.{Allowed, is_in_block}
use Rattle.model_device.specs.Vacating.{Outcome, did, stopped, IfRefused, MovesOut, moved_by, moved_count}
use Rattle.law_steps.specs.Events.{MakesEvent}
use Rattle.defrag_pass.specs.Choosing.{HasFew}
use Rattle.shard_core.specs.declared.refusals.DefragCause.{DefragCause}
use Rattle.shard_core.specs.declared.refusals.DefragRefusal.{DefragRefusal}
use Rattle.shard_core.specs.View.{ShardView, SameSetup, setup_of}
use Rattle.shard_core.specs.Stands.{Agrees}
use Rattle.shard_core.specs.Calls.{Makes}
use Rattle.shard_core.specs.Sprigs.{held}
use Rattle.shard_core.specs.Vacating.{MakesEvents, AreMoves, LiesFrom, HaveMoved, HasParts, NoneLies, lies_in, IsMoved, IsMovedOut, IsStopped}
use Rattle.shard_core.proofs.Lying.{later_part, lies_live, none_left}
use Rattle.shard_core.proofs.Making.{setup_same}
use Rattle.shard_core.proofs.Events.{RunsBy, if_refused, after_all, runs_none, runs_one, runs_then, makes_events, runs_made}
use Rattle.shard_core.proofs.Emptied.{HasLeft, has_left, was_there}

-- ---- events of moves

counts_one : (event : Event) (events : List Event) → moved_count (event ∷ events) ≡ moved_by event.answer + moved_count events
counts_one event events = sum_by-cons (λ (e : Event). moved_by e.answer) event events

pub counts_joined : (xs ys : List Event) → moved_count (xs ++ ys) ≡ moved_count xs + moved_count ys
counts_joined [] ys = omega arith
counts_joined (x ∷ xs) ys = let rest = counts_joined xs ys in omega (arith, counts_one x (xs ++ ys), counts_one x xs, rest)

-- behind some moves others go on
moves_then : (setup : Setup) (block : ℕ) (s : State) (moved : ℕ) (xs ys : List Event) (outcome : Outcome) → AreMoves block xs
    → MovesOut setup block (after_events setup xs s) (moved + moved_count xs) ys outcome → MovesOut setup block s moved (xs ++ ys) outcome
moves_then setup block s moved [] ys outcome moves then = subst (λ (n : ℕ). MovesOut setup block s n ys outcome) (omega arith) then
moves_then setup block s moved (x ∷ xs) ys outcome moves then = (
  moves.0.0,
  if_refused x.answer (λ cause. ⊥) (λ cause. (xs ++ ys ≡ []) × (outcome ≡ stopped cause)) (Unit {0}) (MovesOut setup block (after_event setup x s) (moved + moved_by x.answer) (xs ++ ys) outcome)
      (λ cause never. absurd never)
      (λ on. moves_then setup block (after_event setup x s) (moved + moved_by x.answer) xs ys outcome moves.1
      (subst (λ (n : ℕ). MovesOut setup block (after_events setup xs (after_event setup x s)) n ys outcome) (omega (arith, counts_one x xs)) then)) moves.0.1,
)

-- all of them, where nothing is live then
moves_end : (setup : Setup) (block : ℕ) (s : State) (moved : ℕ) (xs : List Event) → AreMoves block xs → use_of (after_events setup xs s).book block ≡ 0 → moved ≡ moved_count xs
    → MovesOut setup block s 0 xs (did moved 1)
moves_end setup block s moved xs moves unused count =
    let same : moved ≡ 0 + moved_count xs = omega (arith, count) in
    subst (λ (l : List Event). MovesOut setup block s 0 l (did moved 1)) (append-nil xs) (moves_then setup block s 0 xs [] (did moved 1) moves (unused, ap (λ (n : ℕ). did n 1) same))

-- as many more as some before moved
abbrev more_by : ℕ → Outcome → Outcome
more_by add (did moved vacated) = did (add + moved) vacated
more_by add (stopped cause) = stopped cause

counts_more : (setup : Setup) (block : ℕ) (t : State) (before : ℕ) (ys : List Event) (add : ℕ) (outcome : Outcome) → MovesOut setup block t before ys outcome
    → MovesOut setup block t (add + before) ys (more_by add outcome)
counts_more setup block t before [] add outcome ends = (ends.0, ap (more_by add) ends.1)
counts_more setup block t before (y ∷ ys) add outcome ends = (
  ends.0,
  if_refused y.answer (λ cause. (ys ≡ []) × (outcome ≡ stopped cause)) (λ cause. (ys ≡ []) × (more_by add outcome ≡ stopped cause))
      (MovesOut setup block (after_event setup y t) (before + moved_by y.answer) ys outcome) (MovesOut setup block (after_event setup y t) (add + before + moved_by y.answer) ys (more_by add outcome))
      (λ cause is. (is.0, ap (more_by add) is.1))
      (λ on. let same : add + (before + moved_by y.answer) ≡ add + before + moved_by y.answer = omega arith in
      subst (λ (n : ℕ). MovesOut setup block (after_event setup y t) n ys (more_by add outcome)) same
      (counts_more setup block (after_event setup y t) (before + moved_by y.answer) ys add outcome on)) ends.1,
)

-- one that was refused
refused_one : (setup : Setup) (block : ℕ) (s : State) (moved : ℕ) (digest : Digest) (event : Event) (cause : Cause) → event.call ≡ move_call digest block → event.answer ≡ refused cause
    → MovesOut setup block s moved (event ∷ []) (stopped cause)
refused_one setup block s moved digest event cause is_call is_answer = (
  (digest, is_call),
  subst (λ (a : Answer). IfRefused a (λ why. (none ≡ []) × (stopped cause ≡ stopped why)) (MovesOut setup block (after_event setup event s) (moved + moved_by a) none (stopped cause)))
      (sym is_answer) (refl, refl),
)
  where
    none : List Event
    none = []

-- ---- over a shard

module _ {D : Type 0} (view : D → DiskView) (block : ℕ) (old : ShardView D) (s : State) where
  abbrev setup : Setup
  setup = setup_of old

  -- nothing was moved yet
  pub none_moved : IsDisk (view old.shelf.disk) → Agrees old s → HasFew block s.book → MakesEvents view (HaveMoved setup block s 0 0) old s old
  none_moved is_disk agrees few =
      makes_events view old old s (HaveMoved setup block s 0 0) []
      (record { moves = tt; count = refl; left = omega arith; lie = record { unbuffered = few.unbuffered; from = λ d is. omega arith } })
      (runs_none view setup old.shelf s (Agrees old) is_disk agrees)

  module _ (new : ShardView D) (moved part : ℕ) (made : MakesEvents view (HaveMoved setup block s moved part) old s new) where
    -- a later part, where nothing lies in the block of those up to it
    pub further : SameSetup old new → HasParts new → (next : ℕ) → NoneLies new block part next → MakesEvents view (HaveMoved setup block s moved next) old s new
    further same all next none =
        makes_events view old new s (HaveMoved setup block s moved next) made.events (record {
          moves = made.works.moves;
          count = made.works.count;
          left = made.works.left;
          lie = record {
            unbuffered = made.works.lie.unbuffered;
            from = λ d is. later_part new (after_events setup made.events s) made.stands all setup (setup_same old new same) block part next none d (made.works.lie.from d is) is;
          };
        }) (runs_made view old new s (HaveMoved setup block s moved part) made)

    -- nothing is left
    pub all_moved : use_of (after_events setup made.events s).book block ≡ 0 → MakesEvents view (IsMovedOut setup block s (Ok moved)) old s new
    all_moved unused =
        makes_events view old new s (IsMovedOut setup block s (Ok moved)) made.events
        (omega (arith, made.works.left), moves_end setup block s moved made.events made.works.moves unused made.works.count)
        (runs_made view old new s (HaveMoved setup block s moved part) made)

    -- Where nothing lies in the block of this part and later ones nothing is left.
    pub no_more : SameSetup old new → HasParts new → NoneLies new block part (length new.sprigs) → MakesEvents view (IsMovedOut setup block s (Ok moved)) old s new
    no_more same all none = all_moved (none_left new (after_events setup made.events s) made.stands block all (record {
      unbuffered = made.works.lie.unbuffered;
      from = λ d is. later_part new (after_events setup made.events s) made.stands all (setup_of new) refl block part (length new.sprigs) none d
          (subst (λ (x : Setup). part ≤ part_of x d) (setup_same old new same) (made.works.lie.from d is)) is;
    }))

    -- as many were moved as units were in use
    pub all_units : (n : ℕ) → n ≡ use_of s.book block → n ≤ moved → MakesEvents view (IsMovedOut setup block s (Ok n)) old s new
    all_units n is up =
        let same : moved ≡ n = omega (arith, is, up, made.works.left) in
        subst (λ (k : ℕ). MakesEvents view (IsMovedOut setup block s (Ok k)) old s new) same (all_moved (omega (arith, is, up, made.works.left)))

    pub few_left : use_of s.book block < 2 ^ 16 → HasFew block (after_events setup made.events s).book
    few_left few = record { unbuffered = made.works.lie.unbuffered; few = omega (arith, few, made.works.left) }

  -- one digest more was asked for
  module _ (mid new : ShardView D) (same : SameSetup old mid) (honest_on : IsHonest (view old.shelf.disk) → IsHonest (view mid.shelf.disk)) (digest : Digest) (moved part : ℕ)
      (made : MakesEvents view (HaveMoved setup block s moved part) old s mid) where
    abbrev t : State
    t = after_events setup made.events s

    module _ (answer : Answer) (step : Makes view (move_call digest block) answer mid t new) where
      here : MakesEvent view setup (move_call digest block) answer mid.shelf t new.shelf (Agrees new)
      here = subst (λ (x : Setup). MakesEvent view x (move_call digest block) answer mid.shelf t new.shelf (Agrees new)) (sym (setup_same old mid same)) step

      runs : RunsBy view setup old.shelf s new.shelf (Agrees new) (made.events ++ here.event ∷ [])
      runs = runs_then view setup old.shelf mid.shelf new.shelf s (Agrees mid) (Agrees new) made.events (here.event ∷ []) honest_on
          (runs_made view old mid s (HaveMoved setup block s moved part) made) (runs_one view setup (move_call digest block) answer mid.shelf new.shelf t (Agrees new) here)

      may_be : Allowed setup false t here.event (move_call digest block)
      may_be = subst (λ (c : Call). Allowed setup false t here.event c) here.is_call here.follows.allowed

      left : (b : Bool) → answer ≡ happened b → HasLeft setup block digest t made.stands.shelf.stands.order.booked made.works.lie.unbuffered false here.event may_be part made.works.lie
          made.stands.shelf.stands.listed.own b
      left b is = has_left setup block digest t made.stands.shelf.stands.order.booked made.works.lie.unbuffered false here.event may_be part made.works.lie made.stands.shelf.stands.listed.own b
          (here.is_answer ∙ is)

      -- it was moved, or wasn't there
      one_more : (b : Bool) → answer ≡ happened b → MakesEvents view (HaveMoved setup block s (moved + moved_by (happened b)) part) old s new
      one_more b is = makes_events view old new s (HaveMoved setup block s (moved + moved_by (happened b)) part) (made.events ++ here.event ∷ []) (record {
        moves = all_joined (λ event. ((d : Digest) × (event.call ≡ move_call d block)) × IfRefused event.answer (λ cause. ⊥) (Unit {0})) made.events (here.event ∷ []) made.works.moves
            (((digest, here.is_call), subst (λ (a : Answer). IfRefused a (λ cause. ⊥) (Unit {0})) (sym (here.is_answer ∙ is)) tt), tt);
        count = omega (arith, made.works.count, counts_joined made.events (here.event ∷ []), counts_one here.event [], ap moved_by (here.is_answer ∙ is));
        left = subst (λ (u : State). moved + moved_by (happened b) + use_of u.book block ≤ use_of s.book block) (sym (after_all setup made.events (here.event ∷ []) s))
            (omega (arith, made.works.left, (left b is).less));
        lie = subst (λ (u : State). LiesFrom setup part block u.book) (sym (after_all setup made.events (here.event ∷ []) s)) (left b is).lies;
      }) runs

      -- it was refused
      stops_here : (why : DefragCause) → IsMoved (Err why) answer → MakesEvents view (IsStopped setup block s (record { moved = moved; cause = why })) old s new
      stops_here why refusal = makes_events view old new s (IsStopped setup block s (record { moved = moved; cause = why })) (made.events ++ here.event ∷ []) (
        refusal.0,
        refusal.1,
        omega (arith, made.works.count, counts_joined made.events (here.event ∷ []), counts_one here.event [], ap moved_by (here.is_answer ∙ refusal.2)),
        omega (arith, made.works.left),
        moves_then setup block s 0 made.events (here.event ∷ []) (stopped refusal.0) made.works.moves
            (refused_one setup block t (0 + moved_count made.events) digest here.event refusal.0 here.is_call (here.is_answer ∙ refusal.2)),
      )
          runs

      found_there : is_in_block block (live_of digest t.book.live) ≡ true → (b : Bool) → answer ≡ happened b → b ≡ true
      found_there there b is =
          was_there setup block digest t made.stands.shelf.stands.order.booked made.works.lie.unbuffered false here.event may_be part made.works.lie made.stands.shelf.stands.listed.own there b
          (here.is_answer ∙ is)

    -- by what is told of the call from each state
    pub goes_on : (b : Bool) → ((u : State) → Agrees mid u → (answer : Answer) × IsMoved (Ok b) answer × Makes view (move_call digest block) answer mid u new)
        → MakesEvents view (HaveMoved setup block s (moved + moved_by (happened b)) part) old s new
    goes_on b each = let one = each t made.stands in one_more one.0 one.2 b one.1

    pub goes_no_further : (why : DefragCause) → ((u : State) → Agrees mid u → (answer : Answer) × IsMoved (Err why) answer × Makes view (move_call digest block) answer mid u new)
        → MakesEvents view (IsStopped setup block s (record { moved = moved; cause = why })) old s new
    goes_no_further why each = let one = each t made.stands in stops_here one.0 one.2 why one.1

    -- a record that lies in the block is moved
    pub goes_out : lies_in block (held (setup_of mid) digest mid.sprigs) ≡ true → (b : Bool)
        → ((u : State) → Agrees mid u → (answer : Answer) × IsMoved (Ok b) answer × Makes view (move_call digest block) answer mid u new)
        → MakesEvents view (HaveMoved setup block s (moved + 1) part) old s new
    goes_out lies b each =
        let one = each t made.stands in
        let there : b ≡ true = found_there one.0 one.2 (lies_live mid t made.stands block digest lies) b one.1 in
        subst (λ (x : Bool). MakesEvents view (HaveMoved setup block s (moved + moved_by (happened x)) part) old s new) there (one_more one.0 one.2 b one.1)

  -- ---- moves behind others

  module _ (mid new : ShardView D) (same : SameSetup old mid) (honest_on : IsHonest (view old.shelf.disk) → IsHonest (view mid.shelf.disk)) (moved : ℕ)
      (made : MakesEvents view (HaveMoved setup block s moved 0) old s mid) where
    abbrev then : State
    then = after_events setup made.events s

    runs_both : (Work : List Event → Type 0) → (next : MakesEvents view Work mid then new) → RunsBy view setup old.shelf s new.shelf (Agrees new) (made.events ++ next.events)
    runs_both Work next = runs_then view setup old.shelf mid.shelf new.shelf s (Agrees mid) (Agrees new) made.events next.events honest_on
        (runs_made view old mid s (HaveMoved setup block s moved 0) made)
        (subst (λ (x : Setup). RunsBy view x mid.shelf then new.shelf (Agrees new) next.events) (sym (setup_same old mid same)) (runs_made view mid new then Work next))

    behind_them : (events : List Event) (outcome : Outcome) → MovesOut (setup_of mid) block then 0 events outcome → MovesOut setup block s 0 (made.events ++ events) (more_by moved outcome)
    behind_them events outcome moves =
        moves_then setup block s 0 made.events events (more_by moved outcome) made.works.moves
        (subst (λ (n : ℕ). MovesOut setup block then n events (more_by moved outcome)) (omega (arith, made.works.count))
        (counts_more setup block then 0 events moved outcome (subst (λ (x : Setup). MovesOut x block then 0 events outcome) (sym (setup_same old mid same)) moves)))

    pub then_out : (rest : ℕ) → MakesEvents view (IsMovedOut (setup_of mid) block then (Ok rest)) mid then new → MakesEvents view (IsMovedOut setup block s (Ok (moved + rest))) old s new
    then_out rest next = makes_events view old new s (IsMovedOut setup block s (Ok (moved + rest))) (made.events ++ next.events)
        (omega (arith, made.works.left, next.works.0), behind_them next.events (did rest 1) next.works.1) (runs_both (IsMovedOut (setup_of mid) block then (Ok rest)) next)

    pub then_stopped : (refusal : DefragRefusal) → MakesEvents view (IsMovedOut (setup_of mid) block then (Err refusal)) mid then new
        → MakesEvents view (IsStopped setup block s (record { moved = moved + refusal.moved; cause = refusal.cause })) old s new
    then_stopped refusal next =
        makes_events view old new s (IsStopped setup block s (record { moved = moved + refusal.moved; cause = refusal.cause })) (made.events ++ next.events) (
          next.works.0,
          next.works.1,
          omega (arith, made.works.count, counts_joined made.events next.events, next.works.2),
          omega (arith, made.works.left, next.works.3),
          behind_them next.events (stopped next.works.0) next.works.4,
        ) (runs_both (IsMovedOut (setup_of mid) block then (Err refusal)) next)
