-- What a crew has done, by what it was dealt and what became of each duty.
use Rattle.std.proofs.Common.{◌≡◌, ℕ, ◌≤◌, Bool, List, [], ◌∷◌, ◌++◌, length, take, drop, Option, Some, None, refl, sym, ap, subst, ◌∙◌, arith}
use Rattle.std.specs.Prelude.{MatchOption}
use Rattle.std.specs.List.{All}
use Rattle.std.proofs.lemmas.List.{append-nil, take_all, length-drop}
use Rattle.disk_model.specs.Disk.{DiskView}
use Rattle.line_proto.specs.declared.command.Command.{Command}
use Rattle.line_proto.specs.declared.reply.Reply.{Reply}
use Rattle.node_session.specs.declared.ended.Ended.{Ended}
use Rattle.node_session.specs.Turns.{Times}
use Rattle.node_workers.specs.declared.chore.Did.{Did}
use Rattle.node_serve.specs.declared.duty.Duty.TheVariants.{Seat, Worker}
use Rattle.node_serve.specs.declared.closed.Closed.{Closed}
use Rattle.node_serve.specs.Closing.{IsClosed}
use Rattle.node_serve.specs.Serving.{DoesDuty, EachDone, AllDone, ServesLinks, seat_count}
use Rattle.node_serve.proofs.Doing.{rest_done}
use Rattle.live_node.specs.Lives.{Live, LivePass}
use Rattle.live_store.specs.declared.store.LiveStore.{LiveStore}
use Rattle.live_store.specs.Pairs.{EachPair}
use Rattle.live_store.specs.Stores.{Acts}
use Rattle.live_crew.specs.declared.chore.LiveChore.{LiveChore}
use Rattle.live_crew.specs.Chores.{TurnsAny}
use Rattle.live_crew.specs.Crews.{LiveDuty, AreAtWork, IsNew}
use Rattle.live_crew.specs.Dealing.{Tells}
use Rattle.live_crew.proofs.Keeping.{at_work_stays}
use Rattle.live_serve.specs.Crew.{HasServed, HaveServed}
use Rattle.live_serve.proofs.Pairing.{first_all}

-- ---- a list that was lent as a whole

none_left : {A : Type 0} (xs : List A) → length xs ≡ 0 → xs ≡ []
none_left [] none = λ i. []
none_left (x ∷ xs) none = absurd (omega (arith, none))

pub whole : {A : Type 0} (len : ℕ) (new old : List A) → len ≡ length old → length new ≡ length old → take len (new ++ drop (length new) old) ≡ new
whole {A} len new old long many =
    let rest : drop (length new) old ≡ [] = none_left (drop (length new) old) (length-drop (length new) old ∙ omega (arith, many)) in
    ap (λ (l : List A). take len (new ++ l)) rest ∙ ap (take len) (append-nil new) ∙ take_all len new (omega (arith, long, many))

-- ---- duties that were done

module _ {R D C : Type 0} (serves : LiveStore D R → Times → Ended → LiveStore D R → Times → Type 0) (acts : LiveStore D R → Command → ℕ → Reply → LiveStore D R → Type 0)
    (tends : LiveStore D R → LiveStore D R → Type 0) (turns : LiveChore R D → ℕ → Did → LiveChore R D → Type 0) (tells : ℕ → Bool → Bool → Type 0) (times : C → Times)
    (lives : List (Live D)) (told : Times) where
  abbrev Does : LiveDuty R D C → LiveDuty R D C → List Ended → Type 0
  Does = DoesDuty serves acts tends turns tells times

  has_served : (old new : LiveDuty R D C) (hows : List Ended) → Does old new hows → IsNew lives old → Tells times told old → HasServed serves lives told new hows
  has_served (Seat store clock) (Seat store' clock') hows does new at =
      (store, new, (times clock', subst (λ (t : Times). ServesLinks serves hows store t store' (times clock')) at does.0))
  has_served (Worker chore clock who) (Worker chore' clock' who') hows does new at = does.0
  has_served (Seat store clock) (Worker chore clock' who) hows does new at = absurd does
  has_served (Worker chore clock who) (Seat store clock') hows does new at = absurd does

  each_served : (olds news : List (LiveDuty R D C)) (served : List (List Ended)) → EachDone Does olds news served → All (IsNew lives) olds → All (Tells times told) olds
      → EachPair (HasServed serves lives told) news served
  each_served [] [] [] done new at = tt
  each_served [] [] (hows ∷ served) done new at = absurd (let many = done.served_many in omega (arith, many))
  each_served [] (d ∷ news) served done new at = absurd (let many = done.as_many in omega (arith, many))
  each_served (old ∷ olds) [] served done new at = absurd (let many = done.as_many in omega (arith, many))
  each_served (old ∷ olds) (d ∷ news) [] done new at = absurd (let many = done.served_many in omega (arith, many))
  each_served (old ∷ olds) (d ∷ news) (hows ∷ served) done new at =
      let n = first_all (IsNew lives) (old ∷ olds) olds old new refl in
      let a = first_all (Tells times told) (old ∷ olds) olds old at refl in
      let rest = rest_done Does old olds d news hows served done in
      (has_served old d hows (done.each 0 old (omega arith)) n.0 a.0, each_served olds news served rest n.1 a.1)

  pub all_served : (given after : ℕ) (olds news : List (LiveDuty R D C)) → seat_count news ≡ seat_count olds → AllDone Does given after olds news → All (IsNew lives) olds
      → All (Tells times told) olds → HaveServed serves lives told given after news
  all_served given after olds news stay all new at = record {
    served = all.served;
    each = each_served olds news all.served all.done new at;
    all = λ some. all.all (subst (λ (n : ℕ). 1 ≤ n) stay some);
  }

-- ---- what a crew came to

module _ {R D C : Type 0} (serves : LiveStore D R → Times → Ended → LiveStore D R → Times → Type 0) (view : D → DiskView) (tells : ℕ → Bool → Bool → Type 0) (times : C → Times)
    (lives : List (Live D)) (told : Times) (Same : Type 0) (faults later given after : ℕ) (ended : Bool) (olds news : List (LiveDuty R D C)) where
  -- the duties as they were, where there was no memory; or all of them are done
  abbrev pub Came : Option Closed → Type 0
  Came closed = MatchOption closed (Same × (news ≡ olds))
      (λ why. IsClosed why faults later ended × AllDone (DoesDuty serves (Acts view) (λ old new. new ≡ old) (TurnsAny view) tells times) given after olds news)

  pub at_work_then : (closed : Option Closed) (passes : List (LivePass D)) → Came closed → AreAtWork lives passes olds → AreAtWork lives passes news
  at_work_then None passes came work = subst (λ (l : List (LiveDuty R D C)). AreAtWork lives passes l) (sym came.1) work
  at_work_then (Some why) passes came work = at_work_stays serves view tells times lives passes olds news came.1.served came.1.done work

  pub served_then : (closed : Option Closed) (seats : ℕ) → Came closed → seat_count news ≡ seat_count olds → seat_count olds ≡ seats → All (IsNew lives) olds
      → All (Tells times told) olds
      → MatchOption closed Same (λ why. IsClosed why faults later ended × (seat_count news ≡ seats) × HaveServed serves lives told given after news)
  served_then None seats came stay count new at = came.0
  served_then (Some why) seats came stay count new at =
      (came.0, stay ∙ count, all_served serves (Acts view) (λ old new. new ≡ old) (TurnsAny view) tells times lives told given after olds news stay came.1 new at)
