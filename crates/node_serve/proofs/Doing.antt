-- What doing keeps of each duty, and of sums over duties.
use Rattle.std.proofs.Common.{◌≡◌, refl, sym, subst, ap, cond, ℕ, suc, ◌<◌, Bool, List, [], ◌∷◌, length, arith, slice_index_or, Option, None, Some, MatchOption}
use Rattle.std.specs.List.{All, sum_by}
use Rattle.std.proofs.lemmas.List.Sums.{sum_by-cons}
use Rattle.line_proto.specs.declared.command.Command.{Command}
use Rattle.line_proto.specs.declared.reply.Reply.{Reply}
use Rattle.node_session.specs.declared.ended.Ended.{Ended}
use Rattle.node_session.specs.Turns.{Times}
use Rattle.node_workers.specs.declared.chore.Did.{Did}
use Rattle.node_workers.specs.Turns.{TakesTurn, GoesOn, Works}
use Rattle.node_serve.specs.Calling.{Call, Acted, Tended, Calls}
use Rattle.node_serve.specs.declared.duty.Duty.{Duty}
use Rattle.node_serve.specs.declared.duty.Duty.TheVariants.{Seat, Worker}
use Rattle.node_serve.specs.Serving.{DoesDuty, EachDone, AllDone, is_seat, seat_count}

module _ {D : Type 0} (does : D → D → List Ended → Type 0) where
  -- Without the first of them.
  pub rest_done : (old : D) (olds : List D) (new : D) (news : List D) (hows : List Ended) (served : List (List Ended))
      → EachDone does (old ∷ olds) (new ∷ news) (hows ∷ served) → EachDone does olds news served
  rest_done old olds new news hows served done = record {
    as_many = (let e = done.as_many in omega arith);
    served_many = (let e = done.served_many in omega arith);
    each = λ i d below. done.each (suc i) d (omega arith);
  }

  -- A number that doing keeps of each one, summed over all.
  pub sum_stays : (weight : D → ℕ) → ((old new : D) (hows : List Ended) → does old new hows → weight new ≡ weight old) → (olds news : List D) (served : List (List Ended))
      → EachDone does olds news served → sum_by weight news ≡ sum_by weight olds
  sum_stays weight keeps [] [] served done = refl
  sum_stays weight keeps [] (new ∷ news) served done = absurd (let e = done.as_many in omega arith)
  sum_stays weight keeps (old ∷ olds) [] served done = absurd (let e = done.as_many in omega arith)
  sum_stays weight keeps (old ∷ olds) (new ∷ news) [] done = absurd (let e = done.served_many in omega arith)
  sum_stays weight keeps (old ∷ olds) (new ∷ news) (hows ∷ served) done =
      let first = keeps old new hows (done.each 0 old (omega arith)) in
      let rest = sum_stays weight keeps olds news served (rest_done old olds new news hows served done) in
      omega (arith, sum_by-cons weight new news, sum_by-cons weight old olds)

  -- A fact that doing keeps of each one.
  pub all_stay : (P : D → Type 0) → ((old new : D) (hows : List Ended) → does old new hows → P old → P new) → (olds news : List D) (served : List (List Ended))
      → EachDone does olds news served → All P olds → All P news
  all_stay P keeps olds news served done all k d below =
      let within : k < length olds = (let e = done.as_many in omega arith) in
      keeps (slice_index_or olds k d) (slice_index_or news k d) (slice_index_or served k []) (done.each k d within) (all k d within)

module _ {S K C : Type 0} (serves : S → Times → Ended → S → Times → Type 0) (acts : S → Command → ℕ → Reply → S → Type 0) (tends : S → S → Type 0)
    (turns : K → ℕ → Did → K → Type 0) (tells : ℕ → Bool → Bool → Type 0) (times : C → Times) where
  -- a seat stays a seat
  seat_stays : (old new : Duty S K C) (hows : List Ended) → DoesDuty serves acts tends turns tells times old new hows → is_seat new ≡ is_seat old
  seat_stays (Seat store clock) (Seat store' clock') hows does = refl
  seat_stays (Worker chore clock who) (Worker chore' clock' who') hows does = refl
  seat_stays (Seat store clock) (Worker chore clock' who) hows does = absurd does
  seat_stays (Worker chore clock who) (Seat store clock') hows does = absurd does

  counted : Duty S K C → ℕ
  counted duty = cond (is_seat duty) 1 0

  weight_stays : (old new : Duty S K C) (hows : List Ended) → DoesDuty serves acts tends turns tells times old new hows → counted new ≡ counted old
  unfolding counted
  weight_stays old new hows does = let f : Bool → ℕ = λ b. cond b 1 0 in ap f (seat_stays old new hows does)

  pub seats_stay : (olds news : List (Duty S K C)) (served : List (List Ended)) → EachDone (DoesDuty serves acts tends turns tells times) olds news served
      → seat_count news ≡ seat_count olds
  unfolding counted
  seats_stay olds news served done = sum_stays (DoesDuty serves acts tends turns tells times) counted weight_stays olds news served done

  -- where nothing was done too
  pub seats_stay_always : {W : Type 0} (came : Option W) (Back : Type 0) (Why : W → Type 0) (given later : ℕ) (olds news : List (Duty S K C))
      → MatchOption came (Back × (news ≡ olds)) (λ why. Why why × AllDone (DoesDuty serves acts tends turns tells times) given later olds news)
      → seat_count news ≡ seat_count olds
  seats_stay_always None Back Why given later olds news it = ap seat_count it.1
  seats_stay_always (Some why) Back Why given later olds news it = seats_stay olds news it.1.served it.1.done

-- it holds of the store of a seat, or of the chore of a worker
abbrev pub OfDuty : {S K C : Type 0} → (S → Type 0) → (K → Type 0) → Duty S K C → Type 0
OfDuty P Q (Seat store clock) = P store
OfDuty P Q (Worker chore clock who) = Q chore

module _ {S K C : Type 0} (serves : S → Times → Ended → S → Times → Type 0) (acts : S → Command → ℕ → Reply → S → Type 0) (tends : S → S → Type 0)
    (turns : K → ℕ → Did → K → Type 0) (tells : ℕ → Bool → Bool → Type 0) (times : C → Times) (P : S → Type 0) (Q : K → Type 0)
    (on_act : (old : S) (command : Command) (now : ℕ) (reply : Reply) (new : S) → acts old command now reply new → P old → P new)
    (on_tend : (old new : S) → tends old new → P old → P new)
    (on_turn : (old : K) (now : ℕ) (did : Did) (new : K) → turns old now did new → Q old → Q new) where
  calls_keep : (calls : List Call) (old new : S) → Calls acts tends calls old new → P old → P new
  calls_keep [] old new same p = subst P (sym same) p
  calls_keep (Acted command now reply ∷ calls) old new (mid, acted, rest) p = calls_keep calls mid new rest (on_act old command now reply mid acted p)
  calls_keep (Tended ∷ calls) old new (mid, tended, rest) p = calls_keep calls mid new rest (on_tend old mid tended p)

  turn_keeps : (told : Bool → Bool → Type 0) (old : K) (at : Times) (did : Did) (new : K) (later : Times) → TakesTurn turns old at did new later → Q old → Q new
  turn_keeps told old at did new later turn q = on_turn old _ did new turn.turned q

  turns_keep : (told : Bool → Bool → Type 0) (dids : List Did) (old : K) (at : Times) (new : K) (later : Times) → GoesOn turns told dids old at new later → Q old → Q new
  turns_keep told [] old at new later (same, same_times) q = subst Q (sym same) q
  turns_keep told (did ∷ dids) old at new later (mid, then, turn, goes, rest) q = turns_keep told dids mid then new later rest (turn_keeps told old at did mid then turn q)

  works_keep : (told : Bool → Bool → Type 0) (count : ℕ) (old : K) (at : Times) (new : K) (later : Times) → Works turns told count old at new later → Q old → Q new
  works_keep told count old at new later works q =
      turn_keeps told works.mid works.then works.last new later works.turned (turns_keep told works.dids old at works.mid works.then works.went_on q)

  -- What each call of a store and each turn of a chore keep, holds of each duty that is done.
  pub duty_keeps : (old new : Duty S K C) (hows : List Ended) → DoesDuty serves acts tends turns tells times old new hows → OfDuty P Q old → OfDuty P Q new
  duty_keeps (Seat store clock) (Seat store' clock') hows does p = calls_keep does.1.0 store store' does.1.1 p
  duty_keeps (Worker chore clock who) (Worker chore' clock' who') hows does q = works_keep (tells who) does.2.0 chore (times clock) chore' (times clock') does.2.1 q
  duty_keeps (Seat store clock) (Worker chore clock' who) hows does p = absurd does
  duty_keeps (Worker chore clock who) (Seat store clock') hows does q = absurd does
