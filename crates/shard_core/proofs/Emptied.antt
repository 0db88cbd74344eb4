-- How a block is emptied: behind a move the copy that lay in it lies elsewhere, no other comes into it, and less of it is used.
use Rattle.std.proofs.Math.Nat.{le_refl}
use Rattle.std.proofs.Common.{◌≡◌, ◌⊎◌, inl, inr, ℕ, ◌+◌, ◌≤◌, Bool, true, false, cond, List, [], ◌∷◌, refl, sym, ◌∙◌, ap, subst, arith}
use Rattle.std.specs.Prelude.{Option, Some, None, ◌==◌, filter, sum_by, Contains, MatchBool}
use Rattle.std.specs.List.{AllByRecursion}
use Rattle.std.proofs.lemmas.Bool.{both_ways, eq-eqb, eqb-true, false≢true, cond-true, cond-false, false_from_ne_true}
use Rattle.law_lists.proofs.Each.{all_at, all_from}
use Rattle.law_lists.proofs.Finding.{found_is, any_there}
use Rattle.law_lists.proofs.Members.{cons_cases}
use Rattle.rec_format.specs.declared.version.Digest.{Digest}
use Rattle.rec_format.specs.Places.{same_digest}
use Rattle.rec_format.proofs.Laws.{same_digest_refl}
use Rattle.model_device.specs.Book.{Setup, Book, Live, defrag, has_buffer, has_room, use_of, live_of, without_live, placed, placing_number}
use Rattle.model_device.specs.Device.{State}
use Rattle.model_device.specs.Steps.{Step, closing_failed, moved, moved_state, after_step, after_steps}
use Rattle.model_device.specs.Events.{Event, Cause, happened, refused, no_memory, damaged, disk_fault, move_call, after_event}
use Rattle.model_device.specs.Vacating.{moved_by}
use Rattle.model_device.specs.Legal.{Allowed, NoMemory, Only, Unless, DamageFound, DiskFails, is_in_block, live_units, no_place, move_reserve}
use Rattle.law_trail.specs.Trail.{IsBooked, CanPlace, places_of}
use Rattle.law_trail.proofs.Books.{live_there, live_not_free, others_live}
use Rattle.law_trail.proofs.Places.{buffer_place}
use Rattle.law_trail.proofs.Placing.{PlacesCopy, placed_is}
use Rattle.law_trail.proofs.Room.{place_there}
use Rattle.block_shelf.specs.Standing.{IsListed, HaveOwnDigests}
use Rattle.law_room.proofs.Uses.{share, use_cons, use_without}
use Rattle.shard_core.specs.Vacating.{LiesFrom}

-- ---- nothing is live in a block

-- a digest with a live copy is found
copy_of : (digest : Digest) (live : List Live) (m : Live) → same_digest digest m.digest ≡ true → Contains live m → (l : Live) × (live_of digest live ≡ Some l)
copy_of digest [] m same there = absurd (omega (arith, there.1))
copy_of digest (x ∷ live) m same there = by (same_digest digest x.digest) refl (cons_cases x live m there) (copy_of digest live m same)
  where
    by : (b : Bool) → same_digest digest x.digest ≡ b → (x ≡ m) ⊎ Contains live m → (Contains live m → (l : Live) × (live_of digest live ≡ Some l)) → (l : Live)
        × (cond b (Some x) (live_of digest live) ≡ Some l)
    by true is place rest = (x, refl)
    by false is (inl e) rest = absurd (both_ways (same_digest digest x.digest) is (ap (λ (y : Live). same_digest digest y.digest) e ∙ same))
    by false is (inr more) rest = rest more

none_kept : {X : Type 0} (p : X → Bool) (xs : List X) → AllByRecursion (λ x. p x ≡ false) xs → filter p xs ≡ []
none_kept p [] all = refl
none_kept p (x ∷ xs) all = cond-false (p x) (x ∷ filter p xs) (filter p xs) all.0 ∙ none_kept p xs all.1

-- a block in which no digest has its copy isn't used
pub none_used : (setup : Setup) (book : Book) (block : ℕ) → IsListed setup book → ((digest : Digest) → is_in_block block (live_of digest book.live) ≡ true → ⊥) → use_of book block ≡ 0
none_used setup book block listed none =
    ap (λ (ls : List Live). sum_by (λ l. l.units) ls) (none_kept (λ (l : Live). l.block == block) book.live (all_from (λ l. (l.block == block) ≡ false) book.live
    (λ l there. false_from_ne_true (l.block == block) (λ here. none l.digest (in_it l there here)))))
  where
    in_it : (l : Live) → Contains book.live l → (l.block == block) ≡ true → is_in_block block (live_of l.digest book.live) ≡ true
    in_it l there here =
        let found = copy_of l.digest book.live l (same_digest_refl l.digest) there in
        let is = found_is (Contains book.live) (λ m. same_digest l.digest m.digest) book.live found.0 (all_from (Contains book.live) book.live (λ m in_it. in_it)) found.1 in
        let one : l ≡ found.0 = listed.one l found.0 there is.0 is.1 in
        ap (is_in_block block) found.1 ∙ ap (λ (m : Live). m.block == block) (sym one) ∙ here

-- ---- behind a move

at_most_one : (b : Bool) → moved_by (happened b) ≤ 1
at_most_one true = omega arith
at_most_one false = omega arith

module _ (setup : Setup) (block : ℕ) (digest : Digest) (s : State) (booked : IsBooked s.book) (unbuffered : has_buffer s.book block ≡ false) where
  module _ (copy : Live) (live : live_of digest s.book.live ≡ Some copy) (here : (copy.block == block) ≡ true) (can : CanPlace setup defrag copy.units s.book) where
    abbrev number : ℕ
    number = placing_number setup defrag copy.units s.book

    abbrev new : Book
    new = placed setup defrag digest copy.units s.book

    p : PlacesCopy digest number s.book new
    p = placed_is setup defrag digest copy.units s.book (all_at (λ l. 1 ≤ l.units) s.book.live copy booked.units (live_there digest s.book.live copy live)) booked can

    moved_book : (after_step setup (moved digest) s).book ≡ new
    unfolding after_step
    moved_book = ap (λ (o : Option Live). (moved_state setup digest o s).book) live

    still_unbuffered : has_buffer new block ≡ false
    still_unbuffered = subst (λ (b : ℕ). has_buffer s.book b ≡ false → has_buffer new b ≡ false) (eqb-true copy.block block here)
        (λ none. p.unbuffered copy.block none (live_not_free s.book digest copy booked live)) unbuffered

    -- the copy is in the block of a buffer
    elsewhere : (p.copy.block == block) ≡ false
    elsewhere = false_from_ne_true (p.copy.block == block) (λ same. both_ways (has_buffer new block) still_unbuffered
        (subst (λ (b : ℕ). has_buffer new b ≡ true) (eqb-true p.copy.block block same)
        (buffer_place new p.copy.block ∙ any_there (λ (q : ℕ × ℕ). q.1 == p.copy.block) (places_of new) (number, p.copy.block) p.placed_in (eq-eqb p.copy.block p.copy.block refl))))

    left_there : (d : Digest) → is_in_block block (live_of d new.live) ≡ true → (same_digest d digest ≡ false) × (is_in_block block (live_of d s.book.live) ≡ true)
    left_there d is = by (same_digest d p.copy.digest) refl (ap (λ (ls : List Live). is_in_block block (live_of d ls)) (sym p.live) ∙ is)
      where
        by : (b : Bool) → same_digest d p.copy.digest ≡ b → is_in_block block (cond b (Some p.copy) (live_of d (without_live digest s.book.live))) ≡ true
            → (same_digest d digest ≡ false) × (is_in_block block (live_of d s.book.live) ≡ true)
        by true same in_it = absurd (both_ways (p.copy.block == block) elsewhere in_it)
        by false other in_it =
            let apart : same_digest d digest ≡ false = ap (same_digest d) (sym p.own) ∙ other in
            (apart, ap (is_in_block block) (sym (others_live digest d s.book.live apart)) ∙ in_it)

    -- none comes into it besides, and the copy's units leave it
    pub lies_behind : (part : ℕ) → LiesFrom setup part block s.book → LiesFrom setup part block (after_step setup (moved digest) s).book
    lies_behind part lie = subst (LiesFrom setup part block) (sym moved_book) (record { unbuffered = still_unbuffered; from = λ d is. lie.from d (left_there d is).1 })

    some : 1 ≤ copy.units
    some = all_at (λ l. 1 ≤ l.units) s.book.live copy booked.units (live_there digest s.book.live copy live)

    pub uses_less : HaveOwnDigests s.book.live → 1 + use_of (after_step setup (moved digest) s).book block ≤ use_of s.book block
    uses_less own =
        let without : List Live = without_live digest s.book.live in
        let now : use_of (after_step setup (moved digest) s).book block ≡ share block p.copy + use_of (record s.book { live = without }) block =
        ap (λ (b : Book). use_of b block) moved_book ∙ ap (λ (l : List Live). use_of (record s.book { live = l }) block) p.live ∙ use_cons block p.copy without in
        let none : share block p.copy ≡ 0 = cond-false (p.copy.block == block) p.copy.units 0 elsewhere in
        let whole : share block copy ≡ copy.units = cond-true (copy.block == block) copy.units 0 here in
        let rest = use_without digest s.book.live copy own live block in
        omega (arith, now, none, whole, rest, some)

  -- ---- one event

  module _ (told : Bool) (event : Event) (allowed : Allowed setup told s event (move_call digest block)) (part : ℕ) (lie : LiesFrom setup part block s.book) (own : HaveOwnDigests s.book.live) where
    -- what holds of the state after it
    pub record HasLeft (b : Bool) : Type 0 where
      pub lies : LiesFrom setup part block (after_event setup event s).book
      pub less : moved_by (happened b) + use_of (after_event setup event s).book block ≤ use_of s.book block

    abbrev May : Bool → Option Live → Type 0
    May here copy = MatchBool here
        (NoMemory event ⊎ Unless event (no_place setup defrag move_reserve (live_units copy) s.book)
        (((event.answer ≡ happened true) × (event.steps ≡ moved digest ∷ []))
        ⊎ DamageFound told event []
        ⊎ DiskFails event []
        ⊎ ((has_room setup defrag (live_units copy) s.book ≡ false) × DiskFails event (closing_failed ∷ []))))
        (Only event (happened false))

    -- where the digest doesn't lie in the block nothing is done
    passed : (b : Bool) → event.answer ≡ happened b → event.answer ≡ happened false → event.steps ≡ [] → HasLeft b
    passed true answer is none = absurd (let clash : happened true ≡ happened false = sym answer ∙ is in cc)
    passed false answer is none =
        let same : s ≡ after_event setup event s = sym (ap (λ (l : List Step). after_steps setup l s) none) in
        let as_much : use_of (after_event setup event s).book block ≤ use_of s.book block = subst (λ (t : State). use_of t.book block ≤ use_of s.book block) same (le_refl (use_of s.book block)) in
        record { lies = subst (λ (t : State). LiesFrom setup part block t.book) same lie; less = omega (arith, as_much) }

    goes : (copy : Live) → live_of digest s.book.live ≡ Some copy → (copy.block == block) ≡ true → CanPlace setup defrag copy.units s.book → (b : Bool) → event.steps ≡ moved digest ∷ [] → HasLeft b
    goes copy live here can b is =
        let same : after_step setup (moved digest) s ≡ after_event setup event s = sym (ap (λ (l : List Step). after_steps setup l s) is) in
        let less = uses_less copy live here can own in
        record {
          lies = subst (λ (t : State). LiesFrom setup part block t.book) same (lies_behind copy live here can part lie);
          less = subst (λ (t : State). moved_by (happened b) + use_of t.book block ≤ use_of s.book block) same (omega (arith, less, at_most_one b));
        }

    pub has_left : (b : Bool) → event.answer ≡ happened b → HasLeft b
    has_left b answer = by (live_of digest s.book.live) refl (is_in_block block (live_of digest s.book.live)) refl allowed
      where
        by : (copy : Option Live) → live_of digest s.book.live ≡ copy → (here : Bool) → is_in_block block copy ≡ here → May here copy → HasLeft b
        by copy live false is none = passed b answer none.0 none.1
        by None live true is may = absurd (false≢true is)
        by (Some copy) live true is (inl none) = absurd (let clash : happened b ≡ refused no_memory = sym answer ∙ none.0 in cc)
        by (Some copy) live true is (inr may) = room (no_place setup defrag move_reserve copy.units s.book) refl may
          where
            room : (o : Option Cause) → no_place setup defrag move_reserve copy.units s.book ≡ o
                → Unless event o (((event.answer ≡ happened true) × (event.steps ≡ moved digest ∷ []))
                ⊎ DamageFound told event []
                ⊎ DiskFails event []
                ⊎ ((has_room setup defrag copy.units s.book ≡ false) × DiskFails event (closing_failed ∷ [])))
                → HasLeft b
            room (Some cause) against only = absurd (let clash : happened b ≡ refused cause = sym answer ∙ only.0 in cc)
            room None none (inl done) = goes copy live is (place_there setup defrag move_reserve copy.units s.book none) b done.1
            room None none (inr (inl damage)) = absurd (let clash : happened b ≡ refused damaged = sym answer ∙ damage.1 in cc)
            room None none (inr (inr (inl fails))) = absurd (let clash : happened b ≡ refused disk_fault = sym answer ∙ fails.0 in cc)
            room None none (inr (inr (inr closing))) = absurd (let clash : happened b ≡ refused disk_fault = sym answer ∙ closing.1.0 in cc)

    -- what lies in the block is moved, where that isn't refused
    pub was_there : is_in_block block (live_of digest s.book.live) ≡ true → (b : Bool) → event.answer ≡ happened b → b ≡ true
    was_there is true answer = refl
    was_there is false answer = absurd (by (is_in_block block (live_of digest s.book.live)) is allowed)
      where
        no : (o : Option Cause) → Unless event o (((event.answer ≡ happened true) × (event.steps ≡ moved digest ∷ [])) ⊎ DamageFound told event [] ⊎ DiskFails event []
            ⊎ ((has_room setup defrag (live_units (live_of digest s.book.live)) s.book ≡ false) × DiskFails event (closing_failed ∷ []))) → ⊥
        no (Some cause) only = let clash : happened false ≡ refused cause = sym answer ∙ only.0 in cc
        no None (inl done) = let clash : happened false ≡ happened true = sym answer ∙ done.0 in cc
        no None (inr (inl damage)) = let clash : happened false ≡ refused damaged = sym answer ∙ damage.1 in cc
        no None (inr (inr (inl fails))) = let clash : happened false ≡ refused disk_fault = sym answer ∙ fails.0 in cc
        no None (inr (inr (inr closing))) = let clash : happened false ≡ refused disk_fault = sym answer ∙ closing.1.0 in cc

        by : (here : Bool) → here ≡ true → May here (live_of digest s.book.live) → ⊥
        by false no_one may = false≢true no_one
        by true holds (inl none) = let clash : happened false ≡ refused no_memory = sym answer ∙ none.0 in cc
        by true holds (inr may) = no (no_place setup defrag move_reserve (live_units (live_of digest s.book.live)) s.book) may
