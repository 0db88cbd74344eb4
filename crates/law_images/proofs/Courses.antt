-- An event that is allowed keeps a set of images in every state on its way.
use Rattle.std.proofs.Common.{◌≡◌, inl, inr, ℕ, ◌+◌, Bool, true, false, cond, List, [], ◌∷◌, ◌++◌, map, length, take, refl, sym, ◌∙◌, ap, subst, arith}
use Rattle.std.proofs.Math.Seq.{take-append_seam}
use Rattle.std.proofs.lemmas.List.{append_assoc}
use Rattle.std.specs.Prelude.{Contains, Option, Some, None, MatchOption}
use Rattle.rec_format.specs.declared.version.Digest.{Digest}
use Rattle.rec_format.specs.declared.version.Version.{Version}
use Rattle.rec_format.specs.Versions.{is_tombstone}
use Rattle.model_device.specs.Book.{Setup, Live, defrag, live_of}
use Rattle.model_device.specs.Device.{State, entry, entry_passes}
use Rattle.model_device.specs.Steps.{Step, wrote, moved, removed, rid_of, uncovered, sealed_stream, gate_begun, flushed_buffer, closing_failed, raid_begun}
use Rattle.model_device.specs.Steps.{raid_given_up, marked_part, scanned_block, compared_part, done_part, moved_state, after_step, after_steps}
use Rattle.model_device.specs.Events.{Event}
use Rattle.model_device.specs.Legal
use Rattle.disk_model.specs.Disk.{Images}
use Rattle.block_format.specs.declared.geometry.Geometry.{Geometry}
use Rattle.law_facts.specs.Facts.{Possible, HasFacts, Becomes}
use Rattle.law_facts.specs.Asking.{MayTake, MayTakeAll, BecomesAlong, WritesOwn, ScansAll}
use Rattle.law_facts.proofs.Allowed.{BecomesIfDropped, allowed_may}
use Rattle.law_trail.specs.Trail.{Records, places_of, WaitsIn}
use Rattle.law_images.specs.Kept.{possible_in, IsKept}
use Rattle.law_images.specs.Changes.{Appends, BringsNone, is_plain}
use Rattle.law_images.specs.Courses.{IsMade, ChangeBehind, MadeAlong, KeptAlong}
use Rattle.law_images.proofs.Stepping.{plain_kept, plain_places, flushed_kept}
use Rattle.law_images.proofs.Appending.{wrote_kept, moved_kept}

-- ---- one step

module _ (setup : Setup) (g : Geometry) (s : State) (old new : Records) (images : Images) (kept : IsKept setup g s old images) where
  with_same : (t : State) → new ≡ old → IsKept setup g t old images → IsKept setup g t new images
  with_same t same is = subst (λ (r : Records). IsKept setup g t r images) (sym same) is

  made_moved : (digest : Digest) (live : Option Live) → live_of digest s.book.live ≡ live
      → MatchOption live (new ≡ old) (λ copy. (v : Version) × (entry s digest ≡ Some v) × Appends setup defrag copy.units digest v s.book old new)
      → IsKept setup g (after_step setup (moved digest) s) new images
  unfolding after_step
  made_moved digest None is same = subst (λ (o : Option Live). IsKept setup g (moved_state setup digest o s) new images) (sym is) (with_same s same kept)
  made_moved digest (Some copy) is made = moved_kept setup s old new digest copy is made.0 made.1 made.2 g images kept

  pub made_kept : (step : Step) → MayTake setup s (possible_in g s.book old images) step → IsMade setup g s old new images step → IsKept setup g (after_step setup step s) new images
  made_kept (wrote digest v) may made = wrote_kept setup s old new digest v g images kept may made
  made_kept (moved digest) may made = made_moved digest (live_of digest s.book.live) refl made
  made_kept (removed digest) may made = with_same (after_step setup (removed digest) s) made (plain_kept setup g s old images kept (removed digest) refl may)
  made_kept (rid_of digest) may made = with_same (after_step setup (rid_of digest) s) made (plain_kept setup g s old images kept (rid_of digest) refl may)
  made_kept (uncovered digest) may made = with_same (after_step setup (uncovered digest) s) made (plain_kept setup g s old images kept (uncovered digest) refl may)
  made_kept (sealed_stream stream) may made = with_same (after_step setup (sealed_stream stream) s) made (plain_kept setup g s old images kept (sealed_stream stream) refl may)
  made_kept (gate_begun number) may made = with_same (after_step setup (gate_begun number) s) made (plain_kept setup g s old images kept (gate_begun number) refl may)
  made_kept (flushed_buffer number) may made = with_same (after_step setup (flushed_buffer number) s) made.3 (flushed_kept setup g s old images kept number made.0 made.1 made.2)
  made_kept closing_failed may made = with_same (after_step setup closing_failed s) made (plain_kept setup g s old images kept closing_failed refl may)
  made_kept raid_begun may made = with_same (after_step setup raid_begun s) made (plain_kept setup g s old images kept raid_begun refl may)
  made_kept raid_given_up may made = with_same (after_step setup raid_given_up s) made (plain_kept setup g s old images kept raid_given_up refl may)
  made_kept (marked_part part now) may made = with_same (after_step setup (marked_part part now) s) made (plain_kept setup g s old images kept (marked_part part now) refl may)
  made_kept (scanned_block copies) may made = with_same (after_step setup (scanned_block copies) s) made (plain_kept setup g s old images kept (scanned_block copies) refl may)
  made_kept (compared_part part) may made = with_same (after_step setup (compared_part part) s) made (plain_kept setup g s old images kept (compared_part part) refl may)
  made_kept (done_part part) may made = with_same (after_step setup (done_part part) s) made (plain_kept setup g s old images kept (done_part part) refl may)

change_kept : (setup : Setup) (g : Geometry) (after : State) (records : Records) (before now : Images) (step : Step) → ChangeBehind setup g after records before now step
    → IsKept setup g after records before → IsKept setup g after records now
change_kept setup g after records before now (wrote digest v) change kept = change kept
change_kept setup g after records before now (moved digest) change kept = change kept
change_kept setup g after records before now (removed digest) change kept = change kept
change_kept setup g after records before now (rid_of digest) change kept = change.0 kept
change_kept setup g after records before now (uncovered digest) change kept = change.0 kept
change_kept setup g after records before now (sealed_stream stream) change kept = change kept
change_kept setup g after records before now (gate_begun number) change kept = change kept
change_kept setup g after records before now (flushed_buffer number) change kept = change kept
change_kept setup g after records before now closing_failed change kept = change kept
change_kept setup g after records before now raid_begun change kept = change kept
change_kept setup g after records before now raid_given_up change kept = change kept
change_kept setup g after records before now (marked_part part now_) change kept = change kept
change_kept setup g after records before now (scanned_block copies) change kept = change kept
change_kept setup g after records before now (compared_part part) change kept = change kept
change_kept setup g after records before now (done_part part) change kept = change.0 kept

-- ---- several steps

-- the states on the way, the k-th first
abbrev AreStates : Setup → (states : ℕ → State) → (k : ℕ) → State → List Step → Type 0
AreStates setup states k s [] = states k ≡ s
AreStates setup states k s (step ∷ steps) = (states k ≡ s) × AreStates setup states (k + 1) (after_step setup step s) steps

first_is : (setup : Setup) (states : ℕ → State) (k : ℕ) (s : State) (steps : List Step) → AreStates setup states k s steps → states k ≡ s
first_is setup states k s [] are = are
first_is setup states k s (step ∷ steps) are = are.0

after_one_more : (setup : Setup) (front : List Step) (step : Step) (s : State) → after_steps setup (front ++ step ∷ []) s ≡ after_step setup step (after_steps setup front s)
after_one_more setup [] step s = refl
after_one_more setup (x ∷ front) step s = after_one_more setup front step (after_step setup x s)

length_one_more : (front : List Step) (step : Step) → length (front ++ step ∷ []) ≡ length front + 1
length_one_more [] step = refl
length_one_more (x ∷ front) step = let rest = length_one_more front step in omega (arith, rest)

-- the state after the first k steps is the k-th
states_from : (setup : Setup) (s : State) (front rest : List Step) → AreStates setup (λ k. after_steps setup (take k (front ++ rest)) s) (length front) (after_steps setup front s) rest
states_from setup s front [] = ap (λ (l : List Step). after_steps setup l s) (take-append_seam front [])
states_from setup s front (step ∷ rest) = (
  ap (λ (l : List Step). after_steps setup l s) (take-append_seam front (step ∷ rest)),
  subst (λ (t : State). AreStates setup (λ k. after_steps setup (take k (front ++ step ∷ rest)) s) (length front + 1) t rest) (after_one_more setup front step s)
      (subst (λ (n : ℕ). AreStates setup (λ k. after_steps setup (take k (front ++ step ∷ rest)) s) n (after_steps setup (front ++ step ∷ []) s) rest) (length_one_more front step)
      (subst (λ (l : List Step). AreStates setup (λ k. after_steps setup (take k l) s) (length (front ++ step ∷ [])) (after_steps setup (front ++ step ∷ []) s) rest)
      (append_assoc front (step ∷ []) rest)
      (states_from setup s (front ++ step ∷ []) rest))),
)

module _ (setup : Setup) (g : Geometry) (states : ℕ → State) (records : ℕ → Records) (images : ℕ → Images) where
  abbrev possible : ℕ → Possible
  possible k = possible_in g (states k).book (records k) (images k)

  course_kept : (k : ℕ) (s : State) (steps : List Step) → AreStates setup states k s steps → MayTakeAll setup s possible k steps → MadeAlong setup g s records images k steps
      → IsKept setup g s (records k) (images k)
      → KeptAlong setup g s records images k steps
  course_kept k s [] are may made kept = kept
  course_kept k s (step ∷ steps) are may made kept =
      let after = after_step setup step s in
      let next = made_kept setup g s (records k) (records (k + 1)) (images k) kept step
      (subst (λ (t : State). MayTake setup s (possible_in g t.book (records k) (images k)) step) are.0 may.0) made.0 in
      (kept, next, course_kept (k + 1) after steps are.1 may.1 made.2 (change_kept setup g after (records (k + 1)) (images k) (images (k + 1)) step made.1 next))

  -- ---- what a raid drops

  -- no copy comes where the images show none that wasn't possible, and the buffers keep their places and records
  same_becomes : (k : ℕ) (s : State) (step : Step) → is_plain step ≡ true → states k ≡ s → states (k + 1) ≡ after_step setup step s → records (k + 1) ≡ records k
      → BringsNone g (after_step setup step s).book (records (k + 1)) (images k) (images (k + 1)) → Becomes setup (after_step setup step s) (possible k) (possible (k + 1))
  same_becomes k s step plain here next same brings block digest v possible = inl (by possible)
    where
      was : possible_in g (after_step setup step s).book (records (k + 1)) (images k) block digest v → possible_in g (states k).book (records k) (images k) block digest v
      was (inl waits) = inl (
        waits.0,
        record {
          placed = subst (λ (l : List (ℕ × ℕ)). Contains l (waits.0, block)) (plain_places setup s step plain ∙ ap (λ (t : State). places_of t.book) (sym here)) waits.1.placed;
          has = subst (λ (r : Records). Contains (r waits.0) (digest, v)) same waits.1.has;
        },
      )
      was (inr left) = inr left

      by : possible_in g (states (k + 1)).book (records (k + 1)) (images (k + 1)) block digest v → possible_in g (states k).book (records k) (images k) block digest v
      by (inl waits) = was (inl (subst (λ (t : State). (n : ℕ) × WaitsIn t.book (records (k + 1)) n block digest v) next waits))
      by (inr left) = was (brings block digest v left)

  drop_plain : (digest : Digest) (b : Bool) → is_plain (cond b (rid_of digest) (uncovered digest)) ≡ true
  drop_plain digest true = refl
  drop_plain digest false = refl

  drop_same : (s : State) (old new : Records) (now : Images) (digest : Digest) (b : Bool) → IsMade setup g s old new now (cond b (rid_of digest) (uncovered digest)) → new ≡ old
  drop_same s old new now digest true same = same
  drop_same s old new now digest false same = same

  drop_brings : (after : State) (old : Records) (before now : Images) (digest : Digest) (b : Bool) → ChangeBehind setup g after old before now (cond b (rid_of digest) (uncovered digest))
      → BringsNone g after.book old before now
  drop_brings after old before now digest true change = change.1
  drop_brings after old before now digest false change = change.1

  drops_become : (k : ℕ) (s : State) (first : State) (digests : List Digest) (part : ℕ) → AreStates setup states k s (map (Legal.drop_step first) digests ++ done_part part ∷ [])
      → MadeAlong setup g s records images k (map (Legal.drop_step first) digests ++ done_part part ∷ []) → BecomesAlong setup s possible k (map (Legal.drop_step first) digests ++ done_part part ∷ [])
  drops_become k s first [] part are made = (same_becomes k s (done_part part) refl are.0 are.1 made.0 made.1.1, tt)
  drops_become k s first (d ∷ digests) part are made =
      let b = entry_passes is_tombstone (entry first d) in
      let after = after_step setup (Legal.drop_step first d) s in (
        same_becomes k s (Legal.drop_step first d) (drop_plain d b) are.0 (first_is setup states (k + 1) after (map (Legal.drop_step first) digests ++ done_part part ∷ []) are.1)
            (drop_same s (records k) (records (k + 1)) (images k) d b made.0) (drop_brings after (records (k + 1)) (images k) (images (k + 1)) d b made.1),
        drops_become (k + 1) after first digests part are.1 made.2,
      )

-- ---- an event

-- An event that is allowed, each of whose steps is made, keeps the images in every state on the way, as long as a change behind a step keeps
-- them there. What it writes belongs to the device, and a scan finds what it has to.
pub event_kept : (setup : Setup) (g : Geometry) (told : Bool) (s : State) (records : ℕ → Records) (images : ℕ → Images) (event : Event) → IsKept setup g s (records 0) (images 0)
    → WritesOwn setup event.call
    → ScansAll s (possible_in g s.book (records 0) (images 0)) event → Legal.Allowed setup told s event event.call → MadeAlong setup g s records images 0 event.steps
    → KeptAlong setup g s records images 0 event.steps
event_kept setup g told s records images event kept own scans allowed made =
    course_kept setup g states records images 0 s event.steps are
    (allowed_may setup told s (possible setup g states records images) event event.call facts own
    (subst (λ (t : State). ScansAll s (possible_in g t.book (records 0) (images 0)) event) (sym at_first) scans) becomes allowed) made kept
  where
    states : ℕ → State
    states k = after_steps setup (take k event.steps) s

    are : AreStates setup states 0 s event.steps
    are = states_from setup s [] event.steps

    at_first : states 0 ≡ s
    at_first = first_is setup states 0 s event.steps are

    facts : HasFacts setup s (possible setup g states records images 0)
    facts = subst (λ (t : State). HasFacts setup s (possible_in g t.book (records 0) (images 0))) (sym at_first) kept.facts

    becomes : BecomesIfDropped setup s (possible setup g states records images) event
    becomes part is =
        subst (BecomesAlong setup s (possible setup g states records images) 0) (sym is)
        (drops_become setup g states records images 0 s s (Legal.marked_in setup part s) part (subst (AreStates setup states 0 s) is are) (subst (MadeAlong setup g s records images 0) is made))
