-- How the expired entries of a part are removed, one after another, and how that ends.
use Rattle.std.proofs.Common.{◌≡◌, inl, inr, ℕ, ◌+◌, ◌^◌, ◌<◌, ◌≤◌, Bool, true, false, cond, List, [], ◌∷◌, ◌++◌, length, refl, sym, ◌∙◌, ap, subst, append_assoc, arith}
use Rattle.std.specs.Prelude.{Option, Some, None, Result, Ok, Err, MatchBool, MatchOption, filter, nat_lt, nat_le, slice_get}
use Rattle.std.proofs.lemmas.Bool.{both_ways}
use Rattle.std.proofs.lemmas.List.{append-nil, length-append}
use Rattle.law_lists.proofs.Places.{place_there}
use Rattle.disk_model.specs.Disk.{DiskView, IsDisk, IsHonest}
use Rattle.rec_format.specs.declared.version.Digest.{Digest}
use Rattle.rec_format.specs.declared.version.Stamp.{Stamp}
use Rattle.rec_format.specs.declared.version.Version.{Version}
use Rattle.rec_format.specs.declared.entry.Entry.{Entry}
use Rattle.rec_format.specs.Places.{same_digest, digest_before, device_number}
use Rattle.rec_format.specs.Versions.{a_tombstone, version_units, is_expired_put}
use Rattle.rec_format.proofs.Laws.{same_digest_is}
use Rattle.model_device.specs.Histories.{Item, is_covered}
use Rattle.model_device.specs.Book.{Setup, client, has_room}
use Rattle.model_device.specs.Device.{State, history, entry, entry_is_covered, entry_passes, part_of, next_stamp_of, expired_in}
use Rattle.model_device.specs.Steps.{part_total, removed}
use Rattle.model_device.specs.Events.{Event, Call, Answer, Cause, happened, refused, too_big, wrong_generation, spent, overload, no_space, expire_call, after_event, after_events}
use Rattle.model_device.specs.Expiring.{ExpiresEach}
use Rattle.model_device.specs.Legal.{Allowed, Only, Removes, Entombs, Unless, WriteEnds, the_stamp, no_write, tombstone_reserve}
use Rattle.model_device.specs.Passes.{AnswersCount, is_behind, expired_behind, cause_of, done_by}
use Rattle.model_device.specs.Vacating.{Outcome, did, stopped, IfRefused}
use Rattle.expiry_rule.specs.Seen.{expired_entry, is_expired_entry}
use Rattle.tomb_rules.specs.Covers.{cover_of}
use Rattle.sprig_tree.specs.Entries.{digests_in}
use Rattle.sprig_tree.specs.State.{SprigState}
use Rattle.law_sprig.specs.Fits.{FitsPart}
use Rattle.law_sprig.specs.Making.{digest_named}
use Rattle.law_sprig.specs.Tests.{passes_test}
use Rattle.law_sprig.proofs.Behind.{IsNext, next_is, behind_then, not_itself, expired_walked, expired_alike, others_stay}
use Rattle.law_sprig.proofs.Device.{among_each}
use Rattle.law_sprig.proofs.Looking.{cover_is, expired_found}
use Rattle.block_shelf.specs.View.{IsShelf}
use Rattle.law_steps.specs.Events.{MakesEvent}
use Rattle.shard_core.specs.declared.refusals.WriteRefusal.{WriteRefusal}
use Rattle.shard_core.specs.declared.refusals.WriteRefusal.TheVariants as write
use Rattle.shard_core.specs.Sprigs.{entry_in, held}
use Rattle.shard_core.specs.View.{ShardView, SameSetup, setup_of}
use Rattle.shard_core.specs.Stands.{Agrees, IsWhole}
use Rattle.shard_core.specs.Calls.{Makes, cause_of_write, delete_answer}
use Rattle.shard_core.specs.Vacating.{MakesEvents}
use Rattle.shard_core.specs.Expiring.{AreBare, IsExpiring, IsOfRemoval, entries_in, expired_left}
use Rattle.shard_core.proofs.Tallies.{few_expired}
use Rattle.shard_core.proofs.Making.{setup_same}
use Rattle.shard_core.proofs.Events.{RunsBy, if_refused, after_all, runs_none, runs_one, runs_then, makes_events, runs_made}

-- ---- how a removal is answered

abbrev EndsRemoval : Answer → Type 0
EndsRemoval (happened false) = ⊥
EndsRemoval (refused (too_big units capacity)) = ⊥
EndsRemoval (refused (wrong_generation seen)) = ⊥
EndsRemoval _ = Unit {0}

abbrev MayRefuse : Option Cause → Type 0
MayRefuse None = Unit {0}
MayRefuse (Some cause) = EndsRemoval (refused cause)

-- what may stand against a tombstone
may_refuse : (setup : Setup) (kept units : ℕ) (stamp : Option Stamp) (s : State) → MayRefuse (no_write setup kept units stamp s)
may_refuse setup kept units None s = tt
may_refuse setup kept units (Some stamp) s = by (has_room setup client units s.book) (nat_lt _ s.book.next_number) (nat_le setup.pending_limit (length s.book.buffers))
    (nat_le (length s.book.free) kept)
  where
    by : (a b c d : Bool) → MayRefuse (cond a None (cond b (Some spent) (cond c (Some (overload (length s.book.buffers))) (cond d (Some (no_space (length s.book.free))) None))))
    by true b c d = tt
    by false true c d = tt
    by false false true d = tt
    by false false false true = tt
    by false false false false = tt

removal_ends : (setup : Setup) (s : State) (event : Event) (digest : Digest) (now : ℕ) → Removes setup s event digest now → EndsRemoval event.answer
removal_ends setup s event digest now ends = by (entry_is_covered s digest) ends
  where
    stamp : Option Stamp
    stamp = next_stamp_of setup s now digest

    v : Version
    v = a_tombstone (the_stamp stamp)

    written : WriteEnds setup s event digest v (happened true) → EndsRemoval event.answer
    written (inl done) = subst EndsRemoval (sym done.0) tt
    written (inr failed) = subst EndsRemoval (sym failed.0) tt

    unless : (o : Option Cause) → MayRefuse o → Unless event o (WriteEnds setup s event digest v (happened true)) → EndsRemoval event.answer
    unless None may rest = written rest
    unless (Some cause) may is = subst EndsRemoval (sym is.0) may

    entombed : Entombs setup s event digest now (λ stamp. happened true) → EndsRemoval event.answer
    entombed (inl memory) = subst EndsRemoval (sym memory.0) tt
    entombed (inr rest) = unless (no_write setup tombstone_reserve (version_units v) stamp s) (may_refuse setup tombstone_reserve (version_units v) stamp s) rest

    by : (b : Bool) → MatchBool b (Entombs setup s event digest now (λ stamp. happened true)) ((event.answer ≡ happened true) × (event.steps ≡ removed digest ∷ [])) → EndsRemoval event.answer
    by true ends = entombed ends
    by false ends = subst EndsRemoval (sym ends.0) tt

-- of an entry that is expired
expiry_ends : (setup : Setup) (told : Bool) (s : State) (event : Event) (digest : Digest) (now : ℕ) → entry_passes (is_expired_put now) (entry s digest) ≡ true
    → Allowed setup told s event (expire_call digest now)
    → EndsRemoval event.answer
expiry_ends setup told s event digest now expired allowed =
    removal_ends setup s event digest now (subst (λ (b : Bool). MatchBool b (Removes setup s event digest now) (Only event (happened false))) expired allowed)

removed_one : (b : Bool) → EndsRemoval (happened b) → b ≡ true
removed_one true ends = refl
removed_one false ends = absurd ends

of_removal : (refusal : WriteRefusal) → EndsRemoval (refused (cause_of_write refusal)) → IsOfRemoval refusal
of_removal (write.Big units capacity) ends = ends
of_removal (write.Gen seen) ends = ends
of_removal write.Spent ends = tt
of_removal (write.Load pending) ends = tt
of_removal (write.Space free) ends = tt
of_removal write.Memory ends = tt
of_removal write.Fault ends = tt

-- ---- the events

each_then : (now : ℕ) (xs ys : List Digest) (before between : ℕ) (events more : List Event) (outcome : Outcome) → ExpiresEach now xs before events (did between 0)
    → ExpiresEach now ys between more outcome
    → ExpiresEach now (xs ++ ys) before (events ++ more) outcome
each_then now [] ys before between events more outcome first then =
    let both : did between 0 ≡ did before 0 = first.1 in
    let same : between ≡ before = cc in
    subst (λ (l : List Event). ExpiresEach now ys before l outcome) (ap (λ (l : List Event). l ++ more) (sym first.0)) (subst (λ (n : ℕ). ExpiresEach now ys n more outcome) same then)
each_then now (x ∷ xs) ys before between events more outcome first then = (
  first.0,
  first.1 ++ more,
  ap (λ (l : List Event). l ++ more) first.2,
  first.3,
  if_refused first.0.answer (λ cause. (first.1 ≡ []) × (did between 0 ≡ stopped cause)) (λ cause. (first.1 ++ more ≡ []) × (outcome ≡ stopped cause))
      (ExpiresEach now xs (before + 1) first.1 (did between 0)) (ExpiresEach now (xs ++ ys) (before + 1) (first.1 ++ more) outcome)
      (λ cause never. absurd (let no : did between 0 ≡ stopped cause = never.1 in cc))
      (λ on. each_then now xs ys (before + 1) between first.1 more outcome on then) first.4,
)

count_then : (xs ys : List Event) (n m : ℕ) (cause : Option Cause) → AnswersCount xs n None → AnswersCount ys m cause → AnswersCount (xs ++ ys) (n + m) cause
count_then [] ys n m cause first then = let same : m ≡ n + m = omega (arith, first.0) in subst (λ (k : ℕ). AnswersCount ys k cause) same then
count_then (x ∷ xs) ys n m cause first then = by (cause_of x.answer) first (λ more rest. count_then xs ys more m cause rest then)
  where
    by : (o : Option Cause) → MatchOption o ((more : ℕ) × (n ≡ done_by x.answer + more) × AnswersCount xs more None) (λ why. (xs ≡ []) × (n ≡ 0) × (None ≡ Some why))
        → ((more : ℕ) → AnswersCount xs more None → AnswersCount (xs ++ ys) (more + m) cause)
        → MatchOption o ((more : ℕ) × (n + m ≡ done_by x.answer + more) × AnswersCount (xs ++ ys) more cause) (λ why. (xs ++ ys ≡ []) × (n + m ≡ 0) × (cause ≡ Some why))
    by None some on = (some.0 + m, omega (arith, some.1), on some.0 some.2)
    by (Some why) never on = absurd (let no : None ≡ Some why = never.2 in cc)

-- one that removed an entry
one_removed : (now : ℕ) (digest : Digest) (before : ℕ) (event : Event) → event.call ≡ expire_call digest now → event.answer ≡ happened true
    → ExpiresEach now (digest ∷ []) before (event ∷ []) (did (before + 1) 0) × AnswersCount (event ∷ []) 1 None
one_removed now digest before event call answer = (
  (event, [], refl, call, subst Each (sym answer) (refl, refl)),
  subst Counts (sym answer) (0, refl, (refl, refl)),
)
  where
    Each : Answer → Type 0
    Each a = IfRefused a (λ cause. (let none : List Event = [] in none ≡ []) × (did (before + 1) 0 ≡ stopped cause)) (ExpiresEach now [] (before + 1) [] (did (before + 1) 0))

    Counts : Answer → Type 0
    Counts a = MatchOption (cause_of a) ((more : ℕ) × (let one : ℕ = 1 in one ≡ done_by a + more) × AnswersCount [] more None)
        (λ why. (let none : List Event = [] in none ≡ []) × (let one : ℕ = 1 in one ≡ 0) × (let no : Option Cause = None in no ≡ Some why))

-- and one that was refused
one_refused : (now : ℕ) (digest : Digest) (digests : List Digest) (before : ℕ) (event : Event) (cause : Cause) → event.call ≡ expire_call digest now → event.answer ≡ refused cause
    → ExpiresEach now (digest ∷ digests) before (event ∷ []) (stopped cause) × AnswersCount (event ∷ []) 0 (Some cause)
one_refused now digest digests before event cause call answer = (
  (event, [], refl, call, subst Each (sym answer) (refl, refl)),
  subst Counts (sym answer) (refl, refl, refl),
)
  where
    Each : Answer → Type 0
    Each a = IfRefused a (λ why. (let none : List Event = [] in none ≡ []) × (stopped cause ≡ stopped why)) (ExpiresEach now digests (before + 1) [] (stopped cause))

    Counts : Answer → Type 0
    Counts a = MatchOption (cause_of a) ((more : ℕ) × (let zero : ℕ = 0 in zero ≡ done_by a + more) × AnswersCount [] more (Some cause))
        (λ why. (let none : List Event = [] in none ≡ []) × (let zero : ℕ = 0 in zero ≡ 0) × (Some cause ≡ Some why))

-- The events so far removed the entries of the first digests, so many, and left all behind the last of these as they were.
pub record HaveExpired (setup : Setup) (part now : ℕ) (s : State) (before : ℕ) (last : Option Digest) (events : List Event) : Type 0 where
  pub done : List Digest
  pub parted : expired_in setup now part s ≡ done ++ expired_behind setup part now last s
  pub long : before ≡ length done
  pub each : ExpiresEach now done 0 events (did before 0)
  pub count : AnswersCount events before None
  pub others : (d : Digest) → is_behind last d ≡ true → history (after_events setup events s) d ≡ history s d

-- a digest that comes later is another
later_other : (digest d : Digest) → is_behind (Some digest) d ≡ true → same_digest d digest ≡ false
later_other digest d is = by (same_digest d digest) refl
  where
    by : (b : Bool) → same_digest d digest ≡ b → b ≡ false
    by false other = refl
    by true same = absurd (both_ways (digest_before digest digest) (not_itself digest) (subst (λ (x : Digest). digest_before digest x ≡ true) (same_digest_is d digest same) is))

-- ---- what a sprig tells

-- the sprig of a part
pub record IsSprigOf {D : Type 0} (shard : ShardView D) (part : ℕ) (s : State) : Type 0 where
  pub sprig : SprigState
  pub at : slice_get shard.sprigs part ≡ Some sprig
  pub fits : FitsPart (setup_of shard) part sprig s

sprig_there : {D : Type 0} (shard : ShardView D) (part : ℕ) (s : State) → part < part_total (setup_of shard) → Agrees shard s → IsSprigOf shard part s
sprig_there shard part s below agrees =
    let one = place_there shard.sprigs part (subst (λ (n : ℕ). part < n) (sym agrees.sprigs.count) below) in
    record { sprig = one.0; at = one.1; fits = agrees.sprigs.each part one.0 one.1 }

module _ {D : Type 0} (shard : ShardView D) (part now : ℕ) (s : State) (below : part < part_total (setup_of shard)) (agrees : Agrees shard s) where
  abbrev there : IsSprigOf shard part s
  there = sprig_there shard part s below agrees

  -- what is left of the part is what the state says
  pub left_is : (last : Option Digest) → expired_left shard part now last ≡ expired_behind (setup_of shard) part now last s
  left_is last =
      ap (λ (o : Option SprigState). digests_in (filter (λ e. is_behind last e.digest) (filter (is_expired_entry now) (entries_in o)))) there.at
      ∙ sym (expired_walked (setup_of shard) part there.sprig s there.fits.entries now last)

  -- the next digest of it
  pub next_told : (last : Option Digest) (digest : Digest) → slice_get (expired_left shard part now last) 0 ≡ Some digest → IsNext (setup_of shard) part now last s digest
  next_told last digest first = next_is (setup_of shard) part now last s digest (ap (λ (l : List Digest). slice_get l 0) (sym (left_is last)) ∙ first)

  -- the digests of a part are the device's
  pub next_own : (last : Option Digest) (digest : Digest) → IsNext (setup_of shard) part now last s digest → device_number (setup_of shard).devices digest ≡ (setup_of shard).device
  next_own last digest next = among_each (λ d. device_number (setup_of shard).devices d ≡ (setup_of shard).device) digest _ agrees.sprigs.own next.logged_is

  -- the entry of a digest is covered, and expired, as the state says
  module _ (digest : Digest) (mine : part_of (setup_of shard) digest ≡ part) where
    abbrev found : Option Entry
    found = held (setup_of shard) digest shard.sprigs

    found_in : found ≡ entry_in digest (Some there.sprig)
    found_in = ap (λ (n : ℕ). entry_in digest (slice_get shard.sprigs n)) mine ∙ ap (entry_in digest) there.at

    pub held_cover : entry_is_covered s digest ≡ cover_of found
    held_cover = cover_is (setup_of shard) part there.sprig s there.fits.entries digest mine ∙ ap cover_of (sym found_in)

    pub held_expired : entry_passes (is_expired_put now) (entry s digest) ≡ passes_test (is_expired_entry now) found
    held_expired = expired_found (setup_of shard) part there.sprig s there.fits.entries digest mine now ∙ ap (passes_test (is_expired_entry now)) (sym found_in)

-- an entry that is covered, and passes, is covered where it is expired
cover_held : (now : ℕ) (o : Option Entry) → passes_test (is_expired_entry now) o ≡ true → cover_of (expired_entry now o) ≡ cover_of o
cover_held now None passes = refl
cover_held now (Some e) passes = ap (λ (b : Bool). cover_of (cond b (Some e) None)) passes

uncovered : (now : ℕ) (o : Option Entry) → cover_of o ≡ false → cover_of (expired_entry now o) ≡ false
uncovered now None bare = refl
uncovered now (Some e) bare = by (is_expired_entry now e)
  where
    by : (b : Bool) → cover_of (cond b (Some e) None) ≡ false
    by true = bare
    by false = refl

-- ---- the next entry of a shard

module _ {D : Type 0} (part now : ℕ) (mid : ShardView D) (below : part < part_total (setup_of mid)) (whole : IsWhole mid) (last : Option Digest) (digest : Digest)
    (first : slice_get (expired_left mid part now last) 0 ≡ Some digest) where
  abbrev u : State
  u = whole.stands.0

  next : IsNext (setup_of mid) part now last u digest
  next = next_told mid part now u below whole.stands.1 last digest first

  pub named : device_number mid.shelf.geometry.devices digest ≡ mid.shelf.geometry.device
  named = next_own mid part now u below whole.stands.1 last digest next

  module _ (view : D → DiskView) (new : ShardView D) where
    module _ (result : Result Bool WriteRefusal) (each : (v : State) → Agrees mid v → Makes view (expire_call digest now) (delete_answer result) mid v new) where
      made : Makes view (expire_call digest now) (delete_answer result) mid u new
      made = each u whole.stands.1

      allowed : Allowed (setup_of mid) false u made.event (expire_call digest now)
      allowed = subst (λ (c : Call). Allowed (setup_of mid) false u made.event c) made.is_call made.follows.allowed

      -- it is removed, or refused as a removal is
      ends : EndsRemoval (delete_answer result)
      ends = subst EndsRemoval made.is_answer (expiry_ends (setup_of mid) false u made.event digest now next.expired allowed)

      -- one digest less is left
      pub left_less : SameSetup mid new → length (expired_left new part now (Some digest)) < length (expired_left mid part now last)
      left_less same =
          let t : State = after_event (setup_of mid) made.event u in
          let after : expired_left new part now (Some digest) ≡ expired_behind (setup_of mid) part now (Some digest) u =
          left_is new part now t (subst (λ (x : Setup). part < part_total x) (setup_same mid new same) below) made.stands (Some digest)
          ∙ ap (λ (x : Setup). expired_behind x part now (Some digest) t) (sym (setup_same mid new same))
          ∙ expired_alike (setup_of mid) part now (Some digest) u t
          (λ d is. others_stay (setup_of mid) false u made.event digest (ap digest_named made.is_call) made.follows.allowed d (later_other digest d is)) in
          let before : expired_left mid part now last ≡ digest ∷ expired_behind (setup_of mid) part now (Some digest) u = left_is mid part now u below whole.stands.1 last ∙ next.rest in
          omega (arith, ap length after, ap length before)

    pub refused_so : (refusal : WriteRefusal) → ((v : State) → Agrees mid v → Makes view (expire_call digest now) (delete_answer (Err refusal)) mid v new) → IsOfRemoval refusal
    refused_so refusal each = of_removal refusal (ends (Err refusal) each)

-- ---- over a shard

module _ {D : Type 0} (view : D → DiskView) (part now : ℕ) (old : ShardView D) (s : State) where
  abbrev setup : Setup
  setup = setup_of old

  -- nothing was removed yet
  pub none_expired : IsDisk (view old.shelf.disk) → Agrees old s → MakesEvents view (HaveExpired setup part now s 0 None) old s old
  none_expired is_disk agrees =
      makes_events view old old s (HaveExpired setup part now s 0 None) []
      (record { done = []; parted = sym (all_kept (expired_in setup now part s)); long = refl; each = (refl, refl); count = (refl, refl); others = λ d is. refl })
      (runs_none view setup old.shelf s (Agrees old) is_disk agrees)
    where
      all_kept : (ds : List Digest) → filter (is_behind None) ds ≡ ds
      all_kept [] = refl
      all_kept (d ∷ ds) = ap (λ (l : List Digest). d ∷ l) (all_kept ds)

  module _ (mid : ShardView D) (n : ℕ) (last : Option Digest) (made : MakesEvents view (HaveExpired setup part now s n last) old s mid) where
    abbrev t : State
    t = after_events setup made.events s

    alike : expired_behind setup part now last t ≡ expired_behind setup part now last s
    alike = expired_alike setup part now last s t made.works.others

    -- not many were removed
    pub few_removed : IsShelf view old.shelf → IsWhole old → Agrees old s → n ≤ 2 ^ 32
    few_removed is whole agrees =
        omega (arith, few_expired view old s is whole agrees part now, ap length made.works.parted, length-append made.works.done (expired_behind setup part now last s), made.works.long)

    module _ (same : SameSetup old mid) (below : part < part_total setup) where
      below_mid : part < part_total (setup_of mid)
      below_mid = subst (λ (x : Setup). part < part_total x) (setup_same old mid same) below

      left_told : expired_left mid part now last ≡ expired_behind setup part now last t
      left_told = left_is mid part now t below_mid made.stands last ∙ ap (λ (x : Setup). expired_behind x part now last t) (sym (setup_same old mid same))

      -- nothing is left
      pub all_expired : slice_get (expired_left mid part now last) 0 ≡ None → MakesEvents view (IsExpiring old part now s (Ok n)) old s mid
      all_expired first =
          let none : expired_behind setup part now last s ≡ [] = none_first (expired_behind setup part now last s) (ap (λ (l : List Digest). slice_get l 0) (sym (left_told ∙ alike)) ∙ first) in
          let whole : expired_in setup now part s ≡ made.works.done = made.works.parted ∙ ap (λ (l : List Digest). made.works.done ++ l) none ∙ append-nil made.works.done in
          makes_events view old mid s (IsExpiring old part now s (Ok n)) made.events
          (subst (λ (l : List Digest). ExpiresEach now l 0 made.events (did n 0)) (sym whole) made.works.each)
          (runs_made view old mid s (HaveExpired setup part now s n last) made)
        where
          none_first : (ds : List Digest) → slice_get ds 0 ≡ None → ds ≡ []
          none_first [] is = refl
          none_first (d ∷ ds) is = absurd cc

      -- one more is tried
      module _ (digest : Digest) (first : slice_get (expired_left mid part now last) 0 ≡ Some digest) where
        next_then : IsNext setup part now last t digest
        next_then = next_is setup part now last t digest (ap (λ (l : List Digest). slice_get l 0) (sym left_told) ∙ first)

        next_before : IsNext setup part now last s digest
        next_before = next_is setup part now last s digest (ap (λ (l : List Digest). slice_get l 0) (sym (left_told ∙ alike)) ∙ first)

        -- it isn't covered where nothing expired was
        pub still_bare : Agrees old s → AreBare old part now → cover_of (expired_entry now (held (setup_of mid) digest mid.sprigs)) ≡ false
        still_bare agrees bare =
            let mine = next_before.mine in
            let was : cover_of (held setup digest old.sprigs) ≡ false =
            sym (cover_held now (held setup digest old.sprigs) (sym (held_expired old part now s below agrees digest mine) ∙ next_before.expired)) ∙ bare digest mine in
            let state : entry_is_covered t digest ≡ false =
            ap (λ (h : List Item). is_covered h) (made.works.others digest next_then.behind_last) ∙ held_cover old part now s below agrees digest mine ∙ was in
            uncovered now (held (setup_of mid) digest mid.sprigs)
            (sym (held_cover mid part now t below_mid made.stands digest (ap (λ (x : Setup). part_of x digest) (sym (setup_same old mid same)) ∙ mine)) ∙ state)

        module _ (new : ShardView D) (honest_on : IsHonest (view old.shelf.disk) → IsHonest (view mid.shelf.disk)) where
          module _ (answer : Answer) (step : Makes view (expire_call digest now) answer mid t new) where
            here : MakesEvent view setup (expire_call digest now) answer mid.shelf t new.shelf (Agrees new)
            here = subst (λ (x : Setup). MakesEvent view x (expire_call digest now) answer mid.shelf t new.shelf (Agrees new)) (sym (setup_same old mid same)) step

            runs : RunsBy view setup old.shelf s new.shelf (Agrees new) (made.events ++ here.event ∷ [])
            runs = runs_then view setup old.shelf mid.shelf new.shelf s (Agrees mid) (Agrees new) made.events (here.event ∷ []) honest_on
                (runs_made view old mid s (HaveExpired setup part now s n last) made) (runs_one view setup (expire_call digest now) answer mid.shelf new.shelf t (Agrees new) here)

            answered : EndsRemoval answer
            answered = subst EndsRemoval here.is_answer
                (expiry_ends setup false t here.event digest now next_then.expired (subst (λ (c : Call). Allowed setup false t here.event c) here.is_call here.follows.allowed))

            parted : expired_in setup now part s ≡ made.works.done ++ digest ∷ expired_behind setup part now (Some digest) s
            parted = made.works.parted ∙ ap (λ (l : List Digest). made.works.done ++ l) next_before.rest

            -- it was removed
            one_more : answer ≡ happened true → MakesEvents view (HaveExpired setup part now s (n + 1) (Some digest)) old s new
            one_more is =
                let one = one_removed now digest n here.event here.is_call (here.is_answer ∙ is) in
                makes_events view old new s (HaveExpired setup part now s (n + 1) (Some digest)) (made.events ++ here.event ∷ []) (record {
                  done = made.works.done ++ digest ∷ [];
                  parted = parted ∙ sym (append_assoc made.works.done (digest ∷ []) (expired_behind setup part now (Some digest) s));
                  long = omega (arith, made.works.long, length-append made.works.done (digest ∷ []));
                  each = each_then now made.works.done (digest ∷ []) 0 n made.events (here.event ∷ []) (did (n + 1) 0) made.works.each one.0;
                  count = count_then made.events (here.event ∷ []) n 1 None made.works.count one.1;
                  others = λ d is_later.
                      ap (λ (x : State). history x d) (after_all setup made.events (here.event ∷ []) s)
                      ∙ others_stay setup false t here.event digest (ap digest_named here.is_call) here.follows.allowed d (later_other digest d is_later)
                      ∙ made.works.others d (behind_then last digest d next_then.behind_last is_later);
                }) runs

            -- it was refused
            stops_here : (refusal : WriteRefusal) → answer ≡ refused (cause_of_write refusal) → MakesEvents view (IsExpiring old part now s (Err (record { removed = n; cause = refusal }))) old s new
            stops_here refusal is =
                let cause = cause_of_write refusal in
                let one = one_refused now digest (expired_behind setup part now (Some digest) s) n here.event cause here.is_call (here.is_answer ∙ is) in
                let same_count : n + 0 ≡ n = omega arith in
                makes_events view old new s (IsExpiring old part now s (Err (record { removed = n; cause = refusal }))) (made.events ++ here.event ∷ []) (
                  subst (λ (k : ℕ). AnswersCount (made.events ++ here.event ∷ []) k (Some cause)) same_count (count_then made.events (here.event ∷ []) n 0 (Some cause) made.works.count one.1),
                  subst (λ (l : List Digest). ExpiresEach now l 0 (made.events ++ here.event ∷ []) (stopped cause)) (sym parted)
                      (each_then now made.works.done (digest ∷ expired_behind setup part now (Some digest) s) 0 n made.events (here.event ∷ []) (stopped cause) made.works.each one.0),
                ) runs

          -- by what is told of the call from each state
          pub goes_on : (b : Bool) → ((v : State) → Agrees mid v → Makes view (expire_call digest now) (happened b) mid v new)
              → MakesEvents view (HaveExpired setup part now s (n + 1) (Some digest)) old s new
          goes_on b each = let step = each t made.stands in one_more (happened b) step (ap happened (removed_one b (answered (happened b) step)))

          pub goes_no_further : (refusal : WriteRefusal) → ((v : State) → Agrees mid v → Makes view (expire_call digest now) (refused (cause_of_write refusal)) mid v new)
              → MakesEvents view (IsExpiring old part now s (Err (record { removed = n; cause = refusal }))) old s new
          goes_no_further refusal each = stops_here (refused (cause_of_write refusal)) (each t made.stands) refusal refl
