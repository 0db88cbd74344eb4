-- How what lay in a block has left it, while other passes acted.
use Rattle.std.proofs.Common.{◌≡◌, ◌⊎◌, inl, inr, ℕ, ◌+◌, ◌<◌, ◌≤◌, ◌^◌, Bool, true, false, List, [], ◌∷◌, ◌++◌, Option, Some, None, refl, sym, ap, subst, ◌∙◌, append_assoc, arith}
use Rattle.std.specs.Prelude.{Result, Ok, Err, IfOk, IfSome, MatchOption}
use Rattle.std.proofs.lemmas.Bool.{cases_lt, false≢true}
use Rattle.std.proofs.lemmas.List.{append-nil}
use mathlib.Core.List.{IsPrefix}
use Rattle.disk_model.specs.Disk.{DiskView}
use Rattle.rec_format.specs.declared.version.Digest.{Digest}
use Rattle.rec_format.specs.declared.entry.Entry.{Entry}
use Rattle.rec_format.specs.Places.{device_number}
use Rattle.block_format.specs.declared.geometry.Geometry.{Geometry}
use Rattle.model_device.specs.Book.{Setup, Book, has_buffer, use_of, live_of}
use Rattle.model_device.specs.Device.{State, part_of}
use Rattle.model_device.specs.Steps.{Step, after_steps, part_total}
use Rattle.model_device.specs.Events.{Event, choose_call, move_call, after_event, after_events}
use Rattle.model_device.specs.Legal.{Allowed, IsLegal, WhereReads, last_faults, is_in_block, queue_front}
use Rattle.law_trail.specs.Trail.{IsBooked}
use Rattle.law_trail.proofs.Legal.{run_booked}
use Rattle.law_leaving.specs.Leaving.{Keeps, IsEmptied}
use Rattle.law_leaving.proofs.Events.{list_keeps, moves_out, unused_out}
use Rattle.sprig_tree.specs.declared.tally.Tally.{Tally}
use Rattle.sprig_tree.specs.State.{SprigState}
use Rattle.sprig_tree.specs.Entries.{entry_of}
use Rattle.law_sprig.specs.Fits.{HasNone, IsShown}
use Rattle.law_sprig.proofs.Counting.{part_exists}
use Rattle.law_sprig.proofs.Looking.{place_is}
use Rattle.block_shelf.specs.View.{ShelfView}
use Rattle.block_shelf.specs.declared.refusals.VacateRefusal.{VacateRefusal}
use Rattle.defrag_pass.specs.declared.refusal.MoveRefusal.{MoveRefusal}
use Rattle.defrag_pass.specs.Choosing.{HasFew}
use Rattle.defrag_pass.specs.Moves.{Answers}
use Rattle.shard_core.specs.declared.refusals.DefragCause.{DefragCause}
use Rattle.shard_core.specs.declared.settings.Settings.{Settings}
use Rattle.shard_core.specs.Vacating.{lies_in, move_cause}
use Rattle.shard_core.proofs.Events.{after_all}
use Rattle.shard_core.proofs.Lying.{same_place, lies_own}
use Rattle.live_node.specs.Opening.{Opening, IsOpening, IsOwn, IsTableOf, setup_at, state_at, faults_at}
use Rattle.live_node.specs.Laws.{state_more}
use Rattle.live_node.specs.Fits.{Is, PartFits, HubFits}
use Rattle.live_node.specs.Calls.{LiveView, seen_by, IsLegalFrom, IsRight, AnswersBy}
use Rattle.live_node.specs.Vacates.{CanEmpty, HasLeft, AllLeft, OwnLeft, PartsLeft, IsGone, IsStop, NoneLies, MovesFirst, MovesNext}
use Rattle.live_node.proofs.Right.{prefix_here, prefix_on, seen_begins, right_then, answers_between, answers_behind}
use Rattle.live_node.proofs.Stepping.{as_shard, fits_alone}
use Rattle.live_node.proofs.Turning.{moves_there}

-- ---- beginnings and ends of legal lists

pub prefix_more : {X : Type 0} (xs ys : List X) → IsPrefix xs (xs ++ ys)
prefix_more xs ys = (ys, refl)

module _ (setup : Setup) (told : Bool) where
  legal_front : (xs ys : List Event) (s : State) (faults : ℕ) → IsLegal setup told s faults (xs ++ ys) → IsLegal setup told s faults xs
  legal_front [] ys s faults legal = tt
  legal_front (x ∷ xs) ys s faults legal = (legal.0, legal_front xs ys (after_event setup x s) x.faults_after legal.1)

  legal_behind : (xs ys : List Event) (s : State) (faults : ℕ) → IsLegal setup told s faults (xs ++ ys) → IsLegal setup told (after_events setup xs s) (last_faults faults xs) ys
  legal_behind [] ys s faults legal = legal
  legal_behind (x ∷ xs) ys s faults legal = legal_behind xs ys (after_event setup x s) x.faults_after legal.1

-- ---- what has left

left_on : {D : Type 0} (o : Opening D) (block : ℕ) (digest : Digest) (before from to after : List Event) → IsPrefix before from → IsPrefix to after → HasLeft o from to block digest
    → HasLeft o before after block digest
left_on o block digest before from to after first last left = record {
  later = left.later;
  begins = prefix_on before from left.later first left.begins;
  ends = prefix_on left.later to after left.ends last;
  out = left.out;
}

module _ {D : Type 0} {view : D → DiskView} (o : Opening D) where
  -- what lies between two of a legal list is legal
  legal_between : (from seg rest all : List Event) → (from ++ seg) ++ rest ≡ all → IsLegalFrom view o all → IsLegal (setup_at o) false (state_at o from) (faults_at view o from) seg
  legal_between from seg rest all is legal =
      legal_behind (setup_at o) false from seg o.state _ (legal_front (setup_at o) false (from ++ seg) rest o.state _ (subst (IsLegal (setup_at o) false o.state _) (sym is) legal.any))

  module _ (block : ℕ) (from mid all : List Event) (begins : IsPrefix from mid) (ends : IsPrefix mid all) (legal : IsLegalFrom view o all)
      (booked : IsBooked (state_at o from).book) (none : has_buffer (state_at o from).book block ≡ false) where
    legal_seg : IsLegal (setup_at o) false (state_at o from) (faults_at view o from) begins.0
    legal_seg = legal_between from begins.0 ends.0 all (ap (λ (l : List Event). l ++ ends.0) begins.1 ∙ ends.1) legal

    state_mid : after_events (setup_at o) begins.0 (state_at o from) ≡ state_at o mid
    state_mid = sym (after_all (setup_at o) from begins.0 o.state) ∙ ap (state_at o) begins.1

    booked_on : IsBooked (state_at o mid).book
    booked_on = subst (λ (s : State). IsBooked s.book) state_mid (run_booked (setup_at o) false begins.0 (state_at o from) _ legal_seg booked)

    -- all has left by then, or none has come into the block
    on_way : AllLeft o from mid block ⊎ Keeps block (state_at o from).book (state_at o mid).book
    on_way = by (list_keeps (setup_at o) block false begins.0 (state_at o from) _ legal_seg booked none)
      where
        by : IsEmptied (setup_at o) block (state_at o from) begins.0 ⊎ Keeps block (state_at o from).book (after_events (setup_at o) begins.0 (state_at o from)).book
            → AllLeft o from mid block ⊎ Keeps block (state_at o from).book (state_at o mid).book
        by (inl emptied) = inl (λ digest. record {
          later = from ++ emptied.first;
          begins = prefix_more from emptied.first;
          ends = (emptied.begins.0, append_assoc from emptied.first emptied.begins.0 ∙ ap (λ (l : List Event). from ++ l) emptied.begins.1 ∙ begins.1);
          out = subst (λ (s : State). is_in_block block (live_of digest s.book.live) ≡ false) (sym (after_all (setup_at o) from emptied.first o.state)) (emptied.out digest);
        })
        by (inr keeps) = inr (subst (λ (s : State). Keeps block (state_at o from).book s.book) state_mid keeps)

  -- the event behind some of a legal list is allowed
  allowed_at : (past all : List Event) (e : Event) → IsPrefix (past ++ e ∷ []) all → IsLegalFrom view o all → Allowed (setup_at o) false (state_at o past) e e.call
  allowed_at past all e ends legal = (legal_between past (e ∷ []) ends.0 all ends.1 legal).0.allowed

  -- a beginning of a legal list is legal
  legal_begin : (to all : List Event) → IsPrefix to all → IsLegalFrom view o all → IsLegalFrom view o to
  legal_begin to all ends legal = record {
    any = legal_front (setup_at o) false to ends.0 o.state _ (subst (IsLegal (setup_at o) false o.state _) (sym ends.1) legal.any);
    told = λ was. legal_front (setup_at o) true to ends.0 o.state _ (subst (IsLegal (setup_at o) true o.state _) (sym ends.1) (legal.told was));
  }

-- ---- how a block is emptied by moves

-- Behind these events no buffer has the block, and what is used of it and so many moves are no more than this.
pub record IsLow {D : Type 0} (o : Opening D) (events : List Event) (block moved most : ℕ) : Type 0 where
  pub booked : IsBooked (state_at o events).book
  pub unbuffered : has_buffer (state_at o events).book block ≡ false
  pub used : moved + use_of (state_at o events).book block ≤ most

-- So it is, or all has left the block.
abbrev pub Wanes : {D : Type 0} → Opening D → (from to : List Event) → (block moved most : ℕ) → Type 0
Wanes o from to block moved most = AllLeft o from to block ⊎ IsLow o to block moved most

module _ {D : Type 0} (o : Opening D) (block : ℕ) (from : List Event) where
  all_on : (mid to : List Event) → IsPrefix mid to → AllLeft o from mid block → AllLeft o from to block
  all_on mid to last left digest = left_on o block digest from from mid to (prefix_here from) last (left digest)

  -- after as many moves all has left
  pub wanes_all : (to : List Event) (most : ℕ) → IsPrefix from to → Wanes o from to block most most → AllLeft o from to block
  wanes_all to most begins (inl all) = all
  wanes_all to most begins (inr low) = λ digest. record {
    later = to;
    begins = begins;
    ends = prefix_here to;
    out = unused_out (state_at o to).book block low.booked (omega (arith, low.used)) digest;
  }

module _ {D : Type 0} {view : D → DiskView} (o : Opening D) (block : ℕ) (from : List Event) where
  -- at first, where what is used is told if it is little
  pub wanes_first : (to : List Event) (most : ℕ) → IsPrefix from to → IsLegalFrom view o to → CanEmpty block (state_at o from).book
      → (use_of (state_at o to).book block < 2 ^ 16 → use_of (state_at o to).book block ≤ most) → Wanes o from to block 0 most
  wanes_first to most begins legal can told = by (on_way o block from to to begins (prefix_here to) legal can.booked can.few.unbuffered)
    where
      by : AllLeft o from to block ⊎ Keeps block (state_at o from).book (state_at o to).book → Wanes o from to block 0 most
      by (inl all) = inl all
      by (inr keeps) = inr (record {
        booked = booked_on o block from to to begins (prefix_here to) legal can.booked can.few.unbuffered;
        unbuffered = keeps.unbuffered;
        used = let low = told (omega (arith, keeps.used, can.few.few)) in omega (arith, low);
      })

  -- while the list goes on
  wanes_on : (mid to : List Event) (moved most : ℕ) → IsPrefix from mid → IsPrefix mid to → IsLegalFrom view o to → Wanes o from mid block moved most → Wanes o from to block moved most
  wanes_on mid to moved most begins ends legal (inl all) = inl (all_on o block from mid to ends all)
  wanes_on mid to moved most begins ends legal (inr low) = by (on_way o block mid to to ends (prefix_here to) legal low.booked low.unbuffered)
    where
      by : AllLeft o mid to block ⊎ Keeps block (state_at o mid).book (state_at o to).book → Wanes o from to block moved most
      by (inl all) = inl (λ digest. left_on o block digest from mid to to begins (prefix_here to) (all digest))
      by (inr keeps) = inr (record {
        booked = booked_on o block mid to to ends (prefix_here to) legal low.booked low.unbuffered;
        unbuffered = keeps.unbuffered;
        used = omega (arith, keeps.used, low.used);
      })

  -- behind the move of a record that was there
  wanes_gone : (past to : List Event) (e : Event) (moved most : ℕ) → to ≡ past ++ e ∷ [] → IsLegalFrom view o to → IsGone block e → Wanes o from past block moved most
      → Wanes o from to block (moved + 1) most
  wanes_gone past to e moved most is legal gone (inl all) = inl (all_on o block from past to (e ∷ [], sym is) all)
  wanes_gone past to e moved most is legal gone (inr low) =
      let ends : IsPrefix past to = (e ∷ [], sym is) in
      let allowed = subst (Allowed (setup_at o) false (state_at o past) e) gone.1.is_call (allowed_at o past to e ([], append-nil (past ++ e ∷ []) ∙ sym is) legal) in
      let out = moves_out (setup_at o) block false (state_at o past) low.booked low.unbuffered e gone.0 allowed true gone.1.answered in
      let after : after_event (setup_at o) e (state_at o past) ≡ state_at o to = sym (state_more o past e) ∙ ap (state_at o) (sym is) in
      let less : 1 + use_of (state_at o to).book block ≤ use_of (state_at o past).book block =
      subst (λ (s : State). 1 + use_of s.book block ≤ use_of (state_at o past).book block) after out.less in
      inr (record {
        booked = booked_on o block past to to ends (prefix_here to) legal low.booked low.unbuffered;
        unbuffered = subst (λ (s : State). has_buffer s.book block ≡ false) after out.keeps.unbuffered;
        used = omega (arith, less, low.used);
      })

  -- behind the move of a call
  pub wanes_by : {v w : LiveView D} (by : AnswersBy view o v w (IsGone block)) (moved most : ℕ) → IsPrefix from (seen_by v) → Wanes o from (seen_by v) block moved most
      → Wanes o from (seen_by w) block (moved + 1) most
  wanes_by {v = v} {w = w} by moved most begins wanes =
      wanes_gone by.past (seen_by w) by.event moved most by.last by.right.legal by.said
      (wanes_on (seen_by v) by.past moved most begins by.begins (legal_begin o by.past (seen_by w) (by.event ∷ [], sym by.last) by.right.legal) wanes)

-- ---- part after part

module _ {D : Type 0} (o : Opening D) (block : ℕ) where
  parts_wide : (before from to after : List Event) (first last : ℕ) → IsPrefix before from → IsPrefix to after → PartsLeft o from to block first last → PartsLeft o before after block first last
  parts_wide before from to after first last begins ends left digest up below = left_on o block digest before from to after begins ends (left digest up below)

  parts_then : (from to : List Event) (first mid last : ℕ) → PartsLeft o from to block first mid → PartsLeft o from to block mid last → PartsLeft o from to block first last
  parts_then from to first mid last low high digest up below = by (cases_lt (part_of (setup_at o) digest) mid)
    where
      by : (part_of (setup_at o) digest < mid) ⊎ (mid ≤ part_of (setup_at o) digest) → HasLeft o from to block digest
      by (inl less) = low digest up less
      by (inr more) = high digest more below

  pub parts_both : (from mid then to : List Event) (first part last : ℕ) → IsPrefix from mid → IsPrefix mid then → IsPrefix then to → PartsLeft o mid then block first part
      → PartsLeft o then to block part last → PartsLeft o from to block first last
  parts_both from mid then to first part last begins goes ends low high =
      parts_then from to first part last (parts_wide from mid then to first part begins ends low)
      (parts_wide from then to to part last (prefix_on from mid then begins goes) (prefix_here to) high)

  -- a part of which none lies there
  parts_one : (from to : List Event) (part : ℕ) → IsPrefix from to → NoneLies o to part block → PartsLeft o from to block part (part + 1)
  parts_one from to part begins none digest up below = record {
    later = to;
    begins = begins;
    ends = prefix_here to;
    out = none digest (omega (arith, up, below));
  }

  -- all parts have the digests of the device
  pub parts_own : (from to : List Event) → IsOpening o → PartsLeft o from to block 0 (part_total (setup_at o)) → OwnLeft o from to block
  parts_own from to opening left digest own =
      let device = opening.devices.0 in
      let sprigs = opening.settings.sprigs in
      left digest (omega arith) (part_exists (setup_at o) digest (omega (arith, device)) (omega (arith, sprigs)) own)

-- ---- one part more

module _ {D : Type 0} {view : D → DiskView} {o : Opening D} (u v w : LiveView D) (first part block : ℕ) (still : IsRight view o u v [])
    (left : PartsLeft o (seen_by u) (seen_by v) block first part) where
  pub next_gone : AnswersBy view o v w (IsGone block) → MovesNext view o u w first block (Ok (Some part))
  next_gone by = (
    (answers_behind view o u v w (IsGone block) still by).0,
    parts_wide o block (seen_by u) (seen_by u) (seen_by v) (seen_by w) first part (prefix_here (seen_by u)) (seen_begins v w by.right.seen) left,
  )

  pub next_part : IsRight view o v w [] → NoneLies o (seen_by w) part block → PartsLeft o (seen_by u) (seen_by w) block first (part + 1)
  next_part right none =
      parts_both o block (seen_by u) (seen_by u) (seen_by v) (seen_by w) first part (part + 1) (prefix_here (seen_by u)) (seen_begins u v still.seen) (seen_begins v w right.seen) left
      (parts_one o block (seen_by v) (seen_by w) part (seen_begins v w right.seen) none)

  pub next_stop : (cause : DefragCause) → AnswersBy view o v w (IsStop block cause) → MovesNext view o u w first block (Err cause)
  next_stop cause by = (answers_behind view o u v w (IsStop block cause) still by).0

-- ---- what a sprig tells of the block

-- The record of a digest of the part lies in the block.
pub record LiesHere {D : Type 0} (o : Opening D) (events : List Event) (part block : ℕ) (digest : Digest) : Type 0 where
  pub mine : part_of (setup_at o) digest ≡ part
  pub live : is_in_block block (live_of digest (state_at o events).book.live) ≡ true

module _ {D : Type 0} (o : Opening D) (events : List Event) (part block : ℕ) (sprig : SprigState) (fits : PartFits o events part sprig) where
  place_in : (digest : Digest) → part_of (setup_at o) digest ≡ part → is_in_block block (live_of digest (state_at o events).book.live) ≡ lies_in block (entry_of digest sprig.entries)
  place_in digest mine =
      ap (is_in_block block) (place_is (setup_at o) part sprig (state_at o events) fits.fits.entries digest mine) ∙ same_place block (entry_of digest sprig.entries)

  pub lies_here : (digest : Digest) → lies_in block (entry_of digest sprig.entries) ≡ true → LiesHere o events part block digest
  lies_here digest lies = let mine = by (entry_of digest sprig.entries) (fits.fits.entries.shown digest) lies in record { mine = mine; live = place_in digest mine ∙ lies }
    where
      by : (found : Option Entry) → MatchOption found (part_of (setup_at o) digest ≡ part → HasNone (state_at o events) digest)
          (λ e. (part_of (setup_at o) digest ≡ part) × IsShown (state_at o events) digest e) → lies_in block found ≡ true → part_of (setup_at o) digest ≡ part
      by None shown lies = absurd cc
      by (Some e) shown lies = shown.0

  pub none_lies : ((digest : Digest) → lies_in block (entry_of digest sprig.entries) ≡ false) → NoneLies o events part block
  none_lies none digest mine = place_in digest mine ∙ none digest

-- what lies in a block is the device's
pub lies_in_own : {D : Type 0} {view : D → DiskView} {o : Opening D} {geometry : Geometry} {set : Settings} {parts : ℕ} {events : List Event} {shelf : ShelfView D} {tally : Tally}
    → IsTableOf o geometry set parts → (hub : HubFits view o events shelf tally) → (part block : ℕ) (digest : Digest) → LiesHere o events part block digest → IsOwn o digest
lies_in_own {o = o} {set = set} {events = events} {shelf = shelf} over hub part block digest here =
    let fits = fits_alone over hub in
    subst (λ (g : Geometry). device_number g.devices digest ≡ g.device) hub.geometry
    (lies_own (record { shelf = shelf; set = set; sprigs = fits.hub.tallied.sprigs }) (state_at o events) (as_shard fits) block digest here.live)

-- ---- what a move of such a record answers

module _ {D : Type 0} {view : D → DiskView} {o : Opening D} where
  -- the same event, of which something else is said
  said_so : {v w : LiveView D} {Said Other : Event → Type 0} (by : AnswersBy view o v w Said) → Other by.event → AnswersBy view o v w Other
  said_so by said = record { past = by.past; event = by.event; said = said; begins = by.begins; last = by.last; left = by.left; right = by.right }

  pub found_gone : (v w : LiveView D) (part block : ℕ) (digest : Digest) (there : Bool) (by : AnswersBy view o v w (Is (move_call digest block) (Answers (Ok there))))
      → is_in_block block (live_of digest (state_at o by.past).book.live) ≡ true → MovesFirst view o v w part block (Ok there)
  found_gone v w part block digest true by live = said_so by (digest, record { is_call = by.said.is_call; answered = by.said.answered })
  found_gone v w part block digest false by live = absurd (false≢true (moves_there digest block (Ok false) by ∙ live))

  pub found_stop : (v w : LiveView D) (part block : ℕ) (digest : Digest) (refusal : MoveRefusal) (cause : DefragCause) → cause ≡ move_cause refusal
      → AnswersBy view o v w (Is (move_call digest block) (Answers (Err refusal))) → MovesFirst view o v w part block (Err cause)
  found_stop v w part block digest refusal cause is by = said_so by (digest, refusal, is, record { is_call = by.said.is_call; answered = by.said.answered })

  -- behind what entered nothing and before what entered nothing
  pub first_between : (u v w x : LiveView D) (part block : ℕ) (result : Result Bool DefragCause) → IsRight view o u v [] → MovesFirst view o v w part block result → IsRight view o w x []
      → seen_by x ≡ seen_by w → MovesFirst view o u x part block result
  first_between u v w x part block (Ok true) before moves after seen = (answers_between view o u v w x (IsGone block) before moves after seen).0
  first_between u v w x part block (Ok false) before moves after seen =
      (right_then view o u w x [] [] (right_then view o u v w [] [] before moves.0) after, subst (λ (l : List Event). NoneLies o l part block) (sym seen) moves.1)
  first_between u v w x part block (Err cause) before moves after seen = (answers_between view o u v w x (IsStop block cause) before moves after seen).0

-- ---- a choice

-- a choice changes nothing
pub choose_still : (setup : Setup) (told : Bool) (s : State) (event : Event) → Allowed setup told s event choose_call → after_event setup event s ≡ s
choose_still setup told s event allowed = ap (λ (l : List Step). after_steps setup l s) (none allowed)
  where
    reads : (o : Option ℕ) → WhereReads told event o → event.steps ≡ []
    reads None is = absurd is
    reads (Some block) (inl damage) = damage.2
    reads (Some block) (inr fails) = fails.1

    none : Allowed setup told s event choose_call → event.steps ≡ []
    none (inl only) = only.1
    none (inr is) = reads (queue_front s.book.queue) is

pub low_chosen : (result : Result (Option ℕ) VacateRefusal) (book : Book) → IsBooked book → IfOk result (λ chosen. IfSome chosen (λ block. HasFew block book))
    → IfOk result (λ chosen. IfSome chosen (λ block. CanEmpty block book))
low_chosen (Ok None) book booked few = tt
low_chosen (Ok (Some block)) book booked few = record { booked = booked; few = few }
low_chosen (Err refusal) book booked few = tt
