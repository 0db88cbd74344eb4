-- What the turns of a raid make of a shard.
use Rattle.std.proofs.Common.{set, get_or, cond, ◌-◌, ◌^◌, ◌≡◌, ℕ, ◌+◌, ◌*◌, ◌<◌, ◌≤◌, max, Bool, true, false, ◌&&◌, List, [], ◌∷◌, length, suc, Some, None, refl, ◌∙◌, ap, subst, arith}
use Rattle.std.specs.Prelude.{count_by, slice_get, Result, Ok, Err, IfErr, IfOk}
use Rattle.std.proofs.Math.Nat.{suc-mul}
use Rattle.std.proofs.lemmas.List.Sums.{sum_by-cons}
use Rattle.disk_model.specs.Disk.{DiskView}
use Rattle.rec_format.specs.declared.entry.Entry.{Entry}
use Rattle.model_device.specs.Book.{Setup}
use Rattle.model_device.specs.Device.{State}
use Rattle.model_device.specs.Steps.{part_total}
use Rattle.model_device.specs.Events.{turn_call}
use Rattle.model_device.specs.Passes.{turn_part}
use Rattle.raid_book.specs.declared.turn.RaidNext.{RaidNext}
use Rattle.raid_book.specs.declared.turn.RaidNext.TheVariants.{Mark, Scan, Apply, Drop, Finished}
use Rattle.raid_book.specs.Books.{BookState, FitsTurn}
use Rattle.raid_book.specs.Turns.{turn_of}
use Rattle.law_sprig.specs.Tests.{is_put_entry, is_tombstone_entry}
use Rattle.block_shelf.specs.View.{IsShelf, ShelfView}
use Rattle.sprig_tree.specs.State.{SprigState}
use Rattle.law_steps.specs.Standing.{StandTogether}
use Rattle.shard_raid.specs.Marks.{is_marked_by}
use Rattle.shard_raid.specs.Raids.{RaidView, IsNext, StandOn, turns_left}
use Rattle.shard_raid.specs.Turns as turns
use Rattle.shard_raid.specs.Turns.{CountsEnds, IsDidOf, turn_answer}
use Rattle.shard_raid.specs.declared.scan.RaidRefusal.{RaidRefusal}
use Rattle.shard_raid.specs.declared.scan.RaidRefusal.TheVariants.{Stale, Damaged, Memory, Fault}
use Rattle.shard_raid.specs.declared.turn.RaidDid.{RaidDid}
use Rattle.shard_raid.specs.declared.turn.RaidDid.TheVariants.{Marked, Scanned, Applied, Dropped, Done}
use Rattle.shard_core.specs.View.{ShardView, IsSettings, SameSetup, setup_of}
use Rattle.shard_core.specs.Stands.{Agrees, IsWhole}
use Rattle.shard_core.specs.Raids.{AreFewEnds, TurnMakes}
use Rattle.shard_core.specs.Refusals.{TurnLeaves}
use Rattle.shard_core.proofs.Tallies.{few_in_sprig}
use Rattle.shard_core.proofs.Making.{on_lifted, part_lifted, part_stands}

-- ---- the parts of a device

-- it has one at least
some_parts : (setup : Setup) → 1 ≤ setup.sprigs → 1 ≤ part_total setup
some_parts setup some = by setup.device setup.devices setup.sprigs some
  where
    by : (device devices sprigs : ℕ) → 1 ≤ sprigs → 1 ≤ part_total (record setup { device = device; devices = devices; sprigs = sprigs })
    by device devices sprigs some = more _ sprigs some
      where
        more : (n k : ℕ) → 1 ≤ k → 1 ≤ (n + 1) * k
        more n k some = let next : n + 1 ≡ suc n = omega arith in let sum = ap (λ (m : ℕ). m * k) next ∙ suc-mul n k in omega (arith, some, sum)

-- each that a turn names has a sprig
pub part_there : {D : Type 0} (shard : ShardView D) (part : ℕ) (s : State) → IsSettings shard.set → Agrees shard s → part < max shard.shelf.raid.parts 1 → part < length shard.sprigs
part_there shard part s set agrees below =
    let parts : shard.shelf.raid.parts ≡ part_total (setup_of shard) = agrees.shelf.queue.raid.turns.parts in
    let some : 1 ≤ part_total (setup_of shard) = some_parts (setup_of shard) set.sprigs.0 in
    let count : length shard.sprigs ≡ part_total (setup_of shard) = agrees.sprigs.count in
    omega (arith, parts, some, count, below)

-- ---- the ends of parts are few

-- the more is asked of the entries, the fewer they are
fewer_of : (p q : Entry → Bool) (es : List Entry) → count_by (λ e. p e && q e) es ≤ count_by q es
fewer_of p q [] = omega arith
fewer_of p q (e ∷ es) = by (p e) (q e) (sum_by-cons (λ x. cond (p x && q x) 1 0) e es) (sum_by-cons (λ x. cond (q x) 1 0) e es) (fewer_of p q es)
  where
    by : (a b : Bool) → count_by (λ x. p x && q x) (e ∷ es) ≡ cond (a && b) 1 0 + count_by (λ x. p x && q x) es → count_by q (e ∷ es) ≡ cond b 1 0 + count_by q es
        → count_by (λ x. p x && q x) es ≤ count_by q es → count_by (λ x. p x && q x) (e ∷ es) ≤ count_by q (e ∷ es)
    by true true one two less = omega (arith, one, two, less)
    by true false one two less = omega (arith, one, two, less)
    by false true one two less = omega (arith, one, two, less)
    by false false one two less = omega (arith, one, two, less)

-- At the end of a part, of which these entries were counted.
pub few_ends : {D : Type 0} (view : D → DiskView) (shard : ShardView D) (s : State) (is : IsShelf view shard.shelf) (whole : IsWhole shard) (agrees : Agrees shard s)
    (part parts number removed cleared : ℕ) (sprig : SprigState)
    → slice_get shard.sprigs part ≡ Some sprig → shard.shelf.raid.next ≡ Drop part → parts ≡ part_total (setup_of shard) → parts ≤ 2 ^ 20
    → removed ≡ count_by (λ e. is_marked_by number e && is_tombstone_entry e) sprig.entries → cleared ≡ count_by (λ e. is_marked_by number e && is_put_entry e) sprig.entries
    → AreFewEnds (turns_left shard.shelf.raid) (Dropped removed cleared)
few_ends view shard s is whole agrees part parts number removed cleared sprig at comes total most are_removed are_cleared =
    let few = few_in_sprig view shard s is whole agrees part sprig at in
    let gone = fewer_of (is_marked_by number) is_tombstone_entry sprig.entries in
    let bare = fewer_of (is_marked_by number) is_put_entry sprig.entries in
    let left : turns_left shard.shelf.raid ≡ max shard.shelf.raid.parts 1 - part = ap (λ (n : RaidNext). turns_left (record shard.shelf.raid { next = n })) comes in
    let book = agrees.shelf.queue.raid.turns.parts in
    (omega (arith, few.1, gone, are_removed), omega (arith, few.0, bare, are_cleared), omega (arith, left, book, total, most))

-- by the answer of the turn, at this part
pub few_counted : {D : Type 0} (view : D → DiskView) (shard : ShardView D) (s : State) (is : IsShelf view shard.shelf) (whole : IsWhole shard) (agrees : Agrees shard s) (part parts : ℕ)
    (sprig : SprigState) → slice_get shard.sprigs part ≡ Some sprig → turn_part (turn_of shard.shelf.raid.next) ≡ Some part → parts ≡ part_total (setup_of shard) → parts ≤ 2 ^ 20
    → (result : Result RaidDid RaidRefusal) → IfOk result (IsDidOf shard.shelf.raid.next) → IfOk result (CountsEnds shard.shelf.raid.number sprig.entries)
    → IfOk result (AreFewEnds (turns_left shard.shelf.raid))
few_counted view shard s is whole agrees part parts sprig at named total most (Err refusal) did counts = tt
few_counted view shard s is whole agrees part parts sprig at named total most (Ok (Marked marks)) did counts = tt
few_counted view shard s is whole agrees part parts sprig at named total most (Ok (Scanned block)) did counts = tt
few_counted view shard s is whole agrees part parts sprig at named total most (Ok (Applied unmarked)) did counts = tt
few_counted view shard s is whole agrees part parts sprig at named total most (Ok Done) did counts = tt
few_counted view shard s is whole agrees part parts sprig at named total most (Ok (Dropped removed cleared)) did counts =
    few_ends view shard s is whole agrees part parts shard.shelf.raid.number removed cleared sprig at (by shard.shelf.raid.next refl did named) total most counts.0 counts.1
  where
    by : (next : RaidNext) → shard.shelf.raid.next ≡ next → IsDidOf next (Dropped removed cleared) → turn_part (turn_of next) ≡ Some part → shard.shelf.raid.next ≡ Drop part
    by (Mark other) comes did named = absurd did
    by (Scan block) comes did named = absurd did
    by (Apply other) comes did named = absurd did
    by (Drop other) comes did named = let same : other ≡ part = cc in comes ∙ ap (λ (k : ℕ). Drop k) same
    by Finished comes did named = absurd did

-- a turn at no part ends none
pub few_aside : (next : RaidNext) (left : ℕ) → turn_part (turn_of next) ≡ None → (result : Result RaidDid RaidRefusal) → IfOk result (IsDidOf next) → IfOk result (AreFewEnds left)
few_aside next left none (Err refusal) did = tt
few_aside next left none (Ok (Marked marks)) did = tt
few_aside next left none (Ok (Scanned block)) did = tt
few_aside next left none (Ok (Applied unmarked)) did = tt
few_aside next left none (Ok Done) did = tt
few_aside next left none (Ok (Dropped removed cleared)) did = absurd (by next did none)
  where
    by : (next : RaidNext) → IsDidOf next (Dropped removed cleared) → turn_part (turn_of next) ≡ None → ⊥
    by (Mark other) did none = did
    by (Scan block) did none = did
    by (Apply other) did none = did
    by (Drop other) did none = let clash : Some other ≡ None = none in absurd cc
    by Finished did none = did

-- ---- where the next turn is

-- the part of the turn that is next has a sprig
pub next_there : {D : Type 0} (shard : ShardView D) (s : State) → IsSettings shard.set → Agrees shard s → (next : RaidNext) → FitsTurn next shard.shelf.raid → (part : ℕ)
    → turn_part (turn_of next) ≡ Some part → part < length shard.sprigs
next_there shard s set agrees (Mark other) fits part named = let same : other ≡ part = cc in part_there shard part s set agrees (subst (λ (k : ℕ). k < max shard.shelf.raid.parts 1) same fits.0)
next_there shard s set agrees (Scan block) fits part named = absurd cc
next_there shard s set agrees (Apply other) fits part named =
    let same : other ≡ part = cc in
    part_there shard part s set agrees (subst (λ (k : ℕ). k < max shard.shelf.raid.parts 1) same (omega (arith, fits.0)))
next_there shard s set agrees (Drop other) fits part named = let same : other ≡ part = cc in part_there shard part s set agrees (subst (λ (k : ℕ). k < max shard.shelf.raid.parts 1) same fits.0)
next_there shard s set agrees Finished fits part named = absurd cc

-- ---- a turn as a call of the shard

module _ {D : Type 0} (view : D → DiskView) (raid : RaidView) (now : ℕ) (result : Result RaidDid RaidRefusal) (old new : ShardView D) (shape : SameSetup old new) where
  -- at a part
  module _ (part k : ℕ) (before after : SprigState) (place : k ≡ part) (there : k < length old.sprigs) (at : before ≡ get_or old.sprigs k before) (becomes : new.sprigs ≡ set old.sprigs k after)
      (named : turn_part (turn_of raid.next) ≡ Some part) where
    pub turn_at_part : (s : State) → Agrees old s
        → (StandTogether (setup_of old) part before old.shelf s
        → turns.TurnMakes view (setup_of old) raid now result old.shelf s new.shelf (StandTogether (setup_of old) part after new.shelf)) → TurnMakes view raid now result old s new
    turn_at_part s agrees step =
        let made = step (part_stands view part old new k before after shape place there at becomes s agrees) in
        record {
          makes = part_lifted view part old new k before after shape place there at becomes (turn_call raid.number (turn_of raid.next) now) (turn_answer result) tt named s agrees made.makes;
          all = made.all;
          only = made.only;
          alike = made.alike;
        }

  -- over the shelf alone
  pub turn_on_shelf : new.sprigs ≡ old.sprigs → (s : State) → Agrees old s
      → turns.TurnMakes view (setup_of old) raid now result old.shelf s new.shelf (StandOn (setup_of old) new.shelf s) → TurnMakes view raid now result old s new
  turn_on_shelf sprigs s agrees made = record {
    makes = on_lifted view old new shape sprigs (turn_call raid.number (turn_of raid.next) now) (turn_answer result) tt s agrees made.makes;
    all = made.all;
    only = made.only;
    alike = made.alike;
  }

-- the raid that runs, where this one is it
pub runs_next : (raid : RaidView) (book : BookState) → IsNext raid book → raid ≡ record { number = book.number; next = raid.next }
runs_next raid book is = λ i. record { number = is.number i; next = raid.next }

-- a turn at a part isn't the end of the raid
pub done_aside : (next : RaidNext) (part : ℕ) → IsDidOf next Done → turn_part (turn_of next) ≡ Some part → ⊥
done_aside (Mark other) part did named = absurd did
done_aside (Scan block) part did named = absurd did
done_aside (Apply other) part did named = absurd did
done_aside (Drop other) part did named = absurd did
done_aside Finished part did named = let clash : None ≡ Some part = named in absurd cc

-- ---- refusals

-- what a turn that was refused left of the shelf it left of the shard, where the sprigs stayed
pub turn_left : {D : Type 0} (old : ShardView D) (shelf : ShelfView D) (sprigs : List SprigState) → sprigs ≡ old.sprigs → (refusal : RaidRefusal) → turns.TurnLeaves old.shelf shelf refusal
    → TurnLeaves old (record { shelf = shelf; set = old.set; sprigs = sprigs }) refusal
turn_left old shelf sprigs same (Stale number next) left = λ i. record { shelf = left i; set = old.set; sprigs = same i }
turn_left old shelf sprigs same (Damaged block place) left = λ i. record { shelf = left i; set = old.set; sprigs = same i }
turn_left old shelf sprigs same Memory left = λ i. record { shelf = left i; set = old.set; sprigs = same i }
turn_left old shelf sprigs same Fault left = λ i. record { shelf = left i; set = old.set; sprigs = same i }

pub turn_left_by : {D : Type 0} (old : ShardView D) (shelf : ShelfView D) (sprigs : List SprigState) (result : Result RaidDid RaidRefusal)
    → IfErr result (λ refusal. (sprigs ≡ old.sprigs) × turns.TurnLeaves old.shelf shelf refusal) → IfErr result (TurnLeaves old (record { shelf = shelf; set = old.set; sprigs = sprigs }))
turn_left_by old shelf sprigs (Ok did) left = tt
turn_left_by old shelf sprigs (Err refusal) left = turn_left old shelf sprigs left.0 refusal left.1

pub with_kept : {T E : Type 0} (result : Result T E) (P : E → Type 0) (Q : Type 0) → Q → IfErr result P → IfErr result (λ e. Q × P e)
with_kept (Ok did) P Q q is = tt
with_kept (Err refusal) P Q q is = (q, is)

pub with_first : {T E : Type 0} (result : Result T E) (P Q : Type 0) (R : E → Type 0) → (P → Q) → IfErr result (λ e. P × R e) → IfErr result (λ e. Q × R e)
with_first (Ok did) P Q R f is = tt
with_first (Err refusal) P Q R f is = (f is.0, is.1)
