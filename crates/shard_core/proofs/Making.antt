-- A shelf that goes by an event's steps makes the event.
use Rattle.std.proofs.Common.{◌≡◌, ℕ, ◌<◌, ◌≤◌, false, List, length, set, get_or, refl, sym, ◌∙◌, ap, subst}
use Rattle.std.specs.Prelude.{Some, None, slice_get}
use Rattle.std.specs.List.{AllByRecursion}
use Rattle.std.proofs.lemmas.Option.{slice_get_read}
use Rattle.law_lists.proofs.Each.{all_get, all_set}
use Rattle.model_device.specs.Book.{Setup}
use Rattle.model_device.specs.Device.{State, part_of}
use Rattle.model_device.specs.Events.{Call, Answer, after_event}
use Rattle.model_device.specs.Passes.{part_named}
use Rattle.sprig_tree.specs.State.{SprigState}
use Rattle.law_sprig.specs.Parts.{FitsParts, NamesOwn}
use Rattle.law_sprig.proofs.Device.{own_stay, parts_fit_on, parts_become}
use Rattle.shard_core.proofs.Each.{set_same}
use Rattle.disk_model.specs.Disk.{DiskView}
use Rattle.block_shelf.specs.View.{IsSetupOf, IsShelf, ShelfView}
use Rattle.rec_format.specs.Places.{device_number}
use Rattle.rec_format.specs.Versions.{block_capacity}
use Rattle.block_format.specs.Layout.{most_records}
use Rattle.block_format.specs.declared.geometry.Geometry.{Geometry}
use Rattle.shard_core.specs.declared.settings.Settings.{Settings}
use Rattle.shard_core.specs.View.{ShardView, IsSettings, IsSetupBy, SameSetup, limits_of, setup_for, setup_of}
use Rattle.shard_core.specs.Sprigs.{AreSame, entry_in, held}
use Rattle.law_steps.specs.Sprigs.{HasTimes, SameSprig}
use Rattle.sprig_tree.specs.Entries.{entry_of}
use Rattle.rec_format.specs.declared.version.Digest.{Digest}
use Rattle.shard_core.specs.Stands.{Agrees, IsWhole}
use Rattle.law_steps.specs.Standing.{ShelfStands, StandTogether}
use Rattle.shard_core.specs.Calls.{Makes}
use Rattle.shard_core.specs.Keeping.{KeepsFew}
use Rattle.law_steps.specs.Events.{MakesEvent, StepMakes}
use Rattle.shard_raid.specs.Raids.{StandOn}
use Rattle.block_shelf.specs.declared.place.ShelfLimits.{ShelfLimits}

-- ---- the shard's setup

pub setup_fits : {D : Type 0} (shelf : ShelfView D) (set : Settings) → shelf.limits ≡ limits_of set → IsSetupOf (setup_for shelf.geometry set) shelf
setup_fits shelf set limits = record {
  shape = record { capacity = refl; blocks = refl; device = refl; devices = refl };
  pending = sym (ap (λ (l : ShelfLimits). l.pending) limits);
  lwm = sym (ap (λ (l : ShelfLimits). l.lwm) limits);
  cache = sym (ap (λ (l : ShelfLimits). l.cache) limits);
  sprigs = sym (ap (λ (l : ShelfLimits). l.sprigs) limits);
}

pub setup_by : {D : Type 0} (shelf : ShelfView D) (set : Settings) → shelf.limits ≡ limits_of set → IsSetupBy set (setup_for shelf.geometry set) shelf
setup_by shelf set limits = record { of_shelf = setup_fits shelf set limits; commit = refl; raid_age = refl }

-- a digest of the shelf's device is one of the setup's
pub own_of : {D : Type 0} (setup : Setup) (shelf : ShelfView D) → IsSetupOf setup shelf → (digest : Digest) → device_number shelf.geometry.devices digest ≡ shelf.geometry.device
    → device_number setup.devices digest ≡ setup.device
own_of setup shelf is digest own = ap (λ (n : ℕ). device_number n digest) is.shape.devices ∙ own ∙ sym is.shape.device

pub setup_is : {D : Type 0} (shard : ShardView D) → IsWhole shard → IsSetupOf (setup_of shard) shard.shelf
setup_is shard whole = setup_fits shard.shelf shard.set whole.limits

-- no more is kept than the setup says
pub keeps_few : {D : Type 0} (view : D → DiskView) (shard : ShardView D) → IsWhole shard → IsShelf view shard.shelf → KeepsFew shard
keeps_few view shard whole is =
    let limit = is.cache.limit ∙ sym (setup_is shard whole).cache in
    record { limit = limit; few = subst (λ (n : ℕ). length shard.shelf.cache.kept ≤ n) limit is.cache.list.few }

pub setup_same : {D : Type 0} (old new : ShardView D) → SameSetup old new → setup_of old ≡ setup_of new
setup_same old new shape = ap (λ (g : Geometry). setup_for g old.set) (sym shape.geometry) ∙ ap (λ (set : Settings). setup_for new.shelf.geometry set) (sym shape.set)

-- the list has room still
pub room_stays : {D : Type 0} (old new : ShardView D) → SameSetup old new → (room : ℕ) → most_records (block_capacity old.shelf.geometry.block_size) ≤ room
    → most_records (block_capacity new.shelf.geometry.block_size) ≤ room
room_stays old new shape room is = subst (λ (g : Geometry). most_records (block_capacity g.block_size) ≤ room) (sym shape.geometry) is

-- ---- a shard

pub shelf_over : {D : Type 0} (old new : ShardView D) → SameSetup old new → (s : State) → ShelfStands (setup_of old) new.shelf s → ShelfStands (setup_of new) new.shelf s
shelf_over old new shape s stands = subst (λ (x : Setup). ShelfStands x new.shelf s) (setup_same old new shape) stands

-- A shard of which a call was made is one.
pub whole_made : {D : Type 0} (view : D → DiskView) (call : Call) (answer : Answer) (old new : ShardView D) → IsWhole old → SameSetup old new → new.shelf.limits ≡ old.shelf.limits
    → (s : State) → Makes view call answer old s new → IsWhole new
whole_made view call answer old new whole shape limits s made = record {
  settings = subst IsSettings (sym shape.set) whole.settings;
  limits = limits ∙ whole.limits ∙ ap limits_of (sym shape.set);
  stands = (after_event (setup_of old) made.event s, made.stands);
}

-- A step over the sprig of a part, which stands at this place, and the shelf is a call of the shard.
module _ {D : Type 0} (view : D → DiskView) (part : ℕ) (old new : ShardView D) (k : ℕ) (before after : SprigState) (shape : SameSetup old new) (place : k ≡ part) (there : k < length old.sprigs)
    (at : before ≡ get_or old.sprigs k before) (becomes : new.sprigs ≡ set old.sprigs k after) where
  pub part_at : slice_get old.sprigs part ≡ Some before
  part_at = subst (λ (n : ℕ). slice_get old.sprigs n ≡ Some before) place (slice_get_read old.sprigs (length old.sprigs) k before refl there at)

  -- where the shard stands for a state, so do the sprig and the shelf
  pub part_stands : (s : State) → Agrees old s → StandTogether (setup_of old) part before old.shelf s
  part_stands s agrees = record {
    sprig_stands = record { fits = agrees.sprigs.each part before part_at; times = all_get HasTimes old.sprigs part before agrees.times part_at };
    shelf_stands = agrees.shelf;
  }

  abbrev pub part_lifted : (call : Call) (answer : Answer) → NamesOwn (setup_of old) call → part_named (setup_of old) call ≡ Some part → (s : State) → Agrees old s
      → StepMakes view (setup_of old) part call answer old.shelf s after new.shelf → Makes view call answer old s new
  part_lifted call answer names named s agrees made =
      let behind = after_event (setup_of old) made.event s in
      record {
        event = made.event;
        is_call = made.is_call;
        is_answer = made.is_answer;
        follows = made.follows;
        told = made.told;
        left = made.left;
        counted = made.counted;
        stands = record {
          sprigs = subst (λ (x : Setup). FitsParts x new.sprigs behind) (setup_same old new shape) (subst (λ (l : List SprigState). FitsParts (setup_of old) l behind) (sym becomes)
              (subst (λ (n : ℕ). FitsParts (setup_of old) (set old.sprigs n after) behind) (sym place)
              (parts_become (setup_of old) false s made.event old.sprigs made.follows.allowed (subst (NamesOwn (setup_of old)) (sym made.is_call) names) agrees.sprigs part after
              (ap (part_named (setup_of old)) made.is_call ∙ named) made.stands.sprig_stands.fits)));
          times = subst (AllByRecursion HasTimes) (sym becomes) (all_set HasTimes old.sprigs k after agrees.times made.stands.sprig_stands.times);
          shelf = shelf_over old new shape behind made.stands.shelf_stands;
        };
        placed = made.placed;
        safe = made.safe;
        leaves = made.leaves;
      }

-- So is one over the sprig of a digest's part.
module _ {D : Type 0} (view : D → DiskView) (digest : Digest) (old new : ShardView D) (k : ℕ) (before after : SprigState) (shape : SameSetup old new)
    (place : k ≡ part_of (setup_of old) digest) (there : k < length old.sprigs)
    (at : before ≡ get_or old.sprigs k before) (becomes : new.sprigs ≡ set old.sprigs k after) where
  abbrev pub part : ℕ
  part = part_of (setup_of old) digest

  pub held_at : held (setup_of old) digest old.sprigs ≡ entry_of digest before.entries
  held_at = ap (entry_in digest) (part_at view part old new k before after shape place there at becomes)

  pub step_stands : (s : State) → Agrees old s → StandTogether (setup_of old) part before old.shelf s
  step_stands s agrees = part_stands view part old new k before after shape place there at becomes s agrees

  pub sprigs_same : SameSprig before after → AreSame old.sprigs new.sprigs
  sprigs_same same = subst (AreSame old.sprigs) (sym becomes) (set_same old.sprigs k before after (slice_get_read old.sprigs (length old.sprigs) k before refl there at) same)

  pub lifted : (call : Call) (answer : Answer) → NamesOwn (setup_of old) call → part_named (setup_of old) call ≡ Some part → (s : State) → Agrees old s
      → StepMakes view (setup_of old) part call answer old.shelf s after new.shelf → Makes view call answer old s new
  lifted call answer names named s agrees made = part_lifted view part old new k before after shape place there at becomes call answer names named s agrees made

-- What the shelf alone makes of itself is a call of the shard that names no part.
pub shelf_lifted : {D : Type 0} (view : D → DiskView) (old new : ShardView D) → SameSetup old new → new.sprigs ≡ old.sprigs → (call : Call) (answer : Answer)
    → NamesOwn (setup_of old) call → part_named (setup_of old) call ≡ None
    → (s : State) → Agrees old s → MakesEvent view (setup_of old) call answer old.shelf s new.shelf (ShelfStands (setup_of old) new.shelf) → Makes view call answer old s new
shelf_lifted view old new shape sprigs call answer names named s agrees made = record {
  event = made.event;
  is_call = made.is_call;
  is_answer = made.is_answer;
  follows = made.follows;
  told = made.told;
  left = made.left;
  counted = made.counted;
  stands = record {
    sprigs = subst (λ (x : Setup). FitsParts x new.sprigs behind) (setup_same old new shape) (subst (λ (l : List SprigState). FitsParts (setup_of old) l behind) (sym sprigs)
        (parts_fit_on (setup_of old) false s made.event old.sprigs made.follows.allowed (subst (NamesOwn (setup_of old)) (sym made.is_call) names) agrees.sprigs
        (ap (part_named (setup_of old)) made.is_call ∙ named)));
    times = subst (AllByRecursion HasTimes) (sym sprigs) agrees.times;
    shelf = shelf_over old new shape behind made.stands;
  };
  placed = made.placed;
  safe = made.safe;
  leaves = made.leaves;
}
  where
    behind : State
    behind = after_event (setup_of old) made.event s

-- So is what it makes where each sprig that stood stands on.
abbrev pub on_lifted : {D : Type 0} (view : D → DiskView) (old new : ShardView D) → SameSetup old new → new.sprigs ≡ old.sprigs → (call : Call) (answer : Answer) → NamesOwn (setup_of old) call
    → (s : State) → Agrees old s → MakesEvent view (setup_of old) call answer old.shelf s new.shelf (StandOn (setup_of old) new.shelf s) → Makes view call answer old s new
on_lifted view old new shape sprigs call answer names s agrees made =
    let behind = after_event (setup_of old) made.event s in
    record {
      event = made.event;
      is_call = made.is_call;
      is_answer = made.is_answer;
      follows = made.follows;
      told = made.told;
      left = made.left;
      counted = made.counted;
      stands = record {
        sprigs = subst (λ (x : Setup). FitsParts x new.sprigs behind) (setup_same old new shape) (subst (λ (l : List SprigState). FitsParts (setup_of old) l behind) (sym sprigs) (record {
          count = agrees.sprigs.count;
          each = λ part sprig at.
              (made.stands.sprigs part sprig (record { fits = agrees.sprigs.each part sprig at; times = all_get HasTimes old.sprigs part sprig agrees.times at })).fits;
          own = own_stay (setup_of old) false s made.event (subst (NamesOwn (setup_of old)) (sym made.is_call) names) made.follows.allowed agrees.sprigs.own;
        }));
        times = subst (AllByRecursion HasTimes) (sym sprigs) agrees.times;
        shelf = shelf_over old new shape behind made.stands.shelf_stands;
      };
      placed = made.placed;
      safe = made.safe;
      leaves = made.leaves;
    }
