-- The rule of a table.
-- Each slot is at home, with the list that was kept with it, or out to one view. One list of events is the longest: the hub's.
-- The rule says nothing of a value in a pass's hands, nor of what a view has found out: the first is promised by the step that
-- takes it and asked by the step that gives it back, the second told by the step that found it.
use Rattle.std.specs.Prelude.{◌≡◌, ℕ, suc, ◌+◌, ◌^◌, ◌<◌, ◌≤◌, ◌==◌, ◌⊎◌, true, false, List, [], ◌∷◌, ◌++◌, map, length, Option, Some, None, slice_index_or, if◌then◌else◌}
use mathlib.Core.Option.{some, none}
use mathlib.Core.Option as maybe
use mathlib.Core.List.{IsPrefix}
use lib.ListN.{get_elem?}
use Rattle.atomic_table.specs.Table.{State}
use Rattle.turn_table.specs.declared.rule.Entry.{Entry}
use Rattle.turn_table.specs.declared.rule.View.{View}
use Rattle.turn_table.specs.declared.rule.Place.{Place}
use Rattle.turn_table.specs.declared.rule.Place.TheVariants.{Hub, Part, Away}
use Rattle.turn_table.specs.Legal.{IsLegal}

-- how many pass numbers there are
abbrev pub all_numbers : ℕ
all_numbers = 2 ^ 62

module _ {E : Type 0} where
  abbrev pub entry : ℕ → E → Entry E
  entry by e = record { by = by; event = e }

  -- the events of a list of entries
  abbrev pub events : List (Entry E) → List E
  events log = map (λ (x : Entry E). x.event) log

  -- the events of one pass number, in their order
  abbrev pub events_by : ℕ → List (Entry E) → List E
  events_by p [] = []
  events_by p (x ∷ xs) = if x.by == p then x.event ∷ events_by p xs else events_by p xs

  -- of the pass numbers from `first` on, `own` in all, the entries have the first alone
  abbrev pub IsFirstOnly : ℕ → ℕ → List (Entry E) → Type 0
  IsFirstOnly first own [] = Unit {0}
  IsFirstOnly first own (x ∷ xs) = (first ≤ x.by → x.by < first + own → x.by ≡ first) × IsFirstOnly first own xs

module _ {E : Type 0} (part_named : E → Option ℕ) (k : ℕ) where
  -- no entry names the part k
  abbrev pub IsSilent : List (Entry E) → Type 0
  IsSilent [] = Unit {0}
  IsSilent (x ∷ xs) = (¬ (part_named x.event ≡ Some k)) × IsSilent xs

  -- the list begins with `early`, and no entry after that names the part k
  abbrev pub IsQuietSince : List (Entry E) → List (Entry E) → Type 0
  IsQuietSince early log = (later : List (Entry E)) × ((early ++ later ≡ log) × IsSilent later)

-- a slot is at home, with the list that was kept with it, or out to the view of this index
pub data Where (E : Type 0) : Type 0 where
  home : List (Entry E) → Where E
  out : ℕ → Where E

module _ {E O : Type 0} where
  -- the view of the first pass
  abbrev pub newcomer : O → View E O
  newcomer o = record { opening = Some o; seen = []; told = []; mine = []; found_out = []; first = 0; own = all_numbers; joined = 0; part = None; hub = false }

  -- the view of a pass that was joined into another
  abbrev pub nobody : View E O
  nobody = record { opening = None; seen = []; told = []; mine = []; found_out = []; first = 0; own = 0; joined = 0; part = None; hub = false }

  -- the view has taken the slot k, and the hub's slot is the last of n
  abbrev pub HasTaken : ℕ → ℕ → View E O → Type 0
  HasTaken n k v = ((v.part ≡ Some k) × (suc k < n)) ⊎ ((v.hub ≡ true) × (suc k ≡ n))

  abbrev pub numbers_in : List (View E O) → ℕ
  numbers_in [] = 0
  numbers_in (v ∷ vs) = v.own + v.joined + numbers_in vs

  abbrev pub AreApart : View E O → View E O → Type 0
  AreApart v w = (v.first + v.own ≤ w.first) ⊎ (w.first + w.own ≤ v.first)

module _ {H P E O : Type 0} (hub_fits : O → List E → H → Type 0) (part_fits : O → List E → ℕ → P → Type 0) (may_follow : O → List E → E → Type 0) (part_named : E → Option ℕ) (o : O) where
  module _ (n : ℕ) (log : List (Entry E)) where
    -- what lies in the slot k at home, where the list `kept` was kept with it
    abbrev pub IsAtHome : ℕ → List (Entry E) → Place H P E → Type 0
    IsAtHome k kept (Hub h said) = (suc k ≡ n) × hub_fits o (events log) h
    IsAtHome k kept (Part p) = (suc k < n) × part_fits o (events kept) k p × IsQuietSince part_named k kept log
    IsAtHome k kept Away = ⊥

    module _ (words : List ℕ) (homes : List (maybe.Option (Place H P E))) (views : List (View E O)) where
      abbrev pub IsPlaced : ℕ → Where E → Type 0
      IsPlaced k (home kept) = (slice_index_or words k 0 ≡ 1) × ((y : Place H P E) × ((get_elem? homes k ≡ some (some y)) × IsAtHome k kept y))
      IsPlaced k (out j) = (slice_index_or words k 0 ≡ 0) × ((v : View E O) × ((get_elem? views j ≡ some v) × HasTaken n k v))

    -- what holds of the view j
    pub record IsTrueView (place : ℕ → Where E) (j : ℕ) (v : View E O) : Type 0 where
      pub begins : IsPrefix v.seen log
      pub told : IsPrefix v.told v.seen
      pub opened : 0 < v.own → v.opening ≡ Some o
      pub entered : 0 < v.own → events_by v.first log ≡ v.mine
      pub has_seen : 0 < v.own → events_by v.first v.seen ≡ v.mine
      pub numbered : IsFirstOnly v.first v.own log
      pub holds : (k : ℕ) → HasTaken n k v → (place k ≡ out j) × (0 < v.own)
      pub quiet : (k : ℕ) → v.part ≡ Some k → (suc k < n) × IsQuietSince part_named k v.seen log
      pub whole : v.hub ≡ true → v.seen ≡ log

  pub record IsKept (s : State (Place H P E) (View E O)) : Type 0 where
    pub log : List (Entry E)
    pub place : ℕ → Where E
    pub some_slot : 0 < length s.homes
    pub wide : length s.words ≡ length s.homes
    pub legal : IsLegal may_follow o (events log)
    pub placed : (k : ℕ) → k < length s.homes → IsPlaced (length s.homes) log s.words s.homes s.views k (place k)
    pub true_view : (j : ℕ) (v : View E O) → get_elem? s.views j ≡ some v → IsTrueView (length s.homes) log place j v
    pub apart : (i j : ℕ) (v w : View E O) → ¬ (i ≡ j) → get_elem? s.views i ≡ some v → get_elem? s.views j ≡ some w → AreApart v w
    pub all_there : numbers_in s.views ≡ all_numbers
    pub seen_whole : (j : ℕ) × ((v : View E O) × ((get_elem? s.views j ≡ some v) × (0 < v.own) × (v.seen ≡ log)))
