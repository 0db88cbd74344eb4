-- What each step tells the pass that takes it.
use Rattle.std.specs.Prelude.{◌≡◌, ℕ, ◌+◌, ◌-◌, ◌<◌, ◌≤◌, List, [], ◌∷◌, ◌++◌, length, replicate, Option, Some, None, nat_lt, if◌then◌else◌, true, false}
use mathlib.Core.List.{IsPrefix}
use Rattle.atomic_table.specs.Table.{Me, Step, rest}
use Rattle.turn_table.specs.declared.rule.Entry.{Entry}
use Rattle.turn_table.specs.declared.rule.View.{View}
use Rattle.turn_table.specs.declared.rule.Place.{Place}
use Rattle.turn_table.specs.declared.rule.Place.TheVariants.{Hub, Part}
use Rattle.turn_table.specs.Legal.{IsLegal}
use Rattle.turn_table.specs.Rule.{all_numbers, entry, events, events_by, IsQuietSince}

module _ {E : Type 0} where
  -- the longer of two lists
  abbrev pub longer : List (Entry E) → List (Entry E) → List (Entry E)
  longer xs ys = if nat_lt (length xs) (length ys) then ys else xs

  abbrev pub shorter : List (Entry E) → List (Entry E) → List (Entry E)
  shorter xs ys = if nat_lt (length xs) (length ys) then xs else ys

module _ {E O : Type 0} where
  abbrev pub with_part : ℕ → List (Entry E) → View E O → View E O
  with_part k seen v = record v { seen = seen; part = Some k }

  abbrev pub with_hub : List (Entry E) → View E O → View E O
  with_hub seen v = record v { seen = seen; hub = true }

  abbrev pub without_part : View E O → View E O
  without_part v = record v { part = None }

  abbrev pub without_hub : View E O → View E O
  without_hub v = record v { hub = false }

  -- the view after its own exchange found the slot k out
  abbrev pub with_found_out : ℕ → View E O → View E O
  with_found_out k v = record v { found_out = v.found_out ++ k ∷ [] }

  -- the view after some exchanges of its own that found slots out
  abbrev pub having_found_out : List ℕ → View E O → View E O
  having_found_out found v = record v { found_out = found }

  -- w has found out what v has, and after that the slot k alone, any number of times
  abbrev pub HasWaited : ℕ → View E O → View E O → Type 0
  HasWaited k v w = (times : ℕ) × (w.found_out ≡ v.found_out ++ replicate times k)

  -- the view after it gave the hub with an event
  abbrev pub with_event : E → View E O → View E O
  with_event e v = record v { seen = v.seen ++ entry v.first e ∷ []; mine = v.mine ++ e ∷ []; hub = false }

  -- the view that keeps the first numbers of a range, and the new one, which has the last `share` of them
  abbrev pub first_share : ℕ → View E O → View E O
  first_share share v = record v { own = v.own - share }

  abbrev pub last_share : ℕ → View E O → View E O
  last_share share v = record { opening = v.opening; seen = v.seen; told = []; mine = []; found_out = []; first = v.first + (v.own - share); own = share; joined = 0; part = None; hub = false }

  -- the view that another was joined into
  abbrev pub joined_view : View E O → View E O → View E O
  joined_view v w = record v { seen = longer v.seen w.seen; told = shorter v.seen w.seen; joined = v.joined + w.own + w.joined }

module _ {E O : Type 0} (may_follow : O → List E → E → Type 0) where
  -- What w has seen begins with what v has seen. In it each event may follow those before it, and the events under w's own
  -- number are just those that w entered, each once and in the order of its calls.
  pub record SeesMore (v w : View E O) : Type 0 where
    pub begins : IsPrefix v.seen w.seen
    pub legal : (o : O) → w.opening ≡ Some o → IsLegal may_follow o (events w.seen)
    pub own_events : events_by w.first w.seen ≡ w.mine

module _ {H P E O : Type 0} (hub_fits : O → List E → H → Type 0) (part_fits : O → List E → ℕ → P → Type 0) (may_follow : O → List E → E → Type 0) (part_named : E → Option ℕ) where
  abbrev pub Seated : Type 0
  Seated = Me (Place H P E) (View E O)

  -- The slot k was out, and so there are other passes. No other step adds to what a view has found out.
  abbrev pub WasOut : ℕ → Seated → Seated → Type 0
  WasOut k m m' = (m' ≡ (with_found_out k m.0, m.1)) × (m.0.own + m.0.joined < all_numbers) × SeesMore may_follow m.0 m'.0

  abbrev pub TookPart : ℕ → Seated → Seated → Type 0
  TookPart k m m' = (p : P) × (m'.1 ≡ (k, Part p) ∷ m.1) × (m'.0 ≡ with_part k m'.0.seen m.0) × SeesMore may_follow m.0 m'.0
      × ((o : O) → m.0.opening ≡ Some o → part_fits o (events m'.0.seen) k p)

  abbrev pub TookHub : ℕ → Seated → Seated → Type 0
  TookHub k m m' = (h : H) × (m'.0 ≡ with_hub m'.0.seen m.0) × SeesMore may_follow m.0 m'.0
      × ((said : _) × (m'.1 ≡ (k, Hub h said) ∷ m.1))
      × ((o : O) → m.0.opening ≡ Some o → hub_fits o (events m'.0.seen) h)
      × ((j : ℕ) → m.0.part ≡ Some j → IsQuietSince part_named j m.0.seen m'.0.seen)

  abbrev pub took_part : Step (Place H P E) → Seated → ℕ → Seated → Type 0
  took_part st m r m' = (r ≡ 1 → TookPart st.word m m') × (¬ (r ≡ 1) → WasOut st.word m m')

  abbrev pub took_hub : Step (Place H P E) → Seated → ℕ → Seated → Type 0
  took_hub st m r m' = (r ≡ 1 → TookHub st.word m m') × (¬ (r ≡ 1) → WasOut st.word m m')

  abbrev pub gave_part : Seated → Seated → Type 0
  gave_part m m' = (m' ≡ (without_part m.0, rest m.1)) × SeesMore may_follow m.0 m'.0

  abbrev pub gave_back : Seated → Seated → Type 0
  gave_back m m' = (m' ≡ (without_hub m.0, rest m.1)) × SeesMore may_follow m.0 m'.0

  -- the event is the one that lies with the hub
  abbrev pub gave_with : Seated → Seated → Type 0
  gave_with m m' = (e : E) (h : H) (k : ℕ) (said : _) → m.1 ≡ (k, Hub h said) ∷ rest m.1 → said.value ≡ Some e → (m' ≡ (with_event e m.0, rest m.1)) × SeesMore may_follow m.0 m'.0

  -- nothing changes
  abbrev pub looked : Seated → Seated → Type 0
  looked m m' = (m' ≡ m) × IsPrefix m.0.told m.0.seen × (m.0.own + m.0.joined ≤ all_numbers) × (0 < m.0.own → SeesMore may_follow m.0 m.0)
