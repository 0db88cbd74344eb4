-- What a pass that is split off knows, and the chore that gets it.
use Rattle.std.proofs.Common.{◌≡◌, ℕ, ◌+◌, refl, sym, ap, subst, ◌∙◌, arith}
use Rattle.turn_table.specs.Passes.{view, own_count, joined_count}
use Rattle.turn_table.specs.Plays.{first_share, last_share}
use Rattle.live_node.specs.Lives.{Live, LivePass, IsPassAt}
use Rattle.live_chores.specs.Stations.{live_at, pass_at}
use Rattle.live_crew.specs.declared.chore.LiveChore.{LiveChore}
use Rattle.live_crew.specs.Chores.{station_of, place_of, IsAtFirst}
use Rattle.live_crew.specs.Crews.{KnowsNothing, IsNewPass, numbers_of}
use Rattle.live_crew.specs.Dealing.{GivesChore}

-- A pass gave one number to another, which has seen the same and entered nothing.
pub record Splits {D : Type 0} (old new other : LivePass D) : Type 0 where
  pub numbers : (own_count new + 1 ≡ own_count old) × (joined_count new ≡ joined_count old) × (own_count other ≡ 1) × (joined_count other ≡ 0)
  pub views : (view new ≡ first_share 1 (view old)) × (view other ≡ last_share 1 (view old))

module _ {D : Type 0} (old new other : LivePass D) (splits : Splits old new other) where
  pub split_numbers : numbers_of new + numbers_of other ≡ numbers_of old
  split_numbers = let n = splits.numbers in omega arith

  pub split_one : numbers_of other ≡ 1
  split_one = let n = splits.numbers in omega arith

  pub split_kept : IsNewPass old → IsNewPass new
  split_kept knows = subst (KnowsNothing {D = D}) (sym splits.views.0) (record { seen = knows.seen; mine = knows.mine })

  pub split_new : IsNewPass old → IsNewPass other
  split_new knows = subst (KnowsNothing {D = D}) (sym splits.views.1) (record { seen = knows.seen; mine = refl })

  -- a chore with the other one
  pub gives_chore : {R : Type 0} (live : Live D) (place : ℕ) (chore : LiveChore R D) → IsNewPass old → IsPassAt live new → live_at (station_of chore) ≡ live → pass_at (station_of chore) ≡ other
      → place_of chore ≡ place → IsAtFirst chore → GivesChore live old new place chore
  gives_chore live place chore knows at live_is pass_is is_place first = record {
    seated = at;
    numbers = (let n = splits.numbers in omega arith, splits.numbers.1);
    kept = split_kept knows;
    at = live_is;
    is_place = is_place;
    first = first;
    one = ap numbers_of pass_is ∙ split_one;
    new = subst (IsNewPass {D = D}) (sym pass_is) (split_new knows);
  }
