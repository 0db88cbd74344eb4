-- Worked values: covers, ages and orders of entries.
use Rattle.std.proofs.Common.{◌≡◌, ◌^◌, ◌-◌, ℕ, Bool, true, false, [], ◌∷◌, refl}
use Rattle.std.specs.Prelude.{Some, None}
use Rattle.rec_format.specs.declared.version.Kind.{Kind}
use Rattle.rec_format.specs.declared.version.Kind.TheVariants.{Put, Tomb}
use Rattle.rec_format.specs.declared.version.Stamp.{Stamp}
use Rattle.rec_format.specs.declared.entry.Entry.{Entry}
use Rattle.rec_format.specs.Versions.{is_later_stamp}
use Rattle.tomb_rules.specs.Covers.{cover_of, is_eligible_entry}

abbrev entry : Kind → (cover : Bool) → (time : ℕ) → Entry
entry kind cover time = record {
  digest = record { 0 = 7 ∷ [] };
  stamp = record { lut = time; gen_ = 2 };
  void = 0;
  kind = kind;
  cover = cover;
  mark = 0;
  block = 3;
  unit = 0;
  units = 3;
}

abbrev tombstone : (time : ℕ) → Entry
tombstone time = entry Tomb true time

-- a put takes the cover that stands, also a tombstone's
covers : cover_of None ∷ cover_of (Some (entry Put false 1000)) ∷ cover_of (Some (entry Put true 1000)) ∷ cover_of (Some (tombstone 1000)) ∷ [] ≡ false ∷ false ∷ true ∷ true ∷ []
covers = refl

-- a tombstone may go from its age on, in seconds
ages : is_eligible_entry 0 1000 (tombstone 1000) ∷ is_eligible_entry 0 999 (tombstone 1000) ∷ is_eligible_entry 2 3000 (tombstone 1000) ∷ is_eligible_entry 2 2999 (tombstone 1000) ∷ []
    ≡ true ∷ false ∷ true ∷ false ∷ []
ages = refl

-- the last times, and the greatest age of the settings
last_ages : is_eligible_entry 315360000 (2 ^ 61) (tombstone (2 ^ 62)) ∷ is_eligible_entry 315360000 (2 ^ 61) (tombstone (2 ^ 60))
    ∷ is_eligible_entry (2 ^ 64 - 1) (2 ^ 64 - 1) (tombstone (2 ^ 64 - 1)) ∷ []
    ≡ false ∷ true ∷ false ∷ []
last_ages = refl

-- a put's cover may go at any time
covered_puts : is_eligible_entry 315360000 0 (entry Put true 1000) ∷ is_eligible_entry 0 (2 ^ 61) (entry Put false 1000) ∷ [] ≡ true ∷ false ∷ []
covered_puts = refl

abbrev stamp : (time generation : ℕ) → Stamp
stamp time generation = record { lut = time; gen_ = generation }

-- copies are older than that of time 1000 and generation 2 by their time, then by their generation
older : is_later_stamp (stamp 1000 2) (stamp 999 9) ∷ is_later_stamp (stamp 1000 2) (stamp 1000 1) ∷ is_later_stamp (stamp 1000 2) (stamp 1000 2)
    ∷ is_later_stamp (stamp 1000 2) (stamp 1000 3) ∷ is_later_stamp (stamp 1000 2) (stamp 1001 1) ∷ []
    ≡ true ∷ true ∷ false ∷ false ∷ false ∷ []
older = refl
