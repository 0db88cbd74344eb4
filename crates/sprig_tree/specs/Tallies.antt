-- How many entries of each kind are in a list, and how such numbers come together.
use Rattle.std.specs.Prelude.{◌≡◌, ◌+◌, ◌-◌, ◌%◌, ◌^◌, Bool, not, ◌&&◌, List, count_by}
use Rattle.rec_format.specs.declared.entry.Entry.{Entry}
use Rattle.rec_format.specs.Versions.{is_tomb_kind}
use Rattle.sprig_tree.specs.declared.tally.Tally.{Tally}
use Rattle.sprig_tree.specs.Entries.{IsInDigestOrder}

abbrev pub is_tomb_entry : Entry → Bool
is_tomb_entry e = is_tomb_kind e.kind

abbrev pub is_put_entry : Entry → Bool
is_put_entry e = not (is_tomb_kind e.kind)

abbrev pub is_covered_entry : Entry → Bool
is_covered_entry e = not (is_tomb_kind e.kind) && e.cover

-- the puts, the tombstones and the covered puts
abbrev pub tally_of : List Entry → Tally
tally_of entries = record {
  records = count_by is_put_entry entries;
  tombstones = count_by is_tomb_entry entries;
  covered = count_by is_covered_entry entries;
}

-- both together, where a sum goes around at 2^64
abbrev pub joined : Tally → Tally → Tally
joined a b = record {
  records = (a.records + b.records) % 2 ^ 64;
  tombstones = (a.tombstones + b.tombstones) % 2 ^ 64;
  covered = (a.covered + b.covered) % 2 ^ 64;
}

-- the first without the second, where a difference goes around below 0
abbrev pub parted : Tally → Tally → Tally
parted a b = record {
  records = (a.records + 2 ^ 64 - b.records) % 2 ^ 64;
  tombstones = (a.tombstones + 2 ^ 64 - b.tombstones) % 2 ^ 64;
  covered = (a.covered + 2 ^ 64 - b.covered) % 2 ^ 64;
}

-- What every sprig keeps: its row is in digest order, and the tally is that of the row.
pub record IsKept (row : List Entry) (tally : Tally) : Type 0 where
  pub sorted : IsInDigestOrder row
  pub tallied : tally ≡ tally_of row
