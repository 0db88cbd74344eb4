-- Where a digest is in a list of entries, or where it would go.
use Rattle.std.specs.Prelude.{◌≡◌, ℕ, ◌<◌, ◌≤◌, List, length}
use Rattle.std.specs.List.{HoldsAt}
use Rattle.std.specs.List.Sorted.{IsPartitionPoint}
use Rattle.std.specs.declared.cmp.Ordering.TheVariants.{Less, Equal, Greater}
use Rattle.rec_format.specs.declared.version.Digest.{Digest}
use Rattle.rec_format.specs.declared.entry.Entry.{Entry}
use Rattle.rec_format.specs.Places.{digest_cmp}

-- the entry at this place is of the digest
pub record IsPlaceOf (digest : Digest) (entries : List Entry) (at : ℕ) : Type 0 where
  pub in_range : at < length entries
  pub same : HoldsAt (λ e. digest_cmp e.digest digest ≡ Equal) entries at

-- the digests before this place come before the digest, and those from it on after the digest
pub record IsGapFor (digest : Digest) (entries : List Entry) (at : ℕ) : Type 0 where
  pub in_range : at ≤ length entries
  pub parted : IsPartitionPoint (λ e. digest_cmp e.digest digest ≡ Less) (λ e. digest_cmp e.digest digest ≡ Greater) entries at
