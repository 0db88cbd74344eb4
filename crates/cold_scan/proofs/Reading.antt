-- A disk that is read alone, call by call.
use Rattle.std.specs.Prelude.{Result}
use Rattle.std.proofs.Common.{rules, ℕ, List, ◌∙◌, sym, subst, inl, inr}
use Rattle.std.proofs.Math.Nat.{le_trans}
use Rattle.disk_model.specs.Disk.{DiskView, IsCall, meanwhile, IsDisk, Within, TellsSame, IsOnly, IsHonest}
use Rattle.disk_model.specs.Runs.{advances_on}
use Rattle.block_shelf.specs.Disks.{OnlyRead}

-- a sync writes nothing
pub read_synced : {T E : Type 0} (a b : DiskView) (result : Result T E) → TellsSame a b → (IsHonest a → Within a.may_leave (meanwhile a b)) → IsCall a b result → OnlyRead a b
read_synced a b result bytes images call = record {
  time = call.time;
  later = search rules;
  size = call.size;
  bytes = bytes;
  honest = call.honest;
  was_honest = call.was_honest;
  was_told = call.was_told;
  images = images;
}

-- what may be left at the end might have been left before
end_within : (old new : DiskView) → IsDisk new → OnlyRead old new → IsHonest old → Within old.may_leave new.may_leave
end_within old new is reads honest c image = reads.images honest c (is.now_since old.moment c (reads.time.stays old.moment reads.time.started) image)

pub reads_on : (a b c : DiskView) → IsDisk b → OnlyRead a b → OnlyRead b c → OnlyRead a c
reads_on a b c is first then = record {
  time = advances_on _ _ _ first.time then.time;
  later = le_trans first.later then.later;
  size = then.size ∙ first.size;
  bytes = λ told. let one = first.bytes told in let two = then.bytes one.0 in (two.0, two.1 ∙ one.1);
  honest = λ honest. then.honest (first.honest honest);
  was_honest = λ honest. first.was_honest (then.was_honest honest);
  was_told = λ told. first.was_told (then.was_told told);
  images = λ honest image left. elim (then.time.only a.moment image (first.time.stays a.moment first.time.started) left) [
    | inl before ↦ first.images honest image before
    | inr behind ↦ end_within a b is first honest image (then.images (first.honest honest) image behind)
  ];
}

-- a disk that has one image keeps it
pub only_on : (a b : DiskView) → IsDisk b → OnlyRead a b → a.tells → IsOnly a.seen a.may_leave → IsOnly a.seen b.may_leave
only_on a b is reads told only =
    let honest : IsHonest a = record { told = told; image = only.holds } in
    let end = reads.honest honest in
    record {
      holds = subst b.may_leave (reads.bytes told).1 end.image;
      alone = λ c image. only.alone c (end_within a b is reads honest c image);
    }

-- behind a sync that went well
pub only_synced : (disk a b c : DiskView) → IsDisk b → IsDisk c → TellsSame disk a → disk.tells → IsOnly disk.seen a.may_leave → OnlyRead a b → OnlyRead b c → IsOnly disk.seen c.may_leave
only_synced disk a b c is_b is_c same told only first then =
    let synced = same told in
    let one = only_on a b is_b first synced.0 (subst (λ (l : List ℕ). IsOnly l a.may_leave) (sym synced.1) only) in
    let next = first.bytes synced.0 in
    let two = only_on b c is_c then next.0 (subst (λ (l : List ℕ). IsOnly l b.may_leave) (sym next.1) one) in
    subst (λ (l : List ℕ). IsOnly l c.may_leave) (next.1 ∙ synced.1) two
