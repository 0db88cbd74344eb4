-- What a scan found has these counts.
use Rattle.std.proofs.Common.{◌≡◌, ◌+◌, ℕ, Bool, cond, not, List, [], ◌∷◌, length, refl, sym, ◌∙◌, ap, arith}
use Rattle.std.specs.List.{count_by}
use Rattle.std.specs.BTreeMap.{values}
use Rattle.std.proofs.lemmas.List.{length-map}
use Rattle.std.proofs.lemmas.List.Sums.{sum_by-cons}
use Rattle.rec_format.specs.Versions.{is_tomb_kind}
use Rattle.disk_model.specs.Disk.{DiskView}
use Rattle.block_format.specs.declared.geometry.Gate.{Gate}
use Rattle.block_format.specs.declared.geometry.Gate.TheVariants.{Shut, Set, Unsure}
use Rattle.block_format.specs.Copies.{copies_of}
use Rattle.law_start.specs.Start.{cold_copies}
use Rattle.cold_scan.specs.declared.header.Asked.{Asked}
use Rattle.cold_scan.specs.declared.bodies.Kept.{Kept}
use Rattle.cold_scan.specs.declared.device.Finding.{Finding}
use Rattle.cold_scan.specs.Starting.{own_copies}
use Rattle.cold_scan.specs.Found.{is_set, set_blocks, kept_of, IsShaped, FindsOn}
use Rattle.device_check.specs.declared.counts.DeviceCheck.{DeviceCheck}
use Rattle.device_check.specs.Checked.{ChecksOn}
use Rattle.device_check.proofs.Latest.{latest_count}

abbrev set_or_none : Gate → ℕ
set_or_none gate = cond (is_set gate) 1 0

-- as many blocks are open as gates are set
pub set_count : (block : ℕ) (gates : List Gate) → length (set_blocks block gates) ≡ count_by is_set gates
set_count block [] = refl
set_count block (Shut ∷ gates) = omega (arith, set_count (block + 1) gates, sum_by-cons set_or_none Shut gates)
set_count block (Set ∷ gates) = omega (arith, set_count (block + 1) gates, sum_by-cons set_or_none Set gates)
set_count block (Unsure ∷ gates) = omega (arith, set_count (block + 1) gates, sum_by-cons set_or_none Unsure gates)

abbrev pub is_kept_tomb : Kept → Bool
is_kept_tomb k = is_tomb_kind k.head.kind

abbrev pub is_kept_put : Kept → Bool
is_kept_put k = not (is_tomb_kind k.head.kind)

module _ {D : Type 0} (place : Asked) (disk : DiskView) (finding : Finding D) (on : FindsOn place disk finding) (extent : ℕ) (shaped : IsShaped place extent finding.geometry) where
  -- so many of the latest copies pass a test
  found_count : (p : Kept → Bool) → count_by p (values finding.latest) ≡ count_by (λ c. p (kept_of c)) (cold_copies (own_copies place.device place.devices (copies_of on.bodies)))
  found_count p =
      latest_count finding.geometry (copies_of on.bodies) finding.latest on.found.latest p
      ∙ (λ i. count_by (λ c. p (kept_of c)) (cold_copies (own_copies (shaped.device i) (shaped.devices i) (copies_of on.bodies))))

  pub checks_on : (check : DeviceCheck) → check.opened ≡ count_by is_set finding.gates.items → check.copies ≡ finding.copies
      → check.records ≡ count_by is_kept_put (values finding.latest) → check.tombstones ≡ count_by is_kept_tomb (values finding.latest) → ChecksOn place disk check
  checks_on check opened copies records tombstones =
      let opened_are = opened ∙ sym (set_count 0 finding.gates.items) ∙ sym (ap length on.found.opened) ∙ length-map on.bodies (λ b. b.block) in
      let copies_are = copies ∙ on.found.copies in
      let records_are = records ∙ found_count is_kept_put in
      let tombstones_are = tombstones ∙ found_count is_kept_tomb in
      record {
        shape = finding.geometry;
        bodies = on.bodies;
        counts = λ i. record { opened = opened_are i; copies = copies_are i; records = records_are i; tombstones = tombstones_are i };
        passes = on.passes;
      }
