-- A part and its partition and sprig, as numbers.
use Rattle.std.proofs.Common.{◌≡◌, ℕ, ◌+◌, ◌-◌, ◌*◌, ◌/◌, ◌%◌, ◌<◌, ◌≤◌, ap, ◌∙◌, arith}
use Rattle.std.proofs.Math.Nat.{mul_comm, mul-le-mul_left, mul-div-le}
use Rattle.std.proofs.lemmas.Nat.{mul-add-lt, le-div, div-add-mod', mod-mul-add, div-mul-add, div_below, mod_below, same_from_place}
use Rattle.rec_format.specs.declared.version.Digest.{Digest}
use Rattle.rec_format.specs.Places.{partition_number, sprig_number, part_number_of, part_count}
use Rattle.partition_map.specs.Parts.{NamesOnePart, IsPartAt, AllAreParts}

-- the share of a partition in its device's count of partitions
row_below : (partition devices : ℕ) → 0 < devices → partition < 4096 → partition / devices < (4095 - partition % devices) / devices + 1
row_below partition devices some below =
    let whole = div-add-mod' partition devices in
    let fits : (partition / devices) * devices ≤ 4095 - partition % devices = omega arith in
    let row = le-div (partition / devices) (4095 - partition % devices) devices some fits in
    omega arith

pub part_below : (partition sprig devices sprigs : ℕ) → 0 < devices → partition < 4096 → sprig < sprigs
    → (partition / devices) * sprigs + sprig < ((4095 - partition % devices) / devices + 1) * sprigs
part_below partition sprig devices sprigs some below of =
    let count = (4095 - partition % devices) / devices + 1 in
    let placed = mul-add-lt (partition / devices) sprigs sprig count (row_below partition devices some below) of in
    omega (arith, placed, mul_comm sprigs count)

same_partition : (p q devices : ℕ) → q % devices ≡ p % devices → q / devices ≡ p / devices → q ≡ p
same_partition p q devices column row =
    let one = div-add-mod' p devices in
    let other = div-add-mod' q devices in
    let moved = ap (λ n. n * devices) row in
    omega arith

pub names_one_part : (devices sprigs : ℕ) (digest : Digest) → 0 < sprigs → NamesOnePart devices sprigs digest (part_number_of devices sprigs digest)
names_one_part devices sprigs digest some =
    record {
      same = λ other partition sprig. rw (partition, sprig);
      apart =
          λ other device part.
          let both = same_from_place (partition_number other / devices) (sprig_number sprigs other) (partition_number digest / devices) (sprig_number sprigs digest) sprigs
          (mod_below _ sprigs some) (mod_below _ sprigs some) part in
          (same_partition (partition_number digest) (partition_number other) devices device both.0, both.1);
    }

part_at : (device devices sprigs part : ℕ) → device < devices → devices ≤ 16 → 0 < sprigs → part < ((4095 - device) / devices + 1) * sprigs
    → IsPartAt device devices sprigs part
part_at device devices sprigs part of few some below =
    let row : part / sprigs < (4095 - device) / devices + 1 = div_below part sprigs ((4095 - device) / devices + 1) some below in
    let least : part / sprigs ≤ (4095 - device) / devices = omega arith in
    let scaled = mul-le-mul_left devices least in
    let within = mul-div-le (4095 - device) devices in
    let turned = mul_comm devices (part / sprigs) in
    record {
      partition = (part / sprigs) * devices + device;
      sprig = part % sprigs;
      exists = (omega arith, mod_below part sprigs some);
      dealt = mod-mul-add (part / sprigs) devices device of;
      number = ap (λ n. n * sprigs + part % sprigs) (div-mul-add (part / sprigs) devices device of) ∙ div-add-mod' part sprigs;
    }

pub all_are_parts : (device devices sprigs : ℕ) → device < devices → devices ≤ 16 → 0 < sprigs → AllAreParts device devices sprigs (part_count device devices sprigs)
all_are_parts device devices sprigs of few some = λ part below. part_at device devices sprigs part of few some below
