-- What a scan finds of the records that may be in a block: those of the device and nothing else, each with its part.
use Rattle.std.proofs.Common.{◌≡◌, ◌<◌, ◌+◌, ◌-◌, ◌*◌, ◌/◌, ◌⊎◌, inl, inr, ℕ, Bool, true, false, List, [], ◌∷◌, map, cond, refl, sym, ◌∙◌, ap, subst, arith, Option, None, Some}
use Rattle.std.specs.Prelude.{Contains, ◌==◌}
use Rattle.std.specs.List.{AllByRecursion}
use Rattle.std.proofs.lemmas.Bool.{eq-eqb, eqb-true, false≢true}
use Rattle.std.proofs.lemmas.Nat.{mod_below}
use Rattle.law_lists.proofs.Members.{cons_cases, first_there, rest_there, map_there, map_from, filter_there, filter_from}
use Rattle.rec_format.specs.declared.version.Digest.{Digest}
use Rattle.rec_format.specs.declared.version.Head.{Head}
use Rattle.rec_format.specs.declared.version.Stamp.{Stamp}
use Rattle.rec_format.specs.declared.version.Version.{Version}
use Rattle.rec_format.specs.Places.{device_number, partition_number, sprig_number, part_number_of, part_count}
use Rattle.rec_format.specs.RecordText.{head_of}
use Rattle.rec_format.specs.Versions.{version_units}
use Rattle.model_device.specs.Book.{Setup}
use Rattle.model_device.specs.Device.{State, entry, history, stamp_of}
use Rattle.model_device.specs.Steps.{is_older_than}
use Rattle.block_format.specs.declared.geometry.Geometry.{Geometry}
use Rattle.block_format.specs.declared.geometry.Found.{Found}
use Rattle.block_format.specs.Readings.{found_from}
use Rattle.law_start.specs.Sound.{IsShapeOf}
use Rattle.law_facts.specs.Facts.{Possible, HasFacts}
use Rattle.law_facts.specs.Asking.{FindsPossible}
use Rattle.law_facts.proofs.Guarded.{top_is}
use Rattle.law_images.specs.Scans.{FindsAmong}
use Rattle.partition_map.proofs.PartLaws.{part_below}
use Rattle.raid_book.specs.Raids.{found_copies}
use Rattle.block_shelf.specs.Scans.{own_found}

-- the heads of records

has_head : (unit : ℕ) (records : List (Digest × Version)) (r : Digest × Version) → Contains records r → (f : Found) × Contains (found_from unit records) f × (f.head ≡ head_of r.0 r.1)
has_head unit [] r there = absurd (omega (arith, there.1))
has_head unit (x ∷ records) r there = by (cons_cases x records r there) (has_head (unit + version_units x.1) records r)
  where
    by : (x ≡ r) ⊎ Contains records r → (Contains records r → (f : Found) × Contains (found_from (unit + version_units x.1) records) f × (f.head ≡ head_of r.0 r.1))
        → (f : Found) × Contains (found_from unit (x ∷ records)) f × (f.head ≡ head_of r.0 r.1)
    by (inl same) rest = (_, first_there _ (found_from (unit + version_units x.1) records), ap (λ (y : Digest × Version). head_of y.0 y.1) same)
    by (inr more) rest = let is = rest more in (is.0, rest_there _ (found_from (unit + version_units x.1) records) is.0 is.1, is.2)

-- a digest with an entry is of the device
own_entry : (setup : Setup) (s : State) (possible : Possible) → HasFacts setup s possible → (digest : Digest) (stamp : Stamp) → is_older_than (stamp_of (entry s digest)) stamp ≡ true
    → device_number setup.devices digest ≡ setup.device
own_entry setup s possible facts digest stamp older = by (entry s digest) refl older
  where
    by : (top : Option Version) → entry s digest ≡ top → is_older_than (stamp_of top) stamp ≡ true → device_number setup.devices digest ≡ setup.device
    by None is older = absurd (false≢true older)
    by (Some v) is older = facts.own digest v (top_is (history s digest) v (facts.guarded digest).falling is).there

-- of what may be in a block that is found which may be older than a marked entry
pub own_finds : (setup : Setup) (g : Geometry) (s : State) (possible : Possible) (records : List (Digest × Version)) (found : List Found) → IsShapeOf setup g → HasFacts setup s possible
    → found ≡ found_from 0 records
    → FindsAmong s records (found_copies (own_found g found))
own_finds setup g s possible records found shape facts is r there marked older =
    let one = has_head 0 records r there in
    let name : one.0.head.digest ≡ r.0 = ap (λ h. h.digest) one.2 in
    let own : device_number g.devices one.0.head.digest ≡ g.device =
    ap (device_number g.devices) name ∙ ap (λ (n : ℕ). device_number n r.0) (sym shape.devices) ∙ own_entry setup s possible facts r.0 r.1.stamp older ∙ shape.device in
    let in_own : Contains (own_found g found) one.0 =
    filter_there (λ (f : Found). device_number g.devices f.head.digest == g.device) found one.0 (eq-eqb (device_number g.devices one.0.head.digest) g.device own)
    (subst (λ (l : List Found). Contains l one.0) (sym is) one.1) in
    subst (Contains (found_copies (own_found g found))) (ap (λ h. (h.digest, h.stamp)) one.2) (map_there (λ (f : Found). (f.head.digest, f.head.stamp)) (own_found g found) one.0 in_own)

head_from : (unit : ℕ) (records : List (Digest × Version)) (f : Found) → Contains (found_from unit records) f → (r : Digest × Version) × Contains records r × (f.head ≡ head_of r.0 r.1)
head_from unit [] f there = absurd (omega (arith, there.1))
head_from unit (x ∷ records) f there = by (cons_cases first (found_from (unit + version_units x.1) records) f there) (head_from (unit + version_units x.1) records f)
  where
    first : Found
    first = record { head = head_of x.0 x.1; unit = unit; units = version_units x.1 }

    by : (first ≡ f) ⊎ Contains (found_from (unit + version_units x.1) records) f
        → (Contains (found_from (unit + version_units x.1) records) f → (r : Digest × Version) × Contains records r × (f.head ≡ head_of r.0 r.1))
        → (r : Digest × Version) × Contains (x ∷ records) r × (f.head ≡ head_of r.0 r.1)
    by (inl same) rest = (x, first_there x records, ap (λ (y : Found). y.head) (sym same))
    by (inr more) rest = let is = rest more in (is.0, rest_there x records is.0 is.1, is.2)

-- of what is possible in a block nothing else is found
pub own_only : (g : Geometry) (possible : Possible) (block : ℕ) (records : List (Digest × Version)) (found : List Found) → found ≡ found_from 0 records
    → ((r : Digest × Version) → Contains records r → possible block r.0 r.1)
    → FindsPossible possible block (found_copies (own_found g found))
own_only g possible block records found found_is only digest stamp there =
    let f = map_from key (own_found g found) (digest, stamp) there in
    let r = head_from 0 records f.0 (subst (λ (l : List Found). Contains l f.0) found_is (filter_from (λ (x : Found). device_number g.devices x.head.digest == g.device) found f.0 f.1).0) in (
      r.0.1,
      subst (λ (d : Digest). possible block d r.0.1) (ap (λ (h : Head). h.digest) (sym r.2) ∙ ap (λ (c : Digest × Stamp). c.0) f.2) (only r.0 r.1),
      ap (λ (h : Head). h.stamp) (sym r.2) ∙ ap (λ (c : Digest × Stamp). c.1) f.2,
    )
  where
    key : Found → Digest × Stamp
    key x = (x.head.digest, x.head.stamp)

-- each is of a part of the device
pub parts_below : (g : Geometry) (sprigs : ℕ) (found : List Found) → 0 < g.devices → 0 < sprigs
    → AllByRecursion (λ p. p < part_count g.device g.devices sprigs) (map (λ f. part_number_of g.devices sprigs f.head.digest) (own_found g found))
parts_below g sprigs [] some_devices some_sprigs = tt
parts_below g sprigs (f ∷ found) some_devices some_sprigs = by (device_number g.devices f.head.digest == g.device) refl (parts_below g sprigs found some_devices some_sprigs)
  where
    part : Found → ℕ
    part x = part_number_of g.devices sprigs x.head.digest

    below : device_number g.devices f.head.digest ≡ g.device → part f < part_count g.device g.devices sprigs
    below own = subst (λ (n : ℕ). part f < ((4095 - n) / g.devices + 1) * sprigs) own
        (part_below (partition_number f.head.digest) (sprig_number sprigs f.head.digest) g.devices sprigs some_devices (mod_below _ 4096 (omega arith)) (mod_below _ sprigs some_sprigs))

    by : (t : Bool) → (device_number g.devices f.head.digest == g.device) ≡ t → AllByRecursion (λ p. p < part_count g.device g.devices sprigs) (map part (own_found g found))
        → AllByRecursion (λ p. p < part_count g.device g.devices sprigs) (map part (cond t (f ∷ own_found g found) (own_found g found)))
    by true own rest = (below (eqb-true (device_number g.devices f.head.digest) g.device own), rest)
    by false own rest = rest
