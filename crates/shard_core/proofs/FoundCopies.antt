-- The latest copies that a start found are those of the entries of the sprigs, and the live ones of a shelf.
use Rattle.std.proofs.Common.{◌≡◌, inl, inr, ℕ, ◌+◌, ◌<◌, ◌≤◌, Bool, true, false, not, cond, List, [], ◌∷◌, length, take, refl, sym, ◌∙◌, ap, subst, arith}
use Rattle.std.proofs.lemmas.Bool.{both_ways, eq-eqb, eqb-true, cond-true}
use Rattle.std.proofs.lemmas.Option.{slice_get_within, slice_get_cases}
use Rattle.std.specs.Prelude.{Option, Some, None, Contains, option_map, slice_get, get_or, ◌==◌, ◌⊎◌}
use Rattle.std.specs.List.{AllByRecursion, list_any, range_with_len}
use Rattle.std.proofs.lemmas.List.Elements.{filter_agree}
use Rattle.std.specs.Cmp.{both_ways as same_tests}
use Rattle.law_lists.proofs.Each.{all_map, all_at, all_from}
use Rattle.law_lists.proofs.Finding.{any_there, some_at, find_there}
use Rattle.law_lists.proofs.Members.{first_there, rest_there, map_there, map_from, filter_from, filter_map_from}
use Rattle.rec_format.specs.declared.version.Digest.{Digest}
use Rattle.rec_format.specs.declared.entry.Entry.{Entry}
use Rattle.rec_format.specs.Places.{same_digest, device_number}
use Rattle.rec_format.specs.Versions.{units_for, version_units}
use Rattle.rec_format.proofs.Laws.{same_digest_is, same_digest_refl}
use Rattle.model_device.specs.Book.{Setup}
use Rattle.model_device.specs.Device.{part_of}
use Rattle.model_device.specs.Steps.{part_total}
use Rattle.disk_model.specs.Bytes.{Apart}
use Rattle.block_format.specs.declared.geometry.Geometry.{Geometry}
use Rattle.block_format.specs.declared.geometry.Gate.{Gate}
use Rattle.block_format.specs.declared.geometry.Gate.TheVariants.{Set}
use Rattle.block_format.specs.Layout.{Body}
use Rattle.block_format.specs.Copies.{Copy, copies_of, cold_copy, entry_for}
use Rattle.law_start.specs.Start.{start_state, cold_copies, names_of_copies, greatest_number}
use Rattle.law_start.specs.Sound.{IsSound, NoStrays}
use Rattle.law_start.proofs.StartLive.{found_first, found_among}
use Rattle.sprig_tree.specs.State.{SprigState}
use Rattle.sprig_tree.proofs.Laws.{entry_of-digest}
use Rattle.law_sprig.specs.Parts.{FitsParts}
use Rattle.law_sprig.specs.Starting.{HasLatest}
use Rattle.law_sprig.proofs.Counting.{part_exists}
use Rattle.law_sprig.proofs.Finding.{latest_found}
use Rattle.law_sprig.proofs.Ordered.{each_entry}
use Rattle.law_sprig.proofs.Starting.{chosen_there, start_parts, entries_parts}
use Rattle.block_shelf.specs.declared.place.Place.{Place}
use Rattle.block_shelf.specs.View.{AreApart}
use Rattle.block_shelf.specs.Starting.{LiesIn, AreTwo, AreEachTwo, CanBeLive, AreLive, blocks_without, place_of_copy}
use Rattle.shard_core.specs.declared.settings.Settings.{Settings}
use Rattle.shard_core.specs.declared.index.Finding.{Finding}
use Rattle.shard_core.specs.Sprigs.{entry_in, held, all_entries}
use Rattle.law_steps.specs.Sprigs.{place_of, HasTimes}
use Rattle.shard_core.specs.View.{setup_for}
use Rattle.cold_scan.specs.Starting.{own_copies}
use Rattle.shard_core.specs.Starting.{blocks_behind}
use Rattle.cold_scan.specs.Found.{found_state}
use Rattle.cold_scan.specs.Found.{LiesBehind}
use Rattle.shard_core.specs.Finding.{IsFinding, live_places, latest_copies}
use Rattle.shard_core.proofs.FoundOnce.{found_once}
use Rattle.shard_core.proofs.FoundEntries.{HaveOwnDigests, each_sprig, each_among, held_there, own_digests}
use Rattle.shard_core.proofs.Showing.{sound_own}
use Rattle.shard_core.proofs.Opened.{opened_apart}
use Rattle.shard_core.proofs.CopyPlaces.{AreOneOrApart, copies_apart}

-- ---- the latest of some copies

module _ (copies : List Copy) where
  cold_named : (c : Copy) → Contains (cold_copies copies) c → cold_copy c.digest copies ≡ Some c
  cold_named c there =
      let one = filter_map_from (λ d. cold_copy d copies) (names_of_copies copies) c there in
      ap (λ (d : Digest). cold_copy d copies) (sym (same_digest_is one.0 c.digest (chosen_there one.0 copies c one.1).1)) ∙ one.1

  cold_listed : (d : Digest) (c : Copy) → cold_copy d copies ≡ Some c → Contains (cold_copies copies) c
  cold_listed d c is = find_there (λ x. same_digest d x.digest) (cold_copies copies) c (found_first d copies ∙ is)

-- a copy of a digest of the device is one of all copies
own_there : (device devices : ℕ) (copies : List Copy) (c : Copy) → Contains (own_copies device devices copies) c → Contains copies c × (device_number devices c.digest ≡ device)
own_there device devices copies c there = let kept = filter_from (λ (x : Copy). device_number devices x.digest == device) copies c there in (kept.0, eqb-true _ _ kept.1)

-- so is the latest of one
pub latest_there : (g : Geometry) (bodies : List Body) (c : Copy) → Contains (latest_copies g bodies) c → Contains (copies_of bodies) c × (device_number g.devices c.digest ≡ g.device)
latest_there g bodies c there =
    let own = own_copies g.device g.devices (copies_of bodies) in
    own_there g.device g.devices (copies_of bodies) c (all_at (Contains own) (cold_copies own) c (found_among own) there)

-- ---- the places of entries

abbrev placed : Entry → Digest × Place
placed e = (e.digest, place_of e)

two_places : (es : List Entry) → HaveOwnDigests es → ((e f : Entry) → Contains es e → Contains es f → same_digest e.digest f.digest ≡ false → e.block ≡ f.block
    → Apart e.unit e.units f.unit f.units) → AreEachTwo (live_places es)
two_places [] own apart = tt
two_places (e ∷ es) own apart = (all_from (AreTwo (placed e)) (live_places es) two, two_places es own.1 (λ a b in_a in_b. apart a b (rest_there e es a in_a) (rest_there e es b in_b)))
  where
    two : (x : Digest × Place) → Contains (live_places es) x → AreTwo (placed e) x
    two x there =
        let one = map_from placed es x there in
        let named = all_at (λ y. same_digest e.digest y.digest ≡ false) es one.0 own.0 one.1 in
        subst (AreTwo (placed e)) one.2 (record { named = named; apart = apart e one.0 (first_there e es) (rest_there e es one.0 one.1) named })

units_enough : (n : ℕ) → 1 ≤ units_for n
units_enough n = omega arith

module _ (g : Geometry) (set : Settings) (gates : List Gate) (bodies : List Body) (finding : Finding) (found : IsFinding g set gates g.blocks bodies finding) where
  abbrev setup : Setup
  setup = setup_for g set

  abbrev sprigs : List SprigState
  sprigs = finding.sprigs.items

  abbrev index : List Entry
  index = all_entries sprigs

  abbrev copies : List Copy
  copies = copies_of bodies

  abbrev own : List Copy
  own = own_copies g.device g.devices copies

  abbrev latest : List Copy
  latest = latest_copies g bodies

  -- ---- the entries of the sprigs

  -- the entry of the latest copy of its digest
  abbrev IsLatestOne : Entry → Type 0
  IsLatestOne e = (c : Copy) × (cold_copy e.digest own ≡ Some c) × (entry_for c ≡ e)

  each_latest : (part : ℕ) (s : SprigState) → slice_get sprigs part ≡ Some s → AllByRecursion (λ e. IsLatestOne e × (part_of setup e.digest ≡ part)) s.entries
  each_latest part s at =
      let h = found.latest.each part s at in
      each_entry (λ e. IsLatestOne e × (part_of setup e.digest ≡ part)) s.entries h.order
      (λ d e is. by d e (part_of setup d == part) refl (cold_copy d own) refl (sym (h.shown d) ∙ is) (entry_of-digest d s.entries e is))
    where
      by : (d : Digest) (e : Entry) (b : Bool) → (part_of setup d == part) ≡ b → (o : Option Copy) → cold_copy d own ≡ o → cond b (option_map entry_for o) None ≡ Some e → e.digest ≡ d
          → IsLatestOne e × (part_of setup e.digest ≡ part)
      by d e false mine o cold never named = absurd cc
      by d e true mine None cold never named = absurd cc
      by d e true mine (Some c) cold is named =
          let one : entry_for c ≡ e = cc in
          ((c, ap (λ (x : Digest). cold_copy x own) named ∙ cold, one), ap (part_of setup) named ∙ eqb-true (part_of setup d) part mine)

  all_latest : AllByRecursion IsLatestOne index
  all_latest = each_among IsLatestOne sprigs (λ k s at. all_map (λ e. IsLatestOne e × (part_of setup e.digest ≡ k)) IsLatestOne s.entries (λ e both. both.0) (each_latest k s at))

  digests : HaveOwnDigests index
  digests = own_digests setup sprigs (λ k s at. record {
    order = (found.latest.each k s at).order;
    own = all_map (λ e. IsLatestOne e × (part_of setup e.digest ≡ k)) (λ e. part_of setup e.digest ≡ k) s.entries (λ e both. both.1) (each_latest k s at);
  })

  -- its copy lies behind an open gate
  lies_behind : (e : Entry) → (one : IsLatestOne e) → LiesBehind g gates one.0
  lies_behind e one = all_at (LiesBehind g gates) copies one.0 found.lie (latest_there g bodies one.0 (cold_listed own e.digest one.0 one.1)).0

  has_time : (e : Entry) → IsLatestOne e → 1 ≤ e.stamp.lut
  has_time e one = subst (λ (x : Entry). 1 ≤ x.stamp.lut) one.2 (lies_behind e one).time

  pub found_times : AllByRecursion HasTimes sprigs
  found_times = each_sprig HasTimes sprigs
      (λ k s at. all_map (λ e. IsLatestOne e × (part_of setup e.digest ≡ k)) (λ e. 1 ≤ e.stamp.lut) s.entries (λ e both. has_time e both.0) (each_latest k s at))

  -- ---- what the sprigs fit

  strays : NoStrays setup latest
  strays = all_from (λ c. device_number g.devices c.digest ≡ g.device) latest (λ c there. (latest_there g bodies c there).1)

  pub found_parts : FitsParts setup sprigs (found_state setup bodies)
  found_parts = entries_parts setup latest (greatest_number bodies + 1) sprigs strays found.latest.parts
      (λ part s at. latest_found setup part own latest (λ d. found_first d own) (found_among own) s (found.latest.each part s at))

  pub sound_parts : (image : List ℕ) → IsSound setup image bodies → FitsParts setup sprigs (start_state setup bodies)
  sound_parts image sound =
      start_parts setup image bodies sprigs sound found.latest.parts
      (λ part s at. subst (λ (l : List Copy). HasLatest setup part l s) (sound_own setup image bodies sound) (found.latest.each part s at))

  -- ---- what is held of a digest

  module _ (some_devices : 0 < g.devices) (some_sprigs : 0 < set.sprigs) where
    -- a digest that has a copy has a sprig
    no_sprig : (d : Digest) (c : Copy) → cold_copy d own ≡ Some c → slice_get sprigs (part_of setup d) ≡ None → ⊥
    no_sprig d c is none =
        let there = chosen_there d own c is in
        let key = same_digest_is d c.digest there.1 in
        let mine = ap (device_number g.devices) key ∙ (own_there g.device g.devices copies c there.0).1 in
        by (part_exists setup d some_devices some_sprigs mine) (slice_get_cases sprigs (part_of setup d)).1
      where
        by : part_of setup d < part_total setup → ((x : SprigState) × (part_of setup d < length sprigs) × (slice_get sprigs (part_of setup d) ≡ Some x)
            × (get_or sprigs (part_of setup d) x ≡ x)) ⊎ ((length sprigs ≤ part_of setup d) × (slice_get sprigs (part_of setup d) ≡ None)) → ⊥
        by lt (inl there) = let never : Some there.0 ≡ None = sym there.2 ∙ none in absurd cc
        by lt (inr past) = omega (arith, lt, past.0, found.latest.parts)

    pub held_is : (d : Digest) → held setup d sprigs ≡ option_map entry_for (cold_copy d own)
    held_is d = by (slice_get sprigs (part_of setup d)) refl
      where
        none_cold : slice_get sprigs (part_of setup d) ≡ None → (o : Option Copy) → cold_copy d own ≡ o → None ≡ option_map entry_for o
        none_cold none None is = refl
        none_cold none (Some c) is = absurd (no_sprig d c is none)

        by : (o : Option SprigState) → slice_get sprigs (part_of setup d) ≡ o → entry_in d o ≡ option_map entry_for (cold_copy d own)
        by None at = none_cold at (cold_copy d own) refl
        by (Some s) at =
            (found.latest.each (part_of setup d) s at).shown d
            ∙ cond-true (part_of setup d == part_of setup d) (option_map entry_for (cold_copy d own)) None (eq-eqb (part_of setup d) (part_of setup d) refl)

    pub live_are : AreLive (live_places index) latest
    live_are = record {
      there = λ c there. map_there placed index (entry_for c) (held_there setup c.digest sprigs (entry_for c) (held_is c.digest ∙ ap (option_map entry_for) (cold_named own c there)));
      once = found_once own;
      only = λ x there.
          let one = map_from placed index x there in
          let copy = all_at IsLatestOne index one.0 all_latest one.1 in
          (copy.0, cold_listed own one.0.digest copy.0 copy.1, sym one.2 ∙ ap placed (sym copy.2));
    }

    -- the blocks in which none of them lies
    pub free_are : blocks_without (live_places index) g.blocks ≡ blocks_behind g.blocks latest
    free_are = filter_agree (λ b. not (list_any (in_block b) (live_places index))) (λ b. not (list_any (copy_in b) latest))
        (λ b. ap not (same_tests (list_any (in_block b) (live_places index)) (list_any (copy_in b) latest) (to b) (back b))) (range_with_len 0 g.blocks)
      where
        in_block : ℕ → Digest × Place → Bool
        in_block b x = x.1.block == b

        copy_in : ℕ → Copy → Bool
        copy_in b c = c.block == b

        to : (b : ℕ) → list_any (in_block b) (live_places index) ≡ true → list_any (copy_in b) latest ≡ true
        to b some =
            let x = some_at (in_block b) (live_places index) some in
            let c = live_are.only x.0 x.1 in
            any_there (copy_in b) latest c.0 c.1 (ap (in_block b) (sym c.2) ∙ x.2)

        back : (b : ℕ) → list_any (copy_in b) latest ≡ true → list_any (in_block b) (live_places index) ≡ true
        back b some = let c = some_at (copy_in b) latest some in any_there (in_block b) (live_places index) (c.0.digest, place_of_copy c.0) (live_are.there c.0 c.1) c.2

  -- ---- where the copies lie

  module _ (count : length gates ≡ g.blocks) where
    lies_in : (e : Entry) → IsLatestOne e → LiesIn g (placed e)
    lies_in e one =
        let lies = lies_behind e one in
        let units = units_enough (length one.0.version.payload) in
        let lt = slice_get_within gates one.0.block Set lies.gate in
        subst (λ (x : Entry). LiesIn g (placed x)) one.2 (record { block = omega (arith, lt, count); takes = omega (arith, units); within = lies.within })

    entries_apart : (e f : Entry) → Contains index e → Contains index f → same_digest e.digest f.digest ≡ false → e.block ≡ f.block → Apart e.unit e.units f.unit f.units
    entries_apart e f in_e in_f other at =
        let c = all_at IsLatestOne index e all_latest in_e in
        let d = all_at IsLatestOne index f all_latest in_f in
        let in_c = (latest_there g bodies c.0 (cold_listed own e.digest c.0 c.1)).0 in
        let in_d = (latest_there g bodies d.0 (cold_listed own f.digest d.0 d.1)).0 in
        let same_block : c.0.block ≡ d.0.block = ap (λ (x : Entry). x.block) c.2 ∙ at ∙ sym (ap (λ (x : Entry). x.block) d.2) in
        by c.0 d.0 c.2 d.2 (copies_apart bodies (subst AreApart (sym found.opened) (opened_apart 0 (take g.blocks gates))) c.0 d.0 in_c in_d same_block)
      where
        by : (c d : Copy) → entry_for c ≡ e → entry_for d ≡ f → AreOneOrApart c d → Apart e.unit e.units f.unit f.units
        by c d is_e is_f (inl one) = absurd (both_ways (same_digest e.digest f.digest) other (ap (λ (x : Entry). same_digest e.digest x.digest) (sym is_f ∙ ap entry_for (sym one) ∙ is_e)
            ∙ same_digest_refl e.digest))
        by c d is_e is_f (inr apart) =
            subst (λ (x : Entry). Apart x.unit x.units f.unit f.units) is_e (subst (λ (x : Entry). Apart c.unit (version_units c.version) x.unit x.units) is_f apart)

    pub can_be_live : CanBeLive g (live_places index)
    can_be_live = record {
      each = all_from (LiesIn g) (live_places index) lies;
      two = two_places index digests entries_apart;
    }
      where
        lies : (x : Digest × Place) → Contains (live_places index) x → LiesIn g x
        lies x there =
            let one = map_from placed index x there in
            subst (LiesIn g) one.2 (lies_in one.0 (all_at IsLatestOne index one.0 all_latest one.1))
