-- For which states a shard stands behind a start.
use Rattle.std.proofs.Common.{◌≡◌, ℕ, ◌+◌, ◌<◌, arith, ◌*◌, List, length, refl, sym, ◌∙◌, ap, subst}
use Rattle.std.specs.Prelude.{option_map}
use Rattle.std.specs.List.{AllByRecursion, range_with_len}
use Rattle.disk_model.specs.Disk.{Images, DiskView, IsHonest, IsOnly}
use Rattle.rec_format.specs.declared.version.Digest.{Digest}
use Rattle.model_device.specs.Book.{Setup}
use Rattle.model_device.specs.Device.{State}
use Rattle.block_format.specs.declared.geometry.Geometry.{Geometry}
use Rattle.block_format.specs.declared.geometry.Gate.{Gate}
use Rattle.block_format.specs.Layout.{IsGeometry, IsRecordAt, body_bytes, Body}
use Rattle.block_format.specs.Copies.{Copy, HasBodies, copies_of, cold_copy, entry_for}
use Rattle.block_format.proofs.BodyLaws.{one_body}
use Rattle.law_start.specs.Start.{start_state, entries_state, greatest_number, cold_copies}
use Rattle.law_start.specs.Sound.{IsSound, IsShapeOf}
use Rattle.law_start.proofs.Cold.{one_image}
use Rattle.law_start.proofs.Images.{one_shape}
use Rattle.law_start.proofs.Places.{copy_stands}
use Rattle.law_images.specs.Held.{AreSure}
use Rattle.block_shelf.specs.declared.place.Place.{Place}
use Rattle.block_shelf.specs.declared.place.ShelfLimits.{ShelfLimits}
use Rattle.block_shelf.specs.View.{ShelfView, IsSetupOf, gate_at}
use Rattle.block_shelf.specs.Standing as shelf
use Rattle.block_shelf.specs.Starting.{StartsWith, AreLive, AllHave}
use Rattle.shard_core.specs.declared.settings.Settings.{Settings}
use Rattle.cold_scan.specs.declared.header.Asked.{Asked}
use Rattle.shard_core.specs.declared.index.Finding.{Finding}
use Rattle.shard_core.specs.Sprigs.{held, all_entries}
use Rattle.law_steps.specs.Sprigs.{HasTimes}
use Rattle.shard_core.specs.View.{ShardView, IsSettings, limits_of, setup_for, setup_of}
use Rattle.law_sprig.specs.Parts.{FitsParts}
use Rattle.sprig_tree.specs.State.{SprigState}
use Rattle.shard_core.specs.Stands.{Agrees, IsWhole, IsSafe}
use Rattle.cold_scan.specs.Starting.{Passes, own_copies}
use Rattle.shard_core.specs.Starting.{Begins, StandsForBodies, blocks_behind}
use Rattle.cold_scan.specs.Found.{found_state}
use Rattle.cold_scan.specs.Found.{IsSure}
use Rattle.shard_core.specs.Finding.{AreLatest, IsFinding, BeginsOver, BeginsBehind, live_places, latest_copies}
use Rattle.shard_core.proofs.FoundCopies.{latest_there, found_times, found_parts, sound_parts, held_is, live_are, free_are}
use Rattle.shard_core.proofs.GatesKnown.{gates_sure}
use Rattle.shard_core.proofs.Showing.{found_entry, sound_own}

-- ---- from a shelf that begins

-- what is known of a shelf that begins with these live copies
pub record ShelfBegins {D : Type 0} (view : D → DiskView) (disk : D) (g : Geometry) (limits : ShelfLimits) (gates : List Gate) (live : List (Digest × Place)) (next : ℕ)
    (new : ShelfView D) : Type 0 where
  pub starts : StartsWith disk g limits gates live next new
  pub entries : (setup : Setup) (found : List Copy) → IsSetupOf setup new → AreLive live found
      → shelf.StandsFor setup new (entries_state setup found next) × shelf.BooksStand setup new (entries_state setup found next)
  pub image : (setup : Setup) (image : List ℕ) (bodies : List Body) → IsSetupOf setup new → IsSound setup image bodies → AreLive live (cold_copies (copies_of bodies))
      → next ≡ greatest_number bodies + 1
      → shelf.StandsFor setup new (start_state setup bodies) × shelf.BooksStand setup new (start_state setup bodies)
  pub placed : (setup : Setup) (found : List Copy) → AllHave g (view disk).may_leave found → shelf.IsPlaced view new (entries_state setup found next)
  pub safe : IsHonest (view disk) → AreSure g (gate_at gates) → (setup : Setup) (image : List ℕ) (bodies : List Body) → IsSetupOf setup new → IsSound setup image bodies
      → IsOnly image (view disk).may_leave
      → shelf.IsPlaced view new (start_state setup bodies) × shelf.ImagesHold setup view new (start_state setup bodies)

module _ {D : Type 0} (view : D → DiskView) (disk : D) (g : Geometry) (gates : List Gate) (set : Settings) (finding : Finding) (is_shape : IsGeometry g) (settings : IsSettings set)
    (count : length gates ≡ g.blocks)
    (sure : AllByRecursion IsSure gates) (shard : ShardView D) (set_is : shard.set ≡ set) (sprigs_are : shard.sprigs ≡ finding.sprigs.items)
    (begins : ShelfBegins view disk g (limits_of set) gates (live_places (all_entries finding.sprigs.items)) (finding.greatest + 1) shard.shelf) where
  abbrev live : List (Digest × Place)
  live = live_places (all_entries finding.sprigs.items)

  geometry_is : shard.shelf.geometry ≡ g
  geometry_is = ap (λ (v : ShelfView D). v.geometry) begins.starts.parts

  limits_are : shard.shelf.limits ≡ limits_of shard.set
  limits_are = ap (λ (v : ShelfView D). v.limits) begins.starts.parts ∙ ap limits_of (sym set_is)

  abbrev setup : Setup
  setup = setup_of shard

  setup_is : setup_for g set ≡ setup
  setup_is = λ i. setup_for (sym geometry_is i) (sym set_is i)

  is_setup : IsSetupOf setup shard.shelf
  is_setup = record {
    shape = record { capacity = refl; blocks = refl; device = refl; devices = refl };
    pending = sym (ap (λ (l : ShelfLimits). l.pending) limits_are);
    lwm = sym (ap (λ (l : ShelfLimits). l.lwm) limits_are);
    cache = sym (ap (λ (l : ShelfLimits). l.cache) limits_are);
    sprigs = sym (ap (λ (l : ShelfLimits). l.sprigs) limits_are);
  }

  some_devices : 0 < g.devices
  some_devices = omega (arith, is_shape.device)

  some_sprigs : 0 < set.sprigs
  some_sprigs = omega (arith, settings.sprigs.0)

  module _ (bodies : List Body) (found : IsFinding g set gates g.blocks bodies finding) where
    abbrev latest : List Copy
    latest = latest_copies shard.shelf.geometry bodies

    live_here : AreLive live latest
    live_here = subst (λ (h : Geometry). AreLive live (latest_copies h bodies)) (sym geometry_is) (live_are g set gates bodies finding found some_devices some_sprigs)

    -- sprigs and shelf of one state
    agrees_with : (state : Setup → State) → FitsParts (setup_for g set) finding.sprigs.items (state (setup_for g set)) → shelf.StandsFor setup shard.shelf (state setup)
        × shelf.BooksStand setup shard.shelf (state setup) → Agrees shard (state setup)
    agrees_with state fits both = record {
      sprigs = subst (λ (l : List SprigState). FitsParts setup l (state setup)) (sym sprigs_are) (subst (λ (x : Setup). FitsParts x finding.sprigs.items (state x)) setup_is fits);
      times = subst (AllByRecursion HasTimes) (sym sprigs_are) (found_times g set gates bodies finding found);
      shelf = record { stands = both.0; queue = both.1 };
    }

    found_agrees : Agrees shard (found_state setup bodies)
    found_agrees =
        agrees_with (λ x. found_state x bodies) (found_parts g set gates bodies finding found)
        (subst (λ (n : ℕ). shelf.StandsFor setup shard.shelf (entries_state setup latest (n + 1)) × shelf.BooksStand setup shard.shelf (entries_state setup latest (n + 1))) found.number
        (begins.entries setup latest is_setup live_here))

    start_agrees : (image : List ℕ) → IsSound setup image bodies → Agrees shard (start_state setup bodies)
    start_agrees image sound =
        agrees_with (λ x. start_state x bodies) (sound_parts g set gates bodies finding found image (subst (λ (x : Setup). IsSound x image bodies) (sym setup_is) sound))
        (begins.image setup image bodies is_setup sound (subst (λ (l : List Copy). AreLive live (cold_copies l)) (sound_own setup image bodies sound) live_here) (ap (λ (n : ℕ). n + 1) found.number))

    pub begins_behind : BeginsBehind view disk bodies shard
    begins_behind = record {
      free = ap (λ (v : ShelfView D). v.free) begins.starts.parts ∙ free_are g set gates bodies finding found some_devices some_sprigs
          ∙ ap (λ (h : Geometry). blocks_behind h.blocks (latest_copies h bodies)) (sym geometry_is);
      agrees = found_agrees;
      placed = λ have.
          subst (λ (n : ℕ). shelf.IsPlaced view shard.shelf (entries_state setup latest (n + 1))) found.number
          (begins.placed setup latest (subst (λ (h : Geometry). AllHave h (view disk).may_leave latest) geometry_is have));
      sound = start_agrees;
      safe = λ honest image sound only. let safe = begins.safe honest (gates_sure g gates count sure) setup image bodies is_setup sound only in record { placed = safe.0; safe = safe.1 };
      latest = subst (AreLatest setup (copies_of bodies)) (sym sprigs_are) (subst (λ (x : Setup). AreLatest x (copies_of bodies) finding.sprigs.items) setup_is found.latest);
      sure = subst (λ (h : Geometry). AreSure h (gate_at shard.shelf.gates)) (sym geometry_is)
          (subst (λ (l : List Gate). AreSure g (gate_at l)) (sym (ap (λ (v : ShelfView D). v.gates) begins.starts.parts)) (gates_sure g gates count sure));
    }

    pub begins_whole : IsWhole shard
    begins_whole = record {
      settings = subst IsSettings (sym set_is) settings;
      limits = limits_are;
      stands = (found_state setup bodies, found_agrees);
    }

-- ---- over what was read

-- each image of a disk that has one has the latest copies
all_have : (g : Geometry) (bytes : List ℕ) (images : Images) (bodies : List Body) → HasBodies g bytes (range_with_len 0 g.blocks) bodies → IsOnly bytes images
    → AllHave g images (latest_copies g bodies)
all_have g bytes images bodies has only c there image left =
    subst (λ (b : List ℕ). IsRecordAt (body_bytes g c.block b) (32 + 16 * c.unit) c.digest c.version) (sym (only.alone image left))
    (copy_stands g bytes (range_with_len 0 g.blocks) bodies has c (latest_there g bodies c there).0).there

-- the bodies of a sound image are those that were read
pub same_bodies : (setup : Setup) (g : Geometry) (asked : Asked) (bytes : List ℕ) (bodies all : List Body) → IsShapeOf setup g → Passes asked bytes g bodies → IsSound setup bytes all → bodies ≡ all
same_bodies setup g asked bytes bodies all shape passes sound =
    let same = one_shape setup g sound.shape shape sound.is_shape passes.is_asked.header.geometry sound.readable.header.geometry in
    one_image g bytes (range_with_len 0 g.blocks) bodies all one_body passes.blocks (subst (λ (h : Geometry). HasBodies h bytes (range_with_len 0 h.blocks) all) (sym same) sound.readable.blocks)

module _ {D : Type 0} (view : D → DiskView) (disk : D) (g : Geometry) (set : Settings) (finding : Finding) (asked : Asked) (bodies : List Body) (shard : ShardView D)
    (begins : BeginsOver disk g set finding shard) (behind : BeginsBehind view disk bodies shard) where
  passes_here : (bytes : List ℕ) → Passes asked bytes g bodies → Passes asked bytes shard.shelf.geometry bodies
  passes_here bytes passes = subst (λ (h : Geometry). Passes asked bytes h bodies) (sym begins.geometry_is) passes

  pub stands_behind : (was : DiskView) → (was.tells → Passes asked was.seen g bodies) → (was.tells → IsOnly was.seen (view disk).may_leave) → StandsForBodies view asked was shard
  stands_behind was passes only = record {
    bodies = bodies;
    agrees = behind.agrees;
    shows = found_entry (setup_of shard) bodies;
    passes = λ told. passes_here was.seen (passes told);
    placed = λ honest. behind.placed (all_have shard.shelf.geometry was.seen (view disk).may_leave bodies (passes_here was.seen (passes honest.told)).blocks (only honest.told));
  }

  module _ (bytes : List ℕ) (passes : Passes asked bytes g bodies) where
    these : (all : List Body) → IsSound (setup_of shard) bytes all → bodies ≡ all
    these all sound = same_bodies (setup_of shard) shard.shelf.geometry asked bytes bodies all (record { capacity = refl; blocks = refl; device = refl; devices = refl })
        (passes_here bytes passes) sound

    sound_agrees : (all : List Body) → IsSound (setup_of shard) bytes all → Agrees shard (start_state (setup_of shard) all)
    sound_agrees all sound =
        let same = these all sound in
        subst (λ (l : List Body). Agrees shard (start_state (setup_of shard) l)) same (behind.sound bytes (subst (IsSound (setup_of shard) bytes) (sym same) sound))

    pub begins_from : (gates : List Gate) → IsGeometry g → IsSettings set → IsFinding g set gates g.blocks bodies finding → Begins asked bytes shard
    begins_from gates is_shape settings found = record {
      bodies = bodies;
      passes = passes_here bytes passes;
      entries = λ d.
          subst (λ (l : List SprigState). held (setup_of shard) d l
          ≡ option_map entry_for (cold_copy d (own_copies shard.shelf.geometry.device shard.shelf.geometry.devices (copies_of bodies)))) (sym begins.sprigs_are)
          (subst (λ (x : Setup). held x d finding.sprigs.items ≡ option_map entry_for (cold_copy d (own_copies x.device x.devices (copies_of bodies))))
          (λ i. setup_for (sym begins.geometry_is i) (sym begins.set_is i))
          (held_is g set gates bodies finding found (omega (arith, is_shape.device)) (omega (arith, settings.sprigs.0)) d));
      free = behind.free;
      next = begins.next ∙ ap (λ (n : ℕ). n + 1) found.number;
      sound = sound_agrees;
    }

    -- over a disk with this one image it is safe
    pub safe_behind : IsHonest (view disk) → IsOnly bytes (view disk).may_leave → (all : List Body) → IsSound (setup_of shard) bytes all → IsSafe view shard (start_state (setup_of shard) all)
    safe_behind honest only all sound =
        let same = these all sound in
        subst (λ (l : List Body). IsSafe view shard (start_state (setup_of shard) l)) same (behind.safe honest bytes (subst (IsSound (setup_of shard) bytes) (sym same) sound) only)
