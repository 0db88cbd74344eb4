-- Each image of a set that is kept survives.
use Rattle.std.proofs.Common.{inr, ℕ, ◌+◌, List, [], ◌∷◌, refl}
use Rattle.std.specs.Prelude.{Contains}
use Rattle.std.specs.List.{AllByRecursion}
use Rattle.law_lists.proofs.Each.{all_from, all_joined}
use Rattle.rec_format.specs.declared.version.Digest.{Digest}
use Rattle.rec_format.specs.declared.version.Version.{Version}
use Rattle.rec_format.specs.Versions.{version_units}
use Rattle.model_device.specs.Book.{Setup, pending_of}
use Rattle.model_device.specs.Device.{State, history}
use Rattle.disk_model.specs.Disk.{Images}
use Rattle.block_format.specs.declared.geometry.Geometry.{Geometry}
use Rattle.block_format.specs.Layout.{Body}
use Rattle.block_format.specs.Copies.{Copy, copies_from, copies_of}
use Rattle.law_start.specs.Surviving.{Survives}
use Rattle.law_start.specs.Holding.{begun_versions}
use Rattle.law_facts.specs.Reaching.{IsLeft}
use Rattle.law_facts.proofs.Surviving.{facts_survive}
use Rattle.law_trail.specs.Trail.{Records}
use Rattle.law_trail.proofs.Reaching.{reaches}
use Rattle.law_images.specs.Kept.{Upholds, possible_in, IsKept}
use Rattle.law_images.proofs.Reading.{body_shown}

-- what holds of each record of each body holds of their copies
placed_copies : (P : ℕ → Digest → Version → Type 0) (block unit : ℕ) (records : List (Digest × Version)) → AllByRecursion (λ r. P block r.0 r.1) records
    → AllByRecursion (λ c. P c.block c.digest c.version) (copies_from block unit records)
placed_copies P block unit [] all = tt
placed_copies P block unit (r ∷ records) all = (all.0, placed_copies P block (unit + version_units r.1) records all.1)

all_placed : (P : ℕ → Digest → Version → Type 0) (bodies : List Body) → AllByRecursion (λ b. AllByRecursion (λ r. P b.block r.0 r.1) b.records) bodies
    → AllByRecursion (λ c. P c.block c.digest c.version) (copies_of bodies)
all_placed P [] all = tt
all_placed P (b ∷ bodies) all = all_joined (λ (c : Copy). P c.block c.digest c.version) (copies_from b.block 0 b.records) (copies_of bodies) (placed_copies P b.block 0 b.records all.0)
    (all_placed P bodies all.1)

module _ (setup : Setup) (g : Geometry) (s : State) (records : Records) (images : Images) (kept : IsKept setup g s records images) (c : List ℕ) (image : images c) where
  pub upholds : Upholds g s records c
  upholds = kept.upheld c image

  -- what it shows is possible
  may_come : AllByRecursion (λ b. AllByRecursion (λ r. possible_in g s.book records images b.block r.0 r.1) b.records) upholds.bodies
  may_come =
      all_from (λ b. AllByRecursion (λ r. possible_in g s.book records images b.block r.0 r.1) b.records) upholds.bodies
      (λ b there. all_from (λ r. possible_in g s.book records images b.block r.0 r.1) b.records
      (λ r has. inr (record { image = c; is_left = image; body = b; shown = body_shown g c upholds.bodies b upholds.readable there; placed = refl; has = has })))

  pub kept_left : IsLeft setup s (possible_in g s.book records images) c upholds.bodies
  kept_left = record {
    shape = g;
    is_shape = kept.shape;
    readable = upholds.readable;
    may_come = all_placed (possible_in g s.book records images) upholds.bodies may_come;
    begun = all_placed (λ block d v. Contains (begun_versions (pending_of s.book) (history s d)) v) upholds.bodies upholds.begun;
    reaches = λ digest durable.
        let r = reaches s records upholds.bodies digest upholds.trailed (kept.facts.guarded digest).falling durable in
        record { found = r.version; there = r.there; last = r.last };
  }

  -- each image of the set survives
  pub kept_survives : Survives setup s c
  kept_survives = facts_survive setup s (possible_in g s.book records images) c upholds.bodies kept.facts kept_left
