-- What a raid drops, and what a course of steps leaves.
use Rattle.std.proofs.Common.{◌≡◌, inl, inr, ℕ, zero, suc, ◌+◌, ◌≤◌, Bool, true, false, cond, List, [], ◌∷◌, ◌++◌, map, length, refl, subst, arith}
use Rattle.rec_format.specs.declared.version.Digest.{Digest}
use Rattle.rec_format.specs.Versions.{is_tombstone}
use Rattle.model_device.specs.Book.{Setup}
use Rattle.model_device.specs.Device.{State, entry, entry_passes}
use Rattle.model_device.specs.Steps.{Step, rid_of, uncovered, done_part, after_step, after_steps, states_through}
use Rattle.model_device.specs.Legal.{drop_step, drop_steps, marked_in}
use Rattle.disk_model.specs.Disk.{Images}
use Rattle.disk_model.specs.Runs.{OneOf}
use Rattle.block_format.specs.declared.geometry.Geometry.{Geometry}
use Rattle.law_start.specs.Surviving.{Survives}
use Rattle.law_trail.specs.Trail.{Records}
use Rattle.law_images.specs.Kept.{IsKept}
use Rattle.law_images.specs.Courses.{IsMade, ChangesKept, ChangeBehind, MadeAlong, KeptAlong}
use Rattle.law_images.specs.Changes.{BringsNone}
use Rattle.law_images.proofs.Changing.{fewer_brings}
use Rattle.law_images.proofs.Surviving.{kept_survives}

-- ---- the end of a course

-- the images are kept behind the last step
pub along_last : (setup : Setup) (g : Geometry) (s : State) (records : ℕ → Records) (images : ℕ → Images) (k : ℕ) (steps : List Step) → KeptAlong setup g s records images k steps
    → IsKept setup g (after_steps setup steps s) (records (k + length steps)) (images (k + length steps))
along_last setup g s records images k [] kept = let same : k ≡ k + 0 = omega arith in subst (λ (n : ℕ). IsKept setup g s (records n) (images n)) same kept
along_last setup g s records images k (step ∷ steps) kept =
    let same : k + 1 + length steps ≡ k + suc (length steps) = omega arith in
    subst (λ (n : ℕ). IsKept setup g (after_steps setup steps (after_step setup step s)) (records n) (images n)) same (along_last setup g (after_step setup step s) records images (k + 1) steps kept.2)

-- and each image on the way survives a state on the way
pub along_survives : (setup : Setup) (g : Geometry) (s : State) (records : ℕ → Records) (images : ℕ → Images) (k : ℕ) (steps : List Step) → KeptAlong setup g s records images k steps
    → (j : ℕ) → j ≤ length steps → (c : List ℕ) → images (k + j) c → OneOf (Survives setup) (states_through setup steps s) c
along_survives setup g s records images k [] kept j le c image =
    let same : k + j ≡ k = omega (arith, le) in
    inl (kept_survives setup g s (records k) (images k) kept c (subst (λ (n : ℕ). images n c) same image))
along_survives setup g s records images k (step ∷ steps) kept zero le c image =
    let same : k + 0 ≡ k = omega arith in
    inl (kept_survives setup g s (records k) (images k) kept.0 c (subst (λ (n : ℕ). images n c) same image))
along_survives setup g s records images k (step ∷ steps) kept (suc j) le c image =
    let same : k + suc j ≡ k + 1 + j = omega arith in
    inr (along_survives setup g (after_step setup step s) records images (k + 1) steps kept.2 j (omega (arith, le)) c (subst (λ (n : ℕ). images n c) same image))

-- ---- what a raid drops

drop_made : (setup : Setup) (g : Geometry) (s : State) (records : Records) (images : Images) (digest : Digest) (b : Bool)
    → IsMade setup g s records records images (cond b (rid_of digest) (uncovered digest))
drop_made setup g s records images digest true = refl
drop_made setup g s records images digest false = refl

still : (setup : Setup) (g : Geometry) (after : State) (records : Records) (images : Images) → ChangesKept setup g after records images images × BringsNone g after.book records images images
still setup g after records images = (λ kept. kept, fewer_brings g after.book records images images (λ c image. image))

drop_still : (setup : Setup) (g : Geometry) (after : State) (records : Records) (images : Images) (digest : Digest) (b : Bool)
    → ChangeBehind setup g after records images images (cond b (rid_of digest) (uncovered digest))
drop_still setup g after records images digest true = still setup g after records images
drop_still setup g after records images digest false = still setup g after records images

all_made : (setup : Setup) (g : Geometry) (first s : State) (records : Records) (images : Images) (k : ℕ) (part : ℕ) (digests : List Digest)
    → MadeAlong setup g s (λ n. records) (λ n. images) k (map (drop_step first) digests ++ done_part part ∷ [])
all_made setup g first s records images k part [] = (refl, still setup g (after_step setup (done_part part) s) records images, tt)
all_made setup g first s records images k part (d ∷ digests) =
    let b = entry_passes is_tombstone (entry first d) in
    let after = after_step setup (drop_step first d) s in
    (drop_made setup g s records images d b, drop_still setup g after records images d b, all_made setup g first after records images (k + 1) part digests)

-- its steps are made with nothing written
pub drops_made : (setup : Setup) (g : Geometry) (s : State) (records : Records) (images : Images) (part : ℕ) → MadeAlong setup g s (λ n. records) (λ n. images) 0 (drop_steps setup part s)
drops_made setup g s records images part = all_made setup g s s records images 0 part (marked_in setup part s)
