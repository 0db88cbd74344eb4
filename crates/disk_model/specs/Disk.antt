-- What a call of a disk does to its bytes, to what a crash may leave, and to its counts.
use Rattle.std.specs.Prelude.{◌≡◌, ◌⊎◌, ℕ, List, length, Result}
use Rattle.model_faults.specs.Counts.{Counted, IsCaused}
use Rattle.disk_model.specs.Bytes.{range, Torn}

-- the bytes of a write stand at its place, and all others are as they were
pub record Written (place : ℕ) (bytes old new : List ℕ) : Type 0 where
  pub there : range place (length bytes) new ≡ bytes
  pub torn : Torn place (length bytes) old new

-- a set of images: what a crash may leave
abbrev pub Images : Type 1
Images = List ℕ → Type 0

-- each image now is one of those before
abbrev pub Within : Images → Images → Type 0
Within before now = (c : List ℕ) → now c → before c

-- each image now is one of those before, but for n bytes at a place
abbrev pub TornFrom : ℕ → ℕ → Images → Images → Type 0
TornFrom place n before now = (c : List ℕ) → now c → (d : List ℕ) × before d × Torn place n d c

-- each image from before is an image now, whatever stands in its n bytes at a place
abbrev pub Loosens : ℕ → ℕ → Images → Images → Type 0
Loosens place n before now = (d c : List ℕ) → before d → Torn place n d c → now c

-- these bytes are the one image
pub record IsOnly (bytes : List ℕ) (images : Images) : Type 0 where
  pub holds : images bytes
  pub alone : (c : List ℕ) → images c → c ≡ bytes

-- What is known of a disk at a point: its size in bytes; whether it tells its bytes (of one that doesn't, nothing is promised that
-- rests on them); what reading the whole would give, where it tells; what may be found on it after a crash at this point; this
-- moment, as a number that names it, and the moments up to it; what might have been found after a crash at a moment or a later
-- one, within a call too; and how many calls failed, and were made.
pub record DiskView : Type 1 where
  pub extent : ℕ
  pub tells : Type 0
  pub seen : List ℕ
  pub may_leave : Images
  pub moment : ℕ
  pub had : ℕ → Type 0
  pub left_since : ℕ → Images
  pub faults : ℕ
  pub calls : ℕ

-- what might have been found after a crash from one point to another
abbrev pub meanwhile : DiskView → DiskView → Images
meanwhile old new = new.left_since old.moment

-- What a read gives is told, and is one of the images.
pub record IsHonest (v : DiskView) : Type 0 where
  pub told : v.tells
  pub image : v.may_leave v.seen

-- a crash leaves what a read gives, and nothing else
abbrev pub IsSettled : DiskView → Type 0
IsSettled v = IsOnly v.seen v.may_leave

-- Time advances. Each moment up to the old one is kept, and the images since such a moment are the old ones since it, with those
-- of meanwhile.
pub record Advances (old new : DiskView) : Type 0 where
  pub started : old.had old.moment
  pub stays : (t : ℕ) → old.had t → new.had t
  pub only : (t : ℕ) (c : List ℕ) → old.had t → new.left_since t c → old.left_since t c ⊎ meanwhile old new c
  pub kept : (t : ℕ) (c : List ℕ) → old.had t → old.left_since t c → new.left_since t c
  pub added : (t : ℕ) (c : List ℕ) → old.had t → meanwhile old new c → new.left_since t c

-- What each call of a disk does, whatever it is for. It makes no honest disk of one that isn't, nor the other way round, and one that
-- doesn't tell its bytes doesn't come to tell them. Time advances, an error comes only where the count of faults rose, the call is counted,
-- and the size stays.
pub record IsCall {T E : Type 0} (old new : DiskView) (result : Result T E) : Type 0 where
  pub honest : IsHonest old → IsHonest new
  pub was_honest : IsHonest new → IsHonest old
  pub was_told : new.tells → old.tells
  pub time : Advances old new
  pub cause : IsCaused old.faults new.faults result
  pub count : Counted old.calls new.calls
  pub size : new.extent ≡ old.extent

-- a disk that tells its bytes tells the same
abbrev pub TellsSame : DiskView → DiskView → Type 0
TellsSame old new = old.tells → new.tells × (new.seen ≡ old.seen)

-- it tells the same, but for n bytes at a place
abbrev pub TellsTorn : ℕ → ℕ → DiskView → DiskView → Type 0
TellsTorn place n old new = old.tells → new.tells × Torn place n old.seen new.seen

-- What is true of each disk. What it tells is as long as it is, and so is each image. Since this moment, which is one of those that
-- there were, there is no other image than those of now; and since each of them there are at least those.
pub record IsDisk (v : DiskView) : Type 0 where
  pub seen_whole : v.tells → length v.seen ≡ v.extent
  pub images_whole : (t : ℕ) (c : List ℕ) → v.left_since t c → length c ≡ v.extent
  pub now_alone : (c : List ℕ) → v.left_since v.moment c → v.may_leave c
  pub now_had : v.had v.moment
  pub now_since : (t : ℕ) (c : List ℕ) → v.had t → v.may_leave c → v.left_since t c
