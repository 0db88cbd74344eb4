-- Crate node_prog. How the devices of a job are opened.
use Rattle.std.specs.Prelude.{◌≡◌, ◌⊎◌, ℕ, true, false, List, [], ◌∷◌}
use Rattle.disk_file.specs.View.{FileState}
use Rattle.disk_file.specs.Devices.{IsWhole, IsFront, IsMade}
use Rattle.node_words.specs.declared.job.Job.{Job}
use Rattle.node_words.specs.declared.job.Job.TheVariants as job
use Rattle.node_words.specs.Planning.{file_length}
use Rattle.node_prog.specs.declared.devices.Way.{Way}
use Rattle.node_prog.specs.declared.devices.Way.TheVariants as way

-- made where nothing is there, opened to read and write, or to read alone
abbrev pub way_of : Job → Way
way_of (job.Format shape) = way.Make (file_length shape)
way_of (job.Run tuning) = way.Open
way_of (job.Serve tuning serving) = way.Open
way_of job.Check = way.Read
way_of job.Audit = way.Read
way_of (job.Generate count shape tuning) = way.Make (file_length shape)

-- The disk is the whole of what has the name, or was made under it, or is the first bytes of what was there.
abbrev pub IsOpened : Way → List ℕ → FileState → Type 0
IsOpened (way.Make len) name disk = IsMade name len disk ⊎ IsFront name len disk
IsOpened way.Open name disk = IsWhole name true disk
IsOpened way.Read name disk = IsWhole name false disk

-- there is a disk for each name, in order
abbrev pub AreOpened : Way → (names : List (List ℕ)) → (disks : List FileState) → Type 0
AreOpened how [] disks = disks ≡ []
AreOpened how (name ∷ names) [] = ⊥
AreOpened how (name ∷ names) (disk ∷ disks) = IsOpened how name disk × AreOpened how names disks
