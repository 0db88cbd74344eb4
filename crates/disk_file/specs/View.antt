-- What is known of a disk over a file: its size, what waits for a sync, its counts, and the file's calls and bytes.
use Rattle.std.specs.Prelude.{◌≡◌, ℕ, Bool, List, [], length, Option, if◌then◌else◌, refl}
use Rattle.model_faults.specs.Counts.{one_more}
use Rattle.disk_model.specs.Disk.{DiskView, IsDisk}
use Rattle.disk_file.specs.Spans.{Waiting}
use Rattle.disk_file.specs.Calls.{Call}

-- What waits for a sync, and how many calls failed and were made; the calls that were made on the file, and what it holds, where it
-- tells that.
pub record FileState : Type 0 where
  pub waiting : Waiting
  pub faults : ℕ
  pub calls : ℕ
  pub past : List Call
  pub told : Option (List ℕ)

-- It tells no bytes, and a crash may leave any at any moment.
abbrev pub view_of : FileState → DiskView
view_of s = record {
  extent = s.waiting.len;
  tells = ⊥;
  seen = [];
  may_leave = λ c. length c ≡ s.waiting.len;
  moment = 0;
  had = λ t. t ≡ 0;
  left_since = λ t c. length c ≡ s.waiting.len;
  faults = s.faults;
  calls = s.calls;
}

-- after a call that went well or not, with this waiting now, and no more calls on the file
abbrev pub after_call : Bool → Waiting → FileState → FileState
after_call went_well waiting s = record {
  waiting = waiting;
  faults = if went_well then s.faults else one_more s.faults;
  calls = one_more s.calls;
  past = s.past;
  told = s.told;
}

-- it hangs together
pub is_disk : (s : FileState) → IsDisk (view_of s)
is_disk s = record {
  seen_whole = λ told. absurd told;
  images_whole = λ t c left. left;
  now_alone = λ c left. left;
  now_had = refl;
  now_since = λ t c had left. left;
}
