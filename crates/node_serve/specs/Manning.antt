-- What each thread of a server counts.
use Rattle.std.specs.Prelude.{◌≡◌, ◌+◌, ◌<◌, ◌≤◌, ℕ, Bool, true, List, length, map, sum_by, count_by, slice_index_or}
use Rattle.node_session.specs.declared.ended.Ended.{Ended}
use Rattle.node_serve.specs.declared.duty.Duty.{Duty}
use Rattle.node_serve.specs.declared.post.Manned.{Manned}
use Rattle.node_serve.specs.Serving.{EachDone, links_served}

-- the duty of a post, how many links it counts, and how often it was told that no further one comes
abbrev pub duty_of : {S K C E M : Type 0} → Manned S K C E M → Duty S K C
duty_of manned = manned.duty

abbrev pub links_of : {S K C E M : Type 0} → Manned S K C E M → ℕ
links_of manned = manned.post.links.amount

abbrev pub ends_of : {S K C E M : Type 0} → Manned S K C E M → ℕ
ends_of manned = manned.post.ends.amount

-- The thread of a post did its duty, and counted each link that it served; where the duty sits, it was told that no further one comes.
pub record DoesManned {X D : Type 0} (does : D → D → List Ended → Type 0) (sits : D → Bool) (duty : X → D) (links ends : X → ℕ) (old new : X) : Type 0 where
  pub hows : List Ended
  pub done : does (duty old) (duty new) hows
  pub counted : links new ≡ links old + length hows
  pub told : sits (duty old) ≡ true → 0 < ends new

-- Each post of a list did so, in its place.
pub record EachManned {X : Type 0} (does : X → X → Type 0) (olds news : List X) : Type 0 where
  pub as_many : length news ≡ length olds
  pub each : (i : ℕ) (d : X) → i < length olds → does (slice_index_or olds i d) (slice_index_or news i d)

-- What all posts counted together: each link that was served; and where a duty sits, one was told that no further one comes.
pub record AllCounted {X D : Type 0} (does : D → D → List Ended → Type 0) (sits : D → Bool) (duty : X → D) (links ends : X → ℕ) (olds news : List X) : Type 0 where
  pub served : List (List Ended)
  pub done : EachDone does (map duty olds) (map duty news) served
  pub counted : sum_by links news ≡ sum_by links olds + links_served served
  pub told : 1 ≤ count_by sits (map duty olds) → 0 < sum_by ends news
