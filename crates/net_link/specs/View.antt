-- What is seen of a connection, and of the door from which connections come.
use Rattle.std.specs.Prelude.{ℕ, ℤ, ◌-◌, ◌==◌, Bool, true, false, List, [], Option, Some, None, Result, Ok, Err}
use Rattle.std.specs.declared.time.Duration.{Duration}
use Rattle.net_link.specs.declared.link.Stop.{Stop}

-- the bytes taken from it, the bytes that the system took, how many reads and writes failed, what ends it from outside, if something does, how long its peer may be
-- silent, if that is limited, and what has ended it on this side, if something has
pub record LinkState : Type 0 where
  pub gone : List ℕ
  pub written : List ℕ
  pub source_faults : ℕ
  pub sink_faults : ℕ
  pub halt : Option ℤ
  pub idle : Option Duration
  pub stopped : Option Stop

-- how many links are left, where they are bounded; how many were given; what ends it from outside, if something does; how long the peer of a link may be silent, if that is limited; how many
-- calls failed; and whether it has ended
pub record DoorState : Type 0 where
  pub left : Option ℕ
  pub given : ℕ
  pub halt : Option ℤ
  pub idle : Option Duration
  pub faults : ℕ
  pub ended : Bool

-- whether all the links were given, where they are bounded
abbrev pub none_left : Option ℕ → Bool
none_left None = false
none_left (Some left) = left == 0

-- how many are left behind one link more
abbrev pub one_fewer : Option ℕ → Option ℕ
one_fewer None = None
one_fewer (Some left) = Some (left - 1)

-- whether the answer is a link
abbrev pub gave_link : {L E : Type 0} → Result (Option L) E → Bool
gave_link (Ok None) = false
gave_link (Ok (Some link)) = true
gave_link (Err fault) = false

-- a link through which nothing went yet, which this halt ends, and a peer that is silent for so long
abbrev pub fresh_link : Option ℤ → Option Duration → LinkState
fresh_link halt idle = record { gone = []; written = []; source_faults = 0; sink_faults = 0; halt = halt; idle = idle; stopped = None }
