-- What is seen of the forms in memory.
use Rattle.std.specs.Prelude.{ℕ, Bool, List, map}
use Rattle.io_traits.specs.Streams.{Reading, Writing}

-- A source in memory: the bytes taken and left, the numbers of the calls that are to fail, how many calls were made and how many of them failed.
pub record SourceState : Type 0 where
  pub gone : List ℕ
  pub left : List ℕ
  pub fails : List ℕ
  pub calls : ℕ
  pub faults : ℕ

-- A sink in memory: the bytes written, those of them that were handed on, the numbers of the calls that are to fail, how many calls were made, how many of them failed, and how many of these failed for want of memory.
pub record SinkState : Type 0 where
  pub written : List ℕ
  pub handed : List ℕ
  pub fails : List ℕ
  pub calls : ℕ
  pub faults : ℕ
  pub starved : ℕ

-- the bytes of a history
abbrev pub logged_bytes : List (ℕ × Unit {0}) → List ℕ
logged_bytes pairs = map (λ pair. pair.0) pairs

-- What is seen of a source over a stream of input: the reads that were made of it, and how many of its own calls failed.
pub record InputState : Type 0 where
  pub reads : List Reading
  pub faults : ℕ

-- What is seen of a sink over a stream of output: the writes that were made of it, and how many of its own calls failed.
pub record OutputState : Type 0 where
  pub writes : List Writing
  pub faults : ℕ

-- A stream of input in memory: what the source has that it gives, and the reads that were made.
pub record TextInputState : Type 0 where
  pub source : SourceState
  pub reads : List Reading

-- A stream of output in memory: the sink that takes what is written, and the writes that were made.
pub record TextOutputState : Type 0 where
  pub sink : SinkState
  pub writes : List Writing

-- A door in memory: the links left, how many were given, the numbers of the calls that are to fail, how many calls were made, how many of them failed, and whether the last answer was that no further link comes.
pub record DoorState (L : Type 0) : Type 0 where
  pub links : List L
  pub given : ℕ
  pub fails : List ℕ
  pub calls : ℕ
  pub faults : ℕ
  pub ended : Bool
