-- What is seen of a source that a halt ends.
use Rattle.std.specs.Prelude.{ℤ, Bool, Option}

-- the source below, the descriptor of its bytes and that of the halt, if there is one, and whether the halt has come
pub record HaltingState (S : Type 0) : Type 0 where
  pub source : S
  pub descriptor : ℤ
  pub halt : Option ℤ
  pub is_halted : Bool
