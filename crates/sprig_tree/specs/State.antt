-- What contracts see of a sprig.
use Rattle.std.specs.Prelude.{ℕ, List}
use Rattle.rec_format.specs.declared.entry.Entry.{Entry}

-- The entries in digest order; the high time, which is the greatest update time that was given to the sprig or found
-- in it; and how many entries may be inserted before more room has to be reserved.
pub record SprigState : Type 0 where
  pub entries : List Entry
  pub hw : ℕ
  pub spare : ℕ
