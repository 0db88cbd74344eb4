-- The order of versions by their stamps: it is strict, and stamps that it doesn't tell apart are equal.
use Rattle.std.proofs.Common.{◌≡◌, ◌≤◌, true, false, arith}
use Rattle.rec_format.specs.declared.version.Stamp.{Stamp}
use Rattle.rec_format.specs.Versions.{is_later_stamp}

-- later is a strict order
pub later_trans : (a b c : Stamp) → is_later_stamp a b ≡ true → is_later_stamp b c ≡ true → is_later_stamp a c ≡ true
later_trans a b c p q = grind arith

-- and being no later is passed on too
pub no_later_trans : (a b c : Stamp) → is_later_stamp a b ≡ false → is_later_stamp b c ≡ false → is_later_stamp a c ≡ false
no_later_trans a b c p q = grind arith

pub later_one_way : (a b : Stamp) → is_later_stamp a b ≡ true → is_later_stamp b a ≡ false
later_one_way a b p = grind arith

pub no_later_itself : (a b : Stamp) → a ≡ b → is_later_stamp a b ≡ false
no_later_itself a b p = grind arith

-- what is later than one is later than all that are no later than that one
pub later_than_behind : (a b c : Stamp) → is_later_stamp a b ≡ true → is_later_stamp c b ≡ false → is_later_stamp a c ≡ true
later_than_behind a b c p q = grind arith

-- what is no later has no greater time
pub not_later : (a b : Stamp) → is_later_stamp a b ≡ false → a.lut ≤ b.lut
not_later a b p = grind arith
