-- Crate law_trail. The blocks of a book are those of the device.
use Rattle.std.specs.Prelude.{◌<◌}
use Rattle.std.specs.List.{AllByRecursion}
use Rattle.model_device.specs.Book.{Setup, Book}
use Rattle.law_trail.specs.Trail.{places_of}

-- the blocks that are free, those of the pending buffers, and those of the live copies
pub record IsWithin (setup : Setup) (book : Book) : Type 0 where
  pub free : AllByRecursion (λ b. b < setup.blocks) book.free
  pub places : AllByRecursion (λ p. p.1 < setup.blocks) (places_of book)
  pub live : AllByRecursion (λ l. l.block < setup.blocks) book.live
