-- Crate law_leaving. What stays of a block without a buffer, and when it is empty.
use Rattle.std.specs.Prelude.{ℕ, ◌≤◌, true, false, List, ◌≡◌}
use mathlib.Core.List.{IsPrefix}
use Rattle.rec_format.specs.declared.version.Digest.{Digest}
use Rattle.model_device.specs.Book.{Setup, Book, has_buffer, use_of, live_of}
use Rattle.model_device.specs.Device.{State}
use Rattle.model_device.specs.Events.{Event, after_events}
use Rattle.model_device.specs.Legal.{is_in_block}

-- nothing is live in the block
abbrev pub IsOut : (block : ℕ) → Book → Type 0
IsOut block book = (digest : Digest) → is_in_block block (live_of digest book.live) ≡ false

-- The block has no buffer, each record that is live in it was so before, and no more of it is used.
pub record Keeps (block : ℕ) (old new : Book) : Type 0 where
  pub unbuffered : has_buffer new block ≡ false
  pub lies : (digest : Digest) → is_in_block block (live_of digest new.live) ≡ true → is_in_block block (live_of digest old.live) ≡ true
  pub used : use_of new block ≤ use_of old block

-- after some of these events nothing is live in the block
pub record IsEmptied (setup : Setup) (block : ℕ) (s : State) (events : List Event) : Type 0 where
  pub first : List Event
  pub begins : IsPrefix first events
  pub out : IsOut block (after_events setup first s).book
