-- A book goes on to stand for a raid whose marks alone have changed.
use Rattle.std.proofs.Common.{sym, subst}
use Rattle.model_device.specs.Book.{Setup}
use Rattle.model_device.specs.Device.{RaidState}
use Rattle.raid_book.specs.Books.{BookState}
use Rattle.raid_book.specs.Raids.{RaidStands, SameButMarks}

pub marks_aside : (setup : Setup) (book : BookState) (old new : RaidState) → SameButMarks old new → RaidStands setup book old → RaidStands setup book new
marks_aside setup book old new same stands = subst (RaidStands setup book) (sym same) (record {
  turns = record {
    number = stands.turns.number;
    next = stands.turns.next;
    scanned = stands.turns.scanned;
    parts = stands.turns.parts;
    blocks = stands.turns.blocks;
  };
  copies = stands.copies;
})
