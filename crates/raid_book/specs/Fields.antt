-- The value of a book by its fields, and what holds of them.
use Rattle.raid_book.specs.declared.book.RaidBook.TheInside.{Inside}
use Rattle.raid_book.specs.Books.{BookState, IsBook}

abbrev pub book_of : Inside → BookState
book_of b = record { number = b.number; next = b.next; scanned = b.scanned; found = b.found.items; parts = b.parts; blocks = b.blocks }

abbrev pub HasBook : Inside → Type 0
HasBook b = IsBook (book_of b)
