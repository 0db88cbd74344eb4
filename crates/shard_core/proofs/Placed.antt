-- What a write makes of the book: the buffer that takes it, the live copies, and the buffers up to it.
use Rattle.std.proofs.Common.{◌≡◌, ℕ, ◌+◌, Bool, true, false, cond, ◌&&◌, List, [], ◌∷◌, map, refl, ap, ◌∙◌}
use Rattle.std.specs.Prelude.{Some, ◌==◌}
use Rattle.rec_format.specs.declared.version.Digest.{Digest}
use Rattle.rec_format.specs.declared.version.Version.{Version}
use Rattle.rec_format.specs.Places.{same_digest}
use Rattle.rec_format.specs.Versions.{version_units}
use Rattle.model_device.specs.Book.{Setup, Book, Buffer, Live, client, is_filling, same_stream, filling_buffer, has_room, with_new_buffer, with_room, used_more}
use Rattle.model_device.specs.Book.{put_in, placed, refreshed, placing_number, live_of, without_live}
use Rattle.model_device.specs.Device.{State}
use Rattle.model_device.specs.Steps.{wrote, after_step}
use Rattle.rec_format.proofs.Laws.{same_digest_refl}
use Rattle.law_start.proofs.Placing.{Room, room_of}

-- ---- the buffer that takes a copy

abbrev takes : Buffer → Bool
takes b = same_stream client b.stream && is_filling b.phase

-- it still takes records, in the same block
used_takes : (n units : ℕ) (b : Buffer) → takes (used_more n units b) ≡ takes b
used_takes n units b = by (b.number == n)
  where
    by : (c : Bool) → takes (cond c (record b { used = b.used + units }) b) ≡ takes b
    by true = refl
    by false = refl

used_block : (n units : ℕ) (b : Buffer) → (used_more n units b).block ≡ b.block
used_block n units b = by (b.number == n)
  where
    by : (c : Bool) → (let x : Buffer = cond c (record b { used = b.used + units }) b in x.block) ≡ b.block
    by true = refl
    by false = refl

used_found : (n units : ℕ) (bs : List Buffer) (b : Buffer) → filling_buffer client bs ≡ Some b → filling_buffer client (map (used_more n units) bs) ≡ Some (used_more n units b)
used_found n units [] b found = absurd (cc)
used_found n units (x ∷ xs) b found = by (takes x) refl found (used_found n units xs b)
  where
    by : (c : Bool) → takes x ≡ c → cond c (Some x) (filling_buffer client xs) ≡ Some b
        → (filling_buffer client xs ≡ Some b → filling_buffer client (map (used_more n units) xs) ≡ Some (used_more n units b))
        → filling_buffer client (map (used_more n units) (x ∷ xs)) ≡ Some (used_more n units b)
    by true is here rest =
        let same : x ≡ b = cc in
        ap (λ (c : Bool). cond c (Some (used_more n units x)) (filling_buffer client (map (used_more n units) xs))) (used_takes n units x ∙ is) ∙ ap (λ (y : Buffer). Some (used_more n units y)) same
    by false is here rest = ap (λ (c : Bool). cond c (Some (used_more n units x)) (filling_buffer client (map (used_more n units) xs))) (used_takes n units x ∙ is) ∙ rest here

-- ---- the book behind a write

abbrev pub copy_in : Digest → ℕ → Buffer → Live
copy_in digest units b = record { digest = digest; block = b.block; unit = b.used; units = units }

room_live : (setup : Setup) (units : ℕ) (book : Book) → (with_room setup client units book).live ≡ book.live
room_live setup units book = by (has_room setup client units book)
  where
    by : (c : Bool) → (let b : Book = cond c book (with_new_buffer client book) in b.live) ≡ book.live
    by true = refl
    by false = refl

module _ (setup : Setup) (digest : Digest) (units : ℕ) (book : Book) where
  abbrev ready : Book
  ready = with_room setup client units book

  abbrev room : Room client ready (placing_number setup client units book)
  room = room_of setup client units book

  put_is : placed setup client digest units book ≡ put_in setup digest units ready (Some room.buffer)
  unfolding placed
  put_is = ap (put_in setup digest units ready) room.found

  buffers_are : (placed setup client digest units book).buffers ≡ map (used_more room.buffer.number units) ready.buffers
  unfolding refreshed
  buffers_are = ap (λ (b : Book). b.buffers) put_is

  live_are : (placed setup client digest units book).live ≡ copy_in digest units room.buffer ∷ without_live digest book.live
  unfolding refreshed
  live_are = ap (λ (b : Book). b.live) put_is ∙ ap (λ (l : List Live). copy_in digest units room.buffer ∷ without_live digest l) (room_live setup units book)

  filling_is : filling_buffer client (placed setup client digest units book).buffers ≡ Some (used_more room.buffer.number units room.buffer)
  filling_is = ap (filling_buffer client) buffers_are ∙ used_found room.buffer.number units ready.buffers room.buffer room.found

-- the live copy of the digest that was written
live_hit : (digest : Digest) (l : Live) (live : List Live) → same_digest digest l.digest ≡ true → live_of digest (l ∷ live) ≡ Some l
live_hit digest l live same = rw same refl

-- its number

used_number : (n units : ℕ) (b : Buffer) → (used_more n units b).number ≡ b.number
used_number n units b = by (b.number == n)
  where
    by : (c : Bool) → (let x : Buffer = cond c (record b { used = b.used + units }) b in x.number) ≡ b.number
    by true = refl
    by false = refl

-- ---- the step

module _ (setup : Setup) (s : State) (digest : Digest) (v : Version) where
  abbrev after : State
  after = after_step setup (wrote digest v) s

  abbrev own_taker : Buffer
  own_taker = (room_of setup client (version_units v) s.book).buffer

  book_is : after.book ≡ placed setup client digest (version_units v) s.book
  unfolding after_step
  book_is = refl

  wrote_live : live_of digest after.book.live ≡ Some (copy_in digest (version_units v) own_taker)
  wrote_live = ap (λ (b : Book). live_of digest b.live) book_is ∙ ap (live_of digest) (live_are setup digest (version_units v) s.book)
      ∙ live_hit digest (copy_in digest (version_units v) own_taker) (without_live digest s.book.live) (same_digest_refl digest)

  -- the buffer that is filled is in the block of the copy
  pub record Filled : Type 0 where
    pub buffer : Buffer
    pub found : filling_buffer client after.book.buffers ≡ Some buffer
    pub taker : Buffer
    pub block : buffer.block ≡ taker.block
    pub number : buffer.number ≡ placing_number setup client (version_units v) s.book
    pub live : live_of digest after.book.live ≡ Some (copy_in digest (version_units v) taker)

  pub wrote_filling : Filled
  wrote_filling = record {
    buffer = used_more own_taker.number (version_units v) own_taker;
    found = ap (λ (b : Book). filling_buffer client b.buffers) book_is ∙ filling_is setup digest (version_units v) s.book;
    taker = own_taker;
    block = used_block own_taker.number (version_units v) own_taker;
    number = used_number own_taker.number (version_units v) own_taker ∙ (room_of setup client (version_units v) s.book).same;
    live = wrote_live;
  }
