-- The records that are listed of a block are those of its body, and among them each whose live copy lies there.
use Rattle.std.proofs.Common.{◌≡◌, ◌≢◌, inl, inr, ⊎_elim, ℕ, ◌*◌, ◌<◌, ◌≤◌, Bool, true, false, not, ◌&&◌, List, [], ◌∷◌, filter, length, sum_by}
use Rattle.std.proofs.Common.{Option, Some, None, Result, Ok, Err, refl, sym, ◌∙◌, ap, subst, arith}
use Rattle.std.specs.Prelude.{Contains, IsTrue, MatchResult, IfErr, OnErr, nat_lt, ◌==◌}
use Rattle.std.specs.List.{AllByRecursion}
use Rattle.std.proofs.lemmas.Bool.{and_parts, eq-eqb, eqb-true, false≢true, ltb-true, not-true}
use Rattle.std.proofs.lemmas.List.Elements.{Contains-append_right}
use Rattle.law_lists.proofs.Each.{all_at, all_from}
use Rattle.law_lists.proofs.Finding.{any_there, found_first, found_is}
use Rattle.law_lists.proofs.Members.{first_there, map_there, filter_from}
use Rattle.model_faults.specs.Counts.{Rose}
use Rattle.disk_model.specs.Disk.{DiskView, IsDisk, IsHonest}
use Rattle.rec_format.specs.declared.version.Digest.{Digest}
use Rattle.rec_format.specs.declared.version.Version.{Version}
use Rattle.rec_format.specs.Places.{same_digest}
use Rattle.rec_format.specs.Versions.{block_capacity}
use Rattle.rec_format.proofs.Laws.{same_digest_is, same_digest_refl}
use Rattle.model_device.specs.Book.{Setup, Book, Live, has_buffer, live_of, may_be_queued, use_of}
use Rattle.model_device.specs.Device.{State, entry}
use Rattle.model_device.specs.Legal.{queue_front, is_in_block}
use Rattle.block_format.specs.declared.geometry.Geometry.{Geometry}
use Rattle.block_format.specs.Layout.{Body, IsBody, body_bytes, most_records}
use Rattle.block_format.proofs.BodyLaws.{one_body}
use Rattle.block_flusher.specs.Images.{IsBodyOf}
use Rattle.law_images.specs.Changes.{HasRecord}
use Rattle.law_images.proofs.HeldCourses.{live_held}
use Rattle.write_buffer.specs.Buffers.{BufferState, bytes_of, body_in}
use Rattle.block_shelf.specs.declared.refusals.VacateRefusal.{VacateRefusal}
use Rattle.block_shelf.specs.declared.refusals.VacateRefusal.TheVariants.{Damaged, Memory, Fault}
use Rattle.block_shelf.specs.View.{ShelfView, IsShelf, in_memory, records_of, gate_at}
use Rattle.block_shelf.specs.Disks.{OnlyRead}
use Rattle.block_shelf.specs.Standing.{StandsFor, BooksStand, ImagesHold, IsOfEntry, HasCopy}
use Rattle.block_shelf.specs.Scans.{IsDamageOf, IsSound}
use Rattle.block_shelf.specs.Vacating.{IsDamageAt, IsToldOfRead, ListsBody, ListsIn, ListsLive, digests_in}
use Rattle.block_shelf.proofs.InMemory.{memory_all}
use Rattle.block_shelf.proofs.ReadOnly.{only_none}
use Rattle.block_shelf.proofs.Scanning.{no_error}

-- ---- a list

-- where the bytes are a body of the block, there is no damage that could be told
is_listed : (g : Geometry) (bytes : List ℕ) (block : ℕ) (P : Type 0) (result : Result (Unit {0}) VacateRefusal) → MatchResult result (λ done. P) (IsDamageOf g bytes block)
    → IfErr result (IsDamageAt block) → IsBodyOf g block bytes → (result ≡ Ok tt) × P
is_listed g bytes block P (Ok done) listed told is = (refl, listed)
is_listed g bytes block P (Err (Damaged other place)) listed told is = absurd (listed.2 is)
is_listed g bytes block P (Err Memory) listed told is = absurd told
is_listed g bytes block P (Err Fault) listed told is = absurd told

told_read : {D : Type 0} (shelf : ShelfView D) (block : ℕ) (result : Result (Unit {0}) VacateRefusal) → AllByRecursion (λ b. b.block ≢ block) (in_memory shelf) → IfErr result (IsDamageAt block)
    → IfErr result (IsToldOfRead shelf block)
told_read shelf block (Ok done) unkept told = tt
told_read shelf block (Err (Damaged other place)) unkept told = (told, unkept)
told_read shelf block (Err Memory) unkept told = told
told_read shelf block (Err Fault) unkept told = tt

no_fault : (block : ℕ) (result : Result (Unit {0}) VacateRefusal) → IfErr result (IsDamageAt block) → result ≡ Err Fault → ⊥
no_fault block result told same = subst {A = Result (Unit {0}) VacateRefusal} (λ r. IfErr r (IsDamageAt block)) same told

module _ {D : Type 0} (view : D → DiskView) (is_disk : (disk : D) → IsDisk (view disk)) (block : ℕ) (old : ShelfView D) (is : IsShelf view old) (digests : List Digest)
    (result : Result (Unit {0}) VacateRefusal) where
  -- of a buffer in memory
  pub lists_memory : (b : BufferState) → Contains (in_memory old) b → b.block ≡ block → ((other : BufferState) → Contains (in_memory old) other → other.block ≡ block → other ≡ b)
      → IsBody (block_capacity old.geometry.block_size) (bytes_of b) (body_in b)
      → MatchResult result (λ done. ListsBody old.geometry (bytes_of b) block digests) (IsDamageOf old.geometry (bytes_of b) block)
      → IfErr result (IsDamageAt block) → length digests ≤ most_records (block_capacity old.geometry.block_size) → ListsIn view block old old digests result
  lists_memory b there at only is_body listed told few =
      let done = is_listed old.geometry (bytes_of b) block (ListsBody old.geometry (bytes_of b) block digests) result listed told (body_in b, is_body, at) in
      let same : done.1.body ≡ body_in b =
      one_body (block_capacity old.geometry.block_size) (block_capacity old.geometry.block_size) (bytes_of b) done.1.body (body_in b) done.1.is_body is_body (done.1.placed ∙ sym at) in
      subst (λ (r : Result (Unit {0}) VacateRefusal). ListsIn view block old old digests r) (sym done.0) (record {
        place = inl (b, there, at);
        kept = λ other other_there other_at. (
          refl,
          done.1.digests_are ∙ ap (λ (x : Body). digests_in x.records) same ∙ ap (λ (x : BufferState). digests_in x.records) (sym (only other other_there other_at)),
          refl,
        );
        read = λ tells unkept. absurd (all_at (λ (c : BufferState). c.block ≢ block) (in_memory old) b unkept there at);
        told = tt;
        none = tt;
        few = few;
        cause = λ same. absurd (no_error tt Fault same);
        disk = only_none (view old.disk) (is_disk old.disk);
        whole = is;
        rest = refl;
      })

  -- of the disk
  module _ (unkept : AllByRecursion (λ b. b.block ≢ block) (in_memory old)) (disk : D) (only : OnlyRead (view old.disk) (view disk)) where
    pub lists_disk : ((view old.disk).tells
        → let bytes = body_bytes old.geometry block (view old.disk).seen in MatchResult result (λ done. ListsBody old.geometry bytes block digests) (IsDamageOf old.geometry bytes block))
        → IfErr result (IsToldOfRead old block) → OnErr result (digests ≡ []) → length digests ≤ most_records (block_capacity old.geometry.block_size)
        → (result ≡ Err Fault → Rose (view old.disk).faults (view disk).faults) → ListsIn view block old (record old { disk = disk }) digests result
    lists_disk read told none few cause = record {
      place = inr unkept;
      kept = λ b there at. absurd (all_at (λ (c : BufferState). c.block ≢ block) (in_memory old) b unkept there at);
      read = λ tells apart. read tells;
      told = told;
      none = none;
      few = few;
      cause = cause;
      disk = only;
      whole = is;
      rest = refl;
    }

    -- read as a body, or damaged
    pub lists_read : ((view old.disk).tells
        → let bytes = body_bytes old.geometry block (view old.disk).seen in MatchResult result (λ done. ListsBody old.geometry bytes block digests) (IsDamageOf old.geometry bytes block))
        → IfErr result (IsDamageAt block) → OnErr result (digests ≡ []) → length digests ≤ most_records (block_capacity old.geometry.block_size)
        → ListsIn view block old (record old { disk = disk }) digests result
    lists_read read told none few = lists_disk read (told_read old block result unkept told) none few (λ same. absurd (no_fault block result told same))

-- the shelf before is the same
pub lists_of : {D : Type 0} (was old : ShelfView D) → was ≡ old → (view : D → DiskView) (block : ℕ) (new : ShelfView D) (digests : List Digest) (result : Result (Unit {0}) VacateRefusal)
    → ListsIn view block was new digests result → ListsIn view block old new digests result
lists_of {D} was old same view block new digests result lists = subst (λ (v : ShelfView D). ListsIn view block v new digests result) same lists

-- ---- a block that waits

front_there : (blocks : List ℕ) (block : ℕ) → queue_front blocks ≡ Some block → Contains blocks block
front_there [] block front = let clash : ◌≡◌ {A = Option ℕ} None (Some block) = front in cc
front_there (b ∷ blocks) block front = let same : b ≡ block = cc in subst (Contains (b ∷ blocks)) same (first_there b blocks)

-- it has no buffer, and something in it is live
waiting_parts : (setup : Setup) (book : Book) (block : ℕ) → may_be_queued setup book block ≡ true → (has_buffer book block ≡ false) × (0 < use_of book block)
waiting_parts setup book block may =
    let front = and_parts (not (has_buffer book block)) (nat_lt 0 (use_of book block))
    (and_parts (not (has_buffer book block) && nat_lt 0 (use_of book block)) (nat_lt (use_of book block * 100) (setup.lwm * setup.capacity)) may).0 in
    (not-true (has_buffer book block) front.0, ltb-true 0 (use_of book block) front.1)

live_there : (book : Book) (block : ℕ) → 0 < use_of book block → (l : Live) × Contains book.live l × (l.block ≡ block)
live_there book block some = by (filter here book.live) refl
  where
    here : Live → Bool
    here l = l.block == block

    by : (ls : List Live) → filter here book.live ≡ ls → (l : Live) × Contains book.live l × (l.block ≡ block)
    by [] none = absurd (omega (arith, some, ap (sum_by (λ (l : Live). l.units)) none))
    by (l ∷ ls) is =
        let from = filter_from here book.live l (subst (λ (xs : List Live). Contains xs l) (sym is) (first_there l ls)) in
        (l, from.0, eqb-true l.block block from.1)

module _ {D : Type 0} (view : D → DiskView) (setup : Setup) (old : ShelfView D) (s : State) (honest : IsHonest (view old.disk)) (stands : StandsFor setup old s)
    (queued : BooksStand setup old s) (safe : ImagesHold setup view old s) (is : IsShelf view old) (block : ℕ) (front : queue_front old.queue.queue ≡ Some block) where
  abbrev g : Geometry
  g = old.geometry

  abbrev seen : List ℕ
  seen = (view old.disk).seen

  abbrev bytes : List ℕ
  bytes = body_bytes g block seen

  parts : (has_buffer s.book block ≡ false) × (0 < use_of s.book block)
  parts =
      let there = front_there old.queue.queue block front in
      let below : block < g.blocks = all_at (λ b. b < g.blocks) old.queue.queue block is.queue.below there in
      let within : block < setup.blocks = subst (λ (n : ℕ). block < n) (sym safe.held.shape.blocks) below in
      waiting_parts setup s.book block
      (sym (queued.all block within) ∙ any_there (λ b. b == block) s.book.queue block (subst (λ (bs : List ℕ). Contains bs block) (sym queued.same) there) (eq-eqb block block refl))

  -- the disk shows the live copies that lie in it
  module _ (digest : Digest) (l : Live) (live : live_of digest s.book.live ≡ Some l) (at : l.block ≡ block) where
    found : Contains s.book.live l × (same_digest digest l.digest ≡ true)
    found = found_is (Contains s.book.live) (λ m. same_digest digest m.digest) s.book.live l (all_from (Contains s.book.live) s.book.live (λ m there. there)) live

    of : IsOfEntry g old.buffers s l
    of = stands.entries l found.0

    entry_is : entry s digest ≡ Some of.version
    entry_is = ap (entry s) (same_digest_is digest l.digest found.1) ∙ of.entry_is

    shown : HasRecord g seen l.block digest of.version
    shown = live_held setup g s (records_of old.buffers) (gate_at old.gates) (view old.disk).may_leave digest l of.version safe.held live entry_is
        (subst (λ (k : ℕ). has_buffer s.book k ≡ false) (sym at) parts.0) seen honest.image

    shown_at : shown.body.block ≡ block
    shown_at = shown.placed ∙ at

    shown_body : IsBody (block_capacity g.block_size) bytes shown.body
    shown_body = subst (λ (k : ℕ). IsBody (block_capacity g.block_size) (body_bytes g k seen) shown.body) shown_at shown.shown.is_body

    listed_body : (digests : List Digest) → ListsBody g bytes block digests → Contains digests digest
    listed_body digests lists =
        let same : shown.body ≡ lists.body =
        one_body (block_capacity g.block_size) (block_capacity g.block_size) bytes shown.body lists.body shown_body lists.is_body (shown_at ∙ sym lists.placed) in
        let there : Contains lists.body.records (digest, of.version) = subst (λ (b : Body). Contains b.records (digest, of.version)) same shown.has in
        subst (λ (ds : List Digest). Contains ds digest) (sym lists.digests_are) (map_there (λ (r : Digest × Version). r.0) lists.body.records (digest, of.version) there)

    has_copy : (b : BufferState) → Contains (in_memory old) b → b.block ≡ block → HasCopy b l.unit digest of.version
    has_copy b there b_at =
        all_at (λ (c : BufferState). c.block ≡ l.block → HasCopy c l.unit digest of.version) (in_memory old) b
        (memory_all g (λ c. HasCopy c l.unit digest of.version) l.block old is.cache.each
        (subst (λ (d : Digest). AllByRecursion (λ c. c.block ≡ l.block → HasCopy c l.unit d of.version) old.buffers) (sym (same_digest_is digest l.digest found.1)) of.lies.buffered)
        (stands.kept digest l of.version live entry_is)) there (b_at ∙ sym at)

    listed_kept : (b : BufferState) → Contains (in_memory old) b → b.block ≡ block → Contains (digests_in b.records) digest
    listed_kept b there b_at =
        let copy = has_copy b there b_at in
        let r : Digest × Version = (digest, copy.copy) in
        map_there (λ (x : Digest × Version). x.0) b.records r
        (subst (λ (rs : List (Digest × Version)). Contains rs r) (sym copy.there.parts) (Contains-append_right copy.there.before (r ∷ copy.there.behind) r (first_there r copy.there.behind)))

  -- so a body stands there
  pub body_there : IsBodyOf g block bytes
  body_there =
      let one = live_there s.book block parts.1 in
      let l : Live = one.0 in
      let y = found_first (λ (m : Live). same_digest l.digest m.digest) s.book.live l one.1 (same_digest_refl l.digest) in
      let same : l ≡ y.0 = stands.listed.one l y.0 one.1 y.2 y.3 in
      let live : live_of l.digest s.book.live ≡ Some l = y.1 ∙ ap Some (sym same) in
      ((shown l.digest l live one.2).body, shown_body l.digest l live one.2, shown_at l.digest l live one.2)

  -- nothing of it is damaged
  pub next_sound : (refusal : VacateRefusal) → ((view old.disk).tells → AllByRecursion (λ b. b.block ≢ block) (in_memory old) → IsDamageOf g bytes block refusal)
      → IsToldOfRead old block refusal → IsSound refusal
  next_sound (Damaged other place) read told = (read honest.told told.1).2 body_there
  next_sound Memory read told = tt
  next_sound Fault read told = tt

  -- and each record whose live copy lies there is listed
  pub next_all : (new : ShelfView D) (digests : List Digest) → ListsIn view block old new digests (Ok tt) → ListsLive s.book block digests
  next_all new digests lists digest lies = by (live_of digest s.book.live) refl lies
    where
      by : (o : Option Live) → live_of digest s.book.live ≡ o → IsTrue (is_in_block block o) → Contains digests digest
      by None none lies = absurd (false≢true lies)
      by (Some l) live lies =
          let at : l.block ≡ block = eqb-true l.block block lies in
          ⊎_elim
          (λ (kept : (b : BufferState) × Contains (in_memory old) b × (b.block ≡ block)).
          subst (λ (ds : List Digest). Contains ds digest) (sym (lists.kept kept.0 kept.1 kept.2).1) (listed_kept digest l live at kept.0 kept.1 kept.2))
          (λ (unkept : AllByRecursion (λ b. b.block ≢ block) (in_memory old)). listed_body digest l live at digests (lists.read honest.told unkept))
          lists.place
