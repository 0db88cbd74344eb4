-- What a shelf does with a block leaves a set of images that is kept.
use Rattle.std.proofs.Common.{◌≡◌, ◌≢◌, ◌⊎◌, inl, inr, ⊎_elim, ℕ, true, false, List, refl, sym, ◌∙◌, ap, subst}
use Rattle.std.proofs.lemmas.Bool.{cases_eq, both_ways, eq-eqb}
use Rattle.std.specs.Prelude.{Contains, ◌==◌}
use Rattle.std.specs.List.{AllByRecursion}
use Rattle.law_lists.proofs.Each.{all_at, all_from}
use Rattle.law_lists.proofs.Finding.{any_there}
use Rattle.rec_format.specs.declared.version.Digest.{Digest}
use Rattle.rec_format.specs.declared.version.Version.{Version}
use Rattle.model_device.specs.Book.{Setup, Book, has_buffer}
use Rattle.model_device.specs.Device.{State}
use Rattle.disk_model.specs.Disk.{Images, Within}
use Rattle.block_format.specs.declared.geometry.Geometry.{Geometry}
use Rattle.block_format.specs.Layout.{IsOpen, IsClosed, gate_sector, Body}
use Rattle.block_format.specs.Copies.{IsReadable}
use Rattle.law_start.specs.Writes.{DiffersIn}
use Rattle.law_facts.proofs.Stay.{facts_become}
use Rattle.law_trail.specs.Trail.{Records, WaitsIn, places_of, NotFree}
use Rattle.law_trail.proofs.Carrying.{bodies_kept}
use Rattle.law_trail.proofs.Places.{buffer_place}
use Rattle.law_trail.proofs.Records.{begun_records}
use Rattle.law_images.specs.Kept.{Shows, HaveBegun, Upholds, IsLeftIn, possible_in, IsKept}
use Rattle.law_images.specs.Changes.{ChangesIn, ShowsRecords, OpensOver, OpensAsBefore, BringsNone, IsOpening}
use Rattle.law_images.proofs.Reading.{IsClear, one_shown, body_shown, shown_there, shown_still, shown_before, readable_changed}

-- ---- other images

-- where each image upholds the state, and each of its copies was possible before
pub images_kept : (setup : Setup) (g : Geometry) (s : State) (records : Records) (before now : Images) → ((c : List ℕ) → now c → Upholds g s records c)
    → BringsNone g s.book records before now → IsKept setup g s records before → IsKept setup g s records now
images_kept setup g s records before now upheld were kept = record {
  shape = kept.shape;
  geometry = kept.geometry;
  order = kept.order;
  facts = facts_become setup s (possible_in g s.book records before) (possible_in g s.book records now)
      (λ block digest v possible. inl (⊎_elim (λ (waits : (number : ℕ) × WaitsIn s.book records number block digest v). inl waits)
      (λ (left : IsLeftIn g now block digest v). were block digest v left) possible)) kept.facts;
  upheld = upheld;
}

pub fewer_brings : (g : Geometry) (book : Book) (records : Records) (before now : Images) → Within before now → BringsNone g book records before now
fewer_brings g book records before now fewer block digest v left =
    inr (record { image = left.image; is_left = fewer left.image left.is_left; body = left.body; shown = left.shown; placed = left.placed; has = left.has })

-- A read, or a sync that fails: each image is one of those before.
pub fewer_kept : (setup : Setup) (g : Geometry) (s : State) (records : Records) (before now : Images) → Within before now → IsKept setup g s records before → IsKept setup g s records now
fewer_kept setup g s records before now fewer kept =
    images_kept setup g s records before now (λ c image. kept.upheld c (fewer c image)) (fewer_brings g s.book records before now fewer) kept

-- ---- a block changes

-- a block is one in which no trail ends: it is free, or a pending buffer has it
abbrev IsApart : Book → ℕ → Type 0
IsApart book block = Contains book.free block ⊎ (has_buffer book block ≡ true)

module _ (setup : Setup) (g : Geometry) (s : State) (records : Records) (before now : Images) (block : ℕ) (changes : ChangesIn g block before now) (kept : IsKept setup g s records before) where
  -- what an image shows now in this block has begun, and was possible
  abbrev MayBeShown : List ℕ → Type 0
  MayBeShown c = (body : Body) → body.block ≡ block → Shows g c body → HaveBegun s body.records × AllByRecursion (λ r. possible_in g s.book records before block r.0 r.1) body.records

  were_possible : ((c : List ℕ) → now c → MayBeShown c) → BringsNone g s.book records before now
  were_possible may k digest v left =
      ⊎_elim (λ (e : k ≡ block). subst (λ (x : ℕ). possible_in g s.book records before x digest v) (sym e)
      (all_at (λ r. possible_in g s.book records before block r.0 r.1) left.body.records (digest, v) (may left.image left.is_left left.body (left.placed ∙ e) left.shown).1 left.has))
      (λ (other : k ≢ block). let was = changes left.image left.is_left in
      inr (record {
        image = was.0;
        is_left = was.1;
        body = left.body;
        shown = shown_before g block was.0 left.image was.2 left.body (λ e. other (sym left.placed ∙ e)) left.shown;
        placed =
            left.placed;
        has = left.has;
      })) (cases_eq k block)

  module _ (c : List ℕ) (image : now c) where
    was : (d : List ℕ) × before d × DiffersIn g block d c
    was = changes c image

    upheld_before : Upholds g s records was.0
    upheld_before = kept.upheld was.0 was.1

    -- with other bodies, of which those of other blocks are the same
    upheld_with : (bodies : List Body) → IsReadable c g bodies → MayBeShown c
        → ((x : Body) → Contains upheld_before.bodies x → has_buffer s.book x.block ≡ false → NotFree s.book x.block → Contains bodies x) → Upholds g s records c
    upheld_with bodies r may stay = record {
      bodies = bodies;
      readable = r;
      begun = all_from (λ b. HaveBegun s b.records) bodies (λ b there. let is = body_shown g c bodies b r there in
          ⊎_elim (λ (e : b.block ≡ block). (may b e is).0)
          (λ (other : b.block ≢ block). all_at (λ x. HaveBegun s x.records) upheld_before.bodies b upheld_before.begun
          (shown_there g was.0 upheld_before.bodies b upheld_before.readable (shown_before g block was.0 c was.2 b other is))) (cases_eq b.block block));
      trailed = bodies_kept s records upheld_before.bodies bodies kept.order.booked stay upheld_before.trailed;
    }

    -- a body of another block is still there
    still_there : (bodies : List Body) → IsReadable c g bodies → (x : Body) → x.block ≢ block → Contains upheld_before.bodies x → Contains bodies x
    still_there bodies r x other there = shown_there g c bodies x r (shown_still g block was.0 c was.2 x other (body_shown g was.0 upheld_before.bodies x upheld_before.readable there))

  -- a block in which no trail ends
  pub apart_kept : IsApart s.book block → ((c : List ℕ) → now c → IsClear g c block) → ((c : List ℕ) → now c → MayBeShown c) → IsKept setup g s records now
  apart_kept apart clear may = images_kept setup g s records before now upheld (were_possible may) kept
    where
      not_it : (x : Body) → has_buffer s.book x.block ≡ false → NotFree s.book x.block → x.block ≢ block
      not_it x none used e =
          ⊎_elim (λ (free : Contains s.book.free block). all_at (λ b. b ≢ x.block) s.book.free block used free (sym e))
          (λ (has : has_buffer s.book block ≡ true). both_ways (has_buffer s.book x.block) none (ap (has_buffer s.book) e ∙ has)) apart

      upheld : (c : List ℕ) → now c → Upholds g s records c
      upheld c image =
          let others = readable_changed g block (was c image).0 c (was c image).2 (upheld_before c image).bodies (upheld_before c image).readable (clear c image) in
          upheld_with c image others.0 others.1 (may c image) (λ x there none used. still_there c image others.0 others.1 x (not_it x none used) there)

  -- behind a gate that is closed nothing is shown
  none_shown : ((c : List ℕ) → now c → IsClosed (gate_sector g block c)) → (c : List ℕ) → now c → MayBeShown c
  none_shown still c image body placed is = absurd (still c image (subst (λ (k : ℕ). IsOpen (gate_sector g k c)) placed is.is_open))

  pub behind_brings : ((c : List ℕ) → now c → IsClosed (gate_sector g block c)) → BringsNone g s.book records before now
  behind_brings still = were_possible (none_shown still)

  -- A block changes behind a gate that is closed before and after.
  pub behind_kept : ((c : List ℕ) → before c → IsClosed (gate_sector g block c)) → ((c : List ℕ) → now c → IsClosed (gate_sector g block c)) → IsKept setup g s records now
  behind_kept shut still = images_kept setup g s records before now upheld (behind_brings still) kept
    where
      upheld : (c : List ℕ) → now c → Upholds g s records c
      upheld c image =
          let others = readable_changed g block (was c image).0 c (was c image).2 (upheld_before c image).bodies (upheld_before c image).readable (inl (still c image)) in
          upheld_with c image others.0 others.1 (none_shown still c image)
          (λ x there free used. still_there c image others.0 others.1 x
          (λ e. shut (was c image).0 (was c image).1 (subst (λ (k : ℕ). IsOpen (gate_sector g k (was c image).0)) e
          (body_shown g (was c image).0 (upheld_before c image).bodies x (upheld_before c image).readable there).is_open)) there)

  -- what is shown was shown before
  as_before : OpensAsBefore g block before now → (c : List ℕ) → now c → MayBeShown c
  as_before opens c image body placed shown = by (opens c image)
    where
      of : (d : List ℕ) → before d → Shows g d body → HaveBegun s body.records × AllByRecursion (λ r. possible_in g s.book records before block r.0 r.1) body.records
      of d left is = (
        all_at (λ b. HaveBegun s b.records) (kept.upheld d left).bodies body (kept.upheld d left).begun (shown_there g d (kept.upheld d left).bodies body (kept.upheld d left).readable is),
        all_from (λ r. possible_in g s.book records before block r.0 r.1) body.records (λ r has. inr (record { image = d; is_left = left; body = body; shown = is; placed = placed; has = has })),
      )

      by : IsClosed (gate_sector g block c) ⊎ ((old : Body) × (old.block ≡ block) × Shows g c old × (d : List ℕ) × before d × Shows g d old) → HaveBegun s body.records
          × AllByRecursion (λ r. possible_in g s.book records before block r.0 r.1) body.records
      by (inl closed) = absurd (closed (subst (λ (k : ℕ). IsOpen (gate_sector g k c)) placed shown.is_open))
      by (inr is) = of is.3 is.4 (subst (Shows g is.3) (one_shown g c is.0 body is.2 shown (is.1 ∙ sym placed)) is.5)

  pub closing_brings : OpensAsBefore g block before now → BringsNone g s.book records before now
  closing_brings opens = were_possible (as_before opens)

  -- The gate of a free block is closed: an image has it closed, or shows a body that it showed in an image before.
  pub closing_kept : Contains s.book.free block → OpensAsBefore g block before now → IsKept setup g s records now
  closing_kept free opens = apart_kept (inl free) clear (as_before opens)
    where
      clear : (c : List ℕ) → now c → IsClear g c block
      clear c image = by (opens c image)
        where
          by : IsClosed (gate_sector g block c) ⊎ ((body : Body) × (body.block ≡ block) × Shows g c body × (d : List ℕ) × before d × Shows g d body) → IsClear g c block
          by (inl closed) = inl closed
          by (inr is) = inr (record { body = is.0; placed = is.1; shown = is.2 })

  -- The gate of a pending buffer is opened: an image has it closed, or the records of the buffer stand behind it.
  pub opening_kept : (number : ℕ) → IsOpening s.book number block → OpensOver g block (records number) now → IsKept setup g s records now
  opening_kept number opening opens = apart_kept (inr has) clear may
    where
      has : has_buffer s.book block ≡ true
      has = buffer_place s.book block ∙ any_there (λ (p : ℕ × ℕ). p.1 == block) (places_of s.book) (number, block) opening.placed (eq-eqb block block refl)

      clear : (c : List ℕ) → now c → IsClear g c block
      clear c image = by (opens c image)
        where
          by : IsClosed (gate_sector g block c) ⊎ ShowsRecords g c block (records number) → IsClear g c block
          by (inl closed) = inl closed
          by (inr is) = inr (record { body = is.body; placed = is.placed; shown = is.shown })

      own : HaveBegun s (records number) × AllByRecursion (λ r. possible_in g s.book records before block r.0 r.1) (records number)
      own = (
        begun_records s records number kept.order.written opening.begun,
        all_from (λ r. possible_in g s.book records before block r.0 r.1) (records number) (λ r there. inl (number, record { placed = opening.placed; has = there })),
      )

      may : (c : List ℕ) → now c → MayBeShown c
      may c image body placed shown = by (opens c image)
        where
          by : IsClosed (gate_sector g block c) ⊎ ShowsRecords g c block (records number) → HaveBegun s body.records
              × AllByRecursion (λ r. possible_in g s.book records before block r.0 r.1) body.records
          by (inl closed) = absurd (closed (subst (λ (k : ℕ). IsOpen (gate_sector g k c)) placed shown.is_open))
          by (inr is) =
              subst (λ (l : List (Digest × Version)). HaveBegun s l × AllByRecursion (λ r. possible_in g s.book records before block r.0 r.1) l)
              (sym is.same ∙ ap (λ (b : Body). b.records) (one_shown g c is.body body is.shown shown (is.placed ∙ sym placed))) own
