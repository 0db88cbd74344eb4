-- A buffer between others comes to a later phase, or leaves.
use Rattle.std.proofs.Common.{◌≡◌, ◌≢◌, ℕ, Bool, false, not, ◌&&◌, List, [], ◌∷◌, ◌++◌, map, refl, sym, ap, ◌∙◌, subst}
use Rattle.std.specs.Prelude.{◌==◌, filter}
use Rattle.std.specs.List.{AllByRecursion}
use Rattle.std.proofs.lemmas.Bool.{both_ways, cond-true, cond-false, eq-eqb, ne_eqb}
use Rattle.std.proofs.lemmas.List.{map-append}
use Rattle.law_lists.proofs.Between.{all_own, all_without, all_instead, map_instead}
use Rattle.law_lists.proofs.Each.{all_map, all_parted, all_joined, all_before_map, all_to_map}
use Rattle.law_lists.proofs.Finding.{any_none}
use Rattle.rec_format.specs.declared.version.Digest.{Digest}
use Rattle.rec_format.specs.declared.version.Version.{Version}
use Rattle.model_device.specs.Book.{Book, Buffer, opened_if}
use Rattle.write_buffer.specs.declared.phase.Phase.{Phase}
use Rattle.write_buffer.specs.declared.phase.Phase.TheVariants.{GateBegun}
use Rattle.write_buffer.specs.Buffers.{BufferState, with_phase}
use Rattle.law_trail.specs.Trail.{Records, KeepsRecords, places_of}
use Rattle.law_trail.specs.Numbers.{AddsNone}
use Rattle.law_images.specs.Changes.{records_by}
use Rattle.law_images.proofs.Buffers.{records_found, left_keeps, left_adds_none}
use Rattle.block_shelf.specs.View.{StandsBefore, StandInOrder, AreApart, is_stream, is_unsealed, records_of}
use Rattle.block_shelf.specs.Standing.{book_buffer}
use Rattle.block_shelf.specs.Changes.{has_buffer_in}
use Rattle.block_shelf.proofs.Filling.{numbers_apart}

-- ---- numbers in order

pub order_phase : (p : Phase) → is_unsealed p ≡ false → (front : List BufferState) (b : BufferState) (behind : List BufferState) → StandInOrder (front ++ b ∷ behind)
    → StandInOrder (front ++ with_phase p b ∷ behind)
order_phase p sealed [] b behind order =
    (all_map (StandsBefore b) (StandsBefore (with_phase p b)) behind (λ c h. record { below = h.below; alone = λ is. absurd (both_ways (is_unsealed p) sealed is) }) order.0, order.1)
order_phase p sealed (c ∷ front) b behind order =
    let own = all_own (StandsBefore c) front b behind order.0 in (
      all_instead (StandsBefore c) front b (with_phase p b) behind order.0 (record { below = own.below; alone = λ is. ap (λ (t : Bool). t && is_stream c.stream b.stream) sealed }),
      order_phase p sealed front b behind order.1,
    )

pub order_without : (front : List BufferState) (b : BufferState) (behind : List BufferState) → StandInOrder (front ++ b ∷ behind) → StandInOrder (front ++ behind)
order_without [] b behind order = order.1
order_without (c ∷ front) b behind order = (all_without (StandsBefore c) front b behind order.0, order_without front b behind order.1)

-- all others have other numbers
pub others_numbered : (front : List BufferState) (b : BufferState) (behind : List BufferState) → StandInOrder (front ++ b ∷ behind) → AllByRecursion (λ c. c.number ≢ b.number) (front ++ behind)
others_numbered front b behind order = let two = numbers_apart front b behind order in all_joined (λ c. c.number ≢ b.number) front behind two.0 two.1

-- ---- blocks of their own

module _ (front : List BufferState) (b : BufferState) (behind : List BufferState) (free : List ℕ) (apart : AreApart (map (λ c. c.block) (front ++ b ∷ behind) ++ free)) where
  pub others_apart : AllByRecursion (λ c. c.block ≢ b.block) (front ++ behind)
  others_apart = over front apart
    where
      over : (bs : List BufferState) → AreApart (map (λ c. c.block) (bs ++ b ∷ behind) ++ free) → AllByRecursion (λ c. c.block ≢ b.block) (bs ++ behind)
      over [] is = all_before_map (λ c. c.block ≢ b.block) (λ k. b.block ≢ k) (λ c. c.block) (λ c other same. other (sym same)) behind
          (all_parted (λ k. b.block ≢ k) (map (λ c. c.block) behind) free is.0).0
      over (c ∷ bs) is = (
        all_own (λ d. c.block ≢ d.block) bs b behind (all_before_map (λ d. c.block ≢ d.block) (λ k. c.block ≢ k) (λ d. d.block) (λ d other. other) (bs ++ b ∷ behind)
            (all_parted (λ k. c.block ≢ k) (map (λ d. d.block) (bs ++ b ∷ behind)) free is.0).0),
        over bs is.1,
      )

  -- so none of them has the block
  pub no_buffer_has : has_buffer_in (front ++ behind) b.block ≡ false
  no_buffer_has = any_none (λ c. c.block == b.block) (front ++ behind)
      (all_map (λ c. c.block ≢ b.block) (λ c. (c.block == b.block) ≡ false) (front ++ behind) (λ c other. ne_eqb c.block b.block other) others_apart)

  pub free_apart : AllByRecursion (λ k. b.block ≢ k) free
  free_apart = over front apart
    where
      over : (bs : List BufferState) → AreApart (map (λ c. c.block) (bs ++ b ∷ behind) ++ free) → AllByRecursion (λ k. b.block ≢ k) free
      over [] is = (all_parted (λ k. b.block ≢ k) (map (λ c. c.block) behind) free is.0).1
      over (c ∷ bs) is = over bs is.1

  pub apart_without : AreApart (map (λ c. c.block) (front ++ behind) ++ free)
  apart_without = over front apart
    where
      still : (c : BufferState) (bs : List BufferState) → AllByRecursion (λ k. c.block ≢ k) (map (λ d. d.block) (bs ++ b ∷ behind) ++ free)
          → AllByRecursion (λ k. c.block ≢ k) (map (λ d. d.block) (bs ++ behind) ++ free)
      still c [] all = all.1
      still c (d ∷ bs) all = (all.0, still c bs all.1)

      over : (bs : List BufferState) → AreApart (map (λ c. c.block) (bs ++ b ∷ behind) ++ free) → AreApart (map (λ c. c.block) (bs ++ behind) ++ free)
      over [] is = is.1
      over (c ∷ bs) is = (still c bs is.0, over bs is.1)

-- ---- what the book makes of it

abbrev pub named : BufferState → ℕ × List (Digest × Version)
named c = (c.number, c.records)

module _ (front : List BufferState) (b : BufferState) (behind : List BufferState) where
  -- a later phase leaves numbers and records
  pub records_same : (p : Phase) → records_of (front ++ with_phase p b ∷ behind) ≡ records_of (front ++ b ∷ behind)
  records_same p = ap records_by (map_instead named front b (with_phase p b) behind refl)

  module _ (order : StandInOrder (front ++ b ∷ behind)) where
    -- its records are found by its number
    pub records_at : records_of (front ++ b ∷ behind) b.number ≡ b.records
    records_at =
        ap (λ (l : List (ℕ × List (Digest × Version))). records_by l b.number) (map-append named front (b ∷ behind))
        ∙ records_found b.number b.records (map named behind) (map named front)
        (all_to_map (λ c. c.number ≢ b.number) (λ p. p.0 ≢ b.number) named (λ c other. other) front (numbers_apart front b behind order).0)

    -- what is recorded of all others is recorded without it
    others_named : AllByRecursion (λ p. p.0 ≢ b.number) (map named front ++ map named behind)
    others_named =
        let two = numbers_apart front b behind order in
        all_joined (λ p. p.0 ≢ b.number) (map named front) (map named behind)
        (all_to_map (λ c. c.number ≢ b.number) (λ p. p.0 ≢ b.number) named (λ c other. other) front two.0)
        (all_to_map (λ c. c.number ≢ b.number) (λ p. p.0 ≢ b.number) named (λ c other. other) behind two.1)

    parted : records_by (map named front ++ (b.number, b.records) ∷ map named behind) ≡ records_of (front ++ b ∷ behind)
    parted = ap records_by (sym (map-append named front (b ∷ behind)))

    joined : records_by (map named front ++ map named behind) ≡ records_of (front ++ behind)
    joined = ap records_by (sym (map-append named front behind))

    pub none_recorded : AddsNone (records_of (front ++ b ∷ behind)) (records_of (front ++ behind))
    none_recorded =
        subst (λ (r : Records). AddsNone r (records_of (front ++ behind))) parted
        (subst (AddsNone (records_by (map named front ++ (b.number, b.records) ∷ map named behind))) joined (left_adds_none b.number b.records (map named behind) (map named front) others_named))

    pub others_recorded : (book : Book) → AllByRecursion (λ p. p.0 ≢ b.number) (places_of book) → KeepsRecords book (records_of (front ++ b ∷ behind)) (records_of (front ++ behind))
    others_recorded book apart =
        subst (λ (r : Records). KeepsRecords book r (records_of (front ++ behind))) parted
        (subst (KeepsRecords book (records_by (map named front ++ (b.number, b.records) ∷ map named behind))) joined
        (left_keeps b.number b.records (map named behind) (map named front) others_named book apart))

    -- the write of its gate begins
    pub first_opened : map (λ x. opened_if (x.number == b.number) x) (map book_buffer (front ++ b ∷ behind)) ≡ map book_buffer (front ++ with_phase GateBegun b ∷ behind)
    first_opened = let two = numbers_apart front b behind order in before front two.0 two.1
      where
        others : (bs : List BufferState) → AllByRecursion (λ c. c.number ≢ b.number) bs → map (λ x. opened_if (x.number == b.number) x) (map book_buffer bs) ≡ map book_buffer bs
        others [] all = refl
        others (c ∷ bs) all =
            ap (λ (o : Bool). opened_if o (book_buffer c) ∷ map (λ x. opened_if (x.number == b.number) x) (map book_buffer bs)) (ne_eqb c.number b.number all.0)
            ∙ ap (λ (l : List Buffer). book_buffer c ∷ l) (others bs all.1)

        before : (bs : List BufferState) → AllByRecursion (λ c. c.number ≢ b.number) bs → AllByRecursion (λ c. c.number ≢ b.number) behind
            → map (λ x. opened_if (x.number == b.number) x) (map book_buffer (bs ++ b ∷ behind)) ≡ map book_buffer (bs ++ with_phase GateBegun b ∷ behind)
        before [] all after =
            ap (λ (o : Bool). opened_if o (book_buffer b) ∷ map (λ x. opened_if (x.number == b.number) x) (map book_buffer behind)) (eq-eqb b.number b.number refl)
            ∙ ap (λ (l : List Buffer). book_buffer (with_phase GateBegun b) ∷ l) (others behind after)
        before (c ∷ bs) all after =
            ap (λ (o : Bool). opened_if o (book_buffer c) ∷ map (λ x. opened_if (x.number == b.number) x) (map book_buffer (bs ++ b ∷ behind))) (ne_eqb c.number b.number all.0)
            ∙ ap (λ (l : List Buffer). book_buffer c ∷ l) (before bs all.1 after)

    -- it leaves
    pub first_leaves : filter (λ x. not (x.number == b.number)) (map book_buffer (front ++ b ∷ behind)) ≡ map book_buffer (front ++ behind)
    first_leaves = let two = numbers_apart front b behind order in before front two.0 two.1
      where
        stays : Buffer → Bool
        stays x = not (x.number == b.number)

        others : (bs : List BufferState) → AllByRecursion (λ c. c.number ≢ b.number) bs → filter stays (map book_buffer bs) ≡ map book_buffer bs
        others [] all = refl
        others (c ∷ bs) all =
            cond-true (stays (book_buffer c)) (book_buffer c ∷ filter stays (map book_buffer bs)) (filter stays (map book_buffer bs)) (ap not (ne_eqb c.number b.number all.0))
            ∙ ap (λ (l : List Buffer). book_buffer c ∷ l) (others bs all.1)

        before : (bs : List BufferState) → AllByRecursion (λ c. c.number ≢ b.number) bs → AllByRecursion (λ c. c.number ≢ b.number) behind
            → filter stays (map book_buffer (bs ++ b ∷ behind)) ≡ map book_buffer (bs ++ behind)
        before [] all after =
            cond-false (stays (book_buffer b)) (book_buffer b ∷ filter stays (map book_buffer behind)) (filter stays (map book_buffer behind)) (ap not (eq-eqb b.number b.number refl))
            ∙ others behind after
        before (c ∷ bs) all after =
            cond-true (stays (book_buffer c)) (book_buffer c ∷ filter stays (map book_buffer (bs ++ b ∷ behind))) (filter stays (map book_buffer (bs ++ b ∷ behind)))
            (ap not (ne_eqb c.number b.number all.0))
            ∙ ap (λ (l : List Buffer). book_buffer c ∷ l) (before bs all.1 after)
