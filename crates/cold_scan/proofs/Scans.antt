-- What a scan of the blocks of a device comes to, block by block.
use Rattle.std.proofs.Common.{◌≡◌, inl, inr, ℕ, ◌+◌, ◌-◌, ◌/◌, ◌≤◌, ◌<◌, max, suc, zero, true, false, List, [], ◌∷◌, ◌++◌, length, take, drop, refl, sym, ◌∙◌, ap, subst, arith}
use Rattle.std.specs.Prelude.{Some, map, slice_get, option_map}
use Rattle.std.specs.List.{AllByRecursion, range_with_len}
use Rattle.std.proofs.lemmas.Bool.{cases_eq}
use Rattle.std.proofs.lemmas.List.{append-nil, map-append}
use Rattle.rec_format.specs.declared.version.Digest.{Digest}
use Rattle.rec_format.specs.declared.version.Version.{Version}
use Rattle.rec_format.specs.Versions.{version_units, top_number, block_capacity}
use Rattle.rec_format.specs.RecordText.{CanBeRecorded}
use Rattle.disk_model.specs.Bytes.{range}
use Rattle.block_format.specs.declared.geometry.Geometry.{Geometry}
use Rattle.block_format.specs.declared.geometry.Gate.{Gate}
use Rattle.block_format.specs.declared.geometry.Gate.TheVariants.{Set}
use Rattle.block_format.specs.declared.geometry.Found.{Found}
use Rattle.block_format.specs.Layout.{IsOpen, IsClosed, gate_sector, block_place, body_bytes, Body, IsBody, IsFaultAt, units_of_records}
use Rattle.block_format.specs.Readings.{IsReading, body_capacity, found_from}
use Rattle.block_format.specs.Copies.{Copy, HasBodies, copies_from, copies_of}
use Rattle.law_start.specs.Start.{greatest_number}
use Rattle.block_format.specs.Refusals.{IsBlock, IsDamagedAt}
use Rattle.block_format.proofs.BodyRecords.{units-cons}
use Rattle.cold_scan.specs.declared.bodies.Taken.{Taken}
use Rattle.cold_scan.specs.declared.header.StartCause.{StartCause}
use Rattle.cold_scan.specs.declared.header.StartCause.TheVariants as why
use Rattle.std.specs.BTreeMap.{IsOrdered}
use Rattle.law_lists.proofs.Each.{all_joined}
use Rattle.law_lists.proofs.Ranges.{range_next}
use Rattle.rec_format.specs.Places.{digest_cmp}
use Rattle.cold_scan.specs.declared.bodies.Kept.{Kept}
use Rattle.cold_scan.specs.Found.{is_set, AreGates, set_blocks, kept_found, KeepsAll, HasKept, LiesBehind, IsTaken, TakesBody, StopsOn, IsStopped}
use Rattle.cold_scan.proofs.KeptCopies.{kept_none, kept_all, copies_more, count_more, found_kept}
use Rattle.cold_scan.proofs.GateLaws.{gate_there, gate_set, told_shut, set_more}

-- ---- the body of a block

one_capacity : (g : Geometry) (body : List ℕ) → length body ≡ g.block_size - 4096 → body_capacity body ≡ block_capacity g.block_size
one_capacity g body long = ap (λ (n : ℕ). n / 16) (omega (arith, long))

-- what isn't a body is damage at the place of its first fault
pub stops_there : (g : Geometry) (block place : ℕ) (body bytes : List ℕ) → length body ≡ g.block_size - 4096 → body ≡ body_bytes g block bytes → IsFaultAt (body_capacity body) body block place
    → IsFaultAt (block_capacity g.block_size) (body_bytes g block bytes) block place
stops_there g block place body bytes long read fault =
    subst (λ (l : List ℕ). IsFaultAt (block_capacity g.block_size) l block place) read (subst (λ (n : ℕ). IsFaultAt n body block place) (one_capacity g body long) fault)

found_long : (unit : ℕ) (records : List (Digest × Version)) → length (found_from unit records) ≡ length records
found_long unit [] = refl
found_long unit (r ∷ records) = ap suc (found_long (unit + version_units r.1) records)

-- as many heads were found as the body has records
pub found_count : (body : List ℕ) (block number : ℕ) (found : List Found) → (reading : IsReading body block number found) → length found ≡ length reading.body.records
found_count body block number found reading = ap length reading.found_is ∙ found_long 0 reading.body.records

-- what was read of a block is its body
pub body_read : (g : Geometry) (block place : ℕ) (old new bytes : List ℕ) → place ≡ block_place g block + 4096 → length old ≡ g.block_size - 4096 → new ≡ range place (length old) bytes
    → new ≡ body_bytes g block bytes
body_read g block place old new bytes at long read = read ∙ ap (λ (p : ℕ). take (length old) (drop p bytes)) at ∙ ap (λ (n : ℕ). take n (drop (block_place g block + 4096) bytes)) long

pub takes_body : (g : Geometry) (block number : ℕ) (body : List ℕ) (found : List Found) (old new : Taken) → length body ≡ g.block_size - 4096 → (reading : IsReading body block number found)
    → KeepsAll g (map (kept_found block) found) old.latest new.latest → new.copies ≡ old.copies + length found → new.greatest ≡ max old.greatest number → TakesBody g block body old new
takes_body g block number body found old new long reading keeps counted greatest = record {
  body = reading.body;
  is_body = subst (λ (n : ℕ). IsBody n body reading.body) (one_capacity g body long) reading.is_body;
  block_is = reading.block_is;
  latest = subst (λ (l : List Kept). KeepsAll g l old.latest new.latest) (ap (map (kept_found block)) reading.found_is ∙ found_kept block 0 reading.body.records) keeps;
  copies = counted ∙ ap (λ (n : ℕ). old.copies + n) (found_count body block number found reading);
  greatest = greatest ∙ ap (max old.greatest) (sym reading.number_is);
}

-- ---- block after block

bodies_closed : (g : Geometry) (image : List ℕ) (blocks : List ℕ) (bodies : List Body) (k : ℕ) → HasBodies g image blocks bodies → IsClosed (gate_sector g k image)
    → HasBodies g image (blocks ++ k ∷ []) bodies
bodies_closed g image [] bodies k none closed = inl (closed, none)
bodies_closed g image (b ∷ blocks) bodies k (inl shut) closed = inl (shut.0, bodies_closed g image blocks bodies k shut.1 closed)
bodies_closed g image (b ∷ blocks) bodies k (inr opens) closed =
    inr (opens.0, opens.1, opens.2, opens.3, opens.4, opens.5, bodies_closed g image blocks opens.2 k opens.6 closed)

bodies_open : (g : Geometry) (image : List ℕ) (blocks : List ℕ) (bodies : List Body) (k : ℕ) (body : Body) → HasBodies g image blocks bodies → IsOpen (gate_sector g k image)
    → IsBody (block_capacity g.block_size) (body_bytes g k image) body → body.block ≡ k → HasBodies g image (blocks ++ k ∷ []) (bodies ++ body ∷ [])
bodies_open g image [] bodies k body none opens is at = inr (opens, body, [], is, at, ap (λ (l : List Body). l ++ body ∷ []) none, refl)
bodies_open g image (b ∷ blocks) bodies k body (inl shut) opens is at = inl (shut.0, bodies_open g image blocks bodies k body shut.1 opens is at)
bodies_open g image (b ∷ blocks) bodies k body (inr first) opens is at =
    inr (first.0, first.1, first.2 ++ body ∷ [], first.3, first.4, ap (λ (l : List Body). l ++ body ∷ []) first.5, bodies_open g image blocks first.2 k body first.6 opens is at)

-- each of these blocks is closed or has a body
pub each_block : (g : Geometry) (image : List ℕ) (a n : ℕ) (bodies : List Body) → HasBodies g image (range_with_len a n) bodies → (k : ℕ) → a ≤ k → k < a + n → IsBlock g image k
each_block g image a zero bodies has k from to = absurd (omega arith)
each_block g image a (suc n) bodies (inl shut) k from to = elim (cases_eq k a) [
  | inl same ↦ inl (subst (λ (b : ℕ). IsClosed (gate_sector g b image)) (sym same) shut.0)
  | inr other ↦ each_block g image (a + 1) n bodies shut.1 k (omega arith) (omega arith)
]
each_block g image a (suc n) bodies (inr first) k from to = elim (cases_eq k a) [
  | inl same ↦ inr (first.1, subst (λ (b : ℕ). IsBody (block_capacity g.block_size) (body_bytes g b image) first.1) (sym same) first.3, first.4 ∙ sym same)
  | inr other ↦ each_block g image (a + 1) n first.2 first.6 k (omega arith) (omega arith)
]

-- a body that isn't there behind an open gate is the first damage
damaged : (g : Geometry) (bytes : List ℕ) (k place : ℕ) (bodies : List Body) → HasBodies g bytes (range_with_len 0 k) bodies → k < g.blocks → IsOpen (gate_sector g k bytes)
    → IsFaultAt (block_capacity g.block_size) (body_bytes g k bytes) k place → IsDamagedAt g bytes k place
damaged g bytes k place bodies has within opens fault = record {
  is_there = within;
  before = λ j below. each_block g bytes 0 k bodies has j (omega arith) (omega (arith, below));
  is_open = opens;
  fault = fault;
}

-- ---- over any disk

greatest_more : (bodies : List Body) (b : Body) → greatest_number (bodies ++ b ∷ []) ≡ max (greatest_number bodies) b.number
greatest_more [] b = omega arith
greatest_more (x ∷ bodies) b = ap (max x.number) (greatest_more bodies b) ∙ omega arith

-- the copies of a body lie behind the gate of its block
lie_from : (g : Geometry) (gates : List Gate) (block unit : ℕ) (records : List (Digest × Version)) → slice_get gates block ≡ Some Set → AllByRecursion (λ r. CanBeRecorded r.0 r.1) records
    → unit + units_of_records records ≤ block_capacity g.block_size → AllByRecursion (LiesBehind g gates) (copies_from block unit records)
lie_from g gates block unit [] set all fit = tt
lie_from g gates block unit (r ∷ records) set all fit =
    let more = units-cons r records in (
      record { named = all.0.named; time = all.0.version.time.0; gate = set; within = omega (arith, fit, more) },
      lie_from g gates block (unit + version_units r.1) records set all.1 (omega (arith, fit, more)),
    )

taken_closed : (g : Geometry) (gates : List Gate) (k : ℕ) (bodies : List Body) (taken : Taken) → IsTaken g gates k bodies taken → option_map is_set (slice_get gates k) ≡ Some false
    → IsTaken g gates (k + 1) bodies taken
taken_closed g gates k bodies taken is shut = record {
  latest = is.latest;
  lie = is.lie;
  opened = is.opened ∙ sym (set_more gates k false shut ∙ append-nil (set_blocks 0 (take k gates)));
  copies = is.copies;
  number = is.number;
  top = is.top;
}

taken_open : (g : Geometry) (gates : List Gate) (k : ℕ) (bytes : List ℕ) (bodies : List Body) (old new : Taken) → IsTaken g gates k bodies old → option_map is_set (slice_get gates k) ≡ Some true
    → (takes : TakesBody g k bytes old new) → IsTaken g gates (k + 1) (bodies ++ takes.body ∷ []) new
taken_open g gates k bytes bodies old new is opens takes = record {
  latest = subst (λ (l : List Copy). HasKept g l new.latest) (sym copies_are) (kept_all g (copies_from k 0 takes.body.records) (copies_of bodies) old.latest new.latest is.latest takes.latest);
  lie = subst (λ (l : List Copy). AllByRecursion (LiesBehind g gates) l) (sym copies_are)
      (all_joined (LiesBehind g gates) (copies_of bodies) (copies_from k 0 takes.body.records) is.lie
      (lie_from g gates k 0 takes.body.records (gate_set gates k opens) takes.is_body.records (omega (arith, takes.is_body.units))));
  opened = map-append (λ (b : Body). b.block) bodies (takes.body ∷ []) ∙ ap (λ (l : List ℕ). l ++ takes.body.block ∷ []) is.opened
      ∙ ap (λ (n : ℕ). set_blocks 0 (take k gates) ++ n ∷ []) takes.block_is ∙ sym (set_more gates k true opens);
  copies = takes.copies ∙ ap (λ (n : ℕ). n + length takes.body.records) is.copies ∙ sym (count_more bodies takes.body);
  number = takes.greatest ∙ ap (λ (n : ℕ). max n takes.body.number) is.number ∙ sym (greatest_more bodies takes.body);
  top = subst (λ (n : ℕ). n ≤ top_number) (sym takes.greatest) (both_below old.greatest takes.body.number is.top takes.is_body.number);
}
  where
    copies_are : copies_of (bodies ++ takes.body ∷ []) ≡ copies_of bodies ++ copies_from k 0 takes.body.records
    copies_are = copies_more bodies takes.body ∙ ap (λ (n : ℕ). copies_of bodies ++ copies_from n 0 takes.body.records) takes.block_is

    both_below : (a b : ℕ) → a ≤ top_number → b ≤ top_number → max a b ≤ top_number
    both_below a b x y = omega arith

-- ---- the next block

-- what was found of the blocks before it, over any disk and over one that tells its bytes
abbrev pub FoundIn : Geometry → (told : Type 0) → List ℕ → List Gate → ℕ → Taken → Type 0
FoundIn g told bytes gates k taken = (bodies : List Body) × IsTaken g gates k bodies taken × (told → AreGates g bytes gates → HasBodies g bytes (range_with_len 0 k) bodies)

pub found_closed : (g : Geometry) (told : Type 0) (bytes : List ℕ) (gates : List Gate) (k : ℕ) (taken : Taken) → FoundIn g told bytes gates k taken
    → option_map is_set (slice_get gates k) ≡ Some false → FoundIn g told bytes gates (k + 1) taken
found_closed g told bytes gates k taken found shut =
    let at = gate_there gates k false shut in (
      found.0,
      taken_closed g gates k found.0 taken found.1 shut,
      λ t are. subst (λ (l : List ℕ). HasBodies g bytes l found.0) (sym (range_next k))
          (bodies_closed g bytes (range_with_len 0 k) found.0 k (found.2 t are) (told_shut at.0 (gate_sector g k bytes) at.2 (are k at.0 at.1))),
    )

pub found_open : (g : Geometry) (told : Type 0) (bytes body : List ℕ) (gates : List Gate) (k : ℕ) (old new : Taken) → FoundIn g told bytes gates k old
    → option_map is_set (slice_get gates k) ≡ Some true
    → TakesBody g k body old new → (told → body ≡ body_bytes g k bytes) → FoundIn g told bytes gates (k + 1) new
found_open g told bytes body gates k old new found opens takes read = (
  found.0 ++ takes.body ∷ [],
  taken_open g gates k body found.0 old new found.1 opens takes,
  λ t are. subst (λ (l : List ℕ). HasBodies g bytes l (found.0 ++ takes.body ∷ [])) (sym (range_next k))
      (bodies_open g bytes (range_with_len 0 k) found.0 k takes.body (found.2 t are) (are k Set (gate_set gates k opens))
      (subst (λ (l : List ℕ). IsBody (block_capacity g.block_size) l takes.body) (read t) takes.is_body) takes.block_is),
)

pub none_found : (g : Geometry) (told : Type 0) (bytes : List ℕ) (gates : List Gate) (taken : Taken) → taken.latest.entries ≡ [] → IsOrdered digest_cmp taken.latest → taken.copies ≡ 0
    → taken.greatest ≡ 0 → FoundIn g told bytes gates 0 taken
none_found g told bytes gates taken empty ordered none greatest = (
  [],
  record {
    latest = kept_none g taken.latest empty ordered;
    lie = tt;
    opened = refl;
    copies = none;
    number = greatest;
    top = omega (arith, greatest);
  },
  λ t are. refl,
)

-- a stop at a block is a stop of the scan
pub stopped_there : (g : Geometry) (told : Type 0) (bytes : List ℕ) (gates : List Gate) (k : ℕ) (taken : Taken) (cause : StartCause) → FoundIn g told bytes gates k taken → told
    → AreGates g bytes gates → k < g.blocks
    → option_map is_set (slice_get gates k) ≡ Some true → StopsOn g bytes k cause → IsStopped g bytes cause
stopped_there g told bytes gates k taken (why.NotFormatted first) found t are within opens stops = stops
stopped_there g told bytes gates k taken (why.OtherGeometry kept asked size) found t are within opens stops = stops
stopped_there g told bytes gates k taken (why.DamagedBlock block place) found t are within opens stops =
    subst (λ (b : ℕ). IsDamagedAt g bytes b place) (sym stops.0) (damaged g bytes k place found.0 (found.2 t are) within (are k Set (gate_set gates k opens)) stops.1)
stopped_there g told bytes gates k taken why.Memory found t are within opens stops = tt
stopped_there g told bytes gates k taken why.Fault found t are within opens stops = tt
