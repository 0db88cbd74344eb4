-- Two readings of the same bytes are the same: bodies, and places of first faults.
use Rattle.std.proofs.Common.{◌≡◌, inl, inr, ⊎_elim, ℕ, ◌+◌, ◌-◌, ◌*◌, ◌/◌, ◌^◌, ◌<◌, ◌≤◌, List, [], ◌∷◌, ◌++◌, length, map, take, drop, refl, sym, ap, ◌∙◌, subst, arith}
use Rattle.std.proofs.lemmas.List.{append-nil, append_assoc, append_cancel_left, drop-drop, length-append, length-map, nil_from_length, take-append-drop, take_at}
use Rattle.std.proofs.lemmas.List.Sums.{sum_by-append}
use Rattle.std.proofs.lemmas.Bool.{cases_order}
use Rattle.rec_format.specs.declared.version.Digest.{Digest}
use Rattle.rec_format.specs.declared.version.Version.{Version}
use Rattle.rec_format.specs.Versions.{version_units}
use Rattle.rec_format.specs.RecordText.{BeginsWith, CanBeRecorded, record_text}
use Rattle.rec_format.proofs.RecordFront.{length-text, only_one}
use Rattle.block_format.specs.declared.geometry.Found.{Found}
use Rattle.block_format.specs.Layout.{Body, FailsBehind, IsBody, IsFaultAt, IsHead, IsRecordAt, body_head_text, most_records, records_text, units_of_records}
use Rattle.block_format.specs.declared.geometry.BodyRefusal.{BodyRefusal}
use Rattle.block_format.specs.declared.geometry.BodyRefusal.TheVariants.{Bad, Memory}
use Rattle.block_format.specs.Readings.{AreThere, AreUnreadBy, IsListing, IsNumbered, IsUnreadAt, IsUnreadBy, IsReading}
use Rattle.block_format.specs.Readings.{AtMostOneBody, AtMostOneFault, HasDigests, HasRecords, StopsAt, body_capacity, found_from}
use Rattle.block_format.proofs.BodyRecords.{AllRecorded, Record, units-cons}
use Rattle.block_format.proofs.HeadFields.{count_of_head, fields_of_head, number_of_head}

-- ---- records that stand one after the other

-- a text with anything behind it begins with its record
pub begins_text : (d : Digest) (v : Version) (rest : List ℕ) → CanBeRecorded d v → BeginsWith (record_text d v ++ rest) d v
begins_text d v rest ok = record { fields = ok; text = take_at (record_text d v) rest (16 * version_units v) (length-text d v ok) }

pub length-records : (rs : List Record) → AllRecorded rs → length (records_text rs) ≡ 16 * units_of_records rs
length-records [] ok = refl
length-records (r ∷ rs) ok =
    length-append (record_text r.0 r.1) (records_text rs) ∙ ap (λ (k : ℕ). k + length (records_text rs)) (length-text r.0 r.1 ok.0)
    ∙ ap (λ (k : ℕ). 16 * version_units r.1 + k) (length-records rs ok.1) ∙ omega (arith, units-cons r rs)

-- what is left of some records behind some of their front
pub record IsRest (rs bs tail : List Record) (x y : List ℕ) : Type 0 where
  pub whole : bs ≡ rs ++ tail
  pub text : x ≡ records_text tail ++ y
  pub each : AllRecorded tail

-- of two lists of records at the front of the same bytes the shorter is the front of the longer
pub shorter_is_front : (rs bs : List Record) (x y : List ℕ) → length rs ≤ length bs → AllRecorded rs → AllRecorded bs → records_text rs ++ x ≡ records_text bs ++ y
    → (tail : List Record) × IsRest rs bs tail x y
shorter_is_front [] bs x y short one other same = (bs, record { whole = refl; text = same; each = other })
shorter_is_front (r ∷ rs) [] x y short one other same = absurd (omega (arith, short))
shorter_is_front (r ∷ rs) (b ∷ bs) x y short one other same =
    let first : record_text r.0 r.1 ++ (records_text rs ++ x) ≡ record_text b.0 b.1 ++ (records_text bs ++ y) =
    sym (append_assoc (record_text r.0 r.1) (records_text rs) x) ∙ same ∙ append_assoc (record_text b.0 b.1) (records_text bs) y in
    let begins = subst (λ (t : List ℕ). BeginsWith t b.0 b.1) (sym first) (begins_text b.0 b.1 (records_text bs ++ y) other.0) in
    let equal = only_one (record_text r.0 r.1 ++ (records_text rs ++ x)) r.0 b.0 r.1 b.1 (begins_text r.0 r.1 (records_text rs ++ x) one.0) begins in
    let record_is : r ≡ b = λ i. (equal.0 i, equal.1 i) in
    let behind = append_cancel_left (record_text r.0 r.1) (records_text rs ++ x) (records_text bs ++ y)
    (first ∙ ap (λ (s : Record). record_text s.0 s.1 ++ (records_text bs ++ y)) (sym record_is)) in
    let rest = shorter_is_front rs bs x y (omega (arith, short)) one.1 other.1 behind in
    (rest.0, record { whole = λ i. sym record_is i ∷ rest.1.whole i; text = rest.1.text; each = rest.1.each })

-- records at the front of what stands behind the head
pub record AreFront (bytes : List ℕ) (rs : List Record) : Type 0 where
  pub each : AllRecorded rs
  pub there : take (16 * units_of_records rs) (drop 32 bytes) ≡ records_text rs

front_is : (bytes : List ℕ) (rs : List Record) → AreFront bytes rs → records_text rs ++ drop (16 * units_of_records rs) (drop 32 bytes) ≡ drop 32 bytes
front_is bytes rs front =
    ap (λ (t : List ℕ). t ++ drop (16 * units_of_records rs) (drop 32 bytes)) (sym front.there) ∙ take-append-drop (16 * units_of_records rs) (drop 32 bytes)

pub rest_of : (bytes : List ℕ) (rs bs : List Record) → AreFront bytes rs → AreFront bytes bs → length rs ≤ length bs
    → (tail : List Record) × IsRest rs bs tail (drop (16 * units_of_records rs) (drop 32 bytes)) (drop (16 * units_of_records bs) (drop 32 bytes))
rest_of bytes rs bs one other short =
    shorter_is_front rs bs (drop (16 * units_of_records rs) (drop 32 bytes)) (drop (16 * units_of_records bs) (drop 32 bytes)) short one.each other.each
    (front_is bytes rs one ∙ sym (front_is bytes bs other))

units-append : (rs ts : List Record) → units_of_records (rs ++ ts) ≡ units_of_records rs + units_of_records ts
units-append rs ts = sum_by-append (λ (x : Record). version_units x.1) rs ts

-- as many records at the front are the same
pub same_front : (bytes : List ℕ) (rs bs : List Record) → AreFront bytes rs → AreFront bytes bs → length rs ≡ length bs → bs ≡ rs
same_front bytes rs bs one other long =
    let rest = rest_of bytes rs bs one other (omega (arith, long)) in
    let size : length bs ≡ length rs + length rest.0 = ap length rest.1.whole ∙ length-append rs rest.0 in
    rest.1.whole ∙ ap (λ (t : List Record). rs ++ t) (nil_from_length rest.0 (omega (arith, size, long))) ∙ append-nil rs

-- where records go on within the units, there is a next one
pub next_there : (bytes : List ℕ) (units : ℕ) (rs bs : List Record) → AreFront bytes rs → AreFront bytes bs → length rs < length bs → units_of_records bs ≤ units
    → ((d : Digest) (v : Version) → IsRecordAt bytes (32 + 16 * units_of_records rs) d v → units_of_records rs + version_units v ≤ units → ⊥) → ⊥
next_there bytes units rs bs one other short within none =
    let rest = rest_of bytes rs bs one other (omega (arith, short)) in
    go rest.0 rest.1
  where
    go : (tail : List Record) → IsRest rs bs tail (drop (16 * units_of_records rs) (drop 32 bytes)) (drop (16 * units_of_records bs) (drop 32 bytes)) → ⊥
    go [] rest = absurd (omega (arith, short, ap length (rest.whole ∙ append-nil rs)))
    go (t ∷ ts) rest =
        let behind : List ℕ = drop (16 * units_of_records bs) (drop 32 bytes) in
        let place : drop (32 + 16 * units_of_records rs) bytes ≡ record_text t.0 t.1 ++ (records_text ts ++ behind) =
        sym (drop-drop (16 * units_of_records rs) 32 bytes) ∙ rest.text ∙ append_assoc (record_text t.0 t.1) (records_text ts) behind in
        let there : IsRecordAt bytes (32 + 16 * units_of_records rs) t.0 t.1 =
        subst (λ (b : List ℕ). BeginsWith b t.0 t.1) (sym place) (begins_text t.0 t.1 (records_text ts ++ behind) rest.each.0) in
        let sum : units_of_records bs ≡ units_of_records rs + units_of_records (t ∷ ts) = ap units_of_records rest.whole ∙ units-append rs (t ∷ ts) in
        none t.0 t.1 there (omega (arith, sum, units-cons t ts, within))

-- ---- a body

pub head_of_body : (capacity : ℕ) (bytes : List ℕ) (b : Body) → IsBody capacity bytes b → IsHead capacity bytes b.number (length b.records) (units_of_records b.records) b.block
head_of_body capacity bytes b is = record { number_fits = is.number; count_fits = is.count; units_fit = is.units; text = ap (take 32) is.text }

pub front_of_body : (capacity : ℕ) (bytes : List ℕ) (b : Body) → IsBody capacity bytes b → AreFront bytes b.records
front_of_body capacity bytes b is =
    let behind : drop 32 bytes ≡ records_text b.records ++ is.behind = ap (drop 32) is.text in
    record {
      each = is.records;
      there = ap (take (16 * units_of_records b.records)) behind ∙ take_at (records_text b.records) is.behind (16 * units_of_records b.records) (length-records b.records is.records);
    }

pub one_body : AtMostOneBody
one_body k l bytes b c one other blocks =
    let h = head_of_body k bytes b one in
    let i = head_of_body l bytes c other in
    let numbers = sym (number_of_head k bytes b.number (length b.records) (units_of_records b.records) b.block h)
    ∙ number_of_head l bytes c.number (length c.records) (units_of_records c.records) c.block i in
    let counts = sym (count_of_head k bytes b.number (length b.records) (units_of_records b.records) b.block h)
    ∙ count_of_head l bytes c.number (length c.records) (units_of_records c.records) c.block i in
    let records = same_front bytes c.records b.records (front_of_body l bytes c other) (front_of_body k bytes b one) (sym counts) in
    λ j. record { number = numbers j; block = blocks j; records = records j }

-- ---- a fault

-- the record where it stands, or the sum, decides
pub front_of_fault : (capacity : ℕ) (bytes : List ℕ) (block place : ℕ) (f : FailsBehind capacity bytes block place) → AreFront bytes f.records
front_of_fault capacity bytes block place f = record { each = f.each; there = f.there }

pub fault_count : (capacity : ℕ) (bytes : List ℕ) (block place : ℕ) (f : FailsBehind capacity bytes block place) → length f.records ≤ f.count
fault_count capacity bytes block place f = ⊎_elim (λ e. omega (arith, e.0)) (λ e. omega (arith, e.0)) f.fault

-- no records go on behind those of a fault, as far as the head counts
pub no_more : (capacity : ℕ) (bytes : List ℕ) (block place : ℕ) (f : FailsBehind capacity bytes block place) (bs : List Record) → AreFront bytes bs
    → length bs ≤ f.count → units_of_records bs ≤ f.units → length f.records < length bs → ⊥
no_more capacity bytes block place f bs front count within short =
    ⊎_elim
    (λ e. next_there bytes f.units f.records bs (front_of_fault capacity bytes block place f) front short within
    (λ d v there fits. e.1 d v (subst (λ (p : ℕ). IsRecordAt bytes p d v) (sym f.place_is) there) fits))
    (λ e. absurd (omega (arith, e.0, count, short)))
    f.fault

-- bytes with a fault have no body of the block
pub fault_refuses : (capacity : ℕ) (bytes : List ℕ) (block place : ℕ) → capacity < 2 ^ 32 → IsFaultAt capacity bytes block place → (b : Body) → IsBody capacity bytes b → b.block ≡ block → ⊥
fault_refuses capacity bytes block place small (inl none) b is block_is =
    none.0 b.number (length b.records) (units_of_records b.records)
    (subst (λ (k : ℕ). IsHead capacity bytes b.number (length b.records) (units_of_records b.records) k) block_is (head_of_body capacity bytes b is))
fault_refuses capacity bytes block place small (inr f) b is block_is =
    let mine = fields_of_head capacity bytes f.number f.count f.units block small f.head in
    let its = fields_of_head capacity bytes b.number (length b.records) (units_of_records b.records) b.block small (head_of_body capacity bytes b is) in
    let count : length b.records ≡ f.count = sym its.records_is ∙ mine.records_is in
    let units : units_of_records b.records ≡ f.units = sym its.units_is ∙ mine.units_is in
    let front = front_of_body capacity bytes b is in
    ⊎_elim
    (λ e. no_more capacity bytes block place f b.records front (omega (arith, count)) (omega (arith, units)) (omega (arith, e.0, count)))
    (λ e. e.1 (ap units_of_records (sym (same_front bytes f.records b.records (front_of_fault capacity bytes block place f) front (e.0 ∙ sym count))) ∙ units))
    f.fault

same_place : (capacity : ℕ) (bytes : List ℕ) (block p q : ℕ) → capacity < 2 ^ 32 → FailsBehind capacity bytes block p → FailsBehind capacity bytes block q → p ≡ q
same_place capacity bytes block p q small f g =
    let mine = fields_of_head capacity bytes f.number f.count f.units block small f.head in
    let its = fields_of_head capacity bytes g.number g.count g.units block small g.head in
    let count : f.count ≡ g.count = sym mine.records_is ∙ its.records_is in
    let units : f.units ≡ g.units = sym mine.units_is ∙ its.units_is in
    let front_f = front_of_fault capacity bytes block p f in
    let front_g = front_of_fault capacity bytes block q g in
    let most_f = fault_count capacity bytes block p f in
    let most_g = fault_count capacity bytes block q g in
    ⊎_elim
    (λ same. f.place_is ∙ ap (λ (rs : List Record). 32 + 16 * units_of_records rs) (sym (same_front bytes f.records g.records front_f front_g same)) ∙ sym g.place_is)
    (λ apart. ⊎_elim
    (λ less. absurd (no_more capacity bytes block p f g.records front_g (omega (arith, most_g, count)) (omega (arith, g.within, units)) less))
    (λ more. absurd (no_more capacity bytes block q g f.records front_f (omega (arith, most_f, count)) (omega (arith, f.within, units)) more))
    apart
    )
    (cases_order (length f.records) (length g.records))

pub one_fault : AtMostOneFault
one_fault capacity bytes block p q small (inl e) (inl f) = e.1 ∙ sym f.1
one_fault capacity bytes block p q small (inl e) (inr f) = absurd (e.0 f.number f.count f.units f.head)
one_fault capacity bytes block p q small (inr e) (inl f) = absurd (f.0 e.number e.count e.units e.head)
one_fault capacity bytes block p q small (inr e) (inr f) = same_place capacity bytes block p q small e f

-- the capacity of bytes that may be a body is small
pub small_body : (n : ℕ) → n ≤ 1044480 → (n - 32) / 16 < 2 ^ 32
small_body n h = omega arith

-- ---- what was read

pub reading_of : (bytes : List ℕ) (block number count units : ℕ) (found : List Found) → IsHead (body_capacity bytes) bytes number count units block
    → HasRecords bytes count units found → IsReading bytes block number found
reading_of bytes block number count units found head has =
    let b : Body = record { number = number; block = block; records = has.records } in
    let text : take 32 bytes ≡ body_head_text number (length has.records) (units_of_records has.records) block =
    head.text ∙ (λ i. body_head_text number (sym has.count_is i) (sym has.used_is i) block) in
    let behind : List ℕ = drop (16 * units_of_records has.records) (drop 32 bytes) in
    record {
      body = b;
      is_body = record {
        number = head.number_fits;
        count = subst (λ (k : ℕ). k < 2 ^ 32) (sym has.count_is) head.count_fits;
        units = subst (λ (k : ℕ). k ≤ body_capacity bytes) (sym has.used_is) head.units_fit;
        records = has.each;
        behind = behind;
        text = sym (take-append-drop 32 bytes)
            ∙ ap (λ (t : List ℕ). t ++ drop 32 bytes) text
            ∙ ap (λ (t : List ℕ). body_head_text number (length has.records) (units_of_records has.records) block ++ t)
            (sym (front_is bytes has.records (record { each = has.each; there = has.there })))
            ∙ sym (append_assoc (body_head_text number (length has.records) (units_of_records has.records) block) (records_text has.records) behind);
      };
      block_is = refl;
      number_is = refl;
      found_is = has.found_is;
    }

pub numbered_of : (bytes : List ℕ) (block number count units : ℕ) → IsHead (body_capacity bytes) bytes number count units block → AreThere bytes count units → IsNumbered bytes block number
numbered_of bytes block number count units head there =
    let r = reading_of bytes block number count units there.0 head there.1 in
    record { body = r.body; is_body = r.is_body; block_is = r.block_is; number_is = r.number_is }

-- the digests of heads are those of their records
digests_from : (unit : ℕ) (rs : List Record) → map (λ (f : Found). f.head.digest) (found_from unit rs) ≡ map (λ (r : Record). r.0) rs
digests_from unit [] = refl
digests_from unit (r ∷ rs) = ap (λ (ds : List Digest). r.0 ∷ ds) (digests_from (unit + version_units r.1) rs)

pub listing_of : (bytes : List ℕ) (block number count units : ℕ) (digests : List Digest) → IsHead (body_capacity bytes) bytes number count units block → HasDigests bytes count units digests
    → IsListing bytes block digests
listing_of bytes block number count units digests head has =
    let r = reading_of bytes block number count units has.0 head has.1 in
    record {
      body = r.body;
      is_body = r.is_body;
      block_is = r.block_is;
      digests_are = has.2 ∙ ap (map (λ (f : Found). f.head.digest)) r.found_is ∙ digests_from 0 r.body.records;
    }

-- each record takes at least three units
three_each : (rs : List Record) → 3 * length rs ≤ units_of_records rs
three_each [] = omega arith
three_each (r ∷ rs) = omega (arith, three_each rs, units-cons r rs)

pub few_listed : (bytes : List ℕ) (block : ℕ) (digests : List Digest) → IsListing bytes block digests → length digests ≤ most_records (body_capacity bytes)
few_listed bytes block digests is =
    let size : length digests ≡ length is.body.records = ap length is.digests_are ∙ length-map is.body.records (λ (r : Record). r.0) in
    omega (arith, size, three_each is.body.records, is.is_body.units)

pub fault_of : (bytes : List ℕ) (block number count units place : ℕ) → IsHead (body_capacity bytes) bytes number count units block → StopsAt bytes count units place
    → FailsBehind (body_capacity bytes) bytes block place
fault_of bytes block number count units place head stops =
    let has = stops.front in
    record {
      number = number;
      count = count;
      units = units;
      head = head;
      records = has.records;
      each = has.each;
      there = has.there;
      within = subst (λ (k : ℕ). k ≤ units) (sym has.used_is) stops.within;
      place_is = stops.place_is ∙ ap (λ (k : ℕ). 32 + 16 * k) (sym has.used_is);
      fault = ⊎_elim
          (λ e. inl (
            subst (λ (k : ℕ). k < count) (sym has.count_is) e.0,
            λ d v there fits. e.1 d v (subst (λ (p : ℕ). IsRecordAt bytes p d v) stops.place_is there) (subst (λ (k : ℕ). k + version_units v ≤ units) has.used_is fits),
          ))
          (λ e. inr (has.count_is ∙ e.0, λ same. e.1 (sym has.used_is ∙ same)))
          stops.fault;
    }

pub unread_at : (bytes : List ℕ) (block number count units place : ℕ) → body_capacity bytes < 2 ^ 32 → IsHead (body_capacity bytes) bytes number count units block
    → StopsAt bytes count units place → IsUnreadAt bytes block place
unread_at bytes block number count units place small head stops =
    let fault : IsFaultAt (body_capacity bytes) bytes block place = inr (fault_of bytes block number count units place head stops) in
    (fault, fault_refuses (body_capacity bytes) bytes block place small fault)

pub unread_of : (bytes : List ℕ) (block number count units : ℕ) (refusal : BodyRefusal) → body_capacity bytes < 2 ^ 32 → IsHead (body_capacity bytes) bytes number count units block
    → AreUnreadBy bytes count units refusal → IsUnreadBy bytes block refusal
unread_of bytes block number count units (Bad place) small head stops = unread_at bytes block number count units place small head stops
unread_of bytes block number count units Memory small head stops = tt
