-- A record at the front of some bytes: it has no flaw, and what has no flaw is one.
use Rattle.std.proofs.Common.{◌≡◌, ℕ, zero, suc, ◌+◌, ◌-◌, ◌*◌, ◌^◌, ◌<◌, ◌≤◌, Bool, true, false, not, cond, ◌==◌, List, [], ◌∷◌, ◌++◌, length, take, drop, replicate, refl, sym, ap, ◌∙◌, subst, arith}
use Rattle.std.proofs.lemmas.List.{append_assoc, take_at, drop_at, take_all, take-append-drop, length-take-le, length-append, length-drop, length-replicate, drop-drop, nil_from_length}
use Rattle.std.proofs.lemmas.Bool.{or_parts, not-false, eqb-true, ltb-false, le-ltb, false≢true}
use Rattle.std.specs.Prelude.{Option, Some, None, nat_lt}
use Rattle.std.specs.List.{list_any}
use Rattle.rec_format.specs.declared.version.Digest.{Digest}
use Rattle.rec_format.specs.declared.version.Head.{Head}
use Rattle.rec_format.specs.declared.version.Kind.{Kind}
use Rattle.rec_format.specs.declared.version.Kind.TheVariants.{Put, Tomb}
use Rattle.rec_format.specs.declared.version.Version.{Version}
use Rattle.rec_format.specs.Versions.{IsVersion, a_tombstone, is_tomb_kind, units_for, version_units}
use Rattle.rec_format.specs.RecordText.{BeginsWith, BeginsWithHead, BeginsWithNone, CanBeHead, CanBeRecorded, NoTextBeginsAnother, head_of, head_text, record_head, record_text}
use Rattle.rec_format.specs.RecordFlaws.{Flaw, cover_in, cut_short, has_wrong_flags, has_wrong_length, has_wrong_magic, has_wrong_padding, has_wrong_stamp}
use Rattle.rec_format.specs.RecordFlaws.{head_in, is_cut_short, kind_in, payload_length_in, record_flaw, void_in, wrong_flags, wrong_length, wrong_magic}
use Rattle.rec_format.specs.RecordFlaws.{wrong_padding, wrong_stamp}
use Rattle.rec_format.proofs.BytesFit.{AreBytes, bytes_behind, bytes_in_front}
use Rattle.rec_format.proofs.HeadText.{flags_right, head_back, head_from, join, magic_right, stamp_right, text_from}

-- the version whose record the bytes would be
abbrev pub version_in : List ℕ → Version
version_in bytes = record {
  kind = kind_in bytes;
  stamp = (head_in bytes).stamp;
  void = void_in bytes;
  cover = cover_in bytes;
  payload = take (payload_length_in bytes) (drop 48 bytes);
}

abbrev pub digest_in : List ℕ → Digest
digest_in bytes = (head_in bytes).digest

-- ---- the order of the checks

-- none of the six
pub record Flawless (bytes : List ℕ) : Type 0 where
  pub long : is_cut_short bytes ≡ false
  pub magic : has_wrong_magic bytes ≡ false
  pub whole : has_wrong_length bytes ≡ false
  pub flags : has_wrong_flags bytes ≡ false
  pub padding : has_wrong_padding bytes ≡ false
  pub stamp : has_wrong_stamp bytes ≡ false

passed : (b : Bool) (f : Flaw) (rest : Option Flaw) → cond b (Some f) rest ≡ None → (b ≡ false) × (rest ≡ None)
passed true f rest e = cc
passed false f rest e = (refl, e)

six_passed : (a b c d f g : Bool)
    → cond a (Some cut_short) (cond b (Some wrong_magic) (cond c (Some wrong_length) (cond d (Some wrong_flags) (cond f (Some wrong_padding) (cond g (Some wrong_stamp) None))))) ≡ None
    → (a ≡ false) × (b ≡ false) × (c ≡ false) × (d ≡ false) × (f ≡ false) × (g ≡ false)
six_passed a b c d f g e =
    let p = passed a cut_short _ e in
    let q = passed b wrong_magic _ p.1 in
    let r = passed c wrong_length _ q.1 in
    let s = passed d wrong_flags _ r.1 in
    let t = passed f wrong_padding _ s.1 in
    let u = passed g wrong_stamp None t.1 in
    (p.0, q.0, r.0, s.0, t.0, u.0)

pub flawless_from : (bytes : List ℕ) → record_flaw bytes ≡ None → Flawless bytes
flawless_from bytes e =
    let t = six_passed (is_cut_short bytes) (has_wrong_magic bytes) (has_wrong_length bytes) (has_wrong_flags bytes) (has_wrong_padding bytes) (has_wrong_stamp bytes) e in
    record { long = t.0; magic = t.1; whole = t.2; flags = t.3; padding = t.4; stamp = t.5 }

pub flaw_of_flawless : (bytes : List ℕ) → Flawless bytes → record_flaw bytes ≡ None
flaw_of_flawless bytes ok = rw (ok.long, ok.magic, ok.whole, ok.flags, ok.padding, ok.stamp) refl

-- ---- a record at the front

pub front_text : (bytes : List ℕ) (d : Digest) (v : Version) → BeginsWith bytes d v → bytes ≡ record_text d v ++ drop (16 * version_units v) bytes
front_text bytes d v found =
    sym (take-append-drop (16 * version_units v) bytes) ∙ ap (λ (t : List ℕ). t ++ drop (16 * version_units v) bytes) found.text

empty_version : (v : Version) → v ≡ a_tombstone v.stamp → (v.cover ≡ true) × (v.void ≡ 0) × (length v.payload ≡ 0)
empty_version v e = (ap (λ (w : Version). w.cover) e, ap (λ (w : Version). w.void) e, ap (λ (w : Version). length w.payload) e)

pub head_sound : (d : Digest) (v : Version) → CanBeRecorded d v → CanBeHead (head_of d v)
head_sound d v ok = record {
  named = ok.named;
  tombstone = λ is_tomb. empty_version v (ok.version.tombstone (ap is_tomb_kind is_tomb));
  time = ok.version.time;
  generation = ok.version.generation;
  void = ok.version.void;
  length = ok.size;
}

pub length-head : (h : Head) → CanBeHead h → length (head_text h) ≡ 48
length-head h ok = let size = ok.named.size in omega (arith, size)

-- the units hold the head and the payload
pub units_hold : (n : ℕ) → 48 + n ≤ 16 * units_for n
units_hold n = omega arith

pub length-text : (d : Digest) (v : Version) → CanBeRecorded d v → length (record_text d v) ≡ 16 * version_units v
length-text d v ok =
    let head = length-head (head_of d v) (head_sound d v ok) in
    let padding : List ℕ = replicate (16 * version_units v - (48 + length v.payload)) 0 in
    length-append (record_head d v ++ v.payload) padding
    ∙ ap (λ (k : ℕ). k + length padding) (length-append (record_head d v) v.payload)
    ∙ ap (λ (k : ℕ). length (record_head d v) + length v.payload + k) (length-replicate (16 * version_units v - (48 + length v.payload)) 0)
    ∙ omega (arith, head, units_hold (length v.payload))

any_zeros : (n : ℕ) → list_any (λ b. not (b == 0)) (replicate n 0) ≡ false
any_zeros zero = refl
any_zeros (suc n) = any_zeros n

zeros_from : (xs : List ℕ) → list_any (λ b. not (b == 0)) xs ≡ false → xs ≡ replicate (length xs) 0
zeros_from [] e = refl
zeros_from (x ∷ xs) e =
    let parts = or_parts (not (x == 0)) (list_any (λ b. not (b == 0)) xs) e in
    let zero_is : x ≡ 0 = eqb-true x 0 (not-false (x == 0) parts.0) in
    let rest = zeros_from xs parts.1 in
    λ i. zero_is i ∷ rest i

-- the zeros behind a payload
abbrev pub padding_of : ℕ → List ℕ
padding_of n = replicate (16 * units_for n - (48 + n)) 0

-- what stands behind the head of a record at the front
abbrev behind_head : (v : Version) (rest : List ℕ) → List ℕ
behind_head v rest = v.payload ++ (padding_of (length v.payload) ++ rest)

-- what bytes with a record at their front are, and what they tell
pub record Told (bytes : List ℕ) (d : Digest) (v : Version) : Type 0 where
  pub flawless : Flawless bytes
  pub digest : digest_in bytes ≡ d
  pub version : version_in bytes ≡ v

pub told : (bytes : List ℕ) (d : Digest) (v : Version) → BeginsWith bytes d v → Told bytes d v
told bytes d v found =
    let rest : List ℕ = drop (16 * version_units v) bytes in
    let h : Head = head_of d v in
    let sound = head_sound d v found.fields in
    let n : ℕ = length v.payload in
    let padding : List ℕ = padding_of n in
    let front = front_text bytes d v found in
    let shape : bytes ≡ head_text h ++ behind_head v rest =
    front ∙ append_assoc (head_text h ++ v.payload) padding rest ∙ append_assoc (head_text h) v.payload (padding ++ rest) in
    let fields : head_in bytes ≡ h = ap head_in shape ∙ head_back h (behind_head v rest) sound in
    let n_is : payload_length_in bytes ≡ n = ap (λ (x : Head). x.length) fields in
    let behind : drop 48 bytes ≡ behind_head v rest = ap (drop 48) shape ∙ drop_at (head_text h) (behind_head v rest) 48 (length-head h sound) in
    let size : length bytes ≡ 16 * version_units v + length rest =
    ap length front ∙ length-append (record_text d v) rest ∙ ap (λ (k : ℕ). k + length rest) (length-text d v found.fields) in
    let zeros : take (16 * units_for n - (48 + n)) (drop (48 + n) bytes) ≡ padding =
    ap (take (16 * units_for n - (48 + n))) (sym (drop-drop n 48 bytes) ∙ ap (drop n) behind ∙ drop_at v.payload (padding ++ rest) n refl)
    ∙ take_at padding rest (16 * units_for n - (48 + n)) (length-replicate (16 * units_for n - (48 + n)) 0) in
    let payload : take (payload_length_in bytes) (drop 48 bytes) ≡ v.payload =
    ap (λ (k : ℕ). take k (drop 48 bytes)) n_is ∙ ap (take n) behind ∙ take_at v.payload (padding ++ rest) n refl in
    record {
      flawless = record {
        long = le-ltb (length bytes) 48 (omega (arith, size, units_hold n));
        magic = ap has_wrong_magic shape ∙ magic_right h (behind_head v rest);
        whole = ap (λ (k : ℕ). nat_lt (length bytes) (16 * units_for k)) n_is ∙ le-ltb (length bytes) (16 * units_for n) (omega (arith, size));
        flags = ap has_wrong_flags shape ∙ flags_right h (behind_head v rest) sound;
        padding = ap (λ (k : ℕ). list_any (λ b. not (b == 0)) (take (16 * units_for k - (48 + k)) (drop (48 + k) bytes))) n_is
            ∙ ap (list_any (λ b. not (b == 0))) zeros ∙ any_zeros (16 * units_for n - (48 + n));
        stamp = ap has_wrong_stamp shape ∙ stamp_right h (behind_head v rest) sound;
      };
      digest = ap (λ (x : Head). x.digest) fields;
      version = λ i. record { kind = (fields i).kind; stamp = (fields i).stamp; void = (fields i).void; cover = (fields i).cover; payload = payload i };
    }

-- ---- bytes without a flaw

tomb_is : (k : Kind) → is_tomb_kind k ≡ true → k ≡ Tomb
tomb_is Put e = absurd (false≢true e)
tomb_is Tomb e = refl

-- what the first checks leave of the lengths
pub record Fits (bytes : List ℕ) : Type 0 where
  pub head : 48 ≤ length bytes
  pub whole : 16 * units_for (payload_length_in bytes) ≤ length bytes
  pub payload : length (take (payload_length_in bytes) (drop 48 bytes)) ≡ payload_length_in bytes

pub fits_from : (bytes : List ℕ) → is_cut_short bytes ≡ false → has_wrong_length bytes ≡ false → Fits bytes
fits_from bytes long whole =
    let n : ℕ = payload_length_in bytes in
    let enough : 16 * units_for n ≤ length bytes = ltb-false (length bytes) (16 * units_for n) whole in
    record {
      head = ltb-false (length bytes) 48 long;
      whole = enough;
      payload = length-take-le n (drop 48 bytes) (omega (arith, length-drop 48 bytes, units_hold n, enough));
    }

text_of_flawless : (bytes : List ℕ) → AreBytes bytes → Flawless bytes → Fits bytes
    → take (16 * units_for (payload_length_in bytes)) bytes ≡ record_text (digest_in bytes) (version_in bytes)
text_of_flawless bytes fit ok fits =
    let n : ℕ = payload_length_in bytes in
    let m : ℕ = 16 * units_for n - (48 + n) in
    let payload : List ℕ = take n (drop 48 bytes) in
    let head_is : record_head (digest_in bytes) (version_in bytes) ≡ take 48 bytes = with_length bytes (length payload) fits.payload ∙ text_from bytes fit fits.head ok.magic ok.flags in
    let room : length (take m (drop (48 + n) bytes)) ≡ m = length-take-le m (drop (48 + n) bytes) (omega (arith, length-drop (48 + n) bytes, fits.whole)) in
    let zeros : take m (drop (48 + n) bytes) ≡ replicate m 0 = zeros_from (take m (drop (48 + n) bytes)) ok.padding ∙ ap (λ (k : ℕ). replicate k 0) room in
    let whole : 48 + n + m ≡ 16 * units_for n = omega (arith, units_hold n) in
    sym (
    ap (λ (h : List ℕ). h ++ payload ++ padding_of (length payload)) head_is
    ∙ ap (λ (k : ℕ). take 48 bytes ++ payload ++ padding_of k) fits.payload
    ∙ ap (λ (z : List ℕ). take 48 bytes ++ payload ++ z) (sym zeros)
    ∙ ap (λ (t : List ℕ). t ++ take m (drop (48 + n) bytes)) (join 48 n bytes)
    ∙ join (48 + n) m bytes
    ∙ ap (λ (k : ℕ). take k bytes) whole
    )
  where
    with_length : (xs : List ℕ) (k : ℕ) → k ≡ payload_length_in xs → head_text (record (head_in xs) { length = k }) ≡ head_text (head_in xs)
    with_length xs k e = ap (λ (j : ℕ). head_text (record (head_in xs) { length = j })) e

version_of_flawless : (bytes : List ℕ) → AreBytes bytes → Flawless bytes → Fits bytes → IsVersion (version_in bytes)
version_of_flawless bytes fit ok fits =
    let sound = head_from bytes fit fits.head ok.flags ok.stamp in
    record { tombstone = λ is_tomb. empty sound (tomb_is (kind_in bytes) is_tomb); time = sound.time; generation = sound.generation; void = sound.void }
  where
    empty : CanBeHead (head_in bytes) → kind_in bytes ≡ Tomb → version_in bytes ≡ a_tombstone (version_in bytes).stamp
    empty sound is_tomb =
        let facts = sound.tombstone is_tomb in
        let nothing : take (payload_length_in bytes) (drop 48 bytes) ≡ [] = nil_from_length (take (payload_length_in bytes) (drop 48 bytes)) (fits.payload ∙ facts.2) in
        λ i. record { kind = is_tomb i; stamp = (head_in bytes).stamp; void = facts.1 i; cover = facts.0 i; payload = nothing i }

-- bytes without a flaw begin with the record that they tell
pub begins_from : (bytes : List ℕ) → AreBytes bytes → Flawless bytes → BeginsWith bytes (digest_in bytes) (version_in bytes)
begins_from bytes fit ok =
    let fits = fits_from bytes ok.long ok.whole in
    let sound = head_from bytes fit fits.head ok.flags ok.stamp in
    record {
      fields = record {
        named = sound.named;
        version = version_of_flawless bytes fit ok fits;
        payload = bytes_in_front (payload_length_in bytes) (drop 48 bytes) (bytes_behind 48 bytes fit);
        size = subst (λ (k : ℕ). k < 2 ^ 32) (sym fits.payload) sound.length;
      };
      text = ap (λ (k : ℕ). take (16 * units_for k) bytes) fits.payload ∙ text_of_flawless bytes fit ok fits;
    }

-- ---- what follows

pub only_one : (bytes : List ℕ) (d e : Digest) (v w : Version) → BeginsWith bytes d v → BeginsWith bytes e w → (d ≡ e) × (v ≡ w)
only_one bytes d e v w one other =
    let first = told bytes d v one in
    let second = told bytes e w other in
    (sym first.digest ∙ second.digest, sym first.version ∙ second.version)

pub none_with_flaw : (bytes : List ℕ) (f : Flaw) → record_flaw bytes ≡ Some f → BeginsWithNone bytes
none_with_flaw bytes f flaw d v found = let none = flaw_of_flawless bytes (told bytes d v found).flawless in cc

-- no text is the front of another
pub texts_apart : NoTextBeginsAnother
texts_apart d e v w rest one other text =
    let whole = record_text e w in
    let size = length-text d v one in
    let begins : BeginsWith whole d v =
    record { fields = one; text = ap (take (16 * version_units v)) (sym text) ∙ take_at (record_text d v) rest (16 * version_units v) size } in
    let itself : BeginsWith whole e w =
    record { fields = other; text = take_all (16 * version_units w) whole (omega (arith, length-text e w other)) } in
    let same = only_one whole d e v w begins itself in
    let lengths : 16 * version_units v + length rest ≡ 16 * version_units w =
    ap (λ (k : ℕ). k + length rest) (sym size) ∙ sym (length-append (record_text d v) rest) ∙ ap length text ∙ length-text e w other in
    let units = ap version_units same.1 in
    (same.0, same.1, nil_from_length rest (omega (arith, lengths, units)))

-- what was read of the bytes is what they tell
pub read_version : (bytes payload : List ℕ) (h : Head) → h ≡ head_in bytes → payload ≡ take (48 + h.length - 48) (drop 48 bytes)
    → version_in bytes ≡ record { kind = h.kind; stamp = h.stamp; void = h.void; cover = h.cover; payload = payload }
read_version bytes payload h h_is payload_is =
    let count : payload_length_in bytes ≡ 48 + h.length - 48 = sym (ap (λ (x : Head). x.length) h_is) ∙ omega arith in
    let same : take (payload_length_in bytes) (drop 48 bytes) ≡ payload = ap (λ (k : ℕ). take k (drop 48 bytes)) count ∙ sym payload_is in
    let back : head_in bytes ≡ h = sym h_is in
    λ i. record { kind = (back i).kind; stamp = (back i).stamp; void = (back i).void; cover = (back i).cover; payload = same i }

-- the head that bytes without a flaw tell, and the units by its length
pub begins_with_head : (bytes : List ℕ) → AreBytes bytes → Flawless bytes → BeginsWithHead bytes (head_in bytes) (units_for (payload_length_in bytes))
begins_with_head bytes fit ok =
    let fits = fits_from bytes ok.long ok.whole in
    (version_in bytes, begins_from bytes fit ok, same_length bytes (length (version_in bytes).payload) (sym fits.payload), ap units_for (sym fits.payload))
  where
    same_length : (xs : List ℕ) (k : ℕ) → payload_length_in xs ≡ k → head_in xs ≡ record (head_in xs) { length = k }
    same_length xs k e = ap (λ (j : ℕ). record (head_in xs) { length = j }) e
