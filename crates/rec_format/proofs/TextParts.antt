-- The parts of a record's text, as they are written one after the other into a slice.
use Rattle.std.proofs.Common.{Fits, w8, get_or, ◌≡◌, ℕ, ◌+◌, ◌-◌, ◌*◌, ◌^◌, ◌<◌, ◌≤◌, subst, List, ◌++◌, length, take, drop, replicate, sym, ap, ◌∙◌, arith}
use Rattle.std.proofs.lemmas.List.{append_assoc, take_at, drop_at, drop-drop, length-append, length-take-le, length-drop}
use borrow.Rule.Slice.PartMut.{put_mid}
use Rattle.rec_format.specs.declared.version.Digest.{Digest}
use Rattle.rec_format.specs.declared.version.Version.{Version}
use Rattle.rec_format.specs.Versions.{IsVersion, version_units}
use Rattle.rec_format.specs.RecordText.{CanBeRecorded, record_head, record_text}
use Rattle.rec_format.proofs.BytesFit.{AreBytes, bytes_fit, bytes_behind, bytes_front, bytes_second}

-- a head at the front and the payload behind it
pub two_parts : (out head payload : List ℕ) (n : ℕ) → length head ≡ 48
    → put_mid 48 (48 + n - 48) (head ++ drop 48 out) payload ≡ (head ++ payload) ++ drop (48 + n) out
two_parts out head payload n head_length =
    let front : take 48 (head ++ drop 48 out) ≡ head = take_at head (drop 48 out) 48 head_length in
    let m : 48 + n - 48 ≡ n = omega arith in
    let behind : drop (48 + n - 48) (drop 48 (head ++ drop 48 out)) ≡ drop (48 + n) out =
    ap (λ (k : ℕ). drop k (drop 48 (head ++ drop 48 out))) m ∙ ap (drop n) (drop_at head (drop 48 out) 48 head_length) ∙ drop-drop n 48 out in
    ap (λ (f : List ℕ). f ++ (payload ++ drop (48 + n - 48) (drop 48 (head ++ drop 48 out)))) front
    ∙ ap (λ (b : List ℕ). head ++ (payload ++ b)) behind ∙ sym (append_assoc head payload (drop (48 + n) out))

both_lengths : (head payload : List ℕ) (n : ℕ) → length head ≡ 48 → length payload ≡ n → length (head ++ payload) ≡ 48 + n
both_lengths head payload n head_length payload_length = length-append head payload ∙ omega arith

-- what is left behind them
pub behind_two : (out head payload : List ℕ) (n : ℕ) → length head ≡ 48 → length payload ≡ n
    → drop (48 + n) (put_mid 48 (48 + n - 48) (head ++ drop 48 out) payload) ≡ drop (48 + n) out
behind_two out head payload n head_length payload_length =
    ap (drop (48 + n)) (two_parts out head payload n head_length)
    ∙ drop_at (head ++ payload) (drop (48 + n) out) (48 + n) (both_lengths head payload n head_length payload_length)

-- the room for the zeros
pub zeros_room : (out head payload : List ℕ) (n whole : ℕ) → length head ≡ 48 → length payload ≡ n → 48 + n ≤ whole → whole ≤ length out
    → length (take (whole - (48 + n)) (drop (48 + n) (put_mid 48 (48 + n - 48) (head ++ drop 48 out) payload))) ≡ whole - (48 + n)
zeros_room out head payload n whole head_length payload_length fits room =
    ap (λ (b : List ℕ). length (take (whole - (48 + n)) b)) (behind_two out head payload n head_length payload_length)
    ∙ length-take-le (whole - (48 + n)) (drop (48 + n) out) (omega (arith, length-drop (48 + n) out))

-- and zeros behind the payload
pub three_parts : (out head payload zeros : List ℕ) (n whole : ℕ) → length head ≡ 48 → length payload ≡ n → 48 + n ≤ whole
    → put_mid (48 + n) (whole - (48 + n)) (put_mid 48 (48 + n - 48) (head ++ drop 48 out) payload) zeros ≡ head ++ payload ++ zeros ++ drop whole out
three_parts out head payload zeros n whole head_length payload_length fits =
    let inner = two_parts out head payload n head_length in
    let both = both_lengths head payload n head_length payload_length in
    let start = take_at (head ++ payload) (drop (48 + n) out) (48 + n) both in
    let rest : drop (whole - (48 + n)) (drop (48 + n) ((head ++ payload) ++ drop (48 + n) out)) ≡ drop whole out =
    ap (drop (whole - (48 + n))) (drop_at (head ++ payload) (drop (48 + n) out) (48 + n) both)
    ∙ drop-drop (whole - (48 + n)) (48 + n) out ∙ ap (λ (k : ℕ). drop k out) (omega arith) in
    ap (λ (xs : List ℕ). put_mid (48 + n) (whole - (48 + n)) xs zeros) inner
    ∙ ap (λ (f : List ℕ). f ++ (zeros ++ drop (whole - (48 + n)) (drop (48 + n) ((head ++ payload) ++ drop (48 + n) out)))) start
    ∙ ap (λ (b : List ℕ). (head ++ payload) ++ (zeros ++ b)) rest ∙ sym (append_assoc (head ++ payload) zeros (drop whole out))

-- the same, where the parts are known by equations
pub written_parts : (out h p z head payload : List ℕ) (n u w : ℕ) → h ≡ head → p ≡ payload → z ≡ replicate (16 * u - (48 + n)) 0 → u ≡ w → length head ≡ 48
    → length payload ≡ n → 48 + n ≤ 16 * u
    → put_mid (48 + n) (16 * u - (48 + n)) (put_mid 48 (48 + n - 48) (h ++ drop 48 out) p) z
    ≡ head ++ payload ++ replicate (16 * w - (48 + n)) 0 ++ drop (16 * w) out
written_parts out h p z head payload n u w h_is p_is z_is u_is head_length payload_length fits =
    three_parts out h p z n (16 * u) (ap length h_is ∙ head_length) (ap length p_is ∙ payload_length) fits
    ∙ ap (λ (f : List ℕ). f ++ p ++ z ++ drop (16 * u) out) h_is ∙ ap (λ (f : List ℕ). head ++ f ++ z ++ drop (16 * u) out) p_is
    ∙ ap (λ (f : List ℕ). head ++ payload ++ f ++ drop (16 * u) out) z_is
    ∙ ap (λ (v : ℕ). head ++ payload ++ replicate (16 * v - (48 + n)) 0 ++ drop (16 * v) out) u_is

-- a digest and a version whose text stands in bytes can be recorded
pub text_fits : (out rest : List ℕ) (digest : Digest) (v : Version) → out ≡ record_text digest v ++ rest → ((i : ℕ) → Fits w8 (get_or out i 0))
    → length (record_head digest v) ≡ 48 → IsVersion v → length v.payload < 2 ^ 32 → CanBeRecorded digest v
text_fits out rest digest v out_is fit size version payload_size =
    let all : AreBytes (record_text digest v ++ rest) = subst AreBytes out_is (bytes_fit out fit) in
    let padding : List ℕ = replicate (16 * version_units v - (48 + length v.payload)) 0 in
    let behind : AreBytes (digest.0 ++ v.payload ++ padding ++ rest) = bytes_behind 28 (record_text digest v ++ rest) all in
    let two : AreBytes (digest.0 ++ v.payload) = bytes_front (digest.0 ++ v.payload) padding (bytes_front (digest.0 ++ v.payload ++ padding) rest behind) in
    let bytes : AreBytes digest.0 = bytes_front digest.0 v.payload two in
    let payload : AreBytes v.payload = bytes_second digest.0 v.payload two in
    record { named = record { size = omega (arith, size); bytes = bytes }; version = version; payload = payload; size = payload_size }
