-- Crate node_gen. The script of a number of records.
use Rattle.std.specs.Prelude.{ℕ, ◌+◌, ◌*◌, ◌%◌, ◌^◌, ◌==◌, List, [], ◌∷◌, ◌++◌, map, filter, replicate, codes}
use Rattle.std.specs.List.{range_with_len, flat_map}
use Rattle.std.specs.Int.{to_le_bytes, w32, w64}
use Rattle.hex.specs.Hex.{encode_lower}
use Rattle.line_proto.specs.Stream.{ended}

-- the digest of record i: a number that is spread over 64 bits, the number i, and zeros
abbrev pub nth_digest : ℕ → List ℕ
nth_digest i = to_le_bytes w64 ((i * 0x9E3779B97F4A7C15) % 2 ^ 64) ++ to_le_bytes w32 i ++ replicate 8 0

abbrev pub digest_line : List ℕ → ℕ → List ℕ
digest_line word i = word ++ 32 ∷ encode_lower (nth_digest i)

-- the hex digits of 1,000 equal bytes
unfoldable pub equal_bytes : ℕ → List ℕ
equal_bytes byte = encode_lower (replicate 1000 (byte % 256))

-- a put of 1,000 equal bytes, which never expires, whatever stood there before
abbrev pub put_line : ℕ → (byte : ℕ) → List ℕ
put_line i byte = digest_line (codes "put") i ++ codes " 0 * " ++ equal_bytes byte

abbrev pub all_of : ℕ → List ℕ
all_of n = range_with_len 0 n

abbrev pub divisible_by : ℕ → ℕ → List ℕ
divisible_by k n = filter (λ i. i % k == 0) (all_of n)

-- Each record is put, and every second one again. Every fifth is deleted, and every seventh durably. All are read after a flush.
abbrev pub script : ℕ → List (List ℕ)
script n =
    map (λ i. put_line i i) (all_of n)
    ++ map (λ i. put_line i (i + 1)) (divisible_by 2 n)
    ++ map (digest_line (codes "del")) (divisible_by 5 n)
    ++ map (digest_line (codes "bury")) (divisible_by 7 n)
    ++ codes "flush" ∷ map (digest_line (codes "get")) (all_of n)
    ++ codes "quit" ∷ []

-- the script as bytes, each line with its LF
abbrev pub script_text : ℕ → List ℕ
script_text n = flat_map ended (script n)

-- What is seen of a script that is read: the bytes taken, and those that are left.
pub record ScriptState : Type 0 where
  pub taken : List ℕ
  pub left : List ℕ
