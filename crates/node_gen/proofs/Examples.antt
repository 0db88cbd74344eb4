-- Worked lines of the script, counts of replies, and a summary.
use Rattle.std.proofs.Common.{◌≡◌, [], ◌∷◌, length, refl}
use Rattle.std.specs.Prelude.{codes}
use Rattle.std.specs.Fmt.{digits}
use Rattle.hex.specs.Hex.{encode_lower}
use Rattle.hex.proofs.OnLiterals.{hex_on_literals}
use Rattle.node_gen.specs.Replies.{counts_of}
use Rattle.node_gen.specs.Script.{nth_digest, digest_line, divisible_by, script}
use Rattle.node_gen.specs.Summary.{summary}

first_digest : encode_lower (nth_digest 1) ≡ codes "157c4a7fb979379e010000000000000000000000"
unfolding hex_on_literals
first_digest = refl

-- Three times 0x9e3779b97f4a7c15 ends with the 64 bits 0xdaa66d2c7ddf743f.
third_digest : encode_lower (nth_digest 3) ≡ codes "3f74df7d2c6da6da030000000000000000000000"
unfolding hex_on_literals
third_digest = refl

bury_line : digest_line (codes "bury") 7 ≡ codes "bury 9364097b12548453070000000000000000000000"
unfolding hex_on_literals
bury_line = refl

buried : divisible_by 7 10 ≡ 0 ∷ 7 ∷ []
buried = refl

lines : length (script 10) ≡ 31
lines = refl

-- Even without a record there is the flush, and the end.
no_record : script 0 ≡ codes "flush" ∷ codes "quit" ∷ []
no_record = refl

counts : counts_of (codes "ok 1 1" ∷ codes "val 1 1 0 aa" ∷ codes "none" ∷ codes "gone" ∷ codes "bye" ∷ codes "err space" ∷ codes "okay 1" ∷ [])
    ≡ record { lines = 7; ok = 1; gone = 1; val = 1; none = 1; bye = 1; err = 1 }
counts = refl

summed_up : summary 10 (record { lines = 31; ok = 18; gone = 2; val = 7; none = 3; bye = 1; err = 0 }) 7 2
    ≡ codes "gen 10 lines 31 ok 18 gone 2 val 7 none 3 bye 1 err 0 records 7 tombstones 2"
unfolding digits
summed_up = refl
