-- Worked texts: the notes on a device, and what is written of one, up to the greatest numbers.
use Rattle.std.proofs.Common.{◌≡◌, refl, replicate}
use Rattle.std.specs.Prelude.{codes}
use Rattle.std.specs.Fmt.{digits}
use Rattle.hex.proofs.OnLiterals.{hex_on_literals}
use Rattle.law_start.specs.Audit.{all_sound, stray}
use Rattle.block_format.specs.Refusals.{not_formatted, other_shape, damaged_block}
use Rattle.model_node.specs.Notes.{fault_note, short_note, refusal_note, formatted_text, check_text, audit_text}

fault : fault_note 0 ≡ codes "device 0 fault"
unfolding digits
fault = refl

zeros : refusal_note 0 (not_formatted (replicate 64 0))
    ≡ codes "device 0 not formatted: 00000000000000000000000000000000000000000000000000000000000000000000000000000000000000000000000000000000000000000000000000000000"
unfolding hex_on_literals digits
zeros = refl

ones : refusal_note 15 (not_formatted (replicate 64 255))
    ≡ codes "device 15 not formatted: ffffffffffffffffffffffffffffffffffffffffffffffffffffffffffffffffffffffffffffffffffffffffffffffffffffffffffffffffffffffffffffffff"
unfolding hex_on_literals digits
ones = refl

other : refusal_note 0 (other_shape (record { block_size = 16384; blocks = 16; device = 1; devices = 2 }) 0 2 266240)
    ≡ codes "device 0 is 1 of 2, asked 0 of 2, length 266240"
unfolding digits
other = refl

greatest_other : refusal_note 15 (other_shape (record { block_size = 1048576; blocks = 4294967295; device = 65535; devices = 65535 }) 65535 65535 18446744073709551615)
    ≡ codes "device 15 is 65535 of 65535, asked 65535 of 65535, length 18446744073709551615"
unfolding digits
greatest_other = refl

damaged : refusal_note 0 (damaged_block 3 0)
    ≡ codes "device 0 block 3 damaged at 0"
unfolding digits
damaged = refl

greatest_damaged : refusal_note 15 (damaged_block 4294967295 4294967295)
    ≡ codes "device 15 block 4294967295 damaged at 4294967295"
unfolding digits
greatest_damaged = refl

short : short_note 0 4096
    ≡ codes "device 0 short: 4096"
unfolding digits
short = refl

empty : short_note 15 0
    ≡ codes "device 15 short: 0"
unfolding digits
empty = refl

greatest_short : short_note 65535 18446744073709551615
    ≡ codes "device 65535 short: 18446744073709551615"
unfolding digits
greatest_short = refl

formatted : formatted_text 16
    ≡ codes "formatted 16"
unfolding digits
formatted = refl

checked : check_text 0 2 2 0 1
    ≡ codes "device 0 open 2 copies 2 records 0 tombstones 1"
unfolding digits
checked = refl

greatest_checked : check_text 65535 4294967295 18446744073709551615 18446744073709551615 18446744073709551615
    ≡ codes "device 65535 open 4294967295 copies 18446744073709551615 records 18446744073709551615 tombstones 18446744073709551615"
unfolding digits
greatest_checked = refl

sound : audit_text 1 all_sound
    ≡ codes "device 1 sound"
unfolding digits
sound = refl

strayed : audit_text 0 (stray (record { 0 = replicate 20 255 }))
    ≡ codes "device 0 stray ffffffffffffffffffffffffffffffffffffffff"
unfolding digits hex_on_literals
strayed = refl
