-- Worked values: the turns of a raid over 4 parts and 2 blocks, and the numbers of raids.
use Rattle.std.proofs.Common.{◌≡◌, ◌^◌, ℕ, zero, suc, List, [], ◌∷◌, refl}
use Rattle.raid_book.specs.declared.found.FoundCopy.{FoundCopy}
use Rattle.raid_book.specs.declared.turn.RaidNext.{RaidNext}
use Rattle.raid_book.specs.declared.turn.RaidNext.TheVariants.{Mark, Scan, Apply, Drop, Finished}
use Rattle.raid_book.specs.Books.{BookState, empty_book, begun, given_up, with_scan, after_turn}

abbrev copy : (part : ℕ) → FoundCopy
copy part = record { part = part; digest = record { 0 = part ∷ [] }; stamp = record { lut = 1000; gen_ = 1 } }

-- block 0 has copies of the parts 1 and 3, and block 1 one of part 0
abbrev found_in : (block : ℕ) → List FoundCopy
found_in zero = copy 3 ∷ copy 3 ∷ copy 1 ∷ []
found_in (suc block) = copy 0 ∷ []

abbrev turned : RaidNext → BookState → BookState
turned (Mark part) b = after_turn (Mark part) part b
turned (Scan block) b = with_scan (found_in block) b
turned (Apply part) b = after_turn (Apply part) part b
turned (Drop part) b = after_turn (Drop part) part b
turned Finished b = b

-- so many turns, one after another
abbrev turns : ℕ → BookState → List RaidNext
turns zero b = []
turns (suc n) b = b.next ∷ turns n (turned b.next b)

order : turns 14 (begun (empty_book 4 2))
    ≡ Mark 0 ∷ Mark 1 ∷ Mark 2 ∷ Mark 3 ∷ Scan 0 ∷ Apply 1 ∷ Apply 3 ∷ Scan 1 ∷ Apply 0 ∷ Drop 0 ∷ Drop 1 ∷ Drop 2 ∷ Drop 3 ∷ Finished ∷ []
order = refl

abbrev after_turns : ℕ → BookState → BookState
after_turns zero b = b
after_turns (suc n) b = after_turns n (turned b.next b)

-- a raid may be begun over another or given up at any turn, here its sixth, and nothing that was found is left
abbrev over_another : BookState
over_another = begun (after_turns 5 (begun (empty_book 4 2)))

abbrev left_off : BookState
left_off = given_up (after_turns 5 (begun (empty_book 4 2)))

ends : over_another.next ∷ left_off.next ∷ [] ≡ Mark 0 ∷ Finished ∷ []
ends = refl

nothing_left : over_another.found ∷ left_off.found ∷ [] ≡ [] ∷ [] ∷ []
nothing_left = refl

-- each of these raises the number, up to 2^62
numbers : (given_up (empty_book 4 2)).number ∷ over_another.number ∷ left_off.number ∷ (given_up (record (empty_book 4 2) { number = 2 ^ 62 })).number ∷ [] ≡ 1 ∷ 2 ∷ 2 ∷ 2 ^ 62 ∷ []
numbers = refl
