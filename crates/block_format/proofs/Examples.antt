-- Worked texts: a header and the head of a body.
use Rattle.std.proofs.Common.{replicate, false, ◌≡◌, [], ◌∷◌, take, length, refl}
use Rattle.rec_format.specs.Versions.{a_put}
use Rattle.std.proofs.Common.{Bool, ℕ, List, inl, inr, arith, lit≤, lit<, ◌+◌, ◌/◌, ◌++◌, ◌<◌, ◌≤◌}
use Rattle.std.specs.List.{AllByRecursion}
use Rattle.rec_format.specs.RecordText.{record_text, CanBeRecorded}
use Rattle.rec_format.specs.declared.version.Digest.{Digest}
use Rattle.rec_format.specs.declared.version.Version.{Version}
use Rattle.block_format.specs.Layout.{header_text, body_head_text, IsFaultAt, gate_text, open_sector, closed_sector}

header : take 32 (header_text (record { block_size = 16384; blocks = 16; device = 0; devices = 1 }))
    ≡ 0x41 ∷ 0x53 ∷ 0x4e ∷ 0x4f ∷ 0x44 ∷ 0x45 ∷ 0x2d ∷ 0x44 ∷ 0x45 ∷ 0x56 ∷ 0x49 ∷ 0x43 ∷ 0x45 ∷ 0x2d ∷ 0x30 ∷ 0x31
    ∷ 1 ∷ 0 ∷ 0 ∷ 0 ∷ 0 ∷ 0x40 ∷ 0 ∷ 0 ∷ 0x10 ∷ 0 ∷ 0 ∷ 0 ∷ 0 ∷ 0 ∷ 1 ∷ 0 ∷ []
header = refl

lengths : length (header_text (record { block_size = 16384; blocks = 16; device = 0; devices = 1 })) ∷ length open_sector ∷ length closed_sector ∷ [] ≡ 4096 ∷ 4096 ∷ 4096 ∷ []
lengths = refl

gate : gate_text ≡ 0x41 ∷ 0x53 ∷ 0x4e ∷ 0x4f ∷ 0x44 ∷ 0x45 ∷ 0x2d ∷ 0x47 ∷ 0x41 ∷ 0x54 ∷ 0x45 ∷ 0x2d ∷ 0x4f ∷ 0x50 ∷ 0x45 ∷ 0x4e ∷ []
gate = refl

head : body_head_text 1 1 4 0
    ≡ 0x41 ∷ 0x53 ∷ 0x4e ∷ 0x42 ∷ 0x4f ∷ 0x44 ∷ 0x59 ∷ 0x31 ∷ 1 ∷ 0 ∷ 0 ∷ 0 ∷ 0 ∷ 0 ∷ 0 ∷ 0 ∷ 1 ∷ 0 ∷ 0 ∷ 0 ∷ 4 ∷ 0 ∷ 0 ∷ 0 ∷ 0 ∷ 0 ∷ 0 ∷ 0 ∷ 0 ∷ 0 ∷ 0 ∷ 0 ∷ []
head = refl

-- ---- where bytes are no body

abbrev sevens : Digest
sevens = record { 0 = replicate 20 7 }

abbrev at : ℕ → Bool → List ℕ → Version
at g cover payload = a_put (record { lut = 1000; gen_ = g }) 0 cover payload

hello_text : CanBeRecorded sevens (at 1 false (104 ∷ 101 ∷ 108 ∷ 108 ∷ 111 ∷ []))
hello_text = record {
  named = record { size = refl; bytes = sevens_are };
  version = record { tombstone = λ h. cc; time = (lit≤ tt, lit≤ tt); generation = (lit≤ tt, lit< tt); void = lit< tt };
  payload = (lit< tt, (lit< tt, (lit< tt, (lit< tt, (lit< tt, tt)))));
  size = lit< tt;
}
  where
    sevens_are : AllByRecursion (λ b. b < 256) (replicate 20 7)
    sevens_are = (
      lit< tt,
      (
        lit< tt,
        (
          lit< tt,
          (
            lit< tt,
            (
              lit< tt,
              (
                lit< tt,
                (
                  lit< tt,
                  (lit< tt, (lit< tt, (lit< tt, (lit< tt, (lit< tt, (lit< tt, (lit< tt, (lit< tt, (lit< tt, (lit< tt, (lit< tt, (lit< tt, (lit< tt, tt))))))))))))),
                ),
              ),
            ),
          ),
        ),
      ),
    )

-- zeros: no head
zeros_fault : IsFaultAt 766 (replicate 64 0) 0 0
zeros_fault = inl (λ number records units head. not_magic number records units head.text, refl)
  where
    not_magic : (number records units : ℕ) → take 32 (replicate 64 0) ≡ body_head_text number records units 0 → ⊥
    not_magic number records units same = cc

abbrev hello : Version
hello = at 1 false (104 ∷ 101 ∷ 108 ∷ 108 ∷ 111 ∷ [])

-- one record of 4 units, and a head that says 700: behind the record
units_fault : IsFaultAt 766 (body_head_text 1 1 700 0 ++ record_text sevens hello ++ replicate 64 0) 0 96
units_fault = inr (record {
  number = 1;
  count = 1;
  units = 700;
  head = record { number_fits = lit≤ tt; count_fits = lit< tt; units_fit = lit≤ tt; text = refl };
  records = (sevens, hello) ∷ [];
  each = (hello_text, tt);
  there = refl;
  within = lit≤ tt;
  place_is = refl;
  fault = inr (refl, four);
})
  where
    four : ◌≡◌ {A = ℕ} 4 700 → ⊥
    four same = cc

-- the head says more records than its units hold: at the place of the second
records_fault : IsFaultAt 766 (body_head_text 1 4294967295 4 0 ++ record_text sevens hello ++ replicate 64 0) 0 96
records_fault = inr (record {
  number = 1;
  count = 4294967295;
  units = 4;
  head = record { number_fits = lit≤ tt; count_fits = lit< tt; units_fit = lit≤ tt; text = refl };
  records = (sevens, hello) ∷ [];
  each = (hello_text, tt);
  there = refl;
  within = lit≤ tt;
  place_is = refl;
  fault = inl (lit< tt, λ digest v there within. no_room (length v.payload) within);
})
  where
    no_room : (n : ℕ) → 4 + (48 + n + 15) / 16 ≤ 4 → ⊥
    no_room n within = omega (arith, within)
