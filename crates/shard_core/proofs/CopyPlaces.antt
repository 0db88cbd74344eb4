-- Two copies of bodies lie apart where the bodies are of different blocks.
use Rattle.std.proofs.Common.{◌≡◌, ◌≢◌, ◌⊎◌, inl, inr, ℕ, ◌+◌, ◌≤◌, List, [], ◌∷◌, map, refl, sym, ◌∙◌, ap, subst, arith}
use Rattle.std.proofs.lemmas.List.Elements.{Contains-append_cases}
use Rattle.std.specs.Prelude.{Contains}
use Rattle.law_lists.proofs.Each.{all_at}
use Rattle.law_lists.proofs.Members.{cons_cases, first_there, rest_there, map_there}
use Rattle.rec_format.specs.declared.version.Digest.{Digest}
use Rattle.rec_format.specs.declared.version.Version.{Version}
use Rattle.rec_format.specs.Versions.{version_units}
use Rattle.disk_model.specs.Bytes.{Apart}
use Rattle.block_format.specs.Layout.{Body}
use Rattle.block_format.specs.Copies.{Copy, copies_from, copies_of}
use Rattle.block_shelf.specs.View.{AreApart}

-- ---- within a body

-- a copy of this block, behind so many units
record LiesFrom (block unit : ℕ) (c : Copy) : Type 0 where
  block_is : c.block ≡ block
  from : unit ≤ c.unit

each_behind : (block unit : ℕ) (records : List (Digest × Version)) (c : Copy) → Contains (copies_from block unit records) c → LiesFrom block unit c
each_behind block unit [] c there = absurd (omega (arith, there.1))
each_behind block unit (r ∷ records) c there = by (cons_cases first (copies_from block (unit + version_units r.1) records) c there) (each_behind block (unit + version_units r.1) records c)
  where
    first : Copy
    first = record { digest = r.0; version = r.1; block = block; unit = unit }

    by : (first ≡ c) ⊎ Contains (copies_from block (unit + version_units r.1) records) c
        → (Contains (copies_from block (unit + version_units r.1) records) c → LiesFrom block (unit + version_units r.1) c) → LiesFrom block unit c
    by (inl same) rest = subst (LiesFrom block unit) same (record { block_is = refl; from = omega arith })
    by (inr more) rest = let lies = rest more in record { block_is = lies.block_is; from = omega (arith, lies.from) }

-- two copies are one, or lie apart
abbrev pub AreOneOrApart : (c d : Copy) → Type 0
AreOneOrApart c d = (c ≡ d) ⊎ Apart c.unit (version_units c.version) d.unit (version_units d.version)

two_from : (block unit : ℕ) (records : List (Digest × Version)) (c d : Copy) → Contains (copies_from block unit records) c → Contains (copies_from block unit records) d → AreOneOrApart c d
two_from block unit [] c d in_c in_d = absurd (omega (arith, in_c.1))
two_from block unit (r ∷ records) c d in_c in_d = by (cons_cases first others c in_c) (cons_cases first others d in_d) (two_from block (unit + version_units r.1) records c d)
  where
    first : Copy
    first = record { digest = r.0; version = r.1; block = block; unit = unit }

    others : List Copy
    others = copies_from block (unit + version_units r.1) records

    ends : (x : Copy) → Contains others x → first.unit + version_units first.version ≤ x.unit
    ends x there = (each_behind block (unit + version_units r.1) records x there).from

    by : (first ≡ c) ⊎ Contains others c → (first ≡ d) ⊎ Contains others d → (Contains others c → Contains others d → AreOneOrApart c d) → AreOneOrApart c d
    by (inl is_c) (inl is_d) rest = inl (sym is_c ∙ is_d)
    by (inl is_c) (inr more) rest = inr (inl (subst (λ (x : Copy). x.unit + version_units x.version ≤ d.unit) is_c (ends d more)))
    by (inr more) (inl is_d) rest = inr (inr (subst (λ (x : Copy). x.unit + version_units x.version ≤ c.unit) is_d (ends c more)))
    by (inr more_c) (inr more_d) rest = rest more_c more_d

-- ---- within bodies

in_body : (bodies : List Body) (c : Copy) → Contains (copies_of bodies) c → (b : Body) × Contains bodies b × Contains (copies_from b.block 0 b.records) c
in_body [] c there = absurd (omega (arith, there.1))
in_body (b ∷ bodies) c there = by (Contains-append_cases (copies_from b.block 0 b.records) (copies_of bodies) c there) (in_body bodies c)
  where
    by : Contains (copies_from b.block 0 b.records) c ⊎ Contains (copies_of bodies) c → (Contains (copies_of bodies) c → (x : Body) × Contains bodies x × Contains (copies_from x.block 0 x.records) c)
        → (x : Body) × Contains (b ∷ bodies) x × Contains (copies_from x.block 0 x.records) c
    by (inl here) rest = (b, first_there b bodies, here)
    by (inr more) rest = let one = rest more in (one.0, rest_there b bodies one.0 one.1, one.2)

one_of_block : (bodies : List Body) → AreApart (map (λ b. b.block) bodies) → (b c : Body) → Contains bodies b → Contains bodies c → b.block ≡ c.block → b ≡ c
one_of_block [] apart b c in_b in_c same = absurd (omega (arith, in_b.1))
one_of_block (x ∷ bodies) apart b c in_b in_c same = by (cons_cases x bodies b in_b) (cons_cases x bodies c in_c) (one_of_block bodies apart.1 b c)
  where
    other : (y : Body) → Contains bodies y → x.block ≢ y.block
    other y there = all_at (λ n. x.block ≢ n) (map (λ (z : Body). z.block) bodies) y.block apart.0 (map_there (λ (z : Body). z.block) bodies y there)

    by : (x ≡ b) ⊎ Contains bodies b → (x ≡ c) ⊎ Contains bodies c → (Contains bodies b → Contains bodies c → b.block ≡ c.block → b ≡ c) → b ≡ c
    by (inl is_b) (inl is_c) rest = sym is_b ∙ is_c
    by (inl is_b) (inr more) rest = absurd (other c more (ap (λ (y : Body). y.block) is_b ∙ same))
    by (inr more) (inl is_c) rest = absurd (other b more (ap (λ (y : Body). y.block) is_c ∙ sym same))
    by (inr more_b) (inr more_c) rest = rest more_b more_c same

pub copies_apart : (bodies : List Body) → AreApart (map (λ b. b.block) bodies) → (c d : Copy) → Contains (copies_of bodies) c → Contains (copies_of bodies) d → c.block ≡ d.block → AreOneOrApart c d
copies_apart bodies apart c d in_c in_d at =
    let one = in_body bodies c in_c in
    let two = in_body bodies d in_d in
    let here : one.0.block ≡ two.0.block = sym (each_behind one.0.block 0 one.0.records c one.2).block_is ∙ at ∙ (each_behind two.0.block 0 two.0.records d two.2).block_is in
    let same = one_of_block bodies apart one.0 two.0 one.1 two.1 here in
    two_from one.0.block 0 one.0.records c d one.2 (subst (λ (b : Body). Contains (copies_from b.block 0 b.records) d) (sym same) two.2)
