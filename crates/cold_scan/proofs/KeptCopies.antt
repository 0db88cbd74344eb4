-- The map has the latest of the copies that were taken so far, copy after copy.
use Rattle.std.proofs.Common.{◌≡◌, ℕ, suc, ◌+◌, Bool, true, false, cond, List, [], ◌∷◌, ◌++◌, length, Option, Some, None, refl, sym, ◌∙◌, ap, subst, append_assoc}
use Rattle.std.specs.Prelude.{◌==◌, map, option_map, MatchBool}
use Rattle.std.specs.BTreeMap.{BTreeMap, get, Updates, IsOrdered}
use Rattle.std.specs.Map.{lookup}
use Rattle.std.proofs.lemmas.Bool.{cond-true, cond-false}
use Rattle.std.proofs.lemmas.List.{append-nil, length-append}
use Rattle.std.proofs.lemmas.List.Elements.{filter-append}
use Rattle.rec_format.specs.declared.version.Digest.{Digest}
use Rattle.rec_format.specs.declared.version.Version.{Version}
use Rattle.rec_format.specs.Places.{device_number, digest_cmp, same_digest}
use Rattle.rec_format.specs.Versions.{version_units, is_later, is_later_stamp}
use Rattle.rec_format.proofs.Laws.{same_digest_is, same_digest_refl}
use Rattle.block_format.specs.declared.geometry.Geometry.{Geometry}
use Rattle.block_format.specs.Layout.{Body}
use Rattle.block_format.specs.Readings.{found_from}
use Rattle.block_format.specs.Copies.{Copy, copies_from, copies_of, cold_copy}
use Rattle.law_start.specs.Cold.{later_one}
use Rattle.law_start.proofs.Cold.{cold_copy_more}
use Rattle.cold_scan.specs.declared.bodies.Kept.{Kept}
use Rattle.cold_scan.specs.Starting.{own_copies}
use Rattle.cold_scan.specs.Found.{kept_of, kept_found, later_kept, KeepsLater, KeepsOne, KeepsAll, HasKept}

-- ---- digests

same_from : (a b : Digest) → same_digest a b ≡ true → same_digest b a ≡ true
same_from a b same = subst (λ (d : Digest). same_digest d a ≡ true) (same_digest_is a b same) (same_digest_refl a)

-- two digests are the same either way
pub same_turned : (a b : Digest) → same_digest a b ≡ same_digest b a
same_turned a b = by (same_digest a b) (same_digest b a) refl refl
  where
    by : (p q : Bool) → same_digest a b ≡ p → same_digest b a ≡ q → p ≡ q
    by true q is back = sym (same_from a b is) ∙ back
    by false true is back = sym is ∙ same_from b a back
    by false false is back = refl

-- ---- copies, body after body

pub copies_more : (bodies : List Body) (b : Body) → copies_of (bodies ++ b ∷ []) ≡ copies_of bodies ++ copies_from b.block 0 b.records
copies_more [] b = append-nil (copies_from b.block 0 b.records)
copies_more (x ∷ bodies) b = ap (λ (l : List Copy). copies_from x.block 0 x.records ++ l) (copies_more bodies b)
    ∙ sym (append_assoc (copies_from x.block 0 x.records) (copies_of bodies) (copies_from b.block 0 b.records))

-- a body has a copy for each of its records
copies_long : (block unit : ℕ) (records : List (Digest × Version)) → length (copies_from block unit records) ≡ length records
copies_long block unit [] = refl
copies_long block unit (r ∷ records) = ap suc (copies_long block (unit + version_units r.1) records)

pub count_more : (bodies : List Body) (b : Body) → length (copies_of (bodies ++ b ∷ [])) ≡ length (copies_of bodies) + length b.records
count_more bodies b =
    ap length (copies_more bodies b) ∙ length-append (copies_of bodies) (copies_from b.block 0 b.records) ∙ ap (λ (n : ℕ). length (copies_of bodies) + n) (copies_long b.block 0 b.records)

-- what is kept of the records that were found is that of the copies
pub found_kept : (block unit : ℕ) (records : List (Digest × Version)) → map (kept_found block) (found_from unit records) ≡ map kept_of (copies_from block unit records)
found_kept block unit [] = refl
found_kept block unit (r ∷ records) =
    let c : Copy = record { digest = r.0; version = r.1; block = block; unit = unit } in
    ap (λ (l : List Kept). kept_of c ∷ l) (found_kept block (unit + version_units r.1) records)

-- ---- several copies

pub kept_more : (g : Geometry) (ks : List Kept) (k : Kept) (old mid new : BTreeMap Digest Kept) → KeepsAll g ks old mid → KeepsOne g k mid new → KeepsAll g (ks ++ k ∷ []) old new
kept_more g [] k old mid new same one = subst (λ (m : BTreeMap Digest Kept). KeepsAll g (k ∷ []) m new) same (new, one, refl)
kept_more g (x ∷ ks) k old mid new all one = (all.0, all.1, kept_more g ks k all.0 mid new all.2 one)

-- ---- one copy

-- a copy that isn't later than the one that is there changes nothing
pub stays : (k found : Kept) (old : BTreeMap Digest Kept) → get digest_cmp old k.head.digest ≡ Some found → is_later_stamp k.head.stamp found.head.stamp ≡ false → KeepsLater k old old
stays k found old is none = record { each = λ d. by d (same_digest d k.head.digest) refl; ordered = λ ordered. ordered }
  where
    by : (d : Digest) (b : Bool) → same_digest d k.head.digest ≡ b → get digest_cmp old d ≡ cond b (Some (later_kept (get digest_cmp old k.head.digest) k)) (get digest_cmp old d)
    by d true same =
        ap (λ (x : Digest). get digest_cmp old x) (same_digest_is d k.head.digest same) ∙ is
        ∙ sym (ap (λ (o : Option Kept). Some (later_kept o k)) is ∙ ap Some (cond-false (is_later_stamp k.head.stamp found.head.stamp) k found none))
    by d false other = refl

-- the copy is put at its digest
pub put : (k : Kept) (old new : BTreeMap Digest Kept) → later_kept (get digest_cmp old k.head.digest) k ≡ k → Updates digest_cmp old new k.head.digest (Some k)
    → IsOrdered digest_cmp new → KeepsLater k old new
put k old new is updates ordered = record {
  each = λ d. updates.0 d ∙ (λ i. cond (same_turned k.head.digest d i) (Some (sym is i)) (get digest_cmp old d));
  ordered = λ was. ordered;
}

pub later_than : (k found : Kept) (old : BTreeMap Digest Kept) → get digest_cmp old k.head.digest ≡ Some found → is_later_stamp k.head.stamp found.head.stamp ≡ true
    → later_kept (get digest_cmp old k.head.digest) k ≡ k
later_than k found old is later = ap (λ (o : Option Kept). later_kept o k) is ∙ cond-true (is_later_stamp k.head.stamp found.head.stamp) k found later

-- ---- the latest copies

-- an empty map has the latest of no copies
pub kept_none : (g : Geometry) (m : BTreeMap Digest Kept) → m.entries ≡ [] → IsOrdered digest_cmp m → HasKept g [] m
kept_none g m empty ordered = record {
  each = λ d. ap (λ (es : List (Digest × Kept)). lookup (same_digest d) es) empty;
  ordered = ordered;
}

later_same : (o : Option Copy) (c : Copy) → later_kept (option_map kept_of o) (kept_of c) ≡ kept_of (later_one o c)
later_same None c = refl
later_same (Some x) c = by (is_later c.version x.version)
  where
    by : (b : Bool) → cond b (kept_of c) (kept_of x) ≡ kept_of (cond b c x)
    by true = refl
    by false = refl

module _ (g : Geometry) (copies : List Copy) (c : Copy) (old new : BTreeMap Digest Kept) (has : HasKept g copies old) (keeps : KeepsOne g (kept_of c) old new) where
  abbrev own : List Copy
  own = own_copies g.device g.devices copies

  own_more : own_copies g.device g.devices (copies ++ c ∷ []) ≡ own ++ cond (device_number g.devices c.digest == g.device) (c ∷ []) []
  own_more = filter-append (λ (x : Copy). device_number g.devices x.digest == g.device) copies (c ∷ [])

  -- what the map has of a digest then
  each_more : KeepsLater (kept_of c) old new → (d : Digest) → get digest_cmp new d ≡ option_map kept_of (cold_copy d (own ++ c ∷ []))
  each_more later d = later.each d ∙ by (same_digest d c.digest) refl ∙ ap (option_map kept_of) (sym (cold_copy_more d own c))
    where
      by : (b : Bool) → same_digest d c.digest ≡ b
          → cond b (Some (later_kept (get digest_cmp old c.digest) (kept_of c))) (get digest_cmp old d) ≡ option_map kept_of (cond b (Some (later_one (cold_copy d own) c)) (cold_copy d own))
      by true same =
          ap (λ (o : Option Kept). Some (later_kept o (kept_of c))) (has.each c.digest) ∙ ap Some (later_same (cold_copy c.digest own) c)
          ∙ ap (λ (x : Digest). Some (kept_of (later_one (cold_copy x own) c))) (sym (same_digest_is d c.digest same))
      by false other = has.each d

  -- one that is of the device is taken, and another changes nothing
  kept_one : HasKept g (copies ++ c ∷ []) new
  kept_one = by (device_number g.devices c.digest == g.device) own_more keeps
    where
      by : (b : Bool) → own_copies g.device g.devices (copies ++ c ∷ []) ≡ own ++ cond b (c ∷ []) [] → MatchBool b (KeepsLater (kept_of c) old new) (new ≡ old) → HasKept g (copies ++ c ∷ []) new
      by true more later = record {
        each = λ d. each_more later d ∙ ap (λ (l : List Copy). option_map kept_of (cold_copy d l)) (sym more);
        ordered = later.ordered has.ordered;
      }
      by false more same = record {
        each = λ d. ap (λ (m : BTreeMap Digest Kept). get digest_cmp m d) same ∙ has.each d ∙ ap (λ (l : List Copy). option_map kept_of (cold_copy d l)) (sym (more ∙ append-nil own));
        ordered = subst (IsOrdered digest_cmp) (sym same) has.ordered;
      }

pub kept_all : (g : Geometry) (more copies : List Copy) (old new : BTreeMap Digest Kept) → HasKept g copies old → KeepsAll g (map kept_of more) old new → HasKept g (copies ++ more) new
kept_all g [] copies old new has same = subst (λ (l : List Copy). HasKept g l new) (sym (append-nil copies)) (subst (HasKept g copies) (sym same) has)
kept_all g (c ∷ more) copies old new has keeps =
    subst (λ (l : List Copy). HasKept g l new) (append_assoc copies (c ∷ []) more)
    (kept_all g more (copies ++ c ∷ []) keeps.0 new (kept_one g copies c old keeps.0 has keeps.1) keeps.2)
