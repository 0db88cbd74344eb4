-- A digest has a bare put among some copies exactly where what is kept of them has an uncovered put behind a tombstone behind another.
use Rattle.std.proofs.Common.{◌≡◌, Bool, true, false, not, ◌&&◌, List, Option, Some, None, sym, ◌∙◌, ap, subst, ℕ}
use Rattle.std.specs.Prelude.{Contains}
use Rattle.std.specs.List.{list_any}
use Rattle.std.specs.BTreeMap.{BTreeMap, IsOrdered}
use Rattle.std.proofs.lemmas.Bool.{and_parts, and_from, false_from_ne_true}
use Rattle.law_lists.proofs.Members.{filter_there, filter_from}
use Rattle.law_lists.proofs.Finding.{any_there, some_at}
use Rattle.rec_format.specs.declared.version.Digest.{Digest}
use Rattle.rec_format.specs.Places.{same_digest}
use Rattle.rec_format.specs.Versions.{is_later, is_later_stamp, is_tombstone, is_put}
use Rattle.rec_format.proofs.Laws.{same_digest_is, same_digest_refl}
use Rattle.block_format.specs.declared.geometry.Geometry.{Geometry}
use Rattle.block_format.specs.Copies.{Copy, copies_named}
use Rattle.sound_scan.specs.declared.tally.Stamped.{Stamped}
use Rattle.sound_scan.specs.declared.tally.Past.{Past}
use Rattle.sound_scan.specs.Least.{IsLeast}
use Rattle.sound_scan.specs.Tallied.{stamped_cmp, name_of, has_bare_in, IsPast, Knows, HasPast}
use Rattle.sound_scan.proofs.Names.{listed_found, found_listed}
use Rattle.sound_scan.proofs.Walks.{Entry, Bared, Finds}

-- an uncovered put of these copies that is later than a tombstone that is later than another
pub record IsBare (copies : List Copy) (digest : Digest) : Type 0 where
  pub first : Copy
  pub mid : Copy
  pub last : Copy
  pub in_first : Contains copies first
  pub in_mid : Contains copies mid
  pub in_last : Contains copies last
  pub of_first : same_digest digest first.digest ≡ true
  pub of_mid : same_digest digest mid.digest ≡ true
  pub of_last : same_digest digest last.digest ≡ true
  pub tombstone : is_tombstone mid.version ≡ true
  pub put : is_put last.version ≡ true
  pub later_mid : is_later mid.version first.version ≡ true
  pub later_last : is_later last.version mid.version ≡ true
  pub bare : not last.version.cover ≡ true

abbrev named : Digest → Copy → Bool
named digest c = same_digest digest c.digest

abbrev bare_test : Copy → Copy → Copy → Bool
bare_test a t p = is_tombstone t.version && is_put p.version && is_later t.version a.version && is_later p.version t.version && not p.version.cover

pub bare_from : (copies : List Copy) (digest : Digest) → IsBare copies digest → has_bare_in copies digest ≡ true
bare_from copies digest b =
    let mine = copies_named digest copies in
    let there : (c : Copy) → Contains copies c → same_digest digest c.digest ≡ true → Contains mine c = λ c in_all of. filter_there (named digest) copies c of in_all in
    let two = and_from (is_tombstone b.mid.version) (is_put b.last.version) b.tombstone b.put in
    let three = and_from (is_tombstone b.mid.version && is_put b.last.version) (is_later b.mid.version b.first.version) two b.later_mid in
    let four = and_from (is_tombstone b.mid.version && is_put b.last.version && is_later b.mid.version b.first.version) (is_later b.last.version b.mid.version) three b.later_last in
    let test : bare_test b.first b.mid b.last ≡ true = and_from (is_tombstone b.mid.version && is_put b.last.version && is_later b.mid.version b.first.version && is_later b.last.version b.mid.version)
    (not b.last.version.cover) four b.bare in
    any_there (λ a. list_any (λ t. list_any (λ p. bare_test a t p) mine) mine) mine b.first (there b.first b.in_first b.of_first)
    (any_there (λ t. list_any (λ p. bare_test b.first t p) mine) mine b.mid (there b.mid b.in_mid b.of_mid)
    (any_there (λ p. bare_test b.first b.mid p) mine b.last (there b.last b.in_last b.of_last) test))

pub bare_to : (copies : List Copy) (digest : Digest) → has_bare_in copies digest ≡ true → IsBare copies digest
bare_to copies digest is =
    let mine = copies_named digest copies in
    let a = some_at (λ a. list_any (λ t. list_any (λ p. bare_test a t p) mine) mine) mine is in
    let t = some_at (λ t. list_any (λ p. bare_test a.0 t p) mine) mine a.2 in
    let p = some_at (λ p. bare_test a.0 t.0 p) mine t.2 in
    let a_in = filter_from (named digest) copies a.0 a.1 in
    let t_in = filter_from (named digest) copies t.0 t.1 in
    let p_in = filter_from (named digest) copies p.0 p.1 in
    let five = and_parts (is_tombstone t.0.version && is_put p.0.version && is_later t.0.version a.0.version && is_later p.0.version t.0.version) (not p.0.version.cover) p.2 in
    let four = and_parts (is_tombstone t.0.version && is_put p.0.version && is_later t.0.version a.0.version) (is_later p.0.version t.0.version) five.0 in
    let three = and_parts (is_tombstone t.0.version && is_put p.0.version) (is_later t.0.version a.0.version) four.0 in
    let two = and_parts (is_tombstone t.0.version) (is_put p.0.version) three.0 in
    record {
      first = a.0;
      mid = t.0;
      last = p.0;
      in_first = a_in.0;
      in_mid = t_in.0;
      in_last = p_in.0;
      of_first = a_in.1;
      of_mid = t_in.1;
      of_last = p_in.1;
      tombstone = two.0;
      put = two.1;
      later_mid = three.1;
      later_last = four.1;
      bare = five.1;
    }

-- ---- what is kept

module _ (g : Geometry) (bytes : List ℕ) (copies : List Copy) (past : BTreeMap Stamped Past) (has : HasPast g bytes copies past) (ordered : IsOrdered stamped_cmp past) where
  listed : (e : Entry) → Contains past.entries e → IsPast g bytes copies e.0 e.1
  listed e there = has.from e.0 e.1 (listed_found past.entries e ordered there)

  of_name : (c : Copy) (name : Stamped) (d : Digest) → name_of c ≡ name → name.digest ≡ d → same_digest d c.digest ≡ true
  of_name c name d is of = subst (λ (x : Digest). same_digest d x ≡ true) (sym (ap (λ (n : Stamped). n.digest) is ∙ of)) (same_digest_refl d)

  later_of : (c e : Copy) (x y : Stamped) → name_of c ≡ x → name_of e ≡ y → is_later_stamp x.stamp y.stamp ≡ true → is_later c.version e.version ≡ true
  later_of c e x y one two later = (λ i. is_later_stamp (one i).stamp (two i).stamp) ∙ later

  bared_is : (d : Digest) → Bared past.entries d → IsBare copies d
  bared_is d b =
      let first = listed b.behind.first b.behind.in_first in
      let mid = (listed b.behind.mid b.behind.in_mid).tombstone b.behind.tombstone in
      let last = (listed b.last b.in_last).uncovered b.uncovered in
      let open_put = and_parts (is_put last.copy.version) (not last.copy.version.cover) last.is in
      record {
        first = first.first;
        mid = mid.copy;
        last = last.copy;
        in_first = first.there;
        in_mid = mid.there;
        in_last = last.there;
        of_first = of_name first.first b.behind.first.0 d first.named b.behind.of_first;
        of_mid = of_name mid.copy b.behind.mid.0 d mid.named b.behind.of_mid;
        of_last = of_name last.copy b.last.0 d last.named b.of_last;
        tombstone = mid.is;
        put = open_put.0;
        later_mid = later_of mid.copy first.first b.behind.mid.0 b.behind.first.0 mid.named first.named b.behind.later;
        later_last = later_of last.copy mid.copy b.last.0 b.behind.mid.0 last.named mid.named b.later;
        bare = open_put.1;
      }

  entry_there : (c : Copy) → (k : Knows past c) → Contains past.entries (name_of c, k.past)
  entry_there c k = found_listed past.entries (name_of c) k.past k.found

  is_bared : (d : Digest) → IsBare copies d → Bared past.entries d
  is_bared d b =
      let first = has.each b.first b.in_first in
      let mid = has.each b.mid b.in_mid in
      let last = has.each b.last b.in_last in
      record {
        behind = record {
          first = (name_of b.first, first.past);
          mid = (name_of b.mid, mid.past);
          in_first = entry_there b.first first;
          in_mid = entry_there b.mid mid;
          of_first = sym (same_digest_is d b.first.digest b.of_first);
          of_mid = sym (same_digest_is d b.mid.digest b.of_mid);
          later = b.later_mid;
          tombstone = mid.tombstone b.tombstone;
        };
        last = (name_of b.last, last.past);
        in_last = entry_there b.last last;
        of_last = sym (same_digest_is d b.last.digest b.of_last);
        later = b.later_last;
        uncovered = last.uncovered (and_from (is_put b.last.version) (not b.last.version.cover) b.put b.bare);
      }

  none_here : (d : Digest) → (Bared past.entries d → ⊥) → has_bare_in copies d ≡ false
  none_here d none = false_from_ne_true (has_bare_in copies d) (λ is. none (is_bared d (bare_to copies d is)))

  -- So the least that the walk finds is the least with a bare put.
  pub least_found : (o : Option Digest) → Finds past.entries o → IsLeast (has_bare_in copies) o
  least_found None none = λ d. none_here d (none d)
  least_found (Some d) some = (bare_from copies d (bared_is d some.0), λ e before. none_here e (some.1 e before))
