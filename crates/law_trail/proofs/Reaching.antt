-- A trail leads to a copy that no flushed version is later than, or nothing of the history is durable.
use Rattle.std.proofs.Common.{◌≡◌, ◌⊎◌, inl, inr, ℕ, ◌+◌, Bool, true, false, not, cond, ◌||◌, List, [], ◌∷◌, Option, Some, None, refl, sym, ◌∙◌, ap, subst, arith}
use Rattle.std.proofs.lemmas.Bool.{both_ways, cond_both}
use Rattle.std.specs.Prelude.{Contains}
use Rattle.std.specs.List.{AllByRecursion}
use Rattle.law_lists.proofs.Each.{all_map}
use Rattle.law_lists.proofs.Members.{cons_cases, first_there, rest_there, map_there, filter_there, flat_map_there}
use Rattle.rec_format.specs.declared.version.Digest.{Digest}
use Rattle.rec_format.specs.declared.version.Version.{Version}
use Rattle.rec_format.specs.Places.{same_digest}
use Rattle.rec_format.specs.Versions.{is_later, version_units}
use Rattle.model_device.specs.Histories.{Item, write, dropped, rid, cleared, Pending, is_flushed, is_durable, top_of, writes_of}
use Rattle.model_device.specs.Book.{Book, pending_of, live_of}
use Rattle.model_device.specs.Device.{State, history}
use Rattle.rec_format.proofs.Laws.{same_digest_refl}
use Rattle.block_format.specs.Layout.{Body}
use Rattle.block_format.specs.Copies.{Copy, copies_from, copies_of, copies_named}
use Rattle.law_start.specs.Orderly.{IsFalling}
use Rattle.law_start.specs.Holding.{flushed_versions, versions_in}
use Rattle.law_start.proofs.ColdOrder.{later_one_way, no_later_itself}
use Rattle.law_trail.specs.Trail.{Records, StoredIn, WaitsIn, Trail, stored, first, replaced, moved, moved_found, uncovered_since, LeadsOn, IsTrailed, IsReached}
use Rattle.law_trail.proofs.Places.{placed_pending}

-- ---- what is stored is found

-- some copy is of this record
abbrev IsCopied : List Copy → Digest → Version → Type 0
IsCopied copies digest v = (c : Copy) × Contains copies c × (c.digest ≡ digest) × (c.version ≡ v)

record_copied : (block unit : ℕ) (records : List (Digest × Version)) (digest : Digest) (v : Version) → Contains records (digest, v) → IsCopied (copies_from block unit records) digest v
record_copied block unit [] digest v there = absurd (omega (arith, there.1))
record_copied block unit (r ∷ records) digest v there = by (cons_cases r records (digest, v) there) (record_copied block (unit + version_units r.1) records digest v)
  where
    c : Copy
    c = record { digest = r.0; version = r.1; block = block; unit = unit }

    rest : List Copy
    rest = copies_from block (unit + version_units r.1) records

    by : (r ≡ (digest, v)) ⊎ Contains records (digest, v) → (Contains records (digest, v) → IsCopied rest digest v) → IsCopied (c ∷ rest) digest v
    by (inl e) more = (c, first_there c rest, ap (λ (x : Digest × Version). x.0) e, ap (λ (x : Digest × Version). x.1) e)
    by (inr in_rest) more = let one = more in_rest in (one.0, rest_there c rest one.0 one.1, one.2, one.3)

pub stored_found : (bodies : List Body) (block : ℕ) (digest : Digest) (v : Version) → StoredIn bodies block digest v → Contains (versions_in digest bodies) v
stored_found bodies block digest v is =
    let one = record_copied is.body.block 0 is.body.records digest v is.has in
    subst (Contains (versions_in digest bodies)) one.3
    (map_there (λ (c : Copy). c.version) (copies_named digest (copies_of bodies)) one.0
    (filter_there (λ (c : Copy). same_digest digest c.digest) (copies_of bodies) one.0 (subst (λ (d : Digest). same_digest digest d ≡ true) (sym one.2) (same_digest_refl digest))
    (flat_map_there (λ (b : Body). copies_from b.block 0 b.records) bodies is.body one.0 is.there one.1)))

-- ---- the order of a history

-- what holds of each write holds of each that is flushed
all_flushed : (P : Version → Type 0) (p : Pending) (items : List Item) → AllByRecursion P (writes_of items) → AllByRecursion P (flushed_versions p items)
all_flushed P p [] all = tt
all_flushed P p (write v numbers ∷ items) all =
    let rest = all_flushed P p items all.1 in cond_both (is_flushed p numbers) (v ∷ flushed_versions p items) (flushed_versions p items) (AllByRecursion P) (λ _. (all.0, rest)) (λ _. rest)
all_flushed P p (dropped ∷ items) all = all_flushed P p items all
all_flushed P p (rid ∷ items) all = all_flushed P p items all
all_flushed P p (cleared ∷ items) all = all_flushed P p items all

-- no write is later than the newest
none_later : (v : Version) (older : List Version) → IsFalling (v ∷ older) → AllByRecursion (λ w. is_later w v ≡ false) (v ∷ older)
none_later v older falling =
    (no_later_itself v.stamp v.stamp refl, all_map (λ w. is_later v w ≡ true) (λ w. is_later w v ≡ false) older (λ w later. later_one_way v.stamp w.stamp later) falling.0)

-- without an entry nothing is durable
none_durable : (p : Pending) (items : List Item) → top_of items ≡ None → is_durable p items ≡ false
none_durable p [] none = refl
none_durable p (write v numbers ∷ items) none = absurd (cc)
none_durable p (dropped ∷ items) none = refl
none_durable p (rid ∷ items) none = refl
none_durable p (cleared ∷ items) none = none_durable p items none

-- ---- along a trail

module _ (book : Book) (records : Records) (bodies : List Body) (digest : Digest) where
  abbrev pending : Pending
  pending = pending_of book

  -- a write that waits in one buffer alone isn't flushed
  unflushed : (v : Version) (number block : ℕ) → WaitsIn book records number block digest v → is_flushed pending (number ∷ []) ≡ false
  unflushed v number block waits = ap (λ (b : Bool). not b || false) (placed_pending book number block waits.placed)

  -- and one that waits in a buffer more is flushed as it was without it
  flushed_before : (v : Version) (number block n : ℕ) (ns : List ℕ) → WaitsIn book records number block digest v → is_flushed pending (number ∷ n ∷ ns) ≡ is_flushed pending (n ∷ ns)
  flushed_before v number block n ns waits = ap (λ (b : Bool). not b || is_flushed pending (n ∷ ns)) (placed_pending book number block waits.placed)

  abbrev IsFound : List Item → Type 0
  IsFound items = IsReached pending items (versions_in digest bodies)

  -- the same is found where the newest write isn't flushed
  found_behind : (v : Version) (numbers : List ℕ) (older : List Item) → is_flushed pending numbers ≡ false → (is_durable pending older ≡ true → IsFound older)
      → is_durable pending (write v numbers ∷ older) ≡ true → IsFound (write v numbers ∷ older)
  found_behind v numbers older none rest durable =
      let found = rest (sym (ap (λ (b : Bool). b || is_durable pending older) none) ∙ durable) in
      record {
        version = found.version;
        there = found.there;
        last = subst (λ (b : Bool). AllByRecursion (λ w. is_later w found.version ≡ false) (cond b (v ∷ flushed_versions pending older) (flushed_versions pending older))) (sym none) found.last;
      }

  -- or is flushed as it was
  found_alike : (v : Version) (numbers fewer : List ℕ) (older : List Item) → is_flushed pending numbers ≡ is_flushed pending fewer
      → (is_durable pending (write v fewer ∷ older) ≡ true → IsFound (write v fewer ∷ older))
      → is_durable pending (write v numbers ∷ older) ≡ true → IsFound (write v numbers ∷ older)
  found_alike v numbers fewer older same rest durable =
      let found = rest (sym (ap (λ (b : Bool). b || is_durable pending older) same) ∙ durable) in
      record {
        version = found.version;
        there = found.there;
        last = subst (λ (b : Bool). AllByRecursion (λ w. is_later w found.version ≡ false) (cond b (v ∷ flushed_versions pending older) (flushed_versions pending older))) (sym same) found.last;
      }

  pub trail_reaches : {block : ℕ} {items : List Item} → Trail book records bodies digest block items → IsFalling (writes_of items) → is_durable pending items ≡ true → IsFound items
  trail_reaches (stored {block = block} {v = v} {numbers = numbers} {older = older} none is) falling durable = record {
    version = v;
    there = stored_found bodies block digest v is;
    last = all_flushed (λ w. is_later w v ≡ false) pending (write v numbers ∷ older) (none_later v (writes_of older) falling);
  }
  trail_reaches (first {block = block} {number = number} {v = v} {older = older} waits none) falling durable =
      found_behind v (number ∷ []) older (unflushed v number block waits) (λ is. absurd (both_ways (is_durable pending older) (none_durable pending older none) is)) durable
  trail_reaches (replaced {block = block} {number = number} {v = v} {older = older} waits held rest) falling durable =
      found_behind v (number ∷ []) older (unflushed v number block waits) (trail_reaches rest falling.1) durable
  trail_reaches (moved {block = block} {number = number} {n = n} {v = v} {ns = ns} {older = older} waits held rest) falling durable =
      found_alike v (number ∷ n ∷ ns) (n ∷ ns) older (flushed_before v number block n ns waits) (trail_reaches rest falling) durable
  trail_reaches (moved_found waits held rest) falling durable = trail_reaches rest falling durable
  trail_reaches (uncovered_since rest) falling durable = let found = trail_reaches rest falling durable in record { version = found.version; there = found.there; last = found.last }

-- Where a history is durable the bodies have a copy that no flushed version of it is later than.
pub reaches : (s : State) (records : Records) (bodies : List Body) (digest : Digest) → IsTrailed s records bodies → IsFalling (writes_of (history s digest))
    → is_durable (pending_of s.book) (history s digest) ≡ true
    → IsReached (pending_of s.book) (history s digest) (versions_in digest bodies)
reaches s records bodies digest trailed falling durable = by (live_of digest s.book.live) (trailed digest)
  where
    by : (live : Option _) → LeadsOn s.book records bodies digest live (history s digest) → IsReached (pending_of s.book) (history s digest) (versions_in digest bodies)
    by None none = absurd (both_ways (is_durable (pending_of s.book) (history s digest)) (none_durable (pending_of s.book) (history s digest) none) durable)
    by (Some l) trail = trail_reaches s.book records bodies digest trail falling durable
