-- What guards the possible copies of a digest still does when a copy or an item is added.
use Rattle.std.proofs.Common.{◌≡◌, ◌⊎◌, inl, inr, ⊎_elim, ℕ, Bool, true, false, not, List, [], ◌∷◌, refl, sym, ◌∙◌, ap, subst}
use Rattle.std.proofs.lemmas.Bool.{false≢true, both_ways}
use Rattle.std.specs.Prelude.{Contains, Option, Some, None}
use Rattle.std.specs.List.{AllByRecursion}
use Rattle.law_lists.proofs.Each.{all_at}
use Rattle.law_lists.proofs.Members.{cons_cases, first_there, rest_there}
use Rattle.rec_format.specs.declared.version.Version.{Version}
use Rattle.rec_format.specs.Versions.{is_later, is_put, is_tombstone}
use Rattle.model_device.specs.Histories.{Item, write, dropped, rid, cleared, top_of, is_covered, writes_of, with_number}
use Rattle.law_start.proofs.ColdOrder.{later_trans}
use Rattle.law_start.proofs.Growing.{not_both_later, same_not_later}
use Rattle.law_start.specs.Orderly.{IsFalling}
use Rattle.law_facts.specs.Guarded.{standing_writes, IsNeeded, IsGuarded}

-- ---- fewer copies

pub needed_more : {items : List Item} {P Q : Version → Type 0} {t : Version} → ((v : Version) → Q v → P v) → IsNeeded items Q t → IsNeeded items P t
needed_more fewer n = record { written = n.written; is_one = n.is_one; older = n.older; may_come = fewer n.older n.may_come; later = n.later }

pub guarded_fewer : (items : List Item) (P Q : Version → Type 0) → ((v : Version) → Q v → P v) → IsGuarded items P → IsGuarded items Q
guarded_fewer items P Q fewer g = record {
  falling = g.falling;
  written = λ v q. g.written v (fewer v q);
  standing = λ t n. g.standing t (needed_more fewer n);
  covered = λ t n. g.covered t (needed_more fewer n);
  puts = λ t p n q put later. g.puts t p (needed_more fewer n) (fewer p q) put later;
}

-- ---- the entry

-- the entry is the newest write
pub record IsTop (items : List Item) (e : Version) : Type 0 where
  pub there : Contains (writes_of items) e
  pub newest : (w : Version) → Contains (writes_of items) w → (e ≡ w) ⊎ (is_later e w ≡ true)

pub top_is : (items : List Item) (e : Version) → IsFalling (writes_of items) → top_of items ≡ Some e → IsTop items e
top_is [] e falling top = absurd cc
top_is (write v numbers ∷ older) e falling top =
    let same : v ≡ e = cc in
    record {
      there = subst (Contains (v ∷ writes_of older)) same (first_there v (writes_of older));
      newest = λ w there. by w (cons_cases v (writes_of older) w there);
    }
  where
    by : (w : Version) → (v ≡ w) ⊎ Contains (writes_of older) w → (e ≡ w) ⊎ (is_later e w ≡ true)
    by w (inl is) = inl cc
    by w (inr there) =
        let same : v ≡ e = cc in
        inr (subst (λ (u : Version). is_later u w ≡ true) same (all_at (λ u. is_later v u ≡ true) (writes_of older) w falling.0 there))
top_is (dropped ∷ older) e falling top = absurd cc
top_is (rid ∷ older) e falling top = absurd cc
top_is (cleared ∷ older) e falling top = let is = top_is older e falling top in record { there = is.there; newest = is.newest }

-- no write is later than it
pub none_after : (items : List Item) (e w : Version) → IsTop items e → Contains (writes_of items) w → is_later w e ≡ true → ⊥
none_after items e w is there later = by (is.newest w there)
  where
    by : (e ≡ w) ⊎ (is_later e w ≡ true) → ⊥
    by (inl same) = same_not_later w e later (ap (λ (v : Version). v.stamp) (sym same))
    by (inr before) = not_both_later w e later before

-- what is older than a write is older than it
pub older_too : (items : List Item) (e w v : Version) → IsTop items e → Contains (writes_of items) w → is_later w v ≡ true → is_later e v ≡ true
older_too items e w v is there later = by (is.newest w there)
  where
    by : (e ≡ w) ⊎ (is_later e w ≡ true) → is_later e v ≡ true
    by (inl same) = subst (λ (u : Version). is_later u v ≡ true) (sym same) later
    by (inr before) = later_trans e.stamp w.stamp v.stamp before later

pub top_covered : (items : List Item) (e : Version) → top_of items ≡ Some e → is_covered items ≡ true → e.cover ≡ true
top_covered [] e top covered = absurd cc
top_covered (write v numbers ∷ older) e top covered = let same : v ≡ e = cc in ap (λ (u : Version). u.cover) (sym same) ∙ covered
top_covered (dropped ∷ older) e top covered = absurd cc
top_covered (rid ∷ older) e top covered = absurd cc
top_covered (cleared ∷ older) e top covered = absurd (false≢true covered)

pub none_covered : (items : List Item) → top_of items ≡ None → is_covered items ≡ false
none_covered [] top = refl
none_covered (write v numbers ∷ older) top = absurd cc
none_covered (dropped ∷ older) top = refl
none_covered (rid ∷ older) top = refl
none_covered (cleared ∷ older) top = refl

-- ---- no tombstone is needed

-- nothing is behind an entry that isn't covered
pub uncovered_free : (items : List Item) (P : Version → Type 0) → IsGuarded items P → is_covered items ≡ false → (t : Version) → IsNeeded items P t → ⊥
uncovered_free items P g bare t n = both_ways (is_covered items) bare (g.covered t n)

-- nor where no possible copy is older than the entry
pub none_older_free : (items : List Item) (P : Version → Type 0) → IsGuarded items P → ((e : Version) → top_of items ≡ Some e → (v : Version) → P v → is_later e v ≡ true → ⊥)
    → (t : Version) → IsNeeded items P t → ⊥
none_older_free items P g none t n = by (top_of items) refl
  where
    by : (o : Option Version) → top_of items ≡ o → ⊥
    by None top = uncovered_free items P g (none_covered items top) t n
    by (Some e) top = none e top n.older n.may_come (older_too items e t n.older (top_is items e g.falling top) n.written n.later)

-- then an item that is no write may come
pub guarded_free : (items new : List Item) (P : Version → Type 0) → writes_of new ≡ writes_of items → ((t : Version) → IsNeeded items P t → ⊥) → IsGuarded items P → IsGuarded new P
guarded_free items new P same free g = record {
  falling = subst IsFalling (sym same) g.falling;
  written = λ v may. subst (λ (l : List Version). Contains l v) (sym same) (g.written v may);
  standing = λ t n. absurd (none t n);
  covered = λ t n. absurd (none t n);
  puts = λ t p n may put later. absurd (none t n);
}
  where
    none : (t : Version) → IsNeeded new P t → ⊥
    none t n = free t (record { written = subst (λ (l : List Version). Contains l t) same n.written; is_one = n.is_one; older = n.older; may_come = n.may_come; later = n.later })

-- ---- the same writes, in other buffers

pub guarded_same : (items new : List Item) (P : Version → Type 0) → writes_of new ≡ writes_of items → standing_writes new ≡ standing_writes items → is_covered new ≡ is_covered items
    → IsGuarded items P → IsGuarded new P
guarded_same items new P same stand cover g = record {
  falling = subst IsFalling (sym same) g.falling;
  written = λ v may. subst (λ (l : List Version). Contains l v) (sym same) (g.written v may);
  standing = λ t n. subst (λ (l : List Version). Contains l t) (sym stand) (g.standing t (old t n));
  covered = λ t n. cover ∙ g.covered t (old t n);
  puts = λ t p n. g.puts t p (old t n);
}
  where
    old : (t : Version) → IsNeeded new P t → IsNeeded items P t
    old t n = record { written = subst (λ (l : List Version). Contains l t) same n.written; is_one = n.is_one; older = n.older; may_come = n.may_come; later = n.later }

pub number_writes : (number : ℕ) (items : List Item) → writes_of (with_number number items) ≡ writes_of items
number_writes number [] = refl
number_writes number (write v [] ∷ older) = refl
number_writes number (write v (n ∷ ns) ∷ older) = refl
number_writes number (dropped ∷ older) = refl
number_writes number (rid ∷ older) = refl
number_writes number (cleared ∷ older) = number_writes number older

pub number_standing : (number : ℕ) (items : List Item) → standing_writes (with_number number items) ≡ standing_writes items
number_standing number [] = refl
number_standing number (write v [] ∷ older) = refl
number_standing number (write v (n ∷ ns) ∷ older) = refl
number_standing number (dropped ∷ older) = refl
number_standing number (rid ∷ older) = refl
number_standing number (cleared ∷ older) = number_standing number older

pub number_covered : (number : ℕ) (items : List Item) → is_covered (with_number number items) ≡ is_covered items
number_covered number [] = refl
number_covered number (write v [] ∷ older) = refl
number_covered number (write v (n ∷ ns) ∷ older) = refl
number_covered number (dropped ∷ older) = refl
number_covered number (rid ∷ older) = refl
number_covered number (cleared ∷ older) = refl

pub number_top : (number : ℕ) (items : List Item) → top_of (with_number number items) ≡ top_of items
number_top number [] = refl
number_top number (write v [] ∷ older) = refl
number_top number (write v (n ∷ ns) ∷ older) = refl
number_top number (dropped ∷ older) = refl
number_top number (rid ∷ older) = refl
number_top number (cleared ∷ older) = number_top number older

-- one more copy of the entry
pub guarded_again : (items : List Item) (P : Version → Type 0) (e : Version) → IsGuarded items P → top_of items ≡ Some e → IsGuarded items (λ w. P w ⊎ (w ≡ e))
guarded_again items P e g top = record {
  falling = g.falling;
  written = λ v may. ⊎_elim (λ (p : P v). g.written v p) (λ (same : v ≡ e). subst (Contains (writes_of items)) (sym same) is.there) may;
  standing = λ t n. g.standing t (old t n);
  covered = λ t n. g.covered t (old t n);
  puts = λ t p n may put later. ⊎_elim (λ (h : P p). g.puts t p (old t n) h put later) (λ (same : p ≡ e). ap (λ (v : Version). v.cover) same ∙ top_covered items e top (g.covered t (old t n))) may;
}
  where
    is : IsTop items e
    is = top_is items e g.falling top

    old : (t : Version) → IsNeeded items (λ w. P w ⊎ (w ≡ e)) t → IsNeeded items P t
    old t n = by n.may_come
      where
        by : P n.older ⊎ (n.older ≡ e) → IsNeeded items P t
        by (inl may) = record { written = n.written; is_one = n.is_one; older = n.older; may_come = may; later = n.later }
        by (inr same) = absurd (none_after items e t is n.written (subst (λ (v : Version). is_later t v ≡ true) same n.later))

-- ---- one more write

module _ (items : List Item) (P : Version → Type 0) (v : Version) (numbers : List ℕ) (g : IsGuarded items P) (later : AllByRecursion (λ w. is_later v w ≡ true) (writes_of items))
    (put : is_put v ≡ true → v.cover ≡ is_covered items) (tombstone : is_tombstone v ≡ true → v.cover ≡ true) where
  abbrev more : Version → Type 0
  more w = P w ⊎ (w ≡ v)

  abbrev new : List Item
  new = write v numbers ∷ items

  not_after : (t : Version) → Contains (v ∷ writes_of items) t → is_later t v ≡ true → ⊥
  not_after t there after = by (cons_cases v (writes_of items) t there)
    where
      by : (v ≡ t) ⊎ Contains (writes_of items) t → ⊥
      by (inl same) = same_not_later t v after (ap (λ (w : Version). w.stamp) (sym same))
      by (inr old) = not_both_later t v after (all_at (λ w. is_later v w ≡ true) (writes_of items) t later old)

  -- the new write is needed, or one that was so before
  which : (t : Version) → IsNeeded new more t → (v ≡ t) ⊎ IsNeeded items P t
  which t n = by n.may_come (cons_cases v (writes_of items) t n.written)
    where
      by : P n.older ⊎ (n.older ≡ v) → (v ≡ t) ⊎ Contains (writes_of items) t → (v ≡ t) ⊎ IsNeeded items P t
      by (inr same) there = absurd (not_after t n.written (subst (λ (w : Version). is_later t w ≡ true) same n.later))
      by (inl may) (inl same) = inl same
      by (inl may) (inr old) = inr (record { written = old; is_one = n.is_one; older = n.older; may_come = may; later = n.later })

  pub guarded_write : IsGuarded new more
  guarded_write = record {
    falling = (later, g.falling);
    written = λ w may. ⊎_elim (λ (h : P w). rest_there v (writes_of items) w (g.written w h))
        (λ (same : w ≡ v). subst (Contains (v ∷ writes_of items)) (sym same) (first_there v (writes_of items))) may;
    standing = λ t n. ⊎_elim (λ (same : v ≡ t). subst (Contains (v ∷ standing_writes items)) same (first_there v (standing_writes items)))
        (λ (old : IsNeeded items P t). rest_there v (standing_writes items) t (g.standing t old)) (which t n);
    covered = λ t n. cover (is_tombstone v) refl (which t n) n.is_one;
    puts = λ t p n may is_a after. bare t p n may is_a after (which t n);
  }
    where
      cover : (b : Bool) → is_tombstone v ≡ b → {t : Version} → (v ≡ t) ⊎ IsNeeded items P t → is_tombstone t ≡ true → v.cover ≡ true
      cover true is w one = tombstone is
      cover false is (inl same) one = absurd (both_ways (is_tombstone v) is (ap is_tombstone same ∙ one))
      cover false is {t} (inr old) one = put (ap not is) ∙ g.covered t old

      bare : (t p : Version) → IsNeeded new more t → more p → is_put p ≡ true → is_later p t ≡ true → (v ≡ t) ⊎ IsNeeded items P t → p.cover ≡ true
      bare t p n may is_a after (inl same) =
          absurd (not_after p (⊎_elim (λ (h : P p). rest_there v (writes_of items) p (g.written p h))
          (λ (is : p ≡ v). subst (Contains (v ∷ writes_of items)) (sym is) (first_there v (writes_of items))) may)
          (subst (λ (w : Version). is_later p w ≡ true) (sym same) after))
      bare t p n (inl h) is_a after (inr old) = g.puts t p old h is_a after
      bare t p n (inr same) is_a after (inr old) =
          ap (λ (w : Version). w.cover) same ∙ put (ap is_put (sym same) ∙ is_a) ∙ g.covered t old

-- a covered history has a write
pub covered_written : (items : List Item) → is_covered items ≡ true → (v : Version) × Contains (writes_of items) v
covered_written [] covered = absurd (false≢true covered)
covered_written (write v numbers ∷ older) covered = (v, first_there v (writes_of older))
covered_written (dropped ∷ older) covered = absurd (false≢true covered)
covered_written (rid ∷ older) covered = absurd (false≢true covered)
covered_written (cleared ∷ older) covered = absurd (false≢true covered)
