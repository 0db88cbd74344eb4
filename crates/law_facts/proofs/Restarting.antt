-- A restart within a run has the facts of the copies that were read.
use Rattle.std.proofs.Common.{◌≡◌, ◌⊎◌, inl, inr, ℕ, Bool, true, false, not, List, [], ◌∷◌, ◌++◌, refl, sym, ◌∙◌, ap, subst, arith}
use Rattle.std.specs.Prelude.{Contains, IsTrue, Option, Some, None, IfSome}
use Rattle.std.proofs.lemmas.Bool.{both_ways, false≢true}
use Rattle.law_lists.proofs.Each.{all_at}
use Rattle.law_lists.proofs.Members.{cons_cases, first_there, rest_there, filter_there, filter_from}
use Rattle.rec_format.specs.declared.version.Digest.{Digest}
use Rattle.rec_format.specs.declared.version.Version.{Version}
use Rattle.rec_format.specs.Places.{same_digest}
use Rattle.rec_format.specs.Versions.{is_later, is_tombstone, IsVersion}
use Rattle.model_device.specs.Histories.{Item, write, dropped, rid, cleared, Pending, is_covered, ends_well, Keeps, last_write, writes_of, without_numbers}
use Rattle.model_device.specs.Book.{Setup, pending_of}
use Rattle.model_device.specs.Device.{State, RaidState, history}
use Rattle.rec_format.proofs.Laws.{same_digest_is, same_digest_refl}
use Rattle.block_format.specs.Copies.{Copy, copies_of, copies_named, latest, version_of}
use Rattle.law_start.specs.Start.{Restarts, start_state}
use Rattle.law_start.specs.Orderly.{IsFalling}
use Rattle.law_start.proofs.ColdStart.{start_orderly}
use Rattle.law_start.proofs.Growing.{same_not_later}
use Rattle.law_start.proofs.Held.{IsNewest, latest_is, none_latest}
use Rattle.law_facts.specs.Guarded.{standing_writes, IsNeeded, IsGuarded}
use Rattle.law_facts.specs.Facts.{Possible, somewhere, HasFacts, IsInTurn, copies_among}
use Rattle.law_facts.proofs.Starting.{copies_within, read_written}

-- ---- the back of a history

pub writes_behind : (lost kept : List Item) (v : Version) → Contains (writes_of kept) v → Contains (writes_of (lost ++ kept)) v
writes_behind [] kept v there = there
writes_behind (write u numbers ∷ lost) kept v there = rest_there u (writes_of (lost ++ kept)) v (writes_behind lost kept v there)
writes_behind (dropped ∷ lost) kept v there = writes_behind lost kept v there
writes_behind (rid ∷ lost) kept v there = writes_behind lost kept v there
writes_behind (cleared ∷ lost) kept v there = writes_behind lost kept v there

falling_behind : (lost kept : List Item) → IsFalling (writes_of (lost ++ kept)) → IsFalling (writes_of kept)
falling_behind [] kept falling = falling
falling_behind (write u numbers ∷ lost) kept falling = falling_behind lost kept falling.1
falling_behind (dropped ∷ lost) kept falling = falling_behind lost kept falling
falling_behind (rid ∷ lost) kept falling = falling_behind lost kept falling
falling_behind (cleared ∷ lost) kept falling = falling_behind lost kept falling

-- a write that no kept one is later than is kept
kept_or_later : (lost kept : List Item) (c v : Version) → IsFalling (writes_of (lost ++ kept)) → Contains (writes_of kept) c → is_later v c ≡ false → Contains (writes_of (lost ++ kept)) v
    → Contains (writes_of kept) v
kept_or_later [] kept c v falling there no_later in_v = in_v
kept_or_later (write u numbers ∷ lost) kept c v falling there no_later in_v = by (cons_cases u (writes_of (lost ++ kept)) v in_v) (kept_or_later lost kept c v falling.1 there no_later)
  where
    by : (u ≡ v) ⊎ Contains (writes_of (lost ++ kept)) v → (Contains (writes_of (lost ++ kept)) v → Contains (writes_of kept) v) → Contains (writes_of kept) v
    by (inl same) rest =
        absurd (both_ways (is_later v c) no_later
        (subst (λ (w : Version). is_later w c ≡ true) same (all_at (λ w. is_later u w ≡ true) (writes_of (lost ++ kept)) c falling.0 (writes_behind lost kept c there))))
    by (inr more) rest = rest more
kept_or_later (dropped ∷ lost) kept c v falling there no_later in_v = kept_or_later lost kept c v falling there no_later in_v
kept_or_later (rid ∷ lost) kept c v falling there no_later in_v = kept_or_later lost kept c v falling there no_later in_v
kept_or_later (cleared ∷ lost) kept c v falling there no_later in_v = kept_or_later lost kept c v falling there no_later in_v

-- a kept write since the last removal is one since the last removal among those kept
standing_behind : (lost kept : List Item) (t : Version) → IsFalling (writes_of (lost ++ kept)) → Contains (writes_of kept) t → Contains (standing_writes (lost ++ kept)) t
    → Contains (standing_writes kept) t
standing_behind [] kept t falling there stands = stands
standing_behind (write u numbers ∷ lost) kept t falling there stands = by (cons_cases u (standing_writes (lost ++ kept)) t stands) (standing_behind lost kept t falling.1 there)
  where
    by : (u ≡ t) ⊎ Contains (standing_writes (lost ++ kept)) t → (Contains (standing_writes (lost ++ kept)) t → Contains (standing_writes kept) t) → Contains (standing_writes kept) t
    by (inl same) rest =
        absurd (same_not_later u t (all_at (λ w. is_later u w ≡ true) (writes_of (lost ++ kept)) t falling.0 (writes_behind lost kept t there)) (ap (λ (w : Version). w.stamp) same))
    by (inr more) rest = rest more
standing_behind (dropped ∷ lost) kept t falling there stands = absurd (omega (arith, stands.1))
standing_behind (rid ∷ lost) kept t falling there stands = absurd (omega (arith, stands.1))
standing_behind (cleared ∷ lost) kept t falling there stands = standing_behind lost kept t falling there stands

numberless_writes : (items : List Item) → writes_of (without_numbers items) ≡ writes_of items
numberless_writes [] = refl
numberless_writes (write v numbers ∷ older) = ap (λ (l : List Version). v ∷ l) (numberless_writes older)
numberless_writes (dropped ∷ older) = numberless_writes older
numberless_writes (rid ∷ older) = numberless_writes older
numberless_writes (cleared ∷ older) = numberless_writes older

numberless_standing : (items : List Item) → standing_writes (without_numbers items) ≡ standing_writes items
numberless_standing [] = refl
numberless_standing (write v numbers ∷ older) = ap (λ (l : List Version). v ∷ l) (numberless_standing older)
numberless_standing (dropped ∷ older) = refl
numberless_standing (rid ∷ older) = refl
numberless_standing (cleared ∷ older) = numberless_standing older

numberless_covered : (items : List Item) → is_covered (without_numbers items) ≡ is_covered items
numberless_covered [] = refl
numberless_covered (write v numbers ∷ older) = refl
numberless_covered (dropped ∷ older) = refl
numberless_covered (rid ∷ older) = refl
numberless_covered (cleared ∷ older) = refl

-- the kept history ends in its newest write, which is what is shown
ends_in : (p : Pending) (kept : List Item) (c : Version) → IsTrue (ends_well p kept) → last_write kept ≡ Some c
    → Contains (writes_of kept) c × (is_covered kept ≡ c.cover) × ((w : Version) → Contains (writes_of kept) w → IsFalling (writes_of kept) → (c ≡ w) ⊎ (is_later c w ≡ true))
ends_in p [] c ends shown = absurd cc
ends_in p (write u numbers ∷ older) c ends shown =
    let same : u ≡ c = cc in
    (subst (Contains (u ∷ writes_of older)) same (first_there u (writes_of older)), ap (λ (w : Version). w.cover) same, λ w there falling. by w falling (cons_cases u (writes_of older) w there))
  where
    by : (w : Version) → IsFalling (u ∷ writes_of older) → (u ≡ w) ⊎ Contains (writes_of older) w → (c ≡ w) ⊎ (is_later c w ≡ true)
    by w falling (inl is) = inl cc
    by w falling (inr old) =
        let same : u ≡ c = cc in
        inr (subst (λ (x : Version). is_later x w ≡ true) same (all_at (λ x. is_later u x ≡ true) (writes_of older) w falling.0 old))
ends_in p (dropped ∷ older) c ends shown = absurd (false≢true ends)
ends_in p (rid ∷ older) c ends shown = absurd (false≢true ends)
ends_in p (cleared ∷ older) c ends shown = absurd (false≢true ends)

-- ---- one history

-- what is kept of a history guards the copies that were read, the latest of which is shown
module _ (p : Pending) (items : List Item) (kept : List Item) (P Q : Version → Type 0) (g : IsGuarded items P) (keeps : Keeps p items kept) (fewer : (v : Version) → Q v → P v) (c : Version)
    (shown : last_write kept ≡ Some c) (read : Q c)
    (none_later : (v : Version) → Q v → is_later v c ≡ false) (tombstones : is_tombstone c ≡ true → c.cover ≡ true) where
  abbrev lost : List Item
  lost = keeps.lost

  falling : IsFalling (writes_of (lost ++ kept))
  falling = subst (λ (l : List Item). IsFalling (writes_of l)) keeps.parts g.falling

  here : Contains (writes_of kept) c
  here = (ends_in p kept c keeps.end shown).0

  in_kept : (v : Version) → Q v → Contains (writes_of kept) v
  in_kept v q = kept_or_later lost kept c v falling here (none_later v q) (subst (λ (l : List Item). Contains (writes_of l) v) keeps.parts (g.written v (fewer v q)))

  was_needed : (t : Version) → IsNeeded (without_numbers kept) Q t → IsNeeded items P t
  was_needed t n = record {
    written = subst (λ (l : List Item). Contains (writes_of l) t) (sym keeps.parts) (writes_behind lost kept t (subst (λ (l : List Version). Contains l t) (numberless_writes kept) n.written));
    is_one = n.is_one;
    older = n.older;
    may_come = fewer n.older n.may_come;
    later = n.later;
  }

  cover : (t : Version) → IsNeeded (without_numbers kept) Q t → c.cover ≡ true
  cover t n = by (is_tombstone c) refl ((ends_in p kept c keeps.end shown).2 t (subst (λ (l : List Version). Contains l t) (numberless_writes kept) n.written) (falling_behind lost kept falling))
    where
      by : (b : Bool) → is_tombstone c ≡ b → (c ≡ t) ⊎ (is_later c t ≡ true) → c.cover ≡ true
      by true is which = tombstones is
      by false is (inl same) = absurd (both_ways (is_tombstone c) is (ap is_tombstone same ∙ n.is_one))
      by false is (inr later) = g.puts t c (was_needed t n) (fewer c read) (ap not is) later

  pub kept_guarded : IsGuarded (without_numbers kept) Q
  kept_guarded = record {
    falling = subst IsFalling (sym (numberless_writes kept)) (falling_behind lost kept falling);
    written = λ v q. subst (λ (l : List Version). Contains l v) (sym (numberless_writes kept)) (in_kept v q);
    standing = λ t n. subst (λ (l : List Version). Contains l t) (sym (numberless_standing kept))
        (standing_behind lost kept t falling (subst (λ (l : List Version). Contains l t) (numberless_writes kept) n.written)
        (subst (λ (l : List Item). Contains (standing_writes l) t) keeps.parts (g.standing t (was_needed t n))));
    covered = λ t n. numberless_covered kept ∙ (ends_in p kept c keeps.end shown).1 ∙ cover t n;
    puts = λ t v n q put later. g.puts t v (was_needed t n) (fewer v q) put later;
  }

-- of a digest without a copy nothing is possible
unread_guarded : (items lost kept : List Item) (P Q : Version → Type 0) → IsGuarded items P → items ≡ lost ++ kept → ((v : Version) → Q v → ⊥) → IsGuarded (without_numbers kept) Q
unread_guarded items lost kept P Q g parts none = record {
  falling = subst IsFalling (sym (numberless_writes kept)) (falling_behind lost kept (subst (λ (l : List Item). IsFalling (writes_of l)) parts g.falling));
  written = λ v q. absurd (none v q);
  standing = λ t n. absurd (none n.older n.may_come);
  covered = λ t n. absurd (none n.older n.may_come);
  puts = λ t v n q. absurd (none v q);
}

-- ---- the whole device

module _ (setup : Setup) (s new : State) (image : List ℕ) (possible : Possible) (facts : HasFacts setup s possible) (r : Restarts setup s image new)
    (read : (block : ℕ) (digest : Digest) (v : Version) → copies_among r.bodies block digest v → possible block digest v) where
  abbrev copies : List Copy
  copies = copies_of r.bodies

  abbrev Q : Digest → Version → Type 0
  Q digest v = somewhere (copies_among r.bodies) digest v

  fewer : (digest : Digest) (v : Version) → Q digest v → somewhere possible digest v
  fewer digest v q = (q.0, read q.0 digest v q.1)

  -- the copy of a version that was read
  named : (digest : Digest) (v : Version) → (q : Q digest v) → Contains (copies_named digest copies) q.1.0
  named digest v q =
      filter_there (λ (x : Copy). same_digest digest x.digest) copies q.1.0 (subst (λ (d : Digest). same_digest digest d ≡ true) (sym q.1.3) (same_digest_refl digest)) q.1.1

  is_version : (digest : Digest) (v : Version) → Q digest v → IsVersion v
  is_version digest v q =
      all_at IsVersion (writes_of (history (start_state setup r.bodies) digest)) v (start_orderly setup image r.bodies r.sound digest).versions (read_written setup image r.bodies r.sound digest v q)

  guarded_at : (digest : Digest) (found : Option Copy) → latest (copies_named digest copies) ≡ found → IfSome found (IsNewest (copies_named digest copies))
      → IsGuarded (without_numbers (r.kept digest).0) (Q digest)
  guarded_at digest None e is =
      let k = r.kept digest in
      unread_guarded (history s digest) k.1.keeps.lost k.0 (somewhere possible digest) (Q digest) (facts.guarded digest) k.1.keeps.parts
      (λ v q. let there = subst (λ (l : List Copy). Contains l q.1.0) (none_latest (copies_named digest copies) e) (named digest v q) in omega (arith, there.1))
  guarded_at digest (Some c) e is =
      let k = r.kept digest in
      let shown : last_write k.0 ≡ Some c.version = sym k.1.shown ∙ ap version_of e in
      let found = filter_from (λ (x : Copy). same_digest digest x.digest) copies c is.there in
      let q : Q digest c.version = (c.block, (c, found.0, refl, sym (same_digest_is digest c.digest found.1), refl)) in
      kept_guarded (pending_of s.book) (history s digest) k.0 (somewhere possible digest) (Q digest) (facts.guarded digest) k.1.keeps (fewer digest) c.version shown q
      (λ v w. subst (λ (x : Version). is_later x c.version ≡ false) w.1.4 (all_at (λ d. is_later d.version c.version ≡ false) (copies_named digest copies) w.1.0 is.last (named digest v w)))
      (λ one. ap (λ (x : Version). x.cover) ((is_version digest c.version q).tombstone one))

  -- the facts hold, if the copies that were read were possible
  pub restart_facts : HasFacts setup new (copies_among r.bodies)
  restart_facts = record {
    guarded = λ digest. subst (λ (l : List Item). IsGuarded l (Q digest)) (sym (r.kept digest).2)
        (guarded_at digest (latest (copies_named digest copies)) refl (latest_is (copies_named digest copies)));
    own = λ digest v there.
        let k = r.kept digest in
        facts.own digest v (subst (λ (l : List Item). Contains (writes_of l) v) (sym k.1.keeps.parts)
        (writes_behind k.1.keeps.lost k.0 v (subst (λ (l : List Version). Contains l v) (numberless_writes k.0) (subst (λ (l : List Item). Contains (writes_of l) v) k.2 there))));
    blocks = copies_within setup image r.bodies r.sound;
    marks = λ block digest v marked o. let none = subst (λ (x : RaidState). Contains x.marked digest) r.raid marked in absurd (omega (arith, none.1));
    turn = subst (λ (x : RaidState). IsInTurn setup x x.next) (sym r.raid) tt;
  }
