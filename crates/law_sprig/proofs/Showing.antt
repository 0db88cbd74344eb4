-- What a sprig shows of its part: entries, and the digests that pass a test, in digest order.
use Rattle.std.proofs.Common.{◌≡◌, ℕ, ◌+◌, ◌*◌, Bool, true, false, not, cond, ◌&&◌, ◌||◌, List, [], ◌∷◌, refl, sym, ◌∙◌, ap, subst}
use Rattle.std.specs.Prelude.{Option, Some, None, ◌==◌, filter, nat_le, MatchOption, MatchBool}
use Rattle.std.specs.List.{AllByRecursion}
use Rattle.std.specs.List.Sorted.{IsStrictlySortedBy}
use Rattle.std.proofs.lemmas.Bool.{cond-true, cond-false, or_parts, and_right, eq-eqb, eqb-true}
use Rattle.std.proofs.lemmas.List.Kept.{IsStrictlySortedBy-filter}
use Rattle.rec_format.specs.declared.version.Digest.{Digest}
use Rattle.rec_format.specs.declared.version.Kind.{Kind}
use Rattle.rec_format.specs.declared.version.Version.{Version}
use Rattle.rec_format.specs.declared.entry.Entry.{Entry}
use Rattle.rec_format.specs.Places.{digest_cmp, same_digest}
use Rattle.rec_format.specs.Versions.{is_tomb_kind, is_put, is_tombstone, is_expired, is_expired_put, is_live_put}
use Rattle.model_device.specs.Histories.{Item, write, dropped, rid, cleared, top_of, is_covered, if_live}
use Rattle.model_device.specs.Book.{Setup}
use Rattle.model_device.specs.Device.{State, Log, history, history_of, entry, entry_is_covered, entry_passes, seen, part_of, digests_of as logged, in_part}
use Rattle.model_device.specs.Device.{expired_in, is_eligible, eligible_in, is_old_enough}
use Rattle.model_device.specs.Legal.{marked_in}
use Rattle.sprig_tree.specs.Entries.{digests_in, entry_of}
use Rattle.sprig_tree.specs.State.{SprigState}
use Rattle.sprig_tree.proofs.Laws.{entry_of-digest}
use Rattle.law_sprig.specs.Fits.{IsShown, HasNone, HasEntries, has_mark, HasMarks}
use Rattle.rec_format.specs.Entries.{Names}
use Rattle.law_sprig.specs.Tests.{has_digest, is_put_entry, is_tombstone_entry, passes_test}
use Rattle.expiry_rule.specs.Seen.{is_expired_entry, is_live_entry}
use Rattle.tomb_rules.specs.Covers.{is_eligible_entry}
use Rattle.tomb_rules.specs.Covers.{is_covered_put}
use Rattle.law_sprig.proofs.Ordered.{AreInOrder, one_order, order-with_digest, among-with_digest, among-filter, among_entries, order-filtered, each_entry}
use Rattle.law_sprig.proofs.Alike.{Says}

-- ---- the digests of a log

pub logged_order : (log : Log) → AreInOrder (logged log)
unfolding IsStrictlySortedBy
logged_order [] = tt
logged_order (e ∷ log) = order-with_digest e.0 (logged log) (logged_order log)

-- a digest that isn't there has no history
pub unlogged : (d : Digest) (log : Log) → has_digest (logged log) d ≡ false → history_of d log ≡ []
unlogged d [] none = refl
unlogged d (e ∷ log) none =
    let both = or_parts (same_digest d e.0) (has_digest (logged log) d) (sym (among-with_digest e.0 d (logged log)) ∙ none) in
    cond-false (same_digest d e.0) (e.1 ∷ history_of d log) (history_of d log) both.0 ∙ unlogged d log both.1

-- ---- what passes a test

module _ (setup : Setup) (part : ℕ) (sprig : SprigState) (s : State) (h : HasEntries setup part sprig s) where
  -- a test of the state, and one of the entry
  pub record SameTest (state : Digest → Bool) (test : Entry → Bool) : Type 0 where
    pub shown : (d : Digest) (e : Entry) → part_of setup d ≡ part → entry_of d sprig.entries ≡ Some e → IsShown s d e → state d ≡ test e
    pub none : (d : Digest) → part_of setup d ≡ part → entry_of d sprig.entries ≡ None → HasNone s d → state d ≡ false

  -- the digests of the part that pass the one are those of the entries that pass the other
  pub in_part_is : (state : Digest → Bool) (test : Entry → Bool) → SameTest state test → in_part setup part state s ≡ digests_in (filter test sprig.entries)
  in_part_is state test same =
      one_order (in_part setup part state s) (digests_in (filter test sprig.entries))
      (IsStrictlySortedBy-filter digest_cmp (λ d. (part_of setup d == part) && state d) (logged s.log) (logged_order s.log))
      (order-filtered test sprig.entries h.order)
      (λ d. among-filter (λ x. (part_of setup x == part) && state x) d (logged s.log) ∙ by d (entry_of d sprig.entries) refl (h.shown d) ∙ sym (among_entries test d sprig.entries h.order))
    where
      absent : (d : Digest) (b : Bool) → entry_of d sprig.entries ≡ None → (part_of setup d == part) ≡ b → (part_of setup d ≡ part → HasNone s d) → (b && state d) ≡ false
      absent d true found is none = same.none d (eqb-true (part_of setup d) part is) found (none (eqb-true (part_of setup d) part is))
      absent d false found is none = refl

      there : (d : Digest) (e : Entry) → IsShown s d e → (b : Bool) → has_digest (logged s.log) d ≡ b → (b && ((part_of setup d == part) && test e)) ≡ ((part_of setup d == part) && test e)
      there d e is true among = refl
      there d e is false among = let never : None ≡ Some is.version = sym (ap top_of (unlogged d s.log among)) ∙ is.top in absurd cc

      by : (d : Digest) (o : Option Entry) → entry_of d sprig.entries ≡ o → Says setup part s d o → (has_digest (logged s.log) d && ((part_of setup d == part) && state d)) ≡ passes_test test o
      by d None found says = and_right (has_digest (logged s.log) d) ((part_of setup d == part) && state d) (absent d (part_of setup d == part) found refl says)
      by d (Some e) found says =
          ap (λ (b : Bool). has_digest (logged s.log) d && ((part_of setup d == part) && b)) (same.shown d e says.0 found says.1)
          ∙ there d e says.1 (has_digest (logged s.log) d) refl
          ∙ ap (λ (b : Bool). b && test e) (eq-eqb (part_of setup d) part says.0)

  -- a test of the entry's version
  passing : (test : Version → Bool) (mine : Entry → Bool) → ((e : Entry) (v : Version) → Names e v → test v ≡ mine e) → SameTest (λ d. entry_passes test (entry s d)) mine
  passing test mine same = record {
    shown = λ d e _ _ is. ap (entry_passes test) is.top ∙ same e is.version is.names;
    none = λ d _ _ is. ap (entry_passes test) is.top;
  }

  kinds : (f : Kind → Bool) (e : Entry) (v : Version) → Names e v → f v.kind ≡ f e.kind
  kinds f e v n = ap f (sym n.kind)

  expired_same : (now : ℕ) (e : Entry) (v : Version) → Names e v → is_expired_put now v ≡ is_expired_entry now e
  expired_same now e v n = (λ i. not (is_tomb_kind (sym n.kind i)) && is_expired now (sym n.void i))

  eligible_same : (now : ℕ) → SameTest (is_eligible setup now s) (is_eligible_entry setup.raid_age now)
  eligible_same now = record {
    shown = λ d e _ _ is.
        (λ i. entry_passes (λ v. is_tombstone v && is_old_enough setup.raid_age now v) (is.top i) || (entry_passes is_put (is.top i) && sym is.cover i))
        ∙ (λ i. (is_tomb_kind (sym is.names.kind i) && nat_le ((sym is.names.stamp i).lut + setup.raid_age * 1000) now) || (not (is_tomb_kind (sym is.names.kind i)) && e.cover));
    none = λ d _ _ is. (λ i. entry_passes (λ v. is_tombstone v && is_old_enough setup.raid_age now v) (is.top i) || (entry_passes is_put (is.top i) && entry_is_covered s d));
  }

  -- the expired entries of the part, and those that a raid marks, in digest order
  pub expired_is : (now : ℕ) → expired_in setup now part s ≡ digests_in (filter (is_expired_entry now) sprig.entries)
  expired_is now = in_part_is (λ d. entry_passes (is_expired_put now) (entry s d)) (is_expired_entry now) (passing (is_expired_put now) (is_expired_entry now) (expired_same now))

  pub eligible_are : (now : ℕ) → eligible_in setup now part s ≡ digests_in (filter (is_eligible_entry setup.raid_age now) sprig.entries)
  eligible_are now = in_part_is (is_eligible setup now s) (is_eligible_entry setup.raid_age now) (eligible_same now)

  -- the records, tombstones and covered records of the part
  pub puts_are : in_part setup part (λ d. entry_passes is_put (entry s d)) s ≡ digests_in (filter is_put_entry sprig.entries)
  puts_are = in_part_is (λ d. entry_passes is_put (entry s d)) is_put_entry (passing is_put is_put_entry (kinds (λ k. not (is_tomb_kind k))))

  pub tombstones_are : in_part setup part (λ d. entry_passes is_tombstone (entry s d)) s ≡ digests_in (filter is_tombstone_entry sprig.entries)
  tombstones_are = in_part_is (λ d. entry_passes is_tombstone (entry s d)) is_tombstone_entry (passing is_tombstone is_tombstone_entry (kinds is_tomb_kind))

  pub covered_are : in_part setup part (λ d. entry_passes is_put (entry s d) && entry_is_covered s d) s ≡ digests_in (filter is_covered_put sprig.entries)
  covered_are = in_part_is (λ d. entry_passes is_put (entry s d) && entry_is_covered s d) is_covered_put (record {
    shown = λ d e _ _ is. (λ i. entry_passes is_put (is.top i) && sym is.cover i) ∙ (λ i. not (is_tomb_kind (sym is.names.kind i)) && e.cover);
    none = λ d _ _ is. ap (λ (o : Option Version). entry_passes is_put o && entry_is_covered s d) is.top;
  })

  -- those that the raid has marked
  pub marked_are : HasMarks setup part sprig.entries s.raid → marked_in setup part s ≡ digests_in (filter (has_mark s.raid) sprig.entries)
  marked_are m = in_part_is (has_digest s.raid.marked) (has_mark s.raid) (record {
    shown = λ d e mine found _. known d mine ∙ ap (passes_test (has_mark s.raid)) found;
    none = λ d mine found _. known d mine ∙ ap (passes_test (has_mark s.raid)) found;
  })
    where
      and_true : (b c : Bool) → c ≡ true → b ≡ (b && c)
      and_true true c is = sym is
      and_true false c is = refl

      known : (d : Digest) → part_of setup d ≡ part → has_digest s.raid.marked d ≡ passes_test (has_mark s.raid) (entry_of d sprig.entries)
      known d mine =
          and_true (has_digest s.raid.marked d) (part_of setup d == part) (eq-eqb (part_of setup d) part mine)
          ∙ sym (among-filter (λ x. part_of setup x == part) d s.raid.marked)
          ∙ ap (λ (l : List Digest). has_digest l d) m.marked
          ∙ among_entries (has_mark s.raid) d sprig.entries h.order

  -- ---- one digest of the part

  none_covered : (items : List Item) → top_of items ≡ None → is_covered items ≡ false
  none_covered [] none = refl
  none_covered (write v numbers ∷ older) none = absurd cc
  none_covered (dropped ∷ older) none = refl
  none_covered (rid ∷ older) none = refl
  none_covered (cleared ∷ older) none = refl

  -- what a look-up says of the entry and of its flag
  pub entry_is : (d : Digest) → part_of setup d ≡ part
      → MatchOption (entry_of d sprig.entries) ((entry s d ≡ None) × (entry_is_covered s d ≡ false)) (λ e. (v : Version) × (entry s d ≡ Some v) × Names e v × (entry_is_covered s d ≡ e.cover))
  entry_is d mine = by (entry_of d sprig.entries) (h.shown d)
    where
      by : (o : Option Entry) → Says setup part s d o
          → MatchOption o ((entry s d ≡ None) × (entry_is_covered s d ≡ false)) (λ e. (v : Version) × (entry s d ≡ Some v) × Names e v × (entry_is_covered s d ≡ e.cover))
      by None says = let none = says mine in (none.top, none_covered (history s d) none.top)
      by (Some e) says = let is = says.1 in (is.version, is.top, is.names, sym is.cover)

  -- what a reader sees: an entry that is a put and isn't expired
  pub seen_is : (d : Digest) (now : ℕ) → part_of setup d ≡ part
      → MatchOption (entry_of d sprig.entries) (seen s now d ≡ None) (λ e. MatchBool (is_live_entry now e) ((v : Version) × (seen s now d ≡ Some v) × Names e v) (seen s now d ≡ None))
  seen_is d now mine = by (entry_of d sprig.entries) (h.shown d)
    where
      live_same : (e : Entry) (v : Version) → Names e v → is_live_put now v ≡ is_live_entry now e
      live_same e v n = (λ i. not (is_tomb_kind (sym n.kind i)) && not (is_expired now (sym n.void i)))

      shows : (e : Entry) (v : Version) → Names e v → seen s now d ≡ cond (is_live_entry now e) (Some v) None → (b : Bool) → is_live_entry now e ≡ b
          → MatchBool b ((w : Version) × (seen s now d ≡ Some w) × Names e w) (seen s now d ≡ None)
      shows e v n is true live = (v, is ∙ cond-true (is_live_entry now e) (Some v) None live, n)
      shows e v n is false gone = is ∙ cond-false (is_live_entry now e) (Some v) None gone

      by : (o : Option Entry) → Says setup part s d o → MatchOption o (seen s now d ≡ None)
          (λ e. MatchBool (is_live_entry now e) ((v : Version) × (seen s now d ≡ Some v) × Names e v) (seen s now d ≡ None))
      by None says = ap (if_live now) (says mine).top
      by (Some e) says =
          let is = says.1 in
          shows e is.version is.names (ap (if_live now) is.top ∙ ap (λ (b : Bool). cond b (Some is.version) None) (live_same e is.version is.names)) (is_live_entry now e) refl

  -- each entry is of the part
  pub all_own : AllByRecursion (λ e. part_of setup e.digest ≡ part) sprig.entries
  all_own = each_entry (λ e. part_of setup e.digest ≡ part) sprig.entries h.order
      (λ d e found. by d e (subst (Says setup part s d) found (h.shown d)) (entry_of-digest d sprig.entries e found))
    where
      by : (d : Digest) (e : Entry) → Says setup part s d (Some e) → e.digest ≡ d → part_of setup e.digest ≡ part
      by d e says name = ap (part_of setup) name ∙ says.0
