-- The facts stay where an item is added to the history of a digest: a write, a removal, or a cleared flag.
use Rattle.std.proofs.Common.{◌≡◌, ◌⊎◌, inl, ℕ, Bool, true, false, not, ◌||◌, List, [], ◌∷◌, refl, sym, ◌∙◌, ap, subst}
use Rattle.std.specs.Prelude.{Contains}
use Rattle.std.proofs.lemmas.Bool.{both_ways, cond_both, cond-false, not-true, false≢true}
use Rattle.law_lists.proofs.Members.{filter_from}
use Rattle.rec_format.specs.declared.version.Digest.{Digest}
use Rattle.rec_format.specs.declared.version.Version.{Version}
use Rattle.rec_format.specs.Places.{same_digest, device_number}
use Rattle.rec_format.specs.Versions.{is_tombstone, version_units}
use Rattle.model_device.specs.Histories.{Item, write, dropped, rid, cleared, top_of, is_covered, writes_of}
use Rattle.model_device.specs.Book.{Setup, Book, client, placing_number, placed, dropped_live}
use Rattle.model_device.specs.Device.{State, history}
use Rattle.model_device.specs.Steps.{wrote, removed, rid_of, uncovered, with_item, without_mark, after_step}
use Rattle.rec_format.proofs.Laws.{same_digest_is, same_digest_refl}
use Rattle.law_facts.specs.Guarded.{IsNeeded, IsGuarded}
use Rattle.law_facts.specs.Facts.{Possible, somewhere, HasFacts, NoneOlder}
use Rattle.law_facts.specs.Asking.{MayBeWritten}
use Rattle.law_facts.proofs.Guarded.{guarded_fewer, guarded_free, guarded_write, uncovered_free, none_older_free}

-- ---- one item of a digest, which is no longer marked

module _ (setup : Setup) (s : State) (digest : Digest) (item : Item) (book : Book) (possible : Possible) (facts : HasFacts setup s possible)
    (guarded : IsGuarded (item ∷ history s digest) (somewhere possible digest))
    (own : (v : Version) → Contains (writes_of (item ∷ history s digest)) v → device_number setup.devices digest ≡ setup.device) where
  abbrev after : State
  after = with_item digest item book s

  -- what holds of the history with the item, or of that of another digest
  item_case : (d : Digest) (P : Digest → List Item → Type 0) → P digest (item ∷ history s digest) → (same_digest d digest ≡ false → P d (history s d)) → P d (history after d)
  item_case d P here other =
      cond_both (same_digest d digest) (item ∷ history s d) (history s d) (P d)
      (λ same. subst (λ (x : Digest). P x (item ∷ history s x)) (sym (same_digest_is d digest same)) here) other

  unmarked : (d : Digest) → Contains (without_mark digest s.raid.marked) d → Contains s.raid.marked d × (same_digest d digest ≡ false)
  unmarked d there =
      let old = filter_from (λ (x : Digest). not (same_digest digest x)) s.raid.marked d there in
      (old.0, by (same_digest d digest) refl (not-true (same_digest digest d) old.1))
    where
      by : (b : Bool) → same_digest d digest ≡ b → same_digest digest d ≡ false → b ≡ false
      by false is none = refl
      by true is none = absurd (both_ways (same_digest digest d) none (subst (λ (x : Digest). same_digest digest x ≡ true) (sym (same_digest_is d digest is)) (same_digest_refl digest)))

  pub item_facts : HasFacts setup (with_item digest item book s) possible
  item_facts = record {
    guarded = λ d. item_case d (λ x l. IsGuarded l (somewhere possible x)) guarded (λ _. facts.guarded d);
    own = λ d. item_case d (λ x l. (v : Version) → Contains (writes_of l) v → device_number setup.devices x ≡ setup.device) own (λ _. facts.own d);
    blocks = facts.blocks;
    marks = λ b d v marked o.
        let old = unmarked d marked in
        facts.marks b d v old.0
        (record { newer = o.newer; top = sym (ap top_of (cond-false (same_digest d digest) (item ∷ history s d) (history s d) old.1)) ∙ o.top; may_come = o.may_come; later = o.later });
    turn = facts.turn;
  }

-- ---- an item that is no write, where no tombstone is needed

item_free : (setup : Setup) (s : State) (digest : Digest) (item : Item) (book : Book) (possible : Possible) → writes_of (item ∷ history s digest) ≡ writes_of (history s digest)
    → ((t : Version) → IsNeeded (history s digest) (somewhere possible digest) t → ⊥) → HasFacts setup s possible → HasFacts setup (with_item digest item book s) possible
item_free setup s digest item book possible same free facts =
    item_facts setup s digest item book possible facts
    (guarded_free (history s digest) (item ∷ history s digest) (somewhere possible digest) same free (facts.guarded digest))
    (λ v there. facts.own digest v (subst (λ (l : List Version). Contains l v) same there))

-- an entry that isn't covered is removed
pub removed_facts : (setup : Setup) (s : State) (possible : Possible) (digest : Digest) → is_covered (history s digest) ≡ false
    → HasFacts setup s possible → HasFacts setup (after_step setup (removed digest) s) possible
unfolding after_step
removed_facts setup s possible digest bare facts =
    item_free setup s digest dropped (dropped_live setup digest s.book) possible refl (uncovered_free (history s digest) (somewhere possible digest) (facts.guarded digest) bare) facts

none_needed : (setup : Setup) (s : State) (possible : Possible) (digest : Digest) → NoneOlder s possible digest → HasFacts setup s possible → (t : Version)
    → IsNeeded (history s digest) (somewhere possible digest) t → ⊥
none_needed setup s possible digest none facts =
    none_older_free (history s digest) (somewhere possible digest) (facts.guarded digest) (λ e top v there later. none there.0 v (record { newer = e; top = top; may_come = there.1; later = later }))

-- where no possible copy is older than the entry, a raid removes it, or clears its cover flag
pub rid_facts : (setup : Setup) (s : State) (possible : Possible) (digest : Digest) → NoneOlder s possible digest → HasFacts setup s possible
    → HasFacts setup (after_step setup (rid_of digest) s) possible
unfolding after_step
rid_facts setup s possible digest none facts = item_free setup s digest rid (dropped_live setup digest s.book) possible refl (none_needed setup s possible digest none facts) facts

pub uncovered_facts : (setup : Setup) (s : State) (possible : Possible) (digest : Digest) → NoneOlder s possible digest → HasFacts setup s possible
    → HasFacts setup (after_step setup (uncovered digest) s) possible
unfolding after_step
uncovered_facts setup s possible digest none facts = item_free setup s digest cleared s.book possible refl (none_needed setup s possible digest none facts) facts

-- ---- a write

tombstone_covered : (b c : Bool) → b ≡ true → (b || c) ≡ true
tombstone_covered true c is = refl
tombstone_covered false c is = absurd (false≢true is)

put_covered : (b c : Bool) → not b ≡ true → (b || c) ≡ c
put_covered true c is = absurd (false≢true is)
put_covered false c is = refl

pub wrote_facts : (setup : Setup) (s : State) (possible : Possible) (digest : Digest) (v : Version) → MayBeWritten setup s digest v
    → HasFacts setup s possible → HasFacts setup (after_step setup (wrote digest v) s) possible
unfolding after_step
wrote_facts setup s possible digest v may facts =
    let numbers : List ℕ = placing_number setup client (version_units v) s.book ∷ [] in
    item_facts setup s digest (write v numbers) (placed setup client digest (version_units v) s.book) possible facts
    (guarded_fewer (write v numbers ∷ history s digest) (λ w. somewhere possible digest w ⊎ (w ≡ v)) (somewhere possible digest) (λ w there. inl there)
    (guarded_write (history s digest) (somewhere possible digest) v numbers (facts.guarded digest) may.later
    (λ put. may.cover ∙ put_covered (is_tombstone v) (is_covered (history s digest)) put)
    (λ one. may.cover ∙ tombstone_covered (is_tombstone v) (is_covered (history s digest)) one)))
    (λ w _. may.own)
