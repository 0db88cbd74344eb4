-- The facts of a state are those of another whose histories have the same writes. Copies may go, and copies of an entry may come.
use Rattle.std.proofs.Common.{◌≡◌, ◌⊎◌, inl, inr, ⊎_elim, ℕ, ◌<◌, Bool, true, false, cond, ◌&&◌, List, [], ◌∷◌, refl, sym, ◌∙◌, ap, subst}
use Rattle.std.specs.Prelude.{Contains, Option, Some, None}
use Rattle.rec_format.specs.declared.version.Digest.{Digest}
use Rattle.rec_format.specs.declared.version.Version.{Version}
use Rattle.rec_format.specs.Places.{same_digest}
use Rattle.rec_format.specs.Versions.{is_later}
use Rattle.model_device.specs.Histories.{Item, top_of, is_covered, writes_of}
use Rattle.model_device.specs.Book.{Setup, Stream, Book, Live, defrag, placing_number, live_of, with_seal, with_gate_begun, with_flushed, with_first_passed}
use Rattle.model_device.specs.Device.{State, RaidState, Log, history, history_of, entry, stops_search, item_with_number, log_with_number}
use Rattle.model_device.specs.Steps.{moved, sealed_stream, gate_begun, flushed_buffer, closing_failed, moved_state, after_step}
use Rattle.rec_format.proofs.Laws.{same_digest_is, same_digest_refl}
use Rattle.model_device.proofs.Numbers.{history_with_number}
use Rattle.law_start.proofs.ColdOrder.{no_later_itself}
use Rattle.std.proofs.lemmas.Bool.{both_ways}
use Rattle.law_facts.specs.Guarded.{standing_writes, IsGuarded}
use Rattle.law_facts.specs.Facts.{Possible, somewhere, HasFacts, IsAhead, IsInTurn, Becomes}
use Rattle.law_facts.proofs.Guarded.{guarded_fewer, guarded_same, guarded_again, number_writes, number_standing, number_covered, number_top}

-- ---- other possible copies

pub facts_become : (setup : Setup) (s : State) (old new : Possible) → Becomes setup s old new → HasFacts setup s old → HasFacts setup s new
facts_become setup s old new becomes facts = record {
  guarded = λ digest. guarded_at digest (entry s digest) refl;
  own = facts.own;
  blocks = λ block digest v there. ⊎_elim (λ (was : old block digest v). facts.blocks block digest v was) (λ (comes : (block < setup.blocks) × (entry s digest ≡ Some v)). comes.0)
      (becomes block digest v there);
  marks = λ block digest v marked o. ⊎_elim (λ (was : old block digest v). facts.marks block digest v marked (record { newer = o.newer; top = o.top; may_come = was; later = o.later }))
      (λ (comes : (block < setup.blocks) × (entry s digest ≡ Some v)). let twice : Some o.newer ≡ Some v = sym o.top ∙ comes.1 in not_itself o.newer v (cc) o.later)
      (becomes block digest v o.may_come);
  turn = facts.turn;
}
  where
    not_itself : (e v : Version) {X : Type 0} → e ≡ v → is_later e v ≡ true → X
    not_itself e v same later = absurd (both_ways (is_later e v) (no_later_itself e.stamp v.stamp (ap (λ (w : Version). w.stamp) same)) later)

    guarded_at : (digest : Digest) (top : Option Version) → entry s digest ≡ top → IsGuarded (history s digest) (somewhere new digest)
    guarded_at digest None none =
        guarded_fewer (history s digest) (somewhere old digest) (somewhere new digest)
        (λ v there. ⊎_elim (λ (was : old there.0 digest v). (there.0, was))
        (λ (comes : (there.0 < setup.blocks) × (entry s digest ≡ Some v)). let never : None ≡ Some v = sym none ∙ comes.1 in absurd cc) (becomes there.0 digest v there.1))
        (facts.guarded digest)
    guarded_at digest (Some e) top =
        guarded_fewer (history s digest) (λ w. somewhere old digest w ⊎ (w ≡ e)) (somewhere new digest)
        (λ v there. ⊎_elim (λ (was : old there.0 digest v). inl (there.0, was))
        (λ (comes : (there.0 < setup.blocks) × (entry s digest ≡ Some v)). let twice : Some v ≡ Some e = sym comes.1 ∙ top in inr cc) (becomes there.0 digest v there.1))
        (guarded_again (history s digest) (somewhere old digest) e (facts.guarded digest) top)

-- ---- histories that say the same of their writes

pub record IsAlike (old new : List Item) : Type 0 where
  pub writes : writes_of new ≡ writes_of old
  pub standing : standing_writes new ≡ standing_writes old
  pub covered : is_covered new ≡ is_covered old
  pub top : top_of new ≡ top_of old

pub facts_alike : (setup : Setup) (s t : State) (possible : Possible) → ((digest : Digest) → IsAlike (history s digest) (history t digest)) → t.raid ≡ s.raid → HasFacts setup s possible
    → HasFacts setup t possible
facts_alike setup s t possible alike raid facts = record {
  guarded = λ digest. let a = alike digest in guarded_same (history s digest) (history t digest) (somewhere possible digest) a.writes a.standing a.covered (facts.guarded digest);
  own = λ digest v there. facts.own digest v (subst (λ (l : List Version). Contains l v) (alike digest).writes there);
  blocks = facts.blocks;
  marks = λ block digest v marked o.
      subst (λ (r : RaidState). IsAhead r block digest v) (sym raid)
      (facts.marks block digest v (subst (λ (r : RaidState). Contains r.marked digest) raid marked)
      (record { newer = o.newer; top = sym (alike digest).top ∙ o.top; may_come = o.may_come; later = o.later }));
  turn = subst (λ (r : RaidState). IsInTurn setup r r.next) (sym raid) facts.turn;
}

-- ---- steps that touch the book alone

pub facts_booked : (setup : Setup) (s : State) (possible : Possible) (book : Book) → HasFacts setup s possible → HasFacts setup (record s { book = book }) possible
facts_booked setup s possible book facts = facts_alike setup s (record s { book = book }) possible (λ digest. record { writes = refl; standing = refl; covered = refl; top = refl }) refl facts

pub sealed_facts : (setup : Setup) (stream : Stream) (s : State) (possible : Possible) → HasFacts setup s possible → HasFacts setup (after_step setup (sealed_stream stream) s) possible
unfolding after_step
sealed_facts setup stream s possible facts = facts_booked setup s possible (with_seal stream s.book) facts

pub begun_facts : (setup : Setup) (number : ℕ) (s : State) (possible : Possible) → HasFacts setup s possible → HasFacts setup (after_step setup (gate_begun number) s) possible
unfolding after_step
begun_facts setup number s possible facts = facts_booked setup s possible (with_gate_begun number s.book) facts

pub flushed_facts : (setup : Setup) (number : ℕ) (s : State) (possible : Possible) → HasFacts setup s possible → HasFacts setup (after_step setup (flushed_buffer number) s) possible
unfolding after_step
flushed_facts setup number s possible facts = facts_booked setup s possible (with_flushed setup number s.book) facts

pub closing_facts : (setup : Setup) (s : State) (possible : Possible) → HasFacts setup s possible → HasFacts setup (after_step setup closing_failed s) possible
unfolding after_step
closing_facts setup s possible facts = facts_booked setup s possible (with_first_passed s.book) facts

-- ---- a move

other_digest : (d x digest : Digest) → same_digest d x ≡ true → same_digest digest x ≡ true → same_digest d digest ≡ true
other_digest d x digest a b =
    let e : d ≡ digest = same_digest_is d x a ∙ sym (same_digest_is digest x b) in
    subst (λ (y : Digest). same_digest d y ≡ true) e (same_digest_refl d)

-- the histories of other digests stay
pub history_without_number : (d digest : Digest) (number : ℕ) (log : Log) → same_digest d digest ≡ false → history_of d (log_with_number digest number log) ≡ history_of d log
history_without_number d digest number [] other = refl
history_without_number d digest number (e ∷ log) other = by (same_digest digest e.0) (stops_search e.1) refl (history_without_number d digest number log other)
  where
    miss : same_digest digest e.0 ≡ true → (b : Bool) → same_digest d e.0 ≡ b → b ≡ false
    miss same true is = absurd (both_ways (same_digest d digest) other (other_digest d e.0 digest is same))
    miss same false is = refl

    by : (b c : Bool) → same_digest digest e.0 ≡ b → history_of d (log_with_number digest number log) ≡ history_of d log
        → history_of d (cond (b && c) ((e.0, item_with_number number e.1) ∷ log) (e ∷ log_with_number digest number log)) ≡ history_of d (e ∷ log)
    by true true same rest =
        let none = miss same (same_digest d e.0) refl in
        ap (λ (b : Bool). cond b (item_with_number number e.1 ∷ history_of d log) (history_of d log)) none ∙ sym (ap (λ (b : Bool). cond b (e.1 ∷ history_of d log) (history_of d log)) none)
    by true false same rest = ap (λ (l : List Item). cond (same_digest d e.0) (e.1 ∷ l) l) rest
    by false c same rest = ap (λ (l : List Item). cond (same_digest d e.0) (e.1 ∷ l) l) rest

numbered_alike : (digest : Digest) (number : ℕ) (log : Log) (d : Digest) → IsAlike (history_of d log) (history_of d (log_with_number digest number log))
numbered_alike digest number log d = by (same_digest d digest) refl
  where
    by : (b : Bool) → same_digest d digest ≡ b → IsAlike (history_of d log) (history_of d (log_with_number digest number log))
    by false other = subst (IsAlike (history_of d log)) (sym (history_without_number d digest number log other)) (record { writes = refl; standing = refl; covered = refl; top = refl })
    by true same =
        subst (λ (x : Digest). IsAlike (history_of d log) (history_of d (log_with_number x number log))) (same_digest_is d digest same)
        (subst (IsAlike (history_of d log)) (sym (history_with_number d number log))
        (record {
          writes = number_writes number (history_of d log);
          standing = number_standing number (history_of d log);
          covered = number_covered number (history_of d log);
          top =
              number_top number (history_of d log);
        }))

moved_alike : (setup : Setup) (digest : Digest) (copy : Option Live) (s : State) (possible : Possible) → HasFacts setup s possible → HasFacts setup (moved_state setup digest copy s) possible
moved_alike setup digest None s possible facts = facts
moved_alike setup digest (Some copy) s possible facts =
    facts_alike setup s (moved_state setup digest (Some copy) s) possible (numbered_alike digest (placing_number setup defrag copy.units s.book) s.log) refl facts

pub moved_facts : (setup : Setup) (s : State) (possible : Possible) (digest : Digest) → HasFacts setup s possible → HasFacts setup (after_step setup (moved digest) s) possible
unfolding after_step
moved_facts setup s possible digest facts = moved_alike setup digest (live_of digest s.book.live) s possible facts
