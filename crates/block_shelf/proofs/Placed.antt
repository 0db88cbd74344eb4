-- A copy takes the place of another: the live copies and the holds of a shelf behind it.
use Rattle.std.proofs.Common.{◌≡◌, ◌≢◌, inl, inr, ⊎_elim, ℕ, ◌<◌, true, false, List, [], ◌∷◌, length, refl, sym, ◌∙◌, ap, subst}
use Rattle.std.specs.Prelude.{Option, Some, None, IsTrue, Contains, ◌==◌, ◌&&◌, ◌||◌}
use Rattle.std.proofs.lemmas.Bool.{cases_eq, both_ways, or_cases, and_parts, eqb-true, eq-eqb, or_left, or_right, and_from, false_from_ne_true}
use Rattle.std.proofs.lemmas.List.{length-set}
use Rattle.std.proofs.lemmas.List.Elements.{Contains-append_left, Contains-push, Contains-push_cases}
use Rattle.rec_format.specs.declared.version.Digest.{Digest}
use Rattle.rec_format.specs.Places.{same_digest}
use Rattle.rec_format.proofs.Laws.{same_digest_refl}
use Rattle.model_device.specs.Book.{Setup, Live, live_of}
use Rattle.model_device.specs.Device.{State}
use Rattle.block_shelf.specs.Lives.{LiveCopy, copies_in, live_in_block, lives_without, lives_with}
use Rattle.hold_book.specs.Holds.{Holds, has_hold, with_pair}
use Rattle.hold_book.proofs.Laws.{has_hold-with_hold}
use Rattle.law_trail.proofs.Books.{live_there}
use Rattle.block_shelf.specs.declared.place.Place.{Place}
use Rattle.block_shelf.specs.View.{IsLiveList}
use Rattle.block_shelf.specs.Standing.{IsListed, LivesSame}
use Rattle.block_shelf.specs.Calls.{copy_live}
use Rattle.block_shelf.proofs.Lives.{list_here, list_there, same_unit, left_there, left_from}
use Rattle.block_shelf.proofs.Readied.{some_live}
use Rattle.block_shelf.proofs.Written.{Replaces, Holding}

-- the copy of a digest is gone, and the others are there
pub record IsGone (digest : Digest) (old mid : List (List LiveCopy)) : Type 0 where
  pub size : length mid ≡ length old
  pub kept : (k : ℕ) (c : LiveCopy) → Contains (copies_in k old) c → same_digest digest c.digest ≡ false → Contains (copies_in k mid) c
  pub from : (k : ℕ) (c : LiveCopy) → Contains (copies_in k mid) c → Contains (copies_in k old) c × (same_digest digest c.digest ≡ false)

module _ (setup : Setup) (s : State) (digest : Digest) (lives : List (List LiveCopy)) (agree : LivesSame lives s.book) (listed : IsListed setup s.book) where
  pub gone_none : live_of digest s.book.live ≡ None → IsGone digest lives lives
  gone_none none = record {
    size = refl;
    kept = λ k c there other. there;
    from = λ k c there. (
      there,
      false_from_ne_true (same_digest digest c.digest)
          (λ same. let some = some_live digest s.book.live (live_in_block k c) (agree.there k c there) same in clash (live_of digest s.book.live) some.0 none some.1),
    );
  }
    where
      clash : (o : Option Live) (l : Live) → o ≡ None → o ≡ Some l → ⊥
      clash o l a b = cc

  pub gone_some : (p : Place) → live_of digest s.book.live ≡ Some (copy_live digest p) → p.block < length lives → IsLiveList (copies_in p.block lives)
      → IsGone digest lives (lives_without p.block p.unit lives)
  gone_some p is lt list = record {
    size = length-set lives p.block _;
    kept = λ k c there other. left_there p.block p.unit lives lt k c there
        (λ here at.
        let one = same_unit (copies_in p.block lives) list.own c (record { digest = digest; unit = p.unit; units = p.units }) (subst (λ (j : ℕ). Contains (copies_in j lives) c) here there)
        (agree.known p.block (record { digest = digest; unit = p.unit; units = p.units }) live) at in
        both_ways (same_digest digest c.digest) other (ap (λ (x : LiveCopy). same_digest digest x.digest) one ∙ same_digest_refl digest));
    from = λ k c there.
        let was = left_from p.block p.unit lives lt k c there in (
          was.0,
          false_from_ne_true (same_digest digest c.digest)
              (λ same. let one = listed.one (copy_live digest p) (live_in_block k c) live (agree.there k c was.0) same in was.1 (ap (λ (l : Live). l.block) (sym one))
              (ap (λ (l : Live). l.unit) (sym one))),
        );
  }
    where
      live : Contains s.book.live (copy_live digest p)
      live = live_there digest s.book.live (copy_live digest p) is

pub replaces_from : (digest : Digest) (old mid : List (List LiveCopy)) (block : ℕ) (copy : LiveCopy) → block < length old → IsGone digest old mid
    → Replaces digest copy block old (lives_with block copy mid)
replaces_from digest old mid block copy lt gone = record {
  kept = λ k c there other. over k c (gone.kept k c there other);
  here = subst (λ (l : List LiveCopy). Contains l copy) (sym (list_here block _ mid below)) (Contains-push (copies_in block mid) copy);
  from = λ k c there.
      ⊎_elim (λ (e : k ≡ block).
      ⊎_elim (λ (was : Contains (copies_in block mid) c). inl (gone.from k c (subst (λ (j : ℕ). Contains (copies_in j mid) c) (sym e) was))) (λ (same : copy ≡ c). inr (e, sym same))
      (Contains-push_cases (copies_in block mid) copy c (subst (λ (l : List LiveCopy). Contains l c) (list_here block _ mid below)
      (subst (λ (j : ℕ). Contains (copies_in j (lives_with block copy mid)) c) e there))))
      (λ (other : k ≢ block). inl (gone.from k c (subst (λ (l : List LiveCopy). Contains l c) (list_there block k _ mid other) there))) (cases_eq k block);
}
  where
    below : block < length mid
    below = subst (λ (n : ℕ). block < n) (sym gone.size) lt

    over : (k : ℕ) (c : LiveCopy) → Contains (copies_in k mid) c → Contains (copies_in k (lives_with block copy mid)) c
    over k c there =
        ⊎_elim (λ (e : k ≡ block). subst (λ (j : ℕ). Contains (copies_in j (lives_with block copy mid)) c) (sym e)
        (subst (λ (l : List LiveCopy). Contains l c) (sym (list_here block _ mid below))
        (Contains-append_left (copies_in block mid) (copy ∷ []) c (subst (λ (j : ℕ). Contains (copies_in j mid) c) e there))))
        (λ (other : k ≢ block). subst (λ (l : List LiveCopy). Contains l c) (sym (list_there block k _ mid other)) there) (cases_eq k block)

-- ---- holds

pub holding_none : (number : ℕ) (prior : Option Live) (holds : Holds) → prior ≡ None → Holding number prior holds holds
holding_none number prior holds none = record {
  kept = λ n k is. is;
  here = λ l some. absurd (clash prior l none some);
  from = λ n k is. inl is;
}
  where
    clash : (o : Option Live) (l : Live) → o ≡ None → o ≡ Some l → ⊥
    clash o l a b = cc

pub holding_some : (number : ℕ) (prior : Option Live) (digest : Digest) (p : Place) (old new : Holds) → prior ≡ Some (copy_live digest p) → new ≡ with_pair old number p.block
    → Holding number prior old new
holding_some number prior digest p old new is held = record {
  kept = λ n k was. shown n k (or_right ((n == number) && (k == p.block)) (has_hold old n k) was);
  here = λ l some. shown number l.block (or_left ((number == number) && (l.block == p.block)) (has_hold old number l.block)
      (and_from (number == number) (l.block == p.block) (eq-eqb number number refl) (eq-eqb l.block p.block (ap (λ (x : Live). x.block) (same l (sym some ∙ is))))));
  from = λ n k now.
      ⊎_elim (λ (new_one : ((n == number) && (k == p.block)) ≡ true). let two =
      and_parts (n == number) (k == p.block) new_one in inr (copy_live digest p, is, eqb-true n number two.0, eqb-true k p.block two.1))
      (λ (was : has_hold old n k ≡ true). inl was)
      (or_cases ((n == number) && (k == p.block)) (has_hold old n k) (sym (has_hold-with_hold old number p.block n k) ∙ ap (λ (h : Holds). has_hold h n k) (sym held) ∙ now));
}
  where
    shown : (n k : ℕ) → (((n == number) && (k == p.block)) || has_hold old n k) ≡ true → IsTrue (has_hold new n k)
    shown n k is_true = ap (λ (h : Holds). has_hold h n k) held ∙ has_hold-with_hold old number p.block n k ∙ is_true

    same : (l : Live) → Some l ≡ Some (copy_live digest p) → l ≡ copy_live digest p
    same l e = cc
