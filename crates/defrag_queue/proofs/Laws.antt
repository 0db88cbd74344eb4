-- What is known of a queue after a block was considered.
use Rattle.std.proofs.Common.{◌≡◌, ◌≢◌, ℕ, Bool, true, false, not, cond, eqb, List, [], ◌∷◌, ◌++◌, refl, ap, sym, subst, ◌∙◌}
use Rattle.std.specs.List.{IsDistinct}
use Rattle.std.proofs.lemmas.Bool.{cond-true, cond-false}
use Rattle.std.proofs.lemmas.Cmp.{nat_eq_equiv}
use Rattle.std.proofs.lemmas.Map.Keys.{IsDistinct-push}
use Rattle.model_device.specs.Book.{Setup, Book, is_in, use_of, has_buffer, may_be_queued}
use Rattle.defrag_queue.specs.Queues.{is_below_mark, requeued}
use Rattle.defrag_queue.proofs.Marks.{flipped, once_less, unmoved, entered, left, in_entered, in_left}

-- a block is queued by the rule of the block book, where it has no buffer exactly if it was flushed
pub as_booked : (setup : Setup) (book : Book) (block : ℕ)
    → may_be_queued setup book block ≡ is_below_mark setup.capacity setup.lwm (use_of book block) (not (has_buffer book block))
as_booked setup book block = refl

-- the block is in the queue exactly where it qualifies
pub placed_itself : (t : Bool) (b : ℕ) (q : List ℕ) → is_in (requeued t b q) b ≡ t
placed_itself true b q = by (is_in q b) refl
  where
    by : (u : Bool) → is_in q b ≡ u → is_in (cond (is_in q b) q (q ++ b ∷ [])) b ≡ true
    by true is = ap (λ l. is_in l b) (cond-true (is_in q b) q (q ++ b ∷ []) is) ∙ is
    by false is = ap (λ l. is_in l b) (cond-false (is_in q b) q (q ++ b ∷ []) is) ∙ entered b q
placed_itself false b q = left b q

-- any other block is where it was
pub placed_other : (t : Bool) (b x : ℕ) (q : List ℕ) → x ≢ b → is_in (requeued t b q) x ≡ is_in q x
placed_other true b x q other = by (is_in q b) refl
  where
    by : (u : Bool) → is_in q b ≡ u → is_in (cond (is_in q b) q (q ++ b ∷ [])) x ≡ is_in q x
    by true is = ap (λ l. is_in l x) (cond-true (is_in q b) q (q ++ b ∷ []) is)
    by false is = ap (λ l. is_in l x) (cond-false (is_in q b) q (q ++ b ∷ []) is) ∙ in_entered b x q other
placed_other false b x q other = in_left b x q other

-- no block comes twice
pub placed_once : (t : Bool) (b : ℕ) (q : List ℕ) → IsDistinct eqb q → IsDistinct eqb (requeued t b q)
placed_once true b q once = by (is_in q b) refl
  where
    by : (u : Bool) → is_in q b ≡ u → IsDistinct eqb (cond (is_in q b) q (q ++ b ∷ []))
    by true is = subst (λ l. IsDistinct eqb l) (sym (cond-true (is_in q b) q (q ++ b ∷ []) is)) once
    by false is = subst (λ l. IsDistinct eqb l) (sym (cond-false (is_in q b) q (q ++ b ∷ []) is)) (IsDistinct-push nat_eq_equiv q b once (flipped b q ∙ is))
placed_once false b q once = once_less b q once

-- a block that is considered again, to the same end, changes nothing
pub placed_again : (t : Bool) (b : ℕ) (q : List ℕ) → requeued t b (requeued t b q) ≡ requeued t b q
placed_again t b q = unmoved b (requeued t b q) t (placed_itself t b q)
