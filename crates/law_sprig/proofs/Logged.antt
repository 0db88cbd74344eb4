-- What an item, a move and a placed copy leave as it was: the histories and the copies of other digests, and the times of other parts.
use Rattle.std.proofs.Common.{◌≡◌, ◌≢◌, ℕ, Bool, true, false, cond, not, max, ◌&&◌, List, [], ◌∷◌, refl, sym, ◌∙◌, ap, subst}
use Rattle.std.specs.Prelude.{Option, Some, None, ◌==◌}
use Rattle.std.proofs.lemmas.Bool.{both_ways, cond-true, cond-false}
use Rattle.rec_format.specs.declared.version.Digest.{Digest}
use Rattle.rec_format.specs.Places.{same_digest}
use Rattle.model_device.specs.Histories.{Item, write, dropped, rid, cleared, top_of, is_covered, with_number}
use Rattle.model_device.specs.Book.{Setup, Book, Buffer, Stream, Live, live_of, without_live, has_room, with_new_buffer, with_room, put_in, filling_buffer, placed, dropped_live, refreshed}
use Rattle.model_device.specs.Device.{Log, history_of, stops_search, item_with_number, log_with_number, item_time, high_time, part_of}
use Rattle.rec_format.proofs.Laws.{same_digest_is, same_digest_refl}
use Rattle.model_device.proofs.Numbers.{history_with_number}

pub other_back : (a b : Digest) → same_digest a b ≡ false → same_digest b a ≡ false
other_back a b other = by (same_digest b a) refl
  where
    by : (c : Bool) → same_digest b a ≡ c → c ≡ false
    by false is = refl
    by true is = absurd (both_ways (same_digest a b) other (subst (λ (x : Digest). same_digest a x ≡ true) (sym (same_digest_is b a is)) (same_digest_refl a)))

-- digests of different parts are different
pub other_part : (setup : Setup) (part : ℕ) (d digest : Digest) → part_of setup d ≡ part → part_of setup digest ≢ part → same_digest d digest ≡ false
other_part setup part d digest mine other = by (same_digest d digest) refl
  where
    by : (c : Bool) → same_digest d digest ≡ c → c ≡ false
    by false is = refl
    by true is = absurd (other (ap (part_of setup) (sym (same_digest_is d digest is)) ∙ mine))

-- ---- moves

third_other : (d x digest : Digest) → same_digest d digest ≡ false → same_digest digest x ≡ true → same_digest d x ≡ false
third_other d x digest other same = ap (same_digest d) (sym (same_digest_is digest x same)) ∙ other

-- the histories of other digests stay
pub history_without_number : (d digest : Digest) (number : ℕ) (log : Log) → same_digest d digest ≡ false → history_of d (log_with_number digest number log) ≡ history_of d log
history_without_number d digest number [] other = refl
history_without_number d digest number (e ∷ log) other = by (same_digest digest e.0) (stops_search e.1) refl (history_without_number d digest number log other)
  where
    by : (b c : Bool) → same_digest digest e.0 ≡ b → history_of d (log_with_number digest number log) ≡ history_of d log
        → history_of d (cond (b && c) ((e.0, item_with_number number e.1) ∷ log) (e ∷ log_with_number digest number log)) ≡ history_of d (e ∷ log)
    by true true same rest =
        let none = third_other d e.0 digest other same in
        ap (λ (b : Bool). cond b (item_with_number number e.1 ∷ history_of d log) (history_of d log)) none ∙ sym (ap (λ (b : Bool). cond b (e.1 ∷ history_of d log) (history_of d log)) none)
    by true false same rest = ap (λ (l : List Item). cond (same_digest d e.0) (e.1 ∷ l) l) rest
    by false c same rest = ap (λ (l : List Item). cond (same_digest d e.0) (e.1 ∷ l) l) rest

number_top : (number : ℕ) (items : List Item) → top_of (with_number number items) ≡ top_of items
number_top number [] = refl
number_top number (write v [] ∷ older) = refl
number_top number (write v (n ∷ ns) ∷ older) = refl
number_top number (dropped ∷ older) = refl
number_top number (rid ∷ older) = refl
number_top number (cleared ∷ older) = number_top number older

number_covered : (number : ℕ) (items : List Item) → is_covered (with_number number items) ≡ is_covered items
number_covered number [] = refl
number_covered number (write v [] ∷ older) = refl
number_covered number (write v (n ∷ ns) ∷ older) = refl
number_covered number (dropped ∷ older) = refl
number_covered number (rid ∷ older) = refl
number_covered number (cleared ∷ older) = refl

-- what reads of a history no more than its entry and its flag reads the same behind a move
moved_reads : {X : Type 0} (f : List Item → X) → ((number : ℕ) (items : List Item) → f (with_number number items) ≡ f items)
    → (d digest : Digest) (number : ℕ) (log : Log) → f (history_of d (log_with_number digest number log)) ≡ f (history_of d log)
moved_reads f same d digest number log = by (same_digest d digest) refl
  where
    by : (b : Bool) → same_digest d digest ≡ b → f (history_of d (log_with_number digest number log)) ≡ f (history_of d log)
    by false other = ap f (history_without_number d digest number log other)
    by true is =
        ap (λ (x : Digest). f (history_of d (log_with_number x number log))) (sym (same_digest_is d digest is))
        ∙ ap f (history_with_number d number log) ∙ same number (history_of d log)

pub moved_top : (d digest : Digest) (number : ℕ) (log : Log) → top_of (history_of d (log_with_number digest number log)) ≡ top_of (history_of d log)
moved_top d digest number log = moved_reads top_of number_top d digest number log

pub moved_covered : (d digest : Digest) (number : ℕ) (log : Log) → is_covered (history_of d (log_with_number digest number log)) ≡ is_covered (history_of d log)
moved_covered d digest number log = moved_reads is_covered number_covered d digest number log

same_time : (number : ℕ) (item : Item) → item_time (item_with_number number item) ≡ item_time item
same_time number (write v []) = refl
same_time number (write v (n ∷ ns)) = refl
same_time number dropped = refl
same_time number rid = refl
same_time number cleared = refl

pub moved_times : (setup : Setup) (part : ℕ) (digest : Digest) (number : ℕ) (log : Log) → high_time setup part (log_with_number digest number log) ≡ high_time setup part log
moved_times setup part digest number [] = refl
moved_times setup part digest number (e ∷ log) = by (same_digest digest e.0 && stops_search e.1) (moved_times setup part digest number log)
  where
    by : (b : Bool) → high_time setup part (log_with_number digest number log) ≡ high_time setup part log
        → high_time setup part (cond b ((e.0, item_with_number number e.1) ∷ log) (e ∷ log_with_number digest number log)) ≡ high_time setup part (e ∷ log)
    by true rest = ap (λ (n : ℕ). cond (part_of setup e.0 == part) (max n (high_time setup part log)) (high_time setup part log)) (same_time number e.1)
    by false rest = ap (λ (n : ℕ). cond (part_of setup e.0 == part) (max (item_time e.1) n) n) rest

-- ---- copies

pub live_hit : (digest : Digest) (l : Live) (live : List Live) → same_digest digest l.digest ≡ true → live_of digest (l ∷ live) ≡ Some l
live_hit digest l live same = cond-true (same_digest digest l.digest) (Some l) (live_of digest live) same

pub live_other : (d digest : Digest) (live : List Live) → same_digest d digest ≡ false → live_of d (without_live digest live) ≡ live_of d live
live_other d digest [] other = refl
live_other d digest (l ∷ live) other = by (same_digest digest l.digest) refl (live_other d digest live other)
  where
    by : (c : Bool) → same_digest digest l.digest ≡ c → live_of d (without_live digest live) ≡ live_of d live
        → live_of d (cond (not c) (l ∷ without_live digest live) (without_live digest live)) ≡ live_of d (l ∷ live)
    by true same rest = rest ∙ sym (cond-false (same_digest d l.digest) (Some l) (live_of d live) (third_other d l.digest digest other same))
    by false is rest = ap (λ (o : Option Live). cond (same_digest d l.digest) (Some l) o) rest

pub live_gone : (digest : Digest) (live : List Live) → live_of digest (without_live digest live) ≡ None
live_gone digest [] = refl
live_gone digest (l ∷ live) = by (same_digest digest l.digest) refl (live_gone digest live)
  where
    by : (c : Bool) → same_digest digest l.digest ≡ c → live_of digest (without_live digest live) ≡ None
        → live_of digest (cond (not c) (l ∷ without_live digest live) (without_live digest live)) ≡ None
    by true same rest = rest
    by false other rest = cond-false (same_digest digest l.digest) (Some l) (live_of digest (without_live digest live)) other ∙ rest

room_live : (setup : Setup) (stream : Stream) (units : ℕ) (book : Book) → (with_room setup stream units book).live ≡ book.live
room_live setup stream units book = by (has_room setup stream units book)
  where
    by : (b : Bool) → (cond b book (with_new_buffer stream book)).live ≡ book.live
    by true = refl
    by false = refl

put_in_other : (setup : Setup) (d digest : Digest) (units : ℕ) (book : Book) (o : Option Buffer) → same_digest d digest ≡ false
    → live_of d (put_in setup digest units book o).live ≡ live_of d book.live
unfolding refreshed
put_in_other setup d digest units book None other = refl
put_in_other setup d digest units book (Some b) other =
    cond-false (same_digest d digest) (Some (record { digest = digest; block = b.block; unit = b.used; units = units })) (live_of d (without_live digest book.live)) other
    ∙ live_other d digest book.live other

pub placed_other : (setup : Setup) (stream : Stream) (d digest : Digest) (units : ℕ) (book : Book) → same_digest d digest ≡ false
    → live_of d (placed setup stream digest units book).live ≡ live_of d book.live
unfolding placed
placed_other setup stream d digest units book other =
    let ready = with_room setup stream units book in
    put_in_other setup d digest units ready (filling_buffer stream ready.buffers) other ∙ ap (live_of d) (room_live setup stream units book)

pub dropped_other : (setup : Setup) (d digest : Digest) (book : Book) → same_digest d digest ≡ false → live_of d (dropped_live setup digest book).live ≡ live_of d book.live
unfolding dropped_live refreshed
dropped_other setup d digest book other = live_other d digest book.live other

pub dropped_gone : (setup : Setup) (digest : Digest) (book : Book) → live_of digest (dropped_live setup digest book).live ≡ None
unfolding dropped_live refreshed
dropped_gone setup digest book = live_gone digest book.live
