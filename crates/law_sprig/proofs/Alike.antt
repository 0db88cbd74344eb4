-- A sprig fits every state that says the same of its part.
use Rattle.std.proofs.Common.{◌≡◌, ℕ, ◌≤◌, false, ◌&&◌, List, sym, ◌∙◌, subst}
use Rattle.std.specs.Prelude.{Option, Some, None, ◌==◌, filter, MatchOption}
use Rattle.std.specs.List.{AllByRecursion}
use Rattle.rec_format.specs.declared.version.Digest.{Digest}
use Rattle.rec_format.specs.declared.entry.Entry.{Entry}
use Rattle.rec_format.specs.Versions.{top_number}
use Rattle.model_device.specs.Book.{Setup, live_of}
use Rattle.model_device.specs.Device.{State, RaidState, entry, entry_is_covered, part_of, high_time}
use Rattle.sprig_tree.specs.Entries.{digests_in, entry_of}
use Rattle.sprig_tree.specs.State.{SprigState}
use Rattle.law_sprig.specs.Fits.{IsShown, HasNone, HasEntries, is_running, may_be_marked, marks_of, HasMarks}

-- two states say the same of a digest
pub record SaysSame (s t : State) (digest : Digest) : Type 0 where
  pub top : entry t digest ≡ entry s digest
  pub cover : entry_is_covered t digest ≡ entry_is_covered s digest
  pub place : live_of digest t.book.live ≡ live_of digest s.book.live

pub shown_alike : (s t : State) (digest : Digest) (e : Entry) → SaysSame s t digest → IsShown s digest e → IsShown t digest e
shown_alike s t digest e same is = record { version = is.version; top = same.top ∙ is.top; names = is.names; cover = is.cover ∙ sym same.cover; place = same.place ∙ is.place }

pub none_alike : (s t : State) (digest : Digest) → SaysSame s t digest → HasNone s digest → HasNone t digest
none_alike s t digest same none = record { top = same.top ∙ none.top; place = same.place ∙ none.place }

-- what is said of a digest where a look-up has this answer
abbrev pub Says : Setup → (part : ℕ) → State → Digest → Option Entry → Type 0
Says setup part s digest found = MatchOption found (part_of setup digest ≡ part → HasNone s digest) (λ e. (part_of setup digest ≡ part) × IsShown s digest e)

pub says_alike : (setup : Setup) (part : ℕ) (s t : State) (digest : Digest) (found : Option Entry) → (part_of setup digest ≡ part → SaysSame s t digest) → Says setup part s digest found
    → Says setup part t digest found
says_alike setup part s t digest None same none = λ mine. none_alike s t digest (same mine) (none mine)
says_alike setup part s t digest (Some e) same is = (is.0, shown_alike s t digest e (same is.0) is.1)

pub entries_alike : (setup : Setup) (part : ℕ) (sprig : SprigState) (s t : State) → ((digest : Digest) → part_of setup digest ≡ part → SaysSame s t digest)
    → high_time setup part t.log ≡ high_time setup part s.log → HasEntries setup part sprig s → HasEntries setup part sprig t
entries_alike setup part sprig s t same times h = record {
  order = h.order;
  shown = λ digest. says_alike setup part s t digest (entry_of digest sprig.entries) (same digest) (h.shown digest);
  high = h.high ∙ sym times;
}

-- ---- marks

-- the marks of the part stay, and the raid goes on
pub record RaidGoesOn (setup : Setup) (part : ℕ) (old new : RaidState) : Type 0 where
  pub number : new.number ≡ old.number
  pub runs : is_running new.next ≡ is_running old.next
  pub marks : marks_of setup part new ≡ marks_of setup part old
  pub turn : may_be_marked new.next part ≡ false → may_be_marked old.next part ≡ false

pub marks_alike : (setup : Setup) (part : ℕ) (es : List Entry) (old new : RaidState) → RaidGoesOn setup part old new → HasMarks setup part es old → HasMarks setup part es new
marks_alike setup part es old new on h = record {
  most = subst (λ (n : ℕ). AllByRecursion (λ e. e.mark ≤ n) es) (sym on.number) h.most;
  marked = on.marks ∙ h.marked ∙ (λ i. digests_in (filter (λ (e : Entry). sym on.runs i && (e.mark == sym on.number i)) es));
  turn = λ off. on.marks ∙ h.turn (on.turn off);
  begun = λ runs. subst (λ (n : ℕ). 1 ≤ n) (sym on.number) (h.begun (sym on.runs ∙ runs));
  last = subst (λ (n : ℕ). n ≤ top_number) (sym on.number) h.last;
}
