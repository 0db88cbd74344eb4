-- Free slots in several goes.
use Rattle.std.proofs.Common.{◌≡◌, ℕ, ◌+◌, ◌++◌, List, Option, None, replicate, ap, ◌∙◌, append_assoc, arith}
use Rattle.std.proofs.lemmas.List.{replicate-append-replicate}
use Rattle.rec_format.specs.declared.entry.Entry.{Entry}
use Rattle.entry_arena.specs.State.{ArenaState, with_free, Grows}

abbrev pub state : List (Option Entry) → ℕ → ArenaState
state slots spare = record { slots = slots; spare = spare }

pub grows_more : (first mid last : ArenaState) (count : ℕ) → Grows first mid → last ≡ with_free count mid → Grows first last
grows_more first mid last count before is =
    let nones : replicate before.count None ++ replicate count None ≡ replicate (before.count + count) None = replicate-append-replicate before.count count None in
    let slots : first.slots ++ replicate before.count None ++ replicate count None ≡ first.slots ++ replicate (before.count + count) None =
    append_assoc first.slots (replicate before.count None) (replicate count None) ∙ ap (λ (l : List (Option Entry)). first.slots ++ l) nones in
    let spare : first.spare + before.count + count ≡ first.spare + (before.count + count) = omega arith in
    record {
      count = before.count + count;
      is = is ∙ ap (λ (s : ArenaState). with_free count s) before.is ∙ (λ i. state (slots i) (spare i));
    }
