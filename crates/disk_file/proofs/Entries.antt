-- Names in memory, one after another.
use Rattle.std.proofs.Common.{◌≡◌, inl, inr, ℕ, ◌+◌, ◌<◌, ◌≤◌, true, false, List, Bool, is_some, length, get_or, slice_get, Option, Some, None, MatchOption, refl, sym, ap, ◌∙◌, subst, arith, nat_eq}
use Rattle.std.specs.Prelude.{string_bytes}
use Rattle.std.proofs.lemmas.Bool.{both_ways}
use Rattle.std.proofs.lemmas.Bool.Decides.{eqb_tells}
use Rattle.std.proofs.lemmas.Option.{slice_get_read, slice_get_within}
use lib.Pointwise.{pointwise, bytes_decides}
use Rattle.disk_file.specs.declared.memory_devices.Entry.{Entry}
use Rattle.disk_file.specs.MemoryNames.{IsNamed, NoneNamed, IsEntry}

-- a name stands within the list
named_within : (entries : List Entry) (at : ℕ) (name : List ℕ) (found : Option Entry) → slice_get entries at ≡ found → MatchOption found ⊥ (λ (e : Entry). string_bytes e.name ≡ name)
    → at < length entries
named_within entries at name None is here = absurd here
named_within entries at name (Some e) is here = slice_get_within entries at e is

-- what was read there has the name, or hasn't
named_there : (entries : List Entry) (n at : ℕ) (entry : Entry) (text name : List ℕ) → n ≡ length entries → at < n → entry ≡ get_or entries at entry → text ≡ string_bytes entry.name
    → true ≡ pointwise nat_eq text name → IsNamed entries name at
named_there entries n at entry text name long below read is same =
    subst (λ (found : Option Entry). MatchOption found ⊥ (λ (e : Entry). string_bytes e.name ≡ name)) (sym (slice_get_read entries n at entry long below read))
    (sym is ∙ (bytes_decides text name).0 (sym same))

pub named_at : (items entries : List Entry) (n at : ℕ) (entry : Entry) (text name : List ℕ) → items ≡ entries → n ≡ length items → at < n → entry ≡ get_or items at entry
    → text ≡ string_bytes entry.name → true ≡ pointwise nat_eq text name → IsNamed entries name at
named_at items entries n at entry text name seen long below read is same =
    subst (λ (l : List Entry). IsNamed l name at) seen (named_there items n at entry text name long below read is same)

not_named : (entries : List Entry) (n at : ℕ) (entry : Entry) (text name : List ℕ) → n ≡ length entries → at < n → entry ≡ get_or entries at entry → text ≡ string_bytes entry.name
    → false ≡ pointwise nat_eq text name → IsNamed entries name at → ⊥
not_named entries n at entry text name long below read is other named =
    both_ways (pointwise nat_eq text name) (sym other) ((bytes_decides text name).1
    (is ∙ subst (λ (found : Option Entry). MatchOption found ⊥ (λ (e : Entry). string_bytes e.name ≡ name)) (slice_get_read entries n at entry long below read) named))

-- none so far, and not the next one
pub none_more : (items entries : List Entry) (n at : ℕ) (entry : Entry) (text name : List ℕ) → items ≡ entries → ((k : ℕ) → k < at → IsNamed entries name k → ⊥) → n ≡ length items → at < n
    → entry ≡ get_or items at entry → text ≡ string_bytes entry.name → false ≡ pointwise nat_eq text name → (k : ℕ) → k < at + 1 → IsNamed entries name k → ⊥
none_more items entries n at entry text name seen so_far long below read is other k within named = elim (eqb_tells k at) [
  | inl here ↦ not_named items n at entry text name long below read is other
      (subst (λ (i : ℕ). IsNamed items name i) here.1 (subst (λ (l : List Entry). IsNamed l name k) (sym seen) named))
  | inr sooner ↦ so_far k (omega (arith, within, sooner.1)) named
]

-- none at all
pub none_left : (items entries : List Entry) (n at : ℕ) (name : List ℕ) → items ≡ entries → ((k : ℕ) → k < at → IsNamed entries name k → ⊥) → n ≡ length items → n ≤ at → NoneNamed entries name
none_left items entries n at name seen so_far long all k named = so_far k (omega (arith, named_within entries k name (slice_get entries k) refl named, ap (λ (l : List Entry). length l) seen)) named

-- the entry that is read at a place of that name
pub entry_there : (items entries : List Entry) (at : ℕ) (entry : Entry) (name : List ℕ) → items ≡ entries → IsNamed entries name at → entry ≡ get_or items at entry
    → (slice_get entries at ≡ Some entry) × (string_bytes entry.name ≡ name)
entry_there items entries at entry name seen named read =
    (there, subst (λ (found : Option Entry). MatchOption found ⊥ (λ (e : Entry). string_bytes e.name ≡ name)) there named)
  where
    there : slice_get entries at ≡ Some entry
    there = slice_get_read entries (length entries) at entry refl (named_within entries at name (slice_get entries at) refl named) (read ∙ ap (λ (l : List Entry). get_or l at entry) seen)

-- nothing has the name where no place was found
pub unnamed : (entries : List Entry) (name : List ℕ) (found : Option ℕ) {told : Bool} → told ≡ false → told ≡ is_some found
    → MatchOption found (NoneNamed entries name) (λ (at : ℕ). IsNamed entries name at) → NoneNamed entries name
unnamed entries name None none is named = named
unnamed entries name (Some at) none is named = cc

-- the first entry of the name
pub first_there : (items entries : List Entry) (at : ℕ) (entry : Entry) (name : List ℕ) → items ≡ entries → IsNamed entries name at
    → ((sooner : ℕ) → sooner < at → IsNamed entries name sooner → ⊥) → entry ≡ get_or items at entry → IsEntry entries name entry
first_there items entries at entry name seen named first read =
    let there = entry_there items entries at entry name seen named read in (at, there.0, there.1, first)
