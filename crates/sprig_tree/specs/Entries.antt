-- Lists of entries in digest order: what a look-up finds in one, and what an edit makes of it.
use Rattle.std.specs.Prelude.{true, not, List, [], ◌∷◌, map, filter, find, Option, Some, None, if◌then◌else◌}
use Rattle.std.specs.List.Sorted.{IsStrictlySortedBy}
use Rattle.rec_format.specs.declared.version.Digest.{Digest}
use Rattle.rec_format.specs.declared.entry.Entry.{Entry}
use Rattle.rec_format.specs.Places.{digest_cmp, same_digest, digest_before}

abbrev pub digests_in : List Entry → List Digest
digests_in entries = map (λ e. e.digest) entries

-- each digest comes before those of all later entries, so none stands twice
abbrev pub IsInDigestOrder : List Entry → Type 0
IsInDigestOrder entries = IsStrictlySortedBy digest_cmp (digests_in entries)

-- the entry of a digest
abbrev pub entry_of : Digest → List Entry → Option Entry
entry_of digest entries = find (λ e. same_digest digest e.digest) entries

-- the first entry whose digest comes after this one, or the first of all
abbrev pub entry_after : Option Digest → List Entry → Option Entry
entry_after None entries = find (λ e. true) entries
entry_after (Some digest) entries = find (λ e. digest_before digest e.digest) entries

-- one more entry, in its place
abbrev pub with_entry : Entry → List Entry → List Entry
with_entry entry [] = entry ∷ []
with_entry entry (e ∷ es) = if digest_before entry.digest e.digest then entry ∷ e ∷ es else e ∷ with_entry entry es

-- an entry in place of the one of its digest
abbrev pub with_replaced : Entry → List Entry → List Entry
with_replaced entry entries = map (λ e. if same_digest entry.digest e.digest then entry else e) entries

abbrev pub without_digest : Digest → List Entry → List Entry
without_digest digest entries = filter (λ e. not (same_digest digest e.digest)) entries
