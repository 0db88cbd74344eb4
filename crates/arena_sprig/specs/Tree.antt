-- Entries in a search tree, whose links stand by slot.
use Rattle.std.specs.Prelude.{⊤, ◌≡◌, ℕ, zero, suc, ◌+◌, ◌<◌, ◌≤◌, List, [], ◌∷◌, ◌++◌, length, Option, None, Some, slice_index_or, slice_set}
use Rattle.std.specs.List.{AllByRecursion}
use Rattle.std.specs.declared.cmp.Ordering.TheVariants.{Less, Equal, Greater}
use Rattle.rec_format.specs.Places.{digest_cmp}
use Rattle.rec_format.specs.declared.version.Digest.{Digest}
use Rattle.rec_format.specs.declared.entry.Entry.{Entry}
use Rattle.sprig_tree.specs.Entries.{IsInDigestOrder}
use Rattle.arena_sprig.specs.declared.links.Link.{Link}
use Rattle.arena_sprig.specs.declared.links.Gap.{Gap}
use Rattle.arena_sprig.specs.declared.links.Gap.TheVariants.{Root, Left, Right}

-- the entry of each slot that is in use
abbrev pub Slots : Type 0
Slots = List (Option Entry)

-- a node has a slot and its entry
pub data Tree : Type 0 where
  Leaf : Tree
  Node : (left : Tree) (slot : ℕ) (entry : Entry) (right : Tree) → Tree

abbrev pub no_slot : ℕ
no_slot = 4294967295

abbrev pub no_link : Link
no_link = record { left = no_slot; right = no_slot }

abbrev pub left_of : List Link → ℕ → ℕ
left_of links slot = (slice_index_or links slot no_link).left

abbrev pub right_of : List Link → ℕ → ℕ
right_of links slot = (slice_index_or links slot no_link).right

-- the links with another slot to the left of a slot, and to its right
abbrev pub with_left : ℕ → ℕ → List Link → List Link
with_left slot to links = slice_set links slot record { left = to; right = right_of links slot }

abbrev pub with_right : ℕ → ℕ → List Link → List Link
with_right slot to links = slice_set links slot record { left = left_of links slot; right = to }

-- the links where this gap leads to a slot, and the root then
abbrev pub pointed : Gap → ℕ → List Link → List Link
pointed Root to links = links
pointed (Left at) to links = with_left at to links
pointed (Right at) to links = with_right at to links

abbrev pub root_by : Gap → ℕ → ℕ → ℕ
root_by Root to root = to
root_by (Left at) to root = root
root_by (Right at) to root = root

-- the entries of a tree, in its order
abbrev pub entries_in : Tree → List Entry
entries_in Leaf = []
entries_in (Node l slot entry r) = entries_in l ++ entry ∷ entries_in r

abbrev pub size : Tree → ℕ
size Leaf = 0
size (Node l slot entry r) = suc (size l + size r)

-- a slot has this entry, and links of its own
pub record IsNode (slots : Slots) (links : List Link) (at slot : ℕ) (entry : Entry) : Type 0 where
  pub here : at ≡ slot
  pub linked : slot < length links
  pub holds : slice_index_or slots slot None ≡ Some entry

-- the links from a slot on are this tree
abbrev pub Hangs : Slots → List Link → ℕ → Tree → Type 0
Hangs slots links at Leaf = at ≡ no_slot
Hangs slots links at (Node l slot entry r) =
    IsNode slots links at slot entry × (Hangs slots links (left_of links slot) l × Hangs slots links (right_of links slot) r)

-- each slot has links, and none has the number that stands for no slot
pub record IsLinked (slots : Slots) (links : List Link) : Type 0 where
  pub each : length slots ≤ length links
  pub few : length links ≤ no_slot

-- what a sprig keeps of its links; how high the tree is, it doesn't say
pub record IsTree (slots : Slots) (links : List Link) (root count : ℕ) : Type 0 where
  pub tree : Tree
  pub hangs : Hangs slots links root tree
  pub linked : IsLinked slots links
  pub counted : count ≡ size tree
  pub sorted : IsInDigestOrder (entries_in tree)

abbrev pub between : Option Entry → List Entry → List Entry → List Entry
between None below above = []
between (Some entry) below above = below ++ entry ∷ above

-- the entries in digest order, as contracts see them: those that so many levels of links reach
abbrev pub entries_from : ℕ → Slots → List Link → ℕ → List Entry
entries_from zero slots links at = []
entries_from (suc levels) slots links at =
    between (slice_index_or slots at None) (entries_from levels slots links (left_of links at)) (entries_from levels slots links (right_of links at))

-- ---- places in a tree

-- the way from the root to a place: what hangs beside it, nearest first
pub data Path : Type 0 where
  Top : Path
  InLeft : (up : Path) (slot : ℕ) (entry : Entry) (right : Tree) → Path
  InRight : (left : Tree) (slot : ℕ) (entry : Entry) (up : Path) → Path

-- the whole tree, with this one at the place
abbrev pub plug : Path → Tree → Tree
plug Top t = t
plug (InLeft up slot entry r) t = plug up (Node t slot entry r)
plug (InRight l slot entry up) t = plug up (Node l slot entry t)

-- the entries before the place, and those after it
abbrev pub before : Path → List Entry
before Top = []
before (InLeft up slot entry r) = before up
before (InRight l slot entry up) = before up ++ (entries_in l ++ entry ∷ [])

abbrev pub after : Path → List Entry
after Top = []
after (InLeft up slot entry r) = entry ∷ (entries_in r ++ after up)
after (InRight l slot entry up) = after up

abbrev pub beside : Path → ℕ
beside Top = 0
beside (InLeft up slot entry r) = suc (size r + beside up)
beside (InRight l slot entry up) = suc (size l + beside up)

-- the links lead from the root by this way to a slot
abbrev pub Leads : Slots → List Link → ℕ → Path → ℕ → Type 0
Leads slots links root Top at = at ≡ root
Leads slots links root (InLeft up slot entry r) at =
    IsNode slots links slot slot entry × ((left_of links slot ≡ at) × (Hangs slots links (right_of links slot) r × Leads slots links root up slot))
Leads slots links root (InRight l slot entry up) at =
    IsNode slots links slot slot entry × ((right_of links slot ≡ at) × (Hangs slots links (left_of links slot) l × Leads slots links root up slot))

abbrev pub gap_of : Path → Gap
gap_of Top = Root
gap_of (InLeft up slot entry r) = Left slot
gap_of (InRight l slot entry up) = Right slot

-- this tree hangs at a place of the tree of the root; the whole is in digest order
pub record IsPlaced (slots : Slots) (links : List Link) (root : ℕ) (path : Path) (gap : Gap) (at : ℕ) (tree : Tree) : Type 0 where
  pub linked : IsLinked slots links
  pub leads : Leads slots links root path at
  pub hangs : Hangs slots links at tree
  pub link : gap ≡ gap_of path
  pub sorted : IsInDigestOrder (before path ++ (entries_in tree ++ after path))

-- ---- turns

-- what hangs to the left comes up, and what hung there hangs to its right then
abbrev pub left_raised : Tree → Tree
left_raised Leaf = Leaf
left_raised (Node Leaf slot entry r) = Node Leaf slot entry r
left_raised (Node (Node a low below b) slot entry r) = Node a low below (Node b slot entry r)

abbrev pub right_raised : Tree → Tree
right_raised Leaf = Leaf
right_raised (Node l slot entry Leaf) = Node l slot entry Leaf
right_raised (Node l slot entry (Node b high above c)) = Node (Node l slot entry b) high above c

-- wherever a tree hangs at this place, what the turn makes of it hangs there then
abbrev pub Turns : (Tree → Tree) → List Link → ℕ → List Link → ℕ → Gap → ℕ → ℕ → Type 0
Turns turn links root new_links new_root gap at now_at =
    (slots : Slots) (path : Path) (tree : Tree) → IsPlaced slots links root path gap at tree → IsPlaced slots new_links new_root path gap now_at (turn tree)

-- at this place hangs a tree of the same entries
pub record IsEvened (slots : Slots) (links : List Link) (root : ℕ) (path : Path) (gap : Gap) (at : ℕ) (old : Tree) : Type 0 where
  pub tree : Tree
  pub placed : IsPlaced slots links root path gap at tree
  pub same : entries_in tree ≡ entries_in old
  pub sized : size tree ≡ size old

-- wherever a tree hangs at this place, one of the same entries hangs there then
abbrev pub Evens : List Link → ℕ → List Link → ℕ → Gap → ℕ → ℕ → Type 0
Evens links root new_links new_root gap at now_at =
    (slots : Slots) (path : Path) (tree : Tree) → IsPlaced slots links root path gap at tree → IsEvened slots new_links new_root path gap now_at tree

-- ---- searches

-- the entries that stand beside a place come before the digest and after it
pub record IsBeside (path : Path) (digest : Digest) : Type 0 where
  pub below : AllByRecursion (λ e. digest_cmp e.digest digest ≡ Less) (before path)
  pub above : AllByRecursion (λ e. digest_cmp e.digest digest ≡ Greater) (after path)

-- a search for a digest has come to this place: the digest is below it or nowhere
pub record IsWayDown (slots : Slots) (links : List Link) (root : ℕ) (entries : List Entry) (digest : Digest) (gap : Gap) (at steps count : ℕ) : Type 0 where
  pub path : Path
  pub tree : Tree
  pub placed : IsPlaced slots links root path gap at tree
  pub whole : entries ≡ before path ++ (entries_in tree ++ after path)
  pub beside_it : IsBeside path digest
  pub short : size tree + steps ≤ count

-- nothing is there, or an entry of the digest
abbrev pub Stops : Digest → Tree → Type 0
Stops digest Leaf = ⊤
Stops digest (Node l slot entry r) = digest_cmp entry.digest digest ≡ Equal

-- the place of a digest's entry, or where it would go
pub record IsReached (slots : Slots) (links : List Link) (root : ℕ) (entries : List Entry) (digest : Digest) (gap : Gap) (at count : ℕ) : Type 0 where
  pub path : Path
  pub tree : Tree
  pub placed : IsPlaced slots links root path gap at tree
  pub whole : entries ≡ before path ++ (entries_in tree ++ after path)
  pub beside_it : IsBeside path digest
  pub stop : Stops digest tree
  pub short : size tree ≤ count

-- the last entry of the tree to the left of a node, with the tree of those before it; what hangs at its place makes a tree to the left of that node
pub record IsLast (slots : Slots) (links : List Link) (root : ℕ) (outer : Path) (slot : ℕ) (entry : Entry) (r old : Tree) (gap : Gap) (at : ℕ) : Type 0 where
  pub path : Path
  pub last : Entry
  pub rest : Tree
  pub placed : IsPlaced slots links root path gap at (Node rest at last Leaf)
  pub inner : Tree → Tree
  pub front : List Entry
  pub nested : (t : Tree) → plug path t ≡ plug outer (Node (inner t) slot entry r)
  pub inside : (t : Tree) → entries_in (inner t) ≡ front ++ entries_in t
  pub whole : entries_in old ≡ front ++ (entries_in rest ++ last ∷ [])

-- wherever a node hangs whose left tree has a node, this place is found
abbrev pub FindsLast : List Link → ℕ → List Link → ℕ → ℕ → ℕ → Gap → ℕ → Type 0
FindsLast links root new_links new_root slot count gap at =
    (slots : Slots) (outer : Path) (outer_gap : Gap) (entry : Entry) (a : Tree) (low : ℕ) (below : Entry) (b r : Tree)
    → IsPlaced slots links root outer outer_gap slot (Node (Node a low below b) slot entry r) → size (Node a low below b) ≤ count
    → IsLast slots new_links new_root outer slot entry r (Node a low below b) gap at
