-- The counts of faults of a run never fall, and an answer of a fault raises one of them.
use Rattle.std.proofs.Common.{◌≡◌, ℕ, zero, suc, ◌+◌, ◌<◌, ◌≤◌, Bool, List, [], ◌∷◌, refl, inl, inr, arith, subst, sym, ◌∙◌}
use Rattle.std.specs.List.{AllByRecursion}
use Rattle.model_device.specs.Book.{Setup}
use Rattle.std.specs.Prelude.{◌⊎◌, ◌^◌, Option, Some, None, MatchOption, slice_get}
use Rattle.model_device.specs.Events.{Event}
use Rattle.model_device.specs.Legal.{Follows}
use Rattle.model_node.specs.Commands.{Node, NodeEvent, at_place, slot_after, node_after, IsLegalOn}
use Rattle.model_node.specs.Run.{ImagesLeft, Served, RestartsEach, SameStates, Serves, ServesAll, IsRun, node_or, node_at_reply, node_after_line, node_after_lines, last_node, AnswersLine}
use Rattle.model_node.specs.declared.run_end.RunEnd.{RunEnd}
use Rattle.model_node.specs.declared.run_end.RunEnd.TheVariants as end
use Rattle.model_node.specs.Outside.{NoneFell, counts_of, Outside, RoseOn, RoseInLast}
use Rattle.model_node.specs.RunEnd.{HasCause}
use Rattle.model_node.specs.Headline.{HoldsReplies}

pub none_fell_refl : (xs : List ℕ) → NoneFell xs xs
none_fell_refl [] = refl
none_fell_refl (x ∷ xs) = (omega arith, none_fell_refl xs)

pub none_fell_then : (xs ys zs : List ℕ) → NoneFell xs ys → NoneFell ys zs → NoneFell xs zs
none_fell_then [] [] zs first second = second
none_fell_then [] (y ∷ ys) zs first second = absurd (not_empty first)
  where
    not_empty : y ∷ ys ≡ [] → ⊥
    not_empty same = cc
none_fell_then (x ∷ xs) [] zs first second = absurd first
none_fell_then (x ∷ xs) (y ∷ ys) [] first second = absurd second
none_fell_then (x ∷ xs) (y ∷ ys) (z ∷ zs) first second = (omega (arith, first.0, second.0), none_fell_then xs ys zs first.1 second.1)

-- one event on a device of the node
pub place_keeps : (told : Bool) (n : ℕ) (event : Event) (node : Node)
    → MatchOption (slice_get node n) ⊥ (λ slot. Follows slot.setup told slot.state slot.faults event)
    → NoneFell (counts_of node) (counts_of (at_place n (slot_after event) node))
place_keeps told n event [] follows = absurd follows
place_keeps told zero event (slot ∷ slots) follows = (follows.counts, none_fell_refl (counts_of slots))
place_keeps told (suc n) event (slot ∷ slots) follows = (omega arith, place_keeps told n event slots follows)

pub events_keep : (told : Bool) (node : Node) (events : List NodeEvent) → IsLegalOn told node events → NoneFell (counts_of node) (counts_of (node_after events node))
events_keep told node [] legal = none_fell_refl (counts_of node)
events_keep told node (e ∷ events) legal =
    none_fell_then _ _ _ (place_keeps told e.device e.event node legal.0) (events_keep told (at_place e.device (slot_after e.event) node) events legal.1)

pub restart_keeps : (left : ImagesLeft) (told : Bool) (device : ℕ) (old new : Node) → RestartsEach left told device old new → NoneFell (counts_of old) (counts_of new)
restart_keeps left told device [] new restarts = subst (λ (n : Node). NoneFell [] (counts_of n)) (sym restarts) refl
restart_keeps left told device (slot ∷ slots) [] restarts = absurd restarts
restart_keeps left told device (slot ∷ slots) (fresh ∷ new) restarts = (restarts.0, restart_keeps left told (device + 1) slots new restarts.2)

pub same_keeps : (old new : Node) → SameStates old new → NoneFell (counts_of old) (counts_of new)
same_keeps [] new same = subst (λ (n : Node). NoneFell [] (counts_of n)) (sym same) refl
same_keeps (slot ∷ slots) [] same = absurd same
same_keeps (slot ∷ slots) (after ∷ new) same = (same.2, same_keeps slots new same.3)

-- what a line makes of the node, by a restart or without one
line_restarts : (left : ImagesLeft) (told : Bool) (node : Node) (line : Option (List ℕ)) (served : Served) → AnswersLine left told node line served
    → (served.restarted ≡ None) ⊎ ((new : Node) × (served.restarted ≡ Some new) × NoneFell (counts_of node) (counts_of new))
line_restarts left told node None served refuses = inl refuses.1
line_restarts left told node (Some line) served (inr (inl refuses)) = inl refuses.1.1
line_restarts left told node (Some line) served (inr (inr lacks)) = inl lacks.1.1
line_restarts left told node (Some line) served (inl does) = elim does.4 [
  | inl made ↦ inl made.0
  | inr ends ↦ elim ends.1.3 [
    | inl again ↦ inr (ends.1.1, ends.1.2, restart_keeps left told 0 node ends.1.1 again.0)
    | inr halted ↦ inr (ends.1.1, ends.1.2, same_keeps node ends.1.1 halted.0)
  ]
]

reply_keeps : (left : ImagesLeft) (told : Bool) (node : Node) (served : Served) → Serves left told node served → NoneFell (counts_of node) (counts_of (node_at_reply served node))
reply_keeps left told node served serves = elim (line_restarts left told node served.line served serves.answers) [
  | inl none ↦ subst (λ (r : Option Node). NoneFell (counts_of node) (counts_of (node_or (node_after served.work node) r))) (sym none) (events_keep told node served.work serves.work)
  | inr some ↦ subst (λ (r : Option Node). NoneFell (counts_of node) (counts_of (node_or (node_after served.work node) r))) (sym some.1) some.2
]

pub line_keeps : (left : ImagesLeft) (told : Bool) (node : Node) (served : Served) → Serves left told node served → NoneFell (counts_of node) (counts_of (node_after_line served node))
line_keeps left told node served serves =
    none_fell_then _ _ _ (reply_keeps left told node served serves) (events_keep told (node_at_reply served node) served.tended serves.tending)

pub lines_keep : (left : ImagesLeft) (told : Bool) (node : Node) (lines : List Served) → ServesAll left told node lines → NoneFell (counts_of node) (counts_of (node_after_lines lines node))
lines_keep left told node [] serves = none_fell_refl (counts_of node)
lines_keep left told node (served ∷ lines) serves =
    none_fell_then _ _ _ (line_keeps left told node served serves.0) (lines_keep left told (node_after_line served node) lines serves.1)

pub run_keeps : (left : ImagesLeft) (told : Bool) (first : Node) (lines : List Served) (closing : List NodeEvent) → IsRun left told first lines closing
    → NoneFell (counts_of first) (counts_of (last_node first lines closing))
run_keeps left told first lines closing run =
    none_fell_then _ _ _ (lines_keep left told first lines run.serves) (events_keep told (node_after_lines lines first) closing run.legal)

-- ---- where no count rose, none rose on the way

-- in none of these events a count rose
abbrev pub NoneRose : List NodeEvent → Type 0
NoneRose events = AllByRecursion (λ e. e.event.faults_after ≤ e.event.faults_before) events

place_rose : (told : Bool) (n : ℕ) (event : Event) (node : Node)
    → MatchOption (slice_get node n) ⊥ (λ slot. Follows slot.setup told slot.state slot.faults event)
    → NoneFell (counts_of (at_place n (slot_after event) node)) (counts_of node) → event.faults_after ≤ event.faults_before
place_rose told n event [] follows back = absurd follows
place_rose told zero event (slot ∷ slots) follows back = omega (arith, follows.begins, back.0)
place_rose told (suc n) event (slot ∷ slots) follows back = place_rose told n event slots follows back.1

pub none_rose : (told : Bool) (node : Node) (events : List NodeEvent) → IsLegalOn told node events
    → NoneFell (counts_of (node_after events node)) (counts_of node) → NoneRose events
none_rose told node [] legal back = tt
none_rose told node (e ∷ events) legal back =
    let next = at_place e.device (slot_after e.event) node in (
      place_rose told e.device e.event node legal.0 (none_fell_then _ _ _ (events_keep told next events legal.1) back),
      none_rose told next events legal.1 (none_fell_then _ _ _ back (place_keeps told e.device e.event node legal.0)),
    )

-- so in no line
abbrev pub NoneRoseIn : Served → Type 0
NoneRoseIn served = NoneRose served.tended × ((served.restarted ≡ None) → NoneRose served.work)

line_rose : (left : ImagesLeft) (told : Bool) (node : Node) (served : Served) → Serves left told node served
    → NoneFell (counts_of (node_after_line served node)) (counts_of node) → NoneRoseIn served
line_rose left told node served serves back = (
  none_rose told (node_at_reply served node) served.tended serves.tending (none_fell_then _ _ _ back (reply_keeps left told node served serves)),
  λ none. none_rose told node served.work serves.work (subst (λ (r : Option Node). NoneFell (counts_of (node_or (node_after served.work node) r)) (counts_of node)) none
      (none_fell_then _ _ _ (events_keep told (node_at_reply served node) served.tended serves.tending) back)),
)

pub lines_rose : (left : ImagesLeft) (told : Bool) (node : Node) (lines : List Served) → ServesAll left told node lines
    → NoneFell (counts_of (node_after_lines lines node)) (counts_of node) → AllByRecursion NoneRoseIn lines
lines_rose left told node [] serves back = tt
lines_rose left told node (served ∷ lines) serves back = (
  line_rose left told node served serves.0 (none_fell_then _ _ _ (lines_keep left told (node_after_line served node) lines serves.1) back),
  lines_rose left told (node_after_line served node) lines serves.1 (none_fell_then _ _ _ back (line_keeps left told node served serves.0)),
)

-- a run in which no disk failed has no line and no tending in which a count rose
pub nothing_rose : (Starts : Node → Type 0) (told : Bool) (setups : List Setup) (o : Outside) (since : ImagesLeft) (h : HoldsReplies Starts told setups o since)
    → o.after.disks ≡ o.before.disks → AllByRecursion NoneRoseIn h.lines
nothing_rose Starts told setups o since h same =
    let back : NoneFell (counts_of (last_node h.first h.lines h.closing)) (counts_of h.first) =
    subst (λ (xs : List ℕ). NoneFell xs (counts_of h.first)) (sym (h.counts_last ∙ same)) h.counts_first in
    lines_rose since told h.first h.lines h.is_run.serves
    (none_fell_then _ _ _ (events_keep told (node_after_lines h.lines h.first) h.closing h.is_run.legal) back)

-- ---- the device whose fault ended a run

-- a count that rose behind others that didn't fall
rose_behind : (device : ℕ) (xs ys zs : List ℕ) → NoneFell xs ys → RoseOn device ys zs → RoseOn device xs zs
rose_behind device [] ys zs kept rose = subst (λ (l : List ℕ). RoseOn device l zs) kept rose
rose_behind device (x ∷ xs) [] zs kept rose = absurd kept
rose_behind zero (x ∷ xs) (y ∷ ys) [] kept rose = absurd rose
rose_behind zero (x ∷ xs) (y ∷ ys) (z ∷ zs) kept rose = λ below. let higher : y < z = rose below in omega (arith, kept.0)
rose_behind (suc n) (x ∷ xs) (y ∷ ys) [] kept rose = rose_behind n xs ys [] kept.1 rose
rose_behind (suc n) (x ∷ xs) (y ∷ ys) (z ∷ zs) kept rose = rose_behind n xs ys zs kept.1 rose

-- and before such
rose_before : (device : ℕ) (xs ys zs : List ℕ) → RoseOn device xs ys → NoneFell ys zs → RoseOn device xs zs
rose_before device [] ys zs rose kept = absurd rose
rose_before device (x ∷ xs) [] zs rose kept = subst (λ (l : List ℕ). RoseOn device (x ∷ xs) l) (sym kept) rose
rose_before device (x ∷ xs) (y ∷ ys) [] rose kept = absurd kept
rose_before zero (x ∷ xs) (y ∷ ys) (z ∷ zs) rose kept = λ below. let low : y + 1 < 2 ^ 64 = omega (arith, kept.0) in let higher : x < y = rose low in omega (arith, kept.0)
rose_before (suc n) (x ∷ xs) (y ∷ ys) (z ∷ zs) rose kept = rose_before n xs ys zs rose kept.1

rose_in_lines : (left : ImagesLeft) (told : Bool) (device : ℕ) (node : Node) (lines : List Served) → ServesAll left told node lines
    → RoseInLast device node lines → RoseOn device (counts_of node) (counts_of (node_after_lines lines node))
rose_in_lines left told device node [] serves rose = absurd rose
rose_in_lines left told device node (served ∷ []) serves rose = rose
rose_in_lines left told device node (served ∷ next ∷ lines) serves rose =
    rose_behind device (counts_of node) (counts_of (node_after_line served node)) (counts_of (node_after_lines (next ∷ lines) (node_after_line served node)))
    (line_keeps left told node served serves.0)
    (rose_in_lines left told device (node_after_line served node) (next ∷ lines) serves.1 rose)

rose_in_run : (left : ImagesLeft) (told : Bool) (device : ℕ) (o : Outside) (first : Node) (lines : List Served) (unserved : List (Option (List ℕ))) (closing : List NodeEvent)
    → IsRun left told first lines closing → HasCause (end.DeviceFault device) o first lines unserved closing
    → RoseOn device (counts_of first) (counts_of (last_node first lines closing))
rose_in_run left told device o first lines unserved closing run (inl closes) =
    rose_behind device _ (counts_of (node_after_lines lines first)) _ (lines_keep left told first lines run.serves) closes.1.rose
rose_in_run left told device o first lines unserved closing run (inr halts) =
    rose_before device _ (counts_of (node_after_lines lines first)) _ (rose_in_lines left told device first lines run.serves halts.1)
    (events_keep told (node_after_lines lines first) closing run.legal)

-- Where a run ended by a device's fault, the count of this device rose in it.
pub device_rose : (Starts : Node → Type 0) (told : Bool) (setups : List Setup) (o : Outside) (since : ImagesLeft) (h : HoldsReplies Starts told setups o since)
    (device : ℕ) → o.end ≡ end.DeviceFault device → RoseOn device o.before.disks o.after.disks
device_rose Starts told setups o since h device is =
    subst (λ (xs : List ℕ). RoseOn device o.before.disks xs) h.counts_last
    (rose_behind device _ (counts_of h.first) _ h.counts_first
    (rose_in_run since told device o h.first h.lines h.unserved h.closing h.is_run
    (subst (λ (e : RunEnd). HasCause e o h.first h.lines h.unserved h.closing) is h.cause)))
