use Rattle.std.proofs.Common.{◌≡◌, ℕ, Bool, true, false, cond, List, ◌∷◌, length, Bor, sym, ap, ◌∙◌, arith}
use Rattle.std.specs.Prelude.{Option, Some, None, filter, is_some, slice_get}
use Rattle.std.specs.Option.{option_copied}
use Rattle.std.proofs.lemmas.Bool.{cond-true, cond-false}
use Rattle.law_lists.proofs.Filters.{filter_swapped}
use Rattle.rec_format.specs.declared.version.Digest.{Digest}
use Rattle.rec_format.specs.declared.entry.Entry.{Entry}
use Rattle.model_device.specs.Passes.{is_behind}
use Rattle.expiry_rule.specs.Seen.{expired_entry, is_expired_entry}
use Rattle.sprig_tree.specs.Entries.{digests_in, entry_after}
use Rattle.law_sprig.proofs.Behind.{behind, walk_from, entries_behind}
use Rattle.shard_core.specs.Expiring.{expired_among}
use Rattle.shard_core.proofs.expire.next_expired.Goals as goal

-- the entries from one on, and those behind a digest
abbrev rest_from : Option Entry → List Entry → List Entry
rest_from next es = walk_from (λ e. e.digest) next es

abbrev rest_behind : Option Digest → List Entry → List Entry
rest_behind last es = behind (λ e. e.digest) last es

-- what the test of an entry says
tested : (now : ℕ) (e : Entry) (r : Option (Bor Entry)) (b : Bool) → b ≡ is_some r → option_copied r ≡ expired_entry now (Some e) → b ≡ is_expired_entry now e
tested now e r b is tells = by r (is_expired_entry now e) is tells
  where
    by : (o : Option (Bor Entry)) (c : Bool) → b ≡ is_some o → option_copied o ≡ cond c (Some e) None → b ≡ c
    by None true none copied = absurd (cc)
    by None false none copied = none
    by (Some x) true some copied = some
    by (Some x) false some copied = absurd (cc)

-- what is expired behind the last digest, by where the walk is
left_from : (now : ℕ) (last : Option Digest) (es : List Entry) (next : Option Entry) → filter (is_expired_entry now) (rest_from next es) ≡ filter (is_expired_entry now) (rest_behind last es)
    → expired_among es now last ≡ digests_in (filter (is_expired_entry now) (rest_from next es))
left_from now last es next same = ap digests_in (filter_swapped (λ e. is_behind last e.digest) (is_expired_entry now) es ∙ sym same)

pub loop-next-init : goal.loop-next-init
loop-next-init c =
    let es : List Entry = c.args.sprig.now.entries in
    let next : c.next_after-next.result ≡ entry_after c.args.last es = c.next_after-next.ensures.value ∙ ap (λ (o : Option Digest). entry_after o es) c.as_ref.ensures.value in
    ap (λ (o : Option Entry). filter (is_expired_entry c.args.now) (rest_from o es)) next
    ∙ ap (filter (is_expired_entry c.args.now)) (sym (entries_behind c.args.last es c.next_after-next.ensures.sorted))

pub loop-next-preserved : goal.loop-next-preserved
loop-next-preserved c =
    let es : List Entry = c.args.sprig.now.entries in
    let e : Entry = c.in-Some.entry in
    let fails : is_expired_entry c.args.now e ≡ false = sym (tested c.args.now e c.expired_put.result c.is_some.result c.is_some.ensures c.expired_put.ensures) ∙ c.if-is_some.false in
    ap (λ (o : Option Entry). filter (is_expired_entry c.args.now) (rest_from o es)) c.next_after-next-in-Some.ensures.value
    ∙ ap (filter (is_expired_entry c.args.now)) (sym (entries_behind (Some e.digest) es c.next_after-next.ensures.sorted))
    ∙ sym (cond-false (is_expired_entry c.args.now e) (e ∷ filter (is_expired_entry c.args.now) (rest_behind (Some e.digest) es))
    (filter (is_expired_entry c.args.now) (rest_behind (Some e.digest) es)) fails)
    ∙ ap (λ (o : Option Entry). filter (is_expired_entry c.args.now) (rest_from o es)) (sym c.in-Some.is)
    ∙ c.loop-next.invariant

pub loop-next-smaller : goal.loop-next-smaller
loop-next-smaller c =
    let es : List Entry = c.args.sprig.now.entries in
    let e : Entry = c.in-Some.entry in
    let after : length (rest_from c.next_after-next-in-Some.result es) ≡ length (rest_behind (Some e.digest) es) =
    ap (λ (o : Option Entry). length (rest_from o es)) c.next_after-next-in-Some.ensures.value ∙ ap length (sym (entries_behind (Some e.digest) es c.next_after-next.ensures.sorted)) in
    let before : length (rest_from c.loop-next.next es) ≡ length (e ∷ rest_behind (Some e.digest) es) = ap (λ (o : Option Entry). length (rest_from o es)) c.in-Some.is in
    omega (arith, after, before)

pub returns-then-is_some : goal.returns-then-is_some
returns-then-is_some c =
    let es : List Entry = c.args.sprig.now.entries in
    let e : Entry = c.in-Some.entry in
    let passes : is_expired_entry c.args.now e ≡ true = sym (tested c.args.now e c.expired_put.result c.is_some.result c.is_some.ensures c.expired_put.ensures) ∙ c.if-is_some.true in
    sym (ap (λ (l : List Digest). slice_get l 0)
    (left_from c.args.now c.args.last es c.loop-next.next c.loop-next.invariant
    ∙ ap (λ (o : Option Entry). digests_in (filter (is_expired_entry c.args.now) (rest_from o es))) c.in-Some.is
    ∙ ap digests_in (cond-true (is_expired_entry c.args.now e) (e ∷ filter (is_expired_entry c.args.now) (rest_behind (Some e.digest) es))
    (filter (is_expired_entry c.args.now) (rest_behind (Some e.digest) es)) passes)))

pub returns : goal.returns
returns c =
    let es : List Entry = c.args.sprig.now.entries in
    sym (ap (λ (l : List Digest). slice_get l 0)
    (left_from c.args.now c.args.last es c.loop-next.next c.loop-next.invariant
    ∙ ap (λ (o : Option Entry). digests_in (filter (is_expired_entry c.args.now) (rest_from o es))) c.in_default.is))
