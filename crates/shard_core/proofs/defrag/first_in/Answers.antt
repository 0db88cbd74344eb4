use Rattle.std.proofs.Common.{◌≡◌, false, List, [], ◌∷◌, length, refl, sym, ap, ◌∙◌, arith}
use Rattle.std.specs.Prelude.{Option, Some, None, filter, MatchOption}
use Rattle.std.proofs.lemmas.Bool.{cond-false, ne_eqb}
use Rattle.rec_format.specs.declared.version.Digest.{Digest}
use Rattle.rec_format.specs.declared.entry.Entry.{Entry}
use Rattle.sprig_tree.specs.Entries.{IsInDigestOrder, entry_of, entry_after}
use Rattle.law_sprig.proofs.Behind.{behind, walk_from, entries_behind}
use Rattle.shard_core.proofs.Lying.{here, none_here, own_after}
use Rattle.shard_core.proofs.defrag.first_in.Goals as goal

abbrev rest_from : Option Entry → List Entry → List Entry
rest_from next es = walk_from (λ e. e.digest) next es

abbrev rest_behind : Option Digest → List Entry → List Entry
rest_behind last es = behind (λ e. e.digest) last es

-- what is found behind a digest is its digest's entry
owned : (last : Option Digest) (es : List Entry) (next : Option Entry) → next ≡ entry_after last es → IsInDigestOrder es → MatchOption next (Unit {0}) (λ e. entry_of e.digest es ≡ Some e)
owned last es None is order = tt
owned last es (Some e) is order = own_after last es e order (sym is)

-- all entries stand behind none
all_behind : (es : List Entry) → rest_behind None es ≡ es
all_behind [] = refl
all_behind (e ∷ es) = ap (λ (l : List Entry). e ∷ l) (all_behind es)

pub loop-next-init : goal.loop-next-init
loop-next-init c =
    let es : List Entry = c.args.sprig.now.entries in
    let next = c.next_after-next.ensures.value in
    record {
      rest = ap (λ (o : Option Entry). filter (here c.args.block) (rest_from o es)) next
          ∙ ap (filter (here c.args.block)) (sym (entries_behind None es c.next_after-next.ensures.sorted) ∙ all_behind es);
      own = owned None es c.next_after-next.result next c.next_after-next.ensures.sorted;
    }

pub loop-next-preserved : goal.loop-next-preserved
loop-next-preserved c =
    let es : List Entry = c.args.sprig.now.entries in
    let e : Entry = c.in-Some.entry in
    let fails : here c.args.block e ≡ false = ne_eqb e.block c.args.block c.if-entry-block.false in
    record {
      rest = ap (λ (o : Option Entry). filter (here c.args.block) (rest_from o es)) c.next_after-next-in-Some.ensures.value
          ∙ ap (filter (here c.args.block)) (sym (entries_behind (Some e.digest) es c.next_after-next.ensures.sorted))
          ∙ sym (cond-false (here c.args.block e) (e ∷ filter (here c.args.block) (rest_behind (Some e.digest) es)) (filter (here c.args.block) (rest_behind (Some e.digest) es)) fails)
          ∙ ap (λ (o : Option Entry). filter (here c.args.block) (rest_from o es)) (sym c.in-Some.is)
          ∙ c.loop-next.invariant.rest;
      own = owned (Some e.digest) es c.next_after-next-in-Some.result c.next_after-next-in-Some.ensures.value c.next_after-next.ensures.sorted;
    }

pub loop-next-smaller : goal.loop-next-smaller
loop-next-smaller c =
    let es : List Entry = c.args.sprig.now.entries in
    let e : Entry = c.in-Some.entry in
    let after : length (rest_from c.next_after-next-in-Some.result es) ≡ length (rest_behind (Some e.digest) es) =
    ap (λ (o : Option Entry). length (rest_from o es)) c.next_after-next-in-Some.ensures.value ∙ ap length (sym (entries_behind (Some e.digest) es c.next_after-next.ensures.sorted)) in
    let before : length (rest_from c.loop-next.next es) ≡ length (e ∷ rest_behind (Some e.digest) es) = ap (λ (o : Option Entry). length (rest_from o es)) c.in-Some.is in
    omega (arith, after, before)

pub returns : goal.returns
returns c digest =
    let es : List Entry = c.args.sprig.now.entries in
    none_here c.args.block digest es (sym c.loop-next.invariant.rest ∙ ap (λ (o : Option Entry). filter (here c.args.block) (rest_from o es)) c.in_default.is)
