use Rattle.std.proofs.Common.{rules, List, length, ◌<◌, ◌^◌, IfOk, IfErr, ap, sym, subst, ◌∙◌, arith}
use Rattle.std.proofs.lemmas.List.Sorted.{answers_always}
use Rattle.rec_format.specs.declared.entry.Entry.{Entry}
use Rattle.sprig_tree.specs.Entries.{IsInDigestOrder}
use Rattle.sprig_tree.specs.Search.{IsPlaceOf, IsGapFor}
use Rattle.sprig_tree.specs.State.{SprigState}
use Rattle.sprig_tree.proofs.Found.{searched}
use Rattle.sprig_tree.proofs.sprig.Sprig.search.Goals as goal

-- the closure gives each entry's digest, and the slice is the sprig's entries
pub returns : goal.returns
returns c =
    let facts = c.binary_search_by_key.ensures in
    let seen = ap (λ (s : SprigState). s.entries) c.self.view_is in
    let by_digest = facts.position (λ (e : Entry). e.digest) (answers_always _ _ _ (λ f a r g called. search rules)) in
    let answer = searched c.args.digest.now c.deref.result.now (subst IsInDigestOrder (sym c.deref.ensures.value) c.self.invariant.sorted) c.binary_search_by_key.result facts.bound by_digest in
    let same = c.deref.ensures.value ∙ seen in
    record {
      found = subst (λ l. IfOk c.binary_search_by_key.result (IsPlaceOf c.args.digest.now l)) same answer.found;
      absent = subst (λ l. IfErr c.binary_search_by_key.result (IsGapFor c.args.digest.now l)) same answer.absent;
      sorted = subst IsInDigestOrder seen c.self.invariant.sorted;
      small = subst (λ (l : List Entry). length l < 2 ^ 63) seen (omega arith);
    }
