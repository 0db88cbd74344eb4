use Rattle.std.proofs.Common.{List, length, ◌≤◌, ltb, subst, sym, ◌∙◌, rules}
use Rattle.std.specs.List.Sorted.{IsPartitionPoint}
use Rattle.std.proofs.lemmas.List.Sorted.{IsPartitionPoint-from_clause}
use Rattle.std.proofs.Common.{◌≡◌, true, false}
use Rattle.raid_book.specs.declared.found.FoundCopy.{FoundCopy}
use Rattle.raid_book.specs.Found.{Falls}
use Rattle.raid_book.proofs.Rows.{parted_above, without_first}
use Rattle.raid_book.proofs.found.drop_first.Goals as goal

pub returns : goal.returns
returns c =
    let part = c.args.part in
    let parted = parted_above part _ (subst Falls (sym c.deref.ensures.value) c.requires.falls) in
    let point = IsPartitionPoint-from_clause (λ (x : FoundCopy). ltb part x.part) _ _ c.partition_point-kept.ensures.partitioned parted (λ a r q k. search rules) in
    c.truncate.ensures.items
    ∙ without_first part c.args.row.now.items c.partition_point-kept.result
    (subst (λ (l : List FoundCopy). c.partition_point-kept.result ≤ length l) c.deref.ensures.value c.partition_point-kept.ensures.bound) c.requires.first
    (subst (λ (l : List FoundCopy). IsPartitionPoint (λ x. ltb part x.part ≡ true) (λ x. ltb part x.part ≡ false) l c.partition_point-kept.result) c.deref.ensures.value point)
