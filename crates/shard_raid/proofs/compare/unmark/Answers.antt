use Rattle.std.proofs.Common.{◌≡◌, Some, sym, ◌∙◌, ap, subst, refl}
use Rattle.std.specs.Option.{IsSome}
use Rattle.rec_format.specs.declared.version.Digest.{Digest}
use Rattle.rec_format.specs.declared.entry.Entry.{Entry}
use Rattle.sprig_tree.specs.Entries.{entry_of}
use Rattle.sprig_tree.proofs.Laws.{entry_of-digest}
use Rattle.shard_raid.proofs.Comparing.{unmarks_later}
use Rattle.shard_raid.proofs.compare.unmark.Goals as goal

pub replace-requires : goal.replace-requires
replace-requires c =
    let found : entry_of c.args.digest.now c.args.sprig.now.entries ≡ Some c.in-Some.entry = sym c.find.ensures.value ∙ c.in-Some.is in
    let name = entry_of-digest c.args.digest.now c.args.sprig.now.entries c.in-Some.entry found in
    subst IsSome (sym (ap (λ (x : Entry). entry_of x.digest c.args.sprig.now.entries) c.with_mark.ensures ∙ ap (λ (d : Digest). entry_of d c.args.sprig.now.entries) name ∙ found)) refl

pub returns : goal.returns
returns c =
    unmarks_later c.args.digest.now c.args.stamp c.args.number c.args.sprig.now c.replace.new.self c.is_marked_by.result c.in-Some.entry c.with_mark.result (sym c.find.ensures.value ∙ c.in-Some.is)
    (sym c.older.ensures ∙ c.if-not-older.false) c.with_mark.ensures c.replace.ensures c.is_marked_by.ensures
