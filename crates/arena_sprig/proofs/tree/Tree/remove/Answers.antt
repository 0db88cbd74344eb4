use Rattle.std.proofs.Common.{◌≡◌, ◌+◌, ◌-◌, ◌∷◌, [], List, length, Option, add-zero, ap, subst, sym, ◌∙◌}
use Rattle.std.specs.Prelude.{is_some, if◌then◌else◌}
use Rattle.rec_format.specs.declared.entry.Entry.{Entry}
use Rattle.smallvec.proofs.SmallVecLemmas.{items-with_items}
use Rattle.arena_sprig.specs.declared.links.Link.{Link}
use Rattle.sprig_tree.specs.declared.tally.Tally.{Tally}
use Rattle.sprig_tree.specs.Entries.{entry_of, without_digest}
use Rattle.sprig_tree.specs.Tallies.{tally_of, parted}
use Rattle.arena_sprig.specs.Tree.{entries_from}
use Rattle.arena_sprig.specs.Growth.{IsKept}
use Rattle.sprig_tree.proofs.Laws.{without_absent}
use Rattle.arena_sprig.proofs.Kept.{after_remove}
use Rattle.arena_sprig.proofs.tree.Tree.remove.Goals as goal

pub invariant_of-self : goal.invariant_of-self
invariant_of-self c =
    let s = c.self.inside in
    let links = c.remove-entry.new.links in
    let list = c.remove-entry.ensures.entries ∙ ap (λ (l : List Link). without_digest c.args.digest.now (entries_from s.count s.arena.slots l s.root)) c.deref_mut.ensures.value in
    let found = ap (λ (l : List Link). entry_of c.args.digest.now (entries_from s.count s.arena.slots l s.root)) (sym c.deref_mut.ensures.value) ∙ c.remove-entry.ensures.value in
    let done = after_remove s.arena s.links.items s.root s.count s.room s.tally c.self.invariant c.remove-entry.new.arena links c.remove-entry.new.root
    c.remove-entry.ensures.slots c.args.digest.now c.remove-entry.result found c.remove-entry.ensures.kept list c.remove-entry.ensures.spare in
    let tally : c.minus-self-inside.result ≡ parted s.tally (tally_of (c.remove-entry.result ∷ [])) = c.minus-self-inside.ensures ∙ ap (λ (t : Tally). parted s.tally t) c.of.ensures in
    subst (λ (l : List Link). IsKept c.remove-entry.new.arena l c.remove-entry.new.root (s.count - 1) (s.room + 1) c.minus-self-inside.result)
    (sym (items-with_items s.links links (c.remove-entry.auto.links ∙ ap length c.deref_mut.ensures.value)))
    (subst (λ (t : Tally). IsKept c.remove-entry.new.arena links c.remove-entry.new.root (s.count - 1) (s.room + 1) t) (sym tally) done)

pub returns-in_err-find-clause-rest : goal.returns-in_err-find-clause-rest
returns-in_err-find-clause-rest c =
    let v = c.args.self.now in
    let absent = sym c.find.ensures.value ∙ c.in_err-find.was in
    let entries = sym (without_absent c.args.digest.now v.entries absent) in
    let spare : v.spare ≡ v.spare + (if is_some c.from_residual.result then 1 else 0) = sym (add-zero v.spare)
    ∙ ap (λ (o : Option Entry). v.spare + (if is_some o then 1 else 0)) (sym c.from_residual.ensures) in
    λ i. record { entries = entries i; spare = spare i }
