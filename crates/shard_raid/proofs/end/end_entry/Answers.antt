use Rattle.std.proofs.Common.{◌≡◌, ℕ, max, cond, sym, ◌∙◌, ap, subst}
use Rattle.std.specs.Prelude.{List, [], ◌∷◌}
use Rattle.std.proofs.lemmas.Bool.{cond-true, cond-false}
use Rattle.std.proofs.Math.Nat.{max-eq_left}
use Rattle.rec_format.specs.Versions.{is_tomb_kind}
use Rattle.rec_format.specs.declared.entry.Entry.{Entry}
use Rattle.model_device.specs.Steps.{Step, rid_of, uncovered}
use Rattle.sprig_tree.specs.Entries.{with_replaced, without_digest}
use Rattle.sprig_tree.specs.State.{SprigState}
use Rattle.law_sprig.specs.Becoming.{without_cover}
use Rattle.law_sprig.specs.Tests.{is_tombstone_entry}
use Rattle.shard_raid.specs.Marks.{is_marked_by}
use Rattle.shard_raid.specs.Ends.{GoTogether}
use Rattle.shard_raid.proofs.OneEnd.{none_older_than, go_nowhere, go_uncovered}
use Rattle.shard_raid.proofs.end.end_entry.Goals as goal

is_put : (old new : SprigState) (x e : Entry) → new ≡ record old { entries = with_replaced x old.entries; hw = max old.hw x.stamp.lut } → x ≡ without_cover e
    → new ≡ record old { entries = with_replaced (without_cover e) old.entries; hw = max old.hw e.stamp.lut }
is_put old new x e put made = put ∙ ap (λ (y : Entry). record old { entries = with_replaced y old.entries; hw = max old.hw y.stamp.lut }) made

pub returns-then-not-is_marked_by-clause-goes : goal.returns-then-not-is_marked_by-clause-goes
returns-then-not-is_marked_by-clause-goes g c setup s part stand =
    let e : Entry = c.args.entry.now in
    let step : Step = cond (is_tombstone_entry e) (rid_of e.digest) (uncovered e.digest) in
    subst (λ (steps : List Step). GoTogether g.D.Disk.view setup part steps c.args.shelf.now s c.args.sprig.now c.args.shelf.now)
    (sym (cond-false (is_marked_by c.args.number e) (step ∷ []) [] (sym c.is_marked_by.ensures ∙ c.if-not-is_marked_by.true)))
    (go_nowhere setup part c.args.sprig.now c.args.shelf.now s stand g.D.Disk.view (g.met.D.Disk.is_disk c.args.shelf.now.disk))

pub returns-in-Tomb-clause-goes : goal.returns-in-Tomb-clause-goes
returns-in-Tomb-clause-goes g c setup s part stand =
    let e : Entry = c.args.entry.now in
    let step : Step = cond (is_tombstone_entry e) (rid_of e.digest) (uncovered e.digest) in
    let marked = sym c.is_marked_by.ensures ∙ c.if-not-is_marked_by.false in
    subst (λ (steps : List Step). GoTogether g.D.Disk.view setup part steps c.args.shelf.now s c.remove_entry.new.sprig c.remove_entry.new.shelf)
    (sym (cond-true (is_marked_by c.args.number e) (step ∷ []) [] marked
    ∙ ap (λ (x : Step). x ∷ []) (cond-true (is_tombstone_entry e) (rid_of e.digest) (uncovered e.digest) (ap is_tomb_kind c.in-Tomb.is))))
    (c.remove_entry.ensures.goes setup s part stand
    (λ honest safe. none_older_than setup part c.args.sprig.now c.args.shelf.now s stand g.D.Disk.view e.digest e c.requires.found
    (ap (λ (n : ℕ). is_marked_by n e) (sym c.requires.number) ∙ marked) safe))

pub returns-in-Put-clause-goes : goal.returns-in-Put-clause-goes
returns-in-Put-clause-goes g c setup s part stand =
    let e : Entry = c.args.entry.now in
    let step : Step = cond (is_tombstone_entry e) (rid_of e.digest) (uncovered e.digest) in
    let marked = sym c.is_marked_by.ensures ∙ c.if-not-is_marked_by.false in
    subst (λ (steps : List Step). GoTogether g.D.Disk.view setup part steps c.args.shelf.now s c.replace.new.self c.args.shelf.now)
    (sym (cond-true (is_marked_by c.args.number e) (step ∷ []) [] marked
    ∙ ap (λ (x : Step). x ∷ []) (cond-false (is_tombstone_entry e) (rid_of e.digest) (uncovered e.digest) (ap is_tomb_kind c.in-Put.is))))
    (go_uncovered setup part c.args.sprig.now c.args.shelf.now s stand e c.requires.found g.D.Disk.view (g.met.D.Disk.is_disk c.args.shelf.now.disk)
    (ap (λ (n : ℕ). is_marked_by n e) (sym c.requires.number) ∙ marked)
    c.replace.new.self (is_put c.args.sprig.now c.replace.new.self c.without_cover.result e c.replace.ensures c.without_cover.ensures))

pub returns-in-Put-clause-sprig : goal.returns-in-Put-clause-sprig
returns-in-Put-clause-sprig g c =
    let e : Entry = c.args.entry.now in
    let es = c.args.sprig.now.entries in
    let marked = sym c.is_marked_by.ensures ∙ c.if-not-is_marked_by.false in
    let put = is_put c.args.sprig.now c.replace.new.self c.without_cover.result e c.replace.ensures c.without_cover.ensures in
    record {
      entries = ap (λ (v : SprigState). v.entries) put
          ∙ sym (cond-true (is_marked_by c.args.number e) (cond (is_tombstone_entry e) (without_digest e.digest es) (with_replaced (without_cover e) es)) es marked
          ∙ cond-false (is_tombstone_entry e) (without_digest e.digest es) (with_replaced (without_cover e) es) (ap is_tomb_kind c.in-Put.is));
      high = λ below. ap (λ (v : SprigState). v.hw) put ∙ max-eq_left below;
    }
