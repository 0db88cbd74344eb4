use Rattle.std.proofs.Common.{sym, ap, subst, ◌∙◌}
use Rattle.std.specs.BTreeMap.{BTreeMap, get}
use Rattle.std.proofs.lemmas.Result.{on_ok_weaker}
use Rattle.sound_scan.specs.declared.tally.Stamped.{Stamped}
use Rattle.sound_scan.specs.declared.tally.Past.{Past}
use Rattle.sound_scan.specs.declared.tally.Tally.{Tally}
use Rattle.sound_scan.specs.Tallied.{PutsPast, stamped_cmp}
use Rattle.sound_scan.proofs.Takes.{ok_both, take_known, take_new, known_again, known_first}
use Rattle.sound_scan.proofs.tally.Tally.take.Goals as goal

pub take_again-requires-clause-there : goal.take_again-requires-clause-there
take_again-requires-clause-there g c =
    c.requires.known c.name_of-name.result c.in-Some.past.now
    (ap (λ (m : BTreeMap Stamped Past). get stamped_cmp m c.name_of-name.result) (sym (ap (λ (t : Tally). t.past) c.note_stray.ensures)) ∙ sym ((c.in-Some.ensures {u = tt}).value))

pub returns-in-Some-clause-known : goal.returns-in-Some-clause-known
returns-in-Some-clause-known g c =
    on_ok_weaker c.take_again.result
    (λ puts. known_again c.args.geometry.now (g.D.Disk.view c.args.disk.now).seen c.args.block c.args.text.now c.args.found.now c.args.self.now c.note_stray.new.self c.take_again.new.self
    c.name_of-name.result c.note_stray.ensures c.name_of-name.ensures c.in-Some.past.now ((c.in-Some.ensures {u = tt}).value) c.requires.known puts) c.take_again.ensures.put

pub returns-in-Some-clause-taken : goal.returns-in-Some-clause-taken
returns-in-Some-clause-taken g c = λ told.
    ok_both c.take_again.result _ _ _
    (λ puts taken. take_known c.args.geometry.now (g.D.Disk.view c.args.disk.now).seen c.args.block c.args.text.now c.args.found.now c.args.self.now c.note_stray.new.self c.take_again.new.self
    c.name_of-name.result c.note_stray.ensures c.name_of-name.ensures c.in-Some.past.now ((c.in-Some.ensures {u = tt}).value) puts c.take_again.ensures.stray taken)
    c.take_again.ensures.put (c.take_again.ensures.taken told)

pub returns-clause-known : goal.returns-clause-known
returns-clause-known g c =
    on_ok_weaker c.put.result
    (λ puts. known_first c.args.geometry.now (g.D.Disk.view c.args.disk.now).seen c.args.block c.args.text.now c.args.found.now c.args.self.now c.note_stray.new.self c.put.new.self
    c.name_of-name.result c.note_stray.ensures c.name_of-name.ensures c.requires.known c.requires.there
    (subst (λ (k : Past). PutsPast c.name_of-name.result k c.note_stray.new.self.past c.put.new.self.past) c.past_of.ensures puts)) c.put.ensures.put

pub returns-clause-taken : goal.returns-clause-taken
returns-clause-taken g c = λ told.
    on_ok_weaker c.put.result
    (λ puts. take_new c.args.geometry.now (g.D.Disk.view c.args.disk.now).seen c.args.block c.args.text.now c.args.found.now c.args.self.now c.note_stray.new.self c.put.new.self
    c.name_of-name.result c.note_stray.ensures c.name_of-name.ensures ((c.in_default.ensures {u = tt}).value)
    (subst (λ (k : Past). PutsPast c.name_of-name.result k c.note_stray.new.self.past c.put.new.self.past) c.past_of.ensures puts) c.put.ensures.others.0 c.put.ensures.others.1)
    c.put.ensures.put
