use Rattle.std.proofs.Common.{arith, ◌≡◌, ℕ, [], ◌∷◌, sym, ◌∙◌, ap, subst}
use Rattle.model_device.specs.Steps.{raid_given_up}
use Rattle.law_facts.specs.Facts.{SamePossible}
use Rattle.raid_book.specs.Books.{given_up}
use Rattle.disk_model.specs.Disk.{IsHonest}
use Rattle.block_format.specs.Layout.{body_bytes}
use Rattle.block_shelf.specs.Disks.{IsLater}
use Rattle.block_shelf.specs.View.{ShelfView}
use Rattle.block_shelf.specs.Calls.{Goes}
use Rattle.block_shelf.specs.Scans.{ClosesAtMost, FindsBody, NeedsRead, IsDamageOf, IsRefusalOf, IsToldOf, possible_copies}
use Rattle.block_shelf.proofs.Going.{goes_then}
use Rattle.block_shelf.proofs.RaidTurns.{goes_given_up}
use Rattle.block_shelf.proofs.Unsure.{sure_at, same_possible}
use Rattle.block_shelf.proofs.shelf.Shelf.scan_step.Goals as goal

pub returns-in-Err-clause-scanned : goal.returns-in-Err-clause-scanned
returns-in-Err-clause-scanned g c setup s is stands books =
    let old = c.args.self.now in
    let mid = c.scan_block.new.self in
    let went : Goes g.D.Disk.view setup [] old s mid = c.in-Err.ensures.scanned setup s is stands books in
    subst (Goes g.D.Disk.view setup (raid_given_up ∷ []) old s) (sym c.give_up.ensures)
    (goes_then g.D.Disk.view setup [] (raid_given_up ∷ []) old mid (record mid { raid = given_up mid.raid }) s c.scan_block.ensures.honest went
    (goes_given_up g.D.Disk.view setup mid s (g.met.D.Disk.is_disk mid.disk) went.stands))

pub returns-in-Ok-clause-waiting : goal.returns-in-Ok-clause-waiting
returns-in-Ok-clause-waiting g c block b turn there at =
    let same : block ≡ c.in-Scan.block = grind (arith, turn, c.in-Scan.ensures.value) in
    c.scan_block.ensures.waiting b there (at ∙ same)

pub returns-in-Err-clause-waiting : goal.returns-in-Err-clause-waiting
returns-in-Err-clause-waiting g c block b turn there at =
    let same : block ≡ c.in-Scan.block = grind (arith, turn, c.in-Scan.ensures.value) in
    ap (λ (v : ShelfView g.row.D.Denot). v.disk) c.give_up.ensures ∙ c.scan_block.ensures.waiting b there (at ∙ same)

pub returns-in-Ok-clause-alike : goal.returns-in-Ok-clause-alike
returns-in-Ok-clause-alike g c setup s sure honest stands safe =
    let e = c.scan_block.ensures in
    let at = sure_at c.args.self.now.gates c.in-Scan.block sure in
    same_possible g.D.Disk.view setup c.args.self.now c.scan_block.new.self s sure safe (e.honest honest) (e.fewer at honest) e.rest (e.sure at)

pub returns-in-Err-clause-alike : goal.returns-in-Err-clause-alike
returns-in-Err-clause-alike g c setup s sure honest stands safe =
    let view = g.D.Disk.view in
    let old = c.args.self.now in
    let e = c.scan_block.ensures in
    let at = sure_at old.gates c.in-Scan.block sure in
    subst (λ (v : ShelfView g.row.D.Denot). SamePossible (possible_copies view old s) (possible_copies view v s)) (sym c.give_up.ensures)
    (same_possible view setup old c.scan_block.new.self s sure safe (e.honest honest) (e.fewer at honest) e.rest (e.sure at))

-- ---- what stays, and what is told

pub returns-in-Ok-clause-turned : goal.returns-in-Ok-clause-turned
returns-in-Ok-clause-turned g c =
    c.in-Ok.ensures.turned

pub returns-in-Ok-clause-given_up : goal.returns-in-Ok-clause-given_up
returns-in-Ok-clause-given_up g c =
    tt

pub returns-in-Ok-clause-sure : goal.returns-in-Ok-clause-sure
returns-in-Ok-clause-sure g c sure =
    c.scan_block.ensures.sure (sure_at c.args.self.now.gates c.in-Scan.block sure)

pub returns-in-Ok-clause-rest : goal.returns-in-Ok-clause-rest
returns-in-Ok-clause-rest g c =
    c.scan_block.ensures.rest

pub returns-in-Ok-clause-later : goal.returns-in-Ok-clause-later
returns-in-Ok-clause-later g c =
    c.scan_block.ensures.later

pub returns-in-Ok-clause-honest : goal.returns-in-Ok-clause-honest
returns-in-Ok-clause-honest g c =
    c.scan_block.ensures.honest

pub returns-in-Err-clause-turned : goal.returns-in-Err-clause-turned
returns-in-Err-clause-turned g c =
    tt

pub returns-in-Err-clause-given_up : goal.returns-in-Err-clause-given_up
returns-in-Err-clause-given_up g c =
    ap (λ (v : ShelfView g.row.D.Denot). v.raid) c.give_up.ensures ∙ ap given_up c.in-Err.ensures.same

pub returns-in-Err-clause-sure : goal.returns-in-Err-clause-sure
returns-in-Err-clause-sure g c sure =
    ap (λ (v : ShelfView g.row.D.Denot). v.gates) c.give_up.ensures ∙ c.scan_block.ensures.sure (sure_at c.args.self.now.gates c.in-Scan.block sure)

pub returns-in-Err-clause-sound : goal.returns-in-Err-clause-sound
returns-in-Err-clause-sound g c setup s honest stands safe =
    c.in-Err.ensures.sound setup s honest stands safe

pub returns-in-Err-clause-later : goal.returns-in-Err-clause-later
returns-in-Err-clause-later g c =
    subst (λ (disk : g.row.D.Denot). IsLater (g.D.Disk.view c.args.self.now.disk) (g.D.Disk.view disk))
    (sym (ap (λ (v : ShelfView g.row.D.Denot). v.disk) c.give_up.ensures)) c.scan_block.ensures.later

pub returns-in-Err-clause-honest : goal.returns-in-Err-clause-honest
returns-in-Err-clause-honest g c =
    subst (λ (disk : g.row.D.Denot). IsHonest (g.D.Disk.view c.args.self.now.disk) → IsHonest (g.D.Disk.view disk))
    (sym (ap (λ (v : ShelfView g.row.D.Denot). v.disk) c.give_up.ensures)) c.scan_block.ensures.honest

pub returns-in-Err-clause-told : goal.returns-in-Err-clause-told
returns-in-Err-clause-told g c block turn =
    let same : block ≡ c.in-Scan.block = grind (arith, turn, c.in-Scan.ensures.value) in
    subst (λ (k : ℕ). IsToldOf c.args.self.now k c.in-Err.refusal) (sym same) c.in-Err.ensures.told

pub returns-in-Ok-clause-there : goal.returns-in-Ok-clause-there
returns-in-Ok-clause-there g c told block turn =
    let old = c.args.self.now in
    let same : block ≡ c.in-Scan.block = grind (arith, turn, c.in-Scan.ensures.value) in
    subst (λ (k : ℕ). NeedsRead old k → FindsBody old.geometry old.limits.sprigs (body_bytes old.geometry k (g.D.Disk.view old.disk).seen) k c.scan_block.new.self.raid) (sym same)
    (c.in-Ok.ensures.there told)

pub returns-in-Err-clause-there : goal.returns-in-Err-clause-there
returns-in-Err-clause-there g c told block turn =
    let old = c.args.self.now in
    let same : block ≡ c.in-Scan.block = grind (arith, turn, c.in-Scan.ensures.value) in
    subst (λ (k : ℕ). NeedsRead old k → IsRefusalOf old.geometry (body_bytes old.geometry k (g.D.Disk.view old.disk).seen) k c.in-Err.refusal) (sym same) (c.in-Err.ensures.there told)

pub returns-in-Err-clause-damaged : goal.returns-in-Err-clause-damaged
returns-in-Err-clause-damaged g c told block turn =
    let old = c.args.self.now in
    let same : block ≡ c.in-Scan.block = grind (arith, turn, c.in-Scan.ensures.value) in
    subst (λ (k : ℕ). IsDamageOf old.geometry (body_bytes old.geometry k (g.D.Disk.view old.disk).seen) k c.in-Err.refusal) (sym same) (c.in-Err.ensures.damaged told)

pub returns-in-Ok-clause-gates : goal.returns-in-Ok-clause-gates
returns-in-Ok-clause-gates g c block turn =
    let same : block ≡ c.in-Scan.block = grind (arith, turn, c.in-Scan.ensures.value) in
    subst (λ (k : ℕ). ClosesAtMost k c.args.self.now c.scan_block.new.self) (sym same) c.scan_block.ensures.gates

pub returns-in-Err-clause-gates : goal.returns-in-Err-clause-gates
returns-in-Err-clause-gates g c block turn =
    let same : block ≡ c.in-Scan.block = grind (arith, turn, c.in-Scan.ensures.value) in
    subst (λ (v : ShelfView g.row.D.Denot). ClosesAtMost block c.args.self.now v) (sym c.give_up.ensures)
    (subst (λ (k : ℕ). ClosesAtMost k c.args.self.now c.scan_block.new.self) (sym same) c.scan_block.ensures.gates)
