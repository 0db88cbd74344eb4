use Rattle.std.proofs.Common.{sym, subst, arith}
use Rattle.model_device.specs.Book.{defrag}
use Rattle.model_device.specs.Legal.{move_reserve, no_place}
use Rattle.defrag_pass.specs.Moves.{IsShelfLeft, IsUnread, IsUnreadOf, IsUndamaged}
use Rattle.defrag_pass.proofs.Asking.{unread_for, undamaged_for}
use Rattle.defrag_pass.proofs.Telling.{told_of, told_asked, sound_asked, sound_read, left_asked, left_read}
use Rattle.defrag_pass.proofs.moving.read_for.Goals as goal

pub returns-in-Err-clause-asked : goal.returns-in-Err-clause-asked
returns-in-Err-clause-asked g c setup s is stands =
    subst (IsUnread (no_place setup defrag move_reserve c.args.entry.now.units s.book)) (sym c.append_refusal.ensures)
    (unread_for setup c.args.entry.now.units s.book (omega (arith, is.shape.capacity, c.requires.within, c.requires.units.0)) c.in-Err.refusal
    (c.in-Err.ensures.causes setup s is stands) c.in-Err.ensures.unfailed)

pub returns-in-Err-read-clause-written : goal.returns-in-Err-read-clause-written
returns-in-Err-read-clause-written g c honest setup s v stands placed live entry names =
    subst IsUndamaged (sym c.read_refusal.ensures) (undamaged_for c.in-Err-read.refusal (c.in-Err-read.ensures.written honest setup s v stands placed live entry names))

pub returns-in-Ok-read-clause-kept : goal.returns-in-Ok-read-clause-kept
returns-in-Ok-read-clause-kept g c setup s v b stands live entry names has at = (c.read-read.ensures.in_memory setup s v b stands live entry names has at).0

pub returns-in-Err-read-clause-kept : goal.returns-in-Err-read-clause-kept
returns-in-Err-read-clause-kept g c setup s v b stands live entry names has at = (c.read-read.ensures.in_memory setup s v b stands live entry names has at).0

-- ---- what is told, and what is left

pub returns-in-Err-clause-told : goal.returns-in-Err-clause-told
returns-in-Err-clause-told g c =
    subst (IsUnreadOf g.D.Disk.view c.args.entry.now c.args.place c.args.shelf.now) (sym c.append_refusal.ensures)
    (told_asked g.D.Disk.view c.args.entry.now c.args.place c.args.shelf.now c.in-Err.refusal)

pub returns-in-Err-clause-sound : goal.returns-in-Err-clause-sound
returns-in-Err-clause-sound g c setup s v b stands live entry names has at = subst IsUndamaged (sym c.append_refusal.ensures) (sound_asked c.in-Err.refusal)

pub returns-in-Err-clause-left : goal.returns-in-Err-clause-left
returns-in-Err-clause-left g c =
    subst (IsShelfLeft g.D.Disk.view c.args.shelf.now c.args.shelf.now) (sym c.append_refusal.ensures)
    (left_asked g.D.Disk.view c.args.shelf.now c.in-Err.refusal c.in-Err.ensures.unfailed)

pub returns-in-Err-read-clause-told : goal.returns-in-Err-read-clause-told
returns-in-Err-read-clause-told g c =
    subst (IsUnreadOf g.D.Disk.view c.args.entry.now c.args.place c.args.shelf.now) (sym c.read_refusal.ensures)
    (told_of g.D.Disk.view c.args.entry.now c.args.place c.args.shelf.now c.in-Err-read.refusal c.in-Err-read.ensures.told (λ tells none. c.in-Err-read.ensures.read tells none))

pub returns-in-Err-read-clause-sound : goal.returns-in-Err-read-clause-sound
returns-in-Err-read-clause-sound g c setup s v b stands live entry names has at =
    subst IsUndamaged (sym c.read_refusal.ensures) (sound_read c.in-Err-read.refusal (c.in-Err-read.ensures.in_memory setup s v b stands live entry names has at).1)

pub returns-in-Err-read-clause-left : goal.returns-in-Err-read-clause-left
returns-in-Err-read-clause-left g c =
    subst (IsShelfLeft g.D.Disk.view c.args.shelf.now c.read-read.new.self) (sym c.read_refusal.ensures)
    (left_read g.D.Disk.view c.args.shelf.now c.read-read.new.self c.read-read.ensures.same c.read-read.ensures.disk c.in-Err-read.refusal)

pub returns-in-Ok-read-clause-read : goal.returns-in-Ok-read-clause-read
returns-in-Ok-read-clause-read g c tells none = c.in-Ok-read.ensures.read tells none

pub returns-in-Ok-read-clause-copied : goal.returns-in-Ok-read-clause-copied
returns-in-Ok-read-clause-copied g c b v has at stands names = c.in-Ok-read.ensures.copied b v has at stands names
