use Rattle.std.proofs.Common.{arith, sym, subst, ◌∙◌, List, ℕ, Ok, Option, None, Some}
use Rattle.std.specs.Prelude.{IfSome}
use Rattle.rec_format.specs.declared.entry.Entry.{Entry}
use Rattle.write_buffer.specs.Buffers.{BufferState}
use Rattle.block_shelf.specs.View.{ShelfView}
use Rattle.block_shelf.specs.Reads.{HasRead}
use Rattle.block_shelf.specs.Standing.{IsCopyIn, HasRecord}
use Rattle.block_shelf.proofs.CopyTexts.{copy_kept, head_there, lent_is, read_copy, read_exact}
use Rattle.block_shelf.proofs.shelf.Shelf.look.Goals as goal

-- what follows from two things that hold of a value, where there is one
if_both : {X : Type 0} {P Q R : X → Type 0} (o : Option X) → IfSome o P → IfSome o Q → ((x : X) → P x → Q x → R x) → IfSome o R
if_both None p q both = tt
if_both (Some x) p q both = both x p q

pub copy_in-requires : goal.copy_in-requires
copy_in-requires g c = omega (arith, c.in_ok-buffer.ensures.capacity)

pub returns-clause-looked : goal.returns-clause-looked
returns-clause-looked g c = if_both c.lent_in.result c.lent_in.ensures.some c.lent_in.ensures.version
    (λ version read is_version.
    let e : Entry = c.args.entry.now in
    let shelf : ShelfView g.row.D.Denot = c.args.self.now in
    let buffer = c.in_ok-buffer.ensures in
    record {
      names = read.names;
      version = is_version;
      in_memory = λ setup s v b stands live is names has at.
          subst (λ (x : BufferState). IsCopyIn x.stream v version) (sym (buffer.only b has at))
          (read_copy c.args.place e c.in_ok-buffer.buffer.now c.copy_in.result.now (Ok version) c.requires.units.0 c.copy_in.ensures.record read
          setup shelf s v buffer.whole.cache.each stands live is names buffer.some.0 buffer.some.1 tt);
      read = λ told none.
          subst (λ (bytes : List ℕ). HasRead e bytes (Ok version))
          (c.copy_in.ensures.bytes ∙ copy_kept shelf.geometry (g.D.Disk.view shelf.disk).seen shelf c.args.place c.in_ok-buffer.buffer.now c.requires.within c.requires.units.1 none
          (buffer.whole.bodies told).flushed buffer.some.0 buffer.some.1) read;
      written = λ honest setup s v stands placed live is names.
          read_exact c.args.place e c.in_ok-buffer.buffer.now c.copy_in.result.now (Ok version) c.requires.units.0 c.copy_in.ensures.record read
          g.D.Disk.view shelf s v buffer.whole.cache.each placed live is names buffer.some.0 buffer.some.1;
    })

pub returns-clause-copied : goal.returns-clause-copied
returns-clause-copied g c = λ b v has at stands names.
    let here : HasRecord c.in_ok-buffer.buffer.now c.args.place.unit c.args.entry.now.digest v =
    subst (λ (x : BufferState). HasRecord x c.args.place.unit c.args.entry.now.digest v) (c.in_ok-buffer.ensures.only b has at) stands in
    lent_is c.args.entry.now v c.copy_in.result.now c.lent_in.result names
    (c.copy_in.ensures.record c.args.entry.now.digest v here (sym names.units ∙ c.requires.units.0)) c.lent_in.ensures.some c.lent_in.ensures.none

pub returns-clause-missed : goal.returns-clause-missed
returns-clause-missed g c setup s v b stands live is names has at missed =
    let buffer = c.in_ok-buffer.ensures in
    head_there c.args.place c.args.entry.now c.in_ok-buffer.buffer.now c.copy_in.result.now c.requires.units.0 c.copy_in.ensures.record setup c.args.self.now s v
    buffer.whole.cache.each stands live is names buffer.some.0 buffer.some.1 (c.lent_in.ensures.none missed)
