use Rattle.std.proofs.Common.{ℕ, List, ◌∙◌, sym, subst}
use Rattle.std.specs.List.{range_with_len}
use Rattle.block_format.specs.declared.geometry.Gate.{Gate}
use Rattle.block_format.specs.Copies.{HasBodies}
use Rattle.block_format.specs.Refusals.{IsAsked}
use Rattle.cold_scan.specs.Found.{AreGates, IsTaken}
use Rattle.cold_scan.proofs.Reading.{read_synced, reads_on, only_synced}
use Rattle.cold_scan.proofs.device.examine.Goals as goal

pub returns-in-Ok-open_bodies-clause-found : goal.returns-in-Ok-open_bodies-clause-found
returns-in-Ok-open_bodies-clause-found g c =
    let found = c.in-Ok-open_bodies.ensures.found in
    let shape = c.in-Ok-shape_of.geometry in
    let gates = c.in-Ok-read_gates.gates in
    record {
      count = c.in-Ok-read_gates.ensures.all;
      sure = c.in-Ok-read_gates.ensures.sure;
      bodies = found.0;
      is_taken = subst (λ (l : List Gate). IsTaken shape l shape.blocks found.0 c.in-Ok-open_bodies.taken) c.deref.ensures.value found.1;
      are_gates = λ told.
          let synced = c.sync.ensures.bytes told in
          let shaped = c.shape_of.ensures.read.bytes synced.0 in
          subst (λ (l : List ℕ). AreGates shape l gates.items) (shaped.1 ∙ synced.1) (c.in-Ok-read_gates.ensures.gates shaped.0);
      passes = λ told.
          let synced = c.sync.ensures.bytes told in
          let shaped = c.shape_of.ensures.read.bytes synced.0 in
          let gated = c.read_gates.ensures.read.bytes shaped.0 in
          record {
            is_asked = subst (λ (l : List ℕ). IsAsked c.args.asked.device c.args.asked.devices l shape) synced.1 (c.in-Ok-shape_of.ensures.bytes synced.0);
            blocks = subst (λ (l : List ℕ). HasBodies shape l (range_with_len 0 shape.blocks) found.0) (gated.1 ∙ shaped.1 ∙ synced.1)
                (found.2 gated.0 (subst (λ (l : List ℕ). AreGates shape l c.deref.result.now) (sym gated.1)
                (subst (AreGates shape (g.D.Disk.view c.shape_of.new.disk).seen) (sym c.deref.ensures.value) (c.in-Ok-read_gates.ensures.gates shaped.0))));
          };
    }

pub returns-in-Ok-open_bodies-clause-only : goal.returns-in-Ok-open_bodies-clause-only
returns-in-Ok-open_bodies-clause-only g c = λ told.
    only_synced (g.D.Disk.view c.args.disk.now) (g.D.Disk.view c.sync.new.self) (g.D.Disk.view c.shape_of.new.disk) (g.D.Disk.view c.open_bodies.new.disk)
    (g.met.D.Disk.is_disk c.shape_of.new.disk) (g.met.D.Disk.is_disk c.open_bodies.new.disk) c.sync.ensures.bytes told (c.in-Ok.ensures.durable told) c.shape_of.ensures.read
    (reads_on _ _ (g.D.Disk.view c.open_bodies.new.disk) (g.met.D.Disk.is_disk c.read_gates.new.disk) c.read_gates.ensures.read c.open_bodies.ensures.read)

pub returns-in-Err-open_bodies-clause-read : goal.returns-in-Err-open_bodies-clause-read
returns-in-Err-open_bodies-clause-read g c =
    reads_on (g.D.Disk.view c.args.disk.now) _ (g.D.Disk.view c.open_bodies.new.disk) (g.met.D.Disk.is_disk c.read_gates.new.disk)
    (reads_on _ _ (g.D.Disk.view c.read_gates.new.disk) (g.met.D.Disk.is_disk c.shape_of.new.disk)
    (reads_on _ _ (g.D.Disk.view c.shape_of.new.disk) (g.met.D.Disk.is_disk c.sync.new.self)
    (read_synced (g.D.Disk.view c.args.disk.now) (g.D.Disk.view c.sync.new.self) c.sync.result c.sync.ensures.bytes c.sync.ensures.images c.sync.ensures.call) c.shape_of.ensures.read)
    c.read_gates.ensures.read) c.open_bodies.ensures.read

pub returns-in-Ok-open_bodies-clause-read : goal.returns-in-Ok-open_bodies-clause-read
returns-in-Ok-open_bodies-clause-read g c =
    reads_on (g.D.Disk.view c.args.disk.now) _ (g.D.Disk.view c.open_bodies.new.disk) (g.met.D.Disk.is_disk c.read_gates.new.disk)
    (reads_on _ _ (g.D.Disk.view c.read_gates.new.disk) (g.met.D.Disk.is_disk c.shape_of.new.disk)
    (reads_on _ _ (g.D.Disk.view c.shape_of.new.disk) (g.met.D.Disk.is_disk c.sync.new.self)
    (read_synced (g.D.Disk.view c.args.disk.now) (g.D.Disk.view c.sync.new.self) c.sync.result c.sync.ensures.bytes c.sync.ensures.images c.sync.ensures.call) c.shape_of.ensures.read)
    c.read_gates.ensures.read) c.open_bodies.ensures.read

pub returns-in-Err-read_gates-clause-read : goal.returns-in-Err-read_gates-clause-read
returns-in-Err-read_gates-clause-read g c =
    reads_on (g.D.Disk.view c.args.disk.now) _ (g.D.Disk.view c.read_gates.new.disk) (g.met.D.Disk.is_disk c.shape_of.new.disk)
    (reads_on _ _ (g.D.Disk.view c.shape_of.new.disk) (g.met.D.Disk.is_disk c.sync.new.self)
    (read_synced (g.D.Disk.view c.args.disk.now) (g.D.Disk.view c.sync.new.self) c.sync.result c.sync.ensures.bytes c.sync.ensures.images c.sync.ensures.call) c.shape_of.ensures.read)
    c.read_gates.ensures.read

pub returns-in-Err-clause-read : goal.returns-in-Err-clause-read
returns-in-Err-clause-read g c =
    reads_on (g.D.Disk.view c.args.disk.now) _ (g.D.Disk.view c.shape_of.new.disk) (g.met.D.Disk.is_disk c.sync.new.self)
    (read_synced (g.D.Disk.view c.args.disk.now) (g.D.Disk.view c.sync.new.self) c.sync.result c.sync.ensures.bytes c.sync.ensures.images c.sync.ensures.call) c.shape_of.ensures.read

pub returns-in_default-clause-read : goal.returns-in_default-clause-read
returns-in_default-clause-read g c = read_synced (g.D.Disk.view c.args.disk.now) (g.D.Disk.view c.sync.new.self) c.sync.result c.sync.ensures.bytes c.sync.ensures.images c.sync.ensures.call
