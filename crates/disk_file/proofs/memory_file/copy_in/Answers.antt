use Rattle.std.proofs.Common.{ℕ, ◌≤◌, Ok, refl, arith}
use Rattle.std.proofs.lemmas.List.{length-take-le}
use Rattle.disk_file.specs.declared.memory_file.Turn.{Turn}
use Rattle.disk_file.specs.declared.memory_file.Turn.TheVariants.{Most, Interrupted, Failed}
use Rattle.disk_file.specs.Memory.{Moves}
use Rattle.disk_file.proofs.Copied.{copied}
use Rattle.disk_file.proofs.memory_file.copy_in.Goals as goal

-- no more is moved than there is
bounded : (turn : Turn) (there n : ℕ) → Moves turn there (Ok n) → n ≤ there
bounded (Most most) there n is = omega arith
bounded Interrupted there n is = absurd is
bounded Failed there n is = absurd is

pub returns-clause-leaves : goal.returns-clause-leaves
returns-clause-leaves c within =
    let count = bounded c.args.turn c.min.result c.in_ok-count.count c.in_ok-count.ensures in (
      _,
      refl,
      copied c.args.place c.min-start.result _ c.args.held.now _ c.copy_from_slice.new.self c.min-start.ensures
          (omega (arith, length-take-le c.in_ok-count.count c.args.bytes.now (omega (arith, count, c.min.ensures)))) c.copy_from_slice.ensures.after within,
    )
