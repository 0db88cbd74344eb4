use Rattle.std.proofs.Common.{◌≡◌, ℕ, List, [], ◌++◌, sym, arith}
use Rattle.std.specs.List.{flat_map}
use Rattle.line_proto.specs.Stream.{ended}
use Rattle.node_gen.specs.declared.cursor.Cursor.{Cursor}
use Rattle.node_gen.specs.declared.step.Step.TheVariants.{Put}
use Rattle.node_gen.specs.Script.{script_text}
use Rattle.node_gen.specs.Places.{lines_from}
use Rattle.node_gen.proofs.Steps.{lines_are_script}
use Rattle.node_gen.proofs.Places.{taken_is, is_place}
use Rattle.node_gen.proofs.script.Script.new.Goals as goal

all_left : (n : ℕ) (line : List ℕ) → line ≡ [] → line ++ flat_map ended (lines_from Put 0 n) ≡ script_text n
all_left n line none = λ i. none i ++ flat_map ended (lines_are_script n i)

pub invariant_of-result : goal.invariant_of-result
invariant_of-result c = is_place (record { count = c.args.count; step = Put; next = 0; line = c.new.result; at = 0 }) [] (omega arith) (sym (all_left c.args.count c.new.result.bytes c.new.ensures))

pub returns : goal.returns
returns c =
    let left = all_left c.args.count c.new.result.bytes c.new.ensures in
    let cursor : Cursor = record { count = c.args.count; step = Put; next = 0; line = c.new.result; at = 0 } in
    λ i. record { taken = taken_is cursor [] (sym left) i; left = left i }
