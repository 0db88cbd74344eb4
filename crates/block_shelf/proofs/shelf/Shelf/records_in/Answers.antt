use Rattle.std.proofs.Common.{arith, rules, ◌≡◌, ◌≢◌, ◌+◌, ◌*◌, ◌-◌, ℕ, List, length, ◌∙◌, ap, subst}
use Rattle.std.specs.Prelude.{MatchResult}
use Rattle.std.specs.List.{AllByRecursion}
use Rattle.std.proofs.lemmas.Result.{MatchResult-weaker}
use Rattle.law_lists.proofs.Answers.{only_err}
use Rattle.rec_format.specs.Versions.{block_capacity}
use Rattle.block_format.specs.declared.geometry.Gate.{Gate}
use Rattle.block_format.specs.declared.geometry.Gate.TheVariants.{Shut}
use Rattle.block_format.specs.Layout.{IsBody}
use Rattle.write_buffer.specs.Buffers.{BufferState, bytes_of, body_in}
use Rattle.write_buffer.proofs.Sizes.{sized, body_size}
use Rattle.block_shelf.specs.View.{gate_at}
use Rattle.block_shelf.specs.Scans.{ReadsBody, IsRefusalOf, IsSound}
use Rattle.block_shelf.proofs.ScanBlocks.{no_damage, refusal_damage, buffer_found}
use Rattle.block_shelf.proofs.Scanning.{reads_memory, reads_unclosed, reads_shut, reads_disk}
use Rattle.block_shelf.proofs.shelf.Shelf.records_in.Goals as goal

pub found_in-requires-clause-size : goal.found_in-requires-clause-size
found_in-requires-clause-size g c =
    let s = sized c.args.self.now.geometry.block_size c.buffer_of.ensures.whole.geometry.block_size in
    omega (arith, s.low, s.high, c.body.ensures.size, c.in-Some.ensures.capacity.0, body_size c.args.self.now.geometry.block_size c.buffer_of.ensures.whole.geometry.block_size)

pub returns-in-Some : goal.returns-in-Some
returns-in-Some g c =
    let shelf = c.args.self.now in
    let is = c.buffer_of.ensures.whole in
    let b : BufferState = c.in-Some.buffer.now in
    let bytes : List ℕ = bytes_of b in
    let long : length c.body.result.now ≡ shelf.geometry.block_size - 4096 = c.body.ensures.size ∙ ap (λ (n : ℕ). 32 + 16 * n) c.in-Some.ensures.capacity.0
    ∙ body_size shelf.geometry.block_size is.geometry.block_size in
    let is_body : IsBody (block_capacity shelf.geometry.block_size) bytes (body_in b) =
    subst (λ (l : List ℕ). IsBody (block_capacity shelf.geometry.block_size) l (body_in b)) c.body.ensures.bytes
    (subst (λ (n : ℕ). IsBody n c.body.result.now (body_in b)) c.in-Some.ensures.capacity.0 c.body.ensures.body) in
    reads_memory g.D.Disk.view g.met.D.Disk.is_disk c.args.block shelf _ c.found_in.result c.found_in.ensures.quiet
    (λ setup s honest stands safe. MatchResult-weaker c.found_in.result
    (subst (λ (t : List ℕ). MatchResult c.found_in.result (λ found. ReadsBody shelf.geometry t c.args.block found.items) (IsRefusalOf shelf.geometry t c.args.block)) c.body.ensures.bytes
    (c.found_in.ensures.read shelf.geometry long))
    (λ found reads. buffer_found g.D.Disk.view setup shelf s is stands honest safe c.args.block b c.in-Some.ensures.some.0 c.in-Some.ensures.some.1 c.found_in.ensures.one_body
    is_body found.items reads)
    (λ refusal is_refusal. no_damage shelf.geometry bytes c.args.block refusal (body_in b, is_body, c.in-Some.ensures.some.1)
    (refusal_damage shelf.geometry bytes c.args.block refusal is_refusal)))
    (only_err (λ found. ReadsBody shelf.geometry bytes c.args.block found.items) (IsRefusalOf shelf.geometry bytes c.args.block) IsSound c.found_in.result
    (λ refusal is_refusal. no_damage shelf.geometry bytes c.args.block refusal (body_in b, is_body, c.in-Some.ensures.some.1)
    (refusal_damage shelf.geometry bytes c.args.block refusal is_refusal))
    (subst (λ (t : List ℕ). MatchResult c.found_in.result (λ found. ReadsBody shelf.geometry t c.args.block found.items) (IsRefusalOf shelf.geometry t c.args.block)) c.body.ensures.bytes
    (c.found_in.ensures.read shelf.geometry long)))
    b c.in-Some.ensures.some.0 c.in-Some.ensures.some.1

pub returns-in_default-close_unsure : goal.returns-in_default-close_unsure
returns-in_default-close_unsure g c =
    let none : AllByRecursion (λ b. b.block ≢ c.args.block) c.args.self.now.buffers = search rules in
    reads_unclosed g.D.Disk.view g.met.D.Disk.is_disk c.args.block c.args.self.now _ c.requires.block none c.close_unsure.new.self _ c.in_default-close_unsure.ensures

pub returns-then-eq : goal.returns-then-eq
returns-then-eq g c =
    let none : AllByRecursion (λ b. b.block ≢ c.args.block) c.args.self.now.buffers = search rules in
    let shut : gate_at c.close_unsure.new.self.gates c.args.block ≡ Shut = grind (arith, c.if-eq.true, c.eq.ensures, c.gate.ensures) in
    reads_shut g.D.Disk.view g.met.D.Disk.is_disk c.args.block c.args.self.now _ c.requires.block none c.close_unsure.new.self _ c.in-Ok.ensures shut c.new.result c.new.ensures.items

pub returns : goal.returns
returns g c =
    let none : AllByRecursion (λ b. b.block ≢ c.args.block) c.args.self.now.buffers = search rules in
    let unshut : gate_at c.close_unsure.new.self.gates c.args.block ≢ Shut = subst (λ (x : Gate). x ≢ Shut) c.gate.ensures (grind (arith, c.if-eq.false, c.eq.ensures)) in
    let e = c.read_block.ensures in
    reads_disk g.D.Disk.view g.met.D.Disk.is_disk c.args.block c.args.self.now _ c.requires.block none c.close_unsure.new.self _ c.in-Ok.ensures unshut c.read_block.new.self
    c.read_block.result e.read e.of_block e.cause e.disk e.whole e.same
