use Rattle.std.proofs.Common.{◌≡◌, ℕ, ◌<◌, List, [], ◌∷◌, ◌++◌, length, ap, ◌∙◌, arith}
use Rattle.std.proofs.lemmas.List.{map-append}
use Rattle.std.proofs.lemmas.Bool.Decides.{nat_tests}
use Rattle.io_traits.specs.Memory.{logged_bytes}
use Rattle.node_gen.specs.Replies.{one_more_of, first_word}
use Rattle.node_gen.proofs.Counting.{counted_line, counted_kept, counted_full}
use Rattle.node_gen.proofs.counter.ReplyCounter.take.Goals as goal

-- the history with one byte more
longer : (past now : List (ℕ × Unit {0})) (byte : ℕ) → now ≡ past ++ (byte, tt) ∷ [] → logged_bytes now ≡ logged_bytes past ++ byte ∷ []
longer past now byte is = ap logged_bytes is ∙ map-append (λ (pair : ℕ × Unit {0}). pair.0) past ((byte, tt) ∷ [])

pub invariant_of-self : goal.invariant_of-self
invariant_of-self c =
    let here = c.self.inside in
    let past = logged_bytes here.written.items in
    let word = c.first_word_of.ensures ∙ ap first_word c.as_slice.ensures.value in
    let more = c.and-self-inside-then-byte-eq10.ensures ∙ ap (λ (l : List ℕ). one_more_of l here.counts) word in
    let now = longer here.written.items c.and-self-inside.result.items c.args.byte c.and-self-inside.ensures ∙ ap (λ byte. past ++ byte ∷ []) c.if-byte-eq10.true in
    rw now (counted_line past here.head.items c.clear.new.self.items here.counts c.and-self-inside-then-byte-eq10.result c.self.invariant c.clear.ensures more)

pub invariant_of-self-then-not-is_full : goal.invariant_of-self-then-not-is_full
invariant_of-self-then-not-is_full c =
    let here = c.self.inside in
    let past = logged_bytes here.written.items in
    let now = longer here.written.items c.and-self-inside.result.items c.args.byte c.and-self-inside.ensures in
    let room : length here.head.items < 5 = grind (arith, nat_tests) in
    rw now (counted_kept past here.head.items c.push.new.self.items here.counts c.args.byte c.self.invariant c.if-byte-eq10.false room c.push.ensures.items)

pub invariant_of-self-else-not-is_full : goal.invariant_of-self-else-not-is_full
invariant_of-self-else-not-is_full c =
    let here = c.self.inside in
    let past = logged_bytes here.written.items in
    let now = longer here.written.items c.and-self-inside.result.items c.args.byte c.and-self-inside.ensures in
    let full : length here.head.items ≡ 5 = grind (arith, nat_tests) in
    rw now (counted_full past here.head.items here.counts c.args.byte c.self.invariant c.if-byte-eq10.false full)
