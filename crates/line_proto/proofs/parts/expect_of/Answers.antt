use Rattle.std.proofs.Common.{◌≡◌, ℕ, List, [], ◌∷◌, Option, Some, None, ◌↔◌, refl, sym, ◌∙◌, rules, lit<}
use Rattle.std.specs.Cmp.Lexicographic.{same_text}
use Rattle.line_proto.specs.Lines.{IsExpectText}
use Rattle.line_proto.proofs.Words.{no_star, below}
use Rattle.line_proto.proofs.parts.expect_of.Goals as goal

star : (text : List ℕ) → text ≡ 42 ∷ [] → (expect : Option ℕ) → (Some None ≡ Some expect) ↔ IsExpectText text expect
star text is None = (λ _. is, λ _. refl)
star text is (Some n) = (λ wrong. cc, λ number. absurd (no_star n (below n 65535 number.1 (lit< tt)) (sym is ∙ number.0)))

pub returns-then-eq : goal.returns-then-eq
returns-then-eq c = star c.args.text.now (same_text c.args.text.now _ c.if-eq.ensures ∙ c.as_slice.ensures)

pub overflow_cast-result : goal.overflow_cast-result
overflow_cast-result c = let small = ((c.in-Some.ensures c.in-Some.number).0 refl).0 in search rules
