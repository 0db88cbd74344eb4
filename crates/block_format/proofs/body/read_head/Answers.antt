-- The bytes are the head of the fields that are read in them, or of no fields.
use Rattle.std.proofs.Common.{◌≡◌, ◌∙◌, ℕ, ◌^◌, ◌<◌, take, ap, sym, arith, Some, Option, subst}
use Rattle.block_format.specs.declared.body.BodyHead.{BodyHead}
use Rattle.block_format.specs.Layout.{IsHead, body_head_text}
use Rattle.block_format.proofs.HeadFields.{agree, differ, fields_of_head}
use Rattle.block_format.proofs.body.read_head.Goals as goal

same_text : {n n' r r' u u' : ℕ} (block : ℕ) → n ≡ n' → r ≡ r' → u ≡ u' → body_head_text n r u block ≡ body_head_text n' r' u' block
same_text block en er eu = λ i. body_head_text (en i) (er i) (eu i) block

same_head : {n n' r r' u u' : ℕ} → n ≡ n' → r ≡ r' → u ≡ u' → let a : BodyHead = record { number = n; records = r; units = u } in let b : BodyHead =
    record { number = n'; records = r'; units = u' } in a ≡ b
same_head en er eu = λ i. record { number = en i; records = er i; units = eu i }

same_some : {a b : BodyHead} → ◌≡◌ {A = Option BodyHead} (Some a) (Some b) → a ≡ b
same_some e = cc

pub returns-then-ne : goal.returns-then-ne
returns-then-ne c = λ h. (
  (λ e. cc),
  (λ head.
      let small : c.args.capacity < 2 ^ 32 = omega arith in
      let fields = fields_of_head c.args.capacity c.args.bytes.now h.number h.records h.units c.args.block small head in
      let text = head.text
      ∙ same_text c.args.block (sym (c.u64_at-number.ensures ∙ fields.number_is)) (sym (c.u32_at-records.ensures ∙ fields.records_is)) (sym (c.u32_at-units.ensures ∙ fields.units_is))
      ∙ sym c.head_of.ensures in
      absurd (differ (take 32 c.args.bytes.now) c.head_of.result c.if-ne.ensures text)
      ),
)

pub returns : goal.returns
returns c =
    let text = agree (take 32 c.args.bytes.now) c.head_of.result c.if-ne.ensures ∙ c.head_of.ensures in
    let small : c.args.capacity < 2 ^ 32 = omega arith in
    let head : IsHead c.args.capacity c.args.bytes.now c.u64_at-number.result c.u32_at-records.result c.u32_at-units.result c.args.block =
    record { number_fits = omega arith; count_fits = omega arith; units_fit = omega arith; text = text } in
    λ h. (
      (λ e. subst (λ (g : BodyHead). IsHead c.args.capacity c.args.bytes.now g.number g.records g.units c.args.block) (same_some e) head),
      (λ other.
          let fields = fields_of_head c.args.capacity c.args.bytes.now h.number h.records h.units c.args.block small other in
          ap Some (same_head (c.u64_at-number.ensures ∙ fields.number_is) (c.u32_at-records.ensures ∙ fields.records_is) (c.u32_at-units.ensures ∙ fields.units_is))
          ),
    )
