-- What the head tells fits into the bytes; where there is none, that is the fault.
use Rattle.std.proofs.Common.{refl, inl, Some, None, Option, ◌≡◌, ◌+◌, ◌*◌, ◌≤◌, IfSome, IfNone, length, arith}
use Rattle.block_format.specs.declared.body.BodyHead.{BodyHead}
use Rattle.block_format.specs.Layout.{HasNoHead, IsFaultAt}
use Rattle.block_format.specs.Readings.{IsUnreadAt, body_capacity}
use Rattle.block_format.proofs.BodyLaws.{fault_refuses, small_body}
use Rattle.block_format.proofs.body.head_in.Goals as goal

some_from : (r : Option BodyHead) (P : BodyHead → Type 0) → ((h : BodyHead) → r ≡ Some h → P h) → IfSome r P
some_from None P f = tt
some_from (Some h) P f = f h refl

none_from : (r : Option BodyHead) (P : Type 0) → (r ≡ None → P) → IfNone r P
none_from None P f = f refl
none_from (Some h) P f = tt

pub returns-clause-fits : goal.returns-clause-fits
returns-clause-fits c =
    some_from c.read_head.result (λ h. (32 + 16 * h.units ≤ length c.args.body.now) × (h.units ≤ 65278))
    (λ h is. let head = (c.read_head.ensures h).0 is in (omega (arith, head.units_fit), omega (arith, head.units_fit)))

pub returns-clause-none : goal.returns-clause-none
returns-clause-none c =
    let bytes = c.args.body.now in
    none_from c.read_head.result (IsUnreadAt bytes c.args.block 0) (λ none.
    let no_head : HasNoHead (body_capacity bytes) bytes c.args.block = λ number records units head.
    let h : BodyHead = record { number = number; records = records; units = units } in
    let there : c.read_head.result ≡ Some h = (c.read_head.ensures h).1 head in
    cc in
    let fault : IsFaultAt (body_capacity bytes) bytes c.args.block 0 = inl (no_head, refl) in
    (fault, fault_refuses (body_capacity bytes) bytes c.args.block 0 (small_body (length bytes) c.requires.size) fault)
    )
