use Rattle.std.proofs.Common.{◌≡◌, ℕ, List, Some, take, sym, ap, subst, arith, rules}
use Rattle.block_format.specs.declared.geometry.Geometry.{Geometry}
use Rattle.block_format.specs.Layout.{IsHeader, device_end}
use Rattle.test_hist.proofs.reading.shape_of.Goals as goal

pub returns-in_default : goal.returns-in_default
returns-in_default c = λ g.
    let read : c.copy_from_slice.new.self ≡ take 4096 c.args.image.now = search rules in
    (λ e. absurd (cc), λ s. absurd (c.in_default.not-Some g ((c.read_header.ensures g).1 (subst (λ (l : List ℕ). IsHeader l g) (sym read) s.0))))

pub returns-then-image-place_of : goal.returns-then-image-place_of
returns-then-image-place_of c = λ g.
    let read : c.copy_from_slice.new.self ≡ take 4096 c.args.image.now = search rules in (
      λ e. absurd (cc),
      λ s.
          let told = (c.read_header.ensures g).1 (subst (λ (l : List ℕ). IsHeader l g) (sym read) s.0) in
          let one : c.in-Some.geometry ≡ g = cc in
          absurd (omega (arith, s.1, ap (λ (h : Geometry). device_end h) one)),
    )

pub returns : goal.returns
returns c = λ g.
    let read : c.copy_from_slice.new.self ≡ take 4096 c.args.image.now = search rules in (
      λ e.
          let told : c.read_header.result ≡ Some g = cc in
          let one : c.in-Some.geometry ≡ g = cc in
          (subst (λ (l : List ℕ). IsHeader l g) read ((c.read_header.ensures g).0 told), omega (arith, ap (λ (h : Geometry). device_end h) one)),
      λ s.
          let told = (c.read_header.ensures g).1 (subst (λ (l : List ℕ). IsHeader l g) (sym read) s.0) in
          cc,
    )
