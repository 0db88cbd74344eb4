-- What the comparison of two digests says of the tests made of it.
use Rattle.std.proofs.Common.{◌≡◌, true, false, Less, Equal, Greater, ap, ◌∙◌}
use Rattle.std.specs.Cmp.{IsTotalOrder}
use Rattle.std.specs.Ordering.{is_eq, is_lt, ordering_reverse}
use Rattle.std.proofs.lemmas.Cmp.{on_total, nat_list_cmp_total}
use Rattle.rec_format.specs.declared.version.Digest.{Digest}
use Rattle.rec_format.specs.Places.{digest_cmp, same_digest, digest_before}

pub digest_order : IsTotalOrder digest_cmp
digest_order = on_total (λ (d : Digest). d.0) nat_list_cmp_total

pub greater_back : (a b : Digest) → digest_cmp a b ≡ Less → digest_cmp b a ≡ Greater
greater_back a b less = digest_order.antisymm b a ∙ ap ordering_reverse less

pub less_back : (a b : Digest) → digest_cmp a b ≡ Greater → digest_cmp b a ≡ Less
less_back a b greater = digest_order.antisymm b a ∙ ap ordering_reverse greater

pub equal_back : (a b : Digest) → digest_cmp a b ≡ Equal → digest_cmp b a ≡ Equal
equal_back a b equal = digest_order.antisymm b a ∙ ap ordering_reverse equal

-- the tests of a digest b against one that stands before it, at it or after it
pub other_below : (a b : Digest) → digest_cmp a b ≡ Less → same_digest b a ≡ false
other_below a b less = ap is_eq (greater_back a b less)

pub other_above : (a b : Digest) → digest_cmp a b ≡ Greater → same_digest b a ≡ false
other_above a b greater = ap is_eq (less_back a b greater)

pub same_at : (a b : Digest) → digest_cmp a b ≡ Equal → same_digest b a ≡ true
same_at a b equal = ap is_eq (equal_back a b equal)

pub not_before_below : (a b : Digest) → digest_cmp a b ≡ Less → digest_before b a ≡ false
not_before_below a b less = ap is_lt (greater_back a b less)

pub not_before_at : (a b : Digest) → digest_cmp a b ≡ Equal → digest_before b a ≡ false
not_before_at a b equal = ap is_lt (equal_back a b equal)

pub before_above : (a b : Digest) → digest_cmp a b ≡ Greater → digest_before b a ≡ true
before_above a b greater = ap is_lt (less_back a b greater)
