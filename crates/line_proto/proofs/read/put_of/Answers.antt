use Rattle.std.proofs.Common.{◌≡◌, ◌≢◌, ◌≤◌, ℕ, List, [], ◌∷◌, Option, Some, None, ◌↔◌, sym, ◌∙◌, subst, refl, rules}
use Rattle.std.specs.Prelude.{codes, decimal}
use Rattle.rec_format.specs.declared.version.Digest.{Digest}
use Rattle.line_proto.specs.Lines.{IsDigestText, IsExpectText, IsDataText, words_line}
use Rattle.line_proto.specs.Reading.{IsFour, IsPutFront}
use Rattle.line_proto.proofs.Words.{none_of, none_at_all, some_of}
use Rattle.line_proto.proofs.read.put_of.Goals as goal

no_none : {A : Type 0} (x : A) → None ≡ Some x → ⊥
no_none x is = cc

front_of : (text d t e data_text : List ℕ) (digest : Digest) (ttl : ℕ) (expect : Option ℕ) → IsFour text d t e data_text → IsDigestText d digest
    → (ttl ≤ 315360000) × (t ≡ decimal ttl) → IsExpectText e expect → data_text ≢ codes "-" → IsPutFront text
front_of text d t e data_text digest ttl expect four is_digest is_ttl is_expect some = record {
  digest = digest;
  ttl = ttl;
  expect = expect;
  digest_text = d;
  expect_text = e;
  data_text = data_text;
  is_digest = is_digest;
  in_range = is_ttl.0;
  is_expect = is_expect;
  some = some;
  spelled = four.spelled ∙ (λ i. words_line (d ∷ is_ttl.1 i ∷ e ∷ data_text ∷ []));
}

pub returns-in_err-payload-clause-memory : goal.returns-in_err-payload-clause-memory
returns-in_err-payload-clause-memory c = λ _.
    front_of c.args.text.now _ _ _ _ c.in-Some-digest_of.digest c.in-Some-number_of.ttl c.in-Some-expect_of.expect c.in-Some.ensures
    ((c.in-Some-digest_of.ensures c.in-Some-digest_of.digest).0 refl) ((c.in-Some-number_of.ensures c.in-Some-number_of.ttl).0 refl)
    ((c.in-Some-expect_of.ensures c.in-Some-expect_of.expect).0 refl) (c.in_err-payload.ensures.memory refl)

pub returns-in_default-clause-read : goal.returns-in_default-clause-read
returns-in_default-clause-read c = none_at_all c.args.text.now c.in_default.ensures

pub returns-in_default-digest_of-clause-read : goal.returns-in_default-digest_of-clause-read
returns-in_default-digest_of-clause-read c = none_of c.args.text.now _ _ _ _ c.in-Some.ensures
    (λ digest ttl expect payload reads. no_none digest ((c.in_default-digest_of.ensures digest).1 reads.is_digest))

pub returns-in_default-number_of-clause-read : goal.returns-in_default-number_of-clause-read
returns-in_default-number_of-clause-read c = none_of c.args.text.now _ _ _ _ c.in-Some.ensures
    (λ digest ttl expect payload reads. no_none ttl ((c.in_default-number_of.ensures ttl).1 reads.is_ttl))

pub returns-in_default-expect_of-clause-read : goal.returns-in_default-expect_of-clause-read
returns-in_default-expect_of-clause-read c = none_of c.args.text.now _ _ _ _ c.in-Some.ensures
    (λ digest ttl expect payload reads. no_none expect ((c.in_default-expect_of.ensures expect).1 reads.is_expect))

pub returns-in_default-2-clause-read : goal.returns-in_default-2-clause-read
returns-in_default-2-clause-read c = none_of c.args.text.now _ _ _ _ c.in-Some.ensures
    (λ digest ttl expect payload reads. no_none payload (sym c.in_default-2.is ∙ (c.in_ok-payload.ensures.read payload).1 reads.is_data))

pub overflow_cast-ttl : goal.overflow_cast-ttl
overflow_cast-ttl c = let small = ((c.in-Some-number_of.ensures c.in-Some-number_of.ttl).0 refl).0 in search rules

pub returns-clause-read : goal.returns-clause-read
returns-clause-read c =
    some_of c.args.text.now _ _ _ _ c.in-Some-digest_of.digest c.in-Some-number_of.ttl c.in-Some-expect_of.expect c.in-Some-2.payload c.in-Some.ensures
    c.in-Some-digest_of.ensures c.in-Some-number_of.ensures c.in-Some-expect_of.ensures
    (subst (λ (o : Option (List ℕ)). (x : List ℕ) → (o ≡ Some x) ↔ IsDataText c.in-Some.data.now x) c.in-Some-2.is c.in_ok-payload.ensures.read)
