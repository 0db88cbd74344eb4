use Rattle.std.proofs.Common.{◌≡◌, List, ℕ, Some, None, ◌↔◌, refl, sym, ◌∙◌, ap, subst}
use Rattle.std.specs.Prelude.{codes, slice_index, ◌==◌, if◌then◌else◌, Option}
use Rattle.std.specs.Cmp.Lexicographic.{same_text}
use Rattle.rec_format.specs.declared.version.Digest.{Digest}
use Rattle.line_proto.specs.declared.command.Command.{Command}
use Rattle.line_proto.specs.declared.command.Command.TheVariants.{Get, Meta, Del, Bury}
use Rattle.line_proto.specs.Lines.{IsDigestText}
use Rattle.line_proto.specs.Reading.{IsDigestCommand}
use Rattle.line_proto.proofs.read.of_digest.Goals as goal

-- the command of one digest whose word begins with this letter
abbrev by_letter : ℕ → Digest → Option Command
by_letter letter digest =
    if letter == 103 then Some (Get digest)
    else if letter == 109 then Some (Meta digest)
    else if letter == 100 then Some (Del digest)
    else if letter == 98 then Some (Bury digest)
    else None

abbrev by_word : List ℕ → Digest → Option Command
by_word word digest = by_letter (slice_index word 0) digest

-- so a word has one command of a digest
one_made : (word text : List ℕ) (c : Command) → IsDigestCommand word text c → (digest : Digest) × (by_word word digest ≡ Some c) × IsDigestText text digest
one_made word text (Get digest) is = (digest, ap (λ (l : List ℕ). by_word l digest) is.0, is.1)
one_made word text (Meta digest) is = (digest, ap (λ (l : List ℕ). by_word l digest) is.0, is.1)
one_made word text (Del digest) is = (digest, ap (λ (l : List ℕ). by_word l digest) is.0, is.1)
one_made word text (Bury digest) is = (digest, ap (λ (l : List ℕ). by_word l digest) is.0, is.1)
one_made word text c is = absurd is

found : (c : Command) (word text : List ℕ) (digest : Digest) → by_word word digest ≡ Some c → IsDigestCommand word text c → ((x : Digest) → (Some digest ≡ Some x) ↔ IsDigestText text x)
    → (other : Command) → (Some c ≡ Some other) ↔ IsDigestCommand word text other
found c word text digest makes command reads other = (
  λ same. let one : c ≡ other = cc in subst (λ (x : Command). IsDigestCommand word text x) one command,
  λ is.
      let made = one_made word text other is in
      let read : Some digest ≡ Some made.0 = (reads made.0).1 made.2 in
      let same : digest ≡ made.0 = cc in
      sym makes ∙ ap (λ (d : Digest). by_word word d) same ∙ made.1,
)

lost : (word text : List ℕ) → ((x : Digest) → (None ≡ Some x) ↔ IsDigestText text x) → (c : Command) → (None ≡ Some c) ↔ IsDigestCommand word text c
lost word text reads (Get digest) = (λ is. cc, λ is. let same = (reads digest).1 is.1 in cc)
lost word text reads (Meta digest) = (λ is. cc, λ is. let same = (reads digest).1 is.1 in cc)
lost word text reads (Del digest) = (λ is. cc, λ is. let same = (reads digest).1 is.1 in cc)
lost word text reads (Bury digest) = (λ is. cc, λ is. let same = (reads digest).1 is.1 in cc)
lost word text reads _ = (λ is. cc, λ wrong. absurd wrong)

pub returns-in_err-digest : goal.returns-in_err-digest
returns-in_err-digest c = rw c.from_residual.ensures (lost c.args.word.now c.args.text.now c.in_err-digest.ensures)

pub returns-then-eq : goal.returns-then-eq
returns-then-eq c =
    let is : c.args.word.now ≡ codes "get" = same_text c.args.word.now _ c.if-eq.ensures ∙ c.as_slice.ensures in
    found (Get c.in_ok-digest.digest) c.args.word.now c.args.text.now c.in_ok-digest.digest (ap (λ (l : List ℕ). by_word l c.in_ok-digest.digest) is)
    (is, (c.in_ok-digest.ensures c.in_ok-digest.digest).0 refl) c.in_ok-digest.ensures

pub returns-then-eq-2 : goal.returns-then-eq-2
returns-then-eq-2 c =
    let is : c.args.word.now ≡ codes "meta" = same_text c.args.word.now _ c.if-eq-2.ensures ∙ c.as_slice-2.ensures in
    found (Meta c.in_ok-digest.digest) c.args.word.now c.args.text.now c.in_ok-digest.digest (ap (λ (l : List ℕ). by_word l c.in_ok-digest.digest) is)
    (is, (c.in_ok-digest.ensures c.in_ok-digest.digest).0 refl) c.in_ok-digest.ensures

pub returns-then-eq-3 : goal.returns-then-eq-3
returns-then-eq-3 c =
    let is : c.args.word.now ≡ codes "del" = same_text c.args.word.now _ c.if-eq-3.ensures ∙ c.as_slice-3.ensures in
    found (Del c.in_ok-digest.digest) c.args.word.now c.args.text.now c.in_ok-digest.digest (ap (λ (l : List ℕ). by_word l c.in_ok-digest.digest) is)
    (is, (c.in_ok-digest.ensures c.in_ok-digest.digest).0 refl) c.in_ok-digest.ensures

pub returns-then-eq-4 : goal.returns-then-eq-4
returns-then-eq-4 c =
    let is : c.args.word.now ≡ codes "bury" = same_text c.args.word.now _ c.if-eq-4.ensures ∙ c.as_slice-4.ensures in
    found (Bury c.in_ok-digest.digest) c.args.word.now c.args.text.now c.in_ok-digest.digest (ap (λ (l : List ℕ). by_word l c.in_ok-digest.digest) is)
    (is, (c.in_ok-digest.ensures c.in_ok-digest.digest).0 refl) c.in_ok-digest.ensures
