use Rattle.std.proofs.Common.{◌≡◌, ◌∷◌, [], ◌++◌, List, Some, Vec, Global, sym, ◌∙◌, ap, arith}
use Rattle.std.specs.Prelude.{option_map}
use Rattle.std.proofs.lemmas.Option.{same_Some}
use Rattle.std.proofs.lemmas.List.{append_assoc, nil_from_length}
use Rattle.rec_format.specs.declared.version.Digest.{Digest}
use Rattle.rec_format.specs.declared.version.Version.{Version}
use Rattle.block_format.specs.Copies.{copies_of}
use Rattle.test_hist.specs.Finds.{records_of}
use Rattle.test_hist.specs.Steps.{later_version}
use Rattle.test_hist.proofs.Latest.{latest_of, latest_is, one_named, one_other}
use Rattle.test_hist.proofs.finds.cold.Goals as goal

pub loop-named-preserved-then-eq : goal.loop-named-preserved-then-eq
loop-named-preserved-then-eq c =
    let is = c.loop-named.invariant in
    let r : Digest × Version = (c.in-Some-pop.named, c.in-Some-pop.version) in (
      r ∷ is.0,
      is.1 ∙ ap (λ (l : List (Digest × Version)). l ++ is.0) c.in-Some-pop.ensures.items ∙ append_assoc c.pop.new.self.items (r ∷ []) is.0,
      ap Some (c.later_of.ensures ∙ ap (later_version r.1) is.2) ∙ one_named c.args.digest.now r is.0 c.if-eq.ensures,
    )

pub loop-named-preserved : goal.loop-named-preserved
loop-named-preserved c =
    let is = c.loop-named.invariant in
    let r : Digest × Version = (c.in-Some-pop.named, c.in-Some-pop.version) in (
      r ∷ is.0,
      is.1 ∙ ap (λ (l : List (Digest × Version)). l ++ is.0) c.in-Some-pop.ensures.items ∙ append_assoc c.pop.new.self.items (r ∷ []) is.0,
      is.2 ∙ one_other c.args.digest.now r is.0 c.if-eq.ensures,
    )

pub returns-clause-readable : goal.returns-clause-readable
returns-clause-readable c = λ g bodies readable.
    let is = c.loop-named.invariant in
    let none : c.loop-named.records.items ≡ [] = nil_from_length c.loop-named.records.items (omega (arith, c.in_default-pop.ensures.cases.0, c.loop-named.records.ok.0)) in
    let told = sym (ap (option_map (λ (v : Vec (Digest × Version) Global). v.items)) c.in-Some.is) ∙ c.in_ok-records.ensures.readable g bodies readable in
    let found : c.in-Some.records.items ≡ records_of bodies = same_Some c.in-Some.records.items (records_of bodies) told in
    let all : is.0 ≡ records_of bodies = sym (is.1 ∙ ap (λ (l : List (Digest × Version)). l ++ is.0) none) ∙ found in
    is.2 ∙ ap (latest_of c.args.digest.now) all ∙ sym (latest_is c.args.digest.now (copies_of bodies))
