use Rattle.std.proofs.Common.{◌≡◌, ℕ, List, sym, ◌∙◌, ap, map, length, true}
use Rattle.std.specs.Prelude.{string_bytes}
use Rattle.std.proofs.lemmas.Bool.{eqb-true}
use Rattle.std.proofs.lemmas.List.{length-map}
use Rattle.node_jobs.proofs.Asked.{nothing, one_list}
use Rattle.test_serve.proofs.jobs.names_so_many.Goals as goal

pub returns-in-Some : goal.returns-in-Some
returns-in-Some c so job names asks =
    let names_is : map string_bytes c.in-Some.request.names.now ≡ names =
    one_list (map string_bytes c.args.words.now) c.in-Some.request.job (map string_bytes c.in-Some.request.names.now) c.in-Some.ensures.exact job names asks in
    sym (eqb-true (length c.in-Some.request.names.now) c.args.count so) ∙ sym (length-map c.in-Some.request.names.now string_bytes) ∙ ap (λ (texts : List (List ℕ)). length texts) names_is

pub returns-in-None : goal.returns-in-None
returns-in-None c so job names asks = nothing (map string_bytes c.args.words.now) c.in-None.ensures.exact job names asks
