-- What is prepared for a request is prepared for its words.
use Rattle.std.proofs.Common.{◌≡◌, ◌↔◌, ℕ, ◌≤◌, List, length, map, Option, Some, None, refl, sym, ◌∙◌, ap, subst}
use Rattle.std.proofs.lemmas.List.{length-map}
use Rattle.std.specs.Prelude.{String, string_bytes}
use Rattle.node_words.specs.declared.job.Job.{Job}
use Rattle.node_words.specs.declared.plan.Plan.{Plan}
use Rattle.node_words.specs.Words.{Text, Asks}
use Rattle.node_words.specs.Planning.{made_length, serving_of}
use Rattle.node_words.specs.Planned.{IsPlanned}

-- what was read, as `read_words` says it
abbrev pub Exact : List Text → Option (Job × List Text) → Type 0
Exact words read = (job : Job) (names : List Text) → (read ≡ Some (job, names)) ↔ Asks words job names

none_is_some : {A B : Type 0} {x : A} → None ≡ Some x → B
none_is_some wrong = cc

pub none_planned : (words : List Text) → Exact words None → (plan : Plan) → (None ≡ Some plan) ↔ IsPlanned words plan
none_planned words exact plan = (λ wrong. none_is_some wrong, λ planned. none_is_some ((exact planned.job plan.names).1 planned.asks))

pub few_names : {Z : Type 0} (words : List Text) (job : Job) (names : List (String Z)) → Exact words (Some (job, map string_bytes names)) → length names ≤ 16
few_names words job names exact =
    let asks = (exact job (map string_bytes names)).0 refl in
    subst (λ (n : ℕ). n ≤ 16) (length-map names string_bytes) asks.named.not_many

one_pair : (j k : Job) (m n : List Text) → ◌≡◌ {A = Option (Job × List Text)} (Some (j, m)) (Some (k, n)) → (j ≡ k) × (m ≡ n)
one_pair j k m n is = let pairs : ◌≡◌ {A = Job × List Text} (j, m) (k, n) = cc in (λ i. (pairs i).0, λ i. (pairs i).1)

-- what is prepared for a job over devices of these names
abbrev pub planned : Job → List Text → Plan
planned job names = record {
  names = names;
  make_len = made_length job;
  port = (serving_of job).port;
  links = (serving_of job).links;
  idle = (serving_of job).idle;
}

-- words that ask for the job have it prepared so
pub asked_planned : (words : List Text) (job : Job) (names : List Text) → Asks words job names → IsPlanned words (planned job names)
asked_planned words job names asks = record { job = job; asks = asks; make_len = refl; port = refl; links = refl; idle = refl }

one_plan : (words : List Text) (plan : Plan) (is : IsPlanned words plan) → planned is.job plan.names ≡ plan
one_plan words plan is =
    λ i. record { names = plan.names; make_len = sym is.make_len i; port = sym is.port i; links = sym is.links i; idle = sym is.idle i }

pub some_planned : (words : List Text) (job : Job) (names : List Text) (made : Plan) → Exact words (Some (job, names)) → made ≡ planned job names
    → (plan : Plan) → (Some made ≡ Some plan) ↔ IsPlanned words plan
some_planned words job names made exact made_is plan = (to, from)
  where
    to : Some made ≡ Some plan → IsPlanned words plan
    to is =
        let same : planned job names ≡ plan = cc in
        subst (IsPlanned words) same (asked_planned words job names ((exact job names).0 refl))

    from : IsPlanned words plan → Some made ≡ Some plan
    from is =
        let same = one_pair job is.job names plan.names ((exact is.job plan.names).1 is.asks) in
        ap Some (made_is ∙ (λ i. planned (same.0 i) (same.1 i)) ∙ one_plan words plan is)
