-- Whether words ask for `serve`.
use Rattle.std.proofs.Common.{◌≡◌, ℕ, Bool, List, Option, Some, refl, subst}
use Rattle.std.specs.Prelude.{IfSome, MatchOption}
use Rattle.disk_model.specs.Disk.{DiskView}
use Rattle.shard_core.specs.declared.settings.Settings.{Settings}
use Rattle.node_session.specs.declared.ended.Ended.{Ended}
use Rattle.node_session.specs.Turns.{Times}
use Rattle.live_store.specs.Known.{Known}
use Rattle.law_serve.specs.Promises.{Serves}
use Rattle.node_words.specs.declared.job.Tuning.{Tuning}
use Rattle.node_words.specs.declared.job.Serving.{Serving}
use Rattle.node_words.specs.declared.job.Job.{Job}
use Rattle.node_words.specs.declared.job.Job.TheVariants.{Format, Run, Serve, Check, Audit, Generate}
use Rattle.node_words.specs.Ranges.{IsTuning, IsServing, IsInRange}
use Rattle.node_words.specs.Words.{Text, Asks}
use Rattle.node_jobs.specs.Serving.{serve_of, AsksOther}
use Rattle.node_words.proofs.Plans.{Exact}
use Rattle.node_jobs.proofs.Asked.{they_ask, one_job, not_both}

-- they ask so, or for another job
abbrev pub AreAsked : (words : List Text) → Option (Tuning × Serving) → Type 0
AreAsked words how = MatchOption how (AsksOther words) (λ s. (names : List Text) × Asks words (Serve s.0 s.1) names)

pub asked : (words : List Text) (job : Job) (names : List Text) → Exact words (Some (job, names)) → AreAsked words (serve_of job)
asked words (Serve tuning serving) names exact = (names, they_ask words (Serve tuning serving) names exact)
asked words (Format shape) names exact =
    λ tuning serving names' asks. not_both (Format shape) (Format shape) (Serve tuning serving) refl (one_job words (Format shape) names exact (Serve tuning serving) names' asks) (λ same. cc)
asked words (Run of) names exact =
    λ tuning serving names' asks. not_both (Run of) (Run of) (Serve tuning serving) refl (one_job words (Run of) names exact (Serve tuning serving) names' asks) (λ same. cc)
asked words Check names exact =
    λ tuning serving names' asks. not_both Check Check (Serve tuning serving) refl (one_job words Check names exact (Serve tuning serving) names' asks) (λ same. cc)
asked words Audit names exact =
    λ tuning serving names' asks. not_both Audit Audit (Serve tuning serving) refl (one_job words Audit names exact (Serve tuning serving) names' asks) (λ same. cc)
asked words (Generate count shape of) names exact =
    λ tuning serving names' asks. not_both (Generate count shape of) (Generate count shape of) (Serve tuning serving) refl
    (one_job words (Generate count shape of) names exact (Serve tuning serving) names' asks) (λ same. cc)

-- where they ask so, for nothing else
abbrev pub IsOnly : (words : List Text) → Option (Tuning × Serving) → Type 0
IsOnly words how = IfSome how (λ s. (job : Job) (names : List Text) → Asks words job names → Serve s.0 s.1 ≡ job)

pub only : (words : List Text) (job : Job) (names : List Text) → Exact words (Some (job, names)) → IsOnly words (serve_of job)
only words (Serve tuning serving) names exact = one_job words (Serve tuning serving) names exact
only words (Format shape) names exact = tt
only words (Run of) names exact = tt
only words Check names exact = tt
only words Audit names exact = tt
only words (Generate count shape of) names exact = tt

abbrev pub AreInRange : Option (Tuning × Serving) → Type 0
AreInRange how = IfSome how (λ s. IsTuning s.0 × IsServing s.1)

pub in_range : (job : Job) → IsInRange job → AreInRange (serve_of job)
in_range (Serve tuning serving) is = is
in_range (Format shape) is = tt
in_range (Run tuning) is = tt
in_range Check is = tt
in_range Audit is = tt
in_range (Generate count shape tuning) is = tt

-- what serves with these settings and seats serves with those
pub same_service : {D : Type 0} {view : D → DiskView} {Link : List (Known D) → Times → Ended → List (Known D) → Times → Type 0} {known : Bool} {set : Settings} {seats status : ℕ} {note : List ℕ} {times : Times}
    {olds news : List D} {faults later given after : ℕ} {ended : Bool} {SameDoor : Type 0} (other : Settings) (many : ℕ) → set ≡ other → seats ≡ many
    → Serves view Link known set seats status note times olds news faults later given after ended SameDoor
    → Serves view Link known other many status note times olds news faults later given after ended SameDoor
same_service {view = view} {Link = Link} {known = known} {status = status} {note = note} {times = times} {olds = olds} {news = news}
    {faults = faults} {later = later} {given = given} {after = after} {ended = ended} {SameDoor = SameDoor}
    other many set_is seats_is serves =
    subst (λ (p : Settings × ℕ). Serves view Link known p.0 p.1 status note times olds news faults later given after ended SameDoor) (λ i. (set_is i, seats_is i)) serves
