-- The disks of the first names, and the next one.
use Rattle.std.proofs.Common.{◌≡◌, ◌⊎◌, inl, inr, ℕ, ◌+◌, List, [], ◌∷◌, ◌++◌, take, slice_get, Some, None, ◌≢◌, refl, sym, ap, ◌∙◌, subst}
use Rattle.std.proofs.lemmas.List.{take_more}
use Rattle.std.proofs.lemmas.Option.{same_Some, slice_get_within, get_or_from_slice_get}
use Rattle.disk_file.specs.View.{FileState}
use Rattle.node_words.specs.declared.job.Job.{Job}
use Rattle.node_words.specs.declared.job.Job.TheVariants.{Format, Run, Serve, Check, Audit, Generate}
use Rattle.node_words.specs.declared.plan.Plan.{Plan}
use Rattle.node_words.specs.Planning.{made_length}
use Rattle.node_words.specs.Words.{Text, Asks}
use Rattle.node_words.proofs.Plans.{Exact, planned, asked_planned}
use Rattle.node_jobs.proofs.Asked.{ExactPlan, one_job}
use Rattle.node_prog.specs.declared.devices.Way.{Way}
use Rattle.node_prog.specs.declared.devices.Way.TheVariants as way
use Rattle.node_prog.specs.Opened.{way_of, IsOpened, AreOpened}

opened_then : (how : Way) (names : List Text) (disks : List FileState) (name : Text) (disk : FileState) → AreOpened how names disks → IsOpened how name disk
    → AreOpened how (names ++ name ∷ []) (disks ++ disk ∷ [])
opened_then how [] [] name disk so_far is = (is, refl)
opened_then how [] (d ∷ disks) name disk so_far is = cc
opened_then how (n ∷ names) [] name disk so_far is = absurd so_far
opened_then how (n ∷ names) (d ∷ disks) name disk so_far is = (so_far.0, opened_then how names disks name disk so_far.1 is)

pub opened_more : (how : Way) (names : List Text) (at : ℕ) (disks : List FileState) (disk : FileState) (name : Text) → AreOpened how (take at names) disks → slice_get names at ≡ Some name
    → IsOpened how name disk → AreOpened how (take (at + 1) names) (disks ++ disk ∷ [])
opened_more how names at disks disk name so_far there is =
    subst (λ (l : List Text). AreOpened how l (disks ++ disk ∷ []))
    (ap (λ (n : Text). take at names ++ n ∷ []) (sym (get_or_from_slice_get names at name name there)) ∙ sym (take_more names at name (slice_get_within names at name there)))
    (opened_then how (take at names) disks name disk so_far is)

-- what is to be made is what the job makes
pub plan_length : (words : List Text) (plan : Plan) → ExactPlan words (Some plan) → (job : Job) (names : List Text) → Asks words job names → plan.make_len ≡ made_length job
plan_length words plan exact job names asks =
    ap (λ (p : Plan). p.make_len) (same_Some plan (planned job names) ((exact (planned job names)).1 (asked_planned words job names asks)))

-- ---- the way of a job

-- what was read is a job that reads alone
pub read_alone : (words : List Text) (read : Job) (of : List Text) → Exact words (Some (read, of)) → (read ≡ Check) ⊎ (read ≡ Audit)
    → (job : Job) (names : List Text) → Asks words job names → way.Read ≡ way_of job
read_alone words read of exact (inl is) job names asks = ap way_of (sym is ∙ one_job words read of exact job names asks)
read_alone words read of exact (inr is) job names asks = ap way_of (sym is ∙ one_job words read of exact job names asks)

-- what neither makes devices nor reads alone
not_made : (job : Job) → None ≡ made_length job → job ≢ Check → job ≢ Audit → way.Open ≡ way_of job
not_made (Format shape) none check audit = cc
not_made (Run tuning) none check audit = refl
not_made (Serve tuning serving) none check audit = refl
not_made Check none check audit = absurd (check refl)
not_made Audit none check audit = absurd (audit refl)
not_made (Generate count shape tuning) none check audit = cc

-- what was read doesn't read alone, and devices aren't made
pub read_and_written : (words : List Text) (read : Job) (of : List Text) → Exact words (Some (read, of)) → read ≢ Check → read ≢ Audit → (job : Job) (names : List Text)
    → Asks words job names → None ≡ made_length job → way.Open ≡ way_of job
read_and_written words read of exact check audit job names asks none =
    let same = one_job words read of exact job names asks in not_made job none (subst (λ (j : Job). j ≢ Check) same check) (subst (λ (j : Job). j ≢ Audit) same audit)
