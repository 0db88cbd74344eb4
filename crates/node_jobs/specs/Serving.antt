-- Crate node_jobs. Words that ask for `serve`, and others.
use Rattle.std.specs.Prelude.{ℕ, List, Option, Some, None}
use Rattle.node_words.specs.declared.job.Tuning.{Tuning}
use Rattle.node_words.specs.declared.job.Serving.{Serving}
use Rattle.node_words.specs.declared.job.Job.{Job}
use Rattle.node_words.specs.declared.job.Job.TheVariants as job
use Rattle.node_words.specs.Words.{Asks}

abbrev pub IsServe : Job → Type 0
IsServe (job.Serve tuning serving) = Unit {0}
IsServe _ = ⊥

-- how devices are run and connections served, where the job is that
abbrev pub serve_of : Job → Option (Tuning × Serving)
serve_of (job.Serve tuning serving) = Some (tuning, serving)
serve_of _ = None

-- they don't ask for `serve`
abbrev pub AsksOther : (words : List (List ℕ)) → Type 0
AsksOther words = (tuning : Tuning) (serving : Serving) (names : List (List ℕ)) → Asks words (job.Serve tuning serving) names → ⊥
