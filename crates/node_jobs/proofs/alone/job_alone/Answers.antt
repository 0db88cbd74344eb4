use Rattle.std.proofs.Common.{refl, ◌∙◌, ap, map, subst}
use Rattle.std.specs.Prelude.{string_bytes}
use Rattle.node_words.specs.declared.job.Job.TheVariants.{Format, Run, Serve, Check, Audit, Generate}
use Rattle.node_words.specs.Ranges.{IsInRange}
use Rattle.node_jobs.proofs.Asked.{nothing, they_ask, one_job, few, one_shape, one_tuning, one_load, not_both}
use Rattle.node_jobs.specs.Settling.{settings_of}
use Rattle.node_jobs.specs.Serving.{IsServe}
use Rattle.node_jobs.proofs.Made.{same_shape, same_settings, same_load}
use Rattle.node_jobs.proofs.alone.job_alone.Goals as goal

pub returns-in_default-clause-formatted : goal.returns-in_default-clause-formatted
returns-in_default-clause-formatted g c shape names asks = nothing (map string_bytes c.args.words.now) c.in_default.ensures.exact (Format shape) names asks

pub returns-in_default-clause-served : goal.returns-in_default-clause-served
returns-in_default-clause-served g c tuning names asks = nothing (map string_bytes c.args.words.now) c.in_default.ensures.exact (Run tuning) names asks

pub returns-in_default-clause-checked : goal.returns-in_default-clause-checked
returns-in_default-clause-checked g c names asks = nothing (map string_bytes c.args.words.now) c.in_default.ensures.exact Check names asks

pub returns-in_default-clause-audited : goal.returns-in_default-clause-audited
returns-in_default-clause-audited g c names asks = nothing (map string_bytes c.args.words.now) c.in_default.ensures.exact Audit names asks

pub returns-in_default-clause-generated : goal.returns-in_default-clause-generated
returns-in_default-clause-generated g c records shape tuning names asks = nothing (map string_bytes c.args.words.now) c.in_default.ensures.exact (Generate records shape tuning) names asks

pub format_with-requires-clause-disks : goal.format_with-requires-clause-disks
format_with-requires-clause-disks g c = few (map string_bytes c.args.words.now) c.in-Some.request.job (map string_bytes c.in-Some.request.names.now) c.in-Some.ensures.exact _ c.requires.disks

pub run_with-requires-clause-disks : goal.run_with-requires-clause-disks
run_with-requires-clause-disks g c = few (map string_bytes c.args.words.now) c.in-Some.request.job (map string_bytes c.in-Some.request.names.now) c.in-Some.ensures.exact _ c.requires.disks

pub check_with-requires : goal.check_with-requires
check_with-requires g c = record { disks = few (map string_bytes c.args.words.now) c.in-Some.request.job (map string_bytes c.in-Some.request.names.now) c.in-Some.ensures.exact _ c.requires.disks }

pub gen_with-requires-clause-disks : goal.gen_with-requires-clause-disks
gen_with-requires-clause-disks g c = few (map string_bytes c.args.words.now) c.in-Some.request.job (map string_bytes c.in-Some.request.names.now) c.in-Some.ensures.exact _ c.requires.disks

pub returns-in-Format-clause-refused : goal.returns-in-Format-clause-refused
returns-in-Format-clause-refused g c none =
    absurd (subst IsServe c.in-Format.is (none _ _ (they_ask (map string_bytes c.args.words.now) c.in-Some.request.job (map string_bytes c.in-Some.request.names.now) c.in-Some.ensures.exact)))

pub returns-in-Format-clause-formatted : goal.returns-in-Format-clause-formatted
returns-in-Format-clause-formatted g c shape names asks = (
  same_shape c.in-Format.shape shape (one_shape c.in-Some.request.job c.in-Format.shape shape c.in-Format.is
      (one_job (map string_bytes c.args.words.now) c.in-Some.request.job (map string_bytes c.in-Some.request.names.now) c.in-Some.ensures.exact (Format shape) names asks))
      c.format_with.ensures.formats,
  refl,
)

pub returns-in-Format-clause-served : goal.returns-in-Format-clause-served
returns-in-Format-clause-served g c tuning names asks =
    not_both c.in-Some.request.job (Format c.in-Format.shape) (Run tuning) c.in-Format.is
    (one_job (map string_bytes c.args.words.now) c.in-Some.request.job (map string_bytes c.in-Some.request.names.now) c.in-Some.ensures.exact (Run tuning) names asks) (λ same. cc)

pub returns-in-Format-clause-checked : goal.returns-in-Format-clause-checked
returns-in-Format-clause-checked g c names asks =
    not_both c.in-Some.request.job (Format c.in-Format.shape) Check c.in-Format.is
    (one_job (map string_bytes c.args.words.now) c.in-Some.request.job (map string_bytes c.in-Some.request.names.now) c.in-Some.ensures.exact Check names asks) (λ same. cc)

pub returns-in-Format-clause-audited : goal.returns-in-Format-clause-audited
returns-in-Format-clause-audited g c names asks =
    not_both c.in-Some.request.job (Format c.in-Format.shape) Audit c.in-Format.is
    (one_job (map string_bytes c.args.words.now) c.in-Some.request.job (map string_bytes c.in-Some.request.names.now) c.in-Some.ensures.exact Audit names asks) (λ same. cc)

pub returns-in-Format-clause-generated : goal.returns-in-Format-clause-generated
returns-in-Format-clause-generated g c records shape tuning names asks =
    not_both c.in-Some.request.job (Format c.in-Format.shape) (Generate records shape tuning) c.in-Format.is
    (one_job (map string_bytes c.args.words.now) c.in-Some.request.job (map string_bytes c.in-Some.request.names.now) c.in-Some.ensures.exact (Generate records shape tuning) names asks)
    (λ same. cc)

pub returns-in-Run-clause-refused : goal.returns-in-Run-clause-refused
returns-in-Run-clause-refused g c none =
    absurd (subst IsServe c.in-Run.is (none _ _ (they_ask (map string_bytes c.args.words.now) c.in-Some.request.job (map string_bytes c.in-Some.request.names.now) c.in-Some.ensures.exact)))

pub returns-in-Run-clause-formatted : goal.returns-in-Run-clause-formatted
returns-in-Run-clause-formatted g c shape names asks =
    not_both c.in-Some.request.job (Run c.in-Run.tuning) (Format shape) c.in-Run.is
    (one_job (map string_bytes c.args.words.now) c.in-Some.request.job (map string_bytes c.in-Some.request.names.now) c.in-Some.ensures.exact (Format shape) names asks) (λ same. cc)

pub returns-in-Run-clause-served : goal.returns-in-Run-clause-served
returns-in-Run-clause-served g c tuning names asks =
    same_settings c.settings_of.result (settings_of tuning)
    (c.settings_of.ensures.exact ∙ ap settings_of (one_tuning c.in-Some.request.job c.in-Run.tuning tuning c.in-Run.is
    (one_job (map string_bytes c.args.words.now) c.in-Some.request.job (map string_bytes c.in-Some.request.names.now) c.in-Some.ensures.exact (Run tuning) names asks)))
    c.run_with.ensures.replies

pub returns-in-Run-clause-checked : goal.returns-in-Run-clause-checked
returns-in-Run-clause-checked g c names asks =
    not_both c.in-Some.request.job (Run c.in-Run.tuning) Check c.in-Run.is
    (one_job (map string_bytes c.args.words.now) c.in-Some.request.job (map string_bytes c.in-Some.request.names.now) c.in-Some.ensures.exact Check names asks) (λ same. cc)

pub returns-in-Run-clause-audited : goal.returns-in-Run-clause-audited
returns-in-Run-clause-audited g c names asks =
    not_both c.in-Some.request.job (Run c.in-Run.tuning) Audit c.in-Run.is
    (one_job (map string_bytes c.args.words.now) c.in-Some.request.job (map string_bytes c.in-Some.request.names.now) c.in-Some.ensures.exact Audit names asks) (λ same. cc)

pub returns-in-Run-clause-generated : goal.returns-in-Run-clause-generated
returns-in-Run-clause-generated g c records shape tuning names asks =
    not_both c.in-Some.request.job (Run c.in-Run.tuning) (Generate records shape tuning) c.in-Run.is
    (one_job (map string_bytes c.args.words.now) c.in-Some.request.job (map string_bytes c.in-Some.request.names.now) c.in-Some.ensures.exact (Generate records shape tuning) names asks)
    (λ same. cc)

pub returns-in-Check-clause-refused : goal.returns-in-Check-clause-refused
returns-in-Check-clause-refused g c none =
    absurd (subst IsServe c.in-Check.is (none _ _ (they_ask (map string_bytes c.args.words.now) c.in-Some.request.job (map string_bytes c.in-Some.request.names.now) c.in-Some.ensures.exact)))

pub returns-in-Check-clause-formatted : goal.returns-in-Check-clause-formatted
returns-in-Check-clause-formatted g c shape names asks =
    not_both c.in-Some.request.job Check (Format shape) c.in-Check.is
    (one_job (map string_bytes c.args.words.now) c.in-Some.request.job (map string_bytes c.in-Some.request.names.now) c.in-Some.ensures.exact (Format shape) names asks) (λ same. cc)

pub returns-in-Check-clause-served : goal.returns-in-Check-clause-served
returns-in-Check-clause-served g c tuning names asks =
    not_both c.in-Some.request.job Check (Run tuning) c.in-Check.is
    (one_job (map string_bytes c.args.words.now) c.in-Some.request.job (map string_bytes c.in-Some.request.names.now) c.in-Some.ensures.exact (Run tuning) names asks) (λ same. cc)

pub returns-in-Check-clause-checked : goal.returns-in-Check-clause-checked
returns-in-Check-clause-checked g c names asks = (c.check_with.ensures.checks, refl)

pub returns-in-Check-clause-audited : goal.returns-in-Check-clause-audited
returns-in-Check-clause-audited g c names asks =
    not_both c.in-Some.request.job Check Audit c.in-Check.is
    (one_job (map string_bytes c.args.words.now) c.in-Some.request.job (map string_bytes c.in-Some.request.names.now) c.in-Some.ensures.exact Audit names asks) (λ same. cc)

pub returns-in-Check-clause-generated : goal.returns-in-Check-clause-generated
returns-in-Check-clause-generated g c records shape tuning names asks =
    not_both c.in-Some.request.job Check (Generate records shape tuning) c.in-Check.is
    (one_job (map string_bytes c.args.words.now) c.in-Some.request.job (map string_bytes c.in-Some.request.names.now) c.in-Some.ensures.exact (Generate records shape tuning) names asks)
    (λ same. cc)

pub returns-in-Generate-clause-refused : goal.returns-in-Generate-clause-refused
returns-in-Generate-clause-refused g c none =
    absurd (subst IsServe c.in-Generate.is (none _ _ (they_ask (map string_bytes c.args.words.now) c.in-Some.request.job (map string_bytes c.in-Some.request.names.now) c.in-Some.ensures.exact)))

pub returns-in-Generate-clause-formatted : goal.returns-in-Generate-clause-formatted
returns-in-Generate-clause-formatted g c shape names asks =
    not_both c.in-Some.request.job (Generate c.in-Generate.count c.in-Generate.shape c.in-Generate.tuning) (Format shape) c.in-Generate.is
    (one_job (map string_bytes c.args.words.now) c.in-Some.request.job (map string_bytes c.in-Some.request.names.now) c.in-Some.ensures.exact (Format shape) names asks) (λ same. cc)

pub returns-in-Generate-clause-served : goal.returns-in-Generate-clause-served
returns-in-Generate-clause-served g c tuning names asks =
    not_both c.in-Some.request.job (Generate c.in-Generate.count c.in-Generate.shape c.in-Generate.tuning) (Run tuning) c.in-Generate.is
    (one_job (map string_bytes c.args.words.now) c.in-Some.request.job (map string_bytes c.in-Some.request.names.now) c.in-Some.ensures.exact (Run tuning) names asks) (λ same. cc)

pub returns-in-Generate-clause-checked : goal.returns-in-Generate-clause-checked
returns-in-Generate-clause-checked g c names asks =
    not_both c.in-Some.request.job (Generate c.in-Generate.count c.in-Generate.shape c.in-Generate.tuning) Check c.in-Generate.is
    (one_job (map string_bytes c.args.words.now) c.in-Some.request.job (map string_bytes c.in-Some.request.names.now) c.in-Some.ensures.exact Check names asks) (λ same. cc)

pub returns-in-Generate-clause-audited : goal.returns-in-Generate-clause-audited
returns-in-Generate-clause-audited g c names asks =
    not_both c.in-Some.request.job (Generate c.in-Generate.count c.in-Generate.shape c.in-Generate.tuning) Audit c.in-Generate.is
    (one_job (map string_bytes c.args.words.now) c.in-Some.request.job (map string_bytes c.in-Some.request.names.now) c.in-Some.ensures.exact Audit names asks) (λ same. cc)

pub returns-in-Generate-clause-generated : goal.returns-in-Generate-clause-generated
returns-in-Generate-clause-generated g c records shape tuning names asks =
    let same = one_load c.in-Some.request.job c.in-Generate.count records c.in-Generate.shape shape c.in-Generate.tuning tuning c.in-Generate.is
    (one_job (map string_bytes c.args.words.now) c.in-Some.request.job (map string_bytes c.in-Some.request.names.now) c.in-Some.ensures.exact
    (Generate records shape tuning) names asks) in
    same_load c.in-Generate.count records c.in-Generate.shape shape c.settings_of-in-Generate.result (settings_of tuning) same.0 same.1
    (c.settings_of-in-Generate.ensures.exact ∙ ap settings_of same.2) c.gen_with.ensures.generates

pub returns-in_default-clause-refused : goal.returns-in_default-clause-refused
returns-in_default-clause-refused g c none = (c.new.ensures.end, c.new.ensures.disks, refl, refl)

pub format_with-requires-clause-shape : goal.format_with-requires-clause-shape
format_with-requires-clause-shape g c = subst IsInRange c.in-Format.is c.in-Some.ensures.in_range

pub run_with-requires-clause-set : goal.run_with-requires-clause-set
run_with-requires-clause-set g c = c.settings_of.ensures.in_range (subst IsInRange c.in-Run.is c.in-Some.ensures.in_range)

pub gen_with-requires-clause-shape : goal.gen_with-requires-clause-shape
gen_with-requires-clause-shape g c = let ranges = subst IsInRange c.in-Generate.is c.in-Some.ensures.in_range in ranges.2

pub gen_with-requires-clause-set : goal.gen_with-requires-clause-set
gen_with-requires-clause-set g c = let ranges = subst IsInRange c.in-Generate.is c.in-Some.ensures.in_range in c.settings_of-in-Generate.ensures.in_range ranges.3

pub returns-in-Audit-clause-refused : goal.returns-in-Audit-clause-refused
returns-in-Audit-clause-refused g c none =
    absurd (subst IsServe c.in-Audit.is (none _ _ (they_ask (map string_bytes c.args.words.now) c.in-Some.request.job (map string_bytes c.in-Some.request.names.now) c.in-Some.ensures.exact)))

pub returns-in-Audit-clause-formatted : goal.returns-in-Audit-clause-formatted
returns-in-Audit-clause-formatted g c shape names asks =
    not_both c.in-Some.request.job Audit (Format shape) c.in-Audit.is
    (one_job (map string_bytes c.args.words.now) c.in-Some.request.job (map string_bytes c.in-Some.request.names.now) c.in-Some.ensures.exact (Format shape) names asks) (λ same. cc)

pub returns-in-Audit-clause-served : goal.returns-in-Audit-clause-served
returns-in-Audit-clause-served g c tuning names asks =
    not_both c.in-Some.request.job Audit (Run tuning) c.in-Audit.is
    (one_job (map string_bytes c.args.words.now) c.in-Some.request.job (map string_bytes c.in-Some.request.names.now) c.in-Some.ensures.exact (Run tuning) names asks) (λ same. cc)

pub returns-in-Audit-clause-generated : goal.returns-in-Audit-clause-generated
returns-in-Audit-clause-generated g c records shape tuning names asks =
    not_both c.in-Some.request.job Audit (Generate records shape tuning) c.in-Audit.is
    (one_job (map string_bytes c.args.words.now) c.in-Some.request.job (map string_bytes c.in-Some.request.names.now) c.in-Some.ensures.exact (Generate records shape tuning) names asks)
    (λ same. cc)

pub returns-in-Audit-clause-checked : goal.returns-in-Audit-clause-checked
returns-in-Audit-clause-checked g c names asks =
    not_both c.in-Some.request.job Audit Check c.in-Audit.is
    (one_job (map string_bytes c.args.words.now) c.in-Some.request.job (map string_bytes c.in-Some.request.names.now) c.in-Some.ensures.exact Check names asks) (λ same. cc)

pub returns-in-Audit-clause-audited : goal.returns-in-Audit-clause-audited
returns-in-Audit-clause-audited g c names asks = (c.check_with-in-Audit.ensures.checks, refl)

pub check_with-requires-in-Audit : goal.check_with-requires-in-Audit
check_with-requires-in-Audit g c = record { disks = few (map string_bytes c.args.words.now) c.in-Some.request.job (map string_bytes c.in-Some.request.names.now) c.in-Some.ensures.exact _ c.requires.disks }

pub returns-in-Serve-clause-formatted : goal.returns-in-Serve-clause-formatted
returns-in-Serve-clause-formatted g c shape names asks =
    not_both c.in-Some.request.job (Serve c.in-Serve.tuning c.in-Serve.serving) (Format shape) c.in-Serve.is
    (one_job (map string_bytes c.args.words.now) c.in-Some.request.job (map string_bytes c.in-Some.request.names.now) c.in-Some.ensures.exact (Format shape) names asks) (λ same. cc)

pub returns-in-Serve-clause-served : goal.returns-in-Serve-clause-served
returns-in-Serve-clause-served g c tuning names asks =
    not_both c.in-Some.request.job (Serve c.in-Serve.tuning c.in-Serve.serving) (Run tuning) c.in-Serve.is
    (one_job (map string_bytes c.args.words.now) c.in-Some.request.job (map string_bytes c.in-Some.request.names.now) c.in-Some.ensures.exact (Run tuning) names asks) (λ same. cc)

pub returns-in-Serve-clause-checked : goal.returns-in-Serve-clause-checked
returns-in-Serve-clause-checked g c names asks =
    not_both c.in-Some.request.job (Serve c.in-Serve.tuning c.in-Serve.serving) Check c.in-Serve.is
    (one_job (map string_bytes c.args.words.now) c.in-Some.request.job (map string_bytes c.in-Some.request.names.now) c.in-Some.ensures.exact Check names asks) (λ same. cc)

pub returns-in-Serve-clause-audited : goal.returns-in-Serve-clause-audited
returns-in-Serve-clause-audited g c names asks =
    not_both c.in-Some.request.job (Serve c.in-Serve.tuning c.in-Serve.serving) Audit c.in-Serve.is
    (one_job (map string_bytes c.args.words.now) c.in-Some.request.job (map string_bytes c.in-Some.request.names.now) c.in-Some.ensures.exact Audit names asks) (λ same. cc)

pub returns-in-Serve-clause-generated : goal.returns-in-Serve-clause-generated
returns-in-Serve-clause-generated g c records shape tuning names asks =
    not_both c.in-Some.request.job (Serve c.in-Serve.tuning c.in-Serve.serving) (Generate records shape tuning) c.in-Serve.is
    (one_job (map string_bytes c.args.words.now) c.in-Some.request.job (map string_bytes c.in-Some.request.names.now) c.in-Some.ensures.exact (Generate records shape tuning) names asks) (λ same. cc)
