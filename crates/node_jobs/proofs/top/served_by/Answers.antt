use Rattle.std.proofs.Common.{map, subst, sym}
use Rattle.std.specs.Prelude.{string_bytes}
use Rattle.node_words.specs.declared.job.Job.TheVariants.{Serve}
use Rattle.node_jobs.proofs.Asked.{nothing}
use Rattle.node_jobs.proofs.Serving.{asked, only, in_range, AreAsked, IsOnly, AreInRange}
use Rattle.node_jobs.proofs.top.served_by.Goals as goal

pub returns-in_err-read_words-clause-asked : goal.returns-in_err-read_words-clause-asked
returns-in_err-read_words-clause-asked c =
    subst (AreAsked (map string_bytes c.args.words.now)) (sym c.from_residual.ensures)
    (λ tuning serving names asks. nothing (map string_bytes c.args.words.now) c.in_err-read_words.ensures.exact (Serve tuning serving) names asks)

pub returns-clause-asked : goal.returns-clause-asked
returns-clause-asked c =
    subst (AreAsked (map string_bytes c.args.words.now)) (sym c.serve_of.ensures)
    (asked (map string_bytes c.args.words.now) c.in_ok-read_words.field-0.job (map string_bytes c.in_ok-read_words.field-0.names.now) c.in_ok-read_words.ensures.exact)

pub returns-clause-only : goal.returns-clause-only
returns-clause-only c =
    subst (IsOnly (map string_bytes c.args.words.now)) (sym c.serve_of.ensures)
    (only (map string_bytes c.args.words.now) c.in_ok-read_words.field-0.job (map string_bytes c.in_ok-read_words.field-0.names.now) c.in_ok-read_words.ensures.exact)

pub returns-clause-range : goal.returns-clause-range
returns-clause-range c = subst AreInRange (sym c.serve_of.ensures) (in_range c.in_ok-read_words.field-0.job c.in_ok-read_words.ensures.in_range)
