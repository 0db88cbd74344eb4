use Rattle.std.proofs.Common.{◌∙◌, sym, map}
use Rattle.std.specs.Prelude.{string_bytes}
use Rattle.node_jobs.proofs.Asked.{nothing}
use Rattle.node_prog.proofs.Opening.{read_alone, read_and_written}
use Rattle.node_prog.proofs.devices.Way.of.Goals as goal

pub returns-in_default-read_words : goal.returns-in_default-read_words
returns-in_default-read_words c job names asks length = nothing (map string_bytes c.args.words.now) c.in_default-read_words.ensures.exact job names asks

pub returns-in-Check : goal.returns-in-Check
returns-in-Check c job names asks length =
    read_alone (map string_bytes c.args.words.now) c.in-Some-read_words.request.job (map string_bytes c.in-Some-read_words.request.names.now)
    c.in-Some-read_words.ensures.exact c.in-Check.is job names asks

pub returns-in_default-job : goal.returns-in_default-job
returns-in_default-job c job names asks length =
    read_and_written (map string_bytes c.args.words.now) c.in-Some-read_words.request.job (map string_bytes c.in-Some-read_words.request.names.now)
    c.in-Some-read_words.ensures.exact c.in_default-job.not-Check c.in_default-job.not-Audit job names asks (sym c.in_default.is ∙ length)
