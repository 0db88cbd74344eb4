-- Crate node_words. What is prepared for a list of words.
use Rattle.std.specs.Prelude.{List, ◌≡◌}
use Rattle.node_words.specs.declared.job.Job.{Job}
use Rattle.node_words.specs.declared.plan.Plan.{Plan}
use Rattle.node_words.specs.Words.{Text, Asks}
use Rattle.node_words.specs.Planning.{made_length, serving_of}

-- the words ask for a job that is prepared so
pub record IsPlanned (words : List Text) (plan : Plan) : Type 0 where
  pub job : Job
  pub asks : Asks words job plan.names
  pub make_len : plan.make_len ≡ made_length job
  pub port : plan.port ≡ (serving_of job).port
  pub links : plan.links ≡ (serving_of job).links
  pub idle : plan.idle ≡ (serving_of job).idle
