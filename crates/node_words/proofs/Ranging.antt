-- What the options say is in range.
use Rattle.std.proofs.Common.{◌≡◌, ◌↔◌, ℕ, ◌^◌, ◌<◌, ◌≤◌, List, Option, Some, None, refl, ◌⊎◌, inl, inr, map, string_bytes, IfSome, lit≤, arith}
use Rattle.std.specs.Int.{IsPowerOfTwo}
use Rattle.std.proofs.lemmas.Bool.{cases_lt}
use Rattle.std.proofs.Math.Pow.{pow_mono}
use Rattle.node_words.specs.declared.job.Shape.{Shape}
use Rattle.node_words.specs.declared.job.Tuning.{Tuning}
use Rattle.node_words.specs.declared.job.Serving.{Serving}
use Rattle.node_words.specs.declared.job.Job.{Job}
use Rattle.node_words.specs.declared.job.Job.TheVariants.{Format, Run, Serve, Check, Audit, Generate}
use Rattle.node_words.specs.declared.request.Request.{Request}
use Rattle.node_words.specs.Words.{Text, Pair, Says, number, power, HasRows, shape_rows, tuning_rows, serving_rows, rows_of, IsCounted, Asks}
use Rattle.node_words.specs.Ranges.{IsBlockSize, IsShape, IsTuning, IsServing, IsInRange}
use Rattle.node_words.specs.Reading.{asked_for}
use Rattle.node_words.proofs.Determining.{apart}

number_in : (said : Option Text) (least greatest default n : ℕ) → least ≤ default → default ≤ greatest → Says said (number least greatest default n) → (least ≤ n) × (n ≤ greatest)
number_in None least greatest default n low high is = (omega arith, omega arith)
number_in (Some text) least greatest default n low high is = (is.low, is.high)

block_size_of : (n : ℕ) → 16384 ≤ n → n ≤ 1048576 → IsPowerOfTwo n → IsBlockSize n
block_size_of n low high is = (is.0, above (cases_lt is.0 14), below (cases_lt 20 is.0), is.1)
  where
    above : (is.0 < 14) ⊎ (14 ≤ is.0) → 14 ≤ is.0
    above (inl less) = let few : is.0 ≤ 13 = omega arith in let p : 2 ^ is.0 ≤ 2 ^ 13 = pow_mono few in let e = is.1 in absurd (omega arith)
    above (inr more) = more

    below : (20 < is.0) ⊎ (is.0 ≤ 20) → is.0 ≤ 20
    below (inl more) = let many : 21 ≤ is.0 = omega arith in let p : 2 ^ 21 ≤ 2 ^ is.0 = pow_mono many in let e = is.1 in absurd (omega arith)
    below (inr less) = less

power_in : (said : Option Text) (n : ℕ) → Says said (power 16384 1048576 1048576 n) → IsBlockSize n
power_in None n is = (20, lit≤ tt, lit≤ tt, is)
power_in (Some text) n is = block_size_of n is.0.low is.0.high is.1

shape_in : (pairs : List Pair) (shape : Shape) → HasRows pairs (shape_rows shape) → IsShape shape
shape_in pairs shape has = record { block_size = power_in _ shape.block_size has.0; blocks = number_in _ 8 65536 64 shape.blocks (lit≤ tt) (lit≤ tt) has.1.0 }

tuning_in : (pairs : List Pair) (tuning : Tuning) → HasRows pairs (tuning_rows tuning) → IsTuning tuning
tuning_in pairs tuning has = record {
  sprigs = number_in _ 1 256 16 tuning.sprigs (lit≤ tt) (lit≤ tt) has.0;
  lwm = (number_in _ 0 99 50 tuning.lwm (lit≤ tt) (lit≤ tt) has.1.0).1;
  pending = number_in _ 4 64 16 tuning.pending (lit≤ tt) (lit≤ tt) has.1.1.0;
  cache = (number_in _ 0 64 8 tuning.cache (lit≤ tt) (lit≤ tt) has.1.1.1.0).1;
  raid_age = (number_in _ 0 315360000 86400 tuning.raid_age (lit≤ tt) (lit≤ tt) has.1.1.1.1.1.0).1;
}

serving_in : (pairs : List Pair) (serving : Serving) → HasRows pairs (serving_rows serving) → IsServing serving
serving_in pairs serving has = record {
  port = number_in _ 1 65535 3000 serving.port (lit≤ tt) (lit≤ tt) has.0;
  links = (number_in _ 0 1000000 0 serving.links (lit≤ tt) (lit≤ tt) has.1.0).1;
  seats = number_in _ 1 64 4 serving.seats (lit≤ tt) (lit≤ tt) has.1.1.0;
  idle = (number_in _ 0 86400 60 serving.idle (lit≤ tt) (lit≤ tt) has.1.1.1.0).1;
}

job_in : (pairs : List Pair) (job : Job) → IsCounted job → HasRows pairs (rows_of job) → IsInRange job
job_in pairs (Format shape) counted has = shape_in pairs shape has
job_in pairs (Run tuning) counted has = tuning_in pairs tuning has
job_in pairs (Serve tuning serving) counted has =
    let parts = apart pairs (tuning_rows tuning) (serving_rows serving) has in
    (tuning_in pairs tuning parts.0, serving_in pairs serving parts.1)
job_in pairs Check counted has = tt
job_in pairs Audit counted has = tt
job_in pairs (Generate count shape tuning) counted has =
    let parts = apart pairs (shape_rows shape) (tuning_rows tuning) has in
    (counted.0, counted.1, shape_in pairs shape parts.0, tuning_in pairs tuning parts.1)

-- what was read is in range
pub read_in : (words : List Text) (read : Option Request) → ((job : Job) (names : List Text) → (asked_for read ≡ Some (job, names)) ↔ Asks words job names)
    → IfSome read (λ request. IsInRange request.job)
read_in words None exact = tt
read_in words (Some request) exact =
    let asks = (exact request.job (map string_bytes request.names.now)).0 refl in job_in asks.pairs request.job asks.counted asks.options.values
