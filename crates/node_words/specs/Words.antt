-- Crate node_words. The lists of words that are accepted, and what they ask for.
use Rattle.std.specs.Prelude.{ℕ, ◌≤◌, Bool, true, false, List, [], ◌∷◌, ◌++◌, length, flat_map, map, codes, decimal, Option, Some, None, ◌≡◌, ◌≢◌, Contains, bytes_eq, if◌then◌else◌}
use Rattle.std.specs.List.{AllByRecursion}
use Rattle.std.specs.Int.{IsPowerOfTwo}
use Rattle.node_words.specs.declared.job.Shape.{Shape}
use Rattle.node_words.specs.declared.job.Tuning.{Tuning}
use Rattle.node_words.specs.declared.job.Serving.{Serving}
use Rattle.node_words.specs.declared.job.Job.{Job}
use Rattle.node_words.specs.declared.job.Job.TheVariants as job

-- the bytes of a word
abbrev pub Text : Type 0
Text = List ℕ

-- an option with its value
abbrev pub Pair : Type 0
Pair = Text × Text

-- ---- what an option may say

-- a number in a range, a power of two in a range, or `yes` or `no`; with the value that is asked for
pub data Value : Type 0 where
  number : (least greatest default value : ℕ) → Value
  power : (least greatest default value : ℕ) → Value
  choice : (value : Bool) → Value

-- how a choice is spelled
abbrev pub yes_no : Bool → Text
yes_no true = codes "yes"
yes_no false = codes "no"

-- decimal digits without a leading zero, in the range
pub record IsNumber (least greatest : ℕ) (text : Text) (value : ℕ) : Type 0 where
  pub spelled : text ≡ decimal value
  pub low : least ≤ value
  pub high : value ≤ greatest

-- what was given is this value; where nothing was given it is the default, of a choice `no`
abbrev pub Says : Option Text → Value → Type 0
Says None (number least greatest default value) = value ≡ default
Says (Some text) (number least greatest default value) = IsNumber least greatest text value
Says None (power least greatest default value) = value ≡ default
Says (Some text) (power least greatest default value) = IsNumber least greatest text value × IsPowerOfTwo value
Says None (choice value) = value ≡ false
Says (Some text) (choice value) = text ≡ yes_no value

-- ---- the table

-- an option's name with its range, its default, and where its value goes
abbrev pub Row : Type 0
Row = Text × Value

-- the options of a shape
abbrev pub shape_rows : Shape → List Row
shape_rows shape =
    (codes "--block-size", power 16384 1048576 1048576 shape.block_size)
    ∷ (codes "--blocks", number 8 65536 64 shape.blocks)
    ∷ []

-- the options of a run
abbrev pub tuning_rows : Tuning → List Row
tuning_rows tuning =
    (codes "--sprigs", number 1 256 16 tuning.sprigs)
    ∷ (codes "--lwm", number 0 99 50 tuning.lwm)
    ∷ (codes "--pending", number 4 64 16 tuning.pending)
    ∷ (codes "--cache", number 0 64 8 tuning.cache)
    ∷ (codes "--commit", choice tuning.commit)
    ∷ (codes "--raid-age", number 0 315360000 86400 tuning.raid_age)
    ∷ []

-- the options of how connections are served
abbrev pub serving_rows : Serving → List Row
serving_rows serving =
    (codes "--port", number 1 65535 3000 serving.port)
    ∷ (codes "--links", number 0 1000000 0 serving.links)
    ∷ (codes "--seats", number 1 64 4 serving.seats)
    ∷ (codes "--idle", number 0 86400 60 serving.idle)
    ∷ []

-- ---- the commands

-- the words in front of a job's options: the command word, and behind `gen` the number of records
abbrev pub first_words : Job → List Text
first_words (job.Format shape) = codes "format" ∷ []
first_words (job.Run tuning) = codes "run" ∷ []
first_words (job.Serve tuning serving) = codes "serve" ∷ []
first_words job.Check = codes "check" ∷ []
first_words job.Audit = codes "audit" ∷ []
first_words (job.Generate count shape tuning) = codes "gen" ∷ decimal count ∷ []

-- a number among them is from one to a million
abbrev pub IsCounted : Job → Type 0
IsCounted (job.Generate count shape tuning) = (1 ≤ count) × (count ≤ 1000000)
IsCounted _ = Unit {0}

-- the options of a job
abbrev pub rows_of : Job → List Row
rows_of (job.Format shape) = shape_rows shape
rows_of (job.Run tuning) = tuning_rows tuning
rows_of (job.Serve tuning serving) = tuning_rows tuning ++ serving_rows serving
rows_of job.Check = []
rows_of job.Audit = []
rows_of (job.Generate count shape tuning) = shape_rows shape ++ tuning_rows tuning

-- ---- device names

-- not empty, and no dash in front
abbrev pub IsName : Text → Type 0
IsName [] = ⊥
IsName (byte ∷ bytes) = byte ≢ 45

-- each differs from the later ones
abbrev pub AllDiffer : List Text → Type 0
AllDiffer [] = Unit {0}
AllDiffer (text ∷ texts) = AllByRecursion (λ other. text ≢ other) texts × AllDiffer texts

-- 1 to 16 names that differ
pub record AreNames (names : List Text) : Type 0 where
  pub some : 1 ≤ length names
  pub not_many : length names ≤ 16
  pub each : AllByRecursion IsName names
  pub differ : AllDiffer names

-- ---- the whole list

-- the options that have a row
abbrev pub names_in : List Row → List Text
names_in rows = map (λ row. row.0) rows

-- the value that an option was given
abbrev pub given : Text → List Pair → Option Text
given name [] = None
given name (pair ∷ pairs) = if bytes_eq pair.0 name then Some pair.1 else given name pairs

-- the options that were given say what stands in the rows
abbrev pub HasRows : List Pair → List Row → Type 0
HasRows pairs rows = AllByRecursion (λ row. Says (given row.0 pairs) row.1) rows

-- each option is one of the job's, is given at most once, and says what the job has
pub record AreOptions (pairs : List Pair) (rows : List Row) : Type 0 where
  pub known : AllByRecursion (λ pair. Contains (names_in rows) pair.0) pairs
  pub once : AllDiffer (map (λ pair. pair.0) pairs)
  pub values : HasRows pairs rows

-- the words are the first words of a job, options with their values in any order, and device names
pub record Asks (words : List Text) (job : Job) (names : List Text) : Type 0 where
  pub pairs : List Pair
  pub list : words ≡ first_words job ++ flat_map (λ pair. pair.0 ∷ pair.1 ∷ []) pairs ++ names
  pub counted : IsCounted job
  pub options : AreOptions pairs (rows_of job)
  pub named : AreNames names
