-- The options of a job say one value at most.
use Rattle.std.proofs.Common.{◌≡◌, ℕ, ◌<◌, ◌^◌, Bool, true, false, List, [], ◌∷◌, ◌++◌, Option, Some, None, refl, sym, ◌∙◌, ap, lit<, arith}
use Rattle.std.proofs.lemmas.Fmt.{decimal_injective}
use Rattle.node_words.specs.declared.job.Shape.{Shape}
use Rattle.node_words.specs.declared.job.Tuning.{Tuning}
use Rattle.node_words.specs.declared.job.Serving.{Serving}
use Rattle.node_words.specs.declared.job.Job.{Job}
use Rattle.node_words.specs.declared.job.Job.TheVariants.{Format, Run, Serve, Check, Audit, Generate}
use Rattle.node_words.specs.Words.{Text, Pair, number, power, choice, yes_no, Says, Row, HasRows, shape_rows, tuning_rows, serving_rows, rows_of, first_words, IsCounted}
use Rattle.node_words.proofs.Numbers.{one_number}

one_value : (said : Option Text) (least greatest default m n : ℕ) → greatest < 2 ^ 64 → Says said (number least greatest default m) → Says said (number least greatest default n) → m ≡ n
one_value None least greatest default m n small one two = one ∙ sym two
one_value (Some text) least greatest default m n small one two = one_number least greatest text m n small one two

one_power : (said : Option Text) (least greatest default m n : ℕ) → greatest < 2 ^ 64 → Says said (power least greatest default m) → Says said (power least greatest default n) → m ≡ n
one_power None least greatest default m n small one two = one ∙ sym two
one_power (Some text) least greatest default m n small one two = one_number least greatest text m n small one.0 two.0

yes_is_no : {A : Type 0} → yes_no true ≡ yes_no false → A
yes_is_no is = cc

one_choice : (said : Option Text) (a b : Bool) → Says said (choice a) → Says said (choice b) → a ≡ b
one_choice None a b one two = one ∙ sym two
one_choice (Some text) true true one two = refl
one_choice (Some text) false false one two = refl
one_choice (Some text) true false one two = yes_is_no (sym one ∙ two)
one_choice (Some text) false true one two = yes_is_no (sym two ∙ one)

-- the rows in front, and those behind them
pub apart : (pairs : List Pair) (rows more : List Row) → HasRows pairs (rows ++ more) → HasRows pairs rows × HasRows pairs more
apart pairs [] more has = (tt, has)
apart pairs (row ∷ rows) more has = let rest = apart pairs rows more has.1 in ((has.0, rest.0), rest.1)

one_shape : (pairs : List Pair) (s t : Shape) → HasRows pairs (shape_rows s) → HasRows pairs (shape_rows t) → s ≡ t
one_shape pairs s t one two =
    let size = one_power _ 16384 1048576 1048576 s.block_size t.block_size (lit< tt) one.0 two.0 in
    let blocks = one_value _ 8 65536 64 s.blocks t.blocks (lit< tt) one.1.0 two.1.0 in
    λ i. record { block_size = size i; blocks = blocks i }

one_tuning : (pairs : List Pair) (s t : Tuning) → HasRows pairs (tuning_rows s) → HasRows pairs (tuning_rows t) → s ≡ t
one_tuning pairs s t one two =
    let sprigs = one_value _ 1 256 16 s.sprigs t.sprigs (lit< tt) one.0 two.0 in
    let lwm = one_value _ 0 99 50 s.lwm t.lwm (lit< tt) one.1.0 two.1.0 in
    let pending = one_value _ 4 64 16 s.pending t.pending (lit< tt) one.1.1.0 two.1.1.0 in
    let cache = one_value _ 0 64 8 s.cache t.cache (lit< tt) one.1.1.1.0 two.1.1.1.0 in
    let commit = one_choice _ s.commit t.commit one.1.1.1.1.0 two.1.1.1.1.0 in
    let raid_age = one_value _ 0 315360000 86400 s.raid_age t.raid_age (lit< tt) one.1.1.1.1.1.0 two.1.1.1.1.1.0 in
    λ i. record { sprigs = sprigs i; lwm = lwm i; pending = pending i; cache = cache i; commit = commit i; raid_age = raid_age i }

one_serving : (pairs : List Pair) (s t : Serving) → HasRows pairs (serving_rows s) → HasRows pairs (serving_rows t) → s ≡ t
one_serving pairs s t one two =
    let port = one_value _ 1 65535 3000 s.port t.port (lit< tt) one.0 two.0 in
    let links = one_value _ 0 1000000 0 s.links t.links (lit< tt) one.1.0 two.1.0 in
    let seats = one_value _ 1 64 4 s.seats t.seats (lit< tt) one.1.1.0 two.1.1.0 in
    let idle = one_value _ 0 86400 60 s.idle t.idle (lit< tt) one.1.1.1.0 two.1.1.1.0 in
    λ i. record { port = port i; links = links i; seats = seats i; idle = idle i }

-- ---- the first words tell the command

-- the first byte of the first word
abbrev pub initial : List Text → ℕ
initial [] = 0
initial ([] ∷ words) = 0
initial ((byte ∷ bytes) ∷ words) = byte

-- the second word
abbrev second : List Text → Text
second (word ∷ text ∷ words) = text
second words = []

pub one_job : (pairs : List Pair) (j k : Job) → first_words j ≡ first_words k → IsCounted j → IsCounted k → HasRows pairs (rows_of j) → HasRows pairs (rows_of k) → j ≡ k
one_job pairs (Format s) (Format t) same some more one two = ap Format (one_shape pairs s t one two)
one_job pairs (Run s) (Run t) same some more one two = ap Run (one_tuning pairs s t one two)
one_job pairs (Serve s u) (Serve t v) same some more one two =
    let a = apart pairs (tuning_rows s) (serving_rows u) one in
    let b = apart pairs (tuning_rows t) (serving_rows v) two in
    let tuning = one_tuning pairs s t a.0 b.0 in
    let serving = one_serving pairs u v a.1 b.1 in
    λ i. Serve (tuning i) (serving i)
one_job pairs Check Check same some more one two = refl
one_job pairs Audit Audit same some more one two = refl
one_job pairs (Generate m s t) (Generate n u v) same some more one two =
    let a = apart pairs (shape_rows s) (tuning_rows t) one in
    let b = apart pairs (shape_rows u) (tuning_rows v) two in
    let count = decimal_injective m n (let high = some.1 in omega arith) (let high = more.1 in omega arith) (ap second same) in
    let shape = one_shape pairs s u a.0 b.0 in
    let tuning = one_tuning pairs t v a.1 b.1 in
    λ i. Generate (count i) (shape i) (tuning i)
one_job pairs j k same some more one two = let wrong = ap initial same in absurd (omega arith)
