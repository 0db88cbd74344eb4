-- What is read of a list of words is what the words ask for.
use Rattle.std.proofs.Common.{◌≡◌, ◌≢◌, ◌↔◌, ℕ, true, List, [], ◌∷◌, ◌++◌, length, codes, decimal, Option, Some, None, refl, sym, ◌∙◌, ap, subst, arith}
use Rattle.std.proofs.lemmas.List.{append_assoc}
use Rattle.node_words.specs.declared.job.Job.{Job}
use Rattle.node_words.specs.declared.job.Job.TheVariants.{Generate}
use Rattle.node_words.specs.Options.{Offer, split, asked_all}
use Rattle.node_words.specs.Reading.{Answers, Checked}
use Rattle.node_words.specs.Words.{Text, Pair, AreNames, AreOptions, Asks, HasRows, IsCounted, first_words, rows_of, names_in}
use Rattle.node_words.proofs.Splitting.{flat, split_flat, rejoin, dashed}
use Rattle.node_words.proofs.Counting.{distinct, unread_after, all_counted, counted_all}
use Rattle.node_words.proofs.Determining.{one_job, initial}

-- ---- what stands behind the first words

-- what the words behind the first ones ask for, by their one split
pub record AsksBehind (behind : List Text) (job : Job) (names : List Text) : Type 0 where
  pub names_are : names ≡ (split behind).1
  pub counted : IsCounted job
  pub options : AreOptions (split behind).0 (rows_of job)
  pub named : AreNames names

-- the words fall apart behind the first ones
record Falls (words : List Text) (job : Job) (names : List Text) : Type 0 where
  behind : List Text
  list : words ≡ first_words job ++ behind
  asks : AsksBehind behind job names

falls : (words : List Text) (job : Job) (names : List Text) → Asks words job names → Falls words job names
falls words job names asks =
    let cut = split_flat asks.pairs names (dashed job asks.pairs asks.options.known) asks.named.each in
    record {
      behind = flat asks.pairs ++ names;
      list = asks.list ∙ append_assoc (first_words job) (flat asks.pairs) names;
      asks = record {
        names_are = sym (λ i. (cut i).1);
        counted = asks.counted;
        options = subst (λ (pairs : List Pair). AreOptions pairs (rows_of job)) (sym (λ i. (cut i).0)) asks.options;
        named = asks.named;
      };
    }

asks_of : (behind : List Text) (job : Job) (names : List Text) → AsksBehind behind job names → Asks (first_words job ++ behind) job names
asks_of behind job names asks = record {
  pairs = (split behind).0;
  list =
      ap (λ (rest : List Text). first_words job ++ rest) (rejoin behind)
      ∙ sym (append_assoc (first_words job) (flat (split behind).0) (split behind).1)
      ∙ ap (λ (rest : List Text). first_words job ++ flat (split behind).0 ++ rest) (sym asks.names_are);
  counted = asks.counted;
  options = asks.options;
  named = asks.named;
}

-- ---- where the first words end

-- words that begin so have a job's first words in front only where they are just these
abbrev pub Parts : List Text → List Text → Type 0
Parts first behind = (job : Job) (rest : List Text) → first ++ behind ≡ first_words job ++ rest → (first_words job ≡ first) × (rest ≡ behind)

one_word : (word text : Text) (behind rest : List Text) → word ∷ behind ≡ text ∷ rest → (text ∷ [] ≡ word ∷ []) × (rest ≡ behind)
one_word word text behind rest is = (cc, cc)

pub one_part : (word : Text) (behind : List Text) → word ≢ codes "gen" → Parts (word ∷ []) behind
one_part word behind other (Generate n shape tuning) rest is = absurd (other cc)
one_part word behind other _ rest is = one_word word _ behind rest is

two_words : (a b c d : Text) (behind rest : List Text) → a ∷ b ∷ behind ≡ c ∷ d ∷ rest → (c ∷ d ∷ [] ≡ a ∷ b ∷ []) × (rest ≡ behind)
two_words a b c d behind rest is = (cc, cc)

-- lists whose first bytes differ
first_differ : {A : Type 0} (words other : List Text) → (initial words ≡ initial other → ⊥) → words ≡ other → A
first_differ words other differ is = absurd (differ (ap initial is))

pub two_parts : (text : Text) (behind : List Text) → Parts (codes "gen" ∷ text ∷ []) behind
two_parts text behind (Generate n shape tuning) rest is = two_words _ _ _ _ behind rest is
two_parts text behind _ rest is = first_differ _ _ (λ wrong. omega arith) is

other_than_gen : (word : Text) → (initial (word ∷ []) ≡ 103 → ⊥) → word ≢ codes "gen"
other_than_gen word differ is = differ (ap (λ (text : Text). initial (text ∷ [])) is)

parts_of : (job : Job) (behind : List Text) → Parts (first_words job) behind
parts_of (Generate n shape tuning) behind = two_parts _ behind
parts_of _ behind = one_part _ behind (other_than_gen _ (λ wrong. omega arith))

-- no job with other first words is asked for
pub record Behind (first behind : List Text) (job : Job) (names : List Text) : Type 0 where
  pub first_are : first_words job ≡ first
  pub asks : AsksBehind behind job names

pub stands_behind : (first behind : List Text) → Parts first behind → (job : Job) (names : List Text) → Asks (first ++ behind) job names → Behind first behind job names
stands_behind first behind parts job names asks =
    let f = falls (first ++ behind) job names asks in
    let part = parts job f.behind f.list in
    record { first_are = part.0; asks = subst (λ (rest : List Text). AsksBehind rest job names) part.1 f.asks }

pub none_fits : (first behind : List Text) (pairs : List Pair) → Parts first behind → pairs ≡ (split behind).0 → ((job : Job) → first_words job ≡ first → HasRows pairs (rows_of job) → ⊥)
    → (job : Job) (names : List Text) → Asks (first ++ behind) job names → ⊥
none_fits first behind pairs parts are none job names asks =
    let b = stands_behind first behind parts job names asks in
    none job b.first_are (subst (λ (p : List Pair). HasRows p (rows_of job)) (sym are) b.asks.options.values)

-- ---- a list asks for one thing at most

pub asks_once : (words : List Text) (j k : Job) (m n : List Text) → Asks words j m → Asks words k n → ◌≡◌ {A = Job × List Text} (j, m) (k, n)
asks_once words j k m n one two =
    let f = falls words j m one in
    let b = stands_behind (first_words j) f.behind (parts_of j f.behind) k n (subst (λ (w : List Text). Asks w k n) f.list two) in
    let job = one_job (split f.behind).0 j k (sym b.first_are) f.asks.counted b.asks.counted f.asks.options.values b.asks.options.values in
    let names = f.asks.names_are ∙ sym b.asks.names_are in
    λ i. (job i, names i)

pub exact : (words : List Text) (read : Option (Job × List Text)) → Answers words read → (job : Job) (names : List Text) → (read ≡ Some (job, names)) ↔ Asks words job names
exact words None never job names = (λ wrong. cc, λ asks. absurd (never job names asks))
exact words (Some r) asks job names = (
  λ is. let same : r ≡ (job, names) = cc in subst (λ (x : Job × List Text). Asks words x.0 x.1) same asks,
  λ other. ap Some (asks_once words r.0 job r.1 names asks other),
)

-- ---- no option is left

-- no job has two rows of one name
distinct_rows : (job : Job) → distinct (names_in (rows_of job)) ≡ true
distinct_rows (Generate n shape tuning) = refl
distinct_rows _ = refl

-- the options in front of some words
abbrev pub offer_of : List Text → Offer
offer_of behind = record { pairs = (split behind).0; unread = length (split behind).0 }

-- how many of them are left when each option of the job was asked for
abbrev pub left_after : List Text → Job → ℕ
left_after behind job = (asked_all (offer_of behind) (names_in (rows_of job))).unread

none_left : (behind : List Text) (job : Job) → HasRows (split behind).0 (rows_of job) → left_after behind job ≡ 0 → AreOptions (split behind).0 (rows_of job)
none_left behind job has none =
    let names = names_in (rows_of job) in
    let after = unread_after names (offer_of behind) in
    let all = all_counted names (distinct_rows job) (split behind).0 (omega arith) in
    record { known = all.0; once = all.1; values = has }

left_none : (behind : List Text) (job : Job) → AreOptions (split behind).0 (rows_of job) → left_after behind job ≡ 0
left_none behind job options =
    let names = names_in (rows_of job) in
    let after = unread_after names (offer_of behind) in
    let all = counted_all names (distinct_rows job) (split behind).0 options.known options.once in
    omega arith

-- ---- the answer

pub answer : (first behind : List Text) (job : Job) (names : List Text) (read : Option (Job × List Text)) → Parts first behind → first_words job ≡ first → IsCounted job
    → HasRows (split behind).0 (rows_of job) → names ≡ (split behind).1 → Checked job (left_after behind job) names read → Answers (first ++ behind) read
answer first behind job names None parts is counted has names_are checked = λ other texts asks.
    let b = stands_behind first behind parts other texts asks in
    let same = one_job (split behind).0 job other (is ∙ sym b.first_are) counted b.asks.counted has b.asks.options.values in
    let options = subst (λ (k : Job). AreOptions (split behind).0 (rows_of k)) (sym same) b.asks.options in
    checked (left_none behind job options) (subst AreNames (b.asks.names_are ∙ sym names_are) b.asks.named)
answer first behind job names (Some r) parts is counted has names_are checked =
    let asks = asks_of behind job names (record { names_are = names_are; counted = counted; options = none_left behind job has checked.0; named = checked.1 }) in
    let whole : Asks (first ++ behind) job names = subst (λ (f : List Text). Asks (f ++ behind) job names) is asks in
    subst (λ (x : Job × List Text). Asks (first ++ behind) x.0 x.1) (sym checked.2) whole

-- a job of one word has no number
pub plain_counted : (job : Job) (word : Text) → first_words job ≡ word ∷ [] → IsCounted job
plain_counted (Generate n shape tuning) word is = let wrong = ap length is in absurd (omega arith)
plain_counted _ word is = tt

pub settled : (first behind : List Text) (start after : Offer) (job : Job) (names : List Text) (read : Option (Job × List Text))
    → Parts first behind → first_words job ≡ first → IsCounted job → start.pairs ≡ (split behind).0 → start.unread ≡ length start.pairs → after ≡ asked_all start (names_in (rows_of job))
    → HasRows start.pairs (rows_of job) → names ≡ (split behind).1 → Checked job after.unread names read → Answers (first ++ behind) read
settled first behind start after job names read parts is counted pairs unread asked has names_are checked =
    let same : start ≡ offer_of behind = λ i. record { pairs = pairs i; unread = (unread ∙ ap (λ (p : List Pair). length p) pairs) i } in
    let left : after.unread ≡ left_after behind job = (λ i. (asked i).unread) ∙ (λ i. (asked_all (same i) (names_in (rows_of job))).unread) in
    answer first behind job names read parts is counted (subst (λ (p : List Pair). HasRows p (rows_of job)) pairs has) names_are
    (subst (λ (u : ℕ). Checked job u names read) left checked)

-- what stands behind `gen`, where a number stands there
pub at_number : (texts behind : List Text) (text : Text) (n : ℕ) (read : Option (Job × List Text)) → texts ≡ text ∷ behind → text ≡ decimal n
    → Answers (codes "gen" ∷ decimal n ∷ behind) read → Answers (codes "gen" ∷ texts) read
at_number texts behind text n read list spelled answers =
    subst (λ (t : List Text). Answers (codes "gen" ∷ t) read) (sym (list ∙ λ i. spelled i ∷ behind)) answers

-- the first word is read as it stands
pub at_word : (texts behind : List Text) (word text : Text) (read : Option (Job × List Text)) → texts ≡ word ∷ behind → text ≡ word → Answers (text ∷ behind) read
    → (job : Job) (names : List Text) → (read ≡ Some (job, names)) ↔ Asks texts job names
at_word texts behind word text read list is answers =
    exact texts read (subst (λ (t : List Text). Answers t read) (sym (list ∙ λ i. sym is i ∷ behind)) answers)
