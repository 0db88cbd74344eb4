-- A ring, while a number enters or leaves.
use Rattle.std.proofs.Common.{◌≡◌, ◌≢◌, ℕ, zero, suc, ◌+◌, ◌-◌, ◌<◌, ◌≤◌, Bool, true, false, not, ◌||◌, eqb, List, [], ◌∷◌, ◌++◌, ◌⊎◌, inl, inr, length, get_or}
use Rattle.std.proofs.Common.{set, replicate, refl, ap, sym, subst, ◌∙◌, ⊎_elim, arith}
use Rattle.std.specs.List.{AllByRecursion, IsDistinct}
use Rattle.std.proofs.lemmas.Bool.{cases_lt, eq-eqb, ne_eqb, eqb-true, cond-true, cond-false, true≢false}
use Rattle.std.proofs.lemmas.List.{get_or-set_same, get_or-set_other, get_or-replicate, length-set, length-replicate, length-append}
use Rattle.std.proofs.lemmas.Map.Keys.{IsDistinct-head, IsDistinct-tail}
use Rattle.std.proofs.Math.ListN.{get_or-eq_default}
use Rattle.model_device.specs.Book.{is_in}
use Rattle.defrag_queue.specs.Queues.{Marked}
use Rattle.defrag_queue.specs.Rings.{link_of, walk, Linked, Ring}
use Rattle.std.specs.Bool.{beq}
use Rattle.std.proofs.Math.Bool.{or-true}
use Rattle.defrag_queue.proofs.Marks.{without, stays, read_mark, differs as mark_differs}

-- ---- the numbers of a list

abbrev pub In : ℕ → List ℕ → Type 0
In y [] = ⊥
In y (x ∷ xs) = (y ≡ x) ⊎ In y xs

abbrev pub Apart : List ℕ → Type 0
Apart [] = Unit {0}
Apart (x ∷ xs) = (In x xs → ⊥) × Apart xs

in_left : (y : ℕ) (xs ys : List ℕ) → In y xs → In y (xs ++ ys)
in_left y [] ys h = absurd h
in_left y (x ∷ xs) ys (inl e) = inl e
in_left y (x ∷ xs) ys (inr i) = inr (in_left y xs ys i)

in_right : (y : ℕ) (xs ys : List ℕ) → In y ys → In y (xs ++ ys)
in_right y [] ys h = h
in_right y (x ∷ xs) ys h = inr (in_right y xs ys h)

is_in-from : (y : ℕ) (xs : List ℕ) → In y xs → is_in xs y ≡ true
is_in-from y [] h = absurd h
is_in-from y (x ∷ xs) (inl e) = ap (λ t. t || is_in xs y) (eq-eqb x y (sym e))
is_in-from y (x ∷ xs) (inr i) = ap (λ t. eqb x y || t) (is_in-from y xs i) ∙ or-true (eqb x y)

pub in_from : (y : ℕ) (xs : List ℕ) → is_in xs y ≡ true → In y xs
in_from y [] e = absurd (true≢false (sym e))
in_from y (x ∷ xs) e = by (eqb x y) refl (in_from y xs)
  where
    by : (t : Bool) → eqb x y ≡ t → (is_in xs y ≡ true → In y xs) → In y (x ∷ xs)
    by true is rest = inl (sym (eqb-true x y is))
    by false is rest = inr (rest (sym (ap (λ t. t || is_in xs y) is) ∙ e))

pub not_in : (y : ℕ) (xs : List ℕ) → is_in xs y ≡ false → In y xs → ⊥
not_in y xs out i = true≢false (sym (is_in-from y xs i) ∙ out)

out_from : (y : ℕ) (xs : List ℕ) → (In y xs → ⊥) → is_in xs y ≡ false
out_from y xs n = by (is_in xs y) refl
  where
    by : (t : Bool) → is_in xs y ≡ t → is_in xs y ≡ false
    by true is = absurd (n (in_from y xs is))
    by false is = is

differs : (x : ℕ) (xs : List ℕ) → AllByRecursion (λ y. eqb x y ≡ false) xs → In x xs → ⊥
differs x [] h i = i
differs x (y ∷ ys) h (inl e) = true≢false (sym (eq-eqb x y e) ∙ h.0)
differs x (y ∷ ys) h (inr i) = differs x ys h.1 i

apart : (xs : List ℕ) → IsDistinct eqb xs → Apart xs
apart [] h = tt
apart (x ∷ xs) h = (differs x xs (IsDistinct-head eqb x xs h), apart xs (IsDistinct-tail eqb x xs h))

split_at : (b : ℕ) (q : List ℕ) → In b q → (xs : List ℕ) × (ys : List ℕ) × (q ≡ xs ++ b ∷ ys)
split_at b [] h = absurd h
split_at b (x ∷ xs) (inl e) = ([], xs, ap (λ k. k ∷ xs) (sym e))
split_at b (x ∷ xs) (inr i) = let r = split_at b xs i in (x ∷ r.0, r.1, ap (λ l. x ∷ l) r.2)

around : (b : ℕ) (xs ys : List ℕ) → Apart (xs ++ b ∷ ys) → (In b xs → ⊥) × (In b ys → ⊥)
around b [] ys d = (λ i. i, d.0)
around b (x ∷ xs) ys d =
    let rest = around b xs ys d.1 in
    (λ i. ⊎_elim (λ (e : b ≡ x). d.0 (in_right x xs (b ∷ ys) (inl (sym e)))) (λ (j : In b xs). rest.0 j) i, rest.1)

without_split : (b : ℕ) (xs ys : List ℕ) → (In b xs → ⊥) → (In b ys → ⊥) → without b (xs ++ b ∷ ys) ≡ xs ++ ys
without_split b [] ys n m =
    cond-false (not (eqb b b)) (b ∷ without b ys) (without b ys) (ap not (eq-eqb b b refl)) ∙ stays b ys (out_from b ys m)
without_split b (x ∷ xs) ys n m =
    cond-true (not (eqb x b)) (x ∷ without b (xs ++ b ∷ ys)) (without b (xs ++ b ∷ ys)) (ap not (ne_eqb x b (λ e. n (inl (sym e)))))
    ∙ ap (λ l. x ∷ l) (without_split b xs ys (λ i. n (inr i)) m)

-- ---- a number is taken out

module _ (f g f' g' : ℕ → ℕ) (end b : ℕ) (f_at : f' (g b) ≡ f b) (f_off : (y : ℕ) → y ≢ g b → f' y ≡ f y)
    (g_at : g' (f b) ≡ g b) (g_off : (y : ℕ) → y ≢ f b → g' y ≡ g y) where
  framed : (x : ℕ) (ys : List ℕ) → (In (g b) (x ∷ ys) → ⊥) → (In (f b) ys → ⊥) → f b ≢ end → Linked f g end x ys → Linked f' g' end x ys
  framed x [] n p q h = (f_off x (λ e. n (inl (sym e))) ∙ h.0, g_off end (λ e. q (sym e)) ∙ h.1)
  framed x (y ∷ ys) n p q h =
      (f_off x (λ e. n (inl (sym e))) ∙ h.0, g_off y (λ e. p (inl (sym e))) ∙ h.1, framed y ys (λ i. n (inr i)) (λ i. p (inr i)) q h.2)

before : (f g : ℕ → ℕ) (end b a : ℕ) (cs ys : List ℕ) → Linked f g end a (cs ++ b ∷ ys) → In (g b) (a ∷ cs)
before f g end b a [] ys h = inl h.1
before f g end b a (c ∷ cs) ys h = inr (before f g end b c cs ys h.2)

after : (f g : ℕ → ℕ) (end b a : ℕ) (cs ys : List ℕ) → Linked f g end a (cs ++ b ∷ ys) → (f b ≡ end) ⊎ In (f b) ys
after f g end b a [] [] h = inl h.2.0
after f g end b a [] (y ∷ ys) h = inr (inl h.2.0)
after f g end b a (c ∷ cs) ys h = after f g end b c cs ys h.2

module _ (f g f' g' : ℕ → ℕ) (end b : ℕ) (f_at : f' (g b) ≡ f b) (f_off : (y : ℕ) → y ≢ g b → f' y ≡ f y)
    (g_at : g' (f b) ≡ g b) (g_off : (y : ℕ) → y ≢ f b → g' y ≡ g y) where
  removed : (x : ℕ) (xs ys : List ℕ) → Apart (x ∷ (xs ++ b ∷ ys)) → (In end (xs ++ b ∷ ys) → ⊥) → Linked f g end x (xs ++ b ∷ ys) → Linked f' g' end x (xs ++ ys)
  removed x [] [] d n h = (ap f' (sym h.1) ∙ f_at ∙ h.2.0, ap g' (sym h.2.0) ∙ g_at ∙ h.1)
  removed x [] (y ∷ ys) d n h = (
    ap f' (sym h.1) ∙ f_at ∙ h.2.0,
    ap g' (sym h.2.0) ∙ g_at ∙ h.1,
    framed f g f' g' end b f_at f_off g_at g_off y ys
        (λ i. d.0 (inr (subst (λ k. In k (y ∷ ys)) h.1 i)))
        (λ i. d.1.1.0 (subst (λ k. In k ys) h.2.0 i))
        (λ e. n (inr (inl (sym e ∙ h.2.0)))) h.2.2,
  )
  removed x (a ∷ cs) ys d n h = (
    f_off x (λ e. d.0 (subst (λ k. In k (a ∷ (cs ++ b ∷ ys))) (sym e) (in_left (g b) (a ∷ cs) (b ∷ ys) (before f g end b a cs ys h.2)))) ∙ h.0,
    g_off a (λ e. ⊎_elim
        (λ (p : f b ≡ end). n (inl (sym (e ∙ p))))
        (λ (i : In (f b) ys). d.1.0 (subst (λ k. In k (cs ++ b ∷ ys)) (sym e) (in_right (f b) cs (b ∷ ys) (inr i))))
        (after f g end b a cs ys h.2)) ∙ h.1,
    removed a cs ys d.1 (λ i. n (inr i)) h.2,
  )

-- ---- a number is linked in before the end

pub last_in : (f g : ℕ → ℕ) (end x : ℕ) (xs : List ℕ) → Linked f g end x xs → In (g end) (x ∷ xs)
last_in f g end x [] h = inl h.1
last_in f g end x (y ∷ ys) h = inr (last_in f g end y ys h.2)

module _ (f g f' g' : ℕ → ℕ) (end b : ℕ) (f_at : f' (g end) ≡ b) (f_own : f' b ≡ end) (f_off : (y : ℕ) → y ≢ g end → y ≢ b → f' y ≡ f y)
    (g_at : g' end ≡ b) (g_own : g' b ≡ g end) (g_off : (y : ℕ) → y ≢ end → y ≢ b → g' y ≡ g y) where
  pushed : (x : ℕ) (xs : List ℕ) → Apart (x ∷ xs) → (In b (x ∷ xs) → ⊥) → (In end xs → ⊥) → Linked f g end x xs → Linked f' g' end x (xs ++ b ∷ [])
  pushed x [] d out n h = (ap f' (sym h.1) ∙ f_at, g_own ∙ h.1, (f_own, g_at))
  pushed x (y ∷ ys) d out n h = (
    f_off x (λ e. d.0 (subst (λ k. In k (y ∷ ys)) (sym e) (last_in f g end y ys h.2))) (λ e. out (inl (sym e))) ∙ h.0,
    g_off y (λ e. n (inl (sym e))) (λ e. out (inr (inl (sym e)))) ∙ h.1,
    pushed y ys d.1 (λ i. out (inr i)) (λ i. n (inr i)) h.2,
  )

-- ---- of a queue

walk_linked : (next : List ℕ) (g : ℕ → ℕ) (end x : ℕ) (xs : List ℕ) → Linked (link_of next) g end x xs → walk next (length xs) x ≡ xs
walk_linked next g end x [] h = refl
walk_linked next g end x (y ∷ ys) h = λ i. h.0 i ∷ (ap (walk next (length ys)) h.0 ∙ walk_linked next g end y ys h.2) i

pub ring_walk : (next prev : List ℕ) (end : ℕ) (q : List ℕ) → Ring next prev end q → walk next (length q) end ≡ q
ring_walk next prev end q r = walk_linked next (link_of prev) end end q r.linked

pub walk_length : (next : List ℕ) (n x : ℕ) → length (walk next n x) ≡ n
walk_length next zero x = refl
walk_length next (suc n) x = ap suc (walk_length next n (link_of next x))

pub below : (q : List ℕ) (m : List Bool) (y : ℕ) → Marked q m → In y q → y < length m
below q m y h i = ⊎_elim (λ (lt : y < length m). lt) (λ (ge : length m ≤ y). absurd (not_in y q (h.tells y ∙ get_or-eq_default m false ge) i)) (cases_lt y (length m))

module _ (next prev : List ℕ) (end b : ℕ) (q : List ℕ) (m : List Bool) (marked : Marked q m) (size : length m ≡ end) (ring : Ring next prev end q) (within : b < end) where
  no_end : In end q → ⊥
  no_end = not_in end q (marked.tells end ∙ get_or-eq_default m false (omega (arith, size)))

  places : (y : ℕ) → In y (end ∷ q) → y < end + 1
  places y (inl e) = omega arith
  places y (inr i) = omega (arith, below q m y marked i, size)

  pub last_within : link_of prev end < end + 1
  last_within = places (link_of prev end) (last_in (link_of next) (link_of prev) end end q ring.linked)

  pub before_within : In b q → link_of prev b < end + 1
  before_within i =
      let s = split_at b q i in
      places (link_of prev b)
      (let at = before (link_of next) (link_of prev) end b end s.0 s.1 (subst (λ l. Linked (link_of next) (link_of prev) end end l) s.2 ring.linked) in
      subst (λ l. In (link_of prev b) (end ∷ l)) (sym s.2) (in_left (link_of prev b) (end ∷ s.0) (b ∷ s.1) at))

  pub after_within : In b q → link_of next b < end + 1
  after_within i =
      let s = split_at b q i in
      places (link_of next b)
      (⊎_elim (λ (e : link_of next b ≡ end). inl e)
      (λ (j : In (link_of next b) s.1). inr (subst (λ l. In (link_of next b) l) (sym s.2) (in_right (link_of next b) s.0 (b ∷ s.1) (inr j))))
      (after (link_of next) (link_of prev) end b end s.0 s.1 (subst (λ l. Linked (link_of next) (link_of prev) end end l) s.2 ring.linked)))

  pub ring_removed : In b q → Ring (set next (link_of prev b) (link_of next b)) (set prev (link_of next b) (link_of prev b)) end (without b q)
  ring_removed i =
      let s = split_at b q i in
      let next' = set next (link_of prev b) (link_of next b) in
      let prev' = set prev (link_of next b) (link_of prev b) in
      let d : Apart (end ∷ (s.0 ++ b ∷ s.1)) = subst (λ l. Apart (end ∷ l)) s.2 (no_end, apart q marked.once) in
      let two = around b s.0 s.1 d.1 in
      let left = ap (without b) s.2 ∙ without_split b s.0 s.1 two.0 two.1 in
      record {
        linked = subst (λ l. Linked (link_of next') (link_of prev') end end l) (sym left)
            (removed (link_of next) (link_of prev) (link_of next') (link_of prev') end b
            (get_or-set_same next (link_of prev b) (link_of next b) 0 (omega (arith, before_within i, ring.nexts)))
            (λ y ne. get_or-set_other next (link_of prev b) y (link_of next b) 0 ne)
            (get_or-set_same prev (link_of next b) (link_of prev b) 0 (omega (arith, after_within i, ring.prevs)))
            (λ y ne. get_or-set_other prev (link_of next b) y (link_of prev b) 0 ne)
            end s.0 s.1 d (subst (λ l. In end l → ⊥) s.2 no_end) (subst (λ l. Linked (link_of next) (link_of prev) end end l) s.2 ring.linked));
        nexts = length-set next (link_of prev b) (link_of next b) ∙ ring.nexts;
        prevs = length-set prev (link_of next b) (link_of prev b) ∙ ring.prevs;
      }

  not_last : is_in q b ≡ false → In b (end ∷ q) → ⊥
  not_last out i = ⊎_elim (λ (e : b ≡ end). let no : ⊥ = omega arith in no) (λ (j : In b q). not_in b q out j) i

  pub ring_pushed : is_in q b ≡ false → Ring (set (set next (link_of prev end) b) b end) (set (set prev b (link_of prev end)) end b) end (q ++ b ∷ [])
  ring_pushed out =
      let last = link_of prev end in
      let next' = set (set next last b) b end in
      let prev' = set (set prev b last) end b in
      let len1 = length-set next last b in
      let len2 = length-set prev b last in
      record {
        linked = pushed (link_of next) (link_of prev) (link_of next') (link_of prev') end b
            (get_or-set_other (set next last b) b last end 0 (λ e. not_last out (subst (λ k. In k (end ∷ q)) e (last_in (link_of next) (link_of prev) end end q ring.linked)))
            ∙ get_or-set_same next last b 0 (omega (arith, last_within, ring.nexts)))
            (get_or-set_same (set next last b) b end 0 (omega (arith, len1, ring.nexts)))
            (λ y n1 n2. get_or-set_other (set next last b) b y end 0 n2 ∙ get_or-set_other next last y b 0 n1)
            (get_or-set_same (set prev b last) end b 0 (omega (arith, len2, ring.prevs)))
            (get_or-set_other (set prev b last) end b b 0 (λ e. omega arith) ∙ get_or-set_same prev b last 0 (omega (arith, ring.prevs)))
            (λ y n1 n2. get_or-set_other (set prev b last) end y b 0 n1 ∙ get_or-set_other prev b y last 0 n2)
            end q (no_end, apart q marked.once) (not_last out) no_end ring.linked;
        nexts = length-set (set next last b) b end ∙ len1 ∙ ring.nexts;
        prevs = length-set (set prev b last) end b ∙ len2 ∙ ring.prevs;
      }

pub ring_new : (end : ℕ) → Ring (replicate (end + 1) end) (replicate (end + 1) end) end []
ring_new end =
    let own = get_or-replicate (end + 1) end end 0 (omega arith) in
    record { linked = (own, own); nexts = length-replicate (end + 1) end; prevs = length-replicate (end + 1) end }

pub some_in : (b : ℕ) (q : List ℕ) → In b q → 0 < length q
some_in b [] i = absurd i
some_in b (x ∷ xs) i = omega arith

pub length_without : (b : ℕ) (q : List ℕ) (m : List Bool) → Marked q m → In b q → length (without b q) + 1 ≡ length q
length_without b q m h i =
    let s = split_at b q i in
    let two = around b s.0 s.1 (subst (λ l. Apart l) s.2 (apart q h.once)) in
    omega (arith, ap (λ l. length (without b l)) s.2, ap (λ l. length l) (without_split b s.0 s.1 two.0 two.1), ap (λ l. length l) s.2, length-append s.0 s.1, length-append s.0 (b ∷ s.1))

-- ---- where the mark that was read isn't what it ought to be

module _ (b end : ℕ) (q : List ℕ) (m : List Bool) (v w : Bool) (marked : Marked q m) (size : length m ≡ end) (within : b < end) (read : v ≡ get_or m b v) where
  pub mark : is_in q b ≡ v
  mark = read_mark b q m v marked (omega (arith, size)) read

  pub is_out : beq w v ≡ false → w ≡ true → is_in q b ≡ false
  is_out other on = mark ∙ mark_differs w v other ∙ ap not on

  pub is_there : beq w v ≡ false → w ≡ false → In b q
  is_there other off = in_from b q (mark ∙ mark_differs w v other ∙ ap not off)

-- the walk after a number has entered or left
pub walk_pushed : (next prev old : List ℕ) (end n b : ℕ) → Ring next prev end (walk old n end ++ b ∷ []) → walk next (n + 1) end ≡ walk old n end ++ b ∷ []
walk_pushed next prev old end n b r =
    ap (λ k. walk next k end) (omega (arith, length-append (walk old n end) (b ∷ []), walk_length old n end)) ∙ ring_walk next prev end (walk old n end ++ b ∷ []) r

pub walk_removed : (next prev old : List ℕ) (end n b : ℕ) (m : List Bool) → Marked (walk old n end) m → In b (walk old n end)
    → Ring next prev end (without b (walk old n end)) → walk next (n - 1) end ≡ without b (walk old n end)
walk_removed next prev old end n b m h i r =
    ap (λ k. walk next k end) (omega (arith, length_without b (walk old n end) m h i, walk_length old n end)) ∙ ring_walk next prev end (without b (walk old n end)) r
