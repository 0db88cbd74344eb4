-- The numbers of all devices, one after another.
use Rattle.std.proofs.Common.{◌≡◌, ℕ, zero, suc, ◌+◌, ◌*◌, ◌<◌, ◌≤◌, List, [], ◌∷◌, length, map, take, set, refl, sym, ◌∙◌, ap, subst, arith}
use Rattle.std.specs.Prelude.{Some, slice_get}
use Rattle.std.proofs.lemmas.List.{take_all, length-map}
use Rattle.disk_model.specs.Disk.{DiskView}
use Rattle.rec_format.specs.declared.entry.Counts.{Counts}
use Rattle.shard_core.specs.Numbers.{AreFew, counts_of}
use Rattle.model_node.specs.Commands.{Node, node_counts}
use Rattle.node_replies.specs.Counts.{wrapped_sum}
use Rattle.node_replies.specs.Through.{Through}
use Rattle.node_replies.proofs.Counting.{wrapped_counts, AreUnder, most_of_one, none_under, under_more, wrapped_more, unwrapped}
use Rattle.live_store.specs.Pairs.{EachPair}
use Rattle.live_store.specs.Known.{Known, state_of, slot_of}
use Rattle.live_store.specs.Works.{LooksAt}

take_set : {A B : Type 0} (f : A → B) (xs : List A) (k : ℕ) (x : A) → take k (map f (set xs k x)) ≡ take k (map f xs)
take_set f [] zero x = refl
take_set f [] (suc k) x = refl
take_set f (a ∷ xs) zero x = refl
take_set f (a ∷ xs) (suc k) x = ap (λ (rest : List _). f a ∷ rest) (take_set f xs k x)

map_set : {A B : Type 0} (f : A → B) (xs : List A) (k : ℕ) (x : A) → k < length xs → slice_get (map f (set xs k x)) k ≡ Some (f x)
map_set f [] k x there = absurd (omega arith)
map_set f (a ∷ xs) zero x there = refl
map_set f (a ∷ xs) (suc k) x there = map_set f xs k x (omega arith)

module _ {D : Type 0} (view : D → DiskView) where
  abbrev node_of : List (Known D) → Node
  node_of all = map (slot_of view) all

  -- The numbers of the first of these are together, where a sum goes around at 2^64; and they are few.
  pub record CountedSoFar (k : ℕ) (all : List (Known D)) (sum : Counts) : Type 0 where
    pub is : sum ≡ wrapped_counts (take k (node_of all))
    pub under : AreUnder (k * most_of_one) (node_counts (take k (node_of all)))

  pub counted_none : (all : List (Known D)) → (sum : Counts) → sum ≡ wrapped_counts [] → CountedSoFar 0 all sum
  counted_none all sum is = record { is = is; under = none_under }

  pub counted_more : (k : ℕ) (all : List (Known D)) (one : Known D) (sum more next : Counts) → k < length all → CountedSoFar k all sum → more ≡ counts_of (state_of one) → AreFew more
      → next ≡ wrapped_sum sum more → CountedSoFar (k + 1) (set all k one) next
  counted_more k all one sum more next there so_far told few is =
      let node = node_of (set all k one) in
      let same = take_set (slot_of view) all k one in
      let here = map_set (slot_of view) all k one there in
      let step : suc k ≡ k + 1 = omega arith in
      subst (λ (n : ℕ). CountedSoFar n (set all k one) next) step (record {
        is = is ∙ (λ i. wrapped_sum ((so_far.is ∙ ap wrapped_counts (sym same)) i) (told i)) ∙ wrapped_more node k (slot_of view one) here;
        under = under_more node k (slot_of view one) here (subst AreFew told few)
            (subst (λ (front : Node). AreUnder (k * most_of_one) (node_counts front)) (sym same) so_far.under);
      })

  pub counted_all : (k : ℕ) (all : List (Known D)) (sum : Counts) → CountedSoFar k all sum → (k < length all → ⊥) → k ≤ length all → length all ≤ 16 → sum ≡ node_counts (node_of all)
  counted_all k all sum so_far over within few =
      let many = length-map all (slot_of view) in
      let whole : take k (node_of all) ≡ node_of all = take_all k (node_of all) (omega (arith, over, many)) in
      so_far.is ∙ ap wrapped_counts whole ∙ unwrapped k (node_of all) (omega (arith, within, few)) (subst (λ (n : Node). AreUnder (k * most_of_one) (node_counts n)) whole so_far.under)

-- one device is looked at after another
abbrev pub LookTurn : {D : Type 0} → (view : D → DiskView) → ℕ → (old new : Known D) → ℕ → Type 0
LookTurn view a old new b = LooksAt view old new

pub looked_all : {D : Type 0} (view : D → DiskView) (a : ℕ) (olds news : List (Known D)) (b : ℕ) → Through (LookTurn view) (length olds) a olds news b → EachPair (LooksAt view) olds news
looked_all view a [] news b through = subst (EachPair (LooksAt view) []) (sym through.0) tt
looked_all view a (o ∷ olds) [] b through = absurd through
looked_all view a (o ∷ olds) (n ∷ news) b through = (through.1, looked_all view through.0 olds news b through.2)
