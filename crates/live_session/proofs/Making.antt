-- What a command makes on each device.
use Rattle.std.proofs.Common.{◌≡◌, inl, inr, ℕ, zero, suc, ◌+◌, ◌<◌, List, [], ◌∷◌, ◌++◌, length, set, refl, sym, ◌∙◌, ap, subst, arith}
use Rattle.std.specs.Prelude.{◌⊎◌, Some, slice_get}
use Rattle.std.proofs.lemmas.Bool.{cases_eq}
use Rattle.law_lists.proofs.Places.{place_there, set_other}
use Rattle.disk_model.specs.Disk.{DiskView}
use Rattle.model_device.specs.Events.{Event, Call, flush_call, heal_call}
use Rattle.model_device.specs.Vacating.{Outcome, did, stopped}
use Rattle.line_proto.specs.declared.command.Command.{Command}
use Rattle.line_proto.specs.declared.command.Command.TheVariants as command
use Rattle.line_proto.specs.declared.reply.Reply.{Reply}
use Rattle.live_node.specs.Opening.{Opening}
use Rattle.live_node.specs.Calls.{LiveView, IsRight}
use Rattle.live_node.specs.Several.{placed_events}
use Rattle.live_node.proofs.Right.{right_then}
use Rattle.live_store.specs.Pairs.{EachPair}
use Rattle.live_store.specs.Known.{Known, SameDevice}
use Rattle.live_store.specs.Works.{RepliesOn, CountsOnce, Flushes, Heals, Defragments, Expires, VacatesUpTo, SweepsFrom, LooksAt, CallsOne, EachDevice, Carries}
use Rattle.live_session.specs.Lines.{MakesOn, MakesAt}

-- what makes some events
abbrev Made : {D : Type 0} → (view : D → DiskView) → Opening D → (before after : LiveView D) → Type 0
Made view o before after = (events : List Event) × (((after ≡ before) × (events ≡ [])) ⊎ IsRight view o before after events)

module _ {D : Type 0} (view : D → DiskView) where
  none_made : (o : Opening D) (before after : LiveView D) → after ≡ before → Made view o before after
  none_made o before after same = ([], inl (same, refl))

  made_then : (o : Opening D) (before mid after : LiveView D) → Made view o before mid → Made view o mid after → Made view o before after
  made_then o before mid after (xs, inl none) (ys, rest) = (ys, subst (λ (v : LiveView D). ((after ≡ v) × (ys ≡ [])) ⊎ IsRight view o v after ys) none.0 rest)
  made_then o before mid after (xs, inr first) (ys, inl none) = (xs, inr (subst (λ (v : LiveView D). IsRight view o before v xs) (sym none.0) first))
  made_then o before mid after (xs, inr first) (ys, inr then) = (xs ++ ys, inr (right_then view o before mid after xs ys first then))

  replies_made : (c : Command) (now : ℕ) (r : Reply) (old new : Known D) → RepliesOn view c now r old new → Made view old.opening old.pass new.pass
  replies_made (command.Put digest ttl expect payload) now r old new does = (does.once.event ∷ [], inr does.once.right)
  replies_made (command.Get digest) now r old new does = (does.once.event ∷ [], inr does.once.right)
  replies_made (command.Meta digest) now r old new does = ([], inr does.right)
  replies_made (command.Del digest) now r old new does = (does.once.event ∷ [], inr does.once.right)
  replies_made (command.Bury digest) now r old new does = (does.once.event ∷ [], inr does.once.right)
  replies_made command.Flush now r old new does = absurd does
  replies_made command.Heal now r old new does = absurd does
  replies_made command.Defrag now r old new does = absurd does
  replies_made command.Expire now r old new does = absurd does
  replies_made command.Raid now r old new does = absurd does
  replies_made command.Stat now r old new does = absurd does
  replies_made command.Restart now r old new does = absurd does
  replies_made command.Quit now r old new does = absurd does

  count_made : (call : Call) (old new : Known D) (outcome : Outcome) → CountsOnce view call old new outcome → Made view old.opening old.pass new.pass
  count_made call old new outcome does = (does.once.event ∷ [], inr does.once.right)

  vacates_made : (o : Opening D) (most moved vacated : ℕ) (before after : LiveView D) (outcome : Outcome) → VacatesUpTo view o most moved vacated before after outcome → Made view o before after
  vacates_made o zero moved vacated before after outcome does = none_made o before after does.0
  vacates_made o (suc most) moved vacated before after outcome (inl none) = (placed_events (none.0.first ∷ none.0.moves), inr none.0.shows.right)
  vacates_made o (suc most) moved vacated before after outcome (inr (inl (mid, one, first, rest))) =
      made_then o before mid after (placed_events (first.first ∷ first.moves), inr first.shows.right) (vacates_made o most _ (vacated + 1) mid after outcome rest)
  vacates_made o (suc most) moved vacated before after outcome (inr (inr (refusal, cause, stop, is, ends))) = (placed_events (stop.first ∷ stop.moves), inr stop.shows.right)

  defrag_made : (old new : Known D) (outcome : Outcome) → Defragments view old new outcome → Made view old.opening old.pass new.pass
  defrag_made old new outcome does = made_then old.opening old.pass does.first new.pass ([], inr does.looks) (vacates_made old.opening _ 0 0 does.first new.pass outcome does.vacates)

  sweeps_made : (o : Opening D) (now count part removed : ℕ) (before after : LiveView D) (outcome : Outcome) → SweepsFrom view o now count part removed before after outcome
      → Made view o before after
  sweeps_made o now zero part removed before after outcome does = none_made o before after does.0
  sweeps_made o now (suc count) part removed before after outcome (inl (mid, here, first, rest)) =
      made_then o before mid after (placed_events first.list, inr first.shows.right) (sweeps_made o now count (part + 1) _ mid after outcome rest)
  sweeps_made o now (suc count) part removed before after outcome (inr (refusal, stop, is)) = (placed_events stop.list, inr stop.shows.right)

  expire_made : (now : ℕ) (old new : Known D) (outcome : Outcome) → Expires view now old new outcome → Made view old.opening old.pass new.pass
  expire_made now old new outcome does = sweeps_made old.opening now _ 0 0 old.pass new.pass outcome does

  -- ---- at a device

  on : (old new : Known D) → SameDevice old new → (made : Made view old.opening old.pass new.pass) → MakesOn view old new made.0
  on old new same (events, inl none) = inl ((λ i. record { opening = same i; pass = none.0 i }), none.1)
  on old new same (events, inr right) = inr (same, right)

  abbrev pub MakesSome : (device : ℕ) → (olds news : List (Known D)) → Type 0
  MakesSome device olds news = (events : List Event) × MakesAt view device olds news events

  first_makes : (old new : Known D) (olds news : List (Known D)) → SameDevice old new → Made view old.opening old.pass new.pass → MakesSome zero (old ∷ olds) (new ∷ news)
  first_makes old new olds news same made = (made.0, record { old = old; new = new; from = refl; to = refl; makes = on old new same made })

  next_makes : (k : ℕ) (old new : Known D) (olds news : List (Known D)) → MakesSome k olds news → MakesSome (suc k) (old ∷ olds) (new ∷ news)
  next_makes k old new olds news (events, m) = (events, record { old = m.old; new = m.new; from = m.from; to = m.to; makes = m.makes })

  pub none_makes : (device : ℕ) (olds news : List (Known D)) → device < length olds → news ≡ olds → MakesSome device olds news
  none_makes device olds news there same =
      let at = place_there olds device there in
      ([], record { old = at.0; new = at.0; from = at.1; to = ap (λ (l : List (Known D)). slice_get l device) same ∙ at.1; makes = inl (refl, refl) })

  pairs_make : (Does : (old new : Known D) → Type 0) → ((old new : Known D) → Does old new → Made view old.opening old.pass new.pass) → (device : ℕ) (olds news : List (Known D))
      → device < length olds
      → EachPair SameDevice olds news → EachPair Does olds news → MakesSome device olds news
  pairs_make Does makes device [] news there same each = absurd (omega arith)
  pairs_make Does makes device (old ∷ olds) [] there same each = absurd each
  pairs_make Does makes zero (old ∷ olds) (new ∷ news) there same each = first_makes old new olds news same.0 (makes old new each.0)
  pairs_make Does makes (suc k) (old ∷ olds) (new ∷ news) there same each = next_makes k old new olds news (pairs_make Does makes k olds news (omega arith) same.1 each.1)

  each_makes : (Work : (old new : Known D) → Outcome → Type 0) → ((old new : Known D) (outcome : Outcome) → Work old new outcome → Made view old.opening old.pass new.pass)
      → (device : ℕ) (olds news : List (Known D)) (a b : ℕ) (outcome : Outcome) → device < length olds → EachPair SameDevice olds news → EachDevice Work olds news a b outcome
      → MakesSome device olds news
  each_makes Work makes device [] news a b outcome there same each = absurd (omega arith)
  each_makes Work makes device (old ∷ olds) [] a b outcome there same each = absurd each
  each_makes Work makes zero (old ∷ olds) (new ∷ news) a b outcome there same (inl (x, y, work, rest)) = first_makes old new olds news same.0 (makes old new (did x y) work)
  each_makes Work makes zero (old ∷ olds) (new ∷ news) a b outcome there same (inr (cause, work, rest, is)) = first_makes old new olds news same.0 (makes old new (stopped cause) work)
  each_makes Work makes (suc k) (old ∷ olds) (new ∷ news) a b outcome there same (inl (x, y, work, rest)) =
      next_makes k old new olds news (each_makes Work makes k olds news _ _ outcome (omega arith) same.1 rest)
  each_makes Work makes (suc k) (old ∷ olds) (new ∷ news) a b outcome there same (inr (cause, work, others, is)) = next_makes k old new olds news (none_makes k olds news (omega arith) others)

  set_here : (k : ℕ) (xs : List (Known D)) (old new : Known D) → slice_get xs k ≡ Some old → slice_get (set xs k new) k ≡ Some new
  set_here k [] old new there = absurd cc
  set_here zero (x ∷ xs) old new there = refl
  set_here (suc k) (x ∷ xs) old new there = set_here k xs old new there

  same_at : (k : ℕ) (olds news : List (Known D)) (old new : Known D) → EachPair SameDevice olds news → slice_get olds k ≡ Some old → slice_get news k ≡ Some new → SameDevice old new
  same_at k [] news old new same from to = absurd cc
  same_at k (o ∷ olds) [] old new same from to = absurd same
  same_at zero (o ∷ olds) (n ∷ news) old new same from to = let a : o ≡ old = cc in let b : n ≡ new = cc in sym (ap (λ (x : Known D). x.opening) b) ∙ same.0 ∙ ap (λ (x : Known D). x.opening) a
  same_at (suc k) (o ∷ olds) (n ∷ news) old new same from to = same_at k olds news old new same.1 from to

  one_makes : (Does : (old new : Known D) → Type 0) → ((old new : Known D) → Does old new → Made view old.opening old.pass new.pass) → (device called : ℕ) (olds news : List (Known D))
      → device < length olds → EachPair SameDevice olds news → CallsOne Does called olds news → MakesSome device olds news
  one_makes Does makes device called olds news there same one = elim (cases_eq device called) [
    | inl is ↦
        let made = makes one.old one.new one.does in
        let from = ap (λ (n : ℕ). slice_get olds n) is ∙ one.there in
        let to = ap (λ (l : List (Known D)). slice_get l device) one.others ∙ ap (λ (n : ℕ). slice_get (set olds called one.new) n) is ∙ set_here called olds one.old one.new one.there in
        (made.0, record { old = one.old; new = one.new; from = from; to = to; makes = on one.old one.new (same_at device olds news one.old one.new same from to) made })
    | inr other ↦
        let at = place_there olds device there in (
          [],
          record {
            old = at.0;
            new = at.0;
            from = at.1;
            to = ap (λ (l : List (Known D)). slice_get l device) one.others ∙ set_other olds called device one.new other ∙ at.1;
            makes = inl (refl, refl);
          },
        )
  ]

  -- ---- a command

  pub carries_makes : (device : ℕ) (olds : List (Known D)) (c : Command) (now : ℕ) (r : Reply) (news : List (Known D)) → device < length olds → EachPair SameDevice olds news
      → Carries view olds c now r news → MakesSome device olds news
  carries_makes device olds (command.Put digest ttl expect payload) now r news there same does =
      one_makes _ (replies_made (command.Put digest ttl expect payload) now r) device _ olds news there same does
  carries_makes device olds (command.Get digest) now r news there same does = one_makes _ (replies_made (command.Get digest) now r) device _ olds news there same does
  carries_makes device olds (command.Meta digest) now r news there same does = one_makes _ (replies_made (command.Meta digest) now r) device _ olds news there same does
  carries_makes device olds (command.Del digest) now r news there same does = one_makes _ (replies_made (command.Del digest) now r) device _ olds news there same does
  carries_makes device olds (command.Bury digest) now r news there same does = one_makes _ (replies_made (command.Bury digest) now r) device _ olds news there same does
  carries_makes device olds command.Flush now r news there same does = each_makes (Flushes view) (count_made flush_call) device olds news 0 0 does.outcome there same does.works
  carries_makes device olds command.Heal now r news there same does = each_makes (Heals view) (count_made heal_call) device olds news 0 0 does.outcome there same does.works
  carries_makes device olds command.Defrag now r news there same does = each_makes (Defragments view) defrag_made device olds news 0 0 does.outcome there same does.works
  carries_makes device olds command.Expire now r news there same does = each_makes (Expires view now) (expire_made now) device olds news 0 0 does.outcome there same does.works
  carries_makes device olds command.Raid now r news there same does = none_makes device olds news there does.0
  carries_makes device olds command.Stat now r news there same does = pairs_make (LooksAt view) (λ old new looks. ([], inr looks)) device olds news there same does.0
  carries_makes device olds command.Restart now r news there same does = none_makes device olds news there does.0
  carries_makes device olds command.Quit now r news there same does = absurd does
