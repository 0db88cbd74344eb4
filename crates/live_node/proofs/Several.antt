-- Several events of one pass, one after another.
use Rattle.std.proofs.Common.{◌≡◌, List, [], ◌∷◌, ◌++◌, sym, subst, ◌∙◌, append-nil}
use Rattle.std.proofs.lemmas.List.{map-append}
use mathlib.Core.List.{IsPrefix}
use Rattle.disk_model.specs.Disk.{DiskView}
use Rattle.model_device.specs.Events.{Event}
use Rattle.law_lists.proofs.Each.{all_joined}
use Rattle.law_refused.specs.Refusals.{RefusedLeaves}
use Rattle.live_node.specs.Opening.{Opening, setup_at, state_at}
use Rattle.live_node.specs.Calls.{LiveView, seen_by, own_of, IsRight, AnswersBy}
use Rattle.live_node.specs.Several.{Placed, placed_events, AreInTurn, Shows}
use Rattle.live_node.proofs.Right.{prefix_here, prefix_on, seen_begins, right_then}

turns_behind : (from mid to : List Event) (ys : List Placed) → IsPrefix from mid → AreInTurn mid ys to → AreInTurn from ys to
turns_behind from mid to [] first then = prefix_on from mid to first then
turns_behind from mid to (y ∷ ys) first then = (prefix_on from mid y.past first then.0, then.1)

turns_then : (from mid to : List Event) (xs ys : List Placed) → AreInTurn from xs mid → AreInTurn mid ys to → AreInTurn from (xs ++ ys) to
turns_then from mid to [] ys first then = turns_behind from mid to ys first then
turns_then from mid to (x ∷ xs) ys first then = (first.0, turns_then (x.past ++ x.event ∷ []) mid to xs ys first.1 then)

pub events_joined : (xs ys : List Placed) → placed_events (xs ++ ys) ≡ placed_events xs ++ placed_events ys
events_joined xs ys = map-append (λ (p : Placed). p.event) xs ys

module _ {D : Type 0} {view : D → DiskView} {o : Opening D} where
  -- where a pass came by events that were right for it, none is right
  pub right_here : {v w : LiveView D} {xs : List Event} → IsRight view o v w xs → IsRight view o w w []
  right_here {w = w} right = record { seen = prefix_here w.seen; mine = sym (append-nil (own_of w)); legal = right.legal; own = right.own }

  pub shows_none : {v w : LiveView D} → IsRight view o v w [] → Shows view o v w []
  shows_none {v = v} {w = w} right = record { right = right; turns = seen_begins v w right.seen; left = tt }

  pub placed_by : {v w : LiveView D} {Said : Event → Type 0} → AnswersBy view o v w Said → Placed
  placed_by by = record { past = by.past; event = by.event }

  pub shows_one : {v w : LiveView D} {Said : Event → Type 0} (by : AnswersBy view o v w Said) → Shows view o v w (record { past = by.past; event = by.event } ∷ [])
  shows_one by = record { right = by.right; turns = (by.begins, ([], append-nil (by.past ++ by.event ∷ []) ∙ sym by.last)); left = (by.left, tt) }

  pub shows_then : {u v w : LiveView D} (xs ys : List Placed) → Shows view o u v xs → Shows view o v w ys → Shows view o u w (xs ++ ys)
  shows_then {u = u} {v = v} {w = w} xs ys first then = record {
    right = subst (IsRight view o u w) (sym (events_joined xs ys)) (right_then view o u v w (placed_events xs) (placed_events ys) first.right then.right);
    turns = turns_then (seen_by u) (seen_by v) (seen_by w) xs ys first.turns then.turns;
    left = all_joined (λ (p : Placed). RefusedLeaves (setup_at o) (state_at o p.past) p.event) xs ys first.left then.left;
  }

  -- some events, and then what entered nothing
  pub shows_still : {u v w : LiveView D} (xs : List Placed) → Shows view o u v xs → IsRight view o v w [] → Shows view o u w xs
  shows_still {u = u} {w = w} xs first then = subst (Shows view o u w) (append-nil xs) (shows_then xs [] first (shows_none then))

  -- some events, behind what entered nothing and before what entered nothing
  pub shows_between : {u v w x : LiveView D} (xs : List Placed) → IsRight view o u v [] → Shows view o v w xs → IsRight view o w x [] → seen_by x ≡ seen_by w → Shows view o u x xs
  shows_between {u = u} {v = v} {w = w} {x = x} xs before shows after seen = record {
    right = subst (IsRight view o u x) (append-nil (placed_events xs))
        (right_then view o u w x (placed_events xs) [] (right_then view o u v w [] (placed_events xs) before shows.right) after);
    turns = subst (AreInTurn (seen_by u) xs) (sym seen) (turns_behind (seen_by u) (seen_by v) (seen_by w) xs (seen_begins u v before.seen) shows.turns);
    left = shows.left;
  }
