use Rattle.std.proofs.Common.{◌≡◌, ℕ, ◌<◌, Option, List, [], ◌∷◌, ◌++◌, Some, None, inl, inr, refl, subst}
use Rattle.std.specs.Prelude.{Ok, Err, IfSome, IsTrue}
use mathlib.Core.List.{IsPrefix}
use Rattle.rec_format.specs.declared.version.Digest.{Digest}
use Rattle.model_device.specs.Book.{live_of}
use Rattle.model_device.specs.Events.{Event, choose_call}
use Rattle.model_device.specs.Legal.{is_in_block}
use Rattle.turn_table.specs.Passes.{view}
use Rattle.block_shelf.specs.Vacating.{ListsLive}
use Rattle.defrag_pass.specs.Choosing.{choose_answer}
use Rattle.live_node.specs.Opening.{IsOwn, WasSafe, state_at}
use Rattle.live_node.specs.Fits.{Is}
use Rattle.live_node.specs.Lives.{opening_at}
use Rattle.live_node.specs.Several.{placed_events}
use Rattle.live_node.specs.Calls.{seen_by}
use Rattle.live_node.specs.Vacates.{CanEmpty}
use Rattle.live_node.proofs.Right.{prefix_here}
use Rattle.live_node.proofs.Several.{right_here, shows_one, shows_then}
use Rattle.live_node.proofs.Vacating.{has_move}
use Rattle.live_node.proofs.live.Live.defrag_one.Goals as goal

pub vacate-requires-clause-here : goal.vacate-requires-clause-here
vacate-requires-clause-here g c = right_here c.in-Ok-Some.ensures.once.0.right

pub vacate-requires-clause-block : goal.vacate-requires-clause-block
vacate-requires-clause-block g c = subst (λ (x : Option ℕ). IfSome x (λ block. block < (opening_at c.args.self.now).shelf.geometry.blocks)) c.in-Ok-Some.field-0-is c.in-Ok-Some.ensures.below

pub returns-in-Ok-clause-defrags : goal.returns-in-Ok-clause-defrags
returns-in-Ok-clause-defrags g c =
    let o = opening_at c.args.self.now in
    let told = c.in-Ok-Some.ensures.once in
    let by = told.0 in
    let moves = c.in-Ok.ensures.moves in
    let items = c.choose.new.list.items in
    let has = λ (was : WasSafe g.D.Disk.view o) (digest : Digest) (own : IsOwn o digest) (live : IsTrue (is_in_block c.in-Ok-Some.block (live_of digest (state_at o by.past).book.live))).
    has_move o c.in-Ok-Some.block (placed_events moves.0) c.deref.result.now items c.deref.ensures.value moves.2.2 digest own
    (subst (λ (x : Option ℕ). IfSome x (λ block. ListsLive (state_at o by.past).book block items)) c.in-Ok-Some.field-0-is (told.1 was) digest live) in record {
      first = record { past = by.past; event = by.event };
      moves = moves.0;
      chosen = Ok (Some c.in-Ok-Some.block);
      chose = subst (λ (x : Option ℕ). Is choose_call (λ answer. answer ≡ choose_answer (Ok x)) by.event) c.in-Ok-Some.field-0-is by.said;
      shows = shows_then (record { past = by.past; event = by.event } ∷ []) moves.0 (shows_one by) moves.1;
      answers = (refl, moves.2.0, moves.2.1);
      each = has;
      leaves = c.in-Ok.ensures.leaves (by.past ++ by.event ∷ []) (subst (λ (l : List Event). IsPrefix l (seen_by (view c.choose.new.pass))) by.last (prefix_here (seen_by (view c.choose.new.pass))))
          (subst (λ (l : List Event). CanEmpty c.in-Ok-Some.block (state_at o l).book) by.last
          (subst (λ (x : Option ℕ). IfSome x (λ block. CanEmpty block (state_at o (seen_by (view c.choose.new.pass))).book)) c.in-Ok-Some.field-0-is c.in-Ok-Some.ensures.low));
    }

pub returns-in-Err-vacate-clause-defrags : goal.returns-in-Err-vacate-clause-defrags
returns-in-Err-vacate-clause-defrags g c =
    let by = c.in-Ok-Some.ensures.once.0 in
    let moves = c.in-Err-vacate.ensures.moves in record {
      first = record { past = by.past; event = by.event };
      moves = moves.0;
      chosen = Ok (Some c.in-Ok-Some.block);
      chose = subst (λ (x : Option ℕ). Is choose_call (λ answer. answer ≡ choose_answer (Ok x)) by.event) c.in-Ok-Some.field-0-is by.said;
      shows = shows_then (record { past = by.past; event = by.event } ∷ []) moves.0 (shows_one by) moves.1;
      answers = inr (c.in-Ok-Some.block, refl, moves.2);
      each = λ was. tt;
      leaves = tt;
    }

pub returns-in-Ok-None-clause-defrags : goal.returns-in-Ok-None-clause-defrags
returns-in-Ok-None-clause-defrags g c =
    let by = c.in-Ok-None.ensures.once.0 in record {
      first = record { past = by.past; event = by.event };
      moves = [];
      chosen = Ok None;
      chose = subst (λ (x : Option ℕ). Is choose_call (λ answer. answer ≡ choose_answer (Ok x)) by.event) c.in-Ok-None.field-0-is by.said;
      shows = shows_one by;
      answers = (refl, refl);
      each = λ was. tt;
      leaves = tt;
    }

pub returns-in-Err-clause-defrags : goal.returns-in-Err-clause-defrags
returns-in-Err-clause-defrags g c =
    let by = c.in-Err.ensures.once.0 in record {
      first = record { past = by.past; event = by.event };
      moves = [];
      chosen = Err c.in-Err.refusal;
      chose = by.said;
      shows = shows_one by;
      answers = inl (c.in-Err.refusal, refl, refl, refl, c.choice_cause.ensures);
      each = λ was. tt;
      leaves = tt;
    }
