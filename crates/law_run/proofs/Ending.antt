-- How a run ends, behind a session and its closing, or at a restart that was refused.
use Rattle.std.proofs.Common.{◌<◌, ◌≡◌, ℕ, List, length, refl, sym, subst}
use Rattle.std.specs.Prelude.{Option, Some, None}
use Rattle.cold_scan.specs.declared.header.StartCause.{StartCause}
use Rattle.cold_scan.specs.declared.header.StartCause.TheVariants as why
use Rattle.shard_core.specs.Again.{IsNoRefusal}
use Rattle.model_node.specs.Commands.{Node, NodeEvent}
use Rattle.model_node.specs.Run.{Served, node_after_lines, last_node}
use Rattle.model_node.specs.Outside.{RoseOn, counts_of}
use Rattle.model_node.specs.Headline.{IsNeverRefused}
use Rattle.core_run.specs.Calls.{ClosedSo}
use Rattle.law_session.specs.Whole.{ClosesWith, HaltsWith}
use Rattle.law_run.specs.Concluding.{refusal_end, closed_end}

-- what the closing ends with
pub closes_with : (first : Node) (lines : List Served) (closing : List NodeEvent) (before after : List ℕ) → counts_of (node_after_lines lines first) ≡ before
    → counts_of (last_node first lines closing) ≡ after
    → (failed : Option ℕ) → ClosedSo failed before after (last_node first lines closing) → ClosesWith (closed_end failed) first lines closing
closes_with first lines closing before after old_is new_is None says = says
closes_with first lines closing before after old_is new_is (Some device) says = record {
  rose = subst (λ (counts : List ℕ). RoseOn device counts (counts_of (last_node first lines closing))) (sym old_is)
      (subst (λ (counts : List ℕ). RoseOn device before counts) (sym new_is) says.1);
  left = says.0;
  lower = says.2;
}

-- what a refused restart ends with: where a disk failed, its count rose
pub halts_with : (refused : ℕ × StartCause) (Halts : Node → Node → Type 0) (first : Node)
    → ((before after : Node) → Halts before after → (refused.1 ≡ why.Fault → RoseOn refused.0 (counts_of before) (counts_of after))) → refused.0 < length first
    → HaltsWith (refusal_end refused.0 refused.1) Halts first
halts_with refused Halts first rose there = by refused.1 refl
  where
    by : (cause : StartCause) → refused.1 ≡ cause → HaltsWith (refusal_end refused.0 cause) Halts first
    by why.Memory is = tt
    by why.Fault is = λ before after halts. rose before after halts is
    by (why.NotFormatted bytes) is = there
    by (why.OtherGeometry kept asked size) is = there
    by (why.DamagedBlock block place) is = there

-- ---- no device is refused for what it reads

pub closed_never : (failed : Option ℕ) → IsNeverRefused (closed_end failed)
closed_never None = tt
closed_never (Some device) = tt

pub cause_never : (device : ℕ) (cause : StartCause) → IsNoRefusal cause → IsNeverRefused (refusal_end device cause)
cause_never device why.Memory none = tt
cause_never device why.Fault none = tt
cause_never device (why.NotFormatted bytes) none = absurd none
cause_never device (why.OtherGeometry kept asked size) none = absurd none
cause_never device (why.DamagedBlock block place) none = absurd none
