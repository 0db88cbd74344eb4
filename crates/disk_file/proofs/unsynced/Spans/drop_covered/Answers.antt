use Rattle.std.proofs.Common.{rules, ap, ◌∙◌, not}
use Rattle.arrayvec.proofs.ArrayVecLemmas.{filter-from_retain}
use Rattle.disk_file.specs.Spans.{is_covered, left_by}
use Rattle.disk_file.proofs.unsynced.Spans.drop_covered.Goals as goal

pub returns : goal.returns
returns c = filter-from_retain _ (λ s. not (is_covered c.args.by s)) _ (λ x b f' y called. search rules) _ _ c.retain.ensures.filtered ∙ ap (left_by c.args.by) c.self.view_is
