use Rattle.std.proofs.Common.{◌++◌, List, ap, ◌∙◌}
use Rattle.std.specs.Prelude.{reverse}
use Rattle.std.proofs.lemmas.List.{reverse-append, reverse-reverse}
use Rattle.core_run.specs.Views.{disks_served}
use Rattle.core_run.proofs.starts.stop_all.Goals as goal

pub returns-clause-disks : goal.returns-clause-disks
returns-clause-disks g c =
    c.reverse.ensures.items ∙ ap reverse c.stop_each.ensures.disks ∙ reverse-append c.args.disks.now.items (reverse (disks_served c.args.shards.now.items))
    ∙ ap (λ (l : List g.row.D.Denot). l ++ reverse c.args.disks.now.items) (reverse-reverse (disks_served c.args.shards.now.items))
