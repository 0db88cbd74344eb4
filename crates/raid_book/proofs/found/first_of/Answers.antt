use Rattle.std.proofs.Common.{◌≡◌, option_map, ap, ◌∙◌, rules}
use Rattle.std.specs.Option.{option_copied}
use Rattle.raid_book.specs.declared.found.FoundCopy.{FoundCopy}
use Rattle.raid_book.proofs.Leasts.{least_part-falls}
use Rattle.raid_book.proofs.found.first_of.Goals as goal

pub returns : goal.returns
returns c =
    let part : c.map.result ≡ option_map (λ (x : FoundCopy). x.part) (option_copied c.last.result) = search rules in
    part ∙ ap (option_map (λ (x : FoundCopy). x.part)) c.last.ensures.value ∙ least_part-falls c.args.row.now c.requires
