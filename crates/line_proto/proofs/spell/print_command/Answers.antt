use Rattle.line_proto.proofs.Spelling.{printed_spells}
use Rattle.line_proto.proofs.spell.print_command.Goals as goal

pub returns-in_err-text-clause-spells : goal.returns-in_err-text-clause-spells
returns-in_err-text-clause-spells c = printed_spells c.args.command.now c.requires

pub returns-clause-spells : goal.returns-clause-spells
returns-clause-spells c = printed_spells c.args.command.now c.requires
