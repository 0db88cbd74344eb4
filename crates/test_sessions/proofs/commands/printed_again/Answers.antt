use Rattle.test_sessions.proofs.commands.printed_again.Goals as goal

-- the line that was read spells it
pub print_command-requires : goal.print_command-requires
print_command-requires c = (c.args.text.now, (c.in_ok-command.ensures.exact c.in-Some.command).0 c.in-Some.is)
