use Rattle.std.proofs.Common.{Ok, refl}
use Rattle.std.specs.Prelude.{Some}
use Rattle.line_proto.specs.declared.reply.Reply.TheVariants as reply
use Rattle.core_run.proofs.node.print_on.Goals as goal

pub returns-in-Ok-clause-printed : goal.returns-in-Ok-clause-printed
returns-in-Ok-clause-printed g c = λ yes. (
  reply.Val c.in-Some.version.stamp c.in-Some.version.void c.in-Some.version.payload,
  record {
    got = Ok (Some c.in-Some.version);
    reply_is = refl;
    goes_on = λ h. cc;
    makes = c.in-Some.ensures.makes;
    stored = c.in-Some.ensures.stored;
    whole = c.in-Some.ensures.whole;
    own = c.requires.place;
  },
  c.in-Ok.ensures.ok,
)
