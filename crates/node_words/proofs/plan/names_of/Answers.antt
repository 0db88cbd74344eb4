use Rattle.std.proofs.Common.{map, string_bytes}
use Rattle.node_words.proofs.Plans.{none_planned, few_names, some_planned}
use Rattle.node_words.proofs.plan.names_of.Goals as goal

pub returns-in_default : goal.returns-in_default
returns-in_default c = none_planned (map string_bytes c.args.words.now) c.in_default.ensures.exact

pub copied-requires : goal.copied-requires
copied-requires c = few_names (map string_bytes c.args.words.now) c.in-Some.request.job c.in-Some.request.names.now c.in-Some.ensures.exact

pub returns : goal.returns
returns c =
    some_planned (map string_bytes c.args.words.now) c.in-Some.request.job (map string_bytes c.in-Some.request.names.now) _ c.in-Some.ensures.exact
    (λ i. record {
      names = c.in_ok-copied.ensures i;
      make_len = c.made_length.ensures i;
      port = (c.serving-serving.ensures i).port;
      links = (c.serving-serving.ensures i).links;
      idle = (c.serving-serving.ensures i).idle;
    })
