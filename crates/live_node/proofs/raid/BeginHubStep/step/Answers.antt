use Rattle.std.proofs.Common.{refl}
use Rattle.model_device.specs.Events.{raid_numbered}
use Rattle.shard_raid.specs.Raids.{number_of}
use Rattle.live_node.proofs.raid.BeginHubStep.step.Goals as goal

pub returns-clause-makes : goal.returns-clause-makes
returns-clause-makes g c = λ setup s is stands.
    let made = c.raid_begin.ensures.makes setup s is stands in (
      raid_numbered (number_of c.raid_begin.result),
      refl,
      record {
        event = made.event;
        is_call = made.is_call;
        is_answer = made.is_answer;
        follows = made.follows;
        told = made.told;
        left = made.left;
        counted = made.counted;
        stands = made.stands.shelf_stands;
        placed = made.placed;
        safe = made.safe;
        leaves = made.leaves;
      },
    )
