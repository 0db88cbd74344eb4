use Rattle.std.proofs.Common.{map, refl}
use Rattle.std.specs.Prelude.{string_bytes}
use Rattle.node_prog.proofs.Doing.{done}
use Rattle.node_prog.proofs.serve.Goals as goal

pub returns : goal.returns
returns g c =
    done (map string_bytes c.args.words.now) c.args.disks.items c.node_top-outcome.result.0.disks.items c.node_top-outcome.result.0.status c.node_top-outcome.result.0.note
    c.args.door c.node_top-outcome.result.1 c.new-sound.result.value c.new-sound.ensures c.node_top-outcome.ensures.served c.node_top-outcome.ensures.generated
    (λ tuning serving names asks. let made = c.node_top-outcome.ensures.serves tuning serving names asks in (made.0, made.1))
    (λ none. let told = c.node_top-outcome.ensures.refused none in (told.0, told.1))
    (λ shape names asks. let made = c.node_top-outcome.ensures.formatted shape names asks in made.0)
    (λ names asks. let read = c.node_top-outcome.ensures.checked names asks in read.0)
    (λ names asks. let read = c.node_top-outcome.ensures.audited names asks in read.0)
    refl refl
