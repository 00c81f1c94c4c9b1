-- `fernpocket::fernpocket_next` meets its contract. Assumes nothing.
use Rattle.flows.proofs.FlowCallLaws.{next_call_small}
use Rattle.fernpocket.proofs.fernpocket_next.Goals as goal

pub of-requires : goal.of-requires
of-requires c = rw c.next.ensures.value (next_call_small _ _ c.args.path.now)
