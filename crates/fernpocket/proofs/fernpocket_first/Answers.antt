-- `fernpocket::fernpocket_first` meets its contract. Assumes nothing.
use Rattle.flows.proofs.FlowCallLaws.{first_call_small}
use Rattle.fernpocket.proofs.fernpocket_first.Goals as goal

pub of-requires : goal.of-requires
of-requires c = rw c.first.ensures.value (first_call_small _ _ c.args.path.now)
