-- `fernpocket::fernpocket_run` meets its contract. Assumes nothing.
use Rattle.flows.proofs.FlowCallLaws.{run_call_small}
use Rattle.fernpocket.proofs.fernpocket_run.Goals as goal

pub of-requires : goal.of-requires
of-requires c = rw c.run.ensures.value
    (run_call_small _ _ _ _ _ c.args.path.now)
