-- `fernpocket::fernpocket_states` meets its contract. Assumes nothing.
use Rattle.reports.proofs.SmallReports.{states_small}
use Rattle.fernpocket.proofs.fernpocket_states.Goals as goal

pub of-requires : goal.of-requires
of-requires c = rw c.look_up.ensures (states_small _ _)
