-- `fernpocket::fernpocket_outcomes` meets its contract. Assumes nothing.
use Rattle.reports.proofs.SmallReports.{outcomes_small}
use Rattle.fernpocket.proofs.fernpocket_outcomes.Goals as goal

pub of-requires : goal.of-requires
of-requires c = rw c.look_up.ensures (outcomes_small _ _)
