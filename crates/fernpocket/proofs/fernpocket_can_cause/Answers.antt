-- `fernpocket::fernpocket_can_cause` meets its contract. Assumes nothing.
use Rattle.reports.proofs.SmallReports.{can_cause_small}
use Rattle.fernpocket.proofs.fernpocket_can_cause.Goals as goal

pub of-requires : goal.of-requires
of-requires c = rw c.can_cause.ensures (can_cause_small _ _ _ _ _)
