-- `fernpocket::fernpocket_reachable` meets its contract. Assumes nothing.
use Rattle.reports.proofs.SmallReports.{reachable_small}
use Rattle.fernpocket.proofs.fernpocket_reachable.Goals as goal

pub of-requires : goal.of-requires
of-requires c = rw c.reachable.ensures (reachable_small _ _)
