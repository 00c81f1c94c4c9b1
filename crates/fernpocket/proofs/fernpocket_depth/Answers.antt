-- `fernpocket::fernpocket_depth` meets its contract. Assumes nothing.
use Rattle.reports.proofs.SmallReports.{depth_small}
use Rattle.fernpocket.proofs.fernpocket_depth.Goals as goal

pub of-requires : goal.of-requires
of-requires c = rw c.look_up.ensures (depth_small _ _)
