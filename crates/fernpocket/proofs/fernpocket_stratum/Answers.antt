-- `fernpocket::fernpocket_stratum` meets its contract. Assumes nothing.
use Rattle.reports.proofs.SmallReports.{stratum_small}
use Rattle.fernpocket.proofs.fernpocket_stratum.Goals as goal

pub of-requires : goal.of-requires
of-requires c = rw c.look_up.ensures (stratum_small _ _)
