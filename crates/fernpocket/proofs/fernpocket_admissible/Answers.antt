-- `fernpocket::fernpocket_admissible` meets its contract. Assumes nothing.
use Rattle.reports.proofs.SmallReports.{admissible_small}
use Rattle.fernpocket.proofs.fernpocket_admissible.Goals as goal

pub of-requires : goal.of-requires
of-requires c = rw c.admissible.ensures (admissible_small _ _ _ _ _)
