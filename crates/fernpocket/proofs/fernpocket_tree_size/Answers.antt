-- `fernpocket::fernpocket_tree_size` meets its contract. Assumes nothing.
use Rattle.reports.proofs.SmallReports.{tree_size_small}
use Rattle.fernpocket.proofs.fernpocket_tree_size.Goals as goal

pub of-requires : goal.of-requires
of-requires c = rw c.look_up.ensures (tree_size_small _ _)
