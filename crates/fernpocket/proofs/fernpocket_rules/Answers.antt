-- `fernpocket::fernpocket_rules` meets its contract. Assumes nothing.
use Rattle.reports.proofs.SmallReports.{rules_small}
use borrow.Author.Rules.{rules}
use Rattle.fernpocket.proofs.fernpocket_rules.Goals as goal

pub of-requires : goal.of-requires
of-requires c = rw c.rules.ensures (rules_small _)
