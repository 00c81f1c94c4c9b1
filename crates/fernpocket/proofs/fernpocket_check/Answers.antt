-- `fernpocket::fernpocket_check` meets its contract. Assumes nothing.
use Rattle.ladder.proofs.Small.{checked_small}
use Rattle.answer.proofs.Numbers.{status_small}
use Rattle.fernpocket.proofs.fernpocket_check.Goals as goal

pub of-requires : goal.of-requires
of-requires c = status_small _ (rw c.check.ensures (checked_small _))
