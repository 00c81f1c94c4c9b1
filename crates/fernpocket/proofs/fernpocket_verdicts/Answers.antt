-- `fernpocket::fernpocket_verdicts` meets its contract. Assumes nothing.
use Rattle.evaluate.proofs.EvaluateLaws.{verdicts_small}
use Rattle.answer.proofs.Numbers.{status_small}
use Rattle.fernpocket.proofs.fernpocket_verdicts.Goals as goal

pub of-requires : goal.of-requires
of-requires c = status_small _ (rw c.verdicts.ensures.value (verdicts_small _ _ _))
