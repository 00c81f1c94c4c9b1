-- `fernpocket::fernpocket_assemble` meets its contract. Assumes nothing.
use Rattle.evaluate.proofs.EvaluateLaws.{assemble_small}
use Rattle.answer.proofs.Numbers.{status_small}
use Rattle.fernpocket.proofs.fernpocket_assemble.Goals as goal

pub of-requires : goal.of-requires
of-requires c = status_small _ (rw c.assemble.ensures.value (assemble_small _ _))
