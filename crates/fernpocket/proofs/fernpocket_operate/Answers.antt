-- `fernpocket::fernpocket_operate` meets its contract. Assumes nothing.
use Rattle.evaluate.proofs.EvaluateLaws.{operate_small}
use Rattle.fernpocket.proofs.fernpocket_operate.Goals as goal

pub of-requires : goal.of-requires
of-requires c = rw c.operate.ensures.value (operate_small _ _ _ _ _ _)
