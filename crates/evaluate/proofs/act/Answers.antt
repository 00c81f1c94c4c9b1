-- `evaluate::act` meets its contract: an attempt over the facts and their verdicts. Assumes nothing.
use Rattle.evaluate.proofs.EvaluateLaws.{attemptable}
use Rattle.evaluate.proofs.act.Goals as goal

pub attempt-requires : goal.attempt-requires
attempt-requires c = attemptable c.requires c.settle.ensures.lists_after c.settle.ensures.verdicts_after
