-- `predicate::joint_at` meets its contract. Assumes nothing.
use mathlib.Core.Path.{◌∙◌}
use Rattle.signed.proofs.Fit.{back, back_of}
use Rattle.kinds.proofs.SecondsLaws.{unknown_seconds}
use Rattle.predicate.proofs.joint_at.Goals as goal

pub returns-in-Ok : goal.returns-in-Ok
returns-in-Ok c base facts verdicts e body = back_of c.joint_from.result c.joint_from.type_inv
    ∙ rw (back c.ranges.x, back c.ranges.y, c.in-Ok.ensures, c.words_at.ensures) at c.joint_from.ensures _ facts verdicts e body

pub returns-in-Err : goal.returns-in-Err
returns-in-Err c base facts verdicts e body = unknown_seconds _ c.in-Err.ensures.1 _ _ facts verdicts e _ _ body
