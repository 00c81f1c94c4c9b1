-- `signed::holds` meets its contract: there is no comparison past 5. Assumes nothing.
use mathlib.Core.Path.{sym}
use Rattle.signed.proofs.Pairs.{holds_unknown}
use Rattle.signed.proofs.holds.Goals as goal

pub returns-in-Err : goal.returns-in-Err
returns-in-Err c = sym (holds_unknown _ _ _ c.in-Err.ensures.1)
