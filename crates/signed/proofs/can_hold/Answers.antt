-- `signed::can_hold` meets its contract: there is no comparison past 5. Assumes nothing.
use mathlib.Core.Path.{sym}
use Rattle.signed.proofs.Pairs.{can_hold_unknown}
use Rattle.signed.proofs.can_hold.Goals as goal

pub returns-in-Err : goal.returns-in-Err
returns-in-Err c = sym (can_hold_unknown _ _ _ _ _ c.in-Err.ensures.1)
