-- `signed::can_fail` meets its contract: there is no comparison past 5. Assumes nothing.
use mathlib.Core.Path.{sym}
use Rattle.signed.proofs.Pairs.{can_fail_unknown}
use Rattle.signed.proofs.can_fail.Goals as goal

pub returns-in-Err : goal.returns-in-Err
returns-in-Err c = sym (can_fail_unknown _ _ _ _ _ c.in-Err.ensures.1)
