-- `kinds::decides` meets its contract: a kind past 17 is decided by no child. Assumes nothing.
use mathlib.Core.Path.{ap, sym}
use Rattle.node.specs.Rows.{Row}
use Rattle.node.proofs.Judged.{row_past}
use Rattle.kinds.proofs.decides.Goals as goal

pub returns-in-Err : goal.returns-in-Err
returns-in-Err c = ap (λ (r : Row). r.decides c.args.x) (sym (row_past _ c.in-Err.ensures.1))
