-- `node::children` meets its contract: a kind past 17 has none. Assumes nothing.
use mathlib.Core.Path.{ap, sym}
use Rattle.node.specs.Rows.{Row}
use Rattle.node.proofs.Judged.{row_past}
use Rattle.node.proofs.children.Goals as goal

pub returns-in-Err : goal.returns-in-Err
returns-in-Err c = ap (λ (r : Row). r.children c.args.w) (sym (row_past _ c.in-Err.ensures.1))
