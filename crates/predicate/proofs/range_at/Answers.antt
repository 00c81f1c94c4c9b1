-- `predicate::range_at` meets its contract. Assumes nothing.
use mathlib.Core.Path.{ap, sym}
use Rattle.node.specs.Rows.{Row}
use Rattle.node.proofs.Judged.{row_past}
use Rattle.predicate.specs.Base.{given_at}
use Rattle.predicate.proofs.range_at.Goals as goal

pub returns-in-Err : goal.returns-in-Err
returns-in-Err c =
    ap (λ (r : Row). r.gives (given_at c.args.s.now c.args.base c.args.rules c.args.k c.args.x c.args.y)) (sym (row_past _ c.in-Err.ensures.1))
