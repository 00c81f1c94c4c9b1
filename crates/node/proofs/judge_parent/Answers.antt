-- `node::judge_parent` meets its contract: a kind past 17 has no children. Assumes nothing.
use mathlib.Core.Path.{ap}
use Rattle.node.specs.Rows.{Row}
use Rattle.node.proofs.Judged.{row_past}
use Rattle.node.proofs.judge_parent.Goals as goal

pub returns-in-Err : goal.returns-in-Err
returns-in-Err c = absurd (c.requires (ap (λ (r : Row). r.children c.args.g.words) (row_past _ c.in-Err.ensures.1)))
