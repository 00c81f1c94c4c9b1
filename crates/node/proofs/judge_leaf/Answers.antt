-- `node::judge_leaf` meets its contract: there is no kind past 17. Assumes nothing.
use Rattle.node.proofs.Judged.{row_past, no_row}
use Rattle.node.proofs.judge_leaf.Goals as goal

pub returns-in-Err : goal.returns-in-Err
returns-in-Err c = no_row _ c.args.g (row_past _ c.in-Err.ensures.1)
