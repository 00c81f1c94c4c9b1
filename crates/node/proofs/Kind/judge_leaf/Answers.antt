-- `node::Kind::judge_leaf` meets its contract. Assumes nothing.
use Rattle.node.specs.Rows.{row_of}
use Rattle.node.proofs.Kind.judge_leaf.Goals as goal

pub returns-in-EnumLiteral : goal.returns-in-EnumLiteral
unfolding row_of
returns-in-EnumLiteral c = rw (c.in-EnumLiteral.is, c.literal-in-EnumLiteral.ensures)
