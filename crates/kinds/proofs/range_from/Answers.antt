-- `kinds::range_from` meets its contract. Assumes nothing.
use Rattle.std.proofs.Common.{rules}
use Rattle.node.specs.Rows.{row_of}
use Rattle.kinds.proofs.TakenLaws.{part_taken}
use Rattle.kinds.proofs.range_from.Goals as goal

pub literal_range-requires-in-EnumLiteral : goal.literal_range-requires-in-EnumLiteral
literal_range-requires-in-EnumLiteral c = (search rules, part_taken _ _ c.requires.1 (rw c.in-EnumLiteral.is))

pub returns-in-EnumLiteral : goal.returns-in-EnumLiteral
unfolding row_of
returns-in-EnumLiteral c = rw (c.in-EnumLiteral.is, c.literal_range-in-EnumLiteral.ensures)
