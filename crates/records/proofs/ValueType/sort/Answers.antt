-- `records::ValueType::sort` meets its contract; the check finds the other types' goals. Assumes nothing.
use Rattle.node.specs.FactTypes.{fact_type_of}
use Rattle.records.proofs.ValueType.sort.Goals as goal

pub returns-in-Enum : goal.returns-in-Enum
unfolding fact_type_of
returns-in-Enum c = rw c.in-Enum.is
