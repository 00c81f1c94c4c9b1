-- `records::ValueType::good_bounds` meets its contract; the check finds the other types' goals. Assumes nothing.
use Rattle.signed.proofs.Fit.{back}
use Rattle.node.specs.FactTypes.{fact_type_of}
use Rattle.records.proofs.ValueType.good_bounds.Goals as goal

pub returns-in-Enum : goal.returns-in-Enum
unfolding fact_type_of
returns-in-Enum c = rw (c.in-Enum.is, c.within.ensures, c.same-in-Enum.ensures, back c.ranges.min, back c.ranges.max)
