-- `records::ValueType::good_set` meets its contract; the check finds the other types' goals. Assumes nothing.
use mathlib.Core.Logic.{inl, inr}
use Rattle.node.specs.FactTypes.{fact_type_of}
use Rattle.records.proofs.ValueType.good_set.Goals as goal

pub returns-in-Enum : goal.returns-in-Enum
unfolding fact_type_of
returns-in-Enum c = elim c.in-Enum.is [ inl enum ↦ rw enum | inr money ↦ rw money ]
