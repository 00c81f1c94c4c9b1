-- 02, CR 4: "a day being 24 hours": what a duration is in seconds.
-- Assumes nothing.
use Rattle.std.specs.Prelude.{ℕ, ℤ, List}
use Rattle.layout.specs.declared.Header.{Header}
use Rattle.item.specs.Units.{converted}
use Rattle.node.specs.FactValues.{FactValue}
use Rattle.records.specs.Nodes.{item_of}
use Rattle.predicate.specs.Values.{value_of}

-- the value of node n at an element, a duration beside one in seconds, whose type has the number 261; what is no duration is the value itself
unfoldable pub seconds_of : List ℤ → Header → List FactValue → List ℤ → ℕ → ℤ → ℤ
seconds_of s h facts verdicts n e = converted (item_of s h n).sort 261 (value_of s h facts verdicts n e)
