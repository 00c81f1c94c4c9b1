-- 01, "Verdicts": rule by rule, 1 if its when-node is true over facts and lower verdicts, else 0.
-- Assumes nothing.
use Rattle.std.specs.Prelude.{ℕ, zero, suc, ℤ, List, [], ◌∷◌, ◌++◌}
use Rattle.layout.specs.declared.Header.{Header}
use Rattle.layout.specs.Tables.{rule, when_node_of}
use Rattle.node.specs.FactValues.{FactValue}
use Rattle.node.specs.Rows.{bit}
use Rattle.predicate.specs.Values.{truth}

-- the when-node of rule k
abbrev pub when_node : List ℤ → Header → ℕ → ℕ
when_node s h k = when_node_of (rule s h k)

-- the verdicts of the first rules, as many as the number says, each from those before it
unfoldable pub verdicts_to : List ℤ → Header → List FactValue → ℕ → List ℤ
verdicts_to s h facts zero = []
verdicts_to s h facts (suc k) = let t = verdicts_to s h facts k in t ++ (bit (truth s h facts t (when_node s h k)) ∷ [])

unfoldable pub verdicts_of : List ℤ → Header → List FactValue → List ℤ
verdicts_of s h facts = verdicts_to s h facts h.rules
