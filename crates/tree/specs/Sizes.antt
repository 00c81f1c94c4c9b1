-- 01, S7: "the number of nodes in the tree under a given node, itself counted".
-- Assumes nothing.
use Rattle.std.specs.Prelude.{ℕ, ℤ, List, length}
use Rattle.layout.specs.declared.Header.{Header}
use Rattle.records.specs.Nodes.{tree_of}

unfoldable pub tree_size : List ℤ → Header → ℕ → ℕ
tree_size s h n = length (tree_of s h n)
