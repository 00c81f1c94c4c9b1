-- 01, S7: the number of steps on a flow's longest path; and the same by one pass over the routes, from the last step to the first.
-- Assumes nothing.
use Rattle.std.specs.Prelude.{List, [], ◌∷◌, ℕ, max, ℤ, length}
use Rattle.layout.specs.declared.Header.{Header}
use Rattle.walks.specs.Paths.{paths}

-- the greatest length among the paths
unfoldable pub greatest : List (List ℕ) → ℕ
greatest [] = 0
greatest (p ∷ ps) = max (length p) (greatest ps)

-- a path takes one route at each of its steps, so its length is the number of its steps
unfoldable pub depth : List ℤ → Header → ℕ → ℕ
depth s h f = greatest (paths s h f)
