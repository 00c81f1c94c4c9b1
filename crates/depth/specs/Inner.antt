-- What the inner functions ask and answer, and what proofs speak of. The definitions of the other files do not rest on these.
-- Assumes nothing.
use Rattle.std.specs.Prelude.{true, false, List, ℕ, ◌≤◌, zero, suc, ◌+◌, max, ℤ, get_or}
use Rattle.layout.specs.declared.Header.{Header}
use Rattle.walks.specs.Paths.{first_route_of, routes_of, ends, target}

-- the greatest of f at the n numbers from i on
unfoldable pub max_from : (ℕ → ℕ) → ℕ → ℕ → ℕ
max_from f i zero = 0
max_from f i (suc n) = max (f i) (max_from f (suc i) n)

-- steps on the longest way by route r, where d has those from each later step
unfoldable pub route_depth : List ℤ → Header → List ℕ → ℕ → ℕ
route_depth s h d r = elim (ends s h r) [ true ↦ 1 | false ↦ get_or d (target s h r) 0 + 1 ]

-- and from step i
unfoldable pub step_depth : List ℤ → Header → List ℕ → ℕ → ℕ
step_depth s h d i = max_from (route_depth s h d) (first_route_of s h i) (routes_of s h i)

-- no entry is above the number of steps that a sheet can have
pub record Shallow (d : List ℕ) : Type 0 where
  pub each : (j : ℕ) → get_or d j 0 ≤ 256
