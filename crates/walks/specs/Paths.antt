-- 01, "Reports": the paths of a flow, their order, and the list of them all.
-- Assumes nothing.
use Rattle.std.specs.Prelude.{◌≡◌, Bool, true, false, List, [], ◌∷◌, ◌++◌, map, ℕ, zero, suc, ◌+◌, ◌≤◌, ◌<◌, ℤ, length, get_or, eqb}
use Rattle.layout.specs.declared.Header.{Header}
use Rattle.layout.specs.Tables.{flow, step, route, step_start_of, step_count_of, kind_of, route_start_of, route_count_of, target_of}

-- the first step of flow f, and how many it has
abbrev pub first_step_of : List ℤ → Header → ℕ → ℕ
first_step_of s h f = step_start_of (flow s h f)

abbrev pub steps_of : List ℤ → Header → ℕ → ℕ
steps_of s h f = step_count_of (flow s h f)

-- the first route of step i, and how many it has
unfoldable pub first_route_of : List ℤ → Header → ℕ → ℕ
first_route_of s h i = route_start_of (step s h i)

unfoldable pub routes_of : List ℤ → Header → ℕ → ℕ
routes_of s h i = route_count_of (step s h i)

-- where its routes end
abbrev pub routes_end_of : List ℤ → Header → ℕ → ℕ
routes_end_of s h i = first_route_of s h i + routes_of s h i

-- whether route r ends at a terminal; the step or the terminal that it leads to
unfoldable pub ends : List ℤ → Header → ℕ → Bool
ends s h r = eqb (kind_of (route s h r)) 1

unfoldable pub target : List ℤ → Header → ℕ → ℕ
target s h r = target_of (route s h r)

-- r is a route of step i
pub record RouteOf (s : List ℤ) (h : Header) (i r : ℕ) : Type 0 where
  pub low : first_route_of s h i ≤ r
  pub high : r < routes_end_of s h i

-- a path from step i: the first is a route of that step; one of kind 0 is followed by one of the step it names; one of kind 1 ends the path
pub data PathFrom (s : List ℤ) (h : Header) : ℕ → List ℕ → Type 0 where
  last : {i r : ℕ} → RouteOf s h i r → kind_of (route s h r) ≡ 1 → PathFrom s h i (r ∷ [])
  next : {i r : ℕ} {p : List ℕ} → RouteOf s h i r → kind_of (route s h r) ≡ 0 → PathFrom s h (target_of (route s h r)) p → PathFrom s h i (r ∷ p)

-- a path of flow f starts at the flow's first step
abbrev pub PathOf : List ℤ → Header → ℕ → List ℕ → Type 0
PathOf s h f p = PathFrom s h (first_step_of s h f) p

-- the last of a list, d where it is empty
unfoldable pub last_of : ℕ → List ℕ → ℕ
last_of d [] = d
last_of d (r ∷ p) = last_of r p

-- the terminal that a path's last route gives
unfoldable pub terminal : List ℤ → Header → List ℕ → ℕ
terminal s h p = target s h (last_of 0 p)

-- the order: at the first place that differs, the smaller number first
pub data Before : List ℕ → List ℕ → Type 0 where
  here : {a b : ℕ} {p q : List ℕ} → a < b → Before (a ∷ p) (b ∷ q)
  later : {a : ℕ} {p q : List ℕ} → Before p q → Before (a ∷ p) (a ∷ q)

-- p is one of the list, by its number
pub record Among (ps : List (List ℕ)) (p : List ℕ) : Type 0 where
  pub number : ℕ
  pub below : number < length ps
  pub is : get_or ps number [] ≡ p

-- a list of all paths of flow f in order, whatever made it: each is a path of the flow; every path of the flow is there; an earlier one
-- comes before a later one, so that none is there twice. There is one such list alone (`only_list`)
pub record WholeList (s : List ℤ) (h : Header) (f : ℕ) (ps : List (List ℕ)) : Type 0 where
  pub sound : (n : ℕ) → n < length ps → PathOf s h f (get_or ps n [])
  pub complete : (p : List ℕ) → PathOf s h f p → Among ps p
  pub ordered : (j k : ℕ) → j < k → k < length ps → Before (get_or ps j []) (get_or ps k [])

-- what can follow route r: nothing where it ends at a terminal, else the paths from the step that it names, which `from` gives
unfoldable pub onward : List ℤ → Header → (ℕ → List (List ℕ)) → ℕ → List (List ℕ)
onward s h from r = elim (ends s h r) [ true ↦ [] ∷ [] | false ↦ from (target s h r) ]

-- the paths that begin with one of the n routes from r on, in the routes' order; `after` gives what can follow a route
unfoldable pub in_turn : (ℕ → List (List ℕ)) → ℕ → ℕ → List (List ℕ)
in_turn after r zero = []
in_turn after r (suc n) = map (λ p. r ∷ p) (after r) ++ in_turn after (suc r) n

-- the paths of at most n routes from step i, in order
unfoldable pub paths_from : List ℤ → Header → ℕ → ℕ → List (List ℕ)
paths_from s h zero i = []
paths_from s h (suc n) i = in_turn (onward s h (paths_from s h n)) (first_route_of s h i) (routes_of s h i)

-- the paths of flow f, in order; as each route leads to a later step, none has more routes than the flow has steps
unfoldable pub paths : List ℤ → Header → ℕ → List (List ℕ)
paths s h f = paths_from s h (steps_of s h f) (first_step_of s h f)

-- path number n, counted from 0
unfoldable pub path : List ℤ → Header → ℕ → ℕ → List ℕ
path s h f n = get_or (paths s h f) n []
