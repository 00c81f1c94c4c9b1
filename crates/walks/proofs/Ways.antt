-- The steps and routes of an accepted sheet as a walk meets them, and the paths from a step by those from the steps it leads to.
-- Assumes nothing.
use mathlib.Core.Path.{◌≡◌, refl, sym, ◌∙◌}
use mathlib.Core.Bool.{true, false}
use mathlib.Core.List.{List, [], ◌∷◌}
use mathlib.Core.Logic.{⊎_elim}
use Prim.Native.Nat.{ℕ, zero, suc, ◌+◌, ◌≤◌, ◌<◌}
use lib.IntN.{ℤ}
use native.Mathlib.Omega.{arith}
use borrow.Author.Tests.{eq-eqb, eqb-true}
use Rattle.tables.proofs.Bools.{bool_cases, true_false}
use Rattle.layout.specs.declared.Header.{Header}
use Rattle.layout.specs.Tables.{flow, route}
use Rattle.records.specs.Accepted.{Accepted}
use Rattle.records.specs.Flows.{steps_end}
use Rattle.records.proofs.FlowLaws.{flow_ok, step_ok, RouteKind, leads, ends as to_end, route_is}
use Rattle.walks.specs.Paths.{first_route_of, routes_of, routes_end_of, ends, target, RouteOf, onward, in_turn, paths_from, paths}
use Rattle.walks.specs.Inner.{paths_on, paths_after, Way}

-- lists of paths that agree on what can follow each route are equal
pub turn_same : (f g : ℕ → List (List ℕ)) (r n : ℕ) → ((x : ℕ) → r ≤ x → x < r + n → f x ≡ g x) → in_turn f r n ≡ in_turn g r n
unfolding in_turn
turn_same f g r zero k = refl
turn_same f g r (suc n) k = rw (k r (omega arith) (omega arith), turn_same f g (suc r) n (λ x p q. k x (omega arith) (omega arith)))

-- what can follow a route, by where it leads
module _ (s : List ℤ) (h : Header) (from : ℕ → List (List ℕ)) (r : ℕ) where
  pub onward_ends : ends s h r ≡ true → onward s h from r ≡ [] ∷ []
  unfolding onward
  onward_ends e = rw (e, onward)

  pub onward_leads : ends s h r ≡ false → onward s h from r ≡ from (target s h r)
  unfolding onward
  onward_leads e = rw (e, onward)

pub onward_same : (s : List ℤ) (h : Header) (f g : ℕ → List (List ℕ)) (r : ℕ) → (ends s h r ≡ false → f (target s h r) ≡ g (target s h r))
    → onward s h f r ≡ onward s h g r
onward_same s h f g r k =
    ⊎_elim (λ e. onward_ends s h f r e ∙ sym (onward_ends s h g r e)) (λ e. onward_leads s h f r e ∙ k e ∙ sym (onward_leads s h g r e))
    (bool_cases (ends s h r))

pub kind_ends : (s : List ℤ) (h : Header) (r : ℕ) → ends s h r ≡ true → (route s h r).w0 ≡ 1
unfolding ends
kind_ends s h r e = eqb-true (route s h r).w0 1 e

module _ (s : List ℤ) (h : Header) (a : Accepted s h) where
  -- a step's routes lie in the table
  pub step_ends : (i : ℕ) → i < h.steps → routes_end_of s h i ≤ h.routes
  unfolding first_route_of routes_of
  step_ends i l = (step_ok s h a i l).inside

  pub way_start : (f : ℕ) → f < h.flows → Way s h (flow s h f).w0 (flow s h f).w1
  way_start f l = let k = flow_ok s h a f l in record { of = f; exists = l; low = omega arith; high = omega arith; left = omega arith }

  module _ {i n : ℕ} (w : Way s h i n) where
    pub way_step : i < h.steps
    way_step = omega (arith, (flow_ok s h a w.of w.exists).inside)

    -- as many steps as the sheet has are enough
    pub way_wide : (m : ℕ) → h.steps ≤ m → Way s h i m
    way_wide m l =
        let k = (flow_ok s h a w.of w.exists).inside in
        record { of = w.of; exists = w.exists; low = w.low; high = w.high; left = omega arith }

    pub way_some : 1 ≤ routes_of s h i
    unfolding routes_of
    way_some = (step_ok s h a i way_step).some

    pub way_ends : routes_end_of s h i ≤ h.routes
    way_ends = step_ends i way_step

    -- the first route is one
    pub way_first : RouteOf s h i (first_route_of s h i)
    way_first = let k = way_some in record { low = omega arith; high = omega arith }

    module _ (r : ℕ) (o : RouteOf s h i r) where
      pub way_route : r < h.routes
      way_route = omega (arith, way_ends, o.high)

      kind : RouteKind i (steps_end s h w.of) (route s h r)
      unfolding first_route_of routes_of
      kind = route_is s h a w.of i r w.exists w.low w.high o.low o.high

      pub kind_leads : ends s h r ≡ false → (route s h r).w0 ≡ 0
      unfolding ends
      kind_leads e = go kind
        where
          go : RouteKind i (steps_end s h w.of) (route s h r) → (route s h r).w0 ≡ 0
          go (leads z p q) = z
          go (to_end z p) = absurd (true_false (eq-eqb (route s h r).w0 1 z) e)

      -- a route that leads to a step leads to a later one of the same flow
      pub way_later : ends s h r ≡ false → (i < target s h r) × (target s h r < steps_end s h w.of)
      unfolding target
      way_later e = go kind
        where
          go : RouteKind i (steps_end s h w.of) (route s h r) → (i < (route s h r).w1) × ((route s h r).w1 < steps_end s h w.of)
          go (leads z p q) = (p, q)
          go (to_end z p) = let k = kind_leads e in absurd (omega arith)

      pub way_on : ends s h r ≡ false → (m : ℕ) → n ≤ suc m → Way s h (target s h r) m
      way_on e m l = let z = way_later e in record { of = w.of; exists = w.exists; low = omega arith; high = z.1; left = omega arith }

      -- a route that ends at a terminal ends at one of three
      pub small_terminal : ends s h r ≡ true → target s h r ≤ 2
      unfolding target
      small_terminal e = go kind
        where
          go : RouteKind i (steps_end s h w.of) (route s h r) → (route s h r).w1 ≤ 2
          go (leads z p q) = let k = kind_ends s h r e in absurd (omega arith)
          go (to_end z p) = p

  -- where the bound is enough, another that is enough gives the same paths
  same_bound : (n m i : ℕ) → Way s h i n → Way s h i m → paths_from s h n i ≡ paths_from s h m i
  unfolding paths_from
  same_bound zero m i w v = absurd (omega arith)
  same_bound (suc n) zero i w v = absurd (omega arith)
  same_bound (suc n) (suc m) i w v =
      turn_same (onward s h (paths_from s h n)) (onward s h (paths_from s h m)) (first_route_of s h i) (routes_of s h i)
      (λ x p q.
      let o : RouteOf s h i x = record { low = p; high = q } in
      onward_same s h (paths_from s h n) (paths_from s h m) x (λ e. same_bound n m (target s h x) (way_on w x o e n (omega arith)) (way_on v x o e m (omega arith))))

  pub paths_on_lem : (f : ℕ) → f < h.flows → paths s h f ≡ paths_on s h (flow s h f).w0
  unfolding paths paths_on
  paths_on_lem f l = let w = way_start f l in same_bound (flow s h f).w1 h.steps (flow s h f).w0 w (way_wide w h.steps (omega arith))

  -- the paths from a step: for each of its routes, what can follow
  pub step_paths : {i n : ℕ} → Way s h i n → paths_on s h i ≡ in_turn (paths_after s h) (first_route_of s h i) (routes_of s h i)
  unfolding paths_on paths_from
  step_paths {i} {n} w = same_bound h.steps (suc h.steps) i (way_wide w h.steps (omega arith)) (way_wide w (suc h.steps) (omega arith))
