-- What holds of each flow, step and route of an accepted sheet.
-- Assumes nothing.
use mathlib.Core.Path.{◌≡◌, refl, sym}
use mathlib.Core.Bool.{Bool, true, false, cond}
use mathlib.Core.List.{List}
use Prim.Native.Nat.{ℕ, suc, ◌+◌, ◌≤◌, ◌<◌}
use lib.IntN.{ℤ}
use lib.Dec.{eqb}
use native.Mathlib.Omega.{arith}
use native.Mathlib.Decide.{ℕ_discrete}
use borrow.Author.Tests.{eq-eqb, ne_eqb}
use Rattle.layout.proofs.Groups.{covers_steps, covers_routes}
use Rattle.tables.specs.Scan.{sum_below}
use Rattle.tables.proofs.Bools.{tests, true_false}
use Rattle.tables.proofs.Scans.{sum_suc, sum_mono}
use Rattle.words.specs.declared.Record.{Record}
use Rattle.words.specs.Record.{record_at}
use Rattle.layout.specs.declared.Header.{Header}
use Rattle.layout.specs.Groups.{step_count, route_count}
use Rattle.layout.specs.Tables.{operation, flow, step, route}
use Rattle.layout.proofs.Owners.{holder_is}
use Rattle.records.specs.Nodes.{item_of}
use Rattle.records.specs.Names.{named_by_steps, closed, good_root}
use Rattle.records.specs.Flows.{good_flow, good_step, good_operation_step, good_branch_step, good_route, good_route_of, steps_end, routes_end, flow_of, step_of}
use Rattle.records.specs.Accepted.{Accepted}

-- a flow has steps, and they lie in the table
pub record FlowOk (s : List ℤ) (h : Header) (f : ℕ) : Type 0 where
  pub first : (flow s h f).w0 ≡ sum_below (step_count s h) f
  pub some : 1 ≤ (flow s h f).w1
  pub inside : steps_end s h f ≤ h.steps

-- a step has routes, and they lie in the table
pub record StepOk (s : List ℤ) (h : Header) (i : ℕ) : Type 0 where
  pub first : (step s h i).w3 ≡ sum_below (route_count s h) i
  pub some : 1 ≤ (step s h i).w4
  pub inside : routes_end s h i ≤ h.routes

-- the two kinds of step: an operation by a persona, with a route for each outcome and one for failure; a branch on a node, with two
pub data StepKind (s : List ℤ) (h : Header) (r : Record ℕ) : Type 0 where
  performs : r.w0 ≡ 0 → r.w1 < h.operations → r.w2 < h.personas → r.w4 ≡ (operation s h r.w1).w4 + 1 → StepKind s h r
  branches : r.w0 ≡ 1 → r.w1 < h.nodes → (item_of s h r.w1).sort ≡ 0 → closed s h r.w1 ≡ true → r.w4 ≡ 2 → StepKind s h r

-- the two kinds of route: to a step after `owner` and before `end`, or to a terminal
pub data RouteKind (owner end : ℕ) (r : Record ℕ) : Type 0 where
  leads : r.w0 ≡ 0 → owner < r.w1 → r.w1 < end → RouteKind owner end r
  ends : r.w0 ≡ 1 → r.w1 ≤ 2 → RouteKind owner end r

-- the test of a step's kind
step_kind : (s : List ℤ) (h : Header) (r : Record ℕ) (named : Bool)
    → cond (eqb r.w0 0) (good_operation_step s h r) (cond (eqb r.w0 1) (good_branch_step s h r named) false) ≡ true → StepKind s h r
unfolding good_operation_step good_branch_step good_root
step_kind s h r named p = go (ℕ_discrete r.w0 0) (ℕ_discrete r.w0 1)
  where
    go : Dec (r.w0 ≡ 0) → Dec (r.w0 ≡ 1) → StepKind s h r
    go (yes e) d = let q = simp tests at (rw (eq-eqb r.w0 0 e) at p) in performs e q.0.0 q.0.1 q.1
    go (no n) (yes e) =
        let q = simp tests at (rw (ne_eqb r.w0 0 n, eq-eqb r.w0 1 e) at p) in
        branches e q.0.0.0.0.0 q.0.0.0.0.1 q.0.0.0.1 q.1
    go (no n) (no m) = absurd (true_false refl (sym (rw (ne_eqb r.w0 0 n, ne_eqb r.w0 1 m) at p)))

-- the test of a route
route_kind : (owner end : ℕ) (r : Record ℕ) → good_route_of owner end r ≡ true → RouteKind owner end r
unfolding good_route_of
route_kind owner end r p = go (ℕ_discrete r.w0 0)
  where
    go : Dec (r.w0 ≡ 0) → RouteKind owner end r
    go (yes e) = let q = simp tests at (rw (eq-eqb r.w0 0 e) at p) in leads e q.0.0 q.0.1
    go (no n) = let q = simp tests at (rw (ne_eqb r.w0 0 n) at p) in ends q.0.0 q.0.1

-- a step has at least one route
some_routes : (s : List ℤ) (h : Header) (r : Record ℕ) → StepKind s h r → 1 ≤ r.w4
some_routes s h r (performs e o q c) = omega arith
some_routes s h r (branches e o t l c) = omega arith

module _ (s : List ℤ) (h : Header) (a : Accepted s h) where
  -- an owner's members lie in the table
  steps_in : (f : ℕ) → f < h.flows → (flow s h f).w0 ≡ sum_below (step_count s h) f → steps_end s h f ≤ h.steps
  unfolding record_at
  steps_in f l e = omega (arith, sum_suc (step_count s h) f, sum_mono (step_count s h) (suc f) h.flows l, covers_steps s h a.groups)

  routes_in : (i : ℕ) → i < h.steps → (step s h i).w3 ≡ sum_below (route_count s h) i → routes_end s h i ≤ h.routes
  unfolding record_at
  routes_in i l e = omega (arith, sum_suc (route_count s h) i, sum_mono (route_count s h) (suc i) h.steps l, covers_routes s h a.groups)

  pub flow_ok : (f : ℕ) → f < h.flows → FlowOk s h f
  unfolding good_flow
  flow_ok f l = let q = simp tests at (a.flows f l) in record { first = q.0.0; some = q.0.1; inside = steps_in f l q.0.0 }

  pub step_is : (i : ℕ) → i < h.steps → StepKind s h (step s h i)
  unfolding good_step
  step_is i l = let q = simp tests at (a.steps i l) in step_kind s h (step s h i) (named_by_steps s h i (step s h i).w1) q.0.0

  pub step_ok : (i : ℕ) → i < h.steps → StepOk s h i
  unfolding good_step
  step_ok i l =
      let q = simp tests at (a.steps i l) in
      record { first = q.0.1; some = some_routes s h (step s h i) (step_is i l); inside = routes_in i l q.0.1 }

  -- the flow of a step and the step of a route, by where their owner's members lie
  pub flow_of_lem : (f i : ℕ) → f < h.flows → (flow s h f).w0 ≤ i → i < steps_end s h f → flow_of s h i ≡ f
  unfolding flow_of record_at
  flow_of_lem f i l p q = holder_is (λ (k : ℕ). (flow s h k).w0) (step_count s h) h.flows (λ k m. (flow_ok k m).first) f i l p q

  pub step_of_lem : (i r : ℕ) → i < h.steps → (step s h i).w3 ≤ r → r < routes_end s h i → step_of s h r ≡ i
  unfolding step_of record_at
  step_of_lem i r l p q = holder_is (λ (k : ℕ). (step s h k).w3) (route_count s h) h.steps (λ k m. (step_ok k m).first) i r l p q

  -- a route of step i of flow f leads to a later step of the same flow, or to a terminal
  pub route_is : (f i r : ℕ) → f < h.flows → (flow s h f).w0 ≤ i → i < steps_end s h f → (step s h i).w3 ≤ r → r < routes_end s h i
      → RouteKind i (steps_end s h f) (route s h r)
  unfolding good_route
  route_is f i r l p q u v =
      let m : i < h.steps = omega (arith, (flow_ok f l).inside) in
      let z = a.routes r (omega (arith, (step_ok i m).inside)) in
      route_kind i (steps_end s h f) (route s h r) (rw (step_of_lem i r m u v, flow_of_lem f i l p q) at z)
