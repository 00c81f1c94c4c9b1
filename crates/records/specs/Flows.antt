-- 01, "Flow": first step, steps. "Step": an operation step or a branch. "Route": to a later step of the same flow, or a terminal.
-- Assumes nothing.
use Rattle.std.specs.Prelude.{ℕ, ◌+◌, ℤ, Bool, false, cond, ◌&&◌, List, leb, ltb, eqb}
use Rattle.tables.specs.Scan.{sum_below, first_fail}
use Rattle.words.specs.declared.Record.{Record}
use Rattle.words.specs.Record.{unused}
use Rattle.layout.specs.declared.Header.{Header}
use Rattle.layout.specs.Groups.{step_count, route_count}
use Rattle.layout.specs.Tables.{operation, flow, step, route, outcomes_of, step_start_of, step_count_of, kind_of, node_named, persona_named, route_start_of, route_count_of, target_of, operation_named}
use Rattle.records.specs.Names.{named_by_steps, good_root}

unfoldable pub good_flow : List ℤ → Header → ℕ → Bool
good_flow s h k = eqb (step_start_of (flow s h k)) (sum_below (step_count s h) k) && leb 1 (step_count_of (flow s h k)) && unused 2 (flow s h k)

-- kind 0: operation, persona, first route, routes = outcomes + 1
unfoldable pub good_operation_step : List ℤ → Header → Record ℕ → Bool
good_operation_step s h r =
    ltb (operation_named r) h.operations && ltb (persona_named r) h.personas && eqb (route_count_of r) (outcomes_of (operation s h (operation_named r)) + 1)

-- kind 1: node, 0, first route, 2 routes
unfoldable pub good_branch_step : List ℤ → Header → Record ℕ → Bool → Bool
good_branch_step s h r named = good_root s h (node_named r) named && eqb (persona_named r) 0 && eqb (route_count_of r) 2

unfoldable pub good_step : List ℤ → Header → ℕ → Bool
good_step s h k =
    cond (eqb (kind_of (step s h k)) 0) (good_operation_step s h (step s h k))
    (cond (eqb (kind_of (step s h k)) 1) (good_branch_step s h (step s h k) (named_by_steps s h k (node_named (step s h k))))
    false)
    && eqb (route_start_of (step s h k)) (sum_below (route_count s h) k)
    && unused 5 (step s h k)

-- where the steps of flow f end, and where the routes of step i end
abbrev pub steps_end : List ℤ → Header → ℕ → ℕ
steps_end s h f = step_start_of (flow s h f) + step_count_of (flow s h f)

abbrev pub routes_end : List ℤ → Header → ℕ → ℕ
routes_end s h i = route_start_of (step s h i) + route_count_of (step s h i)

-- the flow that step i belongs to, and the step that route r belongs to
unfoldable pub flow_of : List ℤ → Header → ℕ → ℕ
flow_of s h i = first_fail (λ f. leb (steps_end s h f) i) 0 h.flows

unfoldable pub step_of : List ℤ → Header → ℕ → ℕ
step_of s h r = first_fail (λ i. leb (routes_end s h i) r) 0 h.steps

-- kind 0: a step after `owner` and before `end`, the end of the owner's flow; kind 1: terminal 0 success, 1 failure, 2 escalation
unfoldable pub good_route_of : ℕ → ℕ → Record ℕ → Bool
good_route_of owner end r =
    cond (eqb (kind_of r) 0) (ltb owner (target_of r) && ltb (target_of r) end) (eqb (kind_of r) 1 && leb (target_of r) 2) && unused 2 r

unfoldable pub good_route : List ℤ → Header → ℕ → Bool
good_route s h k = good_route_of (step_of s h k) (steps_end s h (flow_of s h (step_of s h k))) (route s h k)
