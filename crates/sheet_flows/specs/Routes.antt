-- What the scan of the routes keeps: the flow of the present step, and where that flow's steps end.
-- Assumes nothing.
use Rattle.std.specs.Prelude.{◌≡◌, true, cond, List, ℕ, ◌+◌, ◌≤◌, ◌<◌, ℤ, eqb}
use Rattle.tables.specs.Scan.{sum_below}
use Rattle.layout.specs.declared.Header.{Header}
use Rattle.layout.specs.Groups.{good_groups, step_count}
use Rattle.layout.specs.Sized.{Sized}
use Rattle.layout.specs.Tables.{step, route_start_of}
use Rattle.records.specs.Flows.{good_flow, good_step, routes_end, steps_end, flow_of}
use Rattle.sheet_flows.specs.declared.Cursor.{Cursor}

-- what is known before the routes are scanned
pub record FlowsGood (s : List ℤ) (h : Header) : Type 0 where
  pub sized : Sized s h
  pub groups : good_groups s h ≡ true
  pub flows : (k : ℕ) → k < h.flows → good_flow s h k ≡ true
  pub steps : (k : ℕ) → k < h.steps → good_step s h k ≡ true

-- the cursor at step i, from the one at the step before
abbrev pub moved : List ℤ → Header → Cursor → ℕ → Cursor
moved s h c i = cond (eqb i c.last) (record { flows = c.flows + 1; last = c.last + step_count s h c.flows }) c

-- a cursor that has come to step i: the steps of the first `flows` flows end at `last`, and the last of them starts at or before i
pub record Room (s : List ℤ) (h : Header) (c : Cursor) (i : ℕ) : Type 0 where
  pub ready : FlowsGood s h
  pub here : i < h.steps
  pub few : c.flows ≤ h.flows
  pub sum : c.last ≡ sum_below (step_count s h) c.flows
  pub reached : i ≤ c.last
  pub within : (f : ℕ) → c.flows ≡ f + 1 → sum_below (step_count s h) f ≤ i

-- step i, where the steps of its flow end, and where its routes start and end
pub record StepAt (s : List ℤ) (h : Header) (i last first end : ℕ) : Type 0 where
  pub here : i < h.steps
  pub starts : first ≡ route_start_of (step s h i)
  pub ends : end ≡ routes_end s h i
  pub flow : last ≡ steps_end s h (flow_of s h i)
