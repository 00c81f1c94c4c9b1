-- The checker's three parts, and what each leaves for the next.
-- Assumes nothing.
use Rattle.std.specs.Prelude.{◌≡◌, Bool, true, false, ⊤, List, ℕ, ◌*◌, ◌≤◌, ◌<◌, ℤ, length, replicate, Result}
use Rattle.layout.specs.declared.Header.{Header}
use Rattle.layout.specs.Header.{first_node, first_rule, first_entity, first_transition, first_operation, first_effect, first_flow, first_step, first_route}
use Rattle.layout.specs.Tables.{entity}
use Rattle.records.specs.Facts.{good_fact}
use Rattle.records.specs.Nodes.{good_node}
use Rattle.records.specs.Names.{named_by_operations}
use Rattle.records.specs.Rules.{good_rule}
use Rattle.records.specs.Entities.{good_entity, good_transition}
use Rattle.records.specs.Operations.{good_operation, good_effect}
use Rattle.records.specs.Flows.{good_flow, good_step, good_route}
use Rattle.records.specs.Scans.{scanned, and_then}
use Rattle.sheet_nodes.specs.declared.Trees.{Trees}
use Rattle.sheet_roots.specs.Roots.{Known}

-- facts, nodes and rules
abbrev pub upper_scan : List ℤ → Header → Result ⊤ ℕ
upper_scan s h =
    and_then (scanned 0 (good_fact s) h.facts)
    (and_then (scanned (first_node h) (good_node s h) h.nodes) (scanned (first_rule h) (good_rule s h) h.rules))

-- entities, transitions, operations and effects
abbrev pub middle_scan : List ℤ → Header → Result ⊤ ℕ
middle_scan s h =
    and_then (scanned (first_entity h) (λ k. good_entity (entity s h k)) h.entities)
    (and_then (scanned (first_transition h) (good_transition s h) h.transitions)
    (and_then (scanned (first_operation h) (good_operation s h) h.operations) (scanned (first_effect h) (good_effect s h) h.effects)))

-- flows, steps and routes
abbrev pub lower_scan : List ℤ → Header → Result ⊤ ℕ
lower_scan s h =
    and_then (scanned (first_flow h) (good_flow s h) h.flows)
    (and_then (scanned (first_step h) (good_step s h) h.steps) (scanned (first_route h) (good_route s h) h.routes))

-- the flags of declared transitions and the stamps of outcomes before the scan: none is set, and there are enough for the entities
pub record Unmarked (h : Header) (declared : List Bool) (seen : List ℕ) : Type 0 where
  pub flags : 256 * h.entities ≤ length declared
  pub clear : declared ≡ replicate (length declared) false
  pub stamps : 16 * h.entities ≤ length seen
  pub fresh : seen ≡ replicate (length seen) 0

-- what the scan of flows, steps and routes asks
pub record Lower (s : List ℤ) (h : Header) (t : Trees) : Type 0 where
  pub operations : (k : ℕ) → k < h.operations → good_operation s h k ≡ true
  pub known : Known s h (named_by_operations s h h.operations) t
