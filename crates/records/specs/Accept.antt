-- 01, refusals 1, 2 and 3: the first bad record, and acceptance.
-- Assumes nothing.
use Rattle.std.specs.Prelude.{ℕ, ◌-◌, ℤ, Bool, true, false, List, [], ◌∷◌, ltb, Ok, Err}
use Rattle.tables.specs.Scan.{first_fail}
use Rattle.answer.specs.declared.Refusal.TheVariants.{Header as BadHeader, Group, Record as BadRecord}
use Rattle.answer.specs.Answers.{Status}
use Rattle.layout.specs.declared.Header.{Header}
use Rattle.layout.specs.Header.{header_of, good_header, records}
use Rattle.layout.specs.Groups.{good_groups}
use Rattle.layout.specs.Tables.{entity}
use Rattle.records.specs.Facts.{good_fact}
use Rattle.records.specs.Nodes.{good_node}
use Rattle.records.specs.Rules.{good_rule}
use Rattle.records.specs.Entities.{good_entity, good_transition}
use Rattle.records.specs.Operations.{good_operation, good_effect}
use Rattle.records.specs.Flows.{good_flow, good_step, good_route}

-- a table of records: how many there are, and when one is good, by its own number
pub record Table : Type 0 where
  pub size : ℕ
  pub good : ℕ → Bool

-- the tables in the header's order
unfoldable pub tables_of : List ℤ → Header → List Table
tables_of s h =
    record { size = h.facts; good = good_fact s }
    ∷ record { size = h.nodes; good = good_node s h }
    ∷ record { size = h.rules; good = good_rule s h }
    ∷ record { size = h.entities; good = λ k. good_entity (entity s h k) }
    ∷ record { size = h.transitions; good = good_transition s h }
    ∷ record { size = h.operations; good = good_operation s h }
    ∷ record { size = h.effects; good = good_effect s h }
    ∷ record { size = h.flows; good = good_flow s h }
    ∷ record { size = h.steps; good = good_step s h }
    ∷ record { size = h.routes; good = good_route s h }
    ∷ []

-- record k of the tables, counted through them, is good
unfoldable pub good_in : List Table → ℕ → Bool
good_in [] k = true
good_in (t ∷ ts) k = elim (ltb k t.size) [ true ↦ t.good k | false ↦ good_in ts (k - t.size) ]

-- the first bad record, or the number of all records where none is bad
unfoldable pub first_bad : List ℤ → Header → ℕ
first_bad s h = first_fail (good_in (tables_of s h)) 0 (records h)

-- what the checker answers
unfoldable pub checked : List ℤ → Status
checked s =
    elim (good_header s) [
      | false ↦ Err BadHeader
      | true ↦ elim (good_groups s (header_of s)) [
        | false ↦ Err Group
        | true ↦ elim (ltb (first_bad s (header_of s)) (records (header_of s))) [ true ↦ Err (BadRecord (first_bad s (header_of s))) | false ↦ (Ok tt) ]
      ]
    ]
