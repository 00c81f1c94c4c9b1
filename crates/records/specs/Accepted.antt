-- What an accepted sheet guarantees: the work under the ladder of refusals asks this of its caller.
-- Assumes nothing.
use Rattle.std.specs.Prelude.{◌≡◌, true, List, ℕ, ◌+◌, ◌*◌, ◌≤◌, ◌<◌, ℤ, length}
use Rattle.layout.specs.declared.Header.{Header}
use Rattle.layout.specs.Header.{header_of}
use Rattle.layout.specs.Sized.{Sized}
use Rattle.layout.specs.Groups.{good_groups}
use Rattle.layout.specs.Tables.{entity}
use Rattle.records.specs.Facts.{good_fact}
use Rattle.records.specs.Nodes.{good_node}
use Rattle.records.specs.Rules.{good_rule}
use Rattle.records.specs.Entities.{good_entity, good_transition}
use Rattle.records.specs.Operations.{good_operation, good_effect}
use Rattle.records.specs.Flows.{good_flow, good_step, good_route}

-- the sheet holds n facts, and they are good
pub record GoodFacts (s : List ℤ) (n : ℕ) : Type 0 where
  pub held : 16 + 8 * n ≤ length s
  pub each : (k : ℕ) → k < n → good_fact s k ≡ true

-- the sheet s, with the header h, has no fault
pub record Accepted (s : List ℤ) (h : Header) : Type 0 where
  pub header : h ≡ header_of s
  pub sized : Sized s h
  pub groups : good_groups s h ≡ true
  pub facts : (k : ℕ) → k < h.facts → good_fact s k ≡ true
  pub nodes : (k : ℕ) → k < h.nodes → good_node s h k ≡ true
  pub rules : (k : ℕ) → k < h.rules → good_rule s h k ≡ true
  pub entities : (k : ℕ) → k < h.entities → good_entity (entity s h k) ≡ true
  pub transitions : (k : ℕ) → k < h.transitions → good_transition s h k ≡ true
  pub operations : (k : ℕ) → k < h.operations → good_operation s h k ≡ true
  pub effects : (k : ℕ) → k < h.effects → good_effect s h k ≡ true
  pub flows : (k : ℕ) → k < h.flows → good_flow s h k ≡ true
  pub steps : (k : ℕ) → k < h.steps → good_step s h k ≡ true
  pub routes : (k : ℕ) → k < h.routes → good_route s h k ≡ true
