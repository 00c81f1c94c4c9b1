-- 01, "The sheet": the record of each kind by its own number, and the names of its words in 01's order.
-- Assumes nothing.
use Rattle.std.specs.Prelude.{ℕ, ◌+◌, ℤ, List}
use Rattle.words.specs.declared.Record.{Record}
use Rattle.words.specs.Record.{record_at}
use Rattle.layout.specs.declared.Header.{Header}
use Rattle.layout.specs.Header.{first_rule, first_entity, first_transition, first_operation, first_effect, first_flow, first_step, first_route}

abbrev pub fact : List ℤ → ℕ → Record ℕ
fact s k = record_at s k

-- rule: stratum, when-node
abbrev pub rule : List ℤ → Header → ℕ → Record ℕ
rule s h n = record_at s (first_rule h + n)

abbrev pub stratum_of : Record ℕ → ℕ
stratum_of r = r.w0

abbrev pub when_node_of : Record ℕ → ℕ
when_node_of r = r.w1

-- entity: states, initial state
abbrev pub entity : List ℤ → Header → ℕ → Record ℕ
entity s h n = record_at s (first_entity h + n)

abbrev pub state_count_of : Record ℕ → ℕ
state_count_of r = r.w0

abbrev pub initial_of : Record ℕ → ℕ
initial_of r = r.w1

-- transition: entity, from, to
abbrev pub transition : List ℤ → Header → ℕ → Record ℕ
transition s h n = record_at s (first_transition h + n)

abbrev pub entity_of : Record ℕ → ℕ
entity_of r = r.w0

abbrev pub from_of : Record ℕ → ℕ
from_of r = r.w1

abbrev pub to_of : Record ℕ → ℕ
to_of r = r.w2

-- operation: persona mask, precondition node, first effect, effects, outcomes
abbrev pub operation : List ℤ → Header → ℕ → Record ℕ
operation s h n = record_at s (first_operation h + n)

abbrev pub mask_of : Record ℕ → ℕ
mask_of r = r.w0

abbrev pub precondition_of : Record ℕ → ℕ
precondition_of r = r.w1

abbrev pub effect_start_of : Record ℕ → ℕ
effect_start_of r = r.w2

abbrev pub effect_count_of : Record ℕ → ℕ
effect_count_of r = r.w3

abbrev pub outcomes_of : Record ℕ → ℕ
outcomes_of r = r.w4

-- effect: entity, from and to as a transition has them, then its outcome
abbrev pub effect : List ℤ → Header → ℕ → Record ℕ
effect s h n = record_at s (first_effect h + n)

abbrev pub outcome_of : Record ℕ → ℕ
outcome_of r = r.w3

-- flow: first step, steps
abbrev pub flow : List ℤ → Header → ℕ → Record ℕ
flow s h n = record_at s (first_flow h + n)

abbrev pub step_start_of : Record ℕ → ℕ
step_start_of r = r.w0

abbrev pub step_count_of : Record ℕ → ℕ
step_count_of r = r.w1

-- step: kind; operation and persona, or node and 0; first route, routes
abbrev pub step : List ℤ → Header → ℕ → Record ℕ
step s h n = record_at s (first_step h + n)

abbrev pub kind_of : Record ℕ → ℕ
kind_of r = r.w0

abbrev pub operation_named : Record ℕ → ℕ
operation_named r = r.w1

abbrev pub node_named : Record ℕ → ℕ
node_named r = r.w1

abbrev pub persona_named : Record ℕ → ℕ
persona_named r = r.w2

abbrev pub route_start_of : Record ℕ → ℕ
route_start_of r = r.w3

abbrev pub route_count_of : Record ℕ → ℕ
route_count_of r = r.w4

-- route: kind as a step has it, then the step or the terminal that it leads to
abbrev pub route : List ℤ → Header → ℕ → Record ℕ
route s h n = record_at s (first_route h + n)

abbrev pub target_of : Record ℕ → ℕ
target_of r = r.w1
