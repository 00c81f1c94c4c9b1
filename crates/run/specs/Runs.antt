-- 01, "Flow" under "Evaluation", and 02, CR 1 and CR 7: a run of a flow. "Facts and verdicts are fixed at its start."
-- Assumes nothing.
use Rattle.std.specs.Prelude.{Bool, true, false, List, [], ◌∷◌, ◌++◌, ℕ, zero, suc, ◌+◌, ◌-◌, ℤ, pos, get_or, eqb, Option, Ok, Err}
use Rattle.tables.specs.Scan.{all_below}
use Rattle.answer.specs.Answers.{Count, Counted}
use Rattle.layout.specs.declared.Header.{Header}
use Rattle.layout.specs.Tables.{step, kind_of, node_named, persona_named, operation_named}
use Rattle.records.specs.Operations.{outcomes}
use Rattle.node.specs.FactValues.{FactValue}
use Rattle.predicate.specs.Values.{truth}
use Rattle.operation.specs.Outcomes.{wanted_of, good_wanted}
use Rattle.instances.specs.Named.{covers}
use Rattle.attempt.specs.Attempts.{attempted, attempted_states}
use Rattle.walks.specs.declared.Walker.{Walker}
use Rattle.walks.specs.Paths.{first_step_of, steps_of, first_route_of, routes_of}
use Rattle.walks.specs.Walkers.{started, taken, arrived}
use Rattle.walks.specs.Follows.{laid}

-- ---- one step

-- step i is an operation step, of kind 0; the other kind is a branch
abbrev pub performs : List ℤ → Header → ℕ → Bool
performs s h i = eqb (kind_of (step s h i)) 0

-- the operation and the persona of an operation step; the node of a branch
abbrev pub operation_at : List ℤ → Header → ℕ → ℕ
operation_at s h i = operation_named (step s h i)

abbrev pub persona_at : List ℤ → Header → ℕ → ℕ
persona_at s h i = persona_named (step s h i)

abbrev pub node_at : List ℤ → Header → ℕ → ℕ
node_at s h i = node_named (step s h i)

-- "a flow run is lent one wanted word per step of the flow": what step i of flow f wants
unfoldable pub wanted_at : List ℤ → Header → ℕ → List ℤ → ℕ → Option ℕ
wanted_at s h f words i = wanted_of (get_or words (i - first_step_of s h f) (pos 0))

-- how many outcomes step i may want: those of its operation; a branch has none, so "a branch step's word must be −1"
unfoldable pub outcomes_at : List ℤ → Header → ℕ → ℕ
outcomes_at s h i = elim (performs s h i) [ true ↦ outcomes s h (operation_at s h i) | false ↦ 0 ]

-- "all are judged first": the word of each step of flow f, whether a route reaches it or not
unfoldable pub good_word : List ℤ → Header → ℕ → List ℤ → ℕ → Bool
good_word s h f words i = good_wanted (outcomes_at s h i) (wanted_at s h f words i)

unfoldable pub good_words : List ℤ → Header → ℕ → List ℤ → Bool
good_words s h f words = all_below (λ k. good_word s h f words (first_step_of s h f + k)) (steps_of s h f)

-- 02, CR 7: "of all the flow's steps", reached or not: of each entity that the operation of a step names, `lent` says yes; a branch names none
unfoldable pub step_covers : List ℤ → Header → (ℕ → Bool) → ℕ → Bool
step_covers s h lent i = elim (performs s h i) [ true ↦ covers s h lent (operation_at s h i) | false ↦ true ]

unfoldable pub flow_covers : List ℤ → Header → (ℕ → Bool) → ℕ → Bool
flow_covers s h lent f = all_below (λ k. step_covers s h lent (first_step_of s h f + k)) (steps_of s h f)

-- "an operation step answered 9, 10 or 11 .. takes the failure route", which is its last; "otherwise the route of its outcome"; 02: "in a
-- flow 16 takes the failure route"
unfoldable pub answer_route : List ℤ → Header → ℕ → Count → ℕ
answer_route s h i (Ok j) = first_route_of s h i + j
answer_route s h i (Err r) = first_route_of s h i + routes_of s h i - 1

-- a branch has two routes: true, then false
unfoldable pub branch_route : List ℤ → Header → ℕ → Bool → ℕ
branch_route s h i true = first_route_of s h i
branch_route s h i false = first_route_of s h i + 1

-- the route that step i takes, where it wants w
unfoldable pub route_taken : List ℤ → Header → List FactValue → List ℤ → List ℤ → ℕ → Option ℕ → ℕ
route_taken s h facts verdicts states i w =
    elim (performs s h i) [
      | true ↦ answer_route s h i (attempted s h facts verdicts states (persona_at s h i) (operation_at s h i) w)
      | false ↦ branch_route s h i (truth s h facts verdicts (node_at s h i))
    ]

-- the states after step i: those after its operation, which a refusal leaves as they were; a branch changes none
unfoldable pub states_then : List ℤ → Header → List FactValue → List ℤ → List ℤ → ℕ → Option ℕ → List ℤ
states_then s h facts verdicts states i w =
    elim (performs s h i) [ true ↦ attempted_states s h facts verdicts states (persona_at s h i) (operation_at s h i) w | false ↦ states ]

-- ---- a run

-- where a run stands: its walker, the routes that it has taken, and the states
pub record Running : Type 0 where
  pub walker : Walker
  pub path : List ℕ
  pub states : List ℤ

-- a run starts at the flow's first step
unfoldable pub begun : List ℤ → Header → ℕ → List ℤ → Running
begun s h f states = record { walker = started s h f; path = []; states = states }

-- "one step of a flow hands on the next step, or the terminal"; "earlier steps' changes remain". `wants` says what each step wants
unfoldable pub stepped : List ℤ → Header → List FactValue → List ℤ → (ℕ → Option ℕ) → Running → Running
stepped s h facts verdicts wants t =
    let i = t.walker.step in
    let route = route_taken s h facts verdicts t.states i (wants i) in
    record {
      walker = taken s h t.walker route;
      path = t.path ++ route ∷ [];
      states = states_then s h facts verdicts t.states i (wants i);
    }

-- step by step until it is finished, n steps at most
unfoldable pub run_on : List ℤ → Header → List FactValue → List ℤ → (ℕ → Option ℕ) → ℕ → Running → Running
run_on s h facts verdicts wants zero t = t
run_on s h facts verdicts wants (suc n) t =
    elim t.walker.finished [ true ↦ t | false ↦ run_on s h facts verdicts wants n (stepped s h facts verdicts wants t) ]

-- "a run ends within as many steps as the flow has"
unfoldable pub ran : List ℤ → Header → List FactValue → List ℤ → List ℤ → ℕ → (ℕ → Option ℕ) → Running
ran s h facts verdicts states f wants = run_on s h facts verdicts wants (steps_of s h f) (begun s h f states)

-- ---- what is answered and left, of the words that are lent

-- the terminal and the path's length
unfoldable pub ran_walk : List ℤ → Header → List FactValue → List ℤ → List ℤ → ℕ → List ℤ → Counted
ran_walk s h facts verdicts states f words = arrived (ran s h facts verdicts states f (wanted_at s h f words)).walker

-- the path, and 0 past it
unfoldable pub ran_path : List ℤ → Header → List FactValue → List ℤ → List ℤ → ℕ → List ℤ → List ℕ → List ℕ
ran_path s h facts verdicts states f words b = laid (ran s h facts verdicts states f (wanted_at s h f words)).path b

unfoldable pub ran_states : List ℤ → Header → List FactValue → List ℤ → List ℤ → ℕ → List ℤ → List ℤ
ran_states s h facts verdicts states f words = (ran s h facts verdicts states f (wanted_at s h f words)).states
