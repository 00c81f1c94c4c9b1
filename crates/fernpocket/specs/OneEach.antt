-- The states before 02's CR 7: one word for each entity; and what operate and run answered and left by it. No contract cites this: the laws
-- `one_each_operates` and `one_each_runs` do, "One instance each, all numbered 0, must answer as the old form did".
-- Assumes nothing.
use Rattle.std.specs.Prelude.{Bool, cond, ◌&&◌, List, [], ◌∷◌, ◌++◌, ℕ, zero, suc, ℤ, pos, length, get_or, ltb, Ok, Err}
use Rattle.tables.specs.Scan.{first_fail}
use Rattle.tables.specs.Table.{grown}
use Rattle.signed.specs.Words.{num}
use Rattle.answer.specs.declared.Refusal.TheVariants.{State}
use Rattle.answer.specs.Answers.{Status, Count, Counted}
use Rattle.layout.specs.declared.Header.{Header}
use Rattle.records.specs.Entities.{states as state_count}
use Rattle.facts.specs.Lent.{LentFacts}
use Rattle.facts.specs.Faults.{facts_fault}
use Rattle.operation.specs.States.{present}
use Rattle.operation.specs.Outcomes.{wanted_of}
use Rattle.instances.specs.Records.{LentStates, lent_states}
use Rattle.run.specs.Runs.{good_words}
use Rattle.ladder.specs.Ladder.{Climbed, rungs, opened, climb, by, left, exists, matches, facts_lent}
use Rattle.calls.specs.Evaluation.{wanted_exists, attempted_over, attempted_states_over}
use Rattle.calls.specs.Flows.{wanted_lent, path_lent, ran_walk_over, ran_path_over, ran_states_over}

-- ---- the old states as records: one instance each, all numbered 0

unfoldable pub records_to : List ℤ → ℕ → List ℤ
records_to states zero = []
records_to states (suc n) = records_to states n ++ (pos n ∷ pos 0 ∷ get_or states n (pos 0) ∷ [])

abbrev pub one_records : List ℤ → List ℤ
one_records states = records_to states (length states)

abbrev pub one_each : List ℤ → LentStates
one_each states = lent_states (one_records states) (grown (λ _ _. pos 0) (pos 0) (length states))

-- ---- 8 as it was: "a lent state not among its entity's states", the place being the first such entity

unfoldable pub state_in : List ℤ → Header → List ℤ → ℕ → Bool
state_in s h states n = ltb (present states n) (state_count s h n)

unfoldable pub first_stray : List ℤ → Header → List ℤ → ℕ
first_stray s h states = first_fail (state_in s h states) 0 h.entities

unfoldable pub states_fault : List ℤ → Header → List ℤ → Status
states_fault s h states = cond (ltb (first_stray s h states) h.entities) (Err (State (first_stray s h states))) (Ok tt)

-- ---- the calls as they were

unfoldable pub one_operate_rungs : List ℤ → LentFacts → List ℤ → ℤ → ℤ → ℤ → Header → Status
one_operate_rungs s t states p o w h =
    rungs (facts_lent s h t && matches states h.entities) (exists p h.personas && wanted_exists s h o w)
    (facts_fault s h t)
    (states_fault s h states)

abbrev pub one_operate_climb : List ℤ → LentFacts → List ℤ → ℤ → ℤ → ℤ → Climbed
one_operate_climb s t states p o w = climb (opened s) (one_operate_rungs s t states p o w)

abbrev pub one_operate_answer : List ℤ → LentFacts → List ℤ → ℤ → ℤ → ℤ → Count
one_operate_answer s t states p o w =
    by (one_operate_climb s t states p o w) Err (λ h. attempted_over s h t states (num p) (num o) (wanted_of w))

abbrev pub one_operate_states : List ℤ → LentFacts → List ℤ → ℤ → ℤ → ℤ → List ℤ
one_operate_states s t states p o w =
    left (one_operate_climb s t states p o w) states (λ h. attempted_states_over s h t states (num p) (num o) (wanted_of w))

unfoldable pub one_run_rungs : List ℤ → LentFacts → List ℤ → ℤ → List ℤ → ℕ → Header → Status
one_run_rungs s t states f words room h =
    rungs (facts_lent s h t && matches states h.entities && wanted_lent s h f words && path_lent s h f room)
    (exists f h.flows && good_words s h (num f) words)
    (facts_fault s h t)
    (states_fault s h states)

abbrev pub one_run_climb : List ℤ → LentFacts → List ℤ → ℤ → List ℤ → ℕ → Climbed
one_run_climb s t states f words room = climb (opened s) (one_run_rungs s t states f words room)

abbrev pub one_run_answer : List ℤ → LentFacts → List ℤ → ℤ → List ℤ → List ℕ → Counted
one_run_answer s t states f words b =
    by (one_run_climb s t states f words (length b)) Err (λ h. ran_walk_over s h t states (num f) words)

abbrev pub one_run_path : List ℤ → LentFacts → List ℤ → ℤ → List ℤ → List ℕ → List ℕ
one_run_path s t states f words b =
    left (one_run_climb s t states f words (length b)) b (λ h. ran_path_over s h t states (num f) words b)

abbrev pub one_run_states : List ℤ → LentFacts → List ℤ → ℤ → List ℤ → List ℕ → List ℤ
one_run_states s t states f words b =
    left (one_run_climb s t states f words (length b)) states (λ h. ran_states_over s h t states (num f) words)
