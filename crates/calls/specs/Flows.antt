-- 01, "Flow" under "Evaluation", and S6, and 02, CR 1, CR 6 and CR 7: what the calls first, next and run answer, and what they leave in each lent
-- buffer. Each climbs the ladder first.
-- Assumes nothing.
use Rattle.std.specs.Prelude.{Bool, true, false, ◌&&◌, List, ℕ, ℤ, length, leb, Ok, Err}
use Rattle.signed.specs.Words.{num}
use Rattle.answer.specs.Answers.{Status, Counted}
use Rattle.layout.specs.declared.Header.{Header}
use Rattle.facts.specs.Lent.{LentFacts}
use Rattle.facts.specs.Faults.{facts_fault}
use Rattle.facts.specs.Assembled.{assembled}
use Rattle.predicate.specs.Verdicts.{verdicts_of}
use Rattle.instances.specs.Records.{LentStates, states_lent, records_fault}
use Rattle.instances.specs.Named.{gathered, scattered, has}
use Rattle.walks.specs.Paths.{steps_of}
use Rattle.listing.specs.Calls.{first_walk, first_laid, next_walk, next_laid}
use Rattle.run.specs.Runs.{good_words, flow_covers, ran_walk, ran_path, ran_states}
use Rattle.ladder.specs.Ladder.{Climbed, rungs, opened, climb, by, left, exists, matches, facts_lent}

-- "Where the flow does not exist, slices sized by its steps are not judged": the flow's steps, or n, which then is right
unfoldable pub steps_or : List ℤ → Header → ℤ → ℕ → ℕ
steps_or s h f n = elim (exists f h.flows) [ true ↦ steps_of s h (num f) | false ↦ n ]

-- "a path buffer is at least as long as the flow has steps"
abbrev pub path_lent : List ℤ → Header → ℤ → ℕ → Bool
path_lent s h f room = leb (steps_or s h f room) room

-- 02, CR 1: "one wanted word per step of the flow (other length: 4"
abbrev pub wanted_lent : List ℤ → Header → ℤ → List ℤ → Bool
wanted_lent s h f words = matches words (steps_or s h f (length words))

-- ---- run: 1 to 8

unfoldable pub run_rungs : List ℤ → LentFacts → LentStates → ℤ → List ℤ → ℕ → Header → Status
run_rungs s t q f words room h =
    rungs (facts_lent s h t && states_lent h q && wanted_lent s h f words && path_lent s h f room)
    (exists f h.flows && good_words s h (num f) words && flow_covers s h (has q) (num f))
    (facts_fault s h t)
    (records_fault s h q.records)

abbrev pub run_climb : List ℤ → LentFacts → LentStates → ℤ → List ℤ → ℕ → Climbed
run_climb s t q f words room = climb (opened s) (run_rungs s t q f words room)

-- "facts and verdicts are fixed at its start": a run over what the lent facts come to
abbrev pub ran_walk_over : List ℤ → Header → LentFacts → List ℤ → ℕ → List ℤ → Counted
ran_walk_over s h t states f words = let facts = assembled s h t in ran_walk s h facts (verdicts_of s h facts) states f words

abbrev pub ran_path_over : List ℤ → Header → LentFacts → List ℤ → ℕ → List ℤ → List ℕ → List ℕ
ran_path_over s h t states f words b = let facts = assembled s h t in ran_path s h facts (verdicts_of s h facts) states f words b

abbrev pub ran_states_over : List ℤ → Header → LentFacts → List ℤ → ℕ → List ℤ → List ℤ
ran_states_over s h t states f words = let facts = assembled s h t in ran_states s h facts (verdicts_of s h facts) states f words

-- over the states of the named instances
abbrev pub run_answer : List ℤ → LentFacts → LentStates → ℤ → List ℤ → List ℕ → Counted
run_answer s t q f words b =
    by (run_climb s t q f words (length b)) Err (λ h. ran_walk_over s h t (gathered h q) (num f) words)

abbrev pub run_path : List ℤ → LentFacts → LentStates → ℤ → List ℤ → List ℕ → List ℕ
run_path s t q f words b =
    left (run_climb s t q f words (length b)) b (λ h. ran_path_over s h t (gathered h q) (num f) words b)

-- the lent records afterwards
abbrev pub run_states : List ℤ → LentFacts → LentStates → ℤ → List ℤ → List ℕ → List ℤ
run_states s t q f words b =
    left (run_climb s t q f words (length b)) q.records (λ h. scattered q (ran_states_over s h t (gathered h q) (num f) words))

-- ---- S6: first and next: 1 to 5

unfoldable pub flow_rungs : List ℤ → ℤ → ℕ → Header → Status
flow_rungs s f room h = rungs (path_lent s h f room) (exists f h.flows) (Ok tt) (Ok tt)

abbrev pub flow_climb : List ℤ → ℤ → ℕ → Climbed
flow_climb s f room = climb (opened s) (flow_rungs s f room)

-- "First puts path 0 in the buffer"
abbrev pub first_answer : List ℤ → ℤ → List ℕ → Counted
first_answer s f b = by (flow_climb s f (length b)) Err (λ h. first_walk s h (num f))

abbrev pub first_path : List ℤ → ℤ → List ℕ → List ℕ
first_path s f b = left (flow_climb s f (length b)) b (λ h. first_laid s h (num f) b)

-- "next puts the path that follows the one it finds there"; 12 and 13 are among its answers
abbrev pub next_answer : List ℤ → ℤ → List ℕ → Counted
next_answer s f b = by (flow_climb s f (length b)) Err (λ h. next_walk s h (num f) b)

abbrev pub next_path : List ℤ → ℤ → List ℕ → List ℕ
next_path s f b = left (flow_climb s f (length b)) b (λ h. next_laid s h (num f) b)
