-- 01, "Evaluation", and 02, CR 1, CR 6 and CR 7: what the calls assemble, verdicts and operate answer, and what they leave in each lent buffer. Each
-- climbs the ladder first.
-- Assumes nothing.
use Rattle.std.specs.Prelude.{Option, Bool, true, ◌&&◌, List, ℕ, ℤ, length, eqb, Ok, Err}
use Rattle.signed.specs.Words.{num}
use Rattle.answer.specs.Answers.{Status, Count}
use Rattle.layout.specs.declared.Header.{Header}
use Rattle.records.specs.Operations.{outcomes}
use Rattle.facts.specs.Lent.{LentFacts}
use Rattle.facts.specs.Faults.{facts_fault}
use Rattle.facts.specs.Assembled.{assembled_values, assembled}
use Rattle.predicate.specs.Verdicts.{verdicts_of}
use Rattle.operation.specs.Outcomes.{wanted_of, good_wanted}
use Rattle.instances.specs.Records.{LentStates, states_lent, records_fault}
use Rattle.instances.specs.Named.{gathered, scattered, has, covers}
use Rattle.attempt.specs.Attempts.{attempted, attempted_states}
use Rattle.ladder.specs.Ladder.{Climbed, rungs, opened, climb, by, left, exists, facts_lent}

-- ---- assemble: "fact assembly puts defaults in the lent values of facts not given"

unfoldable pub assemble_rungs : List ℤ → LentFacts → Header → Status
assemble_rungs s t h = rungs (facts_lent s h t) true (facts_fault s h t) (Ok tt)

abbrev pub assemble_climb : List ℤ → LentFacts → Climbed
assemble_climb s t = climb (opened s) (assemble_rungs s t)

abbrev pub assemble_answer : List ℤ → LentFacts → Status
assemble_answer s t = by (assemble_climb s t) Err (λ _. Ok tt)

abbrev pub assemble_values : List ℤ → LentFacts → List ℤ
assemble_values s t = left (assemble_climb s t) t.values (λ h. assembled_values s h t.values t.given)

-- ---- verdicts: "verdict buffers are only written"

unfoldable pub verdicts_rungs : List ℤ → LentFacts → ℕ → Header → Status
verdicts_rungs s t room h =
    rungs (facts_lent s h t && eqb room h.rules) true (facts_fault s h t) (Ok tt)

abbrev pub verdicts_climb : List ℤ → LentFacts → ℕ → Climbed
verdicts_climb s t room = climb (opened s) (verdicts_rungs s t room)

abbrev pub verdicts_answer : List ℤ → LentFacts → ℕ → Status
verdicts_answer s t room = by (verdicts_climb s t room) Err (λ _. Ok tt)

abbrev pub verdicts_verdicts : List ℤ → LentFacts → List ℤ → List ℤ
verdicts_verdicts s t verdicts =
    left (verdicts_climb s t (length verdicts)) verdicts (λ h. verdicts_of s h (assembled s h t))

-- ---- operate: 1 to 8, then persona, precondition and states

-- 5: the operation exists, and the word is −1 or one of its outcomes
unfoldable pub wanted_exists : List ℤ → Header → ℤ → ℤ → Bool
wanted_exists s h o w = exists o h.operations && good_wanted (outcomes s h (num o)) (wanted_of w)

unfoldable pub operate_rungs : List ℤ → LentFacts → LentStates → ℤ → ℤ → ℤ → Header → Status
operate_rungs s t q p o w h =
    rungs (facts_lent s h t && states_lent h q)
    (exists p h.personas && wanted_exists s h o w && covers s h (has q) (num o))
    (facts_fault s h t)
    (records_fault s h q.records)

abbrev pub operate_climb : List ℤ → LentFacts → LentStates → ℤ → ℤ → ℤ → Climbed
operate_climb s t q p o w = climb (opened s) (operate_rungs s t q p o w)

-- "operations and flows work out verdicts themselves": an attempt over what the lent facts come to
abbrev pub attempted_over : List ℤ → Header → LentFacts → List ℤ → ℕ → ℕ → Option ℕ → Count
attempted_over s h t states p o w = let facts = assembled s h t in attempted s h facts (verdicts_of s h facts) states p o w

abbrev pub attempted_states_over : List ℤ → Header → LentFacts → List ℤ → ℕ → ℕ → Option ℕ → List ℤ
attempted_states_over s h t states p o w =
    let facts = assembled s h t in attempted_states s h facts (verdicts_of s h facts) states p o w

-- over the states of the named instances
abbrev pub operate_answer : List ℤ → LentFacts → LentStates → ℤ → ℤ → ℤ → Count
operate_answer s t q p o w =
    by (operate_climb s t q p o w) Err (λ h. attempted_over s h t (gathered h q) (num p) (num o) (wanted_of w))

-- the lent records afterwards
abbrev pub operate_states : List ℤ → LentFacts → LentStates → ℤ → ℤ → ℤ → List ℤ
operate_states s t q p o w =
    left (operate_climb s t q p o w) q.records
    (λ h. scattered q (attempted_states_over s h t (gathered h q) (num p) (num o) (wanted_of w)))
