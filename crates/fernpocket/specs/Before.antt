-- 01's own rule of "Operation (004)", which 02's CR 1 replaces: "the first applicable outcome in declared order is chosen"; and what an
-- operation call would answer and leave by it, on the named instances. Its place for 11 is 0. No contract cites this: the law `as_before` does.
-- Assumes nothing.
use Rattle.std.specs.Prelude.{Bool, not, cond, ◌&&◌, List, ℕ, ℤ, pos, ltb, Ok, Err}
use Rattle.tables.specs.Scan.{first_fail}
use Rattle.signed.specs.Words.{num, eq_z}
use Rattle.answer.specs.declared.Answer.{Answer}
use Rattle.answer.specs.declared.Refusal.TheVariants.{NoOutcome}
use Rattle.answer.specs.Answers.{Status, Count}
use Rattle.layout.specs.declared.Header.{Header}
use Rattle.node.specs.FactValues.{FactValue}
use Rattle.records.specs.Operations.{outcomes}
use Rattle.facts.specs.Lent.{LentFacts}
use Rattle.facts.specs.Faults.{facts_fault}
use Rattle.facts.specs.Assembled.{assembled}
use Rattle.predicate.specs.Values.{truth}
use Rattle.predicate.specs.Verdicts.{verdicts_of}
use Rattle.operation.specs.Mask.{allowed}
use Rattle.operation.specs.Outcomes.{applicable}
use Rattle.instances.specs.Records.{LentStates, states_lent, records_fault}
use Rattle.instances.specs.Named.{gathered, scattered, has, covers}
use Rattle.attempt.specs.Attempts.{precondition, attempt_answer, states_after}
use Rattle.ladder.specs.Ladder.{Climbed, rungs, opened, climb, by, left, exists, facts_lent}

-- an answer with 01's place for 11
unfoldable pub placeless : Answer → Answer
placeless a = record { refusal = a.refusal; place = cond (eq_z a.refusal (pos 11)) (pos 0) a.place; value = a.value; count = a.count }

-- the first applicable outcome of n, or n where none is
unfoldable pub first_applicable : (ℕ → Bool) → ℕ → ℕ
first_applicable applies n = first_fail (λ j. not (applies j)) 0 n

unfoldable pub first_choice : (ℕ → Bool) → ℕ → Count
first_choice applies n = cond (ltb (first_applicable applies n) n) (Ok (first_applicable applies n)) (Err (NoOutcome 0))

unfoldable pub attempted_before : List ℤ → Header → List FactValue → List ℤ → List ℤ → ℕ → ℕ → Count
attempted_before s h facts verdicts states p o =
    attempt_answer (allowed s h o p) (truth s h facts verdicts (precondition s h o)) (first_choice (applicable s h states o) (outcomes s h o))

unfoldable pub rungs_before : List ℤ → LentFacts → LentStates → ℤ → ℤ → Header → Status
rungs_before s lent q p o h =
    rungs (facts_lent s h lent && states_lent h q) (exists p h.personas && exists o h.operations && covers s h (has q) (num o))
    (facts_fault s h lent)
    (records_fault s h q.records)

abbrev pub climb_before : List ℤ → LentFacts → LentStates → ℤ → ℤ → Climbed
climb_before s lent q p o = climb (opened s) (rungs_before s lent q p o)

abbrev pub over_before : List ℤ → Header → LentFacts → List ℤ → ℕ → ℕ → Count
over_before s h lent states p o = let facts = assembled s h lent in attempted_before s h facts (verdicts_of s h facts) states p o

abbrev pub operate_before : List ℤ → LentFacts → LentStates → ℤ → ℤ → Count
operate_before s lent q p o =
    by (climb_before s lent q p o) Err (λ h. over_before s h lent (gathered h q) (num p) (num o))

abbrev pub states_before : List ℤ → LentFacts → LentStates → ℤ → ℤ → List ℤ
states_before s lent q p o =
    left (climb_before s lent q p o) q.records
    (λ h. scattered q (states_after s h (gathered h q) (num o) (over_before s h lent (gathered h q) (num p) (num o))))
