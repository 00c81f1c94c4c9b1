-- What the inner functions ask and answer, and what proofs speak of. The definitions of the other files do not rest on these.
-- Assumes nothing.
use Rattle.std.specs.Prelude.{Bool, List, ℕ, ◌<◌, ℤ, Option}
use Rattle.answer.specs.Answers.{Count}
use Rattle.layout.specs.declared.Header.{Header}
use Rattle.node.specs.FactValues.{FactValue}
use Rattle.facts.specs.Inner.{FactsIn}
use Rattle.predicate.specs.Inner.{Truths}
use Rattle.operation.specs.Mask.{allowed}
use Rattle.operation.specs.Outcomes.{chosen}
use Rattle.operation.specs.Ready.{Ready}
use Rattle.attempt.specs.Attempts.{attempt_answer, states_after}

-- what an attempt asks: an accepted sheet, facts in their ranges, verdicts, states of their entities, a persona and an operation
pub record Attemptable (s : List ℤ) (h : Header) (facts : List FactValue) (verdicts states : List ℤ) (p o : ℕ) : Type 0 where
  pub ready : Ready s h states o
  pub known : FactsIn s h facts
  pub judged : Truths verdicts
  pub persona : p < h.personas

-- an attempt's answer and the states afterwards, by whether the precondition holds
unfoldable pub attempted_if : List ℤ → Header → Bool → List ℤ → ℕ → ℕ → Option ℕ → Count
attempted_if s h holds states p o w = attempt_answer (allowed s h o p) holds (chosen s h states o w)

unfoldable pub attempted_states_if : List ℤ → Header → Bool → List ℤ → ℕ → ℕ → Option ℕ → List ℤ
attempted_states_if s h holds states p o w = states_after s h states o (attempted_if s h holds states p o w)
