-- 01, "Operation (004)", and 02, CR 1 and CR 2: persona, then precondition, then states.
-- Assumes nothing.
use Rattle.std.specs.Prelude.{Bool, true, false, List, ℕ, ℤ, Option, Ok, Err}
use Rattle.answer.specs.declared.Refusal.TheVariants.{Persona, Precondition}
use Rattle.answer.specs.Answers.{Count}
use Rattle.layout.specs.declared.Header.{Header}
use Rattle.layout.specs.Tables.{operation, precondition_of}
use Rattle.node.specs.FactValues.{FactValue}
use Rattle.predicate.specs.Values.{truth}
use Rattle.operation.specs.Mask.{allowed}
use Rattle.operation.specs.Outcomes.{chosen}
use Rattle.operation.specs.Changes.{applied}

abbrev pub precondition : List ℤ → Header → ℕ → ℕ
precondition s h o = precondition_of (operation s h o)

-- 9: the persona is not in the mask. 10: the precondition is false. Else the choice. 11: no outcome is applicable, or the wanted one is not; the
-- place is the entity that blocks. 16, "directly after 11": none is wanted and several are applicable
unfoldable pub attempt_answer : Bool → Bool → Count → Count
attempt_answer allowed holds choice =
    elim allowed [ false ↦ Err Persona | true ↦ elim holds [ false ↦ Err Precondition | true ↦ choice ] ]

unfoldable pub attempted : List ℤ → Header → List FactValue → List ℤ → List ℤ → ℕ → ℕ → Option ℕ → Count
attempted s h facts verdicts states p o w =
    attempt_answer (allowed s h o p) (truth s h facts verdicts (precondition s h o)) (chosen s h states o w)

-- the states after an answer: an outcome's effects are applied; a refusal leaves the states as they were
unfoldable pub states_after : List ℤ → Header → List ℤ → ℕ → Count → List ℤ
states_after s h states o (Ok j) = applied s h states o j
states_after s h states o (Err r) = states

unfoldable pub attempted_states : List ℤ → Header → List FactValue → List ℤ → List ℤ → ℕ → ℕ → Option ℕ → List ℤ
attempted_states s h facts verdicts states p o w = states_after s h states o (attempted s h facts verdicts states p o w)
