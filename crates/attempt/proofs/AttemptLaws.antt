-- An attempt's answer and the states afterwards, case by case.
-- Assumes nothing.
use Rattle.std.specs.Prelude.{Option, Ok, Err, ⊤}
use mathlib.Core.Path.{◌≡◌, refl, sym, ap, subst, ◌∙◌}
use mathlib.Core.Bool.{Bool, true, false, not, ◌&&◌}
use mathlib.Core.List.{List}
use mathlib.Core.Logic.{◌⊎◌, inl, inr}
use Prim.Native.Nat.{ℕ, ◌<◌}
use lib.IntN.{ℤ}
use native.Mathlib.Omega.{arith}
use borrow.Author.Tests.{not-true, not-false}
use Rattle.tables.proofs.Bools.{bool_cases}
use Rattle.answer.specs.Inner.{Small}
use Rattle.answer.specs.declared.Refusal.{Refusal}
use Rattle.answer.specs.declared.Refusal.TheVariants.{Persona, Precondition, NoOutcome, ManyOutcomes}
use Rattle.answer.specs.Answers.{Count}
use Rattle.layout.specs.declared.Header.{Header}
use Rattle.layout.specs.Tables.{operation}
use Rattle.node.specs.FactValues.{FactValue}
use Rattle.records.proofs.OperationLaws.{operation_ok}
use Rattle.predicate.specs.Values.{truth}
use Rattle.predicate.specs.Inner.{Evaluable}
use Rattle.operation.specs.Mask.{allowed}
use Rattle.operation.specs.Inner.{StatesIn, after, performed}
use Rattle.operation.specs.Outcomes.{chosen}
use Rattle.operation.specs.Changes.{applied}
use Rattle.operation.proofs.Guarantees.{chosen_exists, chosen_small, applied_in}
use Rattle.attempt.specs.Attempts.{precondition, attempt_answer, attempted, states_after, attempted_states}
use Rattle.attempt.specs.Inner.{Attemptable, attempted_if, attempted_states_if}

-- ---- by t, whether the precondition is true

module _ (s : List ℤ) (h : Header) (t : Bool) (states : List ℤ) (p o : ℕ) (v : Option ℕ) where
  if_barred : allowed s h o p ≡ false → attempted_if s h t states p o v ≡ Err Persona
  unfolding attempted_if attempt_answer
  if_barred a = rw a

  if_untrue : allowed s h o p ≡ true → t ≡ false → attempted_if s h t states p o v ≡ Err Precondition
  unfolding attempted_if attempt_answer
  if_untrue a e = rw (a, e)

  if_chosen : allowed s h o p ≡ true → t ≡ true → attempted_if s h t states p o v ≡ chosen s h states o v
  unfolding attempted_if attempt_answer
  if_chosen a e = rw (a, e)

-- ---- what is chosen, and the states afterwards

-- the persona is allowed, the precondition is true, and the choice is c
pub record Chose (s : List ℤ) (h : Header) (facts : List FactValue) (verdicts states : List ℤ) (p o : ℕ) (v : Option ℕ) (c : Count) : Type 0 where
  pub allowed : allowed s h o p ≡ true
  pub truth : truth s h facts verdicts (precondition s h o) ≡ true
  pub chosen : chosen s h states o v ≡ c

-- an answer of a choice: an outcome, or 11 or 16
abbrev pub OfChoice : Count → Type 0
OfChoice (Ok j) = ⊤
OfChoice (Err (NoOutcome n)) = ⊤
OfChoice (Err ManyOutcomes) = ⊤
OfChoice (Err r) = ⊥

past : (a t : Bool) (x c : Count) → OfChoice c → attempt_answer a t x ≡ c → (a ≡ true) × (t ≡ true) × (x ≡ c)
unfolding attempt_answer
past true true x c k e = (refl, refl, e)
past true false x c k e = absurd (subst OfChoice (sym e) k)
past false t x c k e = absurd (subst OfChoice (sym e) k)

answer_small : (a t : Bool) (x : Count) → Small (λ n. (n, 0)) x → Small (λ n. (n, 0)) (attempt_answer a t x)
unfolding attempt_answer
answer_small true true x k = k
answer_small true false x k = omega arith
answer_small false t x k = omega arith

module _ (s : List ℤ) (h : Header) (facts : List FactValue) (verdicts states : List ℤ) (p o : ℕ) (v : Option ℕ) where
  -- an answer of a choice: the attempt came as far as that choice
  pub chose_so : (c : Count) → OfChoice c → attempted s h facts verdicts states p o v ≡ c → Chose s h facts verdicts states p o v c
  unfolding attempted
  chose_so c x q =
      let k = past (allowed s h o p) (truth s h facts verdicts (precondition s h o)) (chosen s h states o v) c x q in
      record { allowed = k.0; truth = k.1; chosen = k.2 }

  -- an outcome that is answered is one of the operation's
  pub outcome_below : (j : ℕ) → attempted s h facts verdicts states p o v ≡ Ok j → j < (operation s h o).w4
  outcome_below j q = chosen_exists s h states o v j (chose_so (Ok j) tt q).chosen

  pub outcome_states : (j : ℕ) → attempted s h facts verdicts states p o v ≡ Ok j
      → attempted_states s h facts verdicts states p o v ≡ applied s h states o j
  unfolding attempted_states states_after
  outcome_states j e = rw e

  -- a refusal leaves the states as they were
  pub refused_states : (r : Refusal) → attempted s h facts verdicts states p o v ≡ Err r
      → attempted_states s h facts verdicts states p o v ≡ states
  unfolding attempted_states states_after
  refused_states r e = rw e

-- ---- what holds on an accepted sheet

module _ {s : List ℤ} {h : Header} {facts : List FactValue} {verdicts states : List ℤ} {p o : ℕ} (w : Attemptable s h facts verdicts states p o) where
  -- its precondition can be worked out
  pub evaluable : (n : ℕ) → n ≡ precondition s h o → Evaluable s h facts verdicts n
  evaluable n e =
      let k = operation_ok w.ready.accepted o w.ready.exists in
      record {
        accepted = w.ready.accepted;
        known = w.known;
        judged = w.judged;
        exists = rw e k.node;
        bool = rw e k.bool;
        closed = rw e k.closed;
      }

module _ {s : List ℤ} {h : Header} {facts : List FactValue} {verdicts states : List ℤ} {p o : ℕ} (w : Attemptable s h facts verdicts states p o)
    (v : Option ℕ) where
  -- the answer fits a signed word
  pub attempt_small : Small (λ n. (n, 0)) (attempted s h facts verdicts states p o v)
  unfolding attempted
  attempt_small =
      answer_small (allowed s h o p) (truth s h facts verdicts (precondition s h o)) (chosen s h states o v) (chosen_small w.ready v)

  -- the states afterwards are among their entities' states again
  pub attempted_in : StatesIn s h (attempted_states s h facts verdicts states p o v)
  attempted_in = go (attempted s h facts verdicts states p o v) refl
    where
      go : (r : Count) → attempted s h facts verdicts states p o v ≡ r → StatesIn s h (attempted_states s h facts verdicts states p o v)
      go (Ok j) e = rw (outcome_states s h facts verdicts states p o v j e) (applied_in w.ready j)
      go (Err r) e = rw (refused_states s h facts verdicts states p o v r e) w.ready.lent

-- ---- what the code finds: b is whether the persona is allowed, t whether the precondition is true, x the choice

module _ (s : List ℤ) (h : Header) (t : Bool) (states : List ℤ) (p o : ℕ) (v : Option ℕ) where
  refused : (r : Refusal) → attempted_if s h t states p o v ≡ Err r
      → (Err r ≡ attempted_if s h t states p o v) × (states ≡ attempted_states_if s h t states p o v)
  unfolding attempted_states_if states_after
  refused r e = (sym e, rw e)

  module _ {b : Bool} (is-allowed : b ≡ allowed s h o p) where
    pub at_persona : not b ≡ true → (Err Persona ≡ attempted_if s h t states p o v) × (states ≡ attempted_states_if s h t states p o v)
    at_persona q = refused Persona (if_barred s h t states p o v (sym is-allowed ∙ not-true b q))

    module _ (q : not b ≡ false) where
      yes_allowed : allowed s h o p ≡ true
      yes_allowed = sym is-allowed ∙ not-false b q

      pub at_precondition : not t ≡ true → (Err Precondition ≡ attempted_if s h t states p o v) × (states ≡ attempted_states_if s h t states p o v)
      at_precondition u = refused Precondition (if_untrue s h t states p o v yes_allowed (not-true t u))

      pub at_choice : {x : Count} {end : List ℤ} → not t ≡ false → x ≡ chosen s h states o v → end ≡ performed s h states o v
          → (x ≡ attempted_if s h t states p o v) × (end ≡ attempted_states_if s h t states p o v)
      unfolding attempted_states_if performed after states_after
      at_choice u k l =
          let e = if_chosen s h t states p o v yes_allowed (not-false t u) in
          (k ∙ sym e, l ∙ rw e (after_chosen (chosen s h states o v)))
        where
          after_chosen : (r : Count) → after s h states o r ≡ states_after s h states o r
          after_chosen (Ok j) = refl
          after_chosen (Err r) = refl

-- an attempt with t is the attempt over facts and verdicts; the precondition matters only where the persona is allowed
module _ (s : List ℤ) (h : Header) (facts : List FactValue) (verdicts states : List ℤ) (p o : ℕ) (v : Option ℕ) {r : Count} {end : List ℤ} {t : Bool}
    (is-answer : r ≡ attempted_if s h t states p o v) (is-end : end ≡ attempted_states_if s h t states p o v) where
  pub attempt_admits : t ≡ (allowed s h o p && truth s h facts verdicts (precondition s h o))
      → (r ≡ attempted s h facts verdicts states p o v) × (end ≡ attempted_states s h facts verdicts states p o v)
  unfolding attempted attempted_states attempted_if attempted_states_if
  attempt_admits e = go (bool_cases (allowed s h o p))
    where
      same : (allowed s h o p ≡ true) ⊎ (allowed s h o p ≡ false) → attempted_if s h t states p o v ≡ attempted s h facts verdicts states p o v
      same (inl a) = let k : t ≡ truth s h facts verdicts (precondition s h o) = rw a at e in rw k
      same (inr a) = if_barred s h t states p o v a ∙ sym (if_barred s h (truth s h facts verdicts (precondition s h o)) states p o v a)

      go : (allowed s h o p ≡ true) ⊎ (allowed s h o p ≡ false)
          → (r ≡ attempted s h facts verdicts states p o v) × (end ≡ attempted_states s h facts verdicts states p o v)
      go a = (is-answer ∙ same a, is-end ∙ ap (states_after s h states o) (same a))
