-- The wanted words of a flow's steps: what each may want, and that all are judged.
-- Assumes nothing.
use mathlib.Core.Path.{◌≡◌, sym, ◌∙◌}
use mathlib.Core.Bool.{Bool, true, false, not}
use mathlib.Core.List.{List}
use Prim.Native.Nat.{ℕ, ◌+◌, ◌-◌, ◌≤◌, ◌<◌}
use lib.IntN.{ℤ, pos}
use lib.ListN.{length, get_or}
use native.Mathlib.Omega.{arith}
use native.Mathlib.Decide.{dec_lt}
use borrow.Author.Tests.{not-true, not-false, eq-eqb, ne_eqb}
use Rattle.tables.proofs.Scans.{all_of, all_fails}
use Rattle.layout.specs.declared.Header.{Header}
use Rattle.layout.specs.Tables.{step}
use Rattle.records.specs.Accepted.{Accepted}
use Rattle.records.specs.Operations.{outcomes}
use Rattle.records.proofs.FlowLaws.{StepKind, performs as is-operation, branches as is-branch, step_is, flow_ok}
use Rattle.std.specs.Prelude.{Option}
use Rattle.operation.specs.Outcomes.{wanted_of, good_wanted}
use Rattle.walks.specs.Paths.{first_step_of, steps_of}
use Rattle.run.specs.Runs.{operation_at, wanted_at, outcomes_at, good_word, good_words}

-- ---- one step; k is its kind, o its operation

module _ (s : List ℤ) (h : Header) (i : ℕ) where
  pub branch_none : (k : ℕ) → k ≡ (step s h i).w0 → (k ≡ 0 → ⊥) → 0 ≡ outcomes_at s h i
  unfolding outcomes_at
  branch_none k e n = let z = ne_eqb (step s h i).w0 0 (λ x. n (e ∙ x)) in rw (z, outcomes_at)

  pub operation_outcomes : (k : ℕ) → k ≡ (step s h i).w0 → k ≡ 0 → outcomes s h (operation_at s h i) ≡ outcomes_at s h i
  unfolding outcomes_at
  operation_outcomes k e n = let z = eq-eqb (step s h i).w0 0 (sym e ∙ n) in rw (z, outcomes_at)

  -- an operation step's operation exists
  pub operation_there : Accepted s h → i < h.steps → (k : ℕ) → k ≡ (step s h i).w0 → k ≡ 0 → operation_at s h i < h.operations
  operation_there a l k e n = go (step_is s h a i l)
    where
      go : StepKind s h (step s h i) → operation_at s h i < h.operations
      go (is-operation z o p c) = o
      go (is-branch z o t l c) = absurd (omega arith)

-- ---- all steps of a flow whose first step is `first`

-- the k-th step's word is one that it may want
pub word_good : List ℤ → Header → ℕ → List ℤ → ℕ → Bool
word_good s h first words k = good_wanted (outcomes_at s h (first + k)) (wanted_of (get_or words k (pos 0)))

-- the words before the k-th are
pub record WordsSoFar (s : List ℤ) (h : Header) (first : ℕ) (words : List ℤ) (k : ℕ) : Type 0 where
  pub here : k ≤ length words
  pub each : (j : ℕ) → j < k → word_good s h first words j ≡ true

pub no_words : (s : List ℤ) (h : Header) (first : ℕ) (words : List ℤ) → WordsSoFar s h first words 0
no_words s h first words = record { here = omega arith; each = λ j l. absurd (omega arith) }

-- b is what the code finds of the k-th: it may want n outcomes, and wants w
module _ (s : List ℤ) (h : Header) (first : ℕ) (words : List ℤ) (k : ℕ) {n : ℕ} {w : Option ℕ} {b : Bool} (is-many : n ≡ outcomes_at s h (first + k))
    (is_wanted : w ≡ wanted_of (get_or words k (pos 0))) (is-good : b ≡ good_wanted n w) where
  found : b ≡ word_good s h first words k
  unfolding word_good
  found = is-good ∙ rw (is-many, is_wanted)

  pub word_more : not b ≡ false → k < length words → WordsSoFar s h first words k → WordsSoFar s h first words (k + 1)
  word_more e l r = record { here = omega arith; each = λ j m. go j m (dec_lt j k) }
    where
      go : (j : ℕ) → j < k + 1 → Dec (j < k) → word_good s h first words j ≡ true
      go j m (yes y) = r.each j y
      go j m (no x) = let z : j ≡ k = omega arith in rw z (sym found ∙ not-false b e)

-- the steps of the flow exist
pub step_there : {s : List ℤ} {h : Header} → Accepted s h → {f first n : ℕ} → f < h.flows → first ≡ first_step_of s h f → n ≡ steps_of s h f
    → (k : ℕ) → k < n → first + k < h.steps
step_there {s} {h} a {f} l is-first e k m = omega (arith, is-first, e, (flow_ok s h a f l).inside)

module _ (s : List ℤ) (h : Header) (f : ℕ) (words : List ℤ) {first : ℕ} (is-first : first ≡ first_step_of s h f) where
  word_is : (k : ℕ) → good_word s h f words (first_step_of s h f + k) ≡ word_good s h first words k
  unfolding good_word wanted_at word_good
  word_is k = let z : first_step_of s h f + k - first_step_of s h f ≡ k = omega arith in rw (z, is-first)

  pub bad_word : (k : ℕ) {n : ℕ} {w : Option ℕ} {b : Bool} → length words ≡ steps_of s h f → k < length words → n ≡ outcomes_at s h (first + k)
      → w ≡ wanted_of (get_or words k (pos 0)) → b ≡ good_wanted n w → not b ≡ true → false ≡ good_words s h f words
  unfolding good_words
  bad_word k {n} {w} {b} e l p q g t =
      sym
      (all_fails (λ (i : ℕ). good_word s h f words (first_step_of s h f + i)) (steps_of s h f) k (omega arith)
      (word_is k ∙ sym (found s h first words k p q g) ∙ not-true b t))

  pub all_good : {k : ℕ} → length words ≡ steps_of s h f → length words ≤ k → WordsSoFar s h first words k → true ≡ good_words s h f words
  unfolding good_words
  all_good {k} e l r =
      sym
      (all_of (λ (i : ℕ). good_word s h f words (first_step_of s h f + i)) (steps_of s h f)
      (λ j m. word_is j ∙ r.each j (omega (arith, r.here))))
