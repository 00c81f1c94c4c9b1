-- Whether the entities that a flow's operations name are flagged: step by step, each operation looked at once.
-- Assumes nothing.
use mathlib.Core.Path.{◌≡◌, sym, ◌∙◌}
use mathlib.Core.Logic.{⊎_elim}
use mathlib.Core.Bool.{Bool, true, false, not}
use mathlib.Core.List.{List}
use Prim.Native.Nat.{ℕ, ◌+◌, ◌≤◌, ◌<◌}
use lib.IntN.{ℤ}
use lib.ListN.{length, get_or, set, replicate, length-replicate, length-set}
use lib.Seq.{get_or-set_same, get_or-set_other}
use native.Mathlib.Omega.{arith}
use native.Mathlib.Decide.{ℕ_discrete}
use borrow.Author.Tests.{not-true, not-false, eq-eqb, ne_eqb}
use Rattle.tables.proofs.Bools.{true_false, bool_cases}
use Rattle.tables.proofs.Scans.{extend_one, all_of, all_fails, all_same}
use Rattle.layout.specs.declared.Header.{Header}
use Rattle.layout.specs.Sized.{Sized}
use Rattle.layout.specs.Tables.{step, effect, entity_of}
use Rattle.records.specs.Accepted.{Accepted}
use Rattle.operation.specs.Outcomes.{of_operation}
use Rattle.instances.specs.Records.{LentStates, count}
use Rattle.instances.specs.Named.{has, covers}
use Rattle.instances.specs.Inner.{Gathered}
use Rattle.instances.proofs.Covering.{covers_on, covers_all}
use Rattle.instances.proofs.Gathering.{found_is}
use Rattle.records.proofs.OperationLaws.{change_ok}
use Rattle.walks.specs.Paths.{first_step_of, steps_of}
use Rattle.run.specs.Runs.{performs, operation_at, step_covers, flow_covers}
use Rattle.run.specs.Inner.{Seen, EachOperation}
use Rattle.run.proofs.Memory.{none_set}
use Rattle.run.proofs.Wants.{operation_there}

-- ---- one step; k is its kind, o its operation

module _ (s : List ℤ) (h : Header) (i : ℕ) {k : ℕ} (is-kind : k ≡ (step s h i).w0) where
  pub branch_covers : (lent : ℕ → Bool) → (k ≡ 0 → ⊥) → true ≡ step_covers s h lent i
  unfolding step_covers
  branch_covers lent n = rw (ne_eqb (step s h i).w0 0 (λ z. n (is-kind ∙ z)), step_covers)

  pub operation_covers : (lent : ℕ → Bool) {o : ℕ} {b : Bool} → k ≡ 0 → o ≡ operation_at s h i → b ≡ covers s h lent o → b ≡ step_covers s h lent i
  unfolding step_covers
  operation_covers lent z is-operation e = rw (eq-eqb (step s h i).w0 0 (sym is-kind ∙ z), step_covers, ← is-operation) e

  -- an operation step's operation exists
  pub operation_named_lem : {o : ℕ} → Accepted s h → i < h.steps → k ≡ 0 → o ≡ operation_at s h i → o < h.operations
  operation_named_lem a l z is-operation = rw is-operation (operation_there s h i a l k is-kind z)

-- ---- all steps of a flow

module _ (s : List ℤ) (h : Header) (lent : ℕ → Bool) (i : ℕ) where
  performs_covers : performs s h i ≡ true → step_covers s h lent i ≡ covers s h lent (operation_at s h i)
  unfolding step_covers
  performs_covers t = rw (t, step_covers)

  other_covers : performs s h i ≡ false → step_covers s h lent i ≡ true
  unfolding step_covers
  other_covers t = rw (t, step_covers)

-- flags that agree on the entities that the operations name
pub flow_covers_on : (s : List ℤ) (h : Header) (a b : ℕ → Bool) (f : ℕ)
    → EachOperation s h f (λ o. (e : ℕ) → e < h.effects → of_operation s h o e ≡ true → a (entity_of (effect s h e)) ≡ b (entity_of (effect s h e)))
    → flow_covers s h a f ≡ flow_covers s h b f
unfolding flow_covers
flow_covers_on s h a b f same =
    all_same _ _ (steps_of s h f)
    (λ k l.
    let i = first_step_of s h f + k in
    ⊎_elim
    (λ t. performs_covers s h a i t ∙ covers_on s h a b (operation_at s h i) (same k l t) ∙ sym (performs_covers s h b i t))
    (λ t. other_covers s h a i t ∙ sym (other_covers s h b i t)) (bool_cases (performs s h i)))

-- where all are flagged, every flow is covered
pub flow_covers_all : {s : List ℤ} {h : Header} → Accepted s h → (a : ℕ → Bool) → ((e : ℕ) → e < h.entities → a e ≡ true) → (f : ℕ)
    → flow_covers s h a f ≡ true
unfolding flow_covers
flow_covers_all {s} {h} w a all f =
    all_of _ (steps_of s h f)
    (λ k l.
    let i = first_step_of s h f + k in
    ⊎_elim (λ t. performs_covers s h a i t ∙ covers_all w a all (operation_at s h i)) (other_covers s h a i) (bool_cases (performs s h i)))

-- the flags of the gathering pass
pub flow_covers_found : {s : List ℤ} {h : Header} → Accepted s h → (q : LentStates) {states : List ℤ} {found : List Bool}
    → length q.instances ≡ h.entities → Gathered q (count q.records) states found → (f : ℕ)
    → flow_covers s h (λ e. get_or found e false) f ≡ flow_covers s h (has q) f
flow_covers_found {s} {h} w q long g f =
    flow_covers_on s h _ _ f (λ k l t e m p. found_is h q long g (entity_of (effect s h e)) (change_ok w e m).entity)

-- ---- the operations looked at

module _ (s : List ℤ) (h : Header) (found : List Bool) where
  pub none_seen : Seen s h found (replicate 128 false)
  none_seen = record { long = length-replicate 128 false; right = λ o e. absurd (true_false e (none_set o)) }

  -- each operation has a flag
  pub seen_there : {seen : List Bool} {o : ℕ} → Sized s h → Seen s h found seen → o < h.operations → o < length seen
  seen_there z g l = omega (arith, z.limits.operations, g.long)

  pub one_seen : {seen : List Bool} {o : ℕ} {b : Bool} → Seen s h found seen → o < length seen → b ≡ covers s h (λ e. get_or found e false) o
      → Seen s h found (set seen o b)
  one_seen {seen} {o} {b} g l e = record { long = length-set seen o b ∙ g.long; right = λ q p. go q p (ℕ_discrete q o) }
    where
      go : (q : ℕ) → get_or (set seen o b) q false ≡ true → Dec (q ≡ o) → covers s h (λ e. get_or found e false) q ≡ true
      go q p (yes z) = rw z (sym e ∙ sym (get_or-set_same seen o b false l) ∙ rw z at p)
      go q p (no n) = g.right q (sym (get_or-set_other seen o q b false n) ∙ p)

-- ---- the steps of a flow whose first step is `first`

-- the operations of the steps before the k-th name flagged entities alone
pub record Looked (s : List ℤ) (h : Header) (found : List Bool) (first : ℕ) (seen : List Bool) (k : ℕ) : Type 0 where
  pub flags : Seen s h found seen
  pub each : (j : ℕ) → j < k → step_covers s h (λ e. get_or found e false) (first + j) ≡ true

pub none_looked : (s : List ℤ) (h : Header) (found : List Bool) (first : ℕ) → Looked s h found first (replicate 128 false) 0
none_looked s h found first = record { flags = none_seen s h found; each = λ j l. absurd (omega arith) }

module _ {s : List ℤ} {h : Header} {found : List Bool} {first : ℕ} {seen : List Bool} {k : ℕ} (g : Looked s h found first seen k) where
  -- b is what the code finds of the k-th
  module _ {b : Bool} (is : b ≡ step_covers s h (λ e. get_or found e false) (first + k)) where
    pub one_looked : {now : List Bool} → not b ≡ false → Seen s h found now → Looked s h found first now (k + 1)
    one_looked p flags =
        record {
          flags = flags;
          each = extend_one (λ (j : ℕ). step_covers s h (λ e. get_or found e false) (first + j) ≡ true) k g.each (sym is ∙ not-false b p);
        }

    pub not_covered : (f : ℕ) {n : ℕ} → first ≡ first_step_of s h f → n ≡ steps_of s h f → k < n → not b ≡ true
        → false ≡ flow_covers s h (λ e. get_or found e false) f
    unfolding flow_covers
    not_covered f is-first is_count l p =
        sym (all_fails _ (steps_of s h f) k (omega arith) (rw (← is-first) (sym is ∙ not-true b p)))

  pub all_covered : (f : ℕ) {n : ℕ} → first ≡ first_step_of s h f → n ≡ steps_of s h f → n ≤ k → true ≡ flow_covers s h (λ e. get_or found e false) f
  unfolding flow_covers
  all_covered f is-first is_count l =
      sym (all_of _ (steps_of s h f) (λ j m. rw (← is-first) (g.each j (omega arith))))
