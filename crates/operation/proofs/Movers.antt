-- The effect of an outcome that moves an entity: there is one at most, and the entity's new state is where it leads.
-- Assumes nothing.
use mathlib.Core.Path.{◌≡◌, sym, ◌∙◌}
use mathlib.Core.Bool.{Bool, true, false, not}
use mathlib.Core.List.{List}
use mathlib.Core.Logic.{◌⊎◌, inl, inr}
use Prim.Native.Nat.{ℕ, ◌<◌}
use lib.IntN.{ℤ, pos}
use lib.ListN.{length, get_or}
use native.Mathlib.Omega.{arith}
use borrow.Author.Tests.{lt-ltb, le-ltb}
use Rattle.tables.proofs.Bools.{tests, bool_cases}
use Rattle.tables.proofs.Scanned.{stopped, ended, first_fail_lem}
use Rattle.tables.proofs.Grown.{length_grown, grown_at}
use Rattle.tables.specs.Table.{entry}
use Rattle.layout.specs.declared.Header.{Header}
use Rattle.layout.specs.Tables.{effect}
use Rattle.records.specs.Accepted.{Accepted}
use Rattle.records.specs.Operations.{outcome}
use Rattle.records.proofs.OperationLaws.{Of, inside, once}
use Rattle.operation.specs.States.{present}
use Rattle.operation.specs.Outcomes.{of_outcome, starts, moves}
use Rattle.operation.specs.Changes.{mover, new_state, applied}

-- effect e is one of outcome j of operation o, and starts from the present state of entity n
pub record Moves (s : List ℤ) (h : Header) (states : List ℤ) (o j n e : ℕ) : Type 0 where
  pub of : Of s h o e
  pub outcome : outcome s h e ≡ j
  pub entity : (effect s h e).w0 ≡ n
  pub from : (effect s h e).w1 ≡ present states n

module _ (s : List ℤ) (h : Header) (states : List ℤ) (o j n : ℕ) where
  pub moves_true : (e : ℕ) → moves s h states o j n e ≡ true → Moves s h states o j n e
  unfolding moves of_outcome starts
  moves_true e p =
      let q = simp tests at p in
      record { of = record { low = q.0.0.0; high = q.0.0.1 }; outcome = q.0.1; entity = q.1.1; from = rw q.1.1 at q.1.0 }

  pub true_moves : (e : ℕ) → Moves s h states o j n e → moves s h states o j n e ≡ true
  unfolding moves of_outcome starts
  true_moves e m = simp tests (((m.of.low, m.of.high), m.outcome), (rw m.entity m.from, m.entity))

  -- no effect moves the entity: it stays
  pub stays : ((e : ℕ) → Moves s h states o j n e → ⊥) → new_state s h states o j n ≡ get_or states n (pos 0)
  unfolding new_state mover
  stays none =
      let f : ℕ → Bool = λ e. not (moves s h states o j n e) in
      let q =
      first_fail_lem f h.effects h.effects
      (ended f 0 h.effects h.effects (omega arith) (omega arith) (omega arith) (λ e a b. go e (bool_cases (moves s h states o j n e)))) in
      rw (q, le-ltb h.effects h.effects (omega arith))
    where
      go : (e : ℕ) → (moves s h states o j n e ≡ true) ⊎ (moves s h states o j n e ≡ false) → not (moves s h states o j n e) ≡ true
      go e (inl t) = absurd (none e (moves_true e t))
      go e (inr f) = rw f

  module _ (a : Accepted s h) (l : o < h.operations) where
    -- one effect at most moves an entity
    pub one_mover : (d e : ℕ) → Moves s h states o j n d → Moves s h states o j n e → d ≡ e
    one_mover d e p q = once a o l d e p.of q.of (p.outcome ∙ sym q.outcome) (p.entity ∙ sym q.entity) (p.from ∙ sym q.from)

    pub mover_is : (e : ℕ) → Moves s h states o j n e → mover s h states o j n ≡ e
    unfolding mover
    mover_is e m =
        let f : ℕ → Bool = λ d. not (moves s h states o j n d) in
        first_fail_lem f h.effects e
        (stopped f 0 h.effects e (omega arith) (inside a o l e m.of) (λ d p q. go d q (bool_cases (moves s h states o j n d)))
        (rw (true_moves e m)))
      where
        go : (d : ℕ) → d < e → (moves s h states o j n d ≡ true) ⊎ (moves s h states o j n d ≡ false) → not (moves s h states o j n d) ≡ true
        go d q (inl t) = let z = one_mover d e (moves_true d t) m in absurd (omega arith)
        go d q (inr f) = rw f

    -- an effect moves the entity: its new state is where the effect leads
    pub goes : (e : ℕ) → Moves s h states o j n e → new_state s h states o j n ≡ pos (effect s h e).w2
    unfolding new_state
    goes e m = rw (mover_is e m, lt-ltb e h.effects (inside a o l e m.of))

module _ (s : List ℤ) (h : Header) (states : List ℤ) (o j : ℕ) where
  pub length_applied : length (applied s h states o j) ≡ h.entities
  unfolding applied
  length_applied = length_grown (λ (look : ℕ → ℤ) (n : ℕ). new_state s h states o j n) (pos 0) h.entities

  pub applied_at : (n : ℕ) → n < h.entities → get_or (applied s h states o j) n (pos 0) ≡ new_state s h states o j n
  unfolding applied entry
  applied_at n l = grown_at (λ (look : ℕ → ℤ) (n : ℕ). new_state s h states o j n) (pos 0) h.entities n l
