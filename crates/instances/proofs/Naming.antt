-- Which records have the instance that is named for an entity, and the state held of it.
-- Assumes nothing.
use mathlib.Core.Path.{◌≡◌}
use mathlib.Core.Bool.{Bool, true, false}
use mathlib.Core.Logic.{⊎_elim}
use Prim.Native.Nat.{ℕ, zero, suc, ◌<◌}
use lib.IntN.{ℤ, pos}
use lib.ListN.{get_or}
use lib.Dec.{eqb}
use native.Mathlib.Omega.{arith}
use borrow.Author.Tests.{eq-eqb, ne_eqb, eqb-true}
use Rattle.tables.proofs.Bools.{bool_cases, and_left, and_right}
use Rattle.tables.proofs.Scans.{extend}
use Rattle.signed.specs.Words.{eq_z}
use Rattle.signed.proofs.Parts.{eq_true}
use Rattle.instances.specs.Records.{LentStates, entity_at, instance_at, state_at}
use Rattle.instances.specs.Named.{names, held}

module _ (q : LentStates) (e i : ℕ) where
  abbrev of_entity : Bool
  of_entity = eqb (entity_at q.records i) e

  abbrev of_instance : Bool
  of_instance = eq_z (instance_at q.records i) (get_or q.instances e (pos 0))

  pub names_is : entity_at q.records i ≡ e → names q e i ≡ eq_z (instance_at q.records i) (get_or q.instances e (pos 0))
  unfolding names
  names_is p = rw (eq-eqb (entity_at q.records i) e p)

  pub names_other : (entity_at q.records i ≡ e → ⊥) → names q e i ≡ false
  unfolding names
  names_other p = rw (ne_eqb (entity_at q.records i) e p)

  module _ (p : names q e i ≡ true) where
    pub names_entity : entity_at q.records i ≡ e
    unfolding names
    names_entity = eqb-true (entity_at q.records i) e (and_left of_entity of_instance p)

    pub names_instance : instance_at q.records i ≡ get_or q.instances e (pos 0)
    unfolding names
    names_instance = eq_true (instance_at q.records i) (get_or q.instances e (pos 0)) (and_right of_entity of_instance p)

  -- the state held of an entity, with one record more
  pub held_here : names q e i ≡ true → held q e (suc i) ≡ state_at q.records i
  unfolding held
  held_here p = rw p

  pub held_past : names q e i ≡ false → held q e (suc i) ≡ held q e i
  unfolding held
  held_past p = rw p

-- what holds of the state of each record that has the instance, and of 0 where none has, holds of the state held
pub held_by : (P : ℤ → Type 0) (q : LentStates) (e n : ℕ) → ((i : ℕ) → i < n → names q e i ≡ true → P (state_at q.records i))
    → (((i : ℕ) → i < n → names q e i ≡ false) → P (pos 0)) → P (held q e n)
unfolding held
held_by P q e zero f g = g (λ i l. absurd (omega arith))
held_by P q e (suc n) f g =
    ⊎_elim (λ p. rw (held_here q e n p) (f n (omega arith) p))
    (λ p. rw (held_past q e n p) (held_by P q e n (λ i l. f i (omega arith)) (λ none. g (extend (λ (i : ℕ). names q e i ≡ false) n none p))))
    (bool_cases (names q e n))
