-- Whether each entity that an effect of an operation names is flagged.
-- Assumes nothing.
use mathlib.Core.Path.{◌≡◌, sym, ◌∙◌}
use mathlib.Core.Bool.{Bool, true, false, not, ◌||◌}
use mathlib.Core.List.{List}
use mathlib.Core.Logic.{◌⊎◌, inl, inr, ⊎_elim}
use Prim.Native.Nat.{ℕ, ◌+◌, ◌≤◌, ◌<◌}
use lib.IntN.{ℤ}
use lib.ListN.{length, get_or}
use native.Mathlib.Omega.{arith}
use borrow.Author.Tests.{le-leb, lt-ltb, not-true, not-false}
use Rattle.tables.proofs.Bools.{tests, bool_cases, or_true_right}
use Rattle.tables.proofs.Scans.{all_of, all_fails, all_same}
use Rattle.tables.proofs.Scanned.{step}
use Rattle.layout.specs.declared.Header.{Header}
use Rattle.layout.specs.Tables.{operation, effect, entity_of, effect_start_of}
use Rattle.records.specs.Accepted.{Accepted}
use Rattle.records.specs.Operations.{effects_end}
use Rattle.records.proofs.OperationLaws.{change_ok, operation_ok}
use Rattle.operation.specs.declared.Effects.{Effects}
use Rattle.operation.specs.Outcomes.{of_operation}
use Rattle.operation.specs.Inner.{effects_of}
use Rattle.operation.proofs.Targets.{first_is, end_is}
use Rattle.instances.specs.Records.{LentStates, count}
use Rattle.instances.specs.Named.{has, covers}
use Rattle.instances.specs.Inner.{Gathered}
use Rattle.instances.proofs.Gathering.{found_is}

-- flags that agree on the entities that the operation's effects name
pub covers_on : (s : List ℤ) (h : Header) (f g : ℕ → Bool) (o : ℕ)
    → ((e : ℕ) → e < h.effects → of_operation s h o e ≡ true → f (entity_of (effect s h e)) ≡ g (entity_of (effect s h e)))
    → covers s h f o ≡ covers s h g o
unfolding covers
covers_on s h f g o same =
    all_same _ _ h.effects (λ e l. ⊎_elim (λ p. rw (same e l p)) (λ p. rw p) (bool_cases (of_operation s h o e)))

-- so those that agree on the entities there are
pub covers_same : {s : List ℤ} {h : Header} → Accepted s h → (f g : ℕ → Bool) → ((e : ℕ) → e < h.entities → f e ≡ g e) → (o : ℕ)
    → covers s h f o ≡ covers s h g o
covers_same {s} {h} a f g same o = covers_on s h f g o (λ e l p. same (entity_of (effect s h e)) (change_ok a e l).entity)

-- as those of the gathering pass do
pub covers_found : {s : List ℤ} {h : Header} → Accepted s h → (q : LentStates) {states : List ℤ} {found : List Bool}
    → length q.instances ≡ h.entities → Gathered q (count q.records) states found → (o : ℕ)
    → covers s h (λ e. get_or found e false) o ≡ covers s h (has q) o
covers_found {s} {h} a q long g o = covers_same a _ _ (found_is h q long g) o

-- and where all are flagged, every operation is covered
pub covers_all : {s : List ℤ} {h : Header} → Accepted s h → (f : ℕ → Bool) → ((e : ℕ) → e < h.entities → f e ≡ true) → (o : ℕ)
    → covers s h f o ≡ true
unfolding covers
covers_all {s} {h} a f all o =
    all_of _ h.effects (λ e l. or_true_right (not (of_operation s h o e)) _ (all (entity_of (effect s h e)) (change_ok a e l).entity))

-- ---- the pass over an operation's effects, which run from `x.first` up to `x.end`

-- the entities of those before e are flagged
pub record Flagged (s : List ℤ) (h : Header) (lent : ℕ → Bool) (first e : ℕ) : Type 0 where
  pub low : first ≤ e
  pub each : (j : ℕ) → first ≤ j → j < e → lent (entity_of (effect s h j)) ≡ true

pub none_flagged : {s : List ℤ} {h : Header} (lent : ℕ → Bool) (first : ℕ) → Flagged s h lent first first
none_flagged lent first = record { low = omega arith; each = λ j p q. absurd (omega arith) }

module _ {s : List ℤ} {h : Header} (a : Accepted s h) {o : ℕ} (exists : o < h.operations) (x : Effects) (is : x ≡ effects_of s h o) where
  pub effect_there : {e : ℕ} → e < x.end → e < h.effects
  effect_there l = omega (arith, end_is s h o x is, (operation_ok a o exists).end)

  -- n is the effect's entity, b its flag
  module _ {lent : ℕ → Bool} {e n : ℕ} {b : Bool} (g : Flagged s h lent x.first e) (l : e < x.end) (is-entity : n ≡ entity_of (effect s h e))
      (is-flag : b ≡ lent n) where
    flag_is : lent (entity_of (effect s h e)) ≡ b
    flag_is = rw (← is-entity) (sym is-flag)

    pub one_flagged : not b ≡ false → Flagged s h lent x.first (e + 1)
    one_flagged p =
        record {
          low = omega (arith, g.low);
          each = step (λ j. lent (entity_of (effect s h j))) x.first e g.each (flag_is ∙ not-false b p);
        }

    pub not_flagged : not b ≡ true → false ≡ covers s h lent o
    unfolding covers of_operation
    not_flagged p =
        sym
        (all_fails _ h.effects e (effect_there l)
        (rw (
          le-leb (effect_start_of (operation s h o)) e (omega (arith, g.low, first_is s h o x is)),
          lt-ltb e (effects_end s h o) (omega (arith, end_is s h o x is)),
        ) (flag_is ∙ not-true b p)))

  pub all_flagged : {lent : ℕ → Bool} {e : ℕ} → Flagged s h lent x.first e → x.end ≤ e → true ≡ covers s h lent o
  unfolding covers of_operation
  all_flagged {lent} {e} g l = sym (all_of _ h.effects (λ j m. go j (bool_cases (of_operation s h o j))))
    where
      go : (j : ℕ) → (of_operation s h o j ≡ true) ⊎ (of_operation s h o j ≡ false)
          → (not (of_operation s h o j) || lent (entity_of (effect s h j))) ≡ true
      go j (inl p) =
          let r = simp tests at p in
          rw p (g.each j (omega (arith, r.0, first_is s h o x is)) (omega (arith, r.1, end_is s h o x is)))
      go j (inr p) = rw p
