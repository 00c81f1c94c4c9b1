-- The writing pass, and the records after it: named instances have the new states, and nothing else changes.
-- Assumes nothing.
use mathlib.Core.Path.{◌≡◌, refl, sym, ap, ◌∙◌}
use mathlib.Core.Bool.{Bool, true, false}
use mathlib.Core.List.{List}
use mathlib.Core.Logic.{◌⊎◌, inl, inr, ⊎_elim}
use Prim.Native.Nat.{ℕ, zero, suc, ◌+◌, ◌*◌, ◌≤◌, ◌<◌}
use lib.IntN.{ℤ, pos}
use lib.ListN.{length, get_or, set, length-set}
use lib.Seq.{get_or-set_same, get_or-set_other}
use native.Mathlib.Omega.{arith}
use native.Mathlib.Numerals.{add-one}
use native.Mathlib.Decide.{ℕ_discrete}
use Rattle.tables.proofs.Bools.{true_false, bool_cases}
use Rattle.tables.proofs.Scans.{below_suc}
use Rattle.signed.specs.Words.{eq_z}
use Rattle.instances.specs.Records.{LentStates, lent_states, count, entity_at, instance_at, state_at}
use Rattle.instances.specs.Named.{names, scattered_to, scattered}
use Rattle.instances.specs.Inner.{placed}
use Rattle.instances.proofs.Naming.{names_is}

-- ---- one record; e is its entity, b says whether its instance is the named one

module _ (q : LentStates) (states : List ℤ) (i : ℕ) {e : ℕ} {b : Bool} (is-entity : e ≡ entity_at q.records i)
    (is-named : b ≡ eq_z (instance_at q.records i) (get_or q.instances e (pos 0))) where
  named_is : names q (entity_at q.records i) i ≡ b
  named_is = rw (← is-entity) (names_is q e i (sym is-entity) ∙ sym is-named)

  pub placed_own : {w : ℤ} → b ≡ true → w ≡ get_or states e (pos 0) → set q.records (3 * i + 2) w ≡ placed q states i
  unfolding placed
  placed_own p is_state = rw (named_is ∙ p, is_state, is-entity)

  pub placed_other : b ≡ false → q.records ≡ placed q states i
  unfolding placed
  placed_other p = rw (named_is ∙ p)

-- ---- the first n records

module _ (q : LentStates) (states : List ℤ) where
  -- record i is a named one
  abbrev named : ℕ → Bool
  named i = names q (entity_at q.records i) i

  abbrev to : ℕ → List ℤ
  to n = scattered_to q states n

  to_here : (n : ℕ) → named n ≡ true → to (suc n) ≡ set (to n) (3 * n + 2) (get_or states (entity_at q.records n) (pos 0))
  unfolding scattered_to
  to_here n p = rw p

  to_past : (n : ℕ) → named n ≡ false → to (suc n) ≡ to n
  unfolding scattered_to
  to_past n p = rw p

  to_none : to 0 ≡ q.records
  unfolding scattered_to
  to_none = refl

  to_length : (n : ℕ) → length (to n) ≡ length q.records
  to_length zero = ap length to_none
  to_length (suc n) =
      ⊎_elim (λ p. rw (to_here n p) (length-set (to n) (3 * n + 2) (get_or states (entity_at q.records n) (pos 0)) ∙ to_length n))
      (λ p. rw (to_past n p) (to_length n)) (bool_cases (named n))

  to_word : (n j : ℕ) → ((i : ℕ) → i < n → named i ≡ true → j ≡ 3 * i + 2 → ⊥) → get_or (to n) j (pos 0) ≡ get_or q.records j (pos 0)
  to_word zero j f = ap (λ (t : List ℤ). get_or t j (pos 0)) to_none
  to_word (suc n) j f =
      ⊎_elim
      (λ p. rw (to_here n p) (get_or-set_other (to n) (3 * n + 2) j _ (pos 0) (f n (omega arith) p) ∙ to_word n j (λ i l. f i (omega arith))))
      (λ p. rw (to_past n p) (to_word n j (λ i l. f i (omega arith)))) (bool_cases (named n))

  to_entity : (n i : ℕ) → get_or (to n) (3 * i) (pos 0) ≡ get_or q.records (3 * i) (pos 0)
  to_entity n i = to_word n (3 * i) (λ k l p e. omega (arith, e))

  to_instance : (n i : ℕ) → get_or (to n) (3 * i + 1) (pos 0) ≡ get_or q.records (3 * i + 1) (pos 0)
  to_instance n i = to_word n (3 * i + 1) (λ k l p e. omega (arith, e))

  to_state : (n i : ℕ) → i < n → 3 * n ≤ length q.records → named i ≡ true
      → state_at (to n) i ≡ get_or states (entity_at q.records i) (pos 0)
  to_state zero i l b p = absurd (omega arith)
  to_state (suc n) i l b p = go (bool_cases (named n)) (ℕ_discrete i n) (λ m. to_state n i m (omega arith) p)
    where
      earlier : (i ≡ n → ⊥) → i < n
      earlier z = ⊎_elim (λ m. m) (λ e. absurd (z e)) (below_suc i n l)

      go : (named n ≡ true) ⊎ (named n ≡ false) → Dec (i ≡ n) → (i < n → state_at (to n) i ≡ get_or states (entity_at q.records i) (pos 0))
          → state_at (to (suc n)) i ≡ get_or states (entity_at q.records i) (pos 0)
      go (inl r) (yes e) ih = rw (to_here n r, e) (get_or-set_same (to n) (3 * n + 2) _ (pos 0) (omega (arith, to_length n)))
      go (inl r) (no x) ih =
          rw (to_here n r) (get_or-set_other (to n) (3 * n + 2) (3 * i + 2) _ (pos 0) (λ e. x (omega (arith, e))) ∙ ih (earlier x))
      go (inr r) (yes e) ih = absurd (true_false p (rw (← e) at r))
      go (inr r) (no x) ih = rw (to_past n r) (ih (earlier x))

  -- the same records are named after the pass
  to_names : (n e i : ℕ) → names (lent_states (to n) q.instances) e i ≡ names q e i
  unfolding names
  to_names n e i = rw (to_entity n i, to_instance n i)

  -- one step of the pass, on the records as they are
  to_next : (n : ℕ) {out : List ℤ} → out ≡ placed (lent_states (to n) q.instances) states n → out ≡ to (n + 1)
  unfolding placed
  to_next n e =
      let r = rw (to_entity n n, to_names n (entity_at q.records n) n) at e in
      ⊎_elim (λ p. rw (add-one n, to_here n p) (rw p at r)) (λ p. rw (add-one n, to_past n p) (rw p at r)) (bool_cases (named n))

-- ---- the pass

-- what it has after i records
pub record Scattering (q : LentStates) (states now : List ℤ) (i : ℕ) : Type 0 where
  pub here : i ≤ count q.records
  pub long : length now ≡ length q.records
  pub is : now ≡ scattered_to q states i

module _ (q : LentStates) (states : List ℤ) where
  pub none_scattered : Scattering q states q.records 0
  none_scattered = record { here = omega arith; long = refl; is = sym (to_none q states) }

  pub one_scattered : (i : ℕ) {now out : List ℤ} → Scattering q states now i → i < count q.records
      → out ≡ placed (lent_states now q.instances) states i → Scattering q states out (i + 1)
  one_scattered i {now} {out} g l p =
      let e = to_next q states i (rw g.is at p) in
      record { here = omega arith; long = ap length e ∙ to_length q states (i + 1); is = e }

  pub all_scattered : (i : ℕ) {now : List ℤ} → Scattering q states now i → count q.records ≤ i → now ≡ scattered q states
  all_scattered i g l = let e : i ≡ count q.records = omega (arith, g.here) in rw e at g.is

  -- ---- the records after it

  pub scattered_length : length (scattered q states) ≡ length q.records
  scattered_length = to_length q states (count q.records)

  -- a word that is not the state of a named record stays
  pub word_kept : (j : ℕ) → ((i : ℕ) → i < count q.records → names q (entity_at q.records i) i ≡ true → j ≡ 3 * i + 2 → ⊥)
      → get_or (scattered q states) j (pos 0) ≡ get_or q.records j (pos 0)
  word_kept = to_word q states (count q.records)

  pub entity_kept : (i : ℕ) → get_or (scattered q states) (3 * i) (pos 0) ≡ get_or q.records (3 * i) (pos 0)
  entity_kept = to_entity q states (count q.records)

  pub instance_kept : (i : ℕ) → get_or (scattered q states) (3 * i + 1) (pos 0) ≡ get_or q.records (3 * i + 1) (pos 0)
  instance_kept = to_instance q states (count q.records)

  -- so the same records are named
  pub names_kept : (e i : ℕ) → names (lent_states (scattered q states) q.instances) e i ≡ names q e i
  names_kept = to_names q states (count q.records)

  -- a record that is not named keeps its state, and a named one has the new state
  pub state_kept : (i : ℕ) → names q (entity_at q.records i) i ≡ false → state_at (scattered q states) i ≡ state_at q.records i
  state_kept i r =
      word_kept (3 * i + 2) (λ k l p e. let z : k ≡ i = omega (arith, e) in true_false (rw z at p) r)

  pub state_new : (i : ℕ) → i < count q.records → names q (entity_at q.records i) i ≡ true
      → state_at (scattered q states) i ≡ get_or states (entity_at q.records i) (pos 0)
  state_new i l = to_state q states (count q.records) i l (omega arith)
