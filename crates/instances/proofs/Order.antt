-- Records that are not refused rise by entity and instance, so an entity's named instance has one record.
-- Assumes nothing.
use Rattle.std.specs.Prelude.{Ok}
use mathlib.Core.Path.{◌≡◌, refl, subst, ◌∙◌}
use mathlib.Core.Bool.{true, ◌&&◌}
use mathlib.Core.List.{List}
use mathlib.Core.Logic.{◌⊎◌, inl, inr, ⊎_elim}
use Prim.Native.Nat.{ℕ, zero, suc, ◌-◌, ◌<◌}
use lib.IntN.{ℤ}
use lib.Dec.{ltb, eqb}
use lib.Signed.{lt_z}
use native.Mathlib.Omega.{arith}
use native.Mathlib.Decide.{dec_lt}
use borrow.Author.Tests.{ltb-true, eqb-true}
use Rattle.tables.proofs.Bools.{and_left, and_right, or_cases, true_false}
use Rattle.tables.proofs.Scans.{below_suc}
use Rattle.signed.proofs.Parts.{Lt, lt_true}
use Rattle.signed.proofs.Order.{lt_le, lt_le_trans, lt_irrefl}
use Rattle.layout.specs.declared.Header.{Header}
use Rattle.instances.specs.Records.{LentStates, count, entity_at, instance_at, state_at, above, records_fault}
use Rattle.instances.specs.Named.{names, held}
use Rattle.instances.proofs.Judging.{record_ok, good_records}
use Rattle.instances.proofs.Naming.{names_entity, names_instance, held_by}

module _ (rs : List ℤ) where
  -- record j is above record i
  abbrev Above : ℕ → ℕ → Type 0
  Above i j = (entity_at rs i < entity_at rs j) ⊎ ((entity_at rs i ≡ entity_at rs j) × Lt (instance_at rs i) (instance_at rs j))

  is_above : (i j : ℕ) → above rs i j ≡ true → Above i j
  unfolding above
  is_above i j p =
      let same = eqb (entity_at rs i) (entity_at rs j) in
      let less = lt_z (instance_at rs i) (instance_at rs j) in
      ⊎_elim (λ r. inl (ltb-true _ _ r)) (λ r. inr (eqb-true _ _ (and_left same less r), lt_true _ _ (and_right same less r)))
      (or_cases (ltb (entity_at rs i) (entity_at rs j)) (same && less) p)

  through : (i j k : ℕ) → Above i j → Above j k → Above i k
  through i j k (inl p) (inl r) = inl (omega arith)
  through i j k (inl p) (inr r) = inl (omega (arith, r.0))
  through i j k (inr p) (inl r) = inl (omega (arith, p.0))
  through i j k (inr p) (inr r) = inr (p.0 ∙ r.0, lt_le_trans p.1 (lt_le r.1))

  module _ (s : List ℤ) (h : Header) (done : records_fault s h rs ≡ Ok tt) where
    next : (i : ℕ) → suc i < count rs → Above i (suc i)
    next i l =
        let z : suc i - 1 ≡ i = omega arith in
        ⊎_elim (λ r. absurd (omega (arith, eqb-true (suc i) 0 r))) (λ r. is_above i (suc i) (rw z at r))
        (or_cases (eqb (suc i) 0) (above rs (suc i - 1) (suc i)) (record_ok s h rs (suc i) (good_records s h rs done (suc i) l)).order)

    rising : (i j : ℕ) → i < j → j < count rs → Above i j
    rising i zero l m = absurd (omega arith)
    rising i (suc j) l m =
        ⊎_elim (λ k. through i j (suc j) (rising i j k (omega arith)) (next j m)) (λ e. rw e (next j m)) (below_suc i j l)

module _ (s : List ℤ) (h : Header) (q : LentStates) (done : records_fault s h q.records ≡ Ok tt) where
  twice : (e i j : ℕ) → i < j → j < count q.records → names q e i ≡ true → names q e j ≡ true → ⊥
  twice e i j l m p r =
      ⊎_elim (λ a. omega (arith, names_entity q e i p, names_entity q e j r))
      (λ a. lt_irrefl (rw (names_instance q e i p, names_instance q e j r) at a.1)) (rising q.records s h done i j l m)

  -- an entity's named instance has one record
  pub named_once : (e i j : ℕ) → i < count q.records → j < count q.records → names q e i ≡ true → names q e j ≡ true → i ≡ j
  named_once e i j l m p r = go (dec_lt i j) (dec_lt j i)
    where
      go : Dec (i < j) → Dec (j < i) → i ≡ j
      go (yes y) c = absurd (twice e i j y m p r)
      go (no x) (yes y) = absurd (twice e j i y l r p)
      go (no x) (no y) = omega arith

  -- so its state is that record's
  pub held_of : (e i : ℕ) → i < count q.records → names q e i ≡ true → held q e (count q.records) ≡ state_at q.records i
  held_of e i l p =
      held_by (λ z. z ≡ state_at q.records i) q e (count q.records)
      (λ j m r. subst (λ (k : ℕ). state_at q.records j ≡ state_at q.records k) (named_once e j i m l r p) refl)
      (λ none. absurd (true_false p (none i l)))
