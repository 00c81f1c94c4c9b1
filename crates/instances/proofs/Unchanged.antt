-- What is gathered and written back changes nothing; what is written is gathered again; good records stay good.
-- Assumes nothing.
use Rattle.std.specs.Prelude.{Ok}
use mathlib.Core.Path.{◌≡◌, sym, ap, ◌∙◌}
use mathlib.Core.Bool.{true}
use mathlib.Core.List.{List}
use mathlib.Core.Logic.{⊎_elim}
use Prim.Native.Nat.{ℕ, ◌+◌, ◌-◌, ◌*◌, ◌/◌, ◌<◌}
use lib.IntN.{ℤ, pos}
use lib.ListN.{length, get_or}
use lib.Seq.{ext_get_or}
use native.Mathlib.Omega.{arith}
use native.Mathlib.Decide.{ℕ_discrete}
use Rattle.tables.proofs.Bools.{bool_cases, true_false}
use Rattle.tables.proofs.Scans.{any_at}
use Rattle.layout.specs.declared.Header.{Header}
use Rattle.operation.specs.Inner.{StatesIn}
use Rattle.instances.specs.Records.{LentStates, lent_states, count, entity_at, state_at, above, records_fault}
use Rattle.instances.specs.Named.{names, gathered, scattered, has}
use Rattle.instances.proofs.Judging.{RecordOk, record_ok, ok_record, good_records, all_good}
use Rattle.instances.proofs.Naming.{names_entity, held_by}
use Rattle.instances.proofs.Order.{held_of}
use Rattle.instances.proofs.Gathering.{gathered_at}
use Rattle.instances.proofs.Scattering.{scattered_length, word_kept, entity_kept, instance_kept, names_kept, state_kept, state_new}

module _ (q : LentStates) (st : List ℤ) where
  pub count_kept : count (scattered q st) ≡ count q.records
  count_kept = ap (λ (n : ℕ). n / 3) (scattered_length q st)

  -- what is written is what the named records have
  pub scattered_same : ((i : ℕ) → i < count q.records → names q (entity_at q.records i) i ≡ true
      → get_or st (entity_at q.records i) (pos 0) ≡ state_at q.records i) → scattered q st ≡ q.records
  scattered_same same =
      ext_get_or (pos 0) (scattered q st) q.records (scattered_length q st)
      (λ j l. word j (omega (arith, scattered_length q st)) (ℕ_discrete j (3 * (j / 3) + 2)))
    where
      state : (i : ℕ) → i < count q.records → state_at (scattered q st) i ≡ state_at q.records i
      state i l = ⊎_elim (λ p. state_new q st i l p ∙ same i l p) (state_kept q st i) (bool_cases (names q (entity_at q.records i) i))

      word : (j : ℕ) → j < length q.records → Dec (j ≡ 3 * (j / 3) + 2) → get_or (scattered q st) j (pos 0) ≡ get_or q.records j (pos 0)
      word j l (yes e) = rw e (state (j / 3) (omega arith))
      word j l (no x) = word_kept q st j (λ i m p e. x (omega (arith, e)))

-- what is gathered, written back, changes nothing
pub unchanged : (s : List ℤ) (h : Header) (q : LentStates) → records_fault s h q.records ≡ Ok tt → scattered q (gathered h q) ≡ q.records
unchanged s h q done =
    scattered_same q (gathered h q)
    (λ i l p. gathered_at h q (entity_at q.records i) (record_ok s h q.records i (good_records s h q.records done i l)).entity
    ∙ held_of s h q done (entity_at q.records i) i l p)

-- what is gathered after the pass is what was written, of each entity whose named instance is there
pub gathered_again : (h : Header) (q : LentStates) (st : List ℤ) (e : ℕ) → e < h.entities → has q e ≡ true
    → get_or (gathered h (lent_states (scattered q st) q.instances)) e (pos 0) ≡ get_or st e (pos 0)
unfolding has
gathered_again h q st e l p =
    gathered_at h after e l
    ∙ held_by (λ z. z ≡ get_or st e (pos 0)) after e (count (scattered q st))
    (λ i m r. new i (omega (arith, count_kept q st)) (sym (names_kept q st e i) ∙ r))
    (λ none. let w = any_at (names q e) (count q.records) p in
    absurd (true_false w.2 (sym (names_kept q st e w.0) ∙ none w.0 (omega (arith, count_kept q st, w.1)))))
  where
    after : LentStates
    after = lent_states (scattered q st) q.instances

    new : (i : ℕ) → i < count q.records → names q e i ≡ true → state_at (scattered q st) i ≡ get_or st e (pos 0)
    new i m r = let z = names_entity q e i r in state_new q st i m (rw z r) ∙ ap (λ (k : ℕ). get_or st k (pos 0)) z

-- where states that exist are written into good records, these are good again
pub still_good : (s : List ℤ) (h : Header) (q : LentStates) (st : List ℤ) → records_fault s h q.records ≡ Ok tt → StatesIn s h st
    → records_fault s h (scattered q st) ≡ Ok tt
still_good s h q st done valid = all_good s h (scattered q st) (λ i l. ok_record s h (scattered q st) i (good i (omega (arith, count_kept q st))))
  where
    order : (i j : ℕ) → above (scattered q st) i j ≡ above q.records i j
    order i j = unfold above in rw (entity_kept q st i, entity_kept q st j, instance_kept q st i, instance_kept q st j)

    good : (i : ℕ) → i < count q.records → RecordOk s h (scattered q st) i
    good i l =
        let r = record_ok s h q.records i (good_records s h q.records done i l) in
        record {
          entity = rw (entity_kept q st i) r.entity;
          state =
              rw (entity_kept q st i)
              (⊎_elim (λ p. rw (state_new q st i l p) (valid.each (entity_at q.records i) r.entity))
              (λ p. rw (state_kept q st i p) r.state) (bool_cases (names q (entity_at q.records i) i)));
          order = rw (order (i - 1) i) r.order;
        }

-- what holds of a state that stays, and of what is gathered of an entity and its new state, holds of every record's state before and after
pub each_record : (s : List ℤ) (h : Header) (q : LentStates) → records_fault s h q.records ≡ Ok tt → (st : List ℤ) (P : ℤ → ℤ → Type 0)
    → ((a : ℤ) → P a a) → (i : ℕ) → i < count q.records
    → (entity_at q.records i < h.entities
    → P (get_or (gathered h q) (entity_at q.records i) (pos 0)) (get_or st (entity_at q.records i) (pos 0)))
    → P (state_at q.records i) (state_at (scattered q st) i)
each_record s h q done st P same i l work =
    let n = entity_at q.records i in
    let own : entity_at q.records i < h.entities = (record_ok s h q.records i (good_records s h q.records done i l)).entity in
    ⊎_elim
    (λ p. let was = gathered_at h q n own ∙ held_of s h q done n i l p in rw (← was, state_new q st i l p) (work own))
    (λ p. rw (state_kept q st i p) (same (state_at q.records i))) (bool_cases (names q n i))
