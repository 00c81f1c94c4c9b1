-- The lent records: refusal 8, and what holds where it is not given.
-- Assumes nothing.
use Rattle.std.specs.Prelude.{Ok, Err}
use mathlib.Core.Path.{◌≡◌, sym, ◌∙◌}
use mathlib.Core.Bool.{Bool, true, false, not, ◌||◌}
use mathlib.Core.List.{List}
use Prim.Native.Nat.{ℕ, ◌+◌, ◌-◌, ◌≤◌, ◌<◌}
use lib.IntN.{ℤ}
use lib.Dec.{eqb}
use native.Mathlib.Omega.{arith}
use native.Mathlib.Decide.{dec_lt}
use borrow.Author.Tests.{lt-ltb, le-ltb, eq-eqb, ne_eqb, not-true, not-false}
use Rattle.tables.proofs.Bools.{tests}
use Rattle.tables.proofs.Scans.{extend_one}
use Rattle.tables.proofs.Scanned.{fail_at, fail_none, all_pass}
use Rattle.signed.specs.Words.{num}
use Rattle.answer.specs.declared.Refusal.{Refusal}
use Rattle.answer.specs.declared.Refusal.TheVariants.{State}
use Rattle.answer.specs.Inner.{Every}
use Rattle.answer.proofs.Distinct.{refused_done}
use Rattle.layout.specs.declared.Header.{Header}
use Rattle.records.specs.Entities.{states as state_count}
use Rattle.instances.specs.Records.{count, entity_at, state_at, above, good_record, first_bad, records_fault}

-- ---- one record

-- its entity and its state are in range, and it is the first one or above the one before it
pub record RecordOk (s : List ℤ) (h : Header) (rs : List ℤ) (i : ℕ) : Type 0 where
  pub entity : entity_at rs i < h.entities
  pub state : num (state_at rs i) < state_count s h (entity_at rs i)
  pub order : (eqb i 0 || above rs (i - 1) i) ≡ true

module _ (s : List ℤ) (h : Header) (rs : List ℤ) (i : ℕ) where
  pub record_ok : good_record s h rs i ≡ true → RecordOk s h rs i
  unfolding good_record
  record_ok p = let r = simp tests at p in record { entity = r.0.0; state = r.0.1; order = r.1 }

  pub ok_record : RecordOk s h rs i → good_record s h rs i ≡ true
  unfolding good_record
  ok_record r = simp tests ((r.entity, r.state), r.order)

  -- e is the record's entity, n the number of that one's states, w the record's state
  module _ {e : ℕ} (is-entity : e ≡ entity_at rs i) where
    pub bad_entity : h.entities ≤ e → false ≡ good_record s h rs i
    unfolding good_record
    bad_entity l = rw (le-ltb (entity_at rs i) h.entities (omega arith))

    module _ {n w : ℕ} (inside : e < h.entities) (is_count : n ≡ state_count s h e) (is_state : w ≡ num (state_at rs i)) where
      abbrev has_states : ℕ
      has_states = state_count s h (entity_at rs i)

      count_is : n ≡ has_states
      count_is = rw (← is-entity) is_count

      pub bad_state : n ≤ w → false ≡ good_record s h rs i
      unfolding good_record
      bad_state l =
          rw (lt-ltb (entity_at rs i) h.entities (omega arith), le-ltb (num (state_at rs i)) has_states (omega (arith, count_is)))

      pub good_first : w < n → i ≡ 0 → true ≡ good_record s h rs i
      unfolding good_record
      good_first l z =
          rw (lt-ltb (entity_at rs i) h.entities (omega arith), lt-ltb (num (state_at rs i)) has_states (omega (arith, count_is)), eq-eqb i 0 z)

      pub good_later : {b : Bool} → w < n → (i ≡ 0 → ⊥) → b ≡ above rs (i - 1) i → b ≡ good_record s h rs i
      unfolding good_record
      good_later l z p =
          rw (lt-ltb (entity_at rs i) h.entities (omega arith), lt-ltb (num (state_at rs i)) has_states (omega (arith, count_is)), ne_eqb i 0 z) p

-- ---- all records

-- the first i are good
pub record Judged (s : List ℤ) (h : Header) (rs : List ℤ) (i : ℕ) : Type 0 where
  pub here : i ≤ count rs
  pub each : (j : ℕ) → j < i → good_record s h rs j ≡ true

module _ (s : List ℤ) (h : Header) (rs : List ℤ) where
  pub none_judged : Judged s h rs 0
  none_judged = record { here = omega arith; each = λ j l. absurd (omega arith) }

  -- b is what the code finds of record i
  pub one_more : {i : ℕ} {b : Bool} → Judged s h rs i → i < count rs → b ≡ good_record s h rs i → not b ≡ false → Judged s h rs (i + 1)
  one_more {i} {b} g l e p =
      record { here = omega arith; each = extend_one (λ (j : ℕ). good_record s h rs j ≡ true) i g.each (sym e ∙ not-false b p) }

  pub bad_record : {i : ℕ} {b : Bool} → Judged s h rs i → i < count rs → b ≡ good_record s h rs i → not b ≡ true
      → Err (State i) ≡ records_fault s h rs
  unfolding records_fault first_bad
  bad_record {i} {b} g l e p =
      rw (← fail_at (good_record s h rs) (count rs) i l g.each (sym e ∙ not-true b p), lt-ltb i (count rs) l)

  pub none_bad : {i : ℕ} → Judged s h rs i → count rs ≤ i → (Ok tt) ≡ records_fault s h rs
  unfolding records_fault first_bad
  none_bad {i} g l = rw (← fail_none (good_record s h rs) (count rs) i g.here l g.each, le-ltb i (count rs) l)

  -- where refusal 8 is not given, every record is good
  pub good_records : records_fault s h rs ≡ Ok tt → (i : ℕ) → i < count rs → good_record s h rs i ≡ true
  unfolding records_fault first_bad
  good_records p = all_pass (good_record s h rs) (count rs) (none (dec_lt (first_bad s h rs) (count rs)))
    where
      none : Dec (first_bad s h rs < count rs) → count rs ≤ first_bad s h rs
      none (no x) = omega arith
      none (yes l) = absurd (refused_done (rw (lt-ltb (first_bad s h rs) (count rs) l) at p))

  -- and where every record is good, it is not given
  pub all_good : ((i : ℕ) → i < count rs → good_record s h rs i ≡ true) → records_fault s h rs ≡ Ok tt
  all_good g = sym (none_bad (record { here = omega arith; each = g }) (omega arith))

  -- refusal 8 is given at a record's number
  pub bad_every : (P : Refusal → Type 0) → ((i : ℕ) → i < count rs → P (State i)) → Every P (records_fault s h rs)
  unfolding records_fault
  bad_every P b = go (dec_lt (first_bad s h rs) (count rs))
    where
      go : Dec (first_bad s h rs < count rs) → Every P (records_fault s h rs)
      go (yes l) = rw (lt-ltb (first_bad s h rs) (count rs) l) (b (first_bad s h rs) l)
      go (no x) = rw (le-ltb (first_bad s h rs) (count rs) (omega arith)) tt
