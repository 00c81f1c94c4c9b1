-- What the facts use of the lent lists.
-- Assumes nothing.
use mathlib.Core.Path.{◌≡◌, sym, ◌∙◌}
use mathlib.Core.Bool.{true, false}
use mathlib.Core.List.{List}
use mathlib.Core.Logic.{⊎_elim}
use Prim.Native.Nat.{ℕ, zero, suc, ◌+◌, ◌*◌, ◌≤◌, ◌<◌}
use native.Mathlib.Omega.{arith}
use lib.IntN.{ℤ, pos}
use lib.ListN.{length, get_or}
use Rattle.tables.proofs.Bools.{bool_cases}
use Rattle.tables.proofs.Scans.{sum_zero, sum_more, sum_mono, sum_suc}
use Rattle.signed.specs.Words.{num}
use Rattle.layout.specs.declared.Header.{Header}
use Rattle.records.specs.Facts.{is_list, largest_of, good_fact}
use Rattle.records.specs.Accepted.{Accepted}
use Rattle.records.proofs.FactLaws.{fact_ok}
use Rattle.facts.specs.declared.Used.{Used}
use Rattle.facts.specs.Lent.{LentFacts, slots_of, lengths_of, slots_before, lengths_before}
use Rattle.facts.specs.Inner.{UsedBefore, AtFact, AllLent, LentAt, LengthsIn}

-- ---- what one fact uses

module _ (s : List ℤ) (k : ℕ) where
  pub list_slots : is_list s k ≡ true → slots_of s k ≡ num (largest_of s k)
  unfolding slots_of
  list_slots e = rw e

  pub list_lengths : is_list s k ≡ true → lengths_of s k ≡ 1
  unfolding lengths_of
  list_lengths e = rw e

  pub other_slots : is_list s k ≡ false → slots_of s k ≡ 0
  unfolding slots_of
  other_slots e = rw e

  pub other_lengths : is_list s k ≡ false → lengths_of s k ≡ 0
  unfolding lengths_of
  other_lengths e = rw e

  few_slots : good_fact s k ≡ true → slots_of s k ≤ 100
  few_slots p =
      ⊎_elim (λ e. rw (list_slots e) ((fact_ok s k p).largest e)) (λ e. rw (other_slots e) (omega arith)) (bool_cases (is_list s k))

  few_lengths : lengths_of s k ≤ 1
  few_lengths = ⊎_elim (λ e. rw (list_lengths e) (omega arith)) (λ e. rw (other_lengths e) (omega arith)) (bool_cases (is_list s k))

-- ---- what the first facts use

module _ (s : List ℤ) where
  pub none : (u : Used) → u.slots ≡ 0 → u.lengths ≡ 0 → UsedBefore s 0 u
  none u p q = record { slots = p ∙ sym (sum_zero (slots_of s)); lengths = q ∙ sym (sum_zero (lengths_of s)) }

  pub past_list : (k : ℕ) (u : Used) {a b : ℕ} → UsedBefore s k u → is_list s k ≡ true → a ≡ u.slots + num (largest_of s k) → b ≡ u.lengths + 1
      → UsedBefore s (k + 1) (record { slots = a; lengths = b })
  past_list k u r e p q =
      record {
        slots = p ∙ rw (sum_more (slots_of s) k, list_slots s k e, r.slots);
        lengths = q ∙ rw (sum_more (lengths_of s) k, list_lengths s k e, r.lengths);
      }

  pub past_other : (k : ℕ) (u : Used) → UsedBefore s k u → is_list s k ≡ false → UsedBefore s (k + 1) u
  past_other k u r e =
      record {
        slots = r.slots ∙ sym (rw (sum_more (slots_of s) k, other_slots s k e) (omega arith));
        lengths = r.lengths ∙ sym (rw (sum_more (lengths_of s) k, other_lengths s k e) (omega arith));
      }

  low_slots : (n : ℕ) → ((k : ℕ) → k < n → good_fact s k ≡ true) → slots_before s n ≤ 100 * n
  low_slots zero g = omega (arith, sum_zero (slots_of s))
  low_slots (suc n) g =
      let i = low_slots n (λ k l. g k (omega arith)) in
      let f = few_slots s n (g n (omega arith)) in omega (arith, sum_suc (slots_of s) n)

  low_lengths : (n : ℕ) → lengths_before s n ≤ n
  low_lengths zero = omega (arith, sum_zero (lengths_of s))
  low_lengths (suc n) =
      let i = low_lengths n in
      let f = few_lengths s n in omega (arith, sum_suc (lengths_of s) n)

-- a fact of an accepted sheet
pub at_fact : {s : List ℤ} {h : Header} {k : ℕ} {u : Used} → Accepted s h → k < h.facts → UsedBefore s k u → AtFact s k u
at_fact {s} {h} {k} {u} a l r =
    let m = a.sized.limits.facts in
    let p = low_slots s k (λ j q. a.facts j (omega arith)) in
    let q = low_lengths s k in
    record {
      words = omega (arith, a.sized.long);
      used = r;
      few = few_slots s k (a.facts k l);
      slots = omega (arith, r.slots);
      lengths = omega (arith, r.lengths);
    }

-- slices as long as all facts want hold what each has
pub lent_at : {s : List ℤ} {h : Header} {t : LentFacts} {k : ℕ} → AllLent s h t → k < h.facts → LentAt s k t
lent_at {s} {h} {t} {k} a l =
    let x = sum_mono (slots_of s) (suc k) h.facts (omega arith) in
    let y = sum_mono (lengths_of s) (suc k) h.facts (omega arith) in
    record {
      value = omega (arith, a.values);
      flag = omega (arith, a.given);
      slots = omega (arith, a.lists, sum_suc (slots_of s) k);
      length = omega (arith, a.lengths, sum_suc (lengths_of s) k);
    }

-- a list's length is lent
pub length_lent_lem : (s : List ℤ) (h : Header) (lengths : List ℤ) (k : ℕ) (u : Used) → LengthsIn s h lengths → k < h.facts → UsedBefore s k u
    → is_list s k ≡ true → (u.lengths < length lengths) × (num (get_or lengths u.lengths (pos 0)) ≤ 100)
length_lent_lem s h lengths k u n l r e =
    let y = sum_mono (lengths_of s) (suc k) h.facts (omega arith) in
    (omega (arith, n.long, r.lengths, sum_suc (lengths_of s) k, list_lengths s k e), rw r.lengths (n.each k l e))

-- past the last fact
pub used_by_all : {s : List ℤ} {n k : ℕ} {u : Used} → UsedBefore s k u → k ≤ n → n ≤ k → UsedBefore s n u
used_by_all {s} {n} {k} r a b = let e : n ≡ k = omega arith in rw e r
