-- A fact's fault by its cases, and what facts without a fault give: every assembled fact is in range.
-- Assumes nothing.
use Rattle.std.specs.Prelude.{Ok, Err}
use mathlib.Core.Path.{◌≡◌, sym, ◌∙◌}
use mathlib.Core.Bool.{true, false, ◌&&◌}
use mathlib.Core.List.{List}
use mathlib.Core.Logic.{⊎_elim}
use Prim.Native.Nat.{ℕ, ◌≤◌, ◌<◌}
use native.Mathlib.Omega.{arith}
use lib.IntN.{ℤ, pos}
use lib.ListN.{length, get_or}
use borrow.Author.Tests.{eqb-true}
use Rattle.answer.proofs.Distinct.{refused_done}
use Rattle.tables.specs.Table.{entry}
use Rattle.tables.proofs.Bools.{bool_cases, and_right, tests}
use Rattle.tables.proofs.Elements.{length_from}
use Rattle.tables.proofs.Grown.{length_grown, grown_at}
use Rattle.signed.specs.Words.{eq_z, num}
use Rattle.signed.proofs.Bounds.{true_in}
use Rattle.words.specs.Record.{word, number}
use Rattle.answer.specs.declared.Refusal.{Refusal}
use Rattle.answer.specs.declared.Refusal.TheVariants.{FactValue, FactAbsent}
use Rattle.answer.specs.Inner.{Every}
use Rattle.layout.specs.declared.Header.{Header}
use Rattle.node.specs.FactValues.{Single, Listed, no_value}
use Rattle.records.specs.Facts.{is_list, largest_of}
use Rattle.records.specs.Accepted.{Accepted}
use Rattle.records.proofs.FactLaws.{fact_ok}
use Rattle.facts.specs.Lent.{LentFacts, length_lent, elements_lent}
use Rattle.facts.specs.Faults.{in_fact, has_default, good_list, good_lent, fact_fault, facts_fault}
use Rattle.facts.specs.Assembled.{value_taken, assembled_values, fact_taken, assembled}
use Rattle.facts.specs.Inner.{good_value, FactsIn, AllLent, LengthsIn}
use Rattle.facts.proofs.Refused.{none_refused, first_by}

-- a given value is taken as it is, and else the default
module _ (s : List ℤ) (k : ℕ) (x g : ℤ) where
  pub taken_default : eq_z g (pos 0) ≡ true → value_taken s k x g ≡ word s k 4
  unfolding value_taken
  taken_default p = rw p

  pub taken_value : eq_z g (pos 0) ≡ false → value_taken s k x g ≡ x
  unfolding value_taken
  taken_value p = rw p

module _ (s : List ℤ) (t : LentFacts) (k : ℕ) where
  abbrev flag : ℤ
  flag = get_or t.given k (pos 0)

  abbrev value : ℤ
  value = get_or t.values k (pos 0)

  pub defaulted : eq_z flag (pos 0) ≡ true → has_default s k ≡ true → fact_fault s t k ≡ Ok tt
  unfolding fact_fault
  defaulted p q = rw (p, q, fact_fault)

  pub absent : eq_z flag (pos 0) ≡ true → has_default s k ≡ false → fact_fault s t k ≡ Err (FactAbsent k)
  unfolding fact_fault
  absent p q = rw (p, q, fact_fault)

  pub fair : eq_z flag (pos 0) ≡ false → (eq_z flag (pos 1) && good_lent s t k) ≡ true → fact_fault s t k ≡ Ok tt
  unfolding fact_fault
  fair p q = rw (p, q, fact_fault)

  pub unfair : eq_z flag (pos 0) ≡ false → (eq_z flag (pos 1) && good_lent s t k) ≡ false → fact_fault s t k ≡ Err (FactValue k)
  unfolding fact_fault
  unfair p q = rw (p, q, fact_fault)

  -- a fact's fault has the fact's number for its place
  fault_is : (P : Refusal → Type 0) → P (FactAbsent k) → P (FactValue k) → Every P (fact_fault s t k)
  fault_is P l m =
      ⊎_elim (λ p. ⊎_elim (λ q. rw (defaulted p q) tt) (λ q. rw (absent p q) l) (bool_cases (has_default s k)))
      (λ p. ⊎_elim (λ q. rw (fair p q) tt) (λ q. rw (unfair p q) m) (bool_cases (eq_z flag (pos 1) && good_lent s t k)))
      (bool_cases (eq_z flag (pos 0)))

  -- what is lent, of a list and of another fact
  pub lent_list : is_list s k ≡ true → good_lent s t k ≡ good_list s t k
  unfolding good_lent
  lent_list e = rw e

  pub lent_value : is_list s k ≡ false → good_lent s t k ≡ in_fact s k value
  unfolding good_lent
  lent_value e = rw e

  taken_list : is_list s k ≡ true → fact_taken s t k ≡ Listed (elements_lent s t k)
  unfolding fact_taken
  taken_list e = rw e

  pub taken_single : is_list s k ≡ false → fact_taken s t k ≡ Single (value_taken s k value flag)
  unfolding fact_taken
  taken_single e = rw e

  -- without a fault a given fact is good, and one that is not given has a default
  module _ (e : fact_fault s t k ≡ Ok tt) where
    given_good : eq_z flag (pos 0) ≡ false → good_lent s t k ≡ true
    given_good p =
        ⊎_elim (λ q. and_right (eq_z flag (pos 1)) (good_lent s t k) q) (λ q. absurd (refused_done (sym (unfair p q) ∙ e)))
        (bool_cases (eq_z flag (pos 1) && good_lent s t k))

    has_default_lem : eq_z flag (pos 0) ≡ true → has_default s k ≡ true
    has_default_lem p = ⊎_elim (λ q. q) (λ q. absurd (refused_done (sym (absent p q) ∙ e))) (bool_cases (has_default s k))

    module _ (h : Header) (a : Accepted s h) (l : k < h.facts) where
      -- a list is given, as it has no default
      pub list_good : is_list s k ≡ true → good_list s t k ≡ true
      list_good i = ⊎_elim none (λ p. sym (lent_list i) ∙ given_good p) (bool_cases (eq_z flag (pos 0)))
        where
          none : eq_z flag (pos 0) ≡ true → good_list s t k ≡ true
          none p =
              let d = (fact_ok s k (a.facts k l)).bare i in
              let q = eqb-true (number s k 3) 1 (has_default_lem p) in absurd (omega arith)

      value_in_lem : is_list s k ≡ false → in_fact s k (value_taken s k value flag) ≡ true
      value_in_lem i = ⊎_elim not_given given (bool_cases (eq_z flag (pos 0)))
        where
          not_given : eq_z flag (pos 0) ≡ true → in_fact s k (value_taken s k value flag) ≡ true
          not_given p =
              rw (taken_default s k value flag p)
              (true_in (word s k 1) (word s k 4) (word s k 2) ((fact_ok s k (a.facts k l)).default (eqb-true _ 1 (has_default_lem p))))

          given : eq_z flag (pos 0) ≡ false → in_fact s k (value_taken s k value flag) ≡ true
          given p = rw (taken_value s k value flag p) (sym (lent_value i) ∙ given_good p)

      list_in : is_list s k ≡ true → good_list s t k ≡ true → good_value s k (Listed (elements_lent s t k)) ≡ true
      unfolding good_value good_list
      list_in i q = rw (i, length_from t.lists _ (num (length_lent s t k))) q

      single_in : (x : ℤ) → is_list s k ≡ false → in_fact s k x ≡ true → good_value s k (Single x) ≡ true
      unfolding good_value
      single_in x i q = rw i q

      -- without a fault what is taken is in range
      pub taken_in : good_value s k (fact_taken s t k) ≡ true
      taken_in =
          ⊎_elim (λ i. rw (taken_list i) (list_in i (list_good i))) (λ i. rw (taken_single i) (single_in _ i (value_in_lem i))) (bool_cases (is_list s k))

module _ (s : List ℤ) (h : Header) (values given : List ℤ) where
  abbrev value_at : ℕ → ℤ
  value_at k = value_taken s k (get_or values k (pos 0)) (get_or given k (pos 0))

  -- what assembly leaves for fact k
  pub assembled_at : (k : ℕ) → k < h.facts → get_or (assembled_values s h values given) k (pos 0) ≡ value_at k
  unfolding assembled_values entry
  assembled_at k l = grown_at (λ _ j. value_at j) (pos 0) h.facts k l

  -- the default stands where the fact is not given, and only there
  pub assembled_default : (k : ℕ) → k < h.facts → eq_z (get_or given k (pos 0)) (pos 0) ≡ true
      → get_or (assembled_values s h values given) k (pos 0) ≡ word s k 4
  assembled_default k l p = assembled_at k l ∙ taken_default s k (get_or values k (pos 0)) (get_or given k (pos 0)) p

  pub assembled_given : (k : ℕ) → k < h.facts → eq_z (get_or given k (pos 0)) (pos 0) ≡ false
      → get_or (assembled_values s h values given) k (pos 0) ≡ get_or values k (pos 0)
  assembled_given k l p = assembled_at k l ∙ taken_value s k (get_or values k (pos 0)) (get_or given k (pos 0)) p

  pub length_assembled : length (assembled_values s h values given) ≡ h.facts
  unfolding assembled_values
  length_assembled = length_grown (λ _ j. value_at j) (pos 0) h.facts

module _ (s : List ℤ) (h : Header) (t : LentFacts) where
  -- fact k as calls see it
  pub fact_at : (k : ℕ) → k < h.facts → get_or (assembled s h t) k no_value ≡ fact_taken s t k
  unfolding assembled entry
  fact_at k l = grown_at (λ _ j. fact_taken s t j) no_value h.facts k l

  pub length_facts : length (assembled s h t) ≡ h.facts
  unfolding assembled
  length_facts = length_grown (λ _ j. fact_taken s t j) no_value h.facts

  none_faulty : facts_fault s h t ≡ Ok tt → (k : ℕ) → k < h.facts → fact_fault s t k ≡ Ok tt
  unfolding facts_fault
  none_faulty e k l = none_refused (fact_fault s t) h.facts e k l

  -- facts without a fault are assembled to facts in range
  pub facts_in : Accepted s h → facts_fault s h t ≡ Ok tt → FactsIn s h (assembled s h t)
  facts_in a e = record { long = length_facts; each = λ k l. rw (fact_at k l) (taken_in s t k (none_faulty e k l) h a l) }

  length_few : (k : ℕ) → good_list s t k ≡ true → num (largest_of s k) ≤ 100 → num (length_lent s t k) ≤ 100
  unfolding good_list
  length_few k p l = let q = simp tests at p in omega arith

  -- and their lists are no longer than they may be
  pub lengths_in : Accepted s h → AllLent s h t → facts_fault s h t ≡ Ok tt → LengthsIn s h t.lengths
  lengths_in a n e =
      record {
        long = n.lengths;
        each = λ k l i. length_few k (list_good s t k (none_faulty e k l) h a l i) ((fact_ok s k (a.facts k l)).largest i);
      }

  -- a fault is 7 or 6 at a fact's number
  pub fault_every : (P : Refusal → Type 0) → ((k : ℕ) → k < h.facts → P (FactAbsent k) × P (FactValue k)) → Every P (facts_fault s h t)
  unfolding facts_fault
  fault_every P b =
      first_by (fact_fault s t) (Every P) tt 0 h.facts (λ j p q. fault_is s t j P (b j (omega arith)).0 (b j (omega arith)).1)
