-- A sheet without lists: facts are judged and assembled as 01 says, and there are no slots and no lengths to lend.
-- Assumes nothing.
use Rattle.std.specs.Prelude.{Ok, Err}
use mathlib.Core.Path.{◌≡◌, sym, ap, ◌∙◌}
use mathlib.Core.Bool.{Bool, true, false, ◌&&◌}
use mathlib.Core.List.{List}
use Prim.Native.Nat.{ℕ, zero, suc, ◌<◌}
use native.Mathlib.Omega.{arith}
use lib.IntN.{ℤ, pos}
use lib.ListN.{get_or}
use Rattle.tables.specs.Scan.{sum_below}
use Rattle.tables.proofs.Scans.{sum_zero, sum_suc}
use Rattle.signed.specs.Words.{eq_z}
use Rattle.answer.specs.declared.Refusal.TheVariants.{FactValue, FactAbsent}
use Rattle.layout.specs.declared.Header.{Header}
use Rattle.node.specs.FactValues.{Single, no_value}
use Rattle.records.specs.Facts.{is_list}
use Rattle.facts.specs.Lent.{LentFacts, slots_of, lengths_of, slots_before, lengths_before}
use Rattle.facts.specs.Faults.{has_default, fact_fault, first_refused, facts_fault}
use Rattle.facts.specs.Assembled.{assembled_values, assembled}
use Rattle.facts.specs.Inner.{plain_fault}
use Rattle.facts.proofs.Refused.{first_same}
use Rattle.facts.proofs.UsedLaws.{other_slots, other_lengths}
use Rattle.facts.proofs.FaultLaws.{lent_value, taken_single, fact_at, assembled_at}

module _ (s : List ℤ) (n : ℕ) (none : (k : ℕ) → k < n → is_list s k ≡ false) where
  no_sum : (f : ℕ → ℕ) → ((k : ℕ) → k < n → f k ≡ 0) → (m : ℕ) → m < suc n → sum_below f m ≡ 0
  no_sum f z zero l = sum_zero f
  no_sum f z (suc m) l = omega (arith, sum_suc f m, no_sum f z m (omega arith), z m (omega arith))

  pub no_slots : slots_before s n ≡ 0
  no_slots = no_sum (slots_of s) (λ k l. other_slots s k (none k l)) n (omega arith)

  pub no_lengths : lengths_before s n ≡ 0
  no_lengths = no_sum (lengths_of s) (λ k l. other_lengths s k (none k l)) n (omega arith)

module _ (s : List ℤ) (h : Header) (t : LentFacts) (none : (k : ℕ) → k < h.facts → is_list s k ≡ false) where
  plain_fault_lem : (k : ℕ) → is_list s k ≡ false → fact_fault s t k ≡ plain_fault s k (get_or t.values k (pos 0)) (get_or t.given k (pos 0))
  unfolding fact_fault plain_fault
  plain_fault_lem k e =
      let g = get_or t.given k (pos 0) in
      ap (λ (b : Bool). elim (eq_z g (pos 0)) [
        | true ↦ elim (has_default s k) [ true ↦ Ok tt | false ↦ Err (FactAbsent k) ]
        | false ↦ elim (eq_z g (pos 1) && b) [ true ↦ Ok tt | false ↦ Err (FactValue k) ]
      ]) (lent_value s t k e)

  -- the first faulty fact decides
  pub plain_faults : facts_fault s h t ≡ first_refused (λ k. plain_fault s k (get_or t.values k (pos 0)) (get_or t.given k (pos 0))) 0 h.facts
  unfolding facts_fault
  plain_faults = first_same _ _ 0 h.facts (λ k a b. plain_fault_lem k (none k (omega arith)))

  -- each fact is the value that assembly leaves
  pub plain_facts : (k : ℕ) → k < h.facts → get_or (assembled s h t) k no_value ≡ Single (get_or (assembled_values s h t.values t.given) k (pos 0))
  plain_facts k l = fact_at s h t k l ∙ taken_single s t k (none k l) ∙ sym (rw (assembled_at s h t.values t.given k l))
