-- 01, refusals 6 and 7, and 02, CR 6: judged fact by fact, the first faulty fact decides.
-- Assumes nothing.
use Rattle.std.specs.Prelude.{ℕ, zero, suc, ℤ, pos, Bool, true, false, cond, ◌&&◌, List, get_or, leb, eqb, Ok, Err}
use Rattle.tables.specs.Lists.{all_of}
use Rattle.signed.specs.Words.{eq_z, within, num}
use Rattle.words.specs.Record.{word, number}
use Rattle.answer.specs.declared.Refusal.TheVariants.{FactValue, FactAbsent}
use Rattle.answer.specs.Answers.{Status}
use Rattle.layout.specs.declared.Header.{Header}
use Rattle.records.specs.Facts.{is_list, largest_of}
use Rattle.facts.specs.Lent.{LentFacts, length_lent, elements_lent}

-- x lies in the fact's min..max
abbrev pub in_fact : List ℤ → ℕ → ℤ → Bool
in_fact s k x = within (word s k 1) x (word s k 2)

-- the fact's has_default_lem word says that it has one
abbrev pub has_default : List ℤ → ℕ → Bool
has_default s k = eqb (number s k 3) 1

-- "a length outside 0..largest or an element within it out of range is refused 6"; a negative length is past every limit
unfoldable pub good_list : List ℤ → LentFacts → ℕ → Bool
good_list s t k = leb (num (length_lent s t k)) (num (largest_of s k)) && all_of (in_fact s k) (elements_lent s t k)

-- what is lent of fact k is in range; of a list its value word is not read
unfoldable pub good_lent : List ℤ → LentFacts → ℕ → Bool
good_lent s t k = cond (is_list s k) (good_list s t k) (in_fact s k (get_or t.values k (pos 0)))

-- of fact k. 7: neither given nor defaulted, and a list has no default. 6: a given flag not 0 or 1, or what is given is out of range
unfoldable pub fact_fault : List ℤ → LentFacts → ℕ → Status
fact_fault s t k =
    let g = get_or t.given k (pos 0) in
    elim (eq_z g (pos 0)) [
      | true ↦ elim (has_default s k) [ true ↦ Ok tt | false ↦ Err (FactAbsent k) ]
      | false ↦ elim (eq_z g (pos 1) && good_lent s t k) [ true ↦ Ok tt | false ↦ Err (FactValue k) ]
    ]

-- the first refusal among the n numbers from i on
unfoldable pub first_refused : (ℕ → Status) → ℕ → ℕ → Status
first_refused f i zero = Ok tt
first_refused f i (suc n) = elim (f i) [ Ok _ ↦ first_refused f (suc i) n | Err r ↦ Err r ]

-- the fault of the lent facts
unfoldable pub facts_fault : List ℤ → Header → LentFacts → Status
facts_fault s h t = first_refused (fact_fault s t) 0 h.facts
