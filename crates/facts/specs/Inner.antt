-- What the inner functions ask and answer, and what proofs speak of. The definitions of the other files do not rest on these.
-- Assumes nothing.
use Rattle.std.specs.Prelude.{◌≡◌, ℕ, ◌+◌, ◌*◌, ◌≤◌, ◌<◌, ◌/◌, ◌%◌, ℤ, pos, Bool, true, false, cond, ◌&&◌, List, leb, length, get_or, Ok, Err}
use Rattle.tables.specs.Table.{grown}
use Rattle.tables.specs.Lists.{all_of, words_from}
use Rattle.signed.specs.Words.{eq_z, num}
use Rattle.answer.specs.declared.Refusal.TheVariants.{FactValue as OutOfRange, FactAbsent}
use Rattle.answer.specs.Answers.{Status}
use Rattle.layout.specs.declared.Header.{Header}
use Rattle.node.specs.FactValues.{FactValue, Single, Listed, no_value, value_in, elements_in}
use Rattle.records.specs.Facts.{is_list, largest_of}
use Rattle.facts.specs.declared.Used.{Used}
use Rattle.facts.specs.Lent.{LentFacts, slots_of, lengths_of, slots_before, lengths_before}
use Rattle.facts.specs.Faults.{in_fact, has_default}
use Rattle.facts.specs.Assembled.{value_taken}

-- fact k is in range: its value, or its elements, of which there are at most so many as it may have
unfoldable pub good_value : List ℤ → ℕ → FactValue → Bool
good_value s k v =
    cond (is_list s k) (leb (length (elements_in v)) (num (largest_of s k)) && all_of (in_fact s k) (elements_in v)) (in_fact s k (value_in v))

-- a value for each fact, in its range
pub record FactsIn (s : List ℤ) (h : Header) (facts : List FactValue) : Type 0 where
  pub long : length facts ≡ h.facts
  pub each : (k : ℕ) → k < h.facts → good_value s k (get_or facts k no_value) ≡ true

-- ---- a sheet without lists

-- the fault of a fact that is no list, lent as x with the given flag g
unfoldable pub plain_fault : List ℤ → ℕ → ℤ → ℤ → Status
plain_fault s k x g =
    elim (eq_z g (pos 0)) [
      | true ↦ elim (has_default s k) [ true ↦ Ok tt | false ↦ Err (FactAbsent k) ]
      | false ↦ elim (eq_z g (pos 1) && in_fact s k x) [ true ↦ Ok tt | false ↦ Err (OutOfRange k) ]
    ]

-- ---- facts as the code holds them: a word for each, of a list one that says where its elements start in the lent slice and how many there are

abbrev pub start_in : ℤ → ℕ
start_in w = num w / 128

abbrev pub count_in : ℤ → ℕ
count_in w = num w % 128

unfoldable pub held_fact : List ℤ → List ℤ → ℕ → ℤ → FactValue
held_fact s lists k w = cond (is_list s k) (Listed (words_from lists (start_in w) (count_in w))) (Single w)

unfoldable pub held : List ℤ → List ℤ → List ℤ → List FactValue
held s facts lists = grown (λ _ k. held_fact s lists k (get_or facts k (pos 0))) no_value (length facts)

-- ---- the lent lists, fact by fact

-- what the facts before k use of the lent lists
pub record UsedBefore (s : List ℤ) (k : ℕ) (u : Used) : Type 0 where
  pub slots : u.slots ≡ slots_before s k
  pub lengths : u.lengths ≡ lengths_before s k

-- the sheet holds fact k, and so many slots can be counted
pub record AtFact (s : List ℤ) (k : ℕ) (u : Used) : Type 0 where
  pub words : 16 + 8 * k + 8 ≤ length s
  pub used : UsedBefore s k u
  pub few : slots_of s k ≤ 100
  pub slots : u.slots ≤ 12800
  pub lengths : u.lengths ≤ 128

-- the lent slices are as long as the facts want them
pub record AllLent (s : List ℤ) (h : Header) (t : LentFacts) : Type 0 where
  pub values : length t.values ≡ h.facts
  pub given : length t.given ≡ h.facts
  pub lists : length t.lists ≡ slots_before s h.facts
  pub lengths : length t.lengths ≡ lengths_before s h.facts

-- they hold what fact k has in each
pub record LentAt (s : List ℤ) (k : ℕ) (t : LentFacts) : Type 0 where
  pub value : k < length t.values
  pub flag : k < length t.given
  pub slots : slots_before s k + slots_of s k ≤ length t.lists
  pub length : lengths_before s k + lengths_of s k ≤ length t.lengths

-- the word that stands for fact k
unfoldable pub held_word : List ℤ → List ℤ → List ℤ → List ℤ → ℕ → ℤ
held_word s values given lengths k =
    cond (is_list s k) (pos (slots_before s k * 128 + num (get_or lengths (lengths_before s k) (pos 0))))
    (value_taken s k (get_or values k (pos 0)) (get_or given k (pos 0)))

-- there is a length for each list, and it is at most the list's largest
pub record LengthsIn (s : List ℤ) (h : Header) (lengths : List ℤ) : Type 0 where
  pub long : length lengths ≡ lengths_before s h.facts
  pub each : (k : ℕ) → k < h.facts → is_list s k ≡ true → num (get_or lengths (lengths_before s k) (pos 0)) ≤ 100
