-- 01, "Facts", and 02, CR 6: a given value in range is taken; else the default. A list is taken with its elements.
-- Assumes nothing.
use Rattle.std.specs.Prelude.{ℕ, ℤ, pos, cond, List, get_or}
use Rattle.signed.specs.Words.{eq_z}
use Rattle.words.specs.Record.{word}
use Rattle.tables.specs.Table.{grown}
use Rattle.layout.specs.declared.Header.{Header}
use Rattle.node.specs.FactValues.{FactValue, Single, Listed, no_value}
use Rattle.records.specs.Facts.{is_list}
use Rattle.facts.specs.Lent.{LentFacts, elements_lent}

-- fact k lent as x: its default where it is not given, that is where the flag g is 0, else x
unfoldable pub value_taken : List ℤ → ℕ → ℤ → ℤ → ℤ
value_taken s k x g = cond (eq_z g (pos 0)) (word s k 4) x

-- what fact assembly leaves in the lent values; a list is given, so its word stays
unfoldable pub assembled_values : List ℤ → Header → List ℤ → List ℤ → List ℤ
assembled_values s h values given = grown (λ _ k. value_taken s k (get_or values k (pos 0)) (get_or given k (pos 0))) (pos 0) h.facts

-- fact k as calls see it
unfoldable pub fact_taken : List ℤ → LentFacts → ℕ → FactValue
fact_taken s t k =
    cond (is_list s k) (Listed (elements_lent s t k)) (Single (value_taken s k (get_or t.values k (pos 0)) (get_or t.given k (pos 0))))

-- the facts as calls see them
unfoldable pub assembled : List ℤ → Header → LentFacts → List FactValue
assembled s h t = grown (λ _ k. fact_taken s t k) no_value h.facts
