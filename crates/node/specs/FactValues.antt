-- 02, CR 6: what a fact is to a predicate: a value, or the elements of a list.
-- Assumes nothing.
use Rattle.std.specs.Prelude.{ℤ, pos, List, []}

pub data FactValue : Type 0 where
  Single : ℤ → FactValue
  Listed : List ℤ → FactValue

-- where there is no fact
abbrev pub no_value : FactValue
no_value = Single (pos 0)

-- the value; a list has none
abbrev pub value_in : FactValue → ℤ
value_in (Single x) = x
value_in (Listed xs) = pos 0

-- the elements; a single value has none
abbrev pub elements_in : FactValue → List ℤ
elements_in (Single x) = []
elements_in (Listed xs) = xs
