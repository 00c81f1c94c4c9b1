-- 01, "Facts", and 02, CR 6: what a caller lends of facts. "Lists are lent as one slice, in fact order, each list taking its declared largest in
-- slots, with a length per list".
-- Assumes nothing.
use Rattle.std.specs.Prelude.{ℕ, ℤ, pos, cond, List, get_or}
use Rattle.tables.specs.Scan.{sum_below}
use Rattle.tables.specs.Lists.{words_from}
use Rattle.signed.specs.Words.{num}
use Rattle.records.specs.Facts.{is_list, largest_of}

pub record LentFacts : Type 0 where
  pub values : List ℤ
  pub given : List ℤ
  pub lists : List ℤ
  pub lengths : List ℤ

abbrev pub lent : List ℤ → List ℤ → List ℤ → List ℤ → LentFacts
lent values given lists lengths = record { values = values; given = given; lists = lists; lengths = lengths }

-- how many slots fact k takes, and how many lengths: none where it is no list
unfoldable pub slots_of : List ℤ → ℕ → ℕ
slots_of s k = cond (is_list s k) (num (largest_of s k)) 0

unfoldable pub lengths_of : List ℤ → ℕ → ℕ
lengths_of s k = cond (is_list s k) 1 0

-- those of the first n facts: where the slots of fact n start, and where its length stands
abbrev pub slots_before : List ℤ → ℕ → ℕ
slots_before s n = sum_below (slots_of s) n

abbrev pub lengths_before : List ℤ → ℕ → ℕ
lengths_before s n = sum_below (lengths_of s) n

-- the length lent of list k, and its elements: the slots within that length
abbrev pub length_lent : List ℤ → LentFacts → ℕ → ℤ
length_lent s t k = get_or t.lengths (lengths_before s k) (pos 0)

abbrev pub elements_lent : List ℤ → LentFacts → ℕ → List ℤ
elements_lent s t k = words_from t.lists (slots_before s k) (num (length_lent s t k))
