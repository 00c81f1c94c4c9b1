-- 01, "Fact": type (0 Bool, 1 Int, 2 Enum, and 02's 3 Money, 4 Duration, 5 list), min, max, has default (0/1), default, value set (currency,
-- unit); of a list also element type and largest length.
-- Assumes nothing.
use Rattle.std.specs.Prelude.{ℕ, ℤ, pos, Bool, not, cond, ◌&&◌, ◌||◌, List, leb, eqb}
use Rattle.tables.specs.Scan.{all_below}
use Rattle.signed.specs.Words.{eq_z, within}
use Rattle.words.specs.Record.{word, number, unused}
use Rattle.layout.specs.Tables.{fact}
use Rattle.item.specs.declared.Item.{Item}
use Rattle.item.specs.Items.{span}
use Rattle.node.specs.declared.Named.{Named}
use Rattle.node.specs.FactTypes.{FactType, fact_type_of}

-- 02, CR 6: fact k is a list
abbrev pub is_list : List ℤ → ℕ → Bool
is_list s k = eqb (number s k 0) 5

-- the type of its values: of a list that of its elements, so that "min, max and set [are] as for that type"
abbrev pub value_type : List ℤ → ℕ → ℕ
value_type s k = cond (is_list s k) (number s k 6) (number s k 0)

-- the words of fact k
abbrev pub type_row : List ℤ → ℕ → FactType
type_row s k = fact_type_of (value_type s k)

abbrev pub min_of : List ℤ → ℕ → ℤ
min_of s k = word s k 1

abbrev pub max_of : List ℤ → ℕ → ℤ
max_of s k = word s k 2

abbrev pub default_flag : List ℤ → ℕ → ℕ
default_flag s k = number s k 3

abbrev pub default_of : List ℤ → ℕ → ℤ
default_of s k = word s k 4

abbrev pub set_of : List ℤ → ℕ → ℕ
set_of s k = number s k 5

-- the largest length of a list; the word is 0 where the fact is none
abbrev pub largest_of : List ℤ → ℕ → ℤ
largest_of s k = word s k 7

-- the type of its values, and that with their range, min..max
abbrev pub fact_sort : List ℤ → ℕ → ℕ
fact_sort s k = (type_row s k).sort (set_of s k)

abbrev pub fact_item : List ℤ → ℕ → Item
fact_item s k = span (fact_sort s k) (min_of s k) (max_of s k)

-- what a node that names it is told
abbrev pub fact_of : List ℤ → ℕ → Named
fact_of s k = record { item = fact_item s k; list = is_list s k; most = largest_of s k }

-- a default lies in min..max; without one the word is 0
unfoldable pub good_default : ℕ → ℤ → ℤ → ℤ → Bool
good_default flag min max default = cond (eqb flag 0) (eq_z default (pos 0)) (eqb flag 1 && within min default max)

-- the words past the set: "two more words: element type, largest length 0..100", and a list has no default
unfoldable pub good_tail : List ℤ → ℕ → Bool
good_tail s k =
    cond (is_list s k) (eqb (default_flag s k) 0 && leb (number s k 6) 2 && leb (number s k 7) 100) (unused 6 (fact s k))

-- Enum facts of one set have one max, lists of Enums among them
abbrev pub is_enum : List ℤ → ℕ → Bool
is_enum s k = eqb (value_type s k) 2

unfoldable pub agree : List ℤ → ℕ → ℕ → Bool
agree s j k = not (is_enum s j && is_enum s k && eqb (set_of s j) (set_of s k)) || eq_z (max_of s j) (max_of s k)

unfoldable pub good_fact : List ℤ → ℕ → Bool
good_fact s k =
    (type_row s k).bounds (min_of s k) (max_of s k)
    && (type_row s k).takes_set (set_of s k)
    && good_default (default_flag s k) (min_of s k) (max_of s k) (default_of s k)
    && good_tail s k
    && all_below (λ j. agree s j k) k
