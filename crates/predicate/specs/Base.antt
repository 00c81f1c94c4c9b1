-- What the work on a tree asks where it has `base`, the record of the first node, in place of the header: the header is the sheet's own.
-- Assumes nothing.
use Rattle.std.specs.Prelude.{◌≡◌, true, ℕ, ◌+◌, ◌*◌, ◌^◌, ◌≤◌, ◌<◌, ℤ, pos, eqb, length, get_or, List}
use Rattle.tables.specs.Lists.{words_from}
use Rattle.signed.specs.Words.{num}
use Rattle.words.specs.Record.{words_at}
use Rattle.layout.specs.Header.{header_of, first_node}
use Rattle.item.specs.declared.Item.{Item}
use Rattle.item.specs.Items.{align}
use Rattle.item.specs.Inner.{Small}
use Rattle.node.specs.declared.Given.{Given}
use Rattle.node.specs.FactValues.{FactValue}
use Rattle.node.specs.Rows.{bit, is_true}
use Rattle.node.specs.Judged.{SmallKids}
use Rattle.records.specs.Nodes.{named_fact}
use Rattle.records.specs.Accepted.{Accepted}
use Rattle.facts.specs.Inner.{start_in, count_in, held}
use Rattle.kinds.specs.Inner.{seconds_from, fact_word, Leaf, Reads, Joint, over_of}
use Rattle.tree.specs.Inner.{row_at}
use Rattle.predicate.specs.declared.Elements.{Elements}
use Rattle.predicate.specs.Units.{seconds_of}
use Rattle.predicate.specs.Inner.{Supplied}

-- what the value of the node in record k at element e comes to, each duration in seconds, its children's values being x and y; there are `facts`
-- facts
abbrev pub seconds_at : List ℤ → ℕ → ℕ → List FactValue → List ℤ → ℤ → ℤ → ℤ → (ℤ → ℤ) → ℤ
seconds_at s facts k =
    seconds_from (num (words_at s k).w0) (words_at s k) (named_fact s facts (num (words_at s k).w1)).item.sort

abbrev pub IsLeafAt : List ℤ → ℕ → List ℤ → Type 0
IsLeafAt s k = Leaf (num (words_at s k).w0) (words_at s k)

abbrev pub ReadsAt : List ℤ → ℕ → ℕ → List ℤ → List FactValue → Type 0
ReadsAt s facts k words held =
    Reads (num (words_at s k).w0) (words_at s k) words held (named_fact s facts (num (words_at s k).w1)).item.sort

abbrev pub IsJointAt : List ℤ → ℕ → ℤ → ℤ → Type 0
IsJointAt s k = Joint (num (words_at s k).w0) (words_at s k)

-- what the range of the node in record k is worked out from, its children's being x and y
abbrev pub given_at : List ℤ → ℕ → ℕ → ℕ → Item → Item → Given
given_at s facts rules k x y =
    record {
      words = words_at s k;
      facts = facts;
      rules = rules;
      fact = named_fact s facts (num (words_at s k).w1);
      x = align x y;
      y = align y x;
    }

-- what its arithmetic asks
pub record Rangeable (s : List ℤ) (base rules k : ℕ) (x y : Item) : Type 0 where
  pub first : Small x
  pub second : Small y
  pub kids : SmallKids (given_at s base rules k x y)
  pub takes : (row_at s k).takes (given_at s base rules k x y) ≡ true

-- there is a node n, and it can be evaluated at element e, over the facts that the words and lists hold
pub record EvaluableAt (s : List ℤ) (base : ℕ) (words lists verdicts : List ℤ) (n : ℕ) (e : ℤ) : Type 0 where
  pub first : base ≡ first_node (header_of s)
  pub over : Supplied s (header_of s) (held s words lists) verdicts n e

-- ---- a quantifier in record k, with the words that the code holds and the lent lists

-- where the elements of its list start, and how many there are
abbrev pub sweep_first : List ℤ → ℕ → List ℤ → ℕ
sweep_first s k words = start_in (fact_word (words_at s k) words)

abbrev pub sweep_count : List ℤ → ℕ → List ℤ → ℕ
sweep_count s k words = count_in (fact_word (words_at s k) words)

-- the same, as the code reads it, with whether the quantifier is "exists"
pub record Ranges (s : List ℤ) (k : ℕ) (words : List ℤ) (r : Elements) : Type 0 where
  pub exists : r.exists ≡ eqb (num (words_at s k).w0) 15
  pub first : r.first ≡ sweep_first s k words
  pub count : r.count ≡ sweep_count s k words
  pub small : r.first < 2 ^ 57

-- its body, node b, can be evaluated at each of them
pub record SweepAt (s : List ℤ) (base k : ℕ) (words lists verdicts : List ℤ) (b : ℕ) : Type 0 where
  pub within : 16 + 8 * k + 8 ≤ length s
  pub each : (j : ℕ) → j < sweep_count s k words → EvaluableAt s base words lists verdicts b (get_or lists (sweep_first s k words + j) (pos 0))

-- what it comes to
abbrev pub swept : List ℤ → ℕ → List ℤ → List ℤ → List ℤ → ℕ → ℤ
swept s k words lists verdicts b =
    bit (over_of (eqb (num (words_at s k).w0) 15) (λ z. is_true (seconds_of s (header_of s) (held s words lists) verdicts b z))
    (words_from lists (sweep_first s k words) (sweep_count s k words)))

-- and its range can be worked out
pub record RangeAt (s : List ℤ) (base rules n : ℕ) : Type 0 where
  pub first : base ≡ first_node (header_of s)
  pub cited : rules ≡ (header_of s).rules
  pub accepted : Accepted s (header_of s)
  pub exists : n < (header_of s).nodes
