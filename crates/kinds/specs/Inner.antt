-- What the inner functions ask and answer, and what proofs speak of. The definitions of the other files do not rest on these.
-- Assumes nothing.
use Rattle.std.specs.Prelude.{◌≡◌, Bool, true, false, not, ◌||◌, List, [], ℕ, ◌%◌, ◌≤◌, ◌<◌, ℤ, pos, nat_abs, leb, eqb, get_or, length}
use Rattle.tables.specs.Lists.{all_of, any_of}
use Rattle.signed.specs.Words.{bounded, num}
use Rattle.words.specs.declared.Record.{Record}
use Rattle.item.specs.Units.{converted}
use Rattle.item.specs.Items.{none, span}
use Rattle.node.specs.declared.Given.{Given}
use Rattle.node.specs.FactValues.{FactValue, no_value, value_in, elements_in}
use Rattle.node.specs.Rows.{row_of, is_true}
use Rattle.node.specs.Judged.{seen}

-- the kinds of literals
abbrev pub is_literal : ℕ → Bool
is_literal k = leb k 2 || eqb k 12 || eqb k 13

-- the type of a node of kind number k that has no children, by its words and the type of the fact that they name; Bool where it has
abbrev pub leaf_of : Record ℤ → ℕ → Given
leaf_of w f =
    record { words = w; facts = 0; rules = 0; fact = record { item = span f (pos 0) (pos 0); list = false; most = pos 0 }; x = none; y = none }

abbrev pub leaf_sort : ℕ → Record ℤ → ℕ → ℕ
leaf_sort k w f = ((row_of k).gives (leaf_of w f)).sort

-- the value of such a node at element e with every duration in seconds, as its children's values x and y are
unfoldable pub seconds_from : ℕ → Record ℤ → ℕ → List FactValue → List ℤ → ℤ → ℤ → ℤ → (ℤ → ℤ) → ℤ
seconds_from k w f facts verdicts e x y body = converted (leaf_sort k w f) 261 ((row_of k).value (seen w facts verdicts e x y body))

-- within −86,400 M..86,400 M
pub record Wide (z : ℤ) : Type 0 where
  pub wide : nat_abs z ≤ 86_400_000_000_000

-- the word of the fact that a node names, among the words that the code holds
abbrev pub fact_word : Record ℤ → List ℤ → ℤ
fact_word w words = get_or words (num w.w1) (pos 0)

-- what a node without children asks
pub record Leaf (k : ℕ) (w : Record ℤ) (words : List ℤ) : Type 0 where
  pub none : (row_of k).children w ≡ []
  pub part : is_literal k ≡ true → num w.w2 ≤ 127
  pub fact : k ≡ 3 → bounded (fact_word w words) ≡ true
  pub duration : k ≡ 13 → bounded w.w1 ≡ true

-- the words that the code holds are those of the facts, as far as such a node reads them: a value, or how many elements a list has. f is the
-- fact's type
pub record Reads (k : ℕ) (w : Record ℤ) (words : List ℤ) (facts : List FactValue) (f : ℕ) : Type 0 where
  pub plain : k ≡ 17 → f < 258
  pub value : k ≡ 3 → fact_word w words ≡ value_in (get_or facts (num w.w1) no_value)
  pub count : k ≡ 16 → num (fact_word w words) % 128 ≡ length (elements_in (get_or facts (num w.w1) no_value))

-- what a node with children asks that is no quantifier; it goes by no fact, no verdict and no element
pub record Joint (k : ℕ) (w : Record ℤ) (x y : ℤ) : Type 0 where
  pub some : (row_of k).children w ≡ [] → ⊥
  pub plain : (row_of k).binds w ≡ []
  pub facts : List FactValue
  pub verdicts : List ℤ
  pub element : ℤ
  pub body : ℤ → ℤ
  pub wide : Wide ((row_of k).value (seen w facts verdicts element x y body))

-- ---- quantifiers: 14 "for all", 15 "exists"

abbrev pub is_quantifier : ℕ → Bool
is_quantifier k = eqb k 14 || eqb k 15

-- the test over the elements, of "exists" and of "for all"
unfoldable pub over_of : Bool → (ℤ → Bool) → List ℤ → Bool
over_of true = any_of
over_of false = all_of

-- the body's value x at an element decides it
unfoldable pub settles : Bool → ℤ → Bool
settles true x = is_true x
settles false x = not (is_true x)
