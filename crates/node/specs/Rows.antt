-- 01, "Node", "Types" and "Every node has a value range", and 02, CR 4 and CR 6: one row for each kind. Two durations come to a row in one unit.
-- Assumes nothing.
use Rattle.std.specs.Prelude.{ℕ, ◌+◌, ℤ, pos, neg_ℤ, ◌+ℤ◌, ◌-ℤ◌, ◌*ℤ◌, Bool, true, false, not, ◌&&◌, ◌||◌, List, [], ◌∷◌, get_or, length, leb, ltb, eqb}
use Rattle.tables.specs.Lists.{all_of, any_of}
use Rattle.signed.specs.Words.{eq_z, within, bounded, big, num}
use Rattle.signed.specs.Compare.{holds}
use Rattle.words.specs.declared.Record.{Record}
use Rattle.words.specs.Record.{numbers_of, unused}
use Rattle.item.specs.declared.Item.{Item}
use Rattle.item.specs.Sorts.{is_number}
use Rattle.item.specs.Items.{span, none, small, sum, difference, multiple, compared, both, either, negation}
use Rattle.node.specs.declared.Given.{Given}
use Rattle.node.specs.FactValues.{FactValue, no_value, value_in, elements_in}

-- what a node's value is worked out from: its words, the facts, the verdicts, the element at which it is asked for, and the converted values of
-- its children there, 0 where there is none; of the first child also its value at any element
pub record Seen : Type 0 where
  pub words : Record ℤ
  pub facts : List FactValue
  pub verdicts : List ℤ
  pub element : ℤ
  pub x : ℤ
  pub y : ℤ
  pub body : ℤ → ℤ

pub record Row : Type 0 where
  pub used : ℕ  -- how many words it has; the others are 0
  pub children : Record ℤ → List ℕ  -- the nodes that it names
  pub cites : Record ℤ → List ℕ  -- the rules that it cites
  pub elements : Record ℤ → List ℕ  -- the lists whose element it cites
  pub binds : Record ℤ → List ℕ  -- the list that it is a quantifier over
  pub takes : Given → Bool  -- its words are in their ranges, what it names exists, its children are of the types that it takes
  pub gives : Given → Item  -- its type and value range
  pub decides : ℤ → Bool  -- the first child's value is the node's, whatever the second is
  pub value : Seen → ℤ  -- a Bool is 1 where it is true, else 0

abbrev pub bit : Bool → ℤ
bit true = pos 1
bit false = pos 0

abbrev pub is_true : ℤ → Bool
is_true x = eq_z x (pos 1)

-- ---- makers of rows

-- a node without children
abbrev pub leaf : ℕ → (Record ℤ → List ℕ) → (Given → Bool) → (Given → Item) → (Seen → ℤ) → Row
leaf used cites takes gives value =
    record {
      used = used;
      children = λ w. [];
      cites = cites;
      elements = λ w. [];
      binds = λ w. [];
      takes = takes;
      gives = gives;
      decides = λ x. false;
      value = value;
    }

-- a literal: a value in l..h, of type t + the number in word 2, which is at most m
abbrev pub literal : ℕ → ℤ → ℤ → ℕ → ℕ → Row
literal used l h t m =
    leaf used (λ w. []) (λ g. leb (num g.words.w2) m && within l g.words.w1 h) (λ g. span (t + num g.words.w2) g.words.w1 g.words.w1)
    (λ s. s.words.w1)

-- a node whose child is in word 1
abbrev pub single : ℕ → (Given → Bool) → (Given → Item) → (Seen → ℤ) → Row
single used takes gives value =
    record {
      used = used;
      children = λ w. num w.w1 ∷ [];
      cites = λ w. [];
      elements = λ w. [];
      binds = λ w. [];
      takes = takes;
      gives = gives;
      decides = λ x. false;
      value = value;
    }

-- a node whose children are in words 1 and 2
abbrev pub pair : (Item → Item → Bool) → (Item → Item → Item) → (ℤ → Bool) → (ℤ → ℤ → ℤ) → Row
pair takes gives decides value =
    record {
      used = 3;
      children = λ w. num w.w1 ∷ num w.w2 ∷ [];
      cites = λ w. [];
      elements = λ w. [];
      binds = λ w. [];
      takes = λ g. takes g.x g.y;
      gives = λ g. gives g.x g.y;
      decides = decides;
      value = λ s. value s.x s.y;
    }

-- ---- the types that are taken

-- two numbers of one type: Int, Money of one currency, Durations
abbrev pub numbers : Item → Item → Bool
numbers x y = eqb x.sort y.sort && is_number x.sort

abbrev pub bools : Item → Item → Bool
bools x y = eqb x.sort 0 && eqb y.sort 0

-- the six operators: = and ≠ take two of one type, < ≤ > ≥ two numbers of one type
abbrev pub comparable : ℕ → Item → Item → Bool
comparable op x y = leb op 5 && eqb x.sort y.sort && (ltb op 2 || is_number x.sort)

-- ---- the fact in word 1

-- there is such a fact
abbrev pub names_fact : Given → Bool
names_fact g = ltb (num g.words.w1) g.facts

-- 02, CR 6: "the fact is a list"
abbrev pub names_list : Given → Bool
names_list g = names_fact g && g.fact.list

abbrev pub fact_seen : Seen → FactValue
fact_seen s = get_or s.facts (num s.words.w1) no_value

-- 02, CR 6: a quantifier over the list in word 1, its body in word 2: the test of the body over the list's elements. Its range is 0..1
abbrev pub quantifier : ((ℤ → Bool) → List ℤ → Bool) → Row
quantifier over =
    record {
      used = 3;
      children = λ w. num w.w2 ∷ [];
      cites = λ w. [];
      elements = λ w. [];
      binds = λ w. num w.w1 ∷ [];
      takes = λ g. names_list g && eqb g.x.sort 0;
      gives = λ g. span 0 (pos 0) (pos 1);
      decides = λ x. false;
      value = λ s. bit (over (λ e. is_true (s.body e)) (elements_in (fact_seen s)));
    }

-- ---- the rows

-- 0 Int literal v (−M..M)
abbrev pub int_literal : Row
int_literal = literal 2 (neg_ℤ (pos big)) (pos big) 1 0

-- 1 Bool literal (0/1)
abbrev pub bool_literal : Row
bool_literal = literal 2 (pos 0) (pos 1) 0 0

-- 2 Enum literal v (0..255), set (0..127)
abbrev pub enum_literal : Row
enum_literal = literal 3 (pos 0) (pos 255) 2 127

-- 3 fact: its type is the fact's, its range min..max; 02: "no kind 3 names" a list
abbrev pub fact_named : Row
fact_named = leaf 2 (λ w. []) (λ g. names_fact g && not g.fact.list) (λ g. g.fact.item) (λ s. value_in (fact_seen s))

-- 4 sum of two nodes
abbrev pub sums : Row
sums = pair numbers sum (λ x. false) (λ x y. x +ℤ y)

-- 5 difference
abbrev pub differences : Row
differences = pair numbers difference (λ x. false) (λ x y. x -ℤ y)

-- 6 product: a node, a literal −M..M; it takes Int alone
abbrev pub product : Row
product =
    single 3 (λ g. bounded g.words.w2 && eqb g.x.sort 1) (λ g. multiple g.words.w2 g.x) (λ s. s.x *ℤ s.words.w2)

-- 7 comparison: operator, two nodes
abbrev pub comparison : Row
comparison =
    record {
      used = 4;
      children = λ w. num w.w2 ∷ num w.w3 ∷ [];
      cites = λ w. [];
      elements = λ w. [];
      binds = λ w. [];
      takes = λ g. comparable (num g.words.w1) g.x g.y;
      gives = λ g. compared (num g.words.w1) g.x g.y;
      decides = λ x. false;
      value = λ s. bit (holds (num s.words.w1) s.x s.y);
    }

-- 8 verdict present: a rule; its range is 0..1
abbrev pub present : Row
present =
    leaf 2 (λ w. num w.w1 ∷ []) (λ g. ltb (num g.words.w1) g.rules) (λ g. span 0 (pos 0) (pos 1)) (λ s. get_or s.verdicts (num s.words.w1) (pos 0))

-- 9 and, 10 or: two nodes; "both connectives have their ordinary meaning"
abbrev pub conjunction : Row
conjunction = pair bools both (λ x. eq_z x (pos 0)) (λ x y. bit (is_true x && is_true y))

abbrev pub disjunction : Row
disjunction = pair bools either is_true (λ x y. bit (is_true x || is_true y))

-- 11 not: one node
abbrev pub negated : Row
negated = single 2 (λ g. eqb g.x.sort 0) (λ g. negation g.x) (λ s. bit (not (is_true s.x)))

-- 12 Money literal v (−M..M), currency (0..127)
abbrev pub money_literal : Row
money_literal = literal 3 (neg_ℤ (pos big)) (pos big) 130 127

-- 13 Duration literal v (−M..M), unit (0..3)
abbrev pub duration_literal : Row
duration_literal = literal 3 (neg_ℤ (pos big)) (pos big) 258 3

-- 14 "for all": true of an empty list
abbrev pub for_all : Row
for_all = quantifier all_of

-- 15 "exists": false of an empty list
abbrev pub exists : Row
exists = quantifier any_of

-- 16 the list's length, an Int of range 0..largest
abbrev pub list_length : Row
list_length =
    leaf 2 (λ w. []) names_list (λ g. span 1 (pos 0) g.fact.most) (λ s. pos (length (elements_in (fact_seen s))))

-- 17 the list's element in a body: of the elements' type, its range min..max
abbrev pub list_element : Row
list_element =
    record {
      used = 2;
      children = λ w. [];
      cites = λ w. [];
      elements = λ w. num w.w1 ∷ [];
      binds = λ w. [];
      takes = names_list;
      gives = λ g. g.fact.item;
      decides = λ x. false;
      value = λ s. s.element;
    }

-- "a kind not listed makes its record bad"
abbrev pub unknown : Row
unknown = leaf 0 (λ w. []) (λ g. false) (λ g. none) (λ s. pos 0)

-- the kinds 0 to 17, in order
abbrev pub rows : List Row
rows =
    int_literal ∷ bool_literal ∷ enum_literal ∷ fact_named ∷ sums ∷ differences ∷ product ∷ comparison ∷ present ∷ conjunction ∷ disjunction ∷ negated
    ∷ money_literal ∷ duration_literal ∷ for_all ∷ exists ∷ list_length ∷ list_element ∷ []

unfoldable pub row_of : ℕ → Row
row_of k = get_or rows k unknown

-- the node is as its row wants it: unused words are 0, its row takes what it is given, and its range stays within −M..M
unfoldable pub fits : Row → Given → Bool
fits r g = unused r.used (numbers_of g.words) && r.takes g && small (r.gives g)

-- 02, CR 4: "the −M..M test applies .. to each converted range"
unfoldable pub converts : Given → Bool
converts g = small g.x && small g.y
