-- The one fact about a kind: where the values of the children lie in their ranges, the node's value lies in its range; and what is of type
-- Bool is 0 or 1.
-- Assumes nothing.
use mathlib.Core.Path.{◌≡◌, refl, subst}
use mathlib.Core.Bool.{Bool, true, false, not, cond, ◌&&◌, ◌||◌}
use mathlib.Core.List.{List, [], ◌∷◌}
use Prim.Native.Nat.{ℕ, zero, suc}
use native.Mathlib.Omega.{arith}
use lib.IntN.{ℤ, pos, neg_ℤ}
use lib.ListN.{get_or, length}
use lib.Dec.{leb, eqb}
use borrow.Author.Tests.{eqb-true}
use Rattle.tables.specs.Lists.{all_of, any_of}
use Rattle.tables.proofs.Bools.{true_false, and_left, and_right, not_flip}
use Rattle.signed.specs.Words.{within, bounded, big, num}
use Rattle.signed.specs.Compare.{holds, can_hold, can_fail}
use Rattle.signed.proofs.Order.{le_refl}
use Rattle.signed.proofs.Bounds.{In, in_true, in_plus, in_minus, in_min, in_max}
use Rattle.signed.proofs.Pairs.{hold_in, fail_in}
use Rattle.item.specs.declared.Item.{Item}
use Rattle.item.specs.Sorts.{is_number}
use Rattle.item.specs.Units.{converted}
use Rattle.item.specs.Items.{compared, align}
use Rattle.item.proofs.Units.{shared_bool, converted_stays, align_in}
use Rattle.item.proofs.Products.{multiple_in, multiple_sort}
use Rattle.node.specs.declared.Given.{Given}
use Rattle.node.specs.FactValues.{FactValue, no_value, value_in, elements_in}
use Rattle.node.specs.Judged.{seen}
use Rattle.node.specs.Rows.{Row, names_fact, names_list, quantifier, for_all, exists, list_length, list_element, bit, is_true, literal, numbers, bools, int_literal, bool_literal, enum_literal, fact_named, sums, differences, product, comparison, present, conjunction, disjunction, negated, money_literal, duration_literal, unknown, row_of}
use Rattle.node.proofs.Truth.{IsBool, bit_bool, both_min, either_max, negate_minus}

-- the value v is one of x's range and type
pub record Of (x : Item) (v : ℤ) : Type 0 where
  pub inside : In x.low v x.high
  pub bool : x.sort ≡ 0 → IsBool v

-- what is converted stays of its type and range
pub align_of : (x y : Item) (v : ℤ) → Of x v → Of (align x y) (converted x.sort y.sort v)
unfolding align
align_of x y v o =
    record {
      inside = align_in x y v o.inside;
      bool = λ z.
          let b = shared_bool x.sort y.sort z in
          rw (converted_stays x.sort y.sort v (rw b)) (o.bool b);
    }

-- the facts, the verdicts and the children's values are of the types and ranges that the node is given; so is the element, where the row cites
-- one. A quantifier's child is asked for at the list's elements alone, and what it is elsewhere is not known
pub record Known (r : Row) (g : Given) (facts : List FactValue) (verdicts : List ℤ) (e v w : ℤ) : Type 0 where
  pub fact : names_fact g ≡ true → g.fact.list ≡ false → Of g.fact.item (value_in (get_or facts (num g.words.w1) no_value))
  pub count : names_list g ≡ true → In (pos 0) (pos (length (elements_in (get_or facts (num g.words.w1) no_value)))) g.fact.most
  pub verdict : IsBool (get_or verdicts (num g.words.w1) (pos 0))
  pub element : names_list g ≡ true → r.elements g.words ≡ (num g.words.w1 ∷ []) → Of g.fact.item e
  pub x : r.binds g.words ≡ [] → Of g.x v
  pub y : r.binds g.words ≡ [] → Of g.y w

-- the fact, of a row
abbrev pub Lawful : Row → Type 0
Lawful r =
    (g : Given) (facts : List FactValue) (verdicts : List ℤ) (e x y : ℤ) (body : ℤ → ℤ) → Known r g facts verdicts e x y → r.takes g ≡ true
    → Of (r.gives g) (r.value (seen g.words facts verdicts e x y body))

point : (v : ℤ) → In v v v
point v = record { low = le_refl v; high = le_refl v }

compared_in : (op : ℕ) (f g : Item) (x y : ℤ) → In f.low x f.high → In g.low y g.high
    → In (compared op f g).low (bit (holds op x y)) (compared op f g).high
compared_in op f g x y i j = go (holds op x y) refl
  where
    low : (t : Bool) → In (cond t (pos 0) (pos 1)) (pos 1) (pos 1)
    low true = omega arith
    low false = omega arith

    high : (t : Bool) → In (pos 0) (pos 0) (cond t (pos 1) (pos 0))
    high true = omega arith
    high false = omega arith

    go : (t : Bool) → holds op x y ≡ t
        → In (cond (can_fail op f.low f.high g.low g.high) (pos 0) (pos 1)) (bit t)
        (cond (can_hold op f.low f.high g.low g.high) (pos 1) (pos 0))
    go true e = rw (hold_in op i j e) (low (can_fail op f.low f.high g.low g.high))
    go false e = rw (fail_in op i j e) (high (can_hold op f.low f.high g.low g.high))

-- a number is no Bool
number_pair : (x y : Item) → numbers x y ≡ true → x.sort ≡ 0 → ⊥
number_pair x y e z =
    true_false (subst (λ (t : ℕ). is_number t ≡ true) z (and_right (eqb x.sort y.sort) (is_number x.sort) e)) refl

-- two children of type Bool
bool_pair : (x y : Item) (v w : ℤ) → bools x y ≡ true → Of x v → Of y w → IsBool v × IsBool w
bool_pair x y v w e p q = (
  p.bool (eqb-true x.sort 0 (and_left (eqb x.sort 0) (eqb y.sort 0) e)),
  q.bool (eqb-true y.sort 0 (and_right (eqb x.sort 0) (eqb y.sort 0) e)),
)

-- ---- the rows

literal_lawful : (n : ℕ) (l h : ℤ) (t m : ℕ) → (t ≡ 0 → (l ≡ pos 0) × (h ≡ pos 1)) → Lawful (literal n l h t m)
literal_lawful n l h t m b g f w i x y d k e =
    let v = g.words.w1 in
    record {
      inside = point v;
      bool = λ z.
          let q = b (omega arith) in
          rw (q.0, q.1) at (in_true l v h (and_right (leb (num g.words.w2) m) (within l v h) e));
    }

fact_lawful : Lawful fact_named
fact_lawful g f w i x y d k e = k.fact (and_left (names_fact g) (not g.fact.list) e) (not_flip _ (and_right (names_fact g) (not g.fact.list) e))

sums_lawful : Lawful sums
sums_lawful g f w i x y d k e = record { inside = in_plus (k.x refl).inside (k.y refl).inside; bool = λ z. absurd (number_pair g.x g.y e z) }

differences_lawful : Lawful differences
differences_lawful g f w i x y d k e = record { inside = in_minus (k.x refl).inside (k.y refl).inside; bool = λ z. absurd (number_pair g.x g.y e z) }

product_lawful : Lawful product
product_lawful g f w i x y d k e =
    let n = g.words.w2 in
    record {
      inside = multiple_in n g.x x (k.x refl).inside;
      bool = λ z. absurd (omega (arith, multiple_sort n g.x, eqb-true g.x.sort 1 (and_right (bounded n) (eqb g.x.sort 1) e)));
    }

comparison_lawful : Lawful comparison
comparison_lawful g f w i x y d k e =
    let op = num g.words.w1 in
    record { inside = compared_in op g.x g.y x y (k.x refl).inside (k.y refl).inside; bool = λ z. bit_bool (holds op x y) }

present_lawful : Lawful present
present_lawful g f w i x y d k e = record { inside = k.verdict; bool = λ z. k.verdict }

conjunction_lawful : Lawful conjunction
conjunction_lawful g f w i x y d k e =
    let q = bool_pair g.x g.y x y e (k.x refl) (k.y refl) in
    record { inside = rw (both_min x y q.0 q.1) (in_min (k.x refl).inside (k.y refl).inside); bool = λ z. bit_bool (is_true x && is_true y) }

disjunction_lawful : Lawful disjunction
disjunction_lawful g f w i x y d k e =
    let q = bool_pair g.x g.y x y e (k.x refl) (k.y refl) in
    record { inside = rw (either_max x y q.0 q.1) (in_max (k.x refl).inside (k.y refl).inside); bool = λ z. bit_bool (is_true x || is_true y) }

negated_lawful : Lawful negated
negated_lawful g f w i x y d k e =
    record {
      inside = rw (negate_minus x ((k.x refl).bool (eqb-true _ _ e))) (in_minus (point (pos 1)) (k.x refl).inside);
      bool = λ z. bit_bool (not (is_true x));
    }

quantifier_lawful : (over : (ℤ → Bool) → List ℤ → Bool) → Lawful (quantifier over)
quantifier_lawful over g f w i x y d k e =
    let t = over (λ (z : ℤ). is_true (d z)) (elements_in (get_or f (num g.words.w1) no_value)) in
    record { inside = bit_bool t; bool = λ z. bit_bool t }

length_lawful : Lawful list_length
length_lawful g f w i x y d k e = record { inside = k.count e; bool = λ z. absurd (omega arith) }

element_lawful : Lawful list_element
element_lawful g f w i x y d k e = k.element e refl

unknown_lawful : Lawful unknown
unknown_lawful g f w i x y d k e = absurd (true_false e refl)

-- ---- every row

record Proved : Type 0 where
  row : Row
  law : Lawful row

abbrev by : (r : Row) → Lawful r → Proved
by r h = record { row = r; law = h }

abbrev rows_of : List Proved → List Row
rows_of [] = []
rows_of (p ∷ ps) = p.row ∷ rows_of ps

lawful_at : (ps : List Proved) (k : ℕ) → Lawful (get_or (rows_of ps) k unknown)
lawful_at [] k = unknown_lawful
lawful_at (p ∷ ps) zero = p.law
lawful_at (p ∷ ps) (suc k) = lawful_at ps k

-- the rows, in order
abbrev table : List Proved
table =
    by int_literal (literal_lawful 2 (neg_ℤ (pos big)) (pos big) 1 0 (λ z. absurd (omega arith)))
    ∷ by bool_literal (literal_lawful 2 (pos 0) (pos 1) 0 0 (λ z. (refl, refl)))
    ∷ by enum_literal (literal_lawful 3 (pos 0) (pos 255) 2 127 (λ z. absurd (omega arith)))
    ∷ by fact_named fact_lawful
    ∷ by sums sums_lawful
    ∷ by differences differences_lawful
    ∷ by product product_lawful
    ∷ by comparison comparison_lawful
    ∷ by present present_lawful
    ∷ by conjunction conjunction_lawful
    ∷ by disjunction disjunction_lawful
    ∷ by negated negated_lawful
    ∷ by money_literal (literal_lawful 3 (neg_ℤ (pos big)) (pos big) 130 127 (λ z. absurd (omega arith)))
    ∷ by duration_literal (literal_lawful 3 (neg_ℤ (pos big)) (pos big) 258 3 (λ z. absurd (omega arith)))
    ∷ by for_all (quantifier_lawful all_of)
    ∷ by exists (quantifier_lawful any_of)
    ∷ by list_length length_lawful
    ∷ by list_element element_lawful
    ∷ []

pub lawful : (k : ℕ) → Lawful (row_of k)
unfolding row_of
lawful k = lawful_at table k
