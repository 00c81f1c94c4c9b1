-- No node's value range is empty, and a comparison's range goes by the pairs of values from the ranges of its children.
-- Assumes nothing.
use mathlib.Core.Path.{◌≡◌, refl, sym, ap, subst, ◌∙◌}
use mathlib.Core.Bool.{Bool, true, false, cond, false≢true}
use mathlib.Core.List.{List, [], ◌∷◌}
use mathlib.Core.Logic.Iff
use mathlib.Core.Logic.{◌↔◌}
use Prim.Native.Nat.{ℕ, ◌+◌, ◌<◌}
use lib.IntN.{ℤ, pos}
use lib.Dec.{ltb}
use lib.ListN.{get_or, length}
use borrow.Author.Tests.{ltb-true}
use native.Mathlib.Omega.{arith}
use Rattle.tables.specs.Table.{grown, entry}
use Rattle.tables.specs.Lists.{pick}
use Rattle.tables.proofs.Lists.{Before, pick_all}
use Rattle.tables.proofs.Bools.{and_left, and_right}
use Rattle.tables.proofs.Grown.{grown_at, strong}
use Rattle.signed.specs.Compare.{can_hold, can_fail}
use Rattle.signed.specs.Inner.{Pair}
use Rattle.signed.proofs.Parts.{Le}
use Rattle.signed.proofs.Order.{le_refl}
use Rattle.signed.proofs.Bounds.{In}
use Rattle.signed.proofs.Numbers.{num_is, num_in}
use Rattle.signed.proofs.Pairs.{can_hold_lem, can_fail_lem}
use Rattle.signed.specs.Words.{num, bounded, within}
use Rattle.layout.specs.declared.Header.{Header}
use Rattle.layout.specs.Header.{header_of, first_node}
use Rattle.item.specs.declared.Item.{Item}
use Rattle.item.specs.Items.{none, span, align, compared}
use Rattle.item.proofs.Units.{align_order}
use Rattle.item.specs.Inner.{Small}
use Rattle.node.specs.declared.Given.{Given}
use Rattle.node.specs.FactValues.{FactValue, Single, Listed, no_value, value_in, elements_in}
use Rattle.node.specs.Rows.{Row, names_fact, comparison, row_of}
use Rattle.node.specs.Judged.{SmallKids}
use Rattle.node.proofs.Lawful.{Of, Known, align_of, lawful}
use Rattle.records.specs.Accepted.{Accepted}
use Rattle.records.specs.Facts.{is_list, min_of, largest_of, fact_item}
use Rattle.records.specs.Nodes.{node_words, node_row, children_of, named_fact, child_item, given_of, item_of}
use Rattle.records.proofs.FactLaws.{fact_ok}
use Rattle.records.proofs.NodeLaws.{NodeOk, node_ok}
use Rattle.tree.specs.Inner.{row_at, children_at, BaseOf}
use Rattle.predicate.specs.Base.{given_at, Rangeable, RangeAt}
use Rattle.tree.proofs.TreeLaws.{named}
use Rattle.predicate.proofs.BaseLaws.{ranged}
use Rattle.predicate.proofs.ValueLaws.{Within, none_of}

-- a "pair of values from the two ranges", whose comparison comes to t
abbrev pub PairIn : ℕ → Bool → Item → Item → Type 0
PairIn op t x y = Pair op t x.low x.high y.low y.high

-- a range from two tests: whether it includes 0, and whether it includes 1
abbrev tested : Bool → Bool → Item
tested f t = span 0 (cond f (pos 0) (pos 1)) (cond t (pos 1) (pos 0))

has_one : (f t : Bool) → Within (tested f t) (pos 1) ↔ (t ≡ true)
has_one true true = (λ _. refl, λ _. omega arith)
has_one false true = (λ _. refl, λ _. omega arith)
has_one f false = (λ i. absurd (omega arith), λ e. absurd (false≢true e))

has_zero : (f t : Bool) → Within (tested f t) (pos 0) ↔ (f ≡ true)
has_zero true true = (λ _. refl, λ _. omega arith)
has_zero true false = (λ _. refl, λ _. omega arith)
has_zero false t = (λ i. absurd (omega arith), λ e. absurd (false≢true e))

module _ (op : ℕ) (x y : Item) (p : Le x.low x.high) (q : Le y.low y.high) where
  compared_one : Within (compared op x y) (pos 1) ↔ PairIn op true x y
  compared_one = Iff.trans (has_one (can_fail op x.low x.high y.low y.high) _) (can_hold_lem op p q)

  compared_zero : Within (compared op x y) (pos 0) ↔ PairIn op false x y
  compared_zero = Iff.trans (has_zero _ (can_hold op x.low x.high y.low y.high)) (can_fail_lem op p q)

module _ {s : List ℤ} {h : Header} (a : Accepted s h) where
  -- a value that a fact's range has: its min
  least_of : (k : ℕ) → k < h.facts → Of (fact_item s k) (min_of s k)
  least_of k l =
      let o = (fact_ok s k (a.facts k l)).bounds in
      record { inside = record { low = le_refl (min_of s k); high = o.order }; bool = λ e. rw (o.bool e).0 (omega arith) }

  named_least : (k : ℕ) → ltb k h.facts ≡ true → Of (named_fact s h.facts k).item (min_of s k)
  named_least k e = rw e (least_of k (ltb-true k h.facts e))

  largest_in : (k : ℕ) → k < h.facts → is_list s k ≡ true → In (pos 0) (pos 0) (largest_of s k)
  largest_in k l p =
      let m = (fact_ok s k (a.facts k l)).largest p in
      subst (λ (z : ℤ). In (pos 0) (pos 0) z) (sym (num_is (largest_of s k) (omega arith))) (num_in (omega arith) (omega arith))

  -- every fact at its min; a list is empty
  abbrev least : List FactValue
  least = grown (λ _ k. cond (is_list s k) (Listed []) (Single (min_of s k))) no_value h.facts

  least_at : (k : ℕ) → k < h.facts → get_or least k no_value ≡ cond (is_list s k) (Listed []) (Single (min_of s k))
  unfolding entry
  least_at k l = grown_at (λ _ k. cond (is_list s k) (Listed []) (Single (min_of s k))) no_value h.facts k l

  least_single : (k : ℕ) → k < h.facts → is_list s k ≡ false → get_or least k no_value ≡ Single (min_of s k)
  least_single k l p = least_at k l ∙ rw p

  least_listed : (k : ℕ) → k < h.facts → is_list s k ≡ true → get_or least k no_value ≡ Listed []
  least_listed k l p = least_at k l ∙ rw p

  named_count : (k : ℕ) → ltb k h.facts ≡ true → is_list s k ≡ true
      → In (pos 0) (pos (length (elements_in (get_or least k no_value)))) (named_fact s h.facts k).most
  named_count k e p =
      let l = ltb-true k h.facts e in
      subst (λ (x : FactValue). In (pos 0) (pos (length (elements_in x))) (named_fact s h.facts k).most) (sym (least_listed k l p))
      (rw e (largest_in k l p))

  least_known : (n : ℕ) → n < h.nodes → Before n (children_of s h n) → (v w : ℤ) → Of (given_of s h (item_of s h) n).x v
      → Of (given_of s h (item_of s h) n).y w
      → Known (node_row s h n) (given_of s h (item_of s h) n) least [] (min_of s (num (node_words s h n).w1)) v w
  least_known n l b v w p q =
      let k = num (node_words s h n).w1 in
      let g = given_of s h (item_of s h) n in
      record {
        fact = λ e m.
            subst (λ (x : FactValue). Of g.fact.item (value_in x)) (sym (least_single k (ltb-true k h.facts e) (rw e at m))) (named_least k e);
        count = λ e. let t = and_left (names_fact g) g.fact.list e in
            named_count k t (rw t at (and_right (names_fact g) g.fact.list e));
        verdict = omega arith;
        element = λ e m. named_least k (and_left (names_fact g) g.fact.list e);
        x = λ u. p;
        y = λ u. q;
      }

  of_item : {x y : Item} {v : ℤ} → x ≡ y → Of y v → (v : ℤ) × Of x v
  of_item {x} {y} {v} e p = (v, subst (λ (z : Item). Of z v) (sym e) p)

  -- every node's range has a value
  some_step : (n : ℕ) → ((j : ℕ) → j < n → j < h.nodes → (v : ℤ) × Of (item_of s h j) v) → n < h.nodes → (v : ℤ) × Of (item_of s h n) v
  some_step n ih l =
      let o = node_ok s h n (a.nodes n l) in
      let kid : (i : ℕ) → (v : ℤ) × Of (child_item s h (item_of s h) n i) v =
      λ i. pick_all (λ (x : Item). (v : ℤ) × Of x v) (item_of s h) none n (children_of s h n) i (pos 0, none_of)
      (λ j q. ih j q (omega arith)) o.before in
      let x = kid 0 in
      let y = kid 1 in
      let p = align_of (child_item s h (item_of s h) n 0) (child_item s h (item_of s h) n 1) x.0 x.1 in
      let q = align_of (child_item s h (item_of s h) n 1) (child_item s h (item_of s h) n 0) y.0 y.1 in
      of_item o.item (lawful _ (given_of s h (item_of s h) n) least [] _ _ _ (λ _. pos 0) (least_known n l o.before _ _ p q) o.takes)

  some_value : (n : ℕ) → n < h.nodes → (v : ℤ) × Of (item_of s h n) v
  some_value = strong (λ (n : ℕ). n < h.nodes → (v : ℤ) × Of (item_of s h n) v) some_step

  -- 01: "Every node has a value range": one that is not empty
  pub range_some : (n : ℕ) → n < h.nodes → Le (item_of s h n).low (item_of s h n).high
  range_some n l = let v = (some_value n l).1.inside in omega (arith, v.low, v.high)

  module _ (n : ℕ) (l : n < h.nodes) (k : num (node_words s h n).w0 ≡ 7) where
    -- the operator and the children of a comparison, each converted to the unit that it shares with the other
    abbrev op : ℕ
    op = num (node_words s h n).w1

    abbrev first : Item
    first = item_of s h (num (node_words s h n).w2)

    abbrev second : Item
    second = item_of s h (num (node_words s h n).w3)

    abbrev left : Item
    left = align first second

    abbrev right : Item
    right = align second first

    row_is : node_row s h n ≡ comparison
    unfolding row_of
    row_is = rw k

    before : Before n (num (node_words s h n).w2 ∷ num (node_words s h n).w3 ∷ [])
    before = subst (λ (r : Row). Before n (r.children (node_words s h n))) row_is (node_ok s h n (a.nodes n l)).before

    abbrev kid : Row → ℕ → Item
    kid r i = pick (item_of s h) none (r.children (node_words s h n)) i

    abbrev given : Row → Given
    given r =
        record {
          words = node_words s h n;
          facts = h.facts;
          rules = h.rules;
          fact = named_fact s h.facts op;
          x = align (kid r 0) (kid r 1);
          y = align (kid r 1) (kid r 0);
        }

    compared_is : item_of s h n ≡ compared op left right
    unfolding pick
    compared_is = (node_ok s h n (a.nodes n l)).item ∙ ap (λ (r : Row). r.gives (given r)) row_is

    left_some : Le left.low left.high
    left_some = align_order first second (range_some _ (omega (arith, before.0)))

    right_some : Le right.low right.high
    right_some = align_order second first (range_some _ (omega (arith, before.1.0)))

    -- 01: "Comparison: includes 1 if some pair of values from the two ranges satisfies it", and only then
    pub includes_one_lem : Within (item_of s h n) (pos 1) ↔ PairIn op true left right
    includes_one_lem = rw compared_is (compared_one op left right left_some right_some)

    -- 01: "and 0 if some pair does not", and only then
    pub includes_zero : Within (item_of s h n) (pos 0) ↔ PairIn op false left right
    includes_zero = rw compared_is (compared_zero op left right left_some right_some)

-- ---- a node's range as it is worked out

none_small : Small none
unfolding bounded within
none_small = record { low = refl; high = refl }

module _ {s : List ℤ} {base rules n : ℕ} (v : RangeAt s base rules n) where
  abbrev item : ℕ → Item
  item j = item_of s (header_of s) j

  ok : NodeOk s (header_of s) n
  ok = node_ok s (header_of s) n (v.accepted.nodes n v.exists)

  kid_small : (i : ℕ) → Small (pick item none (children_of s (header_of s) n) i)
  kid_small i =
      pick_all Small item none n (children_of s (header_of s) n) i none_small
      (λ j l. (node_ok s (header_of s) j (v.accepted.nodes j (omega (arith, v.exists)))).fits) ok.before

  -- what holds of the node by the header holds of it by the first node's record
  met : {A : Type 0} (Q : Row → Given → A) (x y : Item) (cs : List ℕ) → children_of s (header_of s) n ≡ cs → x ≡ pick item none cs 0
      → y ≡ pick item none cs 1
      → Q (row_at s (base + n)) (given_at s base rules (base + n) x y) ≡ Q (node_row s (header_of s) n) (given_of s (header_of s) item n)
  met Q x y cs e p q =
      let h = header_of s in
      ap (λ (b : ℕ). Q (row_at s (b + n)) (given_at s b rules (b + n) x y)) v.first
      ∙ ap (λ (r : ℕ). Q (node_row s h n) (given_at s (first_node h) r (first_node h + n) x y)) v.cited
      ∙ ap (λ (z : Item). Q (node_row s h n) (given_at s (first_node h) h.rules (first_node h + n) z y))
      (p ∙ ap (λ (l : List ℕ). pick item none l 0) (sym e))
      ∙ ap (λ (z : Item). Q (node_row s h n) (given_at s (first_node h) h.rules (first_node h + n) (pick item none (children_of s h n) 0) z))
      (q ∙ ap (λ (l : List ℕ). pick item none l 1) (sym e))

  -- its row takes what it is given, and gives its item
  pub record Ranged (x y : Item) : Type 0 where
    pub based : BaseOf s base
    pub able : Rangeable s base rules (base + n) x y
    pub gives : (row_at s (base + n)).gives (given_at s base rules (base + n) x y) ≡ item n

  range_as : (x y : Item) (cs : List ℕ) → children_of s (header_of s) n ≡ cs → x ≡ pick item none cs 0 → y ≡ pick item none cs 1 → Ranged x y
  range_as x y cs e p q =
      record {
        based = record { first = v.first; accepted = v.accepted };
        able = record {
          first = rw (p ∙ ap (λ (l : List ℕ). pick item none l 0) (sym e)) (kid_small 0);
          second = rw (q ∙ ap (λ (l : List ℕ). pick item none l 1) (sym e)) (kid_small 1);
          kids = subst SmallKids (sym (met (λ (r : Row) (g : Given). g) x y cs e p q)) ok.kids;
          takes = met (λ (r : Row) (g : Given). r.takes g) x y cs e p q ∙ ok.takes;
        };
        gives = met (λ (r : Row) (g : Given). r.gives g) x y cs e p q ∙ sym ok.item;
      }

  pub range_none : [] ≡ children_at s (base + n) → Ranged none none
  unfolding pick
  range_none k = range_as none none [] (named (ranged v) k) refl refl

  pub range_one : {a : ℕ} {x : Item} → (a ∷ []) ≡ children_at s (base + n) → x ≡ item a → Ranged x none
  unfolding pick
  range_one k p = range_as _ none _ (named (ranged v) k) p refl

  pub range_two : {a b : ℕ} {x y : Item} → (a ∷ b ∷ []) ≡ children_at s (base + n) → x ≡ item a → y ≡ item b → Ranged x y
  unfolding pick
  range_two k p q = range_as _ _ _ (named (ranged v) k) p q
