-- The value of a node from those of its children, and that it lies in the node's range.
-- Assumes nothing.
use mathlib.Core.Path.{◌≡◌, refl, sym, ap, subst, fun_ext, ◌∙◌}
use mathlib.Core.Bool.{true, false, ◌&&◌, ◌||◌}
use mathlib.Core.List.{List, [], ◌∷◌}
use Prim.Native.Nat.{ℕ, zero, suc, ◌≤◌, ◌<◌}
use lib.IntN.{ℤ, pos}
use lib.ListN.{get_or, length}
use lib.Dec.{leb, ltb, eqb}
use native.Mathlib.Omega.{arith}
use mathlib.Core.Logic.{⊎_elim}
use borrow.Author.Tests.{ltb-true, leb-true, eqb-true, eq-eqb}
use Rattle.tables.specs.Lists.{has, all_of, pick}
use Rattle.tables.proofs.Bools.{true_false, and_left, and_right, or_cases, or_true_left, or_true_right}
use Rattle.tables.proofs.Grown.{entry_from, strong}
use Rattle.tables.proofs.Lists.{Before, pick_same}
use Rattle.signed.specs.Words.{num, bounded}
use Rattle.signed.proofs.Parts.{eq_true}
use Rattle.signed.proofs.Order.{le_refl}
use Rattle.signed.proofs.Numbers.{num_is, num_in}
use Rattle.signed.proofs.Bounds.{In, in_true, small_in, small_true, true_small}
use Rattle.layout.specs.declared.Header.{Header}
use Rattle.item.specs.declared.Item.{Item}
use Rattle.item.specs.Items.{none}
use Rattle.node.specs.FactValues.{FactValue, no_value, value_in, elements_in}
use Rattle.node.specs.Rows.{Seen, names_fact}
use Rattle.node.proofs.Lawful.{Of, Known, align_of, lawful}
use Rattle.records.specs.Accepted.{Accepted}
use Rattle.records.specs.Facts.{is_list, min_of, max_of, largest_of, fact_item}
use Rattle.records.specs.Nodes.{node_words, node_row, children_of, elements_by, bound_by, named_fact, child_item, given_of, item_of, loose_step, loose}
use Rattle.records.specs.Names.{closed}
use Rattle.records.proofs.FactLaws.{fact_ok}
use Rattle.records.proofs.NodeLaws.{node_ok}
use Rattle.records.proofs.ScopeLaws.{Child, loose_is, loose_plain, quantified_up, closed_at, not_true}
use Rattle.facts.specs.Faults.{in_fact}
use Rattle.facts.specs.Inner.{good_value, FactsIn}
use Rattle.predicate.specs.Values.{child_value, seen_of, value_step, value_of, truth}
use Rattle.predicate.specs.Inner.{Truths, Scoped}

-- the value x lies in the range
abbrev pub Within : Item → ℤ → Type 0
Within f x = In f.low x f.high

pub none_of : Of none (pos 0)
none_of = record { inside = record { low = le_refl (pos 0); high = le_refl (pos 0) }; bool = λ z. omega arith }

-- what holds of each child's value holds of the one that is picked
pick_of : (f : ℕ → Item) (g : ℕ → ℤ → ℤ) (e : ℤ) (cs : List ℕ) (i : ℕ) → ((c : ℕ) → has c cs ≡ true → Of (f c) (g c e))
    → Of (pick f none cs i) (pick g (λ _. pos 0) cs i e)
unfolding pick has
pick_of f g e [] i h = none_of
pick_of f g e (c ∷ cs) zero h = h c (or_true_left (eqb c c) (has c cs) (eq-eqb c c refl))
pick_of f g e (c ∷ cs) (suc i) h = pick_of f g e cs i (λ d m. h d (or_true_right (eqb c d) (has d cs) m))

-- a child comes before its parent
pub child_before : (n c : ℕ) (cs : List ℕ) → Before n cs → has c cs ≡ true → c < n
unfolding has
child_before n c [] b m = absurd (true_false m refl)
child_before n c (d ∷ cs) b m =
    ⊎_elim (λ e. omega (arith, b.0, eqb-true d c e)) (λ e. child_before n c cs b.1 e) (or_cases (eqb d c) (has c cs) m)

-- ---- what a node is asked for at an element

module _ {s : List ℤ} {h : Header} where
  -- the tree of a root cites nothing outside, so any element will do
  pub scoped_root : {n : ℕ} → closed s h n ≡ true → (e : ℤ) → Scoped s h n e
  scoped_root {n} p e =
      record {
        inside = λ f l q. absurd (true_false q (closed_at s h n f p l));
        outer = λ q f l. closed_at s h n f p l;
      }

  -- a child is asked for at its parent's element
  pub scoped_child : {n c : ℕ} {e : ℤ} → Before n (children_of s h n) → bound_by s h n ≡ [] → Child s h n c → Scoped s h n e → Scoped s h c e
  scoped_child {n} {c} {e} b u m p =
      record {
        inside = λ f l q. p.inside f l (loose_plain s h n b c f u m q);
        outer = λ q f l. not_true (loose_plain s h n b c f u m) (p.outer (quantified_up s h n b c m q) f l);
      }

-- a list's elements are few, and lie in its min..max
list_in : (s : List ℤ) (h : Header) (facts : List FactValue) → FactsIn s h facts → (k : ℕ) → k < h.facts → is_list s k ≡ true
    → (leb (length (elements_in (get_or facts k no_value))) (num (largest_of s k)) && all_of (in_fact s k) (elements_in (get_or facts k no_value))) ≡ true
unfolding good_value
list_in s h facts f k l p = rw p at (f.each k l)

pub elements_in_lem : (s : List ℤ) (h : Header) (facts : List FactValue) → FactsIn s h facts → (k : ℕ) → k < h.facts → is_list s k ≡ true
    → all_of (in_fact s k) (elements_in (get_or facts k no_value)) ≡ true
elements_in_lem s h facts f k l p =
    and_right (leb (length (elements_in (get_or facts k no_value))) (num (largest_of s k))) _ (list_in s h facts f k l p)

-- an element that a node cites is cited outside of a quantifier
pub loose_here : (s : List ℤ) (h : Header) (n k : ℕ) → Before n (children_of s h n) → elements_by s h n ≡ (k ∷ []) → loose s h n k ≡ true
unfolding loose_step has
loose_here s h n k b p =
    loose_is s h n b k ∙ rw p (or_true_left (eqb k k || false) _ (or_true_left (eqb k k) false (eq-eqb k k refl)))

module _ (s : List ℤ) (h : Header) (facts : List FactValue) (verdicts : List ℤ) where
  abbrev value : ℕ → ℤ → ℤ
  value n = value_of s h facts verdicts n

  seen_same : (n : ℕ) → Before n (children_of s h n) → (look : ℕ → ℤ → ℤ) → ((j : ℕ) → j < n → look j ≡ value j) → (e : ℤ)
      → seen_of s h facts verdicts look n e ≡ seen_of s h facts verdicts value n e
  seen_same n b look q e =
      rw (pick_same look value n q (λ _. pos 0) (children_of s h n) 0 b, pick_same look value n q (λ _. pos 0) (children_of s h n) 1 b)

  value_all : (n : ℕ) → Before n (children_of s h n) → value n ≡ value_step s h facts verdicts value n
  unfolding value_of value_step
  value_all n b =
      entry_from (value_step s h facts verdicts) (λ _. pos 0) n
      (λ look q. fun_ext (λ e. ap (λ (z : Seen). (node_row s h n).value z) (seen_same n b look q e)))

  -- by the node's row, from its children's values
  pub value_is : (n : ℕ) → Before n (children_of s h n) → (e : ℤ) → value n e ≡ (node_row s h n).value (seen_of s h facts verdicts value n e)
  unfolding value_step
  value_is n b e = ap (λ (g : ℤ → ℤ). g e) (value_all n b)

  -- ---- over facts in their ranges and verdicts

  module _ (a : Accepted s h) (f : FactsIn s h facts) (t : Truths verdicts) where
    -- what lies in a fact's min..max is of its type and range
    fact_of : (k : ℕ) (x : ℤ) → k < h.facts → in_fact s k x ≡ true → Of (fact_item s k) x
    fact_of k x l p =
        let i = in_true (min_of s k) x (max_of s k) p in
        record {
          inside = i;
          bool =
              λ e. let q = (fact_ok s k (a.facts k l)).bounds.bool e in
              subst (λ (z : ℤ). In (pos 0) x z) q.1 (subst (λ (z : ℤ). In z x (max_of s k)) q.0 i);
        }

    single_in : (k : ℕ) → k < h.facts → is_list s k ≡ false → in_fact s k (value_in (get_or facts k no_value)) ≡ true
    unfolding good_value
    single_in k l p = rw p at (f.each k l)

    few_in : (k : ℕ) → k < h.facts → is_list s k ≡ true → length (elements_in (get_or facts k no_value)) ≤ num (largest_of s k)
    few_in k l p = leb-true _ _ (and_left _ _ (list_in s h facts f k l p))

    count_in_lem : (k : ℕ) → k < h.facts → is_list s k ≡ true → In (pos 0) (pos (length (elements_in (get_or facts k no_value)))) (largest_of s k)
    count_in_lem k l p =
        let m = (fact_ok s k (a.facts k l)).largest p in
        subst (λ (z : ℤ). In (pos 0) (pos (length (elements_in (get_or facts k no_value)))) z) (sym (num_is (largest_of s k) (omega arith)))
        (num_in (omega arith) (few_in k l p))

    -- the same of the fact that a node names
    module _ (k : ℕ) (e : ltb k h.facts ≡ true) where
      there : k < h.facts
      there = ltb-true k h.facts e

      pub named_of : (x : ℤ) → in_fact s k x ≡ true → Of (named_fact s h.facts k).item x
      named_of x p = rw e (fact_of k x there p)

      named_single : (named_fact s h.facts k).list ≡ false → Of (named_fact s h.facts k).item (value_in (get_or facts k no_value))
      named_single p = named_of _ (single_in k there (rw e at p))

      named_count : (named_fact s h.facts k).list ≡ true
          → In (pos 0) (pos (length (elements_in (get_or facts k no_value)))) (named_fact s h.facts k).most
      named_count p = rw e (count_in_lem k there (rw e at p))

    -- what node n is worked out from is of the types and ranges that it is given
    known : (n : ℕ) (e : ℤ) → n < h.nodes → Before n (children_of s h n) → Scoped s h n e
        → ((c : ℕ) → c < n → Scoped s h c e → Of (item_of s h c) (value c e))
        → Known (node_row s h n) (given_of s h (item_of s h) n) facts verdicts e (seen_of s h facts verdicts value n e).x
        (seen_of s h facts verdicts value n e).y
    known n e l b p ih =
        let w = num (node_words s h n).w1 in
        let g = given_of s h (item_of s h) n in
        let kid : bound_by s h n ≡ [] → (i : ℕ) → Of (child_item s h (item_of s h) n i) (child_value s h value n i e) =
        λ u i. pick_of (item_of s h) value e (children_of s h n) i
        (λ c m. ih c (child_before n c (children_of s h n) b m) (scoped_child b u m p)) in
        record {
          fact = λ q. named_single w q;
          count = λ q. let z = and_left (names_fact g) g.fact.list q in named_count w z (and_right (names_fact g) g.fact.list q);
          verdict = in_true (pos 0) (get_or verdicts w (pos 0)) (pos 1) (t.each w);
          element = λ q m. let z = and_left (names_fact g) g.fact.list q in
              named_of w z e (p.inside w (ltb-true w h.facts z) (loose_here s h n w b m));
          x = λ u. align_of (child_item s h (item_of s h) n 0) (child_item s h (item_of s h) n 1) (child_value s h value n 0 e) (kid u 0);
          y = λ u. align_of (child_item s h (item_of s h) n 1) (child_item s h (item_of s h) n 0) (child_value s h value n 1 e) (kid u 1);
        }

    value_step_lem : (n : ℕ) → ((j : ℕ) → j < n → j < h.nodes → (e : ℤ) → Scoped s h j e → Of (item_of s h j) (value j e)) → n < h.nodes → (e : ℤ)
        → Scoped s h n e → Of (item_of s h n) (value n e)
    value_step_lem n ih l e p =
        let o = node_ok s h n (a.nodes n l) in
        rw (o.item, value_is n o.before e)
        (lawful _ (given_of s h (item_of s h) n) facts verdicts e _ _ (child_value s h value n 0)
        (known n e l o.before p (λ c q. ih c q (omega arith) e)) o.takes)

    -- every node's value is of the node's type and range
    pub value_of_lem : (n : ℕ) → n < h.nodes → (e : ℤ) → Scoped s h n e → Of (item_of s h n) (value n e)
    value_of_lem = strong (λ (n : ℕ). n < h.nodes → (e : ℤ) → Scoped s h n e → Of (item_of s h n) (value n e)) value_step_lem

    -- so no value leaves −M..M
    pub value_small : (n : ℕ) → n < h.nodes → (e : ℤ) → Scoped s h n e → bounded (value n e) ≡ true
    value_small n l e p =
        let q = (node_ok s h n (a.nodes n l)).fits in
        true_small (value n e) (small_in (small_true _ q.low) (small_true _ q.high) (value_of_lem n l e p).inside)

    -- a root that is true has 1 in its range
    pub true_in_range : (n : ℕ) → n < h.nodes → closed s h n ≡ true → truth s h facts verdicts n ≡ true → Within (item_of s h n) (pos 1)
    true_in_range n l c e = rw (eq_true (value n (pos 0)) (pos 1) e) at (value_of_lem n l (pos 0) (scoped_root c (pos 0))).inside
