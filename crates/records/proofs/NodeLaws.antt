-- What holds of each node of an accepted sheet.
-- Assumes nothing.
use mathlib.Core.Path.{◌≡◌, refl, ap}
use mathlib.Core.Bool.{Bool, true, false, not, cond, ◌&&◌}
use mathlib.Core.List.{List, [], ◌∷◌}
use Prim.Native.Nat.{ℕ, ◌≤◌, ◌<◌}
use lib.IntN.{ℤ}
use lib.Dec.{ltb}
use native.Mathlib.Omega.{arith}
use borrow.Author.Tests.{ltb-true}
use Rattle.tables.specs.Lists.{all_of, distinct, joined}
use Rattle.tables.proofs.Bools.{and_iff, and_left, and_right}
use Rattle.tables.proofs.Grown.{entry_from, strong}
use Rattle.tables.proofs.Lists.{Before, all_before, pick_same, pick_all, joined_same}
use Rattle.words.specs.Record.{numbers_of, unused}
use Rattle.layout.specs.declared.Header.{Header}
use Rattle.item.specs.declared.Item.{Item}
use Rattle.item.specs.Items.{none, small}
use Rattle.item.specs.Inner.{Small}
use Rattle.item.proofs.Units.{align_most}
use Rattle.node.specs.declared.Given.{Given}
use Rattle.node.specs.Rows.{fits, converts}
use Rattle.node.specs.Judged.{SmallKids}
use Rattle.node.proofs.Judged.{small_of, smalls}
use Rattle.node.proofs.Few.{sort_few}
use Rattle.records.specs.Facts.{fact_of, good_fact}
use Rattle.records.proofs.FactLaws.{fact_ok}
use Rattle.records.specs.Nodes.{node_words, node_row, children_of, no_fact, named_fact, child_item, given_of, item_step, item_of, tree_step, tree_of, named_by_nodes, good_children, flat, good_node}

-- its children come before it, are named here for the first time and once; its row takes what it is given; its range and those of its
-- children, converted, are within −M..M; no quantifier stands under a quantifier
pub record NodeOk (s : List ℤ) (h : Header) (n : ℕ) : Type 0 where
  pub before : Before n (children_of s h n)
  pub new : all_of (λ c. ltb c n && not (named_by_nodes s h n c)) (children_of s h n) ≡ true
  pub apart : distinct (children_of s h n) ≡ true
  pub kids : SmallKids (given_of s h (item_of s h) n)
  pub takes : (node_row s h n).takes (given_of s h (item_of s h) n) ≡ true
  pub item : item_of s h n ≡ (node_row s h n).gives (given_of s h (item_of s h) n)
  pub fits : Small (item_of s h n)
  pub flat : flat s h n ≡ true

-- the entries of a node from those of its children
module _ (s : List ℤ) (h : Header) (n : ℕ) (b : Before n (children_of s h n)) where
  given_same : (look : ℕ → Item) → ((j : ℕ) → j < n → look j ≡ item_of s h j) → given_of s h look n ≡ given_of s h (item_of s h) n
  given_same look e =
      rw (pick_same look (item_of s h) n e none (children_of s h n) 0 b, pick_same look (item_of s h) n e none (children_of s h n) 1 b)

  pub item_is : item_of s h n ≡ (node_row s h n).gives (given_of s h (item_of s h) n)
  unfolding item_of item_step
  item_is = entry_from (item_step s h) none n (λ look e. ap (λ (g : Given). (node_row s h n).gives g) (given_same look e))

  pub tree_is : tree_of s h n ≡ (n ∷ joined (tree_of s h) (children_of s h n))
  unfolding tree_of tree_step
  tree_is = entry_from (tree_step s h) [] n (λ look e. ap (λ (l : List ℕ). n ∷ l) (joined_same look (tree_of s h) n (children_of s h n) e b))

module _ (s : List ℤ) (h : Header) (n : ℕ) (good : good_node s h n ≡ true) where
  abbrev given : Given
  given = given_of s h (item_of s h) n

  parts : (((good_children n (named_by_nodes s h n) (children_of s h n) ≡ true) × (converts given ≡ true)) × (fits (node_row s h n) given ≡ true))
      × (flat s h n ≡ true)
  unfolding good_node
  parts = simp and_iff at good

  children_good : good_children n (named_by_nodes s h n) (children_of s h n) ≡ true
  children_good = parts.0.0.0

  converts_good : converts given ≡ true
  converts_good = parts.0.0.1

  fits_good : fits (node_row s h n) given ≡ true
  fits_good = parts.0.1

  new_good : all_of (λ c. ltb c n && not (named_by_nodes s h n c)) (children_of s h n) ≡ true
  unfolding good_children
  new_good = and_left _ (distinct (children_of s h n)) children_good

  apart_good : distinct (children_of s h n) ≡ true
  unfolding good_children
  apart_good = and_right (all_of (λ c. ltb c n && not (named_by_nodes s h n c)) (children_of s h n)) _ children_good

  takes_good : (node_row s h n).takes given ≡ true
  unfolding fits
  takes_good =
      and_right (unused (node_row s h n).used (numbers_of (node_words s h n))) ((node_row s h n).takes given)
      (and_left _ (small ((node_row s h n).gives given)) fits_good)

  small_good : small ((node_row s h n).gives given) ≡ true
  unfolding fits
  small_good = and_right (unused (node_row s h n).used (numbers_of (node_words s h n)) && (node_row s h n).takes given) _ fits_good

  pub node_ok : NodeOk s h n
  node_ok =
      let b = all_before (λ c. not (named_by_nodes s h n c)) n (children_of s h n) new_good in
      record {
        before = b;
        new = new_good;
        apart = apart_good;
        kids = smalls given converts_good;
        takes = takes_good;
        item = item_is s h n b;
        fits = rw (item_is s h n b) (small_of ((node_row s h n).gives given) small_good);
        flat = parts.1;
      }

-- ---- types are small numbers

module _ (s : List ℤ) (h : Header) (facts : (k : ℕ) → k < h.facts → good_fact s k ≡ true) where
  pub fact_few : (f : ℕ) → (named_fact s h.facts f).item.sort ≤ 261
  fact_few f = go (ltb f h.facts) refl
    where
      go : (t : Bool) → ltb f h.facts ≡ t → (cond t (fact_of s f) no_fact).item.sort ≤ 261
      go true e = (fact_ok s f (facts f (ltb-true f h.facts e))).bounds.few
      go false e = omega arith

  module _ (n : ℕ) (good : (j : ℕ) → j < n → good_node s h j ≡ true) where
    few_step : (j : ℕ) → ((i : ℕ) → i < j → i < n → (item_of s h i).sort ≤ 261) → j < n → (item_of s h j).sort ≤ 261
    few_step j ih l =
        let o = node_ok s h j (good j l) in
        let kid : (i : ℕ) → (child_item s h (item_of s h) j i).sort ≤ 261 =
        λ i. pick_all (λ (x : Item). x.sort ≤ 261) (item_of s h) none j (children_of s h j) i (omega arith) (λ i q. ih i q (omega arith)) o.before
        in
        rw o.item
        (sort_few _ (given_of s h (item_of s h) j) (fact_few _)
        (align_most (child_item s h (item_of s h) j 0) (child_item s h (item_of s h) j 1) 261 (kid 0) (kid 1)) o.takes)

    pub item_few : (j : ℕ) → j < n → (item_of s h j).sort ≤ 261
    item_few = strong (λ (j : ℕ). j < n → (item_of s h j).sort ≤ 261) few_step
