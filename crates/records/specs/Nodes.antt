-- 01, "Node", and 02, CR 4 and CR 6: when a node is good, its type and value range, and the tree under it.
-- Assumes nothing.
use Rattle.std.specs.Prelude.{ℕ, ◌+◌, ℤ, pos, Bool, true, false, not, cond, ◌&&◌, ◌||◌, List, [], ◌∷◌, ltb}
use Rattle.tables.specs.Scan.{any_below}
use Rattle.tables.specs.Table.{entry}
use Rattle.tables.specs.Lists.{has, all_of, any_of, distinct, joined, pick}
use Rattle.signed.specs.Words.{num}
use Rattle.words.specs.declared.Record.{Record}
use Rattle.words.specs.Record.{words_at}
use Rattle.layout.specs.declared.Header.{Header}
use Rattle.layout.specs.Header.{first_node}
use Rattle.item.specs.declared.Item.{Item}
use Rattle.item.specs.Items.{none, align}
use Rattle.node.specs.declared.Named.{Named}
use Rattle.node.specs.declared.Given.{Given}
use Rattle.node.specs.Rows.{Row, row_of, fits, converts}
use Rattle.records.specs.Facts.{fact_of}

-- the words of node n, and the row of its kind
abbrev pub node_words : List ℤ → Header → ℕ → Record ℤ
node_words s h n = words_at s (first_node h + n)

abbrev pub node_row : List ℤ → Header → ℕ → Row
node_row s h n = row_of (num (node_words s h n).w0)

-- the nodes that node n names, and the rules that it cites
abbrev pub children_of : List ℤ → Header → ℕ → List ℕ
children_of s h n = (node_row s h n).children (node_words s h n)

abbrev pub cited_by : List ℤ → Header → ℕ → List ℕ
cited_by s h n = (node_row s h n).cites (node_words s h n)

-- the lists whose element it cites, and the list that it is a quantifier over
abbrev pub elements_by : List ℤ → Header → ℕ → List ℕ
elements_by s h n = (node_row s h n).elements (node_words s h n)

abbrev pub bound_by : List ℤ → Header → ℕ → List ℕ
bound_by s h n = (node_row s h n).binds (node_words s h n)

-- the fact that a node names, where there is one among so many facts
abbrev pub no_fact : Named
no_fact = record { item = none; list = false; most = pos 0 }

abbrev pub named_fact : List ℤ → ℕ → ℕ → Named
named_fact s facts f = cond (ltb f facts) (fact_of s f) no_fact

-- the type and range of child number i of node n; `look` gives those of the nodes before it
abbrev pub child_item : List ℤ → Header → (ℕ → Item) → ℕ → ℕ → Item
child_item s h look n i = pick look none (children_of s h n) i

-- what node n is worked out from, each child being converted to the unit that it shares with the other
abbrev pub given_of : List ℤ → Header → (ℕ → Item) → ℕ → Given
given_of s h look n =
    record {
      words = node_words s h n;
      facts = h.facts;
      rules = h.rules;
      fact = named_fact s h.facts (num (node_words s h n).w1);
      x = align (child_item s h look n 0) (child_item s h look n 1);
      y = align (child_item s h look n 1) (child_item s h look n 0);
    }

-- the type and value range of node n, from those of the nodes before it
unfoldable pub item_step : List ℤ → Header → (ℕ → Item) → ℕ → Item
item_step s h look n = (node_row s h n).gives (given_of s h look n)

unfoldable pub item_of : List ℤ → Header → ℕ → Item
item_of s h n = entry (item_step s h) none n

-- the nodes of the tree under node n, itself first
unfoldable pub tree_step : List ℤ → Header → (ℕ → List ℕ) → ℕ → List ℕ
tree_step s h look n = n ∷ joined look (children_of s h n)

unfoldable pub tree_of : List ℤ → Header → ℕ → List ℕ
tree_of s h n = entry (tree_step s h) [] n

-- some node before n names a
unfoldable pub named_by_nodes : List ℤ → Header → ℕ → ℕ → Bool
named_by_nodes s h n a = any_below (λ j. has a (children_of s h j)) n

-- "child nodes have smaller numbers than their parent"; "a node is named at most once": none was named before, none is named twice
unfoldable pub good_children : ℕ → (ℕ → Bool) → List ℕ → Bool
good_children n named cs = all_of (λ c. ltb c n && not (named c)) cs && distinct cs

-- node n is a quantifier
unfoldable pub quantifies : List ℤ → Header → ℕ → Bool
quantifies s h n = elim (bound_by s h n) [ [] ↦ false | f ∷ fs ↦ true ]

-- 02, CR 6: "a quantifier inside another is a bad record", the outer one
unfoldable pub flat : List ℤ → Header → ℕ → Bool
flat s h n = not (quantifies s h n) || all_of (λ m. not (quantifies s h m)) (joined (tree_of s h) (children_of s h n))

unfoldable pub good_node : List ℤ → Header → ℕ → Bool
good_node s h n =
    good_children n (named_by_nodes s h n) (children_of s h n)
    && converts (given_of s h (item_of s h) n)
    && fits (node_row s h n) (given_of s h (item_of s h) n)
    && flat s h n

-- 02, CR 6: the tree under node n "cites an element outside a quantifier over its list", which is list f
unfoldable pub loose_step : List ℤ → Header → (ℕ → ℕ → Bool) → ℕ → ℕ → Bool
loose_step s h look n f = has f (elements_by s h n) || not (has f (bound_by s h n)) && any_of (λ c. look c f) (children_of s h n)

unfoldable pub loose : List ℤ → Header → ℕ → ℕ → Bool
loose s h n = entry (loose_step s h) (λ _. false) n
