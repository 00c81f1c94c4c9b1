-- 01, "Node" and "Evaluation", and 02, CR 4 and CR 6: the value of a node over facts and verdicts. A Bool is 1 where it is true, else 0. In the
-- body of a quantifier a node has a value at each element of the list, so the value is one at an element; a quantifier is the same at all.
-- Assumes nothing.
use Rattle.std.specs.Prelude.{ℕ, ℤ, pos, Bool, List}
use Rattle.tables.specs.Table.{entry}
use Rattle.tables.specs.Lists.{pick}
use Rattle.layout.specs.declared.Header.{Header}
use Rattle.item.specs.Units.{converted}
use Rattle.node.specs.FactValues.{FactValue}
use Rattle.node.specs.Rows.{Seen, is_true}
use Rattle.records.specs.Nodes.{node_words, node_row, children_of, child_item, item_of}

-- the type of child number i of node n
abbrev pub child_sort : List ℤ → Header → ℕ → ℕ → ℕ
child_sort s h n i = (child_item s h (item_of s h) n i).sort

-- the value of child number i of node n at an element; `look` gives those of the nodes before it
abbrev pub child_value : List ℤ → Header → (ℕ → ℤ → ℤ) → ℕ → ℕ → ℤ → ℤ
child_value s h look n i = pick look (λ _. pos 0) (children_of s h n) i

-- what the value of node n at element e is worked out from, each child's value being converted as its range is
abbrev pub seen_of : List ℤ → Header → List FactValue → List ℤ → (ℕ → ℤ → ℤ) → ℕ → ℤ → Seen
seen_of s h facts verdicts look n e =
    record {
      words = node_words s h n;
      facts = facts;
      verdicts = verdicts;
      element = e;
      x = converted (child_sort s h n 0) (child_sort s h n 1) (child_value s h look n 0 e);
      y = converted (child_sort s h n 1) (child_sort s h n 0) (child_value s h look n 1 e);
      body = child_value s h look n 0;
    }

-- the value of node n, from those of the nodes before it
unfoldable pub value_step : List ℤ → Header → List FactValue → List ℤ → (ℕ → ℤ → ℤ) → ℕ → ℤ → ℤ
value_step s h facts verdicts look n e = (node_row s h n).value (seen_of s h facts verdicts look n e)

unfoldable pub value_of : List ℤ → Header → List FactValue → List ℤ → ℕ → ℤ → ℤ
value_of s h facts verdicts n = entry (value_step s h facts verdicts) (λ _. pos 0) n

-- node n is true: a root, which cites no element outside of a quantifier, so that its value is the same at all
abbrev pub truth : List ℤ → Header → List FactValue → List ℤ → ℕ → Bool
truth s h facts verdicts n = is_true (value_of s h facts verdicts n (pos 0))
