-- What the scan of the nodes keeps in its arrays.
-- Assumes nothing.
use Rattle.std.specs.Prelude.{◌≡◌, true, false, List, [], ◌∷◌, ℕ, suc, ◌<◌, max, ℤ, pos, length, get_or}
use Rattle.layout.specs.declared.Header.{Header}
use Rattle.item.specs.declared.Item.{Item}
use Rattle.item.specs.Items.{span}
use Rattle.records.specs.Nodes.{cited_by, item_of, tree_of, named_by_nodes, good_node}
use Rattle.sheet_nodes.specs.declared.Ranges.{Ranges}
use Rattle.sheet_nodes.specs.declared.Trees.{Trees}
use Rattle.sheet_nodes.specs.Scopes.{Scoped}

-- the type and range that the arrays hold of node j
abbrev pub item_at : Ranges → Trees → ℕ → Item
item_at v t j = span (get_or t.sorts j 0) (get_or v.lows j (pos 0)) (get_or v.highs j (pos 0))

-- the greatest of what f gives of the numbers in the list, 0 where there is none
unfoldable pub greatest : (ℕ → ℕ) → List ℕ → ℕ
greatest f [] = 0
greatest f (c ∷ cs) = max (f c) (greatest f cs)

-- one more than the greatest rule that node n cites, and that its tree cites; 0 where there is none
abbrev pub own_top : List ℤ → Header → ℕ → ℕ
own_top s h n = greatest suc (cited_by s h n)

unfoldable pub top_of : List ℤ → Header → ℕ → ℕ
top_of s h n = greatest (own_top s h) (tree_of s h n)

-- what the arrays hold after n good nodes
pub record Filled (s : List ℤ) (h : Header) (n : ℕ) (v : Ranges) (t : Trees) : Type 0 where
  pub low_long : length v.lows ≡ 1024
  pub high_long : length v.highs ≡ 1024
  pub sort_long : length t.sorts ≡ 1024
  pub top_long : length t.tops ≡ 1024
  pub scope_long : length t.scopes ≡ 1024
  pub name_long : length t.named ≡ 1024
  pub item : (j : ℕ) → j < n → item_at v t j ≡ item_of s h j
  pub top : (j : ℕ) → j < n → get_or t.tops j 0 ≡ top_of s h j
  pub scope : (j : ℕ) → j < n → Scoped s h j (get_or t.scopes j 0)
  pub name : (a : ℕ) → a < 1024 → get_or t.named a false ≡ named_by_nodes s h n a
  pub good : (j : ℕ) → j < n → good_node s h j ≡ true
