-- What the scan's functions ask and answer for one node.
-- Assumes nothing.
use Rattle.std.specs.Prelude.{◌≡◌, Bool, true, ⊤, ◌||◌, List, ℕ, suc, ◌<◌, ℤ, leb, eqb, set}
use Rattle.signed.specs.Words.{num}
use Rattle.words.specs.declared.Record.{Record}
use Rattle.layout.specs.declared.Header.{Header}
use Rattle.layout.specs.Sized.{Sized}
use Rattle.item.specs.declared.Item.{Item}
use Rattle.item.specs.Items.{none, align}
use Rattle.item.specs.Inner.{Small}
use Rattle.node.specs.declared.Given.{Given}
use Rattle.node.specs.declared.Kids.{Kids}
use Rattle.node.specs.declared.Kids.TheVariants.{Zero, One, Two}
use Rattle.node.specs.Rows.{row_of}
use Rattle.node.specs.Judged.{kids}
use Rattle.records.specs.Facts.{good_fact}
use Rattle.records.specs.Nodes.{node_words, named_fact, good_node}
use Rattle.sheet_nodes.specs.declared.Ranges.{Ranges}
use Rattle.sheet_nodes.specs.declared.Trees.{Trees}
use Rattle.sheet_nodes.specs.Arrays.{item_at, Filled}

-- the kinds that name a fact or a list
abbrev pub names_one : ℕ → Bool
names_one k = eqb k 3 || leb 14 k

-- what node n is worked out from, its children being in the arrays
abbrev pub first_kid : Kids → Ranges → Trees → Item
first_kid Zero v t = none
first_kid (One a) v t = item_at v t a
first_kid (Two a b) v t = item_at v t a

abbrev pub second_kid : Kids → Ranges → Trees → Item
second_kid Zero v t = none
second_kid (One a) v t = none
second_kid (Two a b) v t = item_at v t b

abbrev pub given_by : List ℤ → Header → Record ℤ → Kids → Ranges → Trees → Given
given_by s h w c v t =
    record {
      words = w;
      facts = h.facts;
      rules = h.rules;
      fact = named_fact s h.facts (num w.w1);
      x = align (first_kid c v t) (second_kid c v t);
      y = align (second_kid c v t) (first_kid c v t);
    }

-- what a node without children is worked out from
abbrev pub leaf_given : List ℤ → Header → Record ℤ → Given
leaf_given s h w =
    record { words = w; facts = h.facts; rules = h.rules; fact = named_fact s h.facts (num w.w1); x = none; y = none }

-- there are m entries, and the children's are among them
abbrev pub Inside : Kids → ℕ → Type 0
Inside Zero m = ⊤
Inside (One a) m = a < m
Inside (Two a b) m = (a < m) × (b < m)

-- a sized sheet with good facts
pub record Begun (s : List ℤ) (h : Header) : Type 0 where
  pub sized : Sized s h
  pub facts : (j : ℕ) → j < h.facts → good_fact s j ≡ true

-- what the judgement of a node asks
pub record Judgeable (s : List ℤ) (h : Header) (w : Record ℤ) (c : Kids) (v : Ranges) (t : Trees) : Type 0 where
  pub begun : Begun s h
  pub inside : Inside c 1024
  pub first : Small (first_kid c v t)
  pub second : Small (second_kid c v t)

-- the arrays with node n's range, or its type and what its tree cites; with other flags, or those of its children set
abbrev pub with_item : ℕ → Item → Ranges → Ranges
with_item n x v = record { lows = set v.lows n x.low; highs = set v.highs n x.high }

abbrev pub with_tree : ℕ → ℕ → ℕ → ℕ → Trees → Trees
with_tree n sort top scope t =
    record { sorts = set t.sorts n sort; tops = set t.tops n top; scopes = set t.scopes n scope; named = t.named }

abbrev pub with_flags : List Bool → Trees → Trees
with_flags named t = record { sorts = t.sorts; tops = t.tops; scopes = t.scopes; named = named }

abbrev pub name_kids : Kids → List Bool → List Bool
name_kids Zero named = named
name_kids (One a) named = set named a true
name_kids (Two a b) named = set (set named a true) b true

-- the scan stands at node n
pub record Turn (s : List ℤ) (h : Header) (n : ℕ) (v : Ranges) (t : Trees) : Type 0 where
  pub begun : Begun s h
  pub exists : n < h.nodes
  pub filled : Filled s h n v t

-- the words, the kind and the children of node n
pub record Placed (s : List ℤ) (h : Header) (n : ℕ) (w : Record ℤ) (k : ℕ) (c : Kids) : Type 0 where
  pub words : w ≡ node_words s h n
  pub kind : k ≡ num w.w0
  pub children : kids c ≡ (row_of k).children w

-- and has judged it
pub record Took (s : List ℤ) (h : Header) (n : ℕ) (good : Bool) (v : Ranges) (t : Trees) : Type 0 where
  pub judged : good ≡ good_node s h n
  pub filled : good ≡ true → Filled s h (suc n) v t
