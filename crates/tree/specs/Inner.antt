-- What the work on a tree asks where it has `base`, the record of the first node, in place of the header: the header is the sheet's own.
-- Assumes nothing.
use Rattle.std.specs.Prelude.{◌≡◌, ℕ, ◌<◌, ℤ, List}
use Rattle.signed.specs.Words.{num}
use Rattle.words.specs.Record.{words_at}
use Rattle.layout.specs.Header.{header_of, first_node}
use Rattle.node.specs.Rows.{Row, row_of}
use Rattle.records.specs.Accepted.{Accepted}

-- the row of the node in record k, and its children
abbrev pub row_at : List ℤ → ℕ → Row
row_at s k = row_of (num (words_at s k).w0)

abbrev pub children_at : List ℤ → ℕ → List ℕ
children_at s k = (row_at s k).children (words_at s k)

-- base is the record of the first node of the accepted sheet
pub record BaseOf (s : List ℤ) (base : ℕ) : Type 0 where
  pub first : base ≡ first_node (header_of s)
  pub accepted : Accepted s (header_of s)

-- there is a node n
pub record NodeAt (s : List ℤ) (base n : ℕ) : Type 0 where
  pub first : base ≡ first_node (header_of s)
  pub accepted : Accepted s (header_of s)
  pub exists : n < (header_of s).nodes
