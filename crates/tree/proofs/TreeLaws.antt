-- A node of an accepted sheet by the record of the first node: it is there, and its children come before it.
-- Assumes nothing.
use mathlib.Core.Path.{◌≡◌, sym, ap, ◌∙◌}
use Prim.Native.Nat.{ℕ, ◌+◌, ◌*◌, ◌≤◌, ◌<◌}
use lib.IntN.{ℤ}
use lib.ListN.{length}
use mathlib.Core.List.{List, []}
use native.Mathlib.Omega.{arith}
use Rattle.signed.specs.Words.{num}
use Rattle.words.specs.Record.{words_at}
use Rattle.layout.specs.declared.Header.{Header}
use Rattle.layout.specs.Header.{header_of, first_node}
use Rattle.tables.proofs.Lists.{Before}
use Rattle.node.specs.Rows.{Row}
use Rattle.node.proofs.Judged.{row_past}
use Rattle.records.specs.Accepted.{Accepted}
use Rattle.records.specs.Nodes.{children_of}
use Rattle.records.proofs.NodeLaws.{node_ok}
use Rattle.tree.specs.Inner.{children_at, NodeAt}

-- a node of an unknown kind has no children
pub unknown_kids : (s : List ℤ) (k : ℕ) → 17 < num (words_at s k).w0 → [] ≡ children_at s k
unknown_kids s k h = ap (λ (r : Row). r.children (words_at s k)) (sym (row_past (num (words_at s k).w0) h))

pub node_at_lem : {s : List ℤ} {h : Header} {n : ℕ} → Accepted s h → n < h.nodes → NodeAt s (first_node h) n
node_at_lem {s} {h} {n} a l = let e = a.header in record { first = ap first_node e; accepted = rw e at a; exists = rw e at l }

module _ {s : List ℤ} {base n : ℕ} (v : NodeAt s base n) where
  -- the sheet holds its record
  pub held : 16 + 8 * (base + n) + 8 ≤ length s
  held = let q = v.accepted.sized in omega (arith, v.first, v.exists, q.long)

  children_are : children_of s (header_of s) n ≡ children_at s (base + n)
  children_are = ap (λ (b : ℕ). children_at s (b + n)) (sym v.first)

  module _ {cs : List ℕ} (k : cs ≡ children_at s (base + n)) where
    -- its children
    pub named : children_of s (header_of s) n ≡ cs
    named = children_are ∙ sym k

    -- they come before it
    pub before : Before n cs
    before = rw named at (node_ok s (header_of s) n (v.accepted.nodes n v.exists)).before

-- a node before it is there too
pub lower_node : {s : List ℤ} {base n a : ℕ} → NodeAt s base n → a < n → NodeAt s base a
lower_node v l = record { first = v.first; accepted = v.accepted; exists = omega (arith, v.exists) }
