-- What the inner functions ask and answer, and what proofs speak of. The definitions of the other files do not rest on these.
-- Assumes nothing.
use Rattle.std.specs.Prelude.{◌≡◌, ℕ, ◌<◌, ℤ, pos, true, false, List, get_or}
use Rattle.tables.specs.Lists.{any_of}
use Rattle.signed.specs.Words.{within}
use Rattle.layout.specs.declared.Header.{Header}
use Rattle.node.specs.FactValues.{FactValue}
use Rattle.records.specs.Nodes.{item_of, tree_of, quantifies, loose}
use Rattle.records.specs.Names.{closed}
use Rattle.records.specs.Accepted.{Accepted}
use Rattle.facts.specs.Faults.{in_fact}
use Rattle.facts.specs.Inner.{FactsIn}

-- every verdict is 1 or 0
pub record Truths (verdicts : List ℤ) : Type 0 where
  pub each : (k : ℕ) → within (pos 0) (get_or verdicts k (pos 0)) (pos 1) ≡ true

-- e is an element of the list whose element the tree under node n cites outside of every quantifier over it; where a quantifier stands in the
-- tree there is no such list
pub record Scoped (s : List ℤ) (h : Header) (n : ℕ) (e : ℤ) : Type 0 where
  pub inside : (f : ℕ) → f < h.facts → loose s h n f ≡ true → in_fact s f e ≡ true
  pub outer : any_of (quantifies s h) (tree_of s h n) ≡ true → (f : ℕ) → f < h.facts → loose s h n f ≡ false

-- what the work on node n at element e asks: an accepted sheet, facts in their ranges, verdicts, that there is such a node, and its element
pub record Supplied (s : List ℤ) (h : Header) (facts : List FactValue) (verdicts : List ℤ) (n : ℕ) (e : ℤ) : Type 0 where
  pub accepted : Accepted s h
  pub known : FactsIn s h facts
  pub judged : Truths verdicts
  pub exists : n < h.nodes
  pub scoped : Scoped s h n e

-- and whether it is true: it is of type Bool, and cites no element outside of a quantifier
pub record Evaluable (s : List ℤ) (h : Header) (facts : List FactValue) (verdicts : List ℤ) (n : ℕ) : Type 0 where
  pub accepted : Accepted s h
  pub known : FactsIn s h facts
  pub judged : Truths verdicts
  pub exists : n < h.nodes
  pub bool : (item_of s h n).sort ≡ 0
  pub closed : closed s h n ≡ true
