-- The header that is passed to a public function is the sheet's own, so the work on a tree may ask for the first node's record alone.
-- Assumes nothing.
use mathlib.Core.Path.{ap}
use Prim.Native.Nat.{ℕ, ◌<◌}
use lib.IntN.{ℤ}
use mathlib.Core.List.{List}
use native.Mathlib.Omega.{arith}
use Rattle.layout.specs.declared.Header.{Header}
use Rattle.layout.specs.Header.{first_node}
use Rattle.records.specs.Accepted.{Accepted}
use Rattle.tree.specs.Inner.{NodeAt}
use Rattle.facts.specs.Inner.{held}
use Rattle.predicate.specs.Inner.{Supplied, Evaluable}
use Rattle.predicate.specs.Base.{EvaluableAt, RangeAt}
use Rattle.predicate.proofs.ValueLaws.{scoped_root}

pub range_at : {s : List ℤ} {h : Header} {n : ℕ} → Accepted s h → n < h.nodes → RangeAt s (first_node h) h.rules n
range_at {s} {h} {n} a l =
    let e = a.header in
    record { first = ap first_node e; cited = ap (λ (h : Header). h.rules) e; accepted = rw e at a; exists = rw e at l }

pub evaluable_at : {s : List ℤ} {h : Header} {words lists verdicts : List ℤ} {n : ℕ} → Evaluable s h (held s words lists) verdicts n → (e : ℤ)
    → EvaluableAt s (first_node h) words lists verdicts n e
evaluable_at {s} {h} {words} {lists} {verdicts} {n} v e =
    let q = v.accepted.header in
    let o : Supplied s h (held s words lists) verdicts n e =
    record { accepted = v.accepted; known = v.known; judged = v.judged; exists = v.exists; scoped = scoped_root v.closed e } in
    record { first = ap first_node q; over = rw q at o }

-- a node that can be evaluated is there, and so is one whose range can be worked out
pub there : {s : List ℤ} {base : ℕ} {words lists verdicts : List ℤ} {n : ℕ} {e : ℤ} → EvaluableAt s base words lists verdicts n e → NodeAt s base n
there v = record { first = v.first; accepted = v.over.accepted; exists = v.over.exists }

pub ranged : {s : List ℤ} {base rules n : ℕ} → RangeAt s base rules n → NodeAt s base n
ranged v = record { first = v.first; accepted = v.accepted; exists = v.exists }

-- a node before it is there too
pub lower_range : {s : List ℤ} {base rules n a : ℕ} → RangeAt s base rules n → a < n → RangeAt s base rules a
lower_range v l = record { first = v.first; cited = v.cited; accepted = v.accepted; exists = omega (arith, v.exists) }
