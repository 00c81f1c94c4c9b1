-- What holds of each rule of an accepted sheet, and of each when-node, precondition and branch.
-- Assumes nothing.
use mathlib.Core.Path.{◌≡◌}
use mathlib.Core.Bool.{Bool, true, false, ◌&&◌}
use mathlib.Core.List.{List}
use mathlib.Core.Logic.{⊎_elim}
use Prim.Native.Nat.{ℕ, zero, suc, ◌-◌, ◌≤◌, ◌<◌}
use lib.IntN.{ℤ}
use lib.Dec.{eqb}
use native.Mathlib.Omega.{arith}
use borrow.Author.Tests.{eqb-true, leb-true}
use Rattle.tables.proofs.Bools.{tests, and_left, and_right, not_flip, or_cases}
use Rattle.tables.specs.Lists.{all_of, joined}
use Rattle.tables.proofs.Lists.{Before, all_joined}
use Rattle.tables.proofs.Scans.{below_suc}
use Rattle.layout.specs.declared.Header.{Header}
use Rattle.layout.specs.Tables.{rule}
use Rattle.records.specs.Accepted.{Accepted}
use Rattle.records.specs.Nodes.{children_of, cited_by, item_of, tree_of}
use Rattle.records.specs.Names.{named_by_rules, closed, good_root}
use Rattle.records.specs.Rules.{stratum, lower, cites_lower, good_rule}
use Rattle.records.proofs.NodeLaws.{tree_is}

-- the root of a tree: it exists and is Bool, its tree cites elements as it may, and no record before names it
pub record RootOk (s : List ℤ) (h : Header) (a : ℕ) (named : Bool) : Type 0 where
  pub exists : a < h.nodes
  pub bool : (item_of s h a).sort ≡ 0
  pub closed : closed s h a ≡ true
  pub new : named ≡ false

pub root_ok : (s : List ℤ) (h : Header) (a : ℕ) (named : Bool) → good_root s h a named ≡ true → RootOk s h a named
unfolding good_root
root_ok s h a named p = let q = simp tests at p in record { exists = q.0.0.0; bool = q.0.0.1; closed = q.0.1; new = not_flip named q.1 }

pub record RuleOk (s : List ℤ) (h : Header) (k : ℕ) : Type 0 where
  pub small : stratum s h k ≤ 15
  pub rises : 0 < k → stratum s h (k - 1) ≤ stratum s h k
  pub root : RootOk s h (rule s h k).w1 (named_by_rules s h k (rule s h k).w1)
  pub cites : cites_lower s h k (rule s h k).w1 ≡ true

pub rule_ok : (s : List ℤ) (h : Header) (k : ℕ) → good_rule s h k ≡ true → RuleOk s h k
unfolding good_rule
rule_ok s h k p =
    let q = simp tests at p in
    record {
      small = q.0.0.0.0;
      rises =
          λ l. ⊎_elim (λ z. absurd (omega (arith, eqb-true k 0 z))) (λ r. leb-true (stratum s h (k - 1)) (stratum s h k) r)
          (or_cases (eqb k 0) _ q.0.0.0.1);
      root = root_ok s h (rule s h k).w1 (named_by_rules s h k (rule s h k).w1) q.0.0.1;
      cites = q.1;
    }

-- strata never fall along the table
pub strata_rise : (s : List ℤ) (h : Header) → Accepted s h → (j k : ℕ) → j ≤ k → k < h.rules → stratum s h j ≤ stratum s h k
strata_rise s h a j zero l q = let e : j ≡ 0 = omega arith in rw e (omega arith)
strata_rise s h a j (suc k) l q =
    ⊎_elim (λ b. let z : suc k - 1 ≡ k = omega arith in
    let r = rw z at ((rule_ok s h (suc k) (a.rules (suc k) q)).rises (omega arith)) in
    omega (arith, strata_rise s h a j k (omega arith) (omega arith))) (λ e. rw e (omega arith)) (below_suc j (suc k) (omega arith))

-- what rule k's citations give of a node: it cites lower rules alone, and so do the trees under its children
module _ (s : List ℤ) (h : Header) (k n : ℕ) (b : Before n (children_of s h n)) (p : cites_lower s h k n ≡ true) where
  abbrev cites : ℕ → Bool
  cites m = all_of (lower s h k) (cited_by s h m)

  whole : (cites n && all_of cites (joined (tree_of s h) (children_of s h n))) ≡ true
  unfolding cites_lower all_of
  whole = rw (tree_is s h n b) at p

  pub cites_here : all_of (lower s h k) (cited_by s h n) ≡ true
  cites_here = and_left (cites n) (all_of cites (joined (tree_of s h) (children_of s h n))) whole

  pub cites_below : all_of (cites_lower s h k) (children_of s h n) ≡ true
  unfolding cites_lower
  cites_below = all_joined cites (tree_of s h) (children_of s h n) (and_right (cites n) (all_of cites (joined (tree_of s h) (children_of s h n))) whole)
