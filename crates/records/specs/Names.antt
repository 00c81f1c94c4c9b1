-- 01: a node is named at most once, by a node, rule, operation or step; the later naming record is bad. 02, CR 6: and what a root's tree cites.
-- Assumes nothing.
use Rattle.std.specs.Prelude.{ℕ, ℤ, Bool, not, ◌&&◌, ◌||◌, List, ltb, eqb}
use Rattle.tables.specs.Scan.{all_below, any_below}
use Rattle.layout.specs.declared.Header.{Header}
use Rattle.layout.specs.Tables.{rule, operation, step, when_node_of, precondition_of, kind_of, node_named}
use Rattle.records.specs.Nodes.{named_by_nodes, item_of, loose}

-- some node, or some rule before k, names a
unfoldable pub named_by_rules : List ℤ → Header → ℕ → ℕ → Bool
named_by_rules s h k a = named_by_nodes s h h.nodes a || any_below (λ j. eqb (when_node_of (rule s h j)) a) k

-- some node or rule, or some operation before k, names a
unfoldable pub named_by_operations : List ℤ → Header → ℕ → ℕ → Bool
named_by_operations s h k a = named_by_rules s h h.rules a || any_below (λ j. eqb (precondition_of (operation s h j)) a) k

-- some node, rule or operation, or some step before k, names a; a step names a node where it is a branch
unfoldable pub named_by_steps : List ℤ → Header → ℕ → ℕ → Bool
named_by_steps s h k a =
    named_by_operations s h h.operations a || any_below (λ j. eqb (kind_of (step s h j)) 1 && eqb (node_named (step s h j)) a) k

-- 02, CR 6: the tree under node a cites no element outside a quantifier over its list
unfoldable pub closed : List ℤ → Header → ℕ → Bool
closed s h a = all_below (λ f. not (loose s h a f)) h.facts

-- a when-node, precondition or branch: it exists, is Bool, cites elements as it may, and is not named already
unfoldable pub good_root : List ℤ → Header → ℕ → Bool → Bool
good_root s h a named = ltb a h.nodes && eqb (item_of s h a).sort 0 && closed s h a && not named
