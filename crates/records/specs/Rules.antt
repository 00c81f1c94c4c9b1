-- 01, "Rule": stratum 0..15, when-node. Strata never fall along the table, and a rule's tree cites only rules of smaller number and lower
-- stratum.
-- Assumes nothing.
use Rattle.std.specs.Prelude.{ℕ, ◌-◌, ℤ, Bool, ◌&&◌, ◌||◌, List, leb, ltb, eqb}
use Rattle.tables.specs.Lists.{all_of}
use Rattle.words.specs.Record.{unused}
use Rattle.layout.specs.declared.Header.{Header}
use Rattle.layout.specs.Tables.{rule, stratum_of, when_node_of}
use Rattle.records.specs.Nodes.{cited_by, tree_of}
use Rattle.records.specs.Names.{named_by_rules, good_root}

abbrev pub stratum : List ℤ → Header → ℕ → ℕ
stratum s h k = stratum_of (rule s h k)

-- rule c may be cited by rule k
abbrev pub lower : List ℤ → Header → ℕ → ℕ → Bool
lower s h k c = ltb c k && ltb (stratum s h c) (stratum s h k)

-- the tree under node n cites only what rule k may cite, however deep the citation
unfoldable pub cites_lower : List ℤ → Header → ℕ → ℕ → Bool
cites_lower s h k n = all_of (λ m. all_of (lower s h k) (cited_by s h m)) (tree_of s h n)

unfoldable pub good_rule : List ℤ → Header → ℕ → Bool
good_rule s h k =
    leb (stratum s h k) 15
    && (eqb k 0 || leb (stratum s h (k - 1)) (stratum s h k))
    && good_root s h (when_node_of (rule s h k)) (named_by_rules s h k (when_node_of (rule s h k)))
    && unused 2 (rule s h k)
    && cites_lower s h k (when_node_of (rule s h k))
