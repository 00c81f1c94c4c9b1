-- `sheet_nodes::judge_single` meets its contract. Assumes nothing.
use mathlib.Core.Path.{◌≡◌}
use borrow.Author.Rules.{rules}
use Rattle.signed.specs.Words.{num}
use Rattle.sheet_nodes.specs.Steps.{leaf_given}
use Rattle.sheet_nodes.proofs.Scan.{same_fact}
use Rattle.sheet_nodes.proofs.judge_single.Goals as goal

pub returns : goal.returns
returns c = let e : c.num.result ≡ num c.args.w.w1 = search rules in
    rw c.judge_leaf.ensures (same_fact _ (leaf_given c.args.s.now.words.now c.args.s.now.header c.args.w) c.fact_of-fact.result (rw e at c.fact_of-fact.ensures))
