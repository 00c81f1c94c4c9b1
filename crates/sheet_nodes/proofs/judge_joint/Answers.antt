-- `sheet_nodes::judge_joint` meets its contract. Assumes nothing.
use mathlib.Core.Path.{◌≡◌}
use borrow.Author.Rules.{rules}
use Rattle.signed.specs.Words.{num}
use Rattle.sheet_nodes.specs.Steps.{given_by}
use Rattle.sheet_nodes.proofs.Scan.{parent_fact}
use Rattle.sheet_nodes.proofs.judge_joint.Goals as goal

pub returns : goal.returns
returns c = let e : c.num.result ≡ num c.args.w.w1 = search rules in
    rw (c.judge_parent.ensures, c.align-2.ensures, c.align.ensures, c.kid_items.ensures.first, c.kid_items.ensures.second)
    (parent_fact _ (given_by c.args.s.now.words.now c.args.s.now.header c.args.w c.args.c c.args.ranges.now c.args.trees.now) c.fact_of-fact.result
    (rw e at c.fact_of-fact.ensures))
