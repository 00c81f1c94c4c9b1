use Rattle.records.specs.Nodes.{good_node}
use Rattle.records.proofs.Scans.{stopped, ended}
use Rattle.sheet_nodes.proofs.Turns.{begin}
use mathlib.Core.Path.{sym, ◌∙◌}
use native.Mathlib.Omega.{arith}
use Rattle.sheet_nodes.proofs.check_nodes.Goals as goal

pub loop-n-init : goal.loop-n-init
loop-n-init c = begin _ _ c.requires.1 (omega arith) (omega arith) (omega arith) (omega arith) (omega arith) (omega arith)

pub take_node-requires : goal.take_node-requires
take_node-requires c = record { begun = c.requires.0; exists = c.loop-n-test.true; filled = c.loop-n.invariant }

pub returns-then-not-take_node-clause-value : goal.returns-then-not-take_node-clause-value
returns-then-not-take_node-clause-value c = stopped _ (good_node c.args.s.now.words.now c.args.s.now.header) _ c.loop-n.n (omega arith)
    c.loop-n-test.true c.loop-n.invariant.good (sym c.take_node.ensures.judged ∙ c.if-not-take_node.true)

pub returns-clause-value : goal.returns-clause-value
returns-clause-value c = ended _ (good_node c.args.s.now.words.now c.args.s.now.header) _ (λ j l. c.loop-n.invariant.good j (omega arith))
