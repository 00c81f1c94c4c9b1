-- `sheet_nodes::check_nodes` meets its contract. Assumes nothing.
use Rattle.sheet_nodes.specs.Arrays.{Filled}
use Rattle.sheet_nodes.proofs.check_nodes.Given as goal

abbrev pub invariant-loop-n : goal.invariant-loop-n
invariant-loop-n l = Filled l.s.words.now l.s.header l.n l.ranges l.trees
