-- `sheet_roots::operations::check_operations` meets its contract. Assumes nothing.
use Rattle.sheet_roots.proofs.OperationScan.{Turn}
use Rattle.sheet_roots.proofs.operations.check_operations.Given as goal

abbrev pub invariant-loop-k : goal.invariant-loop-k
invariant-loop-k l = Turn l.s.words.now l.s.header l.initial.trees l.k l.sum l.trees
