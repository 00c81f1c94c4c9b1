-- `sheet_roots::steps::check_steps` meets its contract. Assumes nothing.
use Rattle.sheet_roots.proofs.StepScan.{Turn}
use Rattle.sheet_roots.proofs.steps.check_steps.Given as goal

abbrev pub invariant-loop-k : goal.invariant-loop-k
invariant-loop-k l = Turn l.s.words.now l.s.header l.initial.trees l.k l.sum l.trees
