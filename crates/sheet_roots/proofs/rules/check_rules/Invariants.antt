-- `sheet_roots::rules::check_rules` meets its contract. Assumes nothing.
use Rattle.sheet_roots.proofs.RuleScan.{Turn}
use Rattle.sheet_roots.proofs.rules.check_rules.Given as goal

abbrev pub invariant-loop-k : goal.invariant-loop-k
invariant-loop-k l = Turn l.s.words.now l.s.header l.initial.trees l.k l.trees
