-- `sheet_flows::check_group` meets its contract. Assumes nothing.
use Rattle.sheet_flows.proofs.Routes.{Turn}
use Rattle.sheet_flows.proofs.check_group.Given as goal

abbrev pub invariant-loop-k : goal.invariant-loop-k
invariant-loop-k l = Turn l.s.words.now l.s.header l.first l.k
