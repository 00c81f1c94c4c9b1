-- `sheet_flows::check_flows` meets its contract. Assumes nothing.
use Rattle.sheet_flows.proofs.Flows.{Turn}
use Rattle.sheet_flows.proofs.check_flows.Given as goal

abbrev pub invariant-loop-k : goal.invariant-loop-k
invariant-loop-k l = Turn l.s.words.now l.s.header l.k l.sum
