-- `sheet_flows::check_routes` meets its contract. Assumes nothing.
use Rattle.sheet_flows.proofs.Routes.{Walk}
use Rattle.sheet_flows.proofs.check_routes.Given as goal

abbrev pub invariant-loop-i : goal.invariant-loop-i
invariant-loop-i l = Walk l.s.words.now l.s.header l.i l.first l.c
