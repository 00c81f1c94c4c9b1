-- `run::flow_covers` meets its contract: step by step. Assumes nothing.
use Rattle.run.proofs.Coverage.{Looked}
use Rattle.run.proofs.flow_covers.Given as goal

abbrev pub invariant-loop-k : goal.invariant-loop-k
invariant-loop-k l = Looked l.s.sheet.words.now l.s.sheet.header l.found l.first l.seen l.k
