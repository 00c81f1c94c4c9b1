-- `operation::collect` meets its contract: the flags say which entities are matched by the effects passed. Assumes nothing.
use Rattle.operation.proofs.Blocks.{Collecting}
use Rattle.operation.proofs.collect.Given as goal

abbrev pub invariant-loop-e : goal.invariant-loop-e
invariant-loop-e l = Collecting l.s.sheet.words.now l.s.sheet.header l.states l.at l.j l.end l.e l.found
