-- `causes::can_cause` meets its contract: none of the operations passed causes the change. Assumes nothing.
use Rattle.causes.proofs.Causing.{Uncaused}
use Rattle.causes.proofs.can_cause.Given as goal

abbrev pub invariant-loop-o : goal.invariant-loop-o
invariant-loop-o l = Uncaused l.s.sheet.words.now l.s.sheet.header l.p.0 l.n.0 l.from l.to l.o
