-- `operation::apply` meets its contract: each entity is as it was lent or where the effect that moves it leads. Assumes nothing.
use Rattle.operation.proofs.Moving.{Moving}
use Rattle.operation.proofs.apply.Given as goal

abbrev pub invariant-loop-e : goal.invariant-loop-e
invariant-loop-e l = Moving l.s.sheet.words.now l.s.sheet.header l.initial.states l.initial.e l.j l.e-end l.e l.moved l.states
