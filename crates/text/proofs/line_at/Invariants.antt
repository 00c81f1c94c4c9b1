-- `text::line_at` meets its contract. The loop's invariant: the words so far stand at the line's start. Assumes nothing.
use Rattle.text.proofs.LineSteps.{SoFar}
use Rattle.text.proofs.line_at.Given as goal

abbrev pub invariant-loop-j : goal.invariant-loop-j
invariant-loop-j l = SoFar l.text l.at l.next l.j
