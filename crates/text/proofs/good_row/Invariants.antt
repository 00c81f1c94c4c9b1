-- `text::good_row` meets its contract. The loop's invariant: so many words of the line are judged. Assumes nothing.
use Rattle.text.proofs.WriteLoops.{Testing}
use Rattle.text.proofs.good_row.Given as goal

abbrev pub invariant-loop-w : goal.invariant-loop-w
invariant-loop-w l = Testing l.row l.good l.w-index
