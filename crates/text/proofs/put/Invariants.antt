-- `text::put` meets its contract. The loop's invariant: with the fields that are left, the text is as it is to be. Assumes nothing.
use Rattle.text.proofs.WriteLoops.{Putting}
use Rattle.text.proofs.put.Given as goal

abbrev pub invariant-loop-i : goal.invariant-loop-i
invariant-loop-i l = Putting l.words l.initial.text l.text l.at l.i
