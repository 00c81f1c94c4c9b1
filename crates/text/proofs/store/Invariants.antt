-- `text::store` meets its contract. The loop's invariant: with the words that are left, the slice is as it is to be. Assumes nothing.
use Rattle.text.proofs.ReadLoops.{Storing}
use Rattle.text.proofs.store.Given as goal

abbrev pub invariant-loop-i : goal.invariant-loop-i
invariant-loop-i l = Storing l.text l.words l.at l.i
