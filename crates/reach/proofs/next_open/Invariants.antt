-- `reach::next_open` meets its contract. Assumes nothing.
use Rattle.reach.proofs.Flags.{Passed}
use Rattle.reach.proofs.next_open.Given as goal

abbrev pub invariant-loop-q : goal.invariant-loop-q
invariant-loop-q l = Passed l.found l.scanned l.q
