-- `reach::scan_moves` meets its contract: flag by flag. Assumes nothing.
use Rattle.reach.proofs.Scanning.{Joining}
use Rattle.reach.proofs.scan_moves.Given as goal

abbrev pub invariant-loop-q : goal.invariant-loop-q
invariant-loop-q l = Joining l.row l.initial.found l.q l.found
