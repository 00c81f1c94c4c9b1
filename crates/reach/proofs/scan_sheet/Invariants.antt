-- `reach::scan_sheet` meets its contract: the flags say where the transitions passed lead. Assumes nothing.
use Rattle.reach.proofs.Scanning.{Scanning}
use Rattle.reach.proofs.scan_sheet.Given as goal

abbrev pub invariant-loop-k : goal.invariant-loop-k
invariant-loop-k l = Scanning l.s.sheet.words.now l.s.sheet.header l.n.0 l.state l.initial.found l.k l.moves l.found
