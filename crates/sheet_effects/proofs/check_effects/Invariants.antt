-- `sheet_effects::check_effects` meets its contract. Assumes nothing.
use Rattle.sheet_effects.proofs.Scan.{Walk}
use lib.ListN.{length}
use Rattle.sheet_effects.proofs.check_effects.Given as goal

abbrev pub invariant-loop-o : goal.invariant-loop-o
invariant-loop-o l = Walk l.s.words.now l.s.header (length l.initial.seen) l.o l.first l.seen
