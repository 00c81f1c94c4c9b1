-- `depth::longest` meets its contract: the steps from the last one down to the first have their depths in the table. Assumes nothing.
use Rattle.depth.proofs.Depths.{Deep}
use Rattle.depth.proofs.longest.Given as goal

abbrev pub invariant-loop-step : goal.invariant-loop-step
invariant-loop-step l = Deep l.s.sheet.words.now l.s.sheet.header l.first l.end l.depths l.step
