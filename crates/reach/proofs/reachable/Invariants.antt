-- `reach::reachable` meets its contract: at the end all that is found is scanned. Assumes nothing.
use Rattle.std.proofs.Common.{◌-◌}
use Rattle.reach.proofs.Exploring.{Exploring, states_scanned}
use Rattle.reach.proofs.reachable.Given as goal

abbrev pub invariant-loop-next : goal.invariant-loop-next
invariant-loop-next l = Exploring l.s.sheet.words.now l.s.sheet.header l.n.0 l.moves l.found l.scanned l.next l.scans

abbrev pub decreases-loop-next : goal.decreases-loop-next
decreases-loop-next l = 16 - states_scanned l.scanned
