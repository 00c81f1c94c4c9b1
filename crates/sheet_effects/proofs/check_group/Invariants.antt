-- `sheet_effects::check_group` meets its contract. Assumes nothing.
use Rattle.sheet_effects.proofs.Scan.{Turn}
use lib.ListN.{length}
use Rattle.sheet_effects.proofs.check_group.Given as goal

abbrev pub invariant-loop-e : goal.invariant-loop-e
invariant-loop-e l = Turn l.s.words.now l.s.header (length l.initial.seen) l.first l.e l.before l.seen
