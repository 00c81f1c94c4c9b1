-- `instances::gather` meets its contract: record by record. Assumes nothing.
use Rattle.instances.specs.Records.{lent_states}
use Rattle.instances.specs.Inner.{Gathered}
use Rattle.instances.proofs.gather.Given as goal

abbrev pub invariant-loop-i : goal.invariant-loop-i
invariant-loop-i l = Gathered (lent_states l.rs l.is) l.i l.states l.found
