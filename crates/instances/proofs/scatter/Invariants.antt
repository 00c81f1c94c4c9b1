-- `instances::scatter` meets its contract: record by record. Assumes nothing.
use Rattle.instances.specs.Records.{lent_states}
use Rattle.instances.proofs.Scattering.{Scattering}
use Rattle.instances.proofs.scatter.Given as goal

abbrev pub invariant-loop-i : goal.invariant-loop-i
invariant-loop-i l = Scattering (lent_states l.initial.rs l.is) l.states l.rs l.i
