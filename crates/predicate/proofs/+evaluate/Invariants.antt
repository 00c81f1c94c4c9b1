-- `predicate::evaluate` ends: the node number falls.
use Rattle.layout.specs.Header.{header_of}
use Rattle.facts.specs.Inner.{held}
use Rattle.kinds.proofs.SweepLaws.{Swept}
use Rattle.predicate.specs.Units.{seconds_of}
use Rattle.predicate.proofs.+evaluate.Given as goal

abbrev pub decreases-evaluate : goal.decreases-evaluate
decreases-evaluate l = l.n.0

-- none of the elements so far decides
abbrev pub invariant-loop-j : goal.invariant-loop-j
invariant-loop-j l = Swept l.exists (seconds_of l.s (header_of l.s) (held l.s l.facts l.lists) l.verdicts l.a) l.lists l.first l.count l.j
