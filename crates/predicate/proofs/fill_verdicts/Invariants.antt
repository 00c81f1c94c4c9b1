-- `predicate::fill_verdicts` meets its contract: the verdicts passed are stored. Assumes nothing.
use Rattle.facts.specs.Inner.{held}
use Rattle.predicate.proofs.VerdictLaws.{Judged}
use Prim.Native.Nat.{◌-◌}
use Rattle.predicate.proofs.fill_verdicts.Given as goal

abbrev pub invariant-loop-k : goal.invariant-loop-k
invariant-loop-k l = Judged l.s.sheet.words.now l.s.sheet.header (held l.s.sheet.words.now l.facts l.lists) l.rules l.k l.out

abbrev pub decreases-loop-k : goal.decreases-loop-k
decreases-loop-k l = l.rules - l.k
