-- `facts::all_in_fact` meets its contract: the words passed are in range. Assumes nothing.
use Rattle.facts.specs.Faults.{in_fact}
use Rattle.tables.specs.Lists.{all_of}
use Rattle.tables.proofs.Elements.{Rest}
use Rattle.facts.proofs.all_in_fact.Given as goal

abbrev pub invariant-loop-i : goal.invariant-loop-i
invariant-loop-i l = Rest all_of (in_fact l.s l.k) l.t l.a l.n l.i
