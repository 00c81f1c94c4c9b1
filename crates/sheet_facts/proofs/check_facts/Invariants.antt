-- `sheet_facts::check_facts` meets its contract. Assumes nothing.
use Rattle.sheet_facts.proofs.Maxes.{Noted}
use Rattle.sheet_facts.proofs.check_facts.Given as goal

abbrev pub invariant-loop-k : goal.invariant-loop-k
invariant-loop-k l = Noted l.s.words.now l.k l.maxes
