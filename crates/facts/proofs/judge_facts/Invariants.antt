-- `facts::judge_facts` meets its contract: the facts passed have no fault. Assumes nothing.
use Rattle.facts.specs.Lent.{lent}
use Rattle.facts.specs.Faults.{fact_fault}
use Rattle.facts.specs.Inner.{UsedBefore}
use Rattle.facts.proofs.Refused.{Clear}
use Rattle.facts.proofs.judge_facts.Given as goal

abbrev pub invariant-loop-k : goal.invariant-loop-k
invariant-loop-k l = Clear (fact_fault l.s.sheet.words.now (lent l.values l.given l.lists l.lengths)) l.facts l.k × UsedBefore l.s.sheet.words.now l.k l.used
