-- `facts::assemble` meets its contract: the entries passed hold the words of their facts, the others what they held. Assumes nothing.
use lib.IntN.{pos}
use Rattle.facts.specs.Inner.{held_word, UsedBefore}
use Rattle.facts.proofs.Filled.{Filled}
use Rattle.facts.proofs.assemble.Given as goal

abbrev pub invariant-loop-k : goal.invariant-loop-k
invariant-loop-k l = Filled (held_word l.s.sheet.words.now l.values l.given l.lengths) (pos 0) l.initial.facts l.n l.k l.facts × UsedBefore l.s.sheet.words.now l.k l.used
