-- `run::good_words` meets its contract: word by word. Assumes nothing.
use Rattle.run.proofs.Wants.{WordsSoFar}
use Rattle.run.proofs.good_words.Given as goal

abbrev pub invariant-loop-k : goal.invariant-loop-k
invariant-loop-k l = WordsSoFar l.s.sheet.words.now l.s.sheet.header l.first l.words l.k
