-- `facts::used_by_all` meets its contract: what the facts passed use is counted. Assumes nothing.
use Prim.Native.Nat.{◌≤◌}
use Rattle.facts.specs.Inner.{UsedBefore}
use Rattle.facts.proofs.used_by_all.Given as goal

abbrev pub invariant-loop-k : goal.invariant-loop-k
invariant-loop-k l = (l.k ≤ l.n) × UsedBefore l.s.sheet.words.now l.k l.used
