-- `facts::fill_defaults` meets its contract: the entries passed hold their facts, the others what they held. Assumes nothing.
use Rattle.facts.proofs.Filled.{Filled}
use Rattle.facts.specs.Assembled.{value_taken}
use lib.ListN.{get_or}
use lib.IntN.{pos}
use Prim.Native.Nat.{ℕ}
use Rattle.facts.proofs.fill_defaults.Given as goal

abbrev pub invariant-loop-k : goal.invariant-loop-k
invariant-loop-k l = Filled (λ (j : ℕ). value_taken l.s.sheet.words.now j (get_or l.initial.values j (pos 0)) (get_or l.given j (pos 0))) (pos 0) l.initial.values l.n l.k l.values
