-- `layout::good_group` meets its contract: the scan sums the counts and stops at one past its bound. Assumes nothing.
use Rattle.layout.proofs.Groups.{Summed}
use Rattle.words.specs.Record.{number}
use Prim.Native.Nat.{ℕ, ◌+◌}
use Rattle.layout.proofs.good_group.Given as goal

abbrev pub invariant-loop-i : goal.invariant-loop-i
invariant-loop-i l = Summed (λ (k : ℕ). number l.s (l.first + k) l.j) l.i l.sum
