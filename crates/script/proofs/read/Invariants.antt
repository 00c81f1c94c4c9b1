-- `read` meets its contract. The invariant: no more numbers than the tape has room for.
use Rattle.std.proofs.Common.{◌≤◌, length}
use Rattle.script.proofs.read.Given as goal

abbrev pub invariant-loop-b : goal.invariant-loop-b
invariant-loop-b l = l.k ≤ length l.tape
