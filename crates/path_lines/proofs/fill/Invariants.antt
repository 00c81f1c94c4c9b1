-- `path_lines::fill` meets its contract: with the bytes that are written, what remains is what remained. Assumes nothing.
use Rattle.path_lines.proofs.Filling.{Filling}
use lib.ListN.{length}
use Prim.Native.Nat.{◌-◌}
use Rattle.path_lines.proofs.fill.Given as goal

abbrev pub invariant-loop-c : goal.invariant-loop-c
invariant-loop-c l = Filling l.s.sheet.words.now l.s.sheet.header l.initial.c l.initial.path l.initial.out l.c l.path l.n l.out

abbrev pub decreases-loop-c : goal.decreases-loop-c
decreases-loop-c l = length l.initial.out - l.n
