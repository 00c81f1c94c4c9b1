-- `path_lines::put_routes` meets its contract: the routes from number i on are still to be written. Assumes nothing.
use Rattle.path_lines.proofs.Writing.{Written}
use Rattle.path_lines.specs.Output.{numbers_line}
use lib.ListN.{take, drop}
use Rattle.path_lines.proofs.put_routes.Given as goal

abbrev pub invariant-loop-i : goal.invariant-loop-i
invariant-loop-i l = Written l.initial.out l.from (numbers_line (take l.n l.path)) l.out l.at (numbers_line (drop l.i (take l.n l.path)))
