-- `text::good_rows` meets its contract. The loop's invariant: the lines so far are good. Assumes nothing.
use Prim.Native.Nat.{◌+◌}
use mathlib.Core.Path.{◌≡◌}
use lib.ListN.{drop}
use Rattle.std.specs.List.{prefix_len}
use Rattle.text.specs.Lines.{good_row}
use Rattle.text.proofs.good_rows.Given as goal

abbrev pub invariant-loop-k : goal.invariant-loop-k
invariant-loop-k l = prefix_len good_row l.rows ≡ l.k + prefix_len good_row (drop l.k l.rows)
