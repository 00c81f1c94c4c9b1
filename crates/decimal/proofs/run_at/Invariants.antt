-- `decimal::run_at` meets its contract. The loop's invariant: the run from the start is the run from here on. Assumes nothing.
use Prim.Native.Nat.{◌≤◌, max}
use mathlib.Core.Path.{◌≡◌}
use lib.ListN.{length, drop}
use Rattle.decimal.specs.Scan.{run_at}
use Rattle.decimal.proofs.run_at.Given as goal

abbrev pub invariant-loop-next : goal.invariant-loop-next
invariant-loop-next l = (run_at 0 l.at (drop l.at l.text) ≡ run_at l.magnitude l.next (drop l.next l.text)) × (l.next ≤ max l.at (length l.text))
