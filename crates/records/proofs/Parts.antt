-- Parts of a good record that later records are judged by.
-- Assumes nothing.
use mathlib.Core.Path.{◌≡◌}
use mathlib.Core.Bool.{true}
use mathlib.Core.List.{List}
use Prim.Native.Nat.{ℕ, ◌≤◌}
use lib.IntN.{ℤ}
use Rattle.tables.proofs.Bools.{tests}
use Rattle.layout.specs.declared.Header.{Header}
use Rattle.layout.specs.Tables.{operation}
use Rattle.records.specs.Operations.{good_operation}

pub few_outcomes : (s : List ℤ) (h : Header) (k : ℕ) → good_operation s h k ≡ true → (operation s h k).w4 ≤ 8
unfolding good_operation
few_outcomes s h k p = let q = simp tests at p in q.0.1
