-- `sheet_states::check_entities` meets its contract. Assumes nothing.
use Rattle.records.specs.Entities.{good_entity}
use Rattle.layout.specs.Tables.{entity}
use mathlib.Core.Bool.{true}
use mathlib.Core.Path.{◌≡◌}
use Prim.Native.Nat.{ℕ, ◌<◌}
use Rattle.sheet_states.proofs.check_entities.Given as goal

abbrev pub invariant-loop-k : goal.invariant-loop-k
invariant-loop-k l = (j : ℕ) → j < l.k → good_entity (entity l.s.words.now l.s.header j) ≡ true
