-- What refusal 4 of lent states tests.
-- Assumes nothing.
use mathlib.Core.Path.{◌≡◌}
use mathlib.Core.Bool.{true}
use Prim.Native.Nat.{◌≤◌, ◌%◌}
use lib.ListN.{length}
use Rattle.tables.proofs.Bools.{tests}
use Rattle.layout.specs.declared.Header.{Header}
use Rattle.instances.specs.Records.{LentStates, count, states_lent}

-- the records are whole and not too many, and there is an instance number for each entity
pub record Whole (h : Header) (q : LentStates) : Type 0 where
  pub threes : length q.records % 3 ≡ 0
  pub few : count q.records ≤ 256
  pub long : length q.instances ≡ h.entities

pub lent_whole : (h : Header) (q : LentStates) → states_lent h q ≡ true → Whole h q
unfolding states_lent
lent_whole h q p = let z = simp tests at p in record { threes = z.0.0; few = z.0.1; long = z.1 }
