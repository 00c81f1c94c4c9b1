-- 01, "Transition" and "Effect": both name an entity, a state from and a state to.
-- Assumes nothing.
use Rattle.std.specs.Prelude.{ℕ, Bool, ◌&&◌, eqb}
use Rattle.words.specs.declared.Record.{Record}
use Rattle.layout.specs.Tables.{entity_of, from_of, to_of}

-- a transition or an effect is entity n's, and starts from state a
unfoldable pub leaves : ℕ → ℕ → Record ℕ → Bool
leaves n a r = eqb (entity_of r) n && eqb (from_of r) a

-- and leads to state b
unfoldable pub leads : ℕ → ℕ → ℕ → Record ℕ → Bool
leads n a b r = leaves n a r && eqb (to_of r) b
