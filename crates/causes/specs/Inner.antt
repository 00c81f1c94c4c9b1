-- What the inner functions ask and answer, and what proofs speak of. The definitions of the other files do not rest on these.
-- Assumes nothing.
use Rattle.std.specs.Prelude.{ℕ, Bool, Option, None, Some}
use Rattle.words.specs.declared.Record.{Record}
use Rattle.reach.specs.Moves.{leaves, leads}

-- what an effect is looked for by: that it starts from state a of entity n, and that it leads to state b where one is given
unfoldable pub wanted : ℕ → ℕ → Option ℕ → Record ℕ → Bool
wanted n a None = leaves n a
wanted n a (Some b) = leads n a b
