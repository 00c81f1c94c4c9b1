-- The states that an operation starts from, one for each entity.
-- Assumes nothing.
use Rattle.std.specs.Prelude.{ℕ, ℤ, pos, get_or, List}
use Rattle.signed.specs.Words.{num}

-- the present state of entity n as a number; a negative word is past every state
abbrev pub present : List ℤ → ℕ → ℕ
present states n = num (get_or states n (pos 0))
