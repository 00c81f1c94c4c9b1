-- What the inner functions ask and answer, and what proofs speak of. The definitions of the other files do not rest on these.
-- Assumes nothing.
use Rattle.std.specs.Prelude.{ℕ, List, set, Bool, true, cond}

-- the flags with number i set, where `on` says so; `set` past the end changes nothing
abbrev pub marked : Bool → ℕ → List Bool → List Bool
marked on i t = cond on (set t i true) t
