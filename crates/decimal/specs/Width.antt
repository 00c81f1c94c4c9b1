-- What a step of the writer's count of digits answers. An inner contract cites it.
-- Assumes nothing.
use Rattle.std.specs.Prelude.{ℕ, cond, leb}

-- one digit more from `least` on
abbrev pub reached : ℕ → ℕ → ℕ
reached m least = cond (leb least m) 1 0
