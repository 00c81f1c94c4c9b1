-- 01, "Types", and 02, CR 4, as numbers: 0 Bool, 1 Int, 2 + s an Enum of value set s, 130 + c Money of currency c, 258 + u a Duration in
-- unit u (0 days, 1 hours, 2 minutes, 3 seconds).
-- Assumes nothing.
use Rattle.std.specs.Prelude.{ℕ, Bool, ◌||◌, leb, eqb}

abbrev pub is_duration : ℕ → Bool
is_duration t = leb 258 t

-- what sum, difference and < ≤ > ≥ take: Int, Money, Duration
abbrev pub is_number : ℕ → Bool
is_number t = eqb t 1 || leb 130 t
