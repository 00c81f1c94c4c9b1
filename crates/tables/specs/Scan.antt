-- Tests and sums over the numbers below a bound, and the first number that fails a test.
-- Assumes nothing.
use Rattle.std.specs.Prelude.{ℕ, zero, suc, ◌+◌, Bool, true, false, ◌&&◌, ◌||◌}

-- f holds of every number below n
unfoldable pub all_below : (ℕ → Bool) → ℕ → Bool
all_below f zero = true
all_below f (suc n) = all_below f n && f n

-- f holds of some number below n
unfoldable pub any_below : (ℕ → Bool) → ℕ → Bool
any_below f zero = false
any_below f (suc n) = any_below f n || f n

-- the sum of f over the numbers below n
unfoldable pub sum_below : (ℕ → ℕ) → ℕ → ℕ
sum_below f zero = 0
sum_below f (suc n) = sum_below f n + f n

-- the first of the n numbers from i on that fails f, or i + n where none does
unfoldable pub first_fail : (ℕ → Bool) → ℕ → ℕ → ℕ
first_fail f i zero = i
first_fail f i (suc n) = elim (f i) [ true ↦ first_fail f (suc i) n | false ↦ i ]
