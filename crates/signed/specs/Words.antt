-- Tests, bounds and numbers of signed words, as integers. Assumes nothing.
use Rattle.std.specs.Prelude.{Bool, false, ◌&&◌, cond, ℕ, ◌+◌, ◌-◌, ◌^◌, eqb, ℤ, pos, negsuc, neg_ℤ}
use Rattle.std.specs.Int.Signed.{le_z}

-- the two integers are the same
unfoldable pub eq_z : ℤ → ℤ → Bool
eq_z (pos a) (pos b) = eqb a b
eq_z (pos a) (negsuc b) = false
eq_z (negsuc a) (pos b) = false
eq_z (negsuc a) (negsuc b) = eqb a b

-- x lies in low..high, both ends included
unfoldable pub within : ℤ → ℤ → ℤ → Bool
within low x high = le_z low x && le_z x high

-- 01: M is 1,000,000,000
abbrev pub big : ℕ
big = 1_000_000_000

-- x lies in −M..M
unfoldable pub bounded : ℤ → Bool
bounded x = within (neg_ℤ (pos big)) x (pos big)

-- the natural number that a word is; a negative word is a number past every limit, 2^63 or more: its 64 bits read without a sign
unfoldable pub num : ℤ → ℕ
num (pos n) = n
num (negsuc n) = 2 ^ 63 + (2 ^ 63 - 1 - n)

-- the smaller of two integers
unfoldable pub min_z : ℤ → ℤ → ℤ
min_z a b = cond (le_z a b) a b

-- the larger of two integers
unfoldable pub max_z : ℤ → ℤ → ℤ
max_z a b = cond (le_z a b) b a
