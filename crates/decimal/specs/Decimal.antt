-- 01, "Text of a sheet": the decimal of a word, and the word that a field says.
-- Assumes nothing.
use Rattle.std.specs.Prelude.{ℕ, zero, suc, ◌+◌, ◌-◌, ◌*◌, ◌/◌, ◌%◌, Bool, true, false, cond, ◌&&◌, List, [], ◌∷◌, ◌++◌, leb, ltb, eqb, ℤ, pos, negsuc, neg_ℤ, nat_abs}

-- M is 1,000,000,000
abbrev pub M : ℕ
M = 1000000000

-- at most `most` digits and one more: the last is n's remainder by ten, and none stands before a number below ten
unfoldable pub digits_in : ℕ → ℕ → List ℕ
digits_in zero n = (48 + n) ∷ []
digits_in (suc most) n =
    elim (ltb n 10) [ true ↦ (48 + n) ∷ [] | false ↦ digits_in most (n / 10) ++ ((48 + n % 10) ∷ []) ]

-- the digits of n, as bytes: n has no more than n digits and one more
unfoldable pub digits : ℕ → List ℕ
digits n = digits_in n n

-- a minus before the digits of a negative word
unfoldable pub sign : ℤ → List ℕ
sign (pos n) = []
sign (negsuc n) = 45 ∷ []

-- the decimal of a word: its sign, and the digits of its magnitude
unfoldable pub decimal : ℤ → List ℕ
decimal z = sign z ++ digits (nat_abs z)

-- a word has a text where it is within −M..M
unfoldable pub has_text : ℤ → Bool
has_text z = leb (nat_abs z) M

-- the bytes "0" to "9"
abbrev pub is_digit : ℕ → Bool
is_digit b = leb 48 b && leb b 57

-- the number that digits say after those that say m, up to the first byte that is no digit
unfoldable pub magnitude : ℕ → List ℕ → ℕ
magnitude m [] = m
magnitude m (b ∷ bs) = cond (is_digit b) (magnitude (m * 10 + (b - 48)) bs) m

-- the only word whose decimal a field can be. Whether it is, is judged by the decimal
unfoldable pub value : List ℕ → ℤ
value [] = pos 0
value (b ∷ bs) = cond (eqb b 45) (neg_ℤ (pos (magnitude 0 bs))) (pos (magnitude 0 (b ∷ bs)))
