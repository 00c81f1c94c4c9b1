-- The six comparisons of 01, and what a comparison can come to over two ranges of values. Assumes nothing.
use Rattle.std.specs.Prelude.{Bool, false, not, ◌&&◌, ◌||◌, ℕ, zero, suc, ℤ}
use Rattle.std.specs.Int.Signed.{lt_z, le_z}
use Rattle.signed.specs.Words.{eq_z, max_z}

-- 01: operator 0 =, 1 ≠, 2 <, 3 ≤, 4 >, 5 ≥; there is no other
unfoldable pub holds : ℕ → ℤ → ℤ → Bool
holds zero x y = eq_z x y
holds (suc zero) x y = not (eq_z x y)
holds (suc (suc zero)) x y = lt_z x y
holds (suc (suc (suc zero))) x y = le_z x y
holds (suc (suc (suc (suc zero)))) x y = lt_z y x
holds (suc (suc (suc (suc (suc zero))))) x y = le_z y x
holds (suc (suc (suc (suc (suc (suc op)))))) x y = false

-- whether f, which goes by the order of its two arguments alone, is true of some pair of the two ranges: if of any, then of one of these three
unfoldable pub some_pair : (ℤ → ℤ → Bool) → ℤ → ℤ → ℤ → ℤ → Bool
some_pair f l₁ h₁ l₂ h₂ =
    f l₁ h₂ || f h₁ l₂ || (le_z l₁ h₂ && le_z l₂ h₁ && f (max_z l₁ l₂) (max_z l₁ l₂))

-- 01: a comparison's range includes 1 if some pair of values from the two ranges satisfies it
unfoldable pub can_hold : ℕ → ℤ → ℤ → ℤ → ℤ → Bool
can_hold op l₁ h₁ l₂ h₂ = some_pair (holds op) l₁ h₁ l₂ h₂

-- and 0 if some pair does not
unfoldable pub can_fail : ℕ → ℤ → ℤ → ℤ → ℤ → Bool
can_fail op l₁ h₁ l₂ h₂ = some_pair (λ x y. not (holds op x y)) l₁ h₁ l₂ h₂
