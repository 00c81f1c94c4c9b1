-- What the inner functions ask and answer, and what proofs speak of. The definitions of the other files do not rest on these.
-- Assumes nothing.
use Rattle.std.specs.Prelude.{◌≡◌, Bool, true, ℕ, ℤ}
use Rattle.signed.specs.Words.{within}
use Rattle.signed.specs.Compare.{holds}

-- x lies in l₁..h₁, y in l₂..h₂, and the comparison of x with y comes to t
pub record Pair (op : ℕ) (t : Bool) (l₁ h₁ l₂ h₂ : ℤ) : Type 0 where
  pub x : ℤ
  pub y : ℤ
  pub in₁ : within l₁ x h₁ ≡ true
  pub in₂ : within l₂ y h₂ ≡ true
  pub so : holds op x y ≡ t
