-- Words that have a text as signed machine words: they fit, and so do their magnitudes and negations.
-- Assumes nothing.
use Prim.Native.Nat.{suc, ◌≤◌}
use mathlib.Core.Path.{◌≡◌, refl, sym, ◌∙◌}
use mathlib.Core.Bool.{true, ◌&&◌, and-true}
use native.Mathlib.Omega.{arith}
use borrow.Author.Tests.{leb-true}
use lib.Dec.{leb, leb-suc-suc}
use lib.IntN.{ℤ, pos, negsuc, nat_abs}
use lib.Signed.{le_z}
use mir.Syntax.{w64}
use mir.Val.{SFits}
use Rattle.decimal.specs.Decimal.{M, has_text}

-- the two bounds, as the machine tests them
pub bounds : (z : ℤ) → (le_z (negsuc 999999999) z && le_z z (pos 1000000000)) ≡ has_text z
unfolding has_text
bounds (pos n) = refl
bounds (negsuc n) = and-true (leb n 999999999) ∙ sym (leb-suc-suc n 999999999)

pub small : (z : ℤ) → has_text z ≡ true → nat_abs z ≤ M
unfolding has_text
small z h = leb-true (nat_abs z) M h

pub fits_word : (z : ℤ) → has_text z ≡ true → SFits w64 z
unfolding has_text
fits_word (pos n) h = record { sfits = omega (arith, leb-true n M h) }
fits_word (negsuc n) h = record { sfits = omega (arith, leb-true (suc n) M h) }
