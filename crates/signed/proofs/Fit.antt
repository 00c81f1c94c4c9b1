-- What a signed word of 64 bits holds, and how the machine's bits read as an integer. Assumes nothing.
use mathlib.Core.Path.{◌≡◌, refl, sym, ap, ◌∙◌}
use mathlib.Core.Bool.{Bool, true, false}
use Prim.Native.Nat.{◌+◌, ◌^◌, ◌<◌}
use native.Mathlib.Nat.{mul-le-mul}
use native.Mathlib.Omega.{arith}
use lib.Dec.{eqb}
use lib.IntN.{ℤ, pos, negsuc, ◌+ℤ◌, ◌-ℤ◌, ◌*ℤ◌}
use lib.Signed.{mag}
use mir.Syntax.{w64}
use mir.Val.{SFits, to_z, of_z}
use mir.ValLaws.{to_z-of_z}
use borrow.Author.Tests.{eq-eqb, ne_eqb}
use Rattle.signed.specs.Words.{eq_z}
use Rattle.signed.proofs.Parts.{P, N, eq_true, eq_false, size_plus, size_minus, size_times}
use Rattle.signed.proofs.Bounds.{Small}

pub fits_size : (z : ℤ) → P z + N z < 2 ^ 63 → SFits w64 z
fits_size (pos n) h = record { sfits = omega arith }
fits_size (negsuc n) h = record { sfits = omega arith }

pub fits_small : {z : ℤ} → Small z → SFits w64 z
fits_small {z} s = fits_size z (omega arith)

pub fits_plus : {a b : ℤ} → Small a → Small b → SFits w64 (a +ℤ b)
fits_plus {a} {b} s t = fits_size (a +ℤ b) (omega (arith, size_plus a b))

pub fits_minus : {a b : ℤ} → Small a → Small b → SFits w64 (a -ℤ b)
fits_minus {a} {b} s t = fits_size (a -ℤ b) (omega (arith, size_minus a b))

pub fits_times : {a b : ℤ} → Small a → Small b → SFits w64 (a *ℤ b)
fits_times {a} {b} s t = fits_size (a *ℤ b) (omega (arith, size_times a b, mul-le-mul s.small t.small))

-- a word read back from its bits: of a parameter, `back c.fits.x`; of a call's result, `back_of c.f.result c.f.ok`
pub back : {z : ℤ} → SFits w64 z → to_z w64 (of_z w64 z) ≡ z
back {z} f = to_z-of_z w64 z f

pub back_of : (z : ℤ) → mag z < 2 ^ 63 → to_z w64 (of_z w64 z) ≡ z
back_of z h = back (record { sfits = h })

-- words are the same where their bits are
pub same_bits : (a b : ℤ) → SFits w64 a → SFits w64 b → eqb (of_z w64 a) (of_z w64 b) ≡ eq_z a b
same_bits a b f g = go (eq_z a b) refl
  where
    go : (t : Bool) → eq_z a b ≡ t → eqb (of_z w64 a) (of_z w64 b) ≡ t
    go true e = eq-eqb (of_z w64 a) (of_z w64 b) (ap (of_z w64) (eq_true a b e))
    go false e =
        ne_eqb (of_z w64 a) (of_z w64 b)
        (λ q. eq_false a b e (sym (back f) ∙ ap (to_z w64) q ∙ back g))
