-- The natural number that a word is: bounds and equality of the word are those of its number. Assumes nothing.
use mathlib.Core.Path.{◌≡◌, refl, sym, ap, ◌∙◌}
use mathlib.Core.Bool.{Bool, true, false, ◌&&◌}
use Prim.Native.Nat.{ℕ, ◌^◌, ◌≤◌, ◌<◌}
use native.Mathlib.Omega.{arith}
use lib.Dec.{leb, eqb}
use lib.IntN.{ℤ, pos, negsuc}
use mir.Syntax.{w64}
use mir.Val.{SFits, of_z}
use borrow.Author.Tests.{lt-leb, ne_eqb}
use Rattle.signed.specs.Words.{eq_z, within, num}
use Rattle.signed.proofs.Parts.{Le}
use Rattle.signed.proofs.Bounds.{In}

pub num_of : (n : ℕ) → num (pos n) ≡ n
unfolding num
num_of n = refl

-- a word whose number is below the limit is that number
pub num_is : (w : ℤ) → num w < 2 ^ 63 → w ≡ pos (num w)
unfolding num
num_is (pos n) h = refl
num_is (negsuc n) h = absurd (omega arith)

pub num_pos : (w : ℤ) {n : ℕ} → num w ≡ n → n < 2 ^ 63 → w ≡ pos n
num_pos w e h = num_is w (omega arith) ∙ ap pos e

-- a negative word's number is past every limit
pub num_large : (n : ℕ) → 2 ^ 63 ≤ num (negsuc n)
unfolding num
num_large n = omega arith

-- bounds of a word are bounds of its number
pub num_in : {a w b : ℕ} → a ≤ w → w ≤ b → In (pos a) (pos w) (pos b)
num_in h k = omega arith

pub in_num : {a b : ℕ} (w : ℤ) → In (pos a) w (pos b) → (a ≤ num w) × (num w ≤ b)
unfolding num
in_num (pos n) i = omega arith
in_num (negsuc n) i = omega arith

pub num_le : {v w : ℤ} → Le (pos 0) v → Le v w → num v ≤ num w
unfolding num
num_le {v = pos m} {w = pos n} z h = omega arith
num_le {v = pos m} {w = negsuc n} z h = omega arith
num_le {v = negsuc m} {w} z h = omega arith

and_false : (t : Bool) → t && false ≡ false
and_false true = refl
and_false false = refl

pub within_num : (a : ℕ) (w : ℤ) (b : ℕ) → b < 2 ^ 63 → within (pos a) w (pos b) ≡ leb a (num w) && leb (num w) b
unfolding within num
within_num a (pos n) b h = refl
within_num a (negsuc n) b h = rw (lt-leb (num (negsuc n)) b (omega (arith, num_large n)), and_false (leb a (num (negsuc n))))

pub same_num : (w : ℤ) (n : ℕ) → n < 2 ^ 63 → eq_z w (pos n) ≡ eqb (num w) n
unfolding eq_z num
same_num (pos m) n h = refl
same_num (negsuc m) n h = sym (ne_eqb (num (negsuc m)) n (λ e. omega (arith, num_large m)))

-- a word's bits, read without a sign
pub bits_num : (w : ℤ) → SFits w64 w → of_z w64 w ≡ num w
unfolding num
bits_num (pos n) f = refl
bits_num (negsuc n) f = omega arith
