-- Truth values as 1 and 0.
-- Assumes nothing.
use mathlib.Core.Path.{◌≡◌, refl}
use mathlib.Core.Bool.{Bool, true, false, not, ◌&&◌, ◌||◌}
use Prim.Native.Nat.{zero, suc}
use lib.IntN.{ℤ, pos, negsuc, ◌-ℤ◌}
use native.Mathlib.Omega.{arith}
use Rattle.signed.specs.Words.{eq_z, min_z, max_z}
use Rattle.signed.proofs.Bounds.{In}
use Rattle.node.specs.Rows.{bit, is_true}

-- x is 0 or 1
abbrev pub IsBool : ℤ → Type 0
IsBool x = In (pos 0) x (pos 1)

pub bit_bool : (b : Bool) → IsBool (bit b)
bit_bool true = omega arith
bit_bool false = omega arith

pub bool_bit : (x : ℤ) → IsBool x → x ≡ bit (is_true x)
unfolding eq_z
bool_bit (pos zero) i = refl
bool_bit (pos (suc zero)) i = refl
bool_bit (pos (suc (suc n))) i = absurd (omega arith)
bool_bit (negsuc n) i = absurd (omega arith)

pub true_bit : (b : Bool) → is_true (bit b) ≡ b
unfolding eq_z
true_bit true = refl
true_bit false = refl

-- on 0 and 1, "and" is the smaller, "or" the larger, "not" what is left to 1
and_min : (a b : Bool) → bit (a && b) ≡ min_z (bit a) (bit b)
unfolding min_z
and_min true true = refl
and_min true false = refl
and_min false true = refl
and_min false false = refl

or_max : (a b : Bool) → bit (a || b) ≡ max_z (bit a) (bit b)
unfolding max_z
or_max true true = refl
or_max true false = refl
or_max false true = refl
or_max false false = refl

not_minus : (a : Bool) → bit (not a) ≡ (pos 1 -ℤ bit a)
not_minus true = refl
not_minus false = refl

pub both_min : (x y : ℤ) → IsBool x → IsBool y → bit (is_true x && is_true y) ≡ min_z x y
both_min x y i j = rw (bool_bit x i, bool_bit y j, true_bit (is_true x), true_bit (is_true y)) (and_min (is_true x) (is_true y))

pub either_max : (x y : ℤ) → IsBool x → IsBool y → bit (is_true x || is_true y) ≡ max_z x y
either_max x y i j = rw (bool_bit x i, bool_bit y j, true_bit (is_true x), true_bit (is_true y)) (or_max (is_true x) (is_true y))

pub negate_minus : (x : ℤ) → IsBool x → bit (not (is_true x)) ≡ (pos 1 -ℤ x)
negate_minus x i = rw (bool_bit x i, true_bit (is_true x)) (not_minus (is_true x))
