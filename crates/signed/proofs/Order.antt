-- The order of the integers: its laws, the smaller and the larger of two, and what sums, differences and products keep of it.
-- Assumes nothing.
use mathlib.Core.Path.{◌≡◌, refl}
use mathlib.Core.Logic.{◌⊎◌, inl, inr, ⊎_elim}
use mathlib.Core.Bool.{Bool, true, false, cond}
use Prim.Native.Nat.{suc}
use native.Mathlib.Nat.{mul-le-mul_right}
use native.Mathlib.Omega.{arith}
use lib.IntN.{ℤ, pos, negsuc, neg_ℤ, ◌+ℤ◌, ◌-ℤ◌, ◌*ℤ◌}
use lib.Signed.{le_z}
use Rattle.std.specs.Int.{int_max, int_min}
use Rattle.signed.specs.Words.{min_z, max_z}
use Rattle.signed.proofs.Parts.{Le, Lt, le_true, le_false, ext, neg_parts, plus_parts, times_parts}

pub le_refl : (a : ℤ) → Le a a
le_refl a = omega arith

pub le_trans : {a b c : ℤ} → Le a b → Le b c → Le a c
le_trans h k = omega arith

pub lt_le_trans : {a b c : ℤ} → Lt a b → Le b c → Lt a c
lt_le_trans h k = omega arith

pub le_lt_trans : {a b c : ℤ} → Le a b → Lt b c → Lt a c
le_lt_trans h k = omega arith

pub lt_le : {a b : ℤ} → Lt a b → Le a b
lt_le h = omega arith

pub le_antisym : {a b : ℤ} → Le a b → Le b a → a ≡ b
le_antisym {a} {b} h k = ext a b (omega arith)

pub lt_irrefl : {a : ℤ} → Lt a a → ⊥
lt_irrefl h = omega arith

pub lt_not_le : {a b : ℤ} → Lt a b → Le b a → ⊥
lt_not_le h k = omega arith

pub le_or_lt : (a b : ℤ) → Le a b ⊎ Lt b a
le_or_lt a b = go (le_z a b) refl
  where
    go : (t : Bool) → le_z a b ≡ t → Le a b ⊎ Lt b a
    go true e = inl (le_true a b e)
    go false e = inr (le_false a b e)

pub le_total : (a b : ℤ) → Le a b ⊎ Le b a
le_total a b = ⊎_elim inl (λ h. inr (lt_le h)) (le_or_lt a b)

-- ---- the smaller and the larger of two

-- what std's `max` gives
pub int_max_z : (a b : ℤ) → int_max a b ≡ max_z a b
unfolding max_z
int_max_z a b = grind arith

-- and `min`
pub int_min_z : (a b : ℤ) → int_min a b ≡ min_z a b
unfolding min_z
int_min_z a b = grind arith

-- what holds of each of the two where it is the one taken, holds of the smaller
min_by : (Q : ℤ → Type 0) (a b : ℤ) → (Le a b → Q a) → (Le b a → Q b) → Q (min_z a b)
unfolding min_z
min_by Q a b f g = go (le_z a b) refl
  where
    go : (t : Bool) → le_z a b ≡ t → Q (cond t a b)
    go true e = f (le_true a b e)
    go false e = g (lt_le (le_false a b e))

max_by : (Q : ℤ → Type 0) (a b : ℤ) → (Le b a → Q a) → (Le a b → Q b) → Q (max_z a b)
unfolding max_z
max_by Q a b f g = go (le_z a b) refl
  where
    go : (t : Bool) → le_z a b ≡ t → Q (cond t b a)
    go true e = g (le_true a b e)
    go false e = f (lt_le (le_false a b e))

pub min_is : (a b : ℤ) → (min_z a b ≡ a) ⊎ (min_z a b ≡ b)
min_is a b = min_by (λ z. (z ≡ a) ⊎ (z ≡ b)) a b (λ h. inl refl) (λ h. inr refl)

pub min_left : (a b : ℤ) → Le (min_z a b) a
min_left a b = min_by (λ z. Le z a) a b (λ h. le_refl a) (λ h. h)

pub min_right : (a b : ℤ) → Le (min_z a b) b
min_right a b = min_by (λ z. Le z b) a b (λ h. h) (λ h. le_refl b)

pub le_min : {a b c : ℤ} → Le c a → Le c b → Le c (min_z a b)
le_min {a} {b} {c} h k = min_by (Le c) a b (λ l. h) (λ l. k)

pub max_is : (a b : ℤ) → (max_z a b ≡ a) ⊎ (max_z a b ≡ b)
max_is a b = max_by (λ z. (z ≡ a) ⊎ (z ≡ b)) a b (λ h. inl refl) (λ h. inr refl)

pub max_left : (a b : ℤ) → Le a (max_z a b)
max_left a b = max_by (Le a) a b (λ h. le_refl a) (λ h. h)

pub max_right : (a b : ℤ) → Le b (max_z a b)
max_right a b = max_by (Le b) a b (λ h. h) (λ h. le_refl b)

pub max_le : {a b c : ℤ} → Le a c → Le b c → Le (max_z a b) c
max_le {a} {b} {c} h k = max_by (λ z. Le z c) a b (λ l. h) (λ l. k)

-- ---- what sums, differences, products, minima and maxima keep

pub le_plus : {a a' b b' : ℤ} → Le a a' → Le b b' → Le (a +ℤ b) (a' +ℤ b')
le_plus {a} {a'} {b} {b'} h k = omega (arith, plus_parts a b, plus_parts a' b')

pub le_neg : {a b : ℤ} → Le a b → Le (neg_ℤ b) (neg_ℤ a)
le_neg {a} {b} h = omega (arith, neg_parts a, neg_parts b)

pub le_minus : {a a' b b' : ℤ} → Le a a' → Le b b' → Le (a -ℤ b') (a' -ℤ b)
le_minus h k = le_plus h (le_neg k)

pub le_times : {a b n : ℤ} → Le (pos 0) n → Le a b → Le (a *ℤ n) (b *ℤ n)
le_times {a} {b} {n = pos k} z h = omega (arith, mul-le-mul_right k h.le, times_parts a (pos k), times_parts b (pos k))
le_times {a} {b} {n = negsuc k} z h = omega arith

-- a factor below 0 turns the order
pub le_times_down : {a b n : ℤ} → Lt n (pos 0) → Le a b → Le (b *ℤ n) (a *ℤ n)
le_times_down {a} {b} {n = pos k} z h = absurd (omega arith)
le_times_down {a} {b} {n = negsuc k} z h =
    omega (arith, mul-le-mul_right (suc k) h.le, times_parts a (negsuc k), times_parts b (negsuc k))

pub le_min_min : {a a' b b' : ℤ} → Le a a' → Le b b' → Le (min_z a b) (min_z a' b')
le_min_min {a} {a'} {b} {b'} h k = le_min (le_trans (min_left a b) h) (le_trans (min_right a b) k)

pub le_max_max : {a a' b b' : ℤ} → Le a a' → Le b b' → Le (max_z a b) (max_z a' b')
le_max_max {a} {a'} {b} {b'} h k = max_le (le_trans h (max_left a' b')) (le_trans k (max_right a' b'))
