-- A factor of 1 or more keeps every comparison, and sums and differences.
-- Assumes nothing.
use mathlib.Core.Path.{◌≡◌, refl, ap}
use mathlib.Core.Bool.{Bool, true, false, not}
use Prim.Native.Nat.{ℕ, zero, suc, ◌*◌, ◌≤◌}
use native.Mathlib.Nat.{mul-le-mul_right}
use native.Mathlib.Omega.{arith}
use lib.IntN.{ℤ, pos, ◌+ℤ◌, ◌-ℤ◌, ◌*ℤ◌}
use lib.Signed.{lt_z, le_z}
use Rattle.signed.specs.Words.{eq_z}
use Rattle.signed.specs.Compare.{holds}
use Rattle.signed.proofs.Parts.{Lt, le_true, le_false, true_le, false_le, lt_true, lt_false, true_lt, false_lt, eq_true, eq_false, true_eq, false_eq, ext, plus_parts, minus_parts, times_parts}
use Rattle.signed.proofs.Order.{le_times, le_refl, le_antisym}

module _ (k : ℕ) (h : 1 ≤ k) where
  lt_times : (a b : ℤ) → Lt a b → Lt (a *ℤ pos k) (b *ℤ pos k)
  lt_times a b l = omega (arith, mul-le-mul_right k l.lt, times_parts a (pos k), times_parts b (pos k))

  le_scaled : (a b : ℤ) → le_z (a *ℤ pos k) (b *ℤ pos k) ≡ le_z a b
  le_scaled a b = go (le_z a b) refl
    where
      go : (t : Bool) → le_z a b ≡ t → le_z (a *ℤ pos k) (b *ℤ pos k) ≡ t
      go true e = true_le _ _ (le_times (omega arith) (le_true a b e))
      go false e = false_le _ _ (lt_times b a (le_false a b e))

  lt_scaled : (a b : ℤ) → lt_z (a *ℤ pos k) (b *ℤ pos k) ≡ lt_z a b
  lt_scaled a b = go (lt_z a b) refl
    where
      go : (t : Bool) → lt_z a b ≡ t → lt_z (a *ℤ pos k) (b *ℤ pos k) ≡ t
      go true e = true_lt _ _ (lt_times a b (lt_true a b e))
      go false e = false_lt _ _ (le_times (omega arith) (lt_false a b e))

  eq_scaled : (a b : ℤ) → eq_z (a *ℤ pos k) (b *ℤ pos k) ≡ eq_z a b
  eq_scaled a b = go (eq_z a b) refl
    where
      same : a *ℤ pos k ≡ b *ℤ pos k → a ≡ b
      same e =
          le_antisym (le_true a b (rw (← (le_scaled a b), e) (true_le _ _ (le_refl (b *ℤ pos k)))))
          (le_true b a (rw (← (le_scaled b a), e) (true_le _ _ (le_refl (b *ℤ pos k)))))

      go : (t : Bool) → eq_z a b ≡ t → eq_z (a *ℤ pos k) (b *ℤ pos k) ≡ t
      go true e = true_eq _ _ (ap (λ (z : ℤ). z *ℤ pos k) (eq_true a b e))
      go false e = false_eq _ _ (λ q. eq_false a b e (same q))

  pub holds_scaled : (op : ℕ) (a b : ℤ) → holds op (a *ℤ pos k) (b *ℤ pos k) ≡ holds op a b
  unfolding holds
  holds_scaled zero a b = eq_scaled a b
  holds_scaled (suc zero) a b = ap not (eq_scaled a b)
  holds_scaled (suc (suc zero)) a b = lt_scaled a b
  holds_scaled (suc (suc (suc zero))) a b = le_scaled a b
  holds_scaled (suc (suc (suc (suc zero)))) a b = lt_scaled b a
  holds_scaled (suc (suc (suc (suc (suc zero))))) a b = le_scaled b a
  holds_scaled (suc (suc (suc (suc (suc (suc op)))))) a b = refl

pub plus_scaled : (k : ℕ) (a b : ℤ) → (a +ℤ b) *ℤ pos k ≡ (a *ℤ pos k +ℤ b *ℤ pos k)
plus_scaled k a b =
    ext _ _ (omega (
      arith,
      ap (λ (n : ℕ). n * k) (plus_parts a b),
      times_parts (a +ℤ b) (pos k),
      times_parts a (pos k),
      times_parts b (pos k),
      plus_parts (a *ℤ pos k) (b *ℤ pos k),
    ))

pub minus_scaled : (k : ℕ) (a b : ℤ) → (a -ℤ b) *ℤ pos k ≡ (a *ℤ pos k -ℤ b *ℤ pos k)
minus_scaled k a b =
    ext _ _ (omega (
      arith,
      ap (λ (n : ℕ). n * k) (minus_parts a b),
      times_parts (a -ℤ b) (pos k),
      times_parts a (pos k),
      times_parts b (pos k),
      minus_parts (a *ℤ pos k) (b *ℤ pos k),
    ))
