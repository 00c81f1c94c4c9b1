-- Bounds of integers: `In l x h`, that x lies in l..h, and `Small z`, that z lies in −M..M.
-- Assumes nothing.
use mathlib.Core.Path.{◌≡◌, refl, sym, ◌∙◌}
use mathlib.Core.Bool.{Bool, true, false, ◌&&◌, true≢false, false≢true}
use Prim.Native.Nat.{◌+◌, ◌≤◌}
use native.Mathlib.Omega.{arith}
use lib.IntN.{ℤ, pos, negsuc, neg_ℤ, ◌+ℤ◌, ◌-ℤ◌, ◌*ℤ◌}
use lib.Signed.{le_z}
use Rattle.signed.specs.Words.{within, bounded, big, min_z, max_z}
use Rattle.signed.proofs.Parts.{P, N, Le, Lt, le_true, true_le, signs}
use Rattle.signed.proofs.Order.{le_plus, le_minus, le_times, le_times_down, le_min_min, le_max_max}

-- x lies in l..h
pub record In (l x h : ℤ) : Type 0 where
  pub low : Le l x
  pub high : Le x h

-- z lies in −M..M
pub record Small (z : ℤ) : Type 0 where
  pub small : P z + N z ≤ big

-- ---- a conjunction of tests

pub and_left : (s t : Bool) → s && t ≡ true → s ≡ true
and_left true t e = refl
and_left false t e = e

pub and_right : (s t : Bool) → s && t ≡ true → t ≡ true
and_right true t e = e
and_right false t e = absurd (false≢true e)

-- ---- x in l..h

pub in_true : (l x h : ℤ) → within l x h ≡ true → In l x h
unfolding within
in_true l x h e = record { low = le_true l x (and_left (le_z l x) (le_z x h) e); high = le_true x h (and_right (le_z l x) (le_z x h) e) }

pub true_in : (l x h : ℤ) → In l x h → within l x h ≡ true
unfolding within
true_in l x h i = rw (true_le l x i.low, true_le x h i.high)

pub in_false : (l x h : ℤ) → within l x h ≡ false → In l x h → ⊥
in_false l x h e i = true≢false (sym (true_in l x h i) ∙ e)

pub in_plus : {l₁ x h₁ l₂ y h₂ : ℤ} → In l₁ x h₁ → In l₂ y h₂ → In (l₁ +ℤ l₂) (x +ℤ y) (h₁ +ℤ h₂)
in_plus i j = record { low = le_plus i.low j.low; high = le_plus i.high j.high }

pub in_minus : {l₁ x h₁ l₂ y h₂ : ℤ} → In l₁ x h₁ → In l₂ y h₂ → In (l₁ -ℤ h₂) (x -ℤ y) (h₁ -ℤ l₂)
in_minus i j = record { low = le_minus i.low j.high; high = le_minus i.high j.low }

pub in_times : {l x h n : ℤ} → Le (pos 0) n → In l x h → In (l *ℤ n) (x *ℤ n) (h *ℤ n)
in_times z i = record { low = le_times z i.low; high = le_times z i.high }

pub in_times_down : {l x h n : ℤ} → Lt n (pos 0) → In l x h → In (h *ℤ n) (x *ℤ n) (l *ℤ n)
in_times_down z i = record { low = le_times_down z i.high; high = le_times_down z i.low }

pub in_min : {l₁ x h₁ l₂ y h₂ : ℤ} → In l₁ x h₁ → In l₂ y h₂ → In (min_z l₁ l₂) (min_z x y) (min_z h₁ h₂)
in_min i j = record { low = le_min_min i.low j.low; high = le_min_min i.high j.high }

pub in_max : {l₁ x h₁ l₂ y h₂ : ℤ} → In l₁ x h₁ → In l₂ y h₂ → In (max_z l₁ l₂) (max_z x y) (max_z h₁ h₂)
in_max i j = record { low = le_max_max i.low j.low; high = le_max_max i.high j.high }

-- ---- x in −M..M

small_by : (z : ℤ) → In (neg_ℤ (pos big)) z (pos big) → Small z
small_by (pos n) i = omega arith
small_by (negsuc n) i = omega arith

pub small_true : (z : ℤ) → bounded z ≡ true → Small z
unfolding bounded
small_true z e = small_by z (in_true (neg_ℤ (pos big)) z (pos big) e)

pub true_small : (z : ℤ) → Small z → bounded z ≡ true
unfolding bounded
true_small z s = true_in (neg_ℤ (pos big)) z (pos big) (omega arith)

-- between two such there are only such
pub small_in : {l x h : ℤ} → Small l → Small h → In l x h → Small x
small_in {x = pos n} s t i = omega arith
small_in {x = negsuc n} s t i = omega arith

-- ---- `signs`, and `bounded` as rules. A range goes into the list as a record: `omega (arith, ranges, in_true l x h e)`

pub read_small : (z : ℤ) → bounded z ≡ true → P z + N z ≤ big
read_small z e = (small_true z e).small

pub show_small : (z : ℤ) → P z + N z ≤ big → bounded z ≡ true
show_small z h = true_small z (record { small = h })

pub ruleset ranges = (signs, read_small, show_small)
