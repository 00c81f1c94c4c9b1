-- The mask of the numbers that pass a test: its bits, and its size.
-- Assumes nothing.
use mathlib.Core.Path.{◌≡◌, refl, sym, ap, ◌∙◌}
use mathlib.Core.Bool.{Bool, true, false, cond}
use mathlib.Core.Logic.{⊎_elim}
use Prim.Native.Nat.{ℕ, zero, suc, ◌+◌, ◌-◌, ◌*◌, ◌/◌, ◌%◌, ◌^◌, ◌≤◌, ◌<◌}
use native.Mathlib.Omega.{arith}
use native.Mathlib.Numerals.{add-one}
use native.Mathlib.Nat.{pow-suc, div-eq_of_lt, add-mul-div_right, add-mul-mod_self_right}
use lib.Dec.{eqb}
use lib.Pow.{pow_pos, pow_mono, pow-add, high}
use Rattle.tables.specs.Scan.{sum_below}
use Rattle.tables.proofs.Scans.{below_suc, sum_suc}
use Rattle.operation.specs.Mask.{in_mask}
use Rattle.reach.specs.Reached.{mask_below}

-- the bit of number q
abbrev pub place : (ℕ → Bool) → ℕ → ℕ
place f q = cond (f q) (2 ^ q) 0

module _ (f : ℕ → Bool) where
  pub mask_zero : mask_below f 0 ≡ 0
  unfolding mask_below sum_below
  mask_zero = refl

  pub mask_suc : (n : ℕ) → mask_below f (suc n) ≡ mask_below f n + place f n
  unfolding mask_below
  mask_suc n = sum_suc (place f) n

  -- one number more, as the code counts
  pub mask_more : (n : ℕ) → mask_below f (n + 1) ≡ mask_below f n + place f n
  mask_more n = rw add-one (mask_suc n)

  place_most : (n : ℕ) → place f n ≤ 2 ^ n
  place_most n = go (f n)
    where
      go : (b : Bool) → cond b (2 ^ n) 0 ≤ 2 ^ n
      go true = omega arith
      go false = omega arith

  pub mask_below_lem : (n : ℕ) → mask_below f n < 2 ^ n
  mask_below_lem zero = rw mask_zero (omega arith)
  mask_below_lem (suc n) = rw (mask_suc n, pow-suc 2 n) (omega (arith, mask_below_lem n, place_most n))

  -- ---- the bits

  -- the highest
  bit_last : (n : ℕ) → in_mask (mask_below f n + place f n) n ≡ f n
  bit_last n = go (f n)
    where
      go : (b : Bool) → in_mask (mask_below f n + cond b (2 ^ n) 0) n ≡ b
      go true =
          let e : mask_below f n + 2 ^ n ≡ 1 * 2 ^ n + mask_below f n = omega arith in
          rw (e, high 1 n (mask_below_lem n)) refl
      go false =
          let e : mask_below f n + 0 ≡ mask_below f n = omega arith in
          rw (e, div-eq_of_lt (mask_below_lem n)) refl

  -- a higher bit leaves those below it
  power_as : (n p : ℕ) → p < n → 2 ^ n ≡ 2 ^ (n - p - 1) * 2 * 2 ^ p
  power_as n p l =
      let j = n - p - 1 in
      let e : n ≡ suc j + p = omega arith in
      ap (λ (i : ℕ). 2 ^ i) e ∙ pow-add 2 (suc j) p ∙ ap (λ (x : ℕ). x * 2 ^ p) (pow-suc 2 j)

  bit_kept : (m n p : ℕ) → p < n → (b : Bool) → in_mask (m + cond b (2 ^ n) 0) p ≡ in_mask m p
  bit_kept m n p l true =
      ap (λ (x : ℕ). eqb x 1)
      (ap (λ (x : ℕ). (m + x) / 2 ^ p % 2) (power_as n p l)
      ∙ ap (λ (x : ℕ). x % 2) (add-mul-div_right m (2 ^ (n - p - 1) * 2) (pow_pos p))
      ∙ add-mul-mod_self_right (m / 2 ^ p) (2 ^ (n - p - 1)) 2)
  bit_kept m n p l false = let e : m + 0 ≡ m = omega arith in rw e refl

  pub mask_bit : (n p : ℕ) → p < n → in_mask (mask_below f n) p ≡ f p
  mask_bit zero p l = absurd (omega arith)
  mask_bit (suc n) p l =
      ap (λ (x : ℕ). in_mask x p) (mask_suc n)
      ∙ ⊎_elim (λ k. bit_kept (mask_below f n) n p k (f n) ∙ mask_bit n p k) (λ e. rw e (bit_last n)) (below_suc p n l)

  -- and no others
  pub mask_past : (n p : ℕ) → n ≤ p → in_mask (mask_below f n) p ≡ false
  mask_past n p l =
      let q : mask_below f n < 2 ^ p = omega (arith, mask_below_lem n, pow_mono l) in
      rw (div-eq_of_lt q) refl

-- tests that agree below n have one mask
pub mask_same : (f g : ℕ → Bool) (n : ℕ) → ((q : ℕ) → q < n → f q ≡ g q) → mask_below f n ≡ mask_below g n
mask_same f g zero e = mask_zero f ∙ sym (mask_zero g)
mask_same f g (suc n) e =
    mask_suc f n ∙ rw (mask_same f g n (λ q l. e q (omega arith)), e n (omega arith)) (sym (mask_suc g n))
