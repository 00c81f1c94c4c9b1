-- The loops over the sixteen flags: the next state to scan, and the mask.
-- Assumes nothing.
use mathlib.Core.Path.{◌≡◌, sym, ◌∙◌}
use mathlib.Core.Bool.{Bool, true, false, not, ◌&&◌}
use mathlib.Core.List.{List}
use Prim.Native.Nat.{ℕ, ◌+◌, ◌*◌, ◌%◌, ◌≤◌, ◌<◌, ◌^◌}
use lib.ListN.{get_or}
use native.Mathlib.Omega.{arith}
use native.Mathlib.Nat.{one-mul}
use lib.Dec.{lit<}
use lib.Pow.{pow_mono, shl_exact}
use borrow.Author.Tests.{lt-ltb, le-ltb}
use Rattle.std.specs.Prelude.{None, Some}
use Rattle.tables.proofs.Scans.{extend_one}
use Rattle.tables.proofs.Scanned.{fail_at, fail_none}
use Rattle.reach.specs.Reached.{mask_below}
use Rattle.reach.specs.Inner.{settled, next_open}
use Rattle.reach.proofs.Masks.{place, mask_more, mask_below_lem}

-- none of the first q states is to be scanned
abbrev pub Passed : List Bool → List Bool → ℕ → Type 0
Passed found scanned q = (j : ℕ) → j < q → settled found scanned j ≡ true

module _ (found scanned : List Bool) where
  pub none : Passed found scanned 0
  none j l = absurd (omega arith)

  module _ (q : ℕ) (r : Passed found scanned q) where
    pub more : (get_or found q false && not (get_or scanned q false)) ≡ false → Passed found scanned (q + 1)
    unfolding settled
    more p = extend_one (λ (j : ℕ). settled found scanned j ≡ true) q r (rw p)

    pub picked : q < 16 → (get_or found q false && not (get_or scanned q false)) ≡ true → Some q ≡ next_open found scanned
    unfolding settled next_open
    picked l p = let e = fail_at (settled found scanned) 16 q l r (rw p) in rw (← e, lt-ltb q 16 l)

    pub none_left : q ≡ 16 → None ≡ next_open found scanned
    unfolding next_open
    none_left e = let f = fail_none (settled found scanned) 16 q (omega arith) (omega arith) r in rw (← f, le-ltb q 16 (omega arith))

-- a shift of 1 is the power of two
pub shifted : (q : ℕ) → q < 16 → (1 * 2 ^ q) % 2 ^ 64 ≡ 2 ^ q
shifted q l = shl_exact 1 q 64 (lit< tt) (omega arith) ∙ one-mul (2 ^ q)

-- one flag more, and the sum fits
module _ (f : ℕ → Bool) (q mask b : ℕ) (r : mask ≡ mask_below f q) (e : b ≡ place f q) where
  pub one_bit : mask + b ≡ mask_below f (q + 1)
  one_bit = rw (r, e) (sym (mask_more f q))

  pub room : q < 16 → mask + b < 2 ^ 16
  room l =
      let k : q + 1 ≤ 16 = omega arith in
      let m : 2 ^ (q + 1) ≤ 2 ^ 16 = pow_mono k in
      omega (arith, one_bit, m, mask_below_lem f (q + 1))
