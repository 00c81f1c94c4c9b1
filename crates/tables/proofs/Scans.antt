-- Laws of the tests and sums over the numbers below a bound.
-- Assumes nothing.
use mathlib.Core.Path.{◌≡◌, refl, sym, subst}
use mathlib.Core.Bool.{Bool, true, false, ◌&&◌, ◌||◌}
use mathlib.Core.Logic.{◌⊎◌, inl, inr, ⊎_elim}
use Prim.Native.Nat.{ℕ, zero, suc, ◌+◌, ◌≤◌, ◌<◌}
use native.Mathlib.Omega.{arith}
use native.Mathlib.Numerals.{add-one}
use native.Mathlib.Decide.{dec_lt}
use Rattle.tables.specs.Scan.{all_below, any_below, sum_below}
use Rattle.tables.proofs.Bools.{and_left, and_right, and_true, or_cases, or_true_left, or_true_right, or_false_left, or_false_right, true_false, bool_cases}

-- a number below suc n is below n or is n
pub below_suc : (j n : ℕ) → j < suc n → (j < n) ⊎ (j ≡ n)
below_suc j n h = go (dec_lt j n)
  where
    go : Dec (j < n) → (j < n) ⊎ (j ≡ n)
    go (yes p) = inl p
    go (no q) = inr (omega arith)

module _ (P : ℕ → Type 0) where
  -- what holds of each number below n, and of n, holds of each below suc n
  pub extend : (n : ℕ) → ((j : ℕ) → j < n → P j) → P n → (j : ℕ) → j < suc n → P j
  extend n h p j q = ⊎_elim (λ l. h j l) (λ e. subst P (sym e) p) (below_suc j n q)

  -- the same at the code's `n + 1`
  pub extend_one : (n : ℕ) → ((j : ℕ) → j < n → P j) → P n → (j : ℕ) → j < n + 1 → P j
  extend_one n h p j q = extend n h p j (rw add-one at q)

module _ (f : ℕ → Bool) where
  pub all_at : (n : ℕ) → all_below f n ≡ true → (j : ℕ) → j < n → f j ≡ true
  unfolding all_below
  all_at zero p j h = absurd (omega arith)
  all_at (suc n) p j h =
      extend (λ (j : ℕ). f j ≡ true) n (all_at n (and_left (all_below f n) (f n) p)) (and_right (all_below f n) (f n) p) j h

  pub all_of : (n : ℕ) → ((j : ℕ) → j < n → f j ≡ true) → all_below f n ≡ true
  unfolding all_below
  all_of zero h = refl
  all_of (suc n) h = and_true (all_below f n) (f n) (all_of n (λ j l. h j (omega arith))) (h n (omega arith))

  pub all_fails : (n j : ℕ) → j < n → f j ≡ false → all_below f n ≡ false
  all_fails n j h p = ⊎_elim (λ a. absurd (true_false (all_at n a j h) p)) (λ b. b) (bool_cases (all_below f n))

  pub any_at : (n : ℕ) → any_below f n ≡ true → (j : ℕ) × (j < n) × (f j ≡ true)
  unfolding any_below
  any_at zero p = absurd (true_false p refl)
  any_at (suc n) p =
      ⊎_elim (λ l. let w = any_at n l in (w.0, (omega arith), w.2)) (λ r. (n, omega arith, r)) (or_cases (any_below f n) (f n) p)

  pub any_of : (n j : ℕ) → j < n → f j ≡ true → any_below f n ≡ true
  unfolding any_below
  any_of zero j h p = absurd (omega arith)
  any_of (suc n) j h p =
      ⊎_elim (λ l. or_true_left (any_below f n) (f n) (any_of n j l p))
      (λ e. or_true_right (any_below f n) (f n) (subst (λ (i : ℕ). f i ≡ true) e p)) (below_suc j n h)

  pub any_none : (n : ℕ) → any_below f n ≡ false → (j : ℕ) → j < n → f j ≡ false
  unfolding any_below
  any_none zero p j h = absurd (omega arith)
  any_none (suc n) p j h =
      extend (λ (j : ℕ). f j ≡ false) n (any_none n (or_false_left (any_below f n) (f n) p)) (or_false_right (any_below f n) (f n) p) j h

  pub none_any : (n : ℕ) → ((j : ℕ) → j < n → f j ≡ false) → any_below f n ≡ false
  unfolding any_below
  none_any zero h = refl
  none_any (suc n) h = rw (none_any n (λ j l. h j (omega arith)), h n (omega arith))

  -- one number more
  pub any_more : (n : ℕ) → any_below f (n + 1) ≡ (any_below f n || f n)
  unfolding any_below
  any_more n = rw add-one

  pub all_more : (n : ℕ) → all_below f (n + 1) ≡ (all_below f n && f n)
  unfolding all_below
  all_more n = rw add-one

pub any_zero : (f : ℕ → Bool) → any_below f 0 ≡ false
unfolding any_below
any_zero f = refl

pub any_same : (f g : ℕ → Bool) (n : ℕ) → ((j : ℕ) → j < n → f j ≡ g j) → any_below f n ≡ any_below g n
unfolding any_below
any_same f g zero h = refl
any_same f g (suc n) h = rw (any_same f g n (λ j l. h j (omega arith)), h n (omega arith))

pub all_same : (f g : ℕ → Bool) (n : ℕ) → ((j : ℕ) → j < n → f j ≡ g j) → all_below f n ≡ all_below g n
unfolding all_below
all_same f g zero h = refl
all_same f g (suc n) h = rw (all_same f g n (λ j l. h j (omega arith)), h n (omega arith))

module _ (f : ℕ → ℕ) where
  pub sum_zero : sum_below f 0 ≡ 0
  unfolding sum_below
  sum_zero = refl

  pub sum_more : (n : ℕ) → sum_below f (n + 1) ≡ sum_below f n + f n
  unfolding sum_below
  sum_more n = rw add-one

  pub sum_suc : (n : ℕ) → sum_below f (suc n) ≡ sum_below f n + f n
  unfolding sum_below
  sum_suc n = refl

  pub sum_mono : (i n : ℕ) → i ≤ n → sum_below f i ≤ sum_below f n
  sum_mono i zero h = let e : i ≡ 0 = omega arith in rw e (omega arith)
  sum_mono i (suc n) h =
      ⊎_elim (λ l. let r = sum_mono i n (omega arith) in omega (arith, sum_suc n)) (λ e. rw e (omega arith)) (below_suc i (suc n) (omega arith))
