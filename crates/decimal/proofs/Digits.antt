-- The digits of a number: how they grow by one, and induction on them.
-- Assumes nothing.
use Prim.Native.Nat.{ℕ, zero, suc, ◌+◌, ◌*◌, ◌/◌, ◌%◌, ◌≤◌, ◌<◌}
use mathlib.Core.Path.{◌≡◌, refl, ◌∙◌, subst}
use mathlib.Core.Bool.{Bool, true, false}
use mathlib.Core.List.{[], ◌∷◌, ◌++◌}
use native.Mathlib.Omega.{arith}
use native.Mathlib.Nat.{div-add-mod', le_refl}
use borrow.Author.Tests.{lt-ltb, le-ltb, ltb-true, ltb-false}
use lib.Arith.{digits_div, digits_mod}
use lib.Dec.{ltb}
use Rattle.decimal.specs.Decimal.{digits_in, digits}

-- a bound that is large enough makes no difference
enough : (j k n : ℕ) → n ≤ j → n ≤ k → digits_in j n ≡ digits_in k n
unfolding digits_in
enough zero zero n p q = refl
enough zero (suc k) n p q = rw (digits_in, lt-ltb n 10 (omega arith))
enough (suc j) zero n p q = rw (digits_in, lt-ltb n 10 (omega arith))
enough (suc j) (suc k) n p q = go (ltb n 10) refl (enough j k (n / 10))
  where
    go : (b : Bool) → ltb n 10 ≡ b → (n / 10 ≤ j → n / 10 ≤ k → digits_in j (n / 10) ≡ digits_in k (n / 10)) → digits_in (suc j) n ≡ digits_in (suc k) n
    go true e ih = rw (digits_in, e)
    go false e ih = rw (digits_in, e, ih (omega (arith, ltb-false n 10 e)) (omega (arith, ltb-false n 10 e)))

-- a number below ten is one digit
pub digits_one : (n : ℕ) → n < 10 → digits n ≡ (48 + n) ∷ []
unfolding digits digits_in
digits_one zero h = refl
digits_one (suc n) h = rw (digits_in, lt-ltb (suc n) 10 h)

grown : (m d : ℕ) → 0 < m → d < 10 → digits_in (suc (m * 10 + d)) (m * 10 + d) ≡ digits_in m m ++ ((48 + d) ∷ [])
unfolding digits_in
grown m d p h =
    rw (digits_in, le-ltb (m * 10 + d) 10 (omega arith), digits_div m h, digits_mod m h, enough (m * 10 + d) m m (omega arith) (omega arith))

-- one more digit at the end
pub digits_more : (m d : ℕ) → 0 < m → d < 10 → digits (m * 10 + d) ≡ digits m ++ ((48 + d) ∷ [])
unfolding digits
digits_more m d p h = enough (m * 10 + d) (suc (m * 10 + d)) (m * 10 + d) (omega arith) (omega arith) ∙ grown m d p h

-- what holds of the numbers below ten, and of a number with one more digit, holds of every number
digit_ind_in : (P : ℕ → Type 0) → ((d : ℕ) → d < 10 → P d) → ((m d : ℕ) → 0 < m → d < 10 → P m → P (m * 10 + d)) → (k n : ℕ) → n ≤ k → P n
digit_ind_in P one more zero n p = one n (omega arith)
digit_ind_in P one more (suc k) n p = go (ltb n 10) refl (digit_ind_in P one more k (n / 10))
  where
    go : (b : Bool) → ltb n 10 ≡ b → (n / 10 ≤ k → P (n / 10)) → P n
    go true e ih = one n (ltb-true n 10 e)
    go false e ih =
        let large : 10 ≤ n = ltb-false n 10 e in
        subst P (div-add-mod' n 10) (more (n / 10) (n % 10) (omega arith) (omega arith) (ih (omega arith)))

pub digit_ind : (P : ℕ → Type 0) → ((d : ℕ) → d < 10 → P d) → ((m d : ℕ) → 0 < m → d < 10 → P m → P (m * 10 + d)) → (n : ℕ) → P n
digit_ind P one more n = digit_ind_in P one more n n (le_refl n)
