-- The writer: how many bytes a decimal has, and what the stores of its sign, its digits and its end make of the text.
-- Assumes nothing.
use Prim.Native.Nat.{ℕ, zero, suc, ◌+◌, ◌-◌, ◌*◌, ◌/◌, ◌%◌, ◌^◌, ◌≤◌, ◌<◌, min}
use mathlib.Core.Path.{◌≡◌, refl, sym, ◌∙◌, ap}
use mathlib.Core.Bool.{Bool, true, false, cond, true≢false}
use mathlib.Core.List.{List, [], ◌∷◌, ◌++◌}
use native.Mathlib.Omega.{arith}
use native.Mathlib.Numerals.{add-one}
use native.Mathlib.Nat.{div-add-mod', add-zero, pow-suc, one-le-pow}
use borrow.Author.Tests.{ltb-true, leb-true, leb-false}
use lib.Arith.{digits_div, digits_mod}
use lib.Dec.{leb}
use lib.IntN.{ℤ, pos, negsuc, nat_abs}
use lib.ListN.{length, set, length-append}
use lib.Seq.{sets, set_comm}
use lib.Signed.{lt_z}
use Rattle.decimal.specs.Decimal.{M, digits, sign, decimal, has_text}
use Rattle.decimal.specs.Width.{reached}
use Rattle.decimal.proofs.Digits.{digits_one, digits_more, digit_ind}
use Rattle.decimal.proofs.Signed.{small}

-- ---- a width

pub width_one : (n : ℕ) → n < 10 → length (digits n) ≡ 1
width_one n h = ap length (digits_one n h)

pub width_more : (n : ℕ) → 10 ≤ n → length (digits n) ≡ length (digits (n / 10)) + 1
width_more n h =
    ap (λ (k : ℕ). length (digits k)) (sym (div-add-mod' n 10))
    ∙ ap length (digits_more (n / 10) (n % 10) (omega arith) (omega arith))
    ∙ length-append (digits (n / 10)) ((48 + n % 10) ∷ [])

-- below ten to the power of k and one more, there are no more digits than that
pub width_in : (n k : ℕ) → n < 10 ^ suc k → length (digits n) ≤ suc k
width_in =
    digit_ind (λ (n : ℕ). (k : ℕ) → n < 10 ^ suc k → length (digits n) ≤ suc k)
    (λ d h k s. omega (arith, width_one d h))
    (λ m d p h ih.
    elim [
      | zero ↦ λ s. absurd (omega arith)
      | suc k
          ↦ λ s. omega (arith, ih k (omega (arith, pow-suc 10 (suc k))), ap length (digits_more m d p h), length-append (digits m) ((48 + d) ∷ []))
    ])

-- and from ten to the power of k on, there are more than k
pub width_from : (n k : ℕ) → 10 ^ k ≤ n → suc k ≤ length (digits n)
width_from =
    digit_ind (λ (n : ℕ). (k : ℕ) → 10 ^ k ≤ n → suc k ≤ length (digits n))
    (λ d h.
    elim [
      | zero ↦ λ s. omega (arith, width_one d h)
      | suc k ↦ λ s. absurd (omega (arith, pow-suc 10 k, one-le-pow k 10 (omega arith)))
    ])
    (λ m d p h ih.
    elim [
      | zero ↦ λ s. omega (arith, ap length (digits_more m d p h), length-append (digits m) ((48 + d) ∷ []))
      | suc k ↦ λ s. omega (arith, ih k (omega (arith, pow-suc 10 k)), ap length (digits_more m d p h), length-append (digits m) ((48 + d) ∷ []))
    ])

-- a number has a digit
width_some : (n : ℕ) → 1 ≤ length (digits n)
width_some =
    digit_ind (λ (n : ℕ). 1 ≤ length (digits n)) (λ d h. omega (arith, width_one d h))
    (λ m d p h ih. omega (arith, ap length (digits_more m d p h), length-append (digits m) ((48 + d) ∷ [])))

-- the digits of a number, counted up to k and one more: the next counts where the number reaches that power of ten
pub width_next : (m k p : ℕ) → p ≡ 10 ^ suc k → min (length (digits m)) (suc k) + reached m p ≡ min (length (digits m)) (suc (suc k))
width_next m k p e = go (leb p m) refl
  where
    go : (t : Bool) → leb p m ≡ t → min (length (digits m)) (suc k) + cond t 1 0 ≡ min (length (digits m)) (suc (suc k))
    go true h = omega (arith, width_from m (suc k) (omega (arith, leb-true p m h)))
    go false h = omega (arith, width_in m k (omega (arith, leb-false p m h)))

-- the three sums of `width`, one for each size of number
module _ (m : ℕ) where
  pub width_low : m < 1000 → 1 + reached m 10 + reached m 100 ≡ length (digits m)
  width_low h = omega (arith, width_some m, width_next m 0 10 refl, width_next m 1 100 refl, width_in m 2 h)

  pub width_middle : 1000 ≤ m → m < 1000000 → 4 + reached m 10000 + reached m 100000 ≡ length (digits m)
  width_middle g h = omega (arith, width_from m 3 g, width_next m 3 10000 refl, width_next m 4 100000 refl, width_in m 5 h)

  pub width_high : 1000000 ≤ m → m ≤ M → 7 + reached m 10000000 + reached m 100000000 + reached m 1000000000 ≡ length (digits m)
  width_high g h =
      omega (
        arith,
        width_from m 6 g,
        width_next m 6 10000000 refl,
        width_next m 7 100000000 refl,
        width_next m 8 1000000000 refl,
        width_in m 9 (omega arith),
      )

pub ruleset width_sums = (width_low, width_middle, width_high)

pub width_small : (m : ℕ) → m ≤ M → length (digits m) ≤ 10
width_small m h = width_in m 9 (omega arith)

-- ---- digits that are written

-- the last k digits of n
unfoldable pub last_digits : ℕ → ℕ → List ℕ
last_digits zero n = []
last_digits (suc k) n = last_digits k (n / 10) ++ ((48 + n % 10) ∷ [])

length_last : (k n : ℕ) → length (last_digits k n) ≡ k
unfolding last_digits
length_last zero n = refl
length_last (suc k) n =
    length-append (last_digits k (n / 10)) ((48 + n % 10) ∷ []) ∙ add-one (length (last_digits k (n / 10))) ∙ ap suc (length_last k (n / 10))

last_more : (k m d : ℕ) → d < 10 → last_digits (suc k) (m * 10 + d) ≡ last_digits k m ++ ((48 + d) ∷ [])
unfolding last_digits
last_more k m d h = rw (digits_div m h, digits_mod m h)

last_one : (d : ℕ) → d < 10 → last_digits 1 d ≡ (48 + d) ∷ []
unfolding last_digits
last_one d h = ap (λ (k : ℕ). (48 + k) ∷ []) (omega arith)

-- all of a number's digits
pub last_all : (n : ℕ) → last_digits (length (digits n)) n ≡ digits n
last_all =
    digit_ind (λ (n : ℕ). last_digits (length (digits n)) n ≡ digits n)
    (λ d h. rw (digits_one d h) (last_one d h))
    (λ m d p h ih. rw (digits_more m d p h, length-append, add-one)
    (last_more (length (digits m)) m d h ∙ ap (λ (xs : List ℕ). xs ++ ((48 + d) ∷ [])) ih))

sets_snoc : (xs l : List ℕ) (i d : ℕ) → sets (set l (i + length xs) d) i xs ≡ sets l i (xs ++ (d ∷ []))
sets_snoc [] l i d = ap (λ (k : ℕ). set l k d) (add-zero i)
sets_snoc (x ∷ xs) l i d =
    ap (λ (y : List ℕ). sets y (suc i) xs)
    (set_comm l (i + suc (length xs)) i d x (λ e. omega arith) ∙ ap (λ (k : ℕ). set (set l i x) k d) (omega arith))
    ∙ sets_snoc xs (set l i x) (suc i) d

sets_last : (l : List ℕ) (at k n : ℕ) → sets (set l (at + k) (48 + n % 10)) at (last_digits k (n / 10)) ≡ sets l at (last_digits (suc k) n)
unfolding last_digits
sets_last l at k n =
    ap (λ (j : ℕ). sets (set l (at + j) (48 + n % 10)) at (last_digits k (n / 10))) (sym (length_last k (n / 10)))
    ∙ sets_snoc (last_digits k (n / 10)) l at (48 + n % 10)

-- one digit is written at place j - 1, where j are left
pub put_more : (l : List ℕ) (at j n : ℕ) → 0 < j
    → sets (set l (at + (j - 1)) (48 + n % 10)) at (last_digits (j - 1) (n / 10)) ≡ sets l at (last_digits j n)
put_more l at j n h = sets_last l at (j - 1) n ∙ ap (λ (k : ℕ). sets l at (last_digits k n)) (omega arith)

pub put_done : (l : List ℕ) (at j n : ℕ) → j ≤ 0 → sets l at (last_digits j n) ≡ l
unfolding last_digits
put_done l at zero n h = refl
put_done l at (suc j) n h = absurd (omega arith)

pub ruleset last_steps = (last_all, put_more, put_done)

-- ---- a sign, digits and an end

pub sign_minus : (z : ℤ) → lt_z z (pos 0) ≡ true → sign z ≡ 45 ∷ []
unfolding sign
sign_minus (pos n) e = absurd (omega (arith, ltb-true n 0 e))
sign_minus (negsuc n) e = refl

pub sign_none : (z : ℤ) → lt_z z (pos 0) ≡ false → sign z ≡ []
unfolding sign
sign_none (pos n) e = refl
sign_none (negsuc n) e = absurd (true≢false e)

pub ruleset sign_cases = (sign_minus, sign_none)

pub length_decimal : (z : ℤ) → length (decimal z) ≡ length (sign z) + length (digits (nat_abs z))
unfolding decimal
length_decimal z = length-append (sign z) (digits (nat_abs z))

pub ruleset size_parts = (small, width_small, length_decimal)

length_sign : (z : ℤ) → length (sign z) ≤ 1
unfolding sign
length_sign (pos n) = omega arith
length_sign (negsuc n) = omega arith

-- a decimal has at most eleven bytes
pub decimal_small : (z : ℤ) → has_text z ≡ true → length (decimal z) ≤ 11
decimal_small z h = omega (arith, length_decimal z, length_sign z, width_small (nat_abs z) (small z h))

pub sets_append : (xs ys l : List ℕ) (i : ℕ) → sets (sets l i xs) (i + length xs) ys ≡ sets l i (xs ++ ys)
sets_append [] ys l i = ap (λ (k : ℕ). sets l k ys) (add-zero i)
sets_append (x ∷ xs) ys l i =
    ap (λ (k : ℕ). sets (sets (set l i x) (suc i) xs) k ys) (omega arith) ∙ sets_append xs ys (set l i x) (suc i)

-- the three stores of a field
pub put_all : (l : List ℕ) (at : ℕ) (z : ℤ) (e : ℕ)
    → set (sets (sets l at (sign z)) (at + length (sign z)) (digits (nat_abs z))) (at + length (sign z) + length (digits (nat_abs z))) e ≡ sets l
    at (decimal z ++ (e ∷ []))
unfolding decimal
put_all l at z e =
    ap (λ (y : List ℕ). set y (at + length (sign z) + length (digits (nat_abs z))) e) (sets_append (sign z) (digits (nat_abs z)) l at)
    ∙ ap (λ (k : ℕ). set (sets l at (sign z ++ digits (nat_abs z))) k e) (omega (arith, length-append (sign z) (digits (nat_abs z))))
    ∙ sets_append (sign z ++ digits (nat_abs z)) (e ∷ []) l at
