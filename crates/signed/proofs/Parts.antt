-- An integer by its parts: `P z` and `N z`, the positive and the negative part as natural numbers. The orders `Le` and `Lt` are records of one
-- inequality between parts, so that `omega` reads and proves them. Laws of the tests: `le_true` reads a test, `true_le` makes one.
-- Assumes nothing.
use mathlib.Core.Path.{◌≡◌, refl, sym, ap, ◌∙◌}
use mathlib.Core.Logic.{◌≢◌}
use mathlib.Core.Bool.{Bool, true, false, cond, true≢false, false≢true}
use Prim.Native.Nat.{ℕ, zero, suc, ◌+◌, ◌-◌, ◌*◌, ◌≤◌, ◌<◌}
use native.Mathlib.Omega.{arith}
use lib.Dec.{ltb}
use lib.IntN.{ℤ, pos, negsuc, neg_ℤ, sub_ℕ, ◌+ℤ◌, ◌-ℤ◌, ◌*ℤ◌}
use lib.Signed.{lt_z, le_z}
use borrow.Author.Tests.{ltb-true, ltb-false, leb-true, leb-false, eqb-true, eq-eqb}
use Rattle.signed.specs.Words.{eq_z}

-- the positive part
abbrev pub P : ℤ → ℕ
P (pos n) = n
P (negsuc n) = 0

-- the negative part
abbrev pub N : ℤ → ℕ
N (pos n) = 0
N (negsuc n) = suc n

-- a is at most b
pub record Le (a b : ℤ) : Type 0 where
  pub le : P a + N b ≤ P b + N a

-- a is less than b
pub record Lt (a b : ℤ) : Type 0 where
  pub lt : P a + N b < P b + N a

-- ---- tests to facts

pub le_true : (a b : ℤ) → le_z a b ≡ true → Le a b
le_true (pos a) (pos b) e = omega (arith, leb-true a b e)
le_true (pos a) (negsuc b) e = absurd (false≢true e)
le_true (negsuc a) (pos b) e = omega arith
le_true (negsuc a) (negsuc b) e = omega (arith, leb-true b a e)

pub le_false : (a b : ℤ) → le_z a b ≡ false → Lt b a
le_false (pos a) (pos b) e = omega (arith, leb-false a b e)
le_false (pos a) (negsuc b) e = omega arith
le_false (negsuc a) (pos b) e = absurd (true≢false e)
le_false (negsuc a) (negsuc b) e = omega (arith, leb-false b a e)

pub lt_true : (a b : ℤ) → lt_z a b ≡ true → Lt a b
lt_true (pos a) (pos b) e = omega (arith, ltb-true a b e)
lt_true (pos a) (negsuc b) e = absurd (false≢true e)
lt_true (negsuc a) (pos b) e = omega arith
lt_true (negsuc a) (negsuc b) e = omega (arith, ltb-true b a e)

pub lt_false : (a b : ℤ) → lt_z a b ≡ false → Le b a
lt_false (pos a) (pos b) e = omega (arith, ltb-false a b e)
lt_false (pos a) (negsuc b) e = omega arith
lt_false (negsuc a) (pos b) e = absurd (true≢false e)
lt_false (negsuc a) (negsuc b) e = omega (arith, ltb-false b a e)

-- ---- facts to tests

pub false_by : (t : Bool) → (t ≡ true → ⊥) → t ≡ false
false_by true f = absurd (f refl)
false_by false f = refl

pub true_by : (t : Bool) → (t ≡ false → ⊥) → t ≡ true
true_by true f = refl
true_by false f = absurd (f refl)

pub true_le : (a b : ℤ) → Le a b → le_z a b ≡ true
true_le a b h = true_by (le_z a b) (λ e. omega (arith, le_false a b e))

pub false_le : (a b : ℤ) → Lt b a → le_z a b ≡ false
false_le a b h = false_by (le_z a b) (λ e. omega (arith, le_true a b e))

pub true_lt : (a b : ℤ) → Lt a b → lt_z a b ≡ true
true_lt a b h = true_by (lt_z a b) (λ e. omega (arith, lt_false a b e))

pub false_lt : (a b : ℤ) → Le b a → lt_z a b ≡ false
false_lt a b h = false_by (lt_z a b) (λ e. omega (arith, lt_true a b e))

-- ---- equality

-- integers with the same difference of parts are the same
pub ext : (a b : ℤ) → P a + N b ≡ P b + N a → a ≡ b
ext (pos a) (pos b) e = ap pos (omega arith)
ext (pos a) (negsuc b) e = absurd (omega arith)
ext (negsuc a) (pos b) e = absurd (omega arith)
ext (negsuc a) (negsuc b) e = ap negsuc (omega arith)

pub eq_true : (a b : ℤ) → eq_z a b ≡ true → a ≡ b
unfolding eq_z
eq_true (pos a) (pos b) e = ap pos (eqb-true a b e)
eq_true (pos a) (negsuc b) e = absurd (false≢true e)
eq_true (negsuc a) (pos b) e = absurd (false≢true e)
eq_true (negsuc a) (negsuc b) e = ap negsuc (eqb-true a b e)

eq_self : (a : ℤ) → eq_z a a ≡ true
unfolding eq_z
eq_self (pos a) = eq-eqb a a refl
eq_self (negsuc a) = eq-eqb a a refl

pub true_eq : (a b : ℤ) → a ≡ b → eq_z a b ≡ true
true_eq a b e = ap (eq_z a) (sym e) ∙ eq_self a

pub eq_false : (a b : ℤ) → eq_z a b ≡ false → ¬ (a ≡ b)
eq_false a b e q = true≢false (sym (true_eq a b q) ∙ e)

pub false_eq : (a b : ℤ) → ¬ (a ≡ b) → eq_z a b ≡ false
false_eq a b f = false_by (eq_z a b) (λ e. f (eq_true a b e))

-- ---- the parts of a negation, a sum, a difference and a product

pub neg_parts : (a : ℤ) → (P (neg_ℤ a) ≡ N a) × (N (neg_ℤ a) ≡ P a)
neg_parts (pos zero) = (refl, refl)
neg_parts (pos (suc n)) = (refl, refl)
neg_parts (negsuc n) = (refl, refl)

-- what holds of a − b in both cases
sub_by : (Q : ℤ → Type 0) (a b : ℕ) → (a < b → Q (negsuc (b - suc a))) → (b ≤ a → Q (pos (a - b))) → Q (sub_ℕ a b)
sub_by Q a b f g = go (ltb a b) refl
  where
    go : (t : Bool) → ltb a b ≡ t → Q (cond t (negsuc (b - suc a)) (pos (a - b)))
    go true e = f (ltb-true a b e)
    go false e = g (ltb-false a b e)

sub_parts : (a b : ℕ) → P (sub_ℕ a b) + b ≡ a + N (sub_ℕ a b)
sub_parts a b = sub_by (λ z. P z + b ≡ a + N z) a b (λ h. omega arith) (λ h. omega arith)

sub_size : (a b : ℕ) → P (sub_ℕ a b) + N (sub_ℕ a b) ≤ a + b
sub_size a b = sub_by (λ z. P z + N z ≤ a + b) a b (λ h. omega arith) (λ h. omega arith)

pub plus_parts : (a b : ℤ) → P (a +ℤ b) + (N a + N b) ≡ P a + P b + N (a +ℤ b)
plus_parts (pos a) (pos b) = omega arith
plus_parts (pos a) (negsuc b) = omega (arith, sub_parts a (suc b))
plus_parts (negsuc a) (pos b) = omega (arith, sub_parts b (suc a))
plus_parts (negsuc a) (negsuc b) = omega arith

pub minus_parts : (a b : ℤ) → P (a -ℤ b) + (N a + P b) ≡ P a + N b + N (a -ℤ b)
minus_parts a b = omega (arith, plus_parts a (neg_ℤ b), neg_parts b)

pub times_parts : (a b : ℤ) → P (a *ℤ b) + (P a * N b + N a * P b) ≡ P a * P b + N a * N b + N (a *ℤ b)
times_parts (pos a) (pos b) = omega arith
times_parts (pos a) (negsuc b) = omega (arith, neg_parts (pos (a * suc b)))
times_parts (negsuc a) (pos b) = omega (arith, neg_parts (pos (suc a * b)))
times_parts (negsuc a) (negsuc b) = omega arith

-- ---- their sizes

pub size_plus : (a b : ℤ) → P (a +ℤ b) + N (a +ℤ b) ≤ P a + N a + (P b + N b)
size_plus (pos a) (pos b) = omega arith
size_plus (pos a) (negsuc b) = omega (arith, sub_size a (suc b))
size_plus (negsuc a) (pos b) = omega (arith, sub_size b (suc a))
size_plus (negsuc a) (negsuc b) = omega arith

pub size_minus : (a b : ℤ) → P (a -ℤ b) + N (a -ℤ b) ≤ P a + N a + (P b + N b)
size_minus a b = omega (arith, size_plus a (neg_ℤ b), neg_parts b)

pub size_times : (a b : ℤ) → P (a *ℤ b) + N (a *ℤ b) ≡ (P a + N a) * (P b + N b)
size_times (pos a) (pos b) = omega arith
size_times (pos a) (negsuc b) = omega (arith, neg_parts (pos (a * suc b)))
size_times (negsuc a) (pos b) = omega (arith, neg_parts (pos (suc a * b)))
size_times (negsuc a) (negsuc b) = omega arith

-- ---- the tests as rules: `omega (arith, signs)` reads the hypotheses that are tests of integers, and proves such a test

pub read_le_true : (a b : ℤ) → le_z a b ≡ true → P a + N b ≤ P b + N a
read_le_true a b e = (le_true a b e).le

pub read_le_false : (a b : ℤ) → le_z a b ≡ false → P b + N a < P a + N b
read_le_false a b e = (le_false a b e).lt

pub read_lt_true : (a b : ℤ) → lt_z a b ≡ true → P a + N b < P b + N a
read_lt_true a b e = (lt_true a b e).lt

pub read_lt_false : (a b : ℤ) → lt_z a b ≡ false → P b + N a ≤ P a + N b
read_lt_false a b e = (lt_false a b e).le

pub read_eq_true : (a b : ℤ) → eq_z a b ≡ true → P a + N b ≡ P b + N a
read_eq_true a b e = rw (eq_true a b e)

pub read_eq_false : (a b : ℤ) → eq_z a b ≡ false → P a + N b ≢ P b + N a
read_eq_false a b e q = eq_false a b e (ext a b q)

pub show_le_true : (a b : ℤ) → P a + N b ≤ P b + N a → le_z a b ≡ true
show_le_true a b h = true_le a b (record { le = h })

pub show_le_false : (a b : ℤ) → P b + N a < P a + N b → le_z a b ≡ false
show_le_false a b h = false_le a b (record { lt = h })

pub show_lt_true : (a b : ℤ) → P a + N b < P b + N a → lt_z a b ≡ true
show_lt_true a b h = true_lt a b (record { lt = h })

pub show_lt_false : (a b : ℤ) → P b + N a ≤ P a + N b → lt_z a b ≡ false
show_lt_false a b h = false_lt a b (record { le = h })

pub show_eq_true : (a b : ℤ) → P a + N b ≡ P b + N a → eq_z a b ≡ true
show_eq_true a b e = true_eq a b (ext a b e)

pub show_eq_false : (a b : ℤ) → P a + N b ≢ P b + N a → eq_z a b ≡ false
show_eq_false a b f = false_eq a b (λ e. f (ap (λ z. P a + N z) (sym e) ∙ ap (λ z. P z + N a) e))

pub ruleset signs = (
  read_le_true,
  read_le_false,
  read_lt_true,
  read_lt_false,
  read_eq_true,
  read_eq_false,
  show_le_true,
  show_le_false,
  show_lt_true,
  show_lt_false,
  show_eq_true,
  show_eq_false,
)
