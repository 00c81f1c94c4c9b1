-- Comparisons over two ranges: `can_hold` and `can_fail`, which look at the ranges' ends, say whether some pair of values satisfies the comparison, and
-- whether some pair does not. One argument for every operator: a comparison goes by the order of the two values alone (`Sided`).
-- Assumes nothing.
use mathlib.Core.Path.{◌≡◌, refl, sym, ap, ◌∙◌}
use mathlib.Core.Logic.{◌↔◌, ◌⊎◌, inl, inr, ⊎_elim}
use mathlib.Core.Bool.{Bool, true, false, not, ◌&&◌, ◌||◌, true≢false, false≢true}
use Prim.Native.Nat.{ℕ, zero, suc, ◌<◌}
use native.Mathlib.Omega.{arith}
use lib.IntN.{ℤ, pos}
use lib.Signed.{lt_z, le_z}
use borrow.Author.Tests.{not-true}
use Rattle.signed.specs.Words.{eq_z, max_z}
use Rattle.signed.specs.Compare.{holds, some_pair, can_hold, can_fail}
use Rattle.signed.specs.Inner.{Pair}
use Rattle.signed.proofs.Parts.{Le, Lt, le_true, true_le, false_le, true_lt, false_lt, true_by, false_by, signs}
use Rattle.signed.proofs.Order.{le_antisym, le_or_lt, max_left, max_right, max_le}
use Rattle.signed.proofs.Bounds.{In, in_true, true_in, and_left, and_right}

-- there is no comparison past 5
pub holds_unknown : (op : ℕ) (x y : ℤ) → 5 < op → holds op x y ≡ false
unfolding holds
holds_unknown zero x y h = absurd (omega arith)
holds_unknown (suc zero) x y h = absurd (omega arith)
holds_unknown (suc (suc zero)) x y h = absurd (omega arith)
holds_unknown (suc (suc (suc zero))) x y h = absurd (omega arith)
holds_unknown (suc (suc (suc (suc zero)))) x y h = absurd (omega arith)
holds_unknown (suc (suc (suc (suc (suc zero))))) x y h = absurd (omega arith)
holds_unknown (suc (suc (suc (suc (suc (suc op)))))) x y h = refl

and_false : (t : Bool) → (t && false) ≡ false
and_false true = refl
and_false false = refl

pub can_hold_unknown : (op : ℕ) (l₁ h₁ l₂ h₂ : ℤ) → 5 < op → can_hold op l₁ h₁ l₂ h₂ ≡ false
unfolding can_hold some_pair
can_hold_unknown op l₁ h₁ l₂ h₂ h =
    rw (holds_unknown op l₁ h₂ h, holds_unknown op h₁ l₂ h, holds_unknown op (max_z l₁ l₂) (max_z l₁ l₂) h) (rw and_false)

pub can_fail_unknown : (op : ℕ) (l₁ h₁ l₂ h₂ : ℤ) → 5 < op → can_fail op l₁ h₁ l₂ h₂ ≡ true
unfolding can_fail some_pair
can_fail_unknown op l₁ h₁ l₂ h₂ h = rw (holds_unknown op l₁ h₂ h)

-- ---- the opposite of a comparison

pub not_not : (t : Bool) → t ≡ not (not t)
not_not true = refl
not_not false = refl

pub le_not_lt : (a b : ℤ) → le_z a b ≡ not (lt_z b a)
le_not_lt a b = ⊎_elim (λ h. rw (true_le a b h, false_lt b a h)) (λ h. rw (false_le a b h, true_lt b a h)) (le_or_lt a b)

pub lt_not_le : (a b : ℤ) → lt_z a b ≡ not (le_z b a)
lt_not_le a b = not_not (lt_z a b) ∙ ap not (sym (le_not_lt b a))

-- ---- a comparison goes by the order of the two values

-- f comes to the same for all pairs of one order: less, equal, greater
record Sided (f : ℤ → ℤ → Bool) : Type 0 where
  less : (x y : ℤ) → Lt x y → f x y ≡ f (pos 0) (pos 1)
  equal : (x : ℤ) → f x x ≡ f (pos 0) (pos 0)
  greater : (x y : ℤ) → Lt y x → f x y ≡ f (pos 1) (pos 0)

-- the five tests that the operators are made of come out alike for two pairs
abbrev Alike : ℤ → ℤ → ℤ → ℤ → Type 0
Alike x y x' y' =
    (eq_z x y ≡ eq_z x' y') × (lt_z x y ≡ lt_z x' y') × (le_z x y ≡ le_z x' y') × (lt_z y x ≡ lt_z y' x') × (le_z y x ≡ le_z y' x')

alike : (op : ℕ) (x y x' y' : ℤ) → Alike x y x' y' → holds op x y ≡ holds op x' y'
unfolding holds
alike zero x y x' y' a = a.0
alike (suc zero) x y x' y' a = ap not a.0
alike (suc (suc zero)) x y x' y' a = a.1
alike (suc (suc (suc zero))) x y x' y' a = a.2
alike (suc (suc (suc (suc zero)))) x y x' y' a = a.3
alike (suc (suc (suc (suc (suc zero))))) x y x' y' a = a.4
alike (suc (suc (suc (suc (suc (suc op)))))) x y x' y' a = refl

holds_sided : (op : ℕ) → Sided (holds op)
unfolding eq_z
holds_sided op =
    record {
      less = λ x y h. alike op x y (pos 0) (pos 1) (omega (arith, signs));
      equal = λ x. alike op x x (pos 0) (pos 0) (omega (arith, signs));
      greater = λ x y h. alike op x y (pos 1) (pos 0) (omega (arith, signs));
    }

not_sided : {f : ℤ → ℤ → Bool} → Sided f → Sided (λ x y. not (f x y))
not_sided s =
    record { less = λ x y h. ap not (s.less x y h); equal = λ x. ap not (s.equal x); greater = λ x y h. ap not (s.greater x y h) }

-- ---- three pairs tell

or_true : (s t u : Bool) → s || t || u ≡ true → (s ≡ true) ⊎ ((t ≡ true) ⊎ (u ≡ true))
or_true true t u e = inl refl
or_true false true u e = inr (inl refl)
or_true false false u e = inr (inr e)

true_or : (s t u : Bool) → (s ≡ true) ⊎ ((t ≡ true) ⊎ (u ≡ true)) → s || t || u ≡ true
true_or true t u e = refl
true_or false true u e = refl
true_or false false u e = ⊎_elim (λ n. absurd (false≢true n)) (⊎_elim (λ n. absurd (false≢true n)) (λ y. y)) e

-- a pair of the two ranges of which f is true
record Found (f : ℤ → ℤ → Bool) (l₁ h₁ l₂ h₂ : ℤ) : Type 0 where
  x : ℤ
  y : ℤ
  in₁ : In l₁ x h₁
  in₂ : In l₂ y h₂
  so : f x y ≡ true

module _ (f : ℤ → ℤ → Bool) (l₁ h₁ l₂ h₂ : ℤ) where
  -- a value that both ranges have, and f at it
  abbrev common : Bool
  common = le_z l₁ h₂ && le_z l₂ h₁ && f (max_z l₁ l₂) (max_z l₁ l₂)

  some_true : Le l₁ h₁ → Le l₂ h₂ → some_pair f l₁ h₁ l₂ h₂ ≡ true → Found f l₁ h₁ l₂ h₂
  unfolding some_pair
  some_true n₁ n₂ e = ⊎_elim low (⊎_elim high both) (or_true (f l₁ h₂) (f h₁ l₂) common e)
    where
      low : f l₁ h₂ ≡ true → Found f l₁ h₁ l₂ h₂
      low s = record { x = l₁; y = h₂; in₁ = omega arith; in₂ = omega arith; so = s }

      high : f h₁ l₂ ≡ true → Found f l₁ h₁ l₂ h₂
      high s = record { x = h₁; y = l₂; in₁ = omega arith; in₂ = omega arith; so = s }

      both : common ≡ true → Found f l₁ h₁ l₂ h₂
      both s =
          let m = and_left (le_z l₁ h₂ && le_z l₂ h₁) (f (max_z l₁ l₂) (max_z l₁ l₂)) s in
          record {
            x = max_z l₁ l₂;
            y = max_z l₁ l₂;
            in₁ = record { low = max_left l₁ l₂; high = max_le n₁ (le_true l₂ h₁ (and_right (le_z l₁ h₂) (le_z l₂ h₁) m)) };
            in₂ = record { low = max_right l₁ l₂; high = max_le (le_true l₁ h₂ (and_left (le_z l₁ h₂) (le_z l₂ h₁) m)) n₂ };
            so = and_right (le_z l₁ h₂ && le_z l₂ h₁) (f (max_z l₁ l₂) (max_z l₁ l₂)) s;
          }

  true_some : Sided f → Found f l₁ h₁ l₂ h₂ → some_pair f l₁ h₁ l₂ h₂ ≡ true
  unfolding some_pair
  true_some s p =
      true_or (f l₁ h₂) (f h₁ l₂) common
      (⊎_elim (λ h. ⊎_elim (equal h) less (le_or_lt p.y p.x)) greater (le_or_lt p.x p.y))
    where
      Some : Type 0
      Some = (f l₁ h₂ ≡ true) ⊎ ((f h₁ l₂ ≡ true) ⊎ (common ≡ true))

      less : Lt p.x p.y → Some
      less h = inl (s.less l₁ h₂ (omega arith) ∙ sym (s.less p.x p.y h) ∙ p.so)

      greater : Lt p.y p.x → Some
      greater h = inr (inl (s.greater h₁ l₂ (omega arith) ∙ sym (s.greater p.x p.y h) ∙ p.so))

      equal : Le p.x p.y → Le p.y p.x → Some
      equal h k =
          inr
          (inr
          (rw (true_le l₁ h₂ (omega arith), true_le l₂ h₁ (omega arith))
          (s.equal (max_z l₁ l₂) ∙ sym (s.equal p.x) ∙ ap (f p.x) (le_antisym h k) ∙ p.so)))

-- ---- what a comparison can come to

module _ (op : ℕ) {l₁ h₁ l₂ h₂ x y : ℤ} (i : In l₁ x h₁) (j : In l₂ y h₂) where
  pub hold_in : holds op x y ≡ true → can_hold op l₁ h₁ l₂ h₂ ≡ true
  unfolding can_hold
  hold_in e =
      true_some (holds op) l₁ h₁ l₂ h₂ (holds_sided op) (record { x = x; y = y; in₁ = i; in₂ = j; so = e })

  pub fail_in : holds op x y ≡ false → can_fail op l₁ h₁ l₂ h₂ ≡ true
  unfolding can_fail
  fail_in e =
      true_some (λ a b. not (holds op a b)) l₁ h₁ l₂ h₂ (not_sided (holds_sided op))
      (record { x = x; y = y; in₁ = i; in₂ = j; so = ap not e })

  pub hold_false : can_hold op l₁ h₁ l₂ h₂ ≡ false → holds op x y ≡ false
  hold_false n = false_by (holds op x y) (λ e. true≢false (sym (hold_in e) ∙ n))

  pub fail_false : can_fail op l₁ h₁ l₂ h₂ ≡ false → holds op x y ≡ true
  fail_false n = true_by (holds op x y) (λ e. true≢false (sym (fail_in e) ∙ n))

module _ (op : ℕ) {l₁ h₁ l₂ h₂ : ℤ} (n₁ : Le l₁ h₁) (n₂ : Le l₂ h₂) where
  -- 01: "some pair of values from the two ranges satisfies it"
  pub can_hold_lem : (can_hold op l₁ h₁ l₂ h₂ ≡ true) ↔ Pair op true l₁ h₁ l₂ h₂
  unfolding can_hold
  can_hold_lem = (there, λ p. hold_in op (in_true _ _ _ p.in₁) (in_true _ _ _ p.in₂) p.so)
    where
      there : can_hold op l₁ h₁ l₂ h₂ ≡ true → Pair op true l₁ h₁ l₂ h₂
      there e =
          let p = some_true (holds op) l₁ h₁ l₂ h₂ n₁ n₂ e in
          record { x = p.x; y = p.y; in₁ = true_in _ _ _ p.in₁; in₂ = true_in _ _ _ p.in₂; so = p.so }

  -- 01: "some pair does not"
  pub can_fail_lem : (can_fail op l₁ h₁ l₂ h₂ ≡ true) ↔ Pair op false l₁ h₁ l₂ h₂
  unfolding can_fail
  can_fail_lem = (there, λ p. fail_in op (in_true _ _ _ p.in₁) (in_true _ _ _ p.in₂) p.so)
    where
      there : can_fail op l₁ h₁ l₂ h₂ ≡ true → Pair op false l₁ h₁ l₂ h₂
      there e =
          let p = some_true (λ a b. not (holds op a b)) l₁ h₁ l₂ h₂ n₁ n₂ e in
          record { x = p.x; y = p.y; in₁ = true_in _ _ _ p.in₁; in₂ = true_in _ _ _ p.in₂; so = not-true _ p.so }
