-- Conversion of durations, once over the unit: the factor between two units, two steps as one, and that order is kept.
-- Assumes nothing.
use mathlib.Core.Path.{◌≡◌, refl, sym, ap, ◌∙◌}
use mathlib.Core.Bool.{Bool, true, false, cond, ◌&&◌}
use Prim.Native.Nat.{ℕ, zero, suc, ◌+◌, ◌*◌, ◌^◌, ◌≤◌, ◌<◌, max}
use native.Mathlib.Nat.{mul-one, mul-le-mul, mul-le-mul_left, zero-mul, mul_assoc, mul_left_comm}
use native.Mathlib.Omega.{arith}
use lib.Dec.{leb, ltb}
use lib.IntN.{ℤ, pos, negsuc, neg_ℤ, ◌*ℤ◌}
use borrow.Author.Tests.{le-leb, lt-leb, leb-true, leb-false, ltb-true, ltb-false}
use Rattle.tables.proofs.Bools.{and_left, and_right, and_false_left}
use Rattle.signed.specs.Words.{bounded}
use Rattle.signed.proofs.Parts.{P, N, Le, size_times}
use Rattle.signed.proofs.Order.{le_refl}
use Rattle.signed.proofs.Bounds.{In, in_times, true_small}
use Rattle.item.specs.declared.Item.{Item}
use Rattle.item.specs.Units.{crossed, factor, shared, converted}
use Rattle.item.specs.Items.{span, none, align}

-- ---- the factor

module _ (k n : ℕ) (h : 1 ≤ n) where
  crossed_least : (u v : ℕ) → 1 ≤ crossed k n u v
  unfolding crossed
  crossed_least u v = go (leb u k && ltb k v)
    where
      go : (t : Bool) → 1 ≤ cond t n 1
      go true = h
      go false = omega arith

  crossed_most : (u v : ℕ) → crossed k n u v ≤ n
  unfolding crossed
  crossed_most u v = go (leb u k && ltb k v)
    where
      go : (t : Bool) → cond t n 1 ≤ n
      go true = omega arith
      go false = h

  -- two ways one after the other
  crossed_two : (u v w : ℕ) → u ≤ v → v ≤ w → crossed k n u v * crossed k n v w ≡ crossed k n u w
  unfolding crossed
  crossed_two u v w p q = go (leb u k) refl (ltb k v) refl (leb v k) refl (ltb k w) refl
    where
      go : (a : Bool) → leb u k ≡ a → (b : Bool) → ltb k v ≡ b → (c : Bool) → leb v k ≡ c → (d : Bool) → ltb k w ≡ d
          → cond (a && b) n 1 * cond (c && d) n 1 ≡ cond (a && d) n 1
      go true ea true eb true ec d ed = absurd (omega (arith, ltb-true k v eb, leb-true v k ec))
      go true ea true eb false ec true ed = omega arith
      go true ea true eb false ec false ed = absurd (omega (arith, ltb-true k v eb, ltb-false k w ed))
      go true ea false eb true ec true ed = omega arith
      go true ea false eb true ec false ed = refl
      go true ea false eb false ec d ed = absurd (omega (arith, ltb-false k v eb, leb-false v k ec))
      go false ea b eb true ec d ed = absurd (omega (arith, leb-false u k ea, leb-true v k ec))
      go false ea b eb false ec d ed = refl

  -- no way
  crossed_none : (u : ℕ) → crossed k n u u ≡ 1
  unfolding crossed
  crossed_none u = go (leb u k) refl (ltb k u) refl
    where
      go : (a : Bool) → leb u k ≡ a → (b : Bool) → ltb k u ≡ b → cond (a && b) n 1 ≡ 1
      go true ea true eb = absurd (omega (arith, leb-true u k ea, ltb-true k u eb))
      go true ea false eb = refl
      go false ea b eb = refl

-- the products of what is crossed, as they are worked out
pub two_fit : {a b : ℕ} (u v : ℕ) → a ≡ crossed 258 24 u v → b ≡ crossed 259 60 u v → a * b ≤ 1440
two_fit u v p q = rw (p, q) (mul-le-mul (crossed_most 258 24 (omega arith) u v) (crossed_most 259 60 (omega arith) u v))

pub three_fit : {a b c : ℕ} (u v : ℕ) → a ≡ crossed 258 24 u v → b ≡ crossed 259 60 u v → c ≡ crossed 260 60 u v → a * b * c ≤ 86400
three_fit u v p q r = rw r (mul-le-mul (two_fit u v p q) (crossed_most 260 60 (omega arith) u v))

pub factor_most : (u v : ℕ) → factor u v ≤ 86400
unfolding factor
factor_most u v = three_fit u v refl refl refl

pub factor_least : (u v : ℕ) → 1 ≤ factor u v
unfolding factor
factor_least u v =
    mul-le-mul {n₁ = 1} {m₁ = 1} (mul-le-mul {n₁ = 1} {m₁ = 1} (crossed_least 258 24 (omega arith) u v) (crossed_least 259 60 (omega arith) u v))
    (crossed_least 260 60 (omega arith) u v)

pub factor_word : {r : ℕ} (u v : ℕ) → r ≡ factor u v → r < 2 ^ 63
factor_word u v e = omega (arith, factor_most u v)

pub factor_bounded : {r : ℕ} (u v : ℕ) → r ≡ factor u v → bounded (pos r) ≡ true
factor_bounded {r} u v e = true_small (pos r) (record { small = omega (arith, factor_most u v) })

-- from a unit to itself
pub factor_same : (u : ℕ) → factor u u ≡ 1
unfolding factor
factor_same u = rw (crossed_none 258 24 (omega arith) u, crossed_none 259 60 (omega arith) u, crossed_none 260 60 (omega arith) u)

-- two steps are one
pub factor_two : (u v w : ℕ) → u ≤ v → v ≤ w → factor u v * factor v w ≡ factor u w
unfolding factor
factor_two u v w p q =
    rw (← (crossed_two 258 24 (omega arith) u v w p q), ← (crossed_two 259 60 (omega arith) u v w p q), ← (crossed_two 260 60 (omega arith) u v w p q))
    (six (crossed 258 24 u v) (crossed 259 60 u v) (crossed 260 60 u v) (crossed 258 24 v w) (crossed 259 60 v w) (crossed 260 60 v w))
  where
    six : (a b c d e f : ℕ) → a * b * c * (d * e * f) ≡ a * d * (b * e) * (c * f)
    six a b c d e f = simp (mul_assoc, mul_left_comm)

-- ---- the shared type

pub shared_is : (a b : ℕ) → shared a b ≡ cond (leb 258 a && ltb a b) b a
unfolding shared
shared_is a b = go (leb 258 a) refl (leb 258 b) refl (ltb a b) refl
  where
    go : (p : Bool) → leb 258 a ≡ p → (q : Bool) → leb 258 b ≡ q → (r : Bool) → ltb a b ≡ r → cond (p && q) (max a b) a ≡ cond (p && r) b a
    go true ep true eq true er = omega (arith, ltb-true a b er)
    go true ep true eq false er = omega (arith, ltb-false a b er)
    go true ep false eq true er = absurd (omega (arith, leb-true 258 a ep, leb-false 258 b eq, ltb-true a b er))
    go true ep false eq false er = refl
    go false ep q eq r er = refl

shared_down : (a b : ℕ) → (leb 258 a && ltb a b) ≡ true → shared a b ≡ b
shared_down a b e = rw (shared_is a b, e)

shared_stays : (a b : ℕ) → (leb 258 a && ltb a b) ≡ false → shared a b ≡ a
shared_stays a b e = rw (shared_is a b, e)

-- it is the one type or the other
pub shared_most : (a b m : ℕ) → a ≤ m → b ≤ m → shared a b ≤ m
shared_most a b m p q = rw (shared_is a b) (go (leb 258 a && ltb a b))
  where
    go : (t : Bool) → cond t b a ≤ m
    go true = q
    go false = p

-- and never a larger unit
pub shared_least : (a b : ℕ) → a ≤ shared a b
shared_least a b = rw (shared_is a b) (go (leb 258 a && ltb a b) refl)
  where
    go : (t : Bool) → (leb 258 a && ltb a b) ≡ t → a ≤ cond t b a
    go true e = omega (arith, ltb-true a b (and_right (leb 258 a) (ltb a b) e))
    go false e = omega arith

-- Bool stays Bool, and nothing else becomes Bool
pub shared_bool : (a b : ℕ) → shared a b ≡ 0 → a ≡ 0
shared_bool a b = rw (shared_is a b) (go (leb 258 a && ltb a b) refl)
  where
    go : (t : Bool) → (leb 258 a && ltb a b) ≡ t → cond t b a ≡ 0 → a ≡ 0
    go true e z = absurd (omega (arith, ltb-true a b (and_right (leb 258 a) (ltb a b) e)))
    go false e z = z

-- ---- values and ranges

times_one : (v : ℤ) → v *ℤ pos 1 ≡ v
times_one (pos n) = ap pos (mul-one n)
times_one (negsuc n) = ap (λ (z : ℕ). neg_ℤ (pos z)) (mul-one (suc n))

pub converted_down : (a b : ℕ) (v : ℤ) → (leb 258 a && ltb a b) ≡ true → converted a b v ≡ (v *ℤ pos (factor a b))
unfolding converted
converted_down a b v e = rw (shared_down a b e)

-- nothing is converted
pub converted_stays : (a b : ℕ) (v : ℤ) → (leb 258 a && ltb a b) ≡ false → converted a b v ≡ v
unfolding converted
converted_stays a b v e = rw (shared_stays a b e, factor_same a) (times_one v)

-- of unit u to unit v and on to unit w
pub converted_two : (u v w : ℕ) (x : ℤ) → u ≤ v → v ≤ w → x *ℤ pos (factor u v) *ℤ pos (factor v w) ≡ (x *ℤ pos (factor u w))
converted_two u v w x p q = times_two x (factor u v) (factor v w) ∙ rw (factor_two u v w p q)
  where
    neg_times : (a n : ℕ) → neg_ℤ (pos a) *ℤ pos n ≡ neg_ℤ (pos (a * n))
    neg_times zero n = ap pos (zero-mul n) ∙ rw (zero-mul n)
    neg_times (suc a) n = refl

    times_two : (x : ℤ) (m n : ℕ) → x *ℤ pos m *ℤ pos n ≡ (x *ℤ pos (m * n))
    times_two (pos k) m n = ap pos (mul_assoc k m n)
    times_two (negsuc k) m n = neg_times (suc k * m) n ∙ ap (λ (z : ℕ). neg_ℤ (pos z)) (mul_assoc (suc k) m n)

pub align_down : (x y : Item) → (leb 258 x.sort && ltb x.sort y.sort) ≡ true
    → align x y ≡ span y.sort (x.low *ℤ pos (factor x.sort y.sort)) (x.high *ℤ pos (factor x.sort y.sort))
unfolding align
align_down x y e =
    rw (
      shared_down x.sort y.sort e,
      converted_down x.sort y.sort x.low e,
      converted_down x.sort y.sort x.high e,
    )

pub align_stays : (x y : Item) → (leb 258 x.sort && ltb x.sort y.sort) ≡ false → align x y ≡ x
unfolding align
align_stays x y e =
    rw (
      shared_stays x.sort y.sort e,
      converted_stays x.sort y.sort x.low e,
      converted_stays x.sort y.sort x.high e,
    )

pub align_most : (x y : Item) (m : ℕ) → x.sort ≤ m → y.sort ≤ m → (align x y).sort ≤ m
unfolding align
align_most x y m p q = shared_most x.sort y.sort m p q

-- where there is no child nothing is converted
pub align_none : align none none ≡ none
unfolding align shared converted factor crossed
align_none = refl

-- what is no duration stays, whatever it is beside
pub converted_low : (a b : ℕ) (v : ℤ) → a < 258 → converted a b v ≡ v
converted_low a b v l = converted_stays a b v (and_false_left (leb 258 a) (ltb a b) (lt-leb 258 a l))

in_seconds : (u : ℕ) → 258 ≤ u → u ≤ 261 → shared u 261 ≡ 261
unfolding shared
in_seconds u l m = rw (le-leb 258 u l) (omega arith)

-- a value beside another, and then beside seconds, is the value beside seconds
seconds_shared : (a b : ℕ) → a ≤ 261 → b ≤ 261 → shared (shared a b) 261 ≡ shared a 261
seconds_shared a b p q = rw (shared_is a b) (go (leb 258 a && ltb a b) refl)
  where
    go : (t : Bool) → (leb 258 a && ltb a b) ≡ t → shared (cond t b a) 261 ≡ shared a 261
    go true e =
        let d = leb-true 258 a (and_left (leb 258 a) (ltb a b) e) in
        let l = ltb-true a b (and_right (leb 258 a) (ltb a b) e) in
        in_seconds b (omega arith) q ∙ sym (in_seconds a d p)
    go false e = refl

pub converted_on : (a b : ℕ) (x : ℤ) → a ≤ 261 → b ≤ 261 → converted (shared a b) 261 (converted a b x) ≡ converted a 261 x
unfolding converted
converted_on a b x p q =
    converted_two a (shared a b) (shared (shared a b) 261) x (shared_least a b) (shared_least (shared a b) 261)
    ∙ ap (λ (t : ℕ). x *ℤ pos (factor a t)) (seconds_shared a b p q)

-- a converted value is no smaller
pub converted_size : (a b : ℕ) (v : ℤ) → P v + N v ≤ P (converted a b v) + N (converted a b v)
unfolding converted
converted_size a b v =
    omega (arith, size_times v (pos (factor a (shared a b))), mul-le-mul_left (P v + N v) (factor_least a (shared a b)))

-- nor more than 86,400 times as large
pub converted_most : (a b : ℕ) (v : ℤ) → P (converted a b v) + N (converted a b v) ≤ (P v + N v) * 86400
unfolding converted
converted_most a b v =
    omega (arith, size_times v (pos (factor a (shared a b))), mul-le-mul_left (P v + N v) (factor_most a (shared a b)))

-- a type that is no duration is the first one's
pub shared_low : (a b : ℕ) → shared a b < 258 → a ≡ shared a b
shared_low a b = rw (shared_is a b) (go (leb 258 a && ltb a b) refl)
  where
    go : (t : Bool) → (leb 258 a && ltb a b) ≡ t → cond t b a < 258 → a ≡ cond t b a
    go true e l =
        absurd (omega (arith, leb-true 258 a (and_left (leb 258 a) (ltb a b) e), ltb-true a b (and_right (leb 258 a) (ltb a b) e)))
    go false e l = refl

-- order is kept: a converted value lies in the converted range
pub align_in : (x y : Item) (v : ℤ) → In x.low v x.high → In (align x y).low (converted x.sort y.sort v) (align x y).high
unfolding align converted
align_in x y v i = in_times (omega arith) i

pub align_order : (x y : Item) → Le x.low x.high → Le (align x y).low (align x y).high
align_order x y l = omega (arith, align_in x y x.high (record { low = l; high = le_refl x.high }))
