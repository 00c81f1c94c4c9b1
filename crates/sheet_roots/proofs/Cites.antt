-- A tree cites only lower rules exactly if the greatest rule that it cites is lower: strata never fall.
-- Assumes nothing.
use mathlib.Core.Path.{◌≡◌, refl, sym, ap, ◌∙◌}
use mathlib.Core.Bool.{Bool, true, ◌&&◌, ◌||◌}
use mathlib.Core.List.{List, [], ◌∷◌}
use mathlib.Core.Logic.{⊎_elim}
use Prim.Native.Nat.{ℕ, zero, suc, ◌-◌, ◌≤◌, ◌<◌, max}
use lib.IntN.{ℤ}
use lib.Dec.{leb, ltb, eqb}
use native.Mathlib.Omega.{arith}
use native.Mathlib.Decide.{ℕ_discrete, dec_lt, dec_le}
use borrow.Author.Tests.{ne_eqb, le-leb, lt-leb, lt-ltb, le-ltb, eqb-true, leb-true}
use Rattle.tables.specs.Lists.{all_of}
use Rattle.tables.proofs.Bools.{tests, same_tests, and_true, and_left, and_right, or_cases, or_true_right}
use Rattle.layout.specs.declared.Header.{Header}
use Rattle.records.specs.Nodes.{cited_by, tree_of}
use Rattle.records.specs.Rules.{stratum, lower, cites_lower, good_rule}
use Rattle.sheet_nodes.specs.Arrays.{greatest, own_top, top_of}
use Rattle.sheet_roots.specs.Roots.{top_lower}

module _ (s : List ℤ) (h : Header) (k : ℕ) (rising : (i j : ℕ) → i ≤ j → j < k → stratum s h i ≤ stratum s h j) where
  abbrev low : ℕ → Bool
  low t = top_lower s h k (stratum s h k) t

  low_zero : low 0 ≡ true
  unfolding top_lower
  low_zero = refl

  low_down : (t u : ℕ) → t ≤ u → low u ≡ true → low t ≡ true
  unfolding top_lower
  low_down zero u l p = refl
  low_down (suc t) u l p = ⊎_elim none some (or_cases (eqb u 0) (leb u k && ltb (stratum s h (u - 1)) (stratum s h k)) p)
    where
      none : eqb u 0 ≡ true → (eqb (suc t) 0 || leb (suc t) k && ltb (stratum s h (suc t - 1)) (stratum s h k)) ≡ true
      none e = absurd (omega (arith, eqb-true u 0 e))

      some : (leb u k && ltb (stratum s h (u - 1)) (stratum s h k)) ≡ true
          → (eqb (suc t) 0 || leb (suc t) k && ltb (stratum s h (suc t - 1)) (stratum s h k)) ≡ true
      some e =
          let q = simp tests at e in
          let r = rising (suc t - 1) (u - 1) (omega arith) (omega (arith, q.0)) in
          or_true_right (eqb (suc t) 0) _
          (and_true _ _ (le-leb (suc t) k (omega (arith, q.0))) (lt-ltb (stratum s h (suc t - 1)) (stratum s h k) (omega (arith, q.1, r))))

  low_max : (x y : ℕ) → low (max x y) ≡ (low x && low y)
  low_max x y =
      same_tests (low (max x y)) (low x && low y)
      (λ p. and_true (low x) (low y) (low_down x (max x y) (omega arith) p) (low_down y (max x y) (omega arith) p)) (λ p. pick (dec_le x y) p)
    where
      pick : Dec (x ≤ y) → (low x && low y) ≡ true → low (max x y) ≡ true
      pick (yes l) p = let e : max x y ≡ y = omega arith in rw e (and_right (low x) (low y) p)
      pick (no l) p = let e : max x y ≡ x = omega arith in rw e (and_left (low x) (low y) p)

  low_rule : (c : ℕ) → lower s h k c ≡ low (suc c)
  unfolding top_lower
  low_rule c = rw (ne_eqb (suc c) 0 (λ e. omega (arith, e)), back) (ap (λ t. t && ltb (stratum s h c) (stratum s h k)) (tested (dec_lt c k)))
    where
      back : suc c - 1 ≡ c
      back = omega arith

      tested : Dec (c < k) → ltb c k ≡ leb (suc c) k
      tested (yes l) = lt-ltb c k l ∙ sym (le-leb (suc c) k (omega arith))
      tested (no l) = le-ltb c k (omega arith) ∙ sym (lt-leb (suc c) k (omega arith))

  -- a test of the greatest is a test of each
  low_all : (f : ℕ → Bool) (g : ℕ → ℕ) (cs : List ℕ) → ((c : ℕ) → f c ≡ low (g c)) → all_of f cs ≡ low (greatest g cs)
  unfolding all_of greatest
  low_all f g [] e = sym low_zero
  low_all f g (c ∷ cs) e = rw (e c, low_all f g cs e) (sym (low_max (g c) (greatest g cs)))

  pub cites_is : (n : ℕ) → cites_lower s h k n ≡ low (top_of s h n)
  unfolding cites_lower top_of
  cites_is n =
      low_all (λ m. all_of (lower s h k) (cited_by s h m)) (own_top s h) (tree_of s h n) (λ m. low_all (lower s h k) suc (cited_by s h m) low_rule)

-- strata rise along good rules, and to the next once it has been tested
rise_at : (s : List ℤ) (h : Header) (k : ℕ) → good_rule s h (suc k) ≡ true → stratum s h k ≤ stratum s h (suc k)
unfolding good_rule
rise_at s h k p =
    let q = simp tests at p in
    let back : suc k - 1 ≡ k = omega arith in
    leb-true (stratum s h k) (stratum s h (suc k)) (rw (back, ne_eqb (suc k) 0 (λ e. omega (arith, e))) at q.0.0.0.1)

pub rising : (s : List ℤ) (h : Header) (k : ℕ) → ((j : ℕ) → j < k → good_rule s h j ≡ true) → (i j : ℕ) → i ≤ j → j < k → stratum s h i ≤ stratum s h j
rising s h k good i zero a l = let e : i ≡ 0 = omega arith in rw e (omega arith)
rising s h k good i (suc j) a l = go (λ x y. rising s h k good i j x y) (ℕ_discrete i (suc j))
  where
    go : (i ≤ j → j < k → stratum s h i ≤ stratum s h j) → Dec (i ≡ suc j) → stratum s h i ≤ stratum s h (suc j)
    go ih (yes e) = rw e (omega arith)
    go ih (no n) = omega (arith, ih (omega arith) (omega arith), rise_at s h j (good (suc j) l))
