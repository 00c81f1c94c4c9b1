-- How many numbers below a bound pass a test.
-- Assumes nothing.
use mathlib.Core.Path.{◌≡◌, refl, sym, ◌∙◌}
use mathlib.Core.Bool.{Bool, true, false, cond}
use mathlib.Core.Logic.{⊎_elim}
use mathlib.Core.List.{List}
use Prim.Native.Nat.{ℕ, zero, suc, ◌+◌, ◌≤◌, ◌<◌}
use native.Mathlib.Omega.{arith}
use native.Mathlib.Decide.{ℕ_discrete}
use lib.ListN.{length, get_or, set}
use lib.Seq.{get_or-set_same, get_or-set_other}
use Rattle.tables.proofs.Bools.{true_false}
use Rattle.tables.proofs.Scans.{below_suc, sum_zero, sum_suc}
use Rattle.reach.specs.Reached.{count_below}

abbrev one : Bool → ℕ
one b = cond b 1 0

pub count_zero : (f : ℕ → Bool) → count_below f 0 ≡ 0
unfolding count_below
count_zero f = sum_zero (λ q. one (f q))

pub count_suc : (f : ℕ → Bool) (n : ℕ) → count_below f (suc n) ≡ count_below f n + one (f n)
unfolding count_below
count_suc f n = sum_suc (λ q. one (f q)) n

one_most : (b : Bool) → one b ≤ 1
one_most true = omega arith
one_most false = omega arith

one_mono : (a b : Bool) → (a ≡ true → b ≡ true) → one a ≤ one b
one_mono true b k = rw (k refl) (omega arith)
one_mono false b k = omega arith

pub count_most : (f : ℕ → Bool) (n : ℕ) → count_below f n ≤ n
count_most f zero = rw (count_zero f) (omega arith)
count_most f (suc n) = rw (count_suc f n) (omega (arith, count_most f n, one_most (f n)))

module _ (f g : ℕ → Bool) where
  -- a test that holds where another does holds as often at least
  pub count_mono : (n : ℕ) → ((q : ℕ) → q < n → f q ≡ true → g q ≡ true) → count_below f n ≤ count_below g n
  count_mono zero k = rw (count_zero f, count_zero g) (omega arith)
  count_mono (suc n) k =
      rw (count_suc f n, count_suc g n) (omega (arith, count_mono n (λ q l. k q (omega arith)), one_mono (f n) (g n) (k n (omega arith))))

  -- tests that agree hold equally often
  pub count_agree : (n : ℕ) → ((q : ℕ) → q < n → f q ≡ g q) → count_below f n ≡ count_below g n
  count_agree zero k = count_zero f ∙ sym (count_zero g)
  count_agree (suc n) k = count_suc f n ∙ rw (count_agree n (λ q l. k q (omega arith)), k n (omega arith)) (sym (count_suc g n))

  -- and, where it holds no more often, nowhere else
  pub count_same : (n : ℕ) → ((q : ℕ) → q < n → f q ≡ true → g q ≡ true) → count_below g n ≤ count_below f n → (q : ℕ) → q < n → g q ≡ f q
  count_same zero k c q l = absurd (omega arith)
  count_same (suc n) k c q l = ⊎_elim (λ m. count_same n below fewer q m) (λ e. rw e (last (f n) (g n) refl refl)) (below_suc q n l)
    where
      below : (q : ℕ) → q < n → f q ≡ true → g q ≡ true
      below q m = k q (omega arith)

      fewer : count_below g n ≤ count_below f n
      fewer = omega (arith, c, count_suc f n, count_suc g n, one_mono (f n) (g n) (k n (omega arith)))

      last : (a b : Bool) → f n ≡ a → g n ≡ b → b ≡ a
      last true true p q = refl
      last true false p q = absurd (true_false (k n (omega arith) p) q)
      last false true p q =
          let u : count_below f (suc n) ≡ count_below f n + 0 = rw p at (count_suc f n) in
          let v : count_below g (suc n) ≡ count_below g n + 1 = rw q at (count_suc g n) in
          absurd (omega (arith, c, u, v, count_mono n below))
      last false false p q = refl

  -- one number more
  pub count_one : (n i : ℕ) → i < n → f i ≡ false → g i ≡ true → ((q : ℕ) → (q ≡ i → ⊥) → g q ≡ f q) → count_below g n ≡ count_below f n + 1
  count_one zero i l a b k = absurd (omega arith)
  count_one (suc n) i l a b k = rw (count_suc f n, count_suc g n) (go (λ m. count_one n i m a b k) (ℕ_discrete i n))
    where
      equal : (m : ℕ) → m ≤ i → count_below g m ≡ count_below f m
      equal zero t = rw (count_zero f, count_zero g)
      equal (suc m) t = rw (count_suc f m, count_suc g m, equal m (omega arith), k m (λ z. omega (arith, z)))

      go : (i < n → count_below g n ≡ count_below f n + 1) → Dec (i ≡ n) → count_below g n + one (g n) ≡ count_below f n + one (f n) + 1
      go ih (yes e) =
          let p : f n ≡ false = rw e at a in
          let q : g n ≡ true = rw e at b in
          rw (p, q, equal n (omega arith)) (omega arith)
      go ih (no x) = rw (k n (λ z. x (sym z))) (omega (arith, ih (omega arith)))

-- a flag more is set
pub count_set : (t : List Bool) (i n : ℕ) → i < n → i < length t → get_or t i false ≡ false
    → count_below (λ q. get_or (set t i true) q false) n ≡ count_below (λ q. get_or t q false) n + 1
count_set t i n l k e =
    count_one (λ q. get_or t q false) (λ q. get_or (set t i true) q false) n i l e (get_or-set_same t i true false k)
    (λ q z. get_or-set_other t i q true false z)
