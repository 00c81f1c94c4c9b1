-- The first number that fails a test: what a scan of a stretch of numbers answers.
-- Assumes nothing.
use mathlib.Core.Path.{◌≡◌, refl, sym, subst, ◌∙◌}
use mathlib.Core.Bool.{Bool, true, false}
use Prim.Native.Nat.{ℕ, zero, suc, ◌+◌, ◌≤◌, ◌<◌}
use native.Mathlib.Omega.{arith}
use native.Mathlib.Decide.{dec_lt}
use Rattle.tables.specs.Scan.{first_fail}
use Rattle.tables.proofs.Bools.{true_false}

-- k is the first number of from..to that fails f, or `to` where none does
pub record Scanned (f : ℕ → Bool) (from to k : ℕ) : Type 0 where
  pub low : from ≤ k
  pub high : k ≤ to
  pub passed : (j : ℕ) → from ≤ j → j < k → f j ≡ true
  pub fails : k < to → f k ≡ false

module _ (f : ℕ → Bool) where
  -- a scan starts with nothing passed
  pub start : (from to k : ℕ) → from ≡ k → k ≤ to → (j : ℕ) → from ≤ j → j < k → f j ≡ true
  start from to k e h j p q = absurd (omega arith)

  -- one number more has passed
  pub step : (from k : ℕ) → ((j : ℕ) → from ≤ j → j < k → f j ≡ true) → f k ≡ true → (j : ℕ) → from ≤ j → j < k + 1 → f j ≡ true
  step from k h p j a b = go (dec_lt j k)
    where
      go : Dec (j < k) → f j ≡ true
      go (yes l) = h j a l
      go (no n) = let e : j ≡ k = omega arith in rw e p

  pub stopped : (from to k : ℕ) → from ≤ k → k < to → ((j : ℕ) → from ≤ j → j < k → f j ≡ true) → f k ≡ false → Scanned f from to k
  stopped from to k a b h e = record { low = a; high = omega arith; passed = h; fails = λ _. e }

  pub ended : (from to k : ℕ) → from ≤ k → k ≤ to → to ≤ k → ((j : ℕ) → from ≤ j → j < k → f j ≡ true) → Scanned f from to k
  ended from to k a b c h = record { low = a; high = b; passed = h; fails = λ l. absurd (omega arith) }

  -- a stretch with no failure, and then the next stretch
  pub joined : (a b c k : ℕ) → ((j : ℕ) → a ≤ j → j < b → f j ≡ true) → a ≤ b → Scanned f b c k → Scanned f a c k
  joined a b c k h le r = record { low = omega (arith, r.low); high = r.high; passed = λ j p q. go j p q (dec_lt j b); fails = r.fails }
    where
      go : (j : ℕ) → a ≤ j → j < k → Dec (j < b) → f j ≡ true
      go j p q (yes l) = h j p l
      go j p q (no n) = r.passed j (omega arith) q

  -- a failure in the first stretch is the first of both
  pub sooner : (a b c k : ℕ) → b ≤ c → k < b → Scanned f a b k → Scanned f a c k
  sooner a b c k le l r = record { low = r.low; high = omega (arith, r.high); passed = r.passed; fails = λ _. r.fails l }

  pub fail_later : (i n : ℕ) → f i ≡ true → first_fail f i (suc n) ≡ first_fail f (suc i) n
  unfolding first_fail
  fail_later i n e = rw (e, first_fail)

  pub fail_here : (i n : ℕ) → f i ≡ false → first_fail f i (suc n) ≡ i
  unfolding first_fail
  fail_here i n e = rw (e, first_fail)

  unique_case : (i n k : ℕ) (b : Bool) → f i ≡ b → Scanned f i (i + suc n) k
      → ((k' : ℕ) → Scanned f (suc i) (suc i + n) k' → first_fail f (suc i) n ≡ k') → first_fail f i (suc n) ≡ k
  unique_case i n k true e r ih =
      rw (fail_later i n e) (ih k (record {
        low = go (dec_lt i k);
        high = omega (arith, r.high);
        passed = λ j p q. r.passed j (omega arith) q;
        fails = λ l. r.fails (omega arith);
      }))
    where
      go : Dec (i < k) → suc i ≤ k
      go (yes l) = l
      go (no n') = let e' : i ≡ k = omega (arith, r.low) in absurd (true_false e (rw (← e') at (r.fails (omega arith))))
  unique_case i n k false e r ih = rw (fail_here i n e) (go (dec_lt i k))
    where
      go : Dec (i < k) → i ≡ k
      go (yes l) = absurd (true_false (r.passed i (omega arith) l) e)
      go (no n') = omega (arith, r.low)

  unique : (i n k : ℕ) → Scanned f i (i + n) k → first_fail f i n ≡ k
  unfolding first_fail
  unique i zero k r = omega (arith, r.low, r.high)
  unique i (suc n) k r = unique_case i n k (f i) refl r (λ k' r'. unique (suc i) n k' r')

  -- a scan answers the definition's number
  pub first_fail_lem : (n k : ℕ) → Scanned f 0 n k → first_fail f 0 n ≡ k
  first_fail_lem n k r = unique 0 n k (subst (λ (m : ℕ). Scanned f 0 m k) (omega arith) r)

  scan_case : (i n : ℕ) (b : Bool) → f i ≡ b → Scanned f (suc i) (suc i + n) (first_fail f (suc i) n) → Scanned f i (i + suc n) (first_fail f i (suc n))
  scan_case i n true e r =
      rw (fail_later i n e) (joined i (suc i) (i + suc n) (first_fail f (suc i) n) (λ j p q. let e' : j ≡ i = omega arith in rw e' e) (omega arith)
      (subst (λ (m : ℕ). Scanned f (suc i) m (first_fail f (suc i) n)) (omega arith) r))
  scan_case i n false e r = rw (fail_here i n e) (stopped i (i + suc n) i (omega arith) (omega arith) (λ j p q. absurd (omega arith)) e)

  scan : (i n : ℕ) → Scanned f i (i + n) (first_fail f i n)
  unfolding first_fail
  scan i zero = ended i (i + zero) i (omega arith) (omega arith) (omega arith) (λ j p q. absurd (omega arith))
  scan i (suc n) = scan_case i n (f i) refl (scan (suc i) n)

  -- and the definition's number is a scan's answer
  pub first_scan : (n : ℕ) → Scanned f 0 n (first_fail f 0 n)
  first_scan n = subst (λ (m : ℕ). Scanned f 0 m (first_fail f 0 n)) (omega arith) (scan 0 n)

  -- what a loop returns: at the first failure, and past the last number
  pub fail_at : (n k : ℕ) → k < n → ((j : ℕ) → j < k → f j ≡ true) → f k ≡ false → k ≡ first_fail f 0 n
  fail_at n k l h e = sym (first_fail_lem n k (stopped 0 n k (omega arith) l (λ j _ q. h j q) e))

  pub fail_none : (n k : ℕ) → k ≤ n → n ≤ k → ((j : ℕ) → j < k → f j ≡ true) → k ≡ first_fail f 0 n
  fail_none n k a b h = sym (first_fail_lem n k (ended 0 n k (omega arith) a b (λ j _ q. h j q)))

  -- where the first failure is past the last number, all pass
  pub all_pass : (n : ℕ) → n ≤ first_fail f 0 n → (j : ℕ) → j < n → f j ≡ true
  all_pass n h j l = (first_scan n).passed j (omega arith) (omega arith)

-- tests that agree below the bound fail first at the same number
pub fail_same : (f g : ℕ → Bool) (n : ℕ) → ((j : ℕ) → j < n → f j ≡ g j) → first_fail f 0 n ≡ first_fail g 0 n
fail_same f g n same =
    let r = first_scan g n in
    first_fail_lem f n (first_fail g 0 n)
    record {
      low = r.low;
      high = r.high;
      passed = λ j p l. same j (omega (arith, r.high)) ∙ r.passed j p l;
      fails = λ l. same (first_fail g 0 n) l ∙ r.fails l;
    }
