-- A group's owners: the one that holds a member. Each owner's members start where those before it end.
-- Assumes nothing.
use mathlib.Core.Path.{◌≡◌}
use mathlib.Core.Bool.{true}
use Prim.Native.Nat.{ℕ, zero, suc, ◌+◌, ◌≤◌, ◌<◌}
use lib.Dec.{leb}
use native.Mathlib.Omega.{arith}
use native.Mathlib.Decide.{dec_lt}
use borrow.Author.Tests.{le-leb, lt-leb, leb-true, leb-false}
use Rattle.tables.specs.Scan.{sum_below, first_fail}
use Rattle.tables.proofs.Scans.{sum_suc, sum_mono, sum_zero}
use Rattle.tables.proofs.Scanned.{Scanned, first_fail_lem, first_scan}

-- the first owner whose members end past e
abbrev pub holder : (ℕ → ℕ) → (ℕ → ℕ) → ℕ → ℕ → ℕ
holder first count n e = first_fail (λ i. leb (first i + count i) e) 0 n

module _ (first count : ℕ → ℕ) (n : ℕ) (starts : (i : ℕ) → i < n → first i ≡ sum_below count i) where
  -- an owner's members end where the next owner's start
  pub end_is : (i : ℕ) → i < n → first i + count i ≡ sum_below count (suc i)
  end_is i l = rw (starts i l, sum_suc count i)

  -- e is held by o exactly where it lies among o's members
  pub holder_is : (o e : ℕ) → o < n → first o ≤ e → e < first o + count o → holder first count n e ≡ o
  holder_is o e l a b =
      first_fail_lem (λ i. leb (first i + count i) e) n o
      (record {
        low = omega arith;
        high = omega arith;
        passed = λ j p q. le-leb (first j + count j) e (omega (arith, end_is j (omega arith), sum_mono count (suc j) o q, starts o l));
        fails = λ _. lt-leb (first o + count o) e b;
      })

  module _ (e : ℕ) (inside : e < sum_below count n) where
    scanned : Scanned (λ i. leb (first i + count i) e) 0 n (holder first count n e)
    scanned = first_scan (λ i. leb (first i + count i) e) n

    all_before : (m : ℕ) → m ≤ n → ((j : ℕ) → j < m → leb (first j + count j) e ≡ true) → sum_below count m ≤ e
    all_before zero l h = rw (sum_zero count) (omega arith)
    all_before (suc m) l h = omega (arith, end_is m l, leb-true (first m + count m) e (h m (omega arith)))

    -- a member of the table has a holder
    pub held : holder first count n e < n
    held = go (dec_lt (holder first count n e) n)
      where
        go : Dec (holder first count n e < n) → holder first count n e < n
        go (yes l) = l
        go (no x) =
            let q = all_before n (omega arith) (λ j l. scanned.passed j (omega arith) (omega arith)) in absurd (omega arith)

    pub starts_by : first (holder first count n e) ≤ e
    starts_by =
        let q = all_before (holder first count n e) scanned.high (λ j l. scanned.passed j (omega arith) l) in
        rw (starts (holder first count n e) held) q

    pub ends_past : e < first (holder first count n e) + count (holder first count n e)
    ends_past = leb-false (first (holder first count n e) + count (holder first count n e)) e (scanned.fails held)

-- a later member has the same holder or a later one
pub holder_mono : (first count : ℕ → ℕ) (n d e : ℕ) → d ≤ e → holder first count n d ≤ holder first count n e
holder_mono first count n d e l = go (dec_lt (holder first count n e) (holder first count n d))
  where
    go : Dec (holder first count n e < holder first count n d) → holder first count n d ≤ holder first count n e
    go (no x) = omega arith
    go (yes y) =
        let p = first_scan (λ i. leb (first i + count i) d) n in
        let q = first_scan (λ i. leb (first i + count i) e) n in
        let a = leb-true (first (holder first count n e) + count (holder first count n e)) d (p.passed (holder first count n e) (omega arith) y) in
        let b = leb-false (first (holder first count n e) + count (holder first count n e)) e (q.fails (omega (arith, p.high))) in
        absurd (omega arith)
