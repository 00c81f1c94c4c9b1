-- The scans of tables: what a scan's loop returns, and that scans one after the other find the first bad record of all tables.
-- Assumes nothing.
use Rattle.std.specs.Prelude.{Ok, Err}
use mathlib.Core.Path.{◌≡◌, refl, subst, ◌∙◌, ap}
use mathlib.Core.Bool.{Bool, true, false}
use mathlib.Core.List.{List, [], ◌∷◌}
use Prim.Native.Nat.{ℕ, ◌+◌, ◌-◌, ◌≤◌, ◌<◌}
use native.Mathlib.Omega.{arith}
use native.Mathlib.Decide.{dec_lt}
use borrow.Author.Tests.{lt-ltb, le-ltb}
use Rattle.tables.specs.Scan.{first_fail}
use Rattle.tables.proofs.Scanned.{first_scan, fail_at, fail_none, all_pass}
use Rattle.records.specs.Accept.{Table, good_in}
use Rattle.records.specs.Scans.{scanned, scanned_tables}
use Rattle.records.proofs.Chain.{total, in_first, in_rest}

module _ (base : ℕ) (good : ℕ → Bool) (n : ℕ) where
  -- at the first bad record, and past the last one
  pub stopped : {m : ℕ} (k : ℕ) → m ≡ base + k → k < n → ((j : ℕ) → j < k → good j ≡ true) → good k ≡ false → Err m ≡ scanned base good n
  unfolding scanned
  stopped k e l h b = rw (e, ← fail_at good n k l h b, lt-ltb k n l)

  pub ended : ((j : ℕ) → j < n → good j ≡ true) → Ok tt ≡ scanned base good n
  unfolding scanned
  ended h = rw (← fail_none good n n (omega arith) (omega arith) h, le-ltb n n (omega arith))

  -- what an answer tells
  pub scan_good : scanned base good n ≡ Ok tt → (j : ℕ) → j < n → good j ≡ true
  unfolding scanned
  scan_good p = go (dec_lt (first_fail good 0 n) n)
    where
      go : Dec (first_fail good 0 n < n) → (j : ℕ) → j < n → good j ≡ true
      go (yes l) = let q = rw (lt-ltb (first_fail good 0 n) n l) at p in absurd cc
      go (no x) = all_pass good n (omega arith)

module _ (base : ℕ) (good : ℕ → Bool) (n : ℕ) where
  bad_at : first_fail good 0 n < n → scanned base good n ≡ Err (base + first_fail good 0 n)
  unfolding scanned
  bad_at l = rw (lt-ltb (first_fail good 0 n) n l)

  none_at : n ≤ first_fail good 0 n → scanned base good n ≡ Ok tt
  unfolding scanned
  none_at l = rw (le-ltb (first_fail good 0 n) n l)

-- the first bad record of some is that of more
pub wider : (base : ℕ) (good : ℕ → Bool) {m n k : ℕ} → Err k ≡ scanned base good m → m ≤ n → Err k ≡ scanned base good n
wider base good {m} {n} {k} p l = go (dec_lt (first_fail good 0 m) m)
  where
    go : Dec (first_fail good 0 m < m) → Err k ≡ scanned base good n
    go (yes q) =
        let r = first_scan good m in
        p ∙ bad_at base good m q ∙ stopped base good n (first_fail good 0 m) refl (omega arith) (λ j x. r.passed j (omega arith) x) (r.fails q)
    go (no x) = let q = p ∙ none_at base good m (omega arith) in absurd cc

-- the good records of a table and then those of the next ones
good_both : (t : Table) (ts : List Table) (m : ℕ) → ((j : ℕ) → j < t.size → t.good j ≡ true) → ((j : ℕ) → j < m → good_in ts j ≡ true)
    → (j : ℕ) → j < t.size + m → good_in (t ∷ ts) j ≡ true
good_both t ts m h r j l = go (dec_lt j t.size)
  where
    go : Dec (j < t.size) → good_in (t ∷ ts) j ≡ true
    go (yes y) = in_first t ts j y ∙ h j y
    go (no n) =
        let e : t.size + (j - t.size) ≡ j = omega arith in
        subst (λ (i : ℕ). good_in (t ∷ ts) i ≡ true) e (in_rest t ts (j - t.size) ∙ r (j - t.size) (omega arith))

-- the first bad record of tables one after the other is that of the first table with a bad one
pub chained : (base : ℕ) (ts : List Table) → scanned_tables base ts ≡ scanned base (good_in ts) (total ts)
unfolding total
chained base [] = ended base (good_in []) 0 (λ j l. absurd (omega arith))
chained base (t ∷ ts) = go (chained (base + t.size) ts) (dec_lt here t.size)
  where
    here : ℕ
    here = first_fail t.good 0 t.size

    later : ℕ
    later = first_fail (good_in ts) 0 (total ts)

    go_later : ((j : ℕ) → j < t.size → t.good j ≡ true) → Dec (later < total ts)
        → scanned (base + t.size) (good_in ts) (total ts) ≡ scanned base (good_in (t ∷ ts)) (t.size + total ts)
    go_later h (yes l) =
        let r = first_scan (good_in ts) (total ts) in
        let e : base + t.size + later ≡ base + (t.size + later) = omega arith in
        bad_at (base + t.size) (good_in ts) (total ts) l ∙ ap Err e
        ∙ stopped base (good_in (t ∷ ts)) (t.size + total ts) (t.size + later) refl (omega arith) (good_both t ts later h (λ j q. r.passed j (omega arith) q))
        (in_rest t ts later ∙ r.fails l)
    go_later h (no x) =
        none_at (base + t.size) (good_in ts) (total ts) (omega arith)
        ∙ ended base (good_in (t ∷ ts)) (t.size + total ts) (good_both t ts (total ts) h (all_pass (good_in ts) (total ts) (omega arith)))

    go : scanned_tables (base + t.size) ts ≡ scanned (base + t.size) (good_in ts) (total ts) → Dec (here < t.size)
        → scanned_tables base (t ∷ ts) ≡ scanned base (good_in (t ∷ ts)) (t.size + total ts)
    go e (yes l) =
        let r = first_scan t.good t.size in
        rw (bad_at base t.good t.size l)
        (stopped base (good_in (t ∷ ts)) (t.size + total ts) here refl (omega arith) (λ j q. in_first t ts j (omega arith) ∙ r.passed j (omega arith) q)
        (in_first t ts here l ∙ r.fails l))
    go e (no x) =
        rw (none_at base t.good t.size (omega arith))
        (e ∙ go_later (all_pass t.good t.size (omega arith)) (dec_lt later (total ts)))
