-- The first bad record through a chain of tables.
-- Assumes nothing.
use mathlib.Core.Path.{◌≡◌, sym, ◌∙◌}
use mathlib.Core.Bool.{true}
use mathlib.Core.List.{List, [], ◌∷◌}
use Prim.Native.Nat.{ℕ, ◌+◌, ◌-◌, ◌<◌}
use native.Mathlib.Omega.{arith}
use borrow.Author.Tests.{lt-ltb, le-ltb}
use Rattle.records.specs.Accept.{Table, good_in}

-- how many records the tables have
unfoldable pub total : List Table → ℕ
total [] = 0
total (t ∷ ts) = t.size + total ts

pub in_first : (t : Table) (ts : List Table) (k : ℕ) → k < t.size → good_in (t ∷ ts) k ≡ t.good k
unfolding good_in
in_first t ts k l = rw (lt-ltb k t.size l, good_in)

pub in_rest : (t : Table) (ts : List Table) (k : ℕ) → good_in (t ∷ ts) (t.size + k) ≡ good_in ts k
unfolding good_in
in_rest t ts k = let e : t.size + k - t.size ≡ k = omega arith in rw (le-ltb (t.size + k) t.size (omega arith), good_in, e)

-- where no record of the chain is bad, none of its first table is, nor of the others
pub first_good : (t : Table) (ts : List Table) → ((j : ℕ) → j < t.size + total ts → good_in (t ∷ ts) j ≡ true) → (j : ℕ) → j < t.size
    → t.good j ≡ true
first_good t ts h j l = sym (in_first t ts j l) ∙ h j (omega arith)

pub rest_good : (t : Table) (ts : List Table) → ((j : ℕ) → j < t.size + total ts → good_in (t ∷ ts) j ≡ true) → (j : ℕ) → j < total ts
    → good_in ts j ≡ true
rest_good t ts h j l = sym (in_rest t ts j) ∙ h (t.size + j) (omega arith)
