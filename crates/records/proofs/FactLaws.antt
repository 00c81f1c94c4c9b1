-- What holds of each fact of an accepted sheet.
-- Assumes nothing.
use mathlib.Core.Path.{◌≡◌}
use mathlib.Core.Bool.{true}
use mathlib.Core.List.{List}
use Prim.Native.Nat.{ℕ, ◌≤◌, ◌<◌}
use lib.IntN.{ℤ}
use native.Mathlib.Omega.{arith}
use Rattle.tables.proofs.Bools.{tests, and_iff}
use Rattle.signed.specs.Words.{num}
use Rattle.signed.proofs.Bounds.{In, in_true}
use Rattle.words.specs.Record.{number}
use Rattle.layout.specs.declared.Header.{Header}
use Rattle.layout.specs.Sized.{Sized}
use Rattle.node.proofs.FactTypeLaws.{Bounds, fact_bounds}
use Rattle.records.specs.Facts.{is_list, value_type, type_row, min_of, max_of, default_flag, default_of, set_of, largest_of, good_default, good_tail, good_fact}
use Rattle.records.specs.Accepted.{GoodFacts}

-- its bounds and its set are as the type of its values wants them; the default, where there is one, lies between them; a list has none, its
-- elements are Bools, Ints or Enums, and it has at most 100 of them
pub record FactOk (s : List ℤ) (k : ℕ) : Type 0 where
  pub bounds : Bounds (type_row s k) (min_of s k) (max_of s k) (set_of s k)
  pub default : default_flag s k ≡ 1 → In (min_of s k) (default_of s k) (max_of s k)
  pub bare : is_list s k ≡ true → default_flag s k ≡ 0
  pub plain : is_list s k ≡ true → value_type s k ≤ 2
  pub largest : is_list s k ≡ true → num (largest_of s k) ≤ 100

default_in : (flag : ℕ) (min max default : ℤ) → good_default flag min max default ≡ true → flag ≡ 1 → In min default max
unfolding good_default
default_in flag min max default p e = in_true min default max (rw e at p)

tail_list : (s : List ℤ) (k : ℕ) → good_tail s k ≡ true → is_list s k ≡ true
    → (default_flag s k ≡ 0) × (number s k 6 ≤ 2) × (num (largest_of s k) ≤ 100)
unfolding good_tail
tail_list s k p e = let q = simp tests at (rw e at p) in (q.0.0, q.0.1, q.1)

pub fact_ok : (s : List ℤ) (k : ℕ) → good_fact s k ≡ true → FactOk s k
unfolding good_fact
fact_ok s k p =
    let q = simp and_iff at p in
    record {
      bounds = fact_bounds (value_type s k) (min_of s k) (max_of s k) (set_of s k) q.0.0.0.0 q.0.0.0.1;
      default = default_in (default_flag s k) (min_of s k) (max_of s k) (default_of s k) q.0.0.1;
      bare = λ e. (tail_list s k q.0.1 e).0;
      plain = λ e. rw e (tail_list s k q.0.1 e).1;
      largest = λ e. (tail_list s k q.0.1 e).2;
    }

-- the facts of a sheet whose facts are good, where there are `n` of them
pub good_facts : {s : List ℤ} {h : Header} {n : ℕ} → Sized s h → ((k : ℕ) → k < h.facts → good_fact s k ≡ true) → n ≡ h.facts → GoodFacts s n
good_facts z g e = record { held = omega (arith, z.long); each = λ k l. g k (omega arith) }
