-- What the bounds and the value set of a fact give, by its type.
-- Assumes nothing.
use mathlib.Core.Path.{◌≡◌, refl}
use mathlib.Core.Bool.{true, ◌&&◌}
use Prim.Native.Nat.{ℕ, zero, suc, ◌+◌, ◌≤◌, ◌<◌}
use lib.IntN.{ℤ, pos}
use lib.Signed.{le_z}
use lib.ListN.{get_or-eq_default}
use mathlib.Core.List.{[], ◌∷◌}
use native.Mathlib.Omega.{arith}
use borrow.Author.Tests.{leb-true, eqb-true}
use Rattle.tables.proofs.Bools.{true_false, and_left, and_right}
use Rattle.signed.specs.Words.{eq_z, within, bounded}
use Rattle.signed.proofs.Parts.{Le, le_true, eq_true}
use Rattle.signed.proofs.Bounds.{Small, in_true, small_true, small_in}
use Rattle.node.specs.FactTypes.{FactType, bool_fact, number_fact, int_fact, enum_fact, money_fact, duration_fact, unknown_fact, fact_type_of}

-- min ≤ max, both within −M..M; the set and the type are small; a Bool is 0 or 1
pub record Bounds (r : FactType) (min max : ℤ) (t : ℕ) : Type 0 where
  pub low : Small min
  pub high : Small max
  pub order : Le min max
  pub set : t ≤ 127
  pub few : r.sort t ≤ 261
  pub bool : r.sort t ≡ 0 → (min ≡ pos 0) × (max ≡ pos 1)

abbrev Lawful : FactType → Type 0
Lawful r = (min max : ℤ) (t : ℕ) → r.bounds min max ≡ true → r.takes_set t ≡ true → Bounds r min max t

bool_lawful : Lawful bool_fact
bool_lawful min max t p q =
    let a = eq_true min (pos 0) (and_left (eq_z min (pos 0)) (eq_z max (pos 1)) p) in
    let b = eq_true max (pos 1) (and_right (eq_z min (pos 0)) (eq_z max (pos 1)) p) in
    record {
      low = rw a (omega arith);
      high = rw b (omega arith);
      order = rw (a, b) (omega arith);
      set = omega (arith, eqb-true t 0 q);
      few = omega arith;
      bool = λ z. (a, b);
    }

number_lawful : (s m : ℕ) → 1 ≤ s → m ≤ 127 → s + m ≤ 261 → Lawful (number_fact s m)
number_lawful s m a b l min max t p q =
    let lower = and_left (bounded min && le_z min max) (bounded max) p in
    record {
      low = small_true min (and_left (bounded min) (le_z min max) lower);
      high = small_true max (and_right (bounded min && le_z min max) (bounded max) p);
      order = le_true min max (and_right (bounded min) (le_z min max) lower);
      set = omega (arith, leb-true t m q);
      few = omega (arith, leb-true t m q);
      bool = λ z. absurd (omega arith);
    }

enum_lawful : Lawful enum_fact
enum_lawful min max t p q =
    let a = eq_true min (pos 0) (and_left (eq_z min (pos 0)) (within (pos 0) max (pos 255)) p) in
    let i = in_true (pos 0) max (pos 255) (and_right (eq_z min (pos 0)) (within (pos 0) max (pos 255)) p) in
    record {
      low = rw a (omega arith);
      high = small_in (record { small = omega arith }) (record { small = omega arith }) i;
      order = rw a i.low;
      set = leb-true t 127 q;
      few = omega (arith, leb-true t 127 q);
      bool = λ z. absurd (omega arith);
    }

unknown_lawful : Lawful unknown_fact
unknown_lawful min max t p q = absurd (true_false p refl)

pub fact_bounds : (k : ℕ) → Lawful (fact_type_of k)
unfolding fact_type_of
fact_bounds zero = bool_lawful
fact_bounds (suc zero) = number_lawful 1 0 (omega arith) (omega arith) (omega arith)
fact_bounds (suc (suc zero)) = enum_lawful
fact_bounds (suc (suc (suc zero))) = number_lawful 130 127 (omega arith) (omega arith) (omega arith)
fact_bounds (suc (suc (suc (suc zero)))) = number_lawful 258 3 (omega arith) (omega arith) (omega arith)
fact_bounds (suc (suc (suc (suc (suc k))))) = unknown_lawful

pub type_past : (k : ℕ) → 5 ≤ k → fact_type_of k ≡ unknown_fact
unfolding fact_type_of
type_past k h = get_or-eq_default (bool_fact ∷ int_fact ∷ enum_fact ∷ money_fact ∷ duration_fact ∷ []) unknown_fact h

-- Bool, Int and Enum are no durations
pub plain_sort : (k t : ℕ) → k ≤ 2 → t ≤ 127 → (fact_type_of k).sort t < 258
unfolding fact_type_of
plain_sort zero t l m = omega arith
plain_sort (suc zero) t l m = omega arith
plain_sort (suc (suc zero)) t l m = omega arith
plain_sort (suc (suc (suc k))) t l m = absurd (omega arith)
