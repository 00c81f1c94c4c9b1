-- The scan of a group's counts, and what good groups say of their tables.
-- Assumes nothing.
use mathlib.Core.Path.{◌≡◌, sym}
use mathlib.Core.Bool.{true, false}
use mathlib.Core.List.{List}
use Prim.Native.Nat.{ℕ, ◌+◌, ◌*◌, ◌≤◌, ◌<◌}
use lib.IntN.{ℤ}
use lib.Dec.{leb, eqb}
use native.Mathlib.Omega.{arith}
use borrow.Author.Tests.{le-leb, lt-leb}
use Rattle.tables.specs.Scan.{sum_below}
use Rattle.tables.proofs.Bools.{tests}
use Rattle.tables.proofs.Scans.{sum_zero, sum_more, extend_one, all_of, all_fails}
use Rattle.layout.specs.declared.Header.{Header}
use Rattle.layout.specs.Groups.{effect_count, step_count, route_count, good_group, good_groups}

-- after i owners: their sum so far, each within its bound
pub record Summed (f : ℕ → ℕ) (i sum : ℕ) : Type 0 where
  pub is : sum ≡ sum_below f i
  pub small : sum ≤ 1024 * i
  pub each : (k : ℕ) → k < i → f k ≤ 1024

pub none : (f : ℕ → ℕ) → Summed f 0 0
none f = record { is = sym (sum_zero f); small = omega arith; each = λ k l. absurd (omega arith) }

pub more : (f : ℕ → ℕ) (i sum n : ℕ) → Summed f i sum → n ≡ f i → n ≤ 1024 → Summed f (i + 1) (sum + n)
more f i sum n r e q =
    record {
      is = rw (sum_more f i, r.is, e);
      small = omega (arith, r.small);
      each = extend_one (λ (k : ℕ). f k ≤ 1024) i r.each (rw (← e) q);
    }

pub all_good : (f : ℕ → ℕ) (owners size i sum : ℕ) → Summed f i sum → i ≡ owners → eqb sum size ≡ good_group f owners size
unfolding good_group
all_good f owners size i sum r e =
    rw (← e) (rw (all_of (λ i. leb (f i) 1024) i (λ k q. le-leb (f k) 1024 (r.each k q)), r.is))

pub one_bad : (f : ℕ → ℕ) (owners size i : ℕ) → i < owners → 1024 < f i → false ≡ good_group f owners size
unfolding good_group
one_bad f owners size i l q = rw (all_fails (λ i. leb (f i) 1024) owners i l (lt-leb (f i) 1024 q))

-- the groups' tables are as large as their owners' counts say
module _ (s : List ℤ) (h : Header) (p : good_groups s h ≡ true) where
  pub covers_effects : sum_below (effect_count s h) h.operations ≡ h.effects
  unfolding good_groups good_group
  covers_effects = let q = simp tests at p in q.0.0.1

  pub covers_steps : sum_below (step_count s h) h.flows ≡ h.steps
  unfolding good_groups good_group
  covers_steps = let q = simp tests at p in q.0.1.1

  pub covers_routes : sum_below (route_count s h) h.steps ≡ h.routes
  unfolding good_groups good_group
  covers_routes = let q = simp tests at p in q.1.1
