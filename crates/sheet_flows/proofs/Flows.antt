-- The scan of the flows.
-- Assumes nothing.
use mathlib.Core.Path.{◌≡◌, refl, sym, ◌∙◌}
use mathlib.Core.Bool.{Bool, true, false, ◌&&◌}
use mathlib.Core.List.{List}
use Prim.Native.Nat.{ℕ, ◌+◌, ◌≤◌, ◌<◌}
use lib.IntN.{ℤ}
use lib.Dec.{eqb, leb}
use native.Mathlib.Omega.{arith}
use Rattle.layout.proofs.Groups.{covers_steps}
use Rattle.tables.specs.Scan.{sum_below}
use Rattle.tables.proofs.Bools.{tests}
use Rattle.tables.proofs.Scans.{sum_zero, sum_more, sum_mono, extend_one}
use Rattle.words.specs.declared.Record.{Record}
use Rattle.words.specs.Record.{record_at, unused}
use Rattle.layout.specs.declared.Header.{Header}
use Rattle.layout.specs.Header.{first_flow}
use Rattle.layout.specs.Groups.{good_groups, step_count, route_count}
use Rattle.layout.specs.Tables.{flow, step}
use Rattle.records.specs.Flows.{good_flow, good_step}

pub steps_of : (s : List ℤ) (h : Header) (f : ℕ) → (flow s h f).w1 ≡ step_count s h f
unfolding record_at
steps_of s h f = refl

pub routes_of_lem : (s : List ℤ) (h : Header) (i : ℕ) → (step s h i).w4 ≡ route_count s h i
unfolding record_at
routes_of_lem s h i = refl

pub flow_start : (s : List ℤ) (h : Header) (f : ℕ) → good_flow s h f ≡ true → (flow s h f).w0 ≡ sum_below (step_count s h) f
unfolding good_flow
flow_start s h f p = let q = simp tests at p in q.0.0

pub flow_some : (s : List ℤ) (h : Header) (f : ℕ) → good_flow s h f ≡ true → 1 ≤ (flow s h f).w1
unfolding good_flow
flow_some s h f p = let q = simp tests at p in q.0.1

pub step_start : (s : List ℤ) (h : Header) (i : ℕ) → good_step s h i ≡ true → (step s h i).w3 ≡ sum_below (route_count s h) i
unfolding good_step
step_start s h i p = let q = simp tests at p in q.0.1

-- at the loop's head
pub record Turn (s : List ℤ) (h : Header) (k sum : ℕ) : Type 0 where
  pub is : sum ≡ sum_below (step_count s h) k
  pub good : (j : ℕ) → j < k → good_flow s h j ≡ true

pub begin : (s : List ℤ) (h : Header) → Turn s h 0 0
begin s h = record { is = sym (sum_zero (step_count s h)); good = λ j l. absurd (omega arith) }

module _ (s : List ℤ) (h : Header) (k sum : ℕ) (w : Turn s h k sum) (l : k < h.flows) {base : ℕ} {r : Record ℕ} {u : Bool}
    (eb : base ≡ first_flow h) (er : r ≡ record_at s (base + k)) (eu : u ≡ unused 2 r) where
  is : r ≡ flow s h k
  is = er ∙ rw eb

  test : (eqb r.w0 sum && leb 1 r.w1 && u) ≡ good_flow s h k
  unfolding good_flow
  test = rw (eu, is, w.is)

  pub fits : good_groups s h ≡ true → sum + r.w1 ≤ h.steps
  fits g =
      omega (
        arith,
        w.is,
        rw (← is) at (steps_of s h k),
        sum_more (step_count s h) k,
        sum_mono (step_count s h) (k + 1) h.flows (omega arith),
        covers_steps s h g,
      )

  pub again : (eqb r.w0 sum && leb 1 r.w1 && u) ≡ true → Turn s h (k + 1) (sum + r.w1)
  again p =
      record {
        is = rw (sum_more (step_count s h) k, w.is, is, steps_of s h k);
        good = extend_one (λ (j : ℕ). good_flow s h j ≡ true) k w.good (sym test ∙ p);
      }

  pub stop : (eqb r.w0 sum && leb 1 r.w1 && u) ≡ false → good_flow s h k ≡ false
  stop p = sym test ∙ p
