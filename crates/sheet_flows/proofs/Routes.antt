-- The scan of the routes.
-- Assumes nothing.
use Rattle.std.specs.Prelude.{Ok}
use mathlib.Core.Path.{◌≡◌, refl, sym, ap, ◌∙◌}
use mathlib.Core.Bool.{Bool, true, false}
use mathlib.Core.List.{List}
use Prim.Native.Nat.{ℕ, zero, suc, ◌+◌, ◌≤◌, ◌<◌}
use lib.IntN.{ℤ}
use native.Mathlib.Omega.{arith}
use native.Mathlib.Decide.{ℕ_discrete, dec_lt}
use borrow.Author.Tests.{eq-eqb, ne_eqb}
use Rattle.layout.proofs.Groups.{covers_steps, covers_routes}
use Rattle.tables.specs.Scan.{sum_below}
use Rattle.tables.proofs.Scans.{sum_zero, sum_more, sum_mono, extend_one}
use Rattle.records.specs.Scans.{scanned}
use Rattle.records.proofs.Scans.{scan_good}
use Rattle.words.specs.declared.Record.{Record}
use Rattle.words.specs.Record.{number, record_at}
use Rattle.layout.specs.declared.Header.{Header}
use Rattle.layout.specs.Header.{first_step, first_route}
use Rattle.layout.specs.Groups.{step_count, route_count}
use Rattle.layout.specs.Tables.{flow, step}
use Rattle.layout.proofs.Owners.{holder_is}
use Rattle.records.specs.Flows.{good_route, good_route_of, routes_end, steps_end, flow_of, step_of}
use Rattle.sheet_flows.specs.declared.Cursor.{Cursor}
use Rattle.sheet_flows.specs.Routes.{FlowsGood, Room, StepAt, moved}
use Rattle.sheet_flows.proofs.Flows.{steps_of, routes_of_lem, flow_start, flow_some, step_start}

module _ (s : List ℤ) (h : Header) (z : FlowsGood s h) where
  flow_starts : (f : ℕ) → f < h.flows → (flow s h f).w0 ≡ sum_below (λ k. (flow s h k).w1) f
  unfolding record_at
  flow_starts f l = flow_start s h f (z.flows f l)

  step_starts : (i : ℕ) → i < h.steps → (step s h i).w3 ≡ sum_below (λ k. (step s h k).w4) i
  unfolding record_at
  step_starts i l = step_start s h i (z.steps i l)

  -- which flow a step belongs to, and which step a route
  flow_is : (f i : ℕ) → f < h.flows → (flow s h f).w0 ≤ i → i < steps_end s h f → flow_of s h i ≡ f
  unfolding flow_of
  flow_is f i l a b = holder_is (λ k. (flow s h k).w0) (λ k. (flow s h k).w1) h.flows flow_starts f i l a b

  step_is : (i k : ℕ) → i < h.steps → (step s h i).w3 ≤ k → k < routes_end s h i → step_of s h k ≡ i
  unfolding step_of
  step_is i k l a b = holder_is (λ j. (step s h j).w3) (λ j. (step s h j).w4) h.steps step_starts i k l a b

  routes_end_lem : (i : ℕ) → i < h.steps → routes_end s h i ≡ sum_below (route_count s h) (i + 1)
  routes_end_lem i l = rw (step_start s h i (z.steps i l), routes_of_lem s h i, sum_more (route_count s h) i)

  routes_inside : (i : ℕ) → i < h.steps → routes_end s h i ≤ h.routes
  routes_inside i l = omega (arith, routes_end_lem i l, sum_mono (route_count s h) (i + 1) h.steps (omega arith), covers_routes s h z.groups)

-- ---- the routes of one step

pub record Turn (s : List ℤ) (h : Header) (first k : ℕ) : Type 0 where
  pub low : first ≤ k
  pub good : (j : ℕ) → j < k → good_route s h j ≡ true

module _ (s : List ℤ) (h : Header) (i last first end k : ℕ) (z : FlowsGood s h) (a : StepAt s h i last first end) (w : Turn s h first k)
    (l : k < end) where
  pub inside : k < h.routes
  inside = omega (arith, routes_inside s h z i a.here, a.ends)

  module _ {base : ℕ} {r : Record ℕ} {b : Bool} (eb : base ≡ first_route h) (er : r ≡ record_at s (base + k)) (et : b ≡ good_route_of i last r) where
    test : b ≡ good_route s h k
    unfolding good_route
    test =
        rw (step_is s h z i k a.here (omega (arith, a.starts, w.low)) (omega (arith, a.ends)), ← a.flow)
        (et ∙ ap (good_route_of i last) (er ∙ rw eb))

    pub again : b ≡ true → Turn s h first (k + 1)
    again p = record { low = omega (arith, w.low); good = extend_one (λ (j : ℕ). good_route s h j ≡ true) k w.good (sym test ∙ p) }

    pub stop : b ≡ false → good_route s h k ≡ false
    stop p = sym test ∙ p

-- ---- step by step

-- the cursor between steps, the next route, and the routes before it
pub record Walk (s : List ℤ) (h : Header) (i k : ℕ) (c : Cursor) : Type 0 where
  pub at : k ≡ sum_below (route_count s h) i
  pub few : c.flows ≤ h.flows
  pub sum : c.last ≡ sum_below (step_count s h) c.flows
  pub reached : i ≤ c.last
  pub within : (f : ℕ) → c.flows ≡ f + 1 → sum_below (step_count s h) f ≤ i
  pub good : (j : ℕ) → j < k → good_route s h j ≡ true

pub set_out : (s : List ℤ) (h : Header) → Walk s h 0 0 (record { flows = 0; last = 0 })
set_out s h =
    record {
      at = sym (sum_zero (route_count s h));
      few = omega arith;
      sum = sym (sum_zero (step_count s h));
      reached = omega arith;
      within = λ f e. absurd (omega (arith, e));
      good = λ j l. absurd (omega arith);
    }

pub room : (s : List ℤ) (h : Header) (i k : ℕ) (c : Cursor) → FlowsGood s h → Walk s h i k c → i < h.steps → Room s h c i
room s h i k c z w l = record { ready = z; here = l; few = w.few; sum = w.sum; reached = w.reached; within = w.within }

-- a cursor that has moved to step i has the flow of i
pub record Settled (s : List ℤ) (h : Header) (c : Cursor) (i : ℕ) : Type 0 where
  pub f : ℕ
  pub is : c.flows ≡ f + 1
  pub few : f < h.flows
  pub sum : c.last ≡ sum_below (step_count s h) (f + 1)
  pub low : sum_below (step_count s h) f ≤ i
  pub high : i < c.last

-- fewer flows than all have been reached where steps are left
pub left_over : (s : List ℤ) (h : Header) (c : Cursor) (i : ℕ) → Room s h c i → i ≡ c.last → c.flows < h.flows
left_over s h c i r e = go (dec_lt c.flows h.flows)
  where
    go : Dec (c.flows < h.flows) → c.flows < h.flows
    go (yes y) = y
    go (no n) =
        let same : c.flows ≡ h.flows = omega (arith, r.few) in
        absurd (omega (arith, r.here, r.sum ∙ ap (sum_below (step_count s h)) same ∙ covers_steps s h r.ready.groups))

pub settled : (s : List ℤ) (h : Header) (c : Cursor) (i : ℕ) → Room s h c i → Settled s h (moved s h c i) i
settled s h c i r = go (ℕ_discrete i c.last)
  where
    go : Dec (i ≡ c.last) → Settled s h (moved s h c i) i
    go (yes e) =
        let more = left_over s h c i r e in
        let some = rw (steps_of s h c.flows) at (flow_some s h c.flows (r.ready.flows c.flows more)) in
        rw (eq-eqb i c.last e) (record {
          f = c.flows;
          is = refl;
          few = more;
          sum = rw (sum_more (step_count s h) c.flows, r.sum);
          low = omega (arith, r.sum, e);
          high = omega (arith, some, e);
        })
    go (no n) = rw (ne_eqb i c.last n) (pick c.flows refl)
      where
        pick : (m : ℕ) → c.flows ≡ m → Settled s h c i
        pick zero e = absurd (n (omega (arith, r.reached, r.sum ∙ ap (sum_below (step_count s h)) e ∙ sum_zero (step_count s h))))
        pick (suc f) e =
            let e' : c.flows ≡ f + 1 = omega (arith, e) in
            record {
              f = f;
              is = e';
              few = omega (arith, r.few, e);
              sum = r.sum ∙ ap (sum_below (step_count s h)) e';
              low = r.within f e';
              high = omega (arith, r.reached, n);
            }

module _ (s : List ℤ) (h : Header) (i k : ℕ) (c : Cursor) (z : FlowsGood s h) (w : Walk s h i k c) (l : i < h.steps)
    {d : Cursor} (ed : d ≡ moved s h c i) {base m : ℕ} (eb : base ≡ first_step h) (em : m ≡ number s (base + i) 4) where
  count_is : m ≡ route_count s h i
  count_is = em ∙ rw eb

  now_at : Settled s h d i
  now_at = rw ed (settled s h c i (room s h i k c z w l))

  pub end_inside : k + m ≤ h.routes
  end_inside =
      omega (
        arith,
        w.at,
        count_is,
        sum_more (route_count s h) i,
        sum_mono (route_count s h) (i + 1) h.steps (omega arith),
        covers_routes s h z.groups,
      )

  pub at_step : StepAt s h i d.last k (k + m)
  at_step =
      let x = now_at in
      let start : (flow s h x.f).w0 ≡ sum_below (step_count s h) x.f = flow_start s h x.f (z.flows x.f x.few) in
      let end : steps_end s h x.f ≡ d.last = omega (arith, start, steps_of s h x.f, x.sum, sum_more (step_count s h) x.f) in
      let owner = flow_is s h z x.f i x.few (omega (arith, start, x.low)) (omega (arith, end, x.high)) in
      record {
        here = l;
        starts = w.at ∙ sym (step_start s h i (z.steps i l));
        ends = rw (w.at, count_is, step_start s h i (z.steps i l), routes_of_lem s h i);
        flow = rw owner (sym end);
      }

  pub onward : Ok tt ≡ scanned (first_route h) (good_route s h) (k + m) → Walk s h (i + 1) (k + m) d
  onward x =
      let y = now_at in
      record {
        at = rw (sum_more (route_count s h) i, w.at, count_is);
        few = omega (arith, y.is, y.few);
        sum = rw y.is y.sum;
        reached = omega (arith, y.high);
        within = λ f u. let v : f ≡ y.f = omega (arith, u, y.is) in rw v (omega (arith, y.low));
        good = scan_good (first_route h) (good_route s h) (k + m) (sym x);
      }

-- after the last step all routes are good
pub arrived : {s : List ℤ} {h : Header} {i k : ℕ} {c : Cursor} → FlowsGood s h → Walk s h i k c → i ≡ h.steps → (j : ℕ) → j < h.routes
    → good_route s h j ≡ true
arrived {s} {h} {i} {k} z w l j q =
    let e : k ≡ h.routes = w.at ∙ ap (sum_below (route_count s h)) l ∙ covers_routes s h z.groups in
    w.good j (omega arith)

pub last_inside : (s : List ℤ) (h : Header) (c : Cursor) (i : ℕ) → Room s h c i → i ≡ c.last → c.last + step_count s h c.flows ≤ h.steps
last_inside s h c i r e =
    omega (
      arith,
      r.sum,
      sum_more (step_count s h) c.flows,
      sum_mono (step_count s h) (c.flows + 1) h.flows (omega (arith, left_over s h c i r e)),
      covers_steps s h r.ready.groups,
    )
