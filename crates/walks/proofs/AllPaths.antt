-- The list of a flow's paths on an accepted sheet: it holds every path of the flow and nothing else, each once, in order, and it is not empty.
-- Assumes nothing.
use mathlib.Core.Path.{◌≡◌, refl, sym, subst}
use mathlib.Core.Bool.{false}
use mathlib.Core.List.Memᴰ
use mathlib.Core.List.{List, [], ◌∷◌, Memᴰ}
use mathlib.Core.Logic.{⊎_elim}
use Prim.Native.Nat.{ℕ, zero, suc, ◌-◌, ◌≤◌, ◌<◌}
use lib.IntN.{ℤ}
use lib.ListN.{length}
use native.Mathlib.Omega.{arith}
use native.Mathlib.Decide.{dec_lt}
use borrow.Author.Tests.{eq-eqb}
use Rattle.tables.proofs.Bools.{bool_cases}
use Rattle.layout.specs.declared.Header.{Header}
use Rattle.layout.specs.Tables.{flow, route}
use Rattle.records.specs.Accepted.{Accepted}
use Rattle.records.proofs.FlowLaws.{flow_ok}
use Rattle.walks.specs.Paths.{steps_of, first_route_of, routes_of, ends, target, RouteOf, PathFrom, last, next, PathOf, last_of, terminal, Before, here, later, onward, in_turn, paths_from, paths, path, Among}
use Rattle.walks.specs.Inner.{PathList, Way, paths_on, paths_after}
use Rattle.walks.proofs.Ways.{small_terminal, onward_ends, onward_leads, kind_ends, way_start, way_some, way_first, kind_leads, way_on, step_paths, paths_on_lem}
use Rattle.walks.proofs.Lists.{turn_mem, mem_turn, Ordered, none, more, ordered_turn, mem_at, ordered_at, number_of}
use Rattle.walks.proofs.Follow.{turn_some}

-- ---- order

pub paths_from_ordered : (s : List ℤ) (h : Header) (n i : ℕ) → Ordered (paths_from s h n i)
unfolding paths_from
paths_from_ordered s h zero i = none
paths_from_ordered s h (suc n) i =
    ordered_turn (onward s h (paths_from s h n)) (λ r. go r (paths_from_ordered s h n (target s h r))) (first_route_of s h i) (routes_of s h i)
  where
    go : (r : ℕ) → Ordered (paths_from s h n (target s h r)) → Ordered (onward s h (paths_from s h n) r)
    go r o =
        ⊎_elim (λ e. subst Ordered (sym (onward_ends s h (paths_from s h n) r e)) (more (λ q m. absurd (Memᴰ.not-nil m)) none))
        (λ e. subst Ordered (sym (onward_leads s h (paths_from s h n) r e)) o) (bool_cases (ends s h r))

-- no path comes before itself
pub before_self : {p q : List ℕ} → Before p q → p ≡ q → ⊥
before_self (here {a = a} {b = b} l) e = let z : a ≡ b = cc in omega arith
before_self (later {p = p} {q = q} k) e = let z : p ≡ q = cc in before_self k z

module _ (s : List ℤ) (h : Header) (a : Accepted s h) where
  -- ---- every path listed is a path

  pub sound : (n i m : ℕ) (p : List ℕ) → Way s h i m → Memᴰ p (paths_from s h n i) → PathFrom s h i p
  unfolding paths_from target
  sound zero i m p w k = absurd (Memᴰ.not-nil k)
  sound (suc n) i m p w k =
      let z = turn_mem (onward s h (paths_from s h n)) (first_route_of s h i) (routes_of s h i) p k in
      let o : RouteOf s h i z.route = record { low = z.low; high = z.high } in
      subst (PathFrom s h i) (sym z.is)
      (⊎_elim
      (λ e.
      let y = Memᴰ.eq_of_singleton (subst (Memᴰ z.rest) (onward_ends s h (paths_from s h n) z.route e) z.mem) in
      subst (λ (t : List ℕ). PathFrom s h i (z.route ∷ t)) (sym y) (last o (kind_ends s h z.route e)))
      (λ e.
      let y = subst (Memᴰ z.rest) (onward_leads s h (paths_from s h n) z.route e) z.mem in
      next o (kind_leads s h a w z.route o e) (sound n (target s h z.route) m z.rest (way_on s h a w z.route o e m (omega arith)) y))
      (bool_cases (ends s h z.route)))

  -- ---- every path is listed

  pub complete : {i : ℕ} {p : List ℕ} → PathFrom s h i p → (n : ℕ) → Way s h i n → Memᴰ p (paths_from s h n i)
  unfolding paths_from ends target
  complete (last o e) zero w = absurd (omega arith)
  complete (last {i = i} {r = r} o e) (suc n) w =
      mem_turn (onward s h (paths_from s h n)) (first_route_of s h i) (routes_of s h i) r [] o.low o.high
      (subst (Memᴰ []) (sym (onward_ends s h (paths_from s h n) r (eq-eqb (route s h r).w0 1 e))) (Memᴰ.head refl))
  complete (next o e k) zero w = absurd (omega arith)
  complete (next {i = i} {r = r} {p = p} o e k) (suc n) w =
      let z : ends s h r ≡ false = rw e in
      mem_turn (onward s h (paths_from s h n)) (first_route_of s h i) (routes_of s h i) r p o.low o.high
      (subst (Memᴰ p) (sym (onward_leads s h (paths_from s h n) r z)) (complete k n (way_on s h a w r o z n (omega arith))))

  -- a path has no more routes than there are steps left
  pub short : {i : ℕ} {p : List ℕ} → PathFrom s h i p → (n : ℕ) → Way s h i n → length p ≤ n
  unfolding ends target
  short (last o e) n w = omega arith
  short (next o e k) zero w = absurd (omega arith)
  short (next {r = r} o e k) (suc n) w =
      let z : ends s h r ≡ false = rw e in
      omega (arith, short k n (way_on s h a w r o z n (omega arith)))

  -- ---- there is a path

  some_case : (r : ℕ) → (ends s h r ≡ false → 1 ≤ length (paths_on s h (target s h r))) → 1 ≤ length (paths_after s h r)
  some_case r k =
      ⊎_elim (λ e. subst (λ (t : List (List ℕ)). 1 ≤ length t) (sym (onward_ends s h (paths_on s h) r e)) (omega arith))
      (λ e. subst (λ (t : List (List ℕ)). 1 ≤ length t) (sym (onward_leads s h (paths_on s h) r e)) (k e)) (bool_cases (ends s h r))

  pub some_on : (n i : ℕ) → Way s h i n → 1 ≤ length (paths_on s h i)
  some_on zero i w = absurd (omega arith)
  some_on (suc n) i w =
      let r = first_route_of s h i in
      let e : routes_of s h i ≡ suc (routes_of s h i - 1) = omega (arith, way_some s h a w) in
      subst (λ (t : List (List ℕ)). 1 ≤ length t) (sym (step_paths s h a w))
      (subst (λ (k : ℕ). 1 ≤ length (in_turn (paths_after s h) r k)) (sym e)
      (turn_some (paths_after s h) r (routes_of s h i - 1)
      (some_case r (λ z. some_on n (target s h r) (way_on s h a w r (way_first s h a w) z n (omega arith))))))

  pub some_onward : {i n : ℕ} → Way s h i n → (r : ℕ) → RouteOf s h i r → 1 ≤ length (paths_after s h r)
  some_onward {i} {n} w r o = some_case r (λ z. some_on n (target s h r) (way_on s h a w r o z n (omega arith)))

  -- ---- the list of a flow

  module _ (f : ℕ) (l : f < h.flows) where
    pub paths_sound : (p : List ℕ) → Memᴰ p (paths s h f) → PathOf s h f p
    unfolding paths
    paths_sound p m = sound (flow s h f).w1 (flow s h f).w0 (flow s h f).w1 p (way_start s h a f l) m

    pub paths_complete : (p : List ℕ) → PathOf s h f p → Memᴰ p (paths s h f)
    unfolding paths
    paths_complete p k = complete k (flow s h f).w1 (way_start s h a f l)

    pub paths_short : (p : List ℕ) → PathOf s h f p → length p ≤ (flow s h f).w1
    paths_short p k = short k (flow s h f).w1 (way_start s h a f l)

    pub paths_some : 1 ≤ length (paths s h f)
    paths_some = rw (paths_on_lem s h a f l) (some_on (flow s h f).w1 (flow s h f).w0 (way_start s h a f l))

    -- path n is a path of the flow, for every number n that there is
    pub path_sound : (n : ℕ) → n < length (paths s h f) → PathOf s h f (path s h f n)
    unfolding path
    path_sound n k = paths_sound (path s h f n) (mem_at (paths s h f) n k)

    -- a path of the flow has a number
    pub path_number : (p : List ℕ) → PathOf s h f p → Among (paths s h f) p
    path_number p k = number_of (paths s h f) p (paths_complete p k)

-- ---- paths are numbered in their order, so that no path has two numbers

pub paths_ordered : (s : List ℤ) (h : Header) (f : ℕ) → Ordered (paths s h f)
unfolding paths
paths_ordered s h f = paths_from_ordered s h (flow s h f).w1 (flow s h f).w0

pub path_order : (s : List ℤ) (h : Header) (f j k : ℕ) → j < k → k < length (paths s h f) → Before (path s h f j) (path s h f k)
unfolding path
path_order s h f j k l m = ordered_at (paths_ordered s h f) j k l m

pub path_once : (s : List ℤ) (h : Header) (f j k : ℕ) → j < length (paths s h f) → k < length (paths s h f) → path s h f j ≡ path s h f k → j ≡ k
path_once s h f j k l m e = go (dec_lt j k) (dec_lt k j)
  where
    go : Dec (j < k) → Dec (k < j) → j ≡ k
    go (yes y) d = absurd (before_self (path_order s h f j k y m) e)
    go (no n) (yes y) = absurd (before_self (path_order s h f k j y l) (sym e))
    go (no n) (no x) = omega arith

-- the list of a flow's paths is one
pub path_list : (s : List ℤ) (h : Header) → Accepted s h → (f : ℕ) → f < h.flows → PathList s h f (paths s h f)
unfolding path
path_list s h a f l =
    record {
      some = paths_some s h a f l;
      whole = record { sound = path_sound s h a f l; complete = path_number s h a f l; ordered = path_order s h f };
    }

-- ---- terminals and lengths are small

pub last_small : (s : List ℤ) (h : Header) → Accepted s h → {i : ℕ} {p : List ℕ} → PathFrom s h i p → (n : ℕ) → Way s h i n → (d : ℕ)
    → target s h (last_of d p) ≤ 2
unfolding last_of ends target
last_small s h a (last {r = r} o e) n w d = small_terminal s h a w r o (eq-eqb (route s h r).w0 1 e)
last_small s h a (next {r = r} o e k) n w d = let z : ends s h r ≡ false = rw e in last_small s h a k n (way_on s h a w r o z n (omega arith)) r

pub path_small : (s : List ℤ) (h : Header) → Accepted s h → (f : ℕ) → f < h.flows → (p : List ℕ) → PathOf s h f p
    → (terminal s h p ≤ 2) × (length p ≤ 256)
unfolding terminal
path_small s h a f l p k = (
  last_small s h a k (steps_of s h f) (way_start s h a f l) 0,
  omega (arith, paths_short s h a f l p k, (flow_ok s h a f l).inside, a.sized.limits.steps),
)
