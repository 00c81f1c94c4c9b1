-- The longest path by one pass from the last step to the first: a step's depth from those of the steps that its routes lead to.
-- Assumes nothing.
use mathlib.Core.Path.{◌≡◌, refl, sym, ap, ◌∙◌}
use mathlib.Core.Bool.{true, false}
use mathlib.Core.List.{List, [], ◌∷◌, ◌++◌, map, Memᴰ}
use mathlib.Core.Logic.{⊎_elim}
use Prim.Native.Nat.{ℕ, zero, suc, ◌+◌, ◌-◌, ◌≤◌, ◌<◌, max}
use native.Mathlib.Numerals.{add-one}
use native.Mathlib.Omega.{arith}
use native.Mathlib.Decide.{ℕ_discrete}
use lib.IntN.{ℤ}
use lib.ListN.{length, get_or, set, replicate, length-set}
use lib.Seq.{get_or-set_same, get_or-set_other}
use Rattle.tables.proofs.Bools.{bool_cases}
use Rattle.layout.specs.declared.Header.{Header}
use Rattle.records.specs.Accepted.{Accepted}
use Rattle.records.proofs.FlowLaws.{flow_ok}
use Rattle.walks.specs.Paths.{first_step_of, steps_of, first_route_of, routes_of, ends, target, RouteOf, in_turn}
use Rattle.walks.specs.Inner.{paths_on, paths_after, Way}
use Rattle.depth.specs.Inner.{max_from, route_depth, step_depth, Shallow}
use Rattle.depth.specs.Depth.{greatest, depth}
use Rattle.walks.proofs.Ways.{onward_ends, onward_leads, step_ends, way_later, step_paths, paths_on_lem}
use Rattle.walks.proofs.AllPaths.{sound, short, some_onward}

-- ---- the greatest length in a list of paths

greatest_append : (ps qs : List (List ℕ)) → greatest (ps ++ qs) ≡ max (greatest ps) (greatest qs)
unfolding greatest
greatest_append [] qs = omega arith
greatest_append (p ∷ ps) qs = rw (greatest_append ps qs) (omega arith)

greatest_put : (r : ℕ) (ps : List (List ℕ)) → 1 ≤ length ps → greatest (map (λ p. r ∷ p) ps) ≡ greatest ps + 1
unfolding greatest
greatest_put r [] l = absurd (omega arith)
greatest_put r (p ∷ []) l = omega arith
greatest_put r (p ∷ q ∷ ps) l = rw (greatest_put r (q ∷ ps) (omega arith)) (omega arith)

-- by routes in turn
greatest_turn : (after : ℕ → List (List ℕ)) (f : ℕ → ℕ) (r n : ℕ)
    → ((x : ℕ) → r ≤ x → x < r + n → (1 ≤ length (after x)) × (f x ≡ greatest (after x) + 1)) → greatest (in_turn after r n) ≡ max_from f r n
unfolding in_turn max_from greatest
greatest_turn after f r zero k = refl
greatest_turn after f r (suc n) k =
    let z = k r (omega arith) (omega arith) in
    greatest_append (map (λ p. r ∷ p) (after r)) (in_turn after (suc r) n)
    ∙ rw (greatest_put r (after r) z.0, greatest_turn after f (suc r) n (λ x p q. k x (omega arith) (omega arith)), z.1)

greatest_short : (n : ℕ) (ps : List (List ℕ)) → ((p : List ℕ) → Memᴰ p ps → length p ≤ n) → greatest ps ≤ n
unfolding greatest
greatest_short n [] k = omega arith
greatest_short n (p ∷ ps) k = omega (arith, k p (Memᴰ.head refl), greatest_short n ps (λ q m. k q (Memᴰ.tail m)))

-- ---- a step's depth

module _ (s : List ℤ) (h : Header) (d : List ℕ) (r : ℕ) where
  pub route_ends : ends s h r ≡ true → route_depth s h d r ≡ 1
  unfolding route_depth
  route_ends e = rw (e, route_depth)

  pub route_leads : ends s h r ≡ false → route_depth s h d r ≡ get_or d (target s h r) 0 + 1
  unfolding route_depth
  route_leads e = rw (e, route_depth)

  -- it is that of the paths after the route, where the table has it for the step that the route leads to
  route_depth_lem : (ends s h r ≡ false → get_or d (target s h r) 0 ≡ greatest (paths_on s h (target s h r)))
      → route_depth s h d r ≡ greatest (paths_after s h r) + 1
  unfolding greatest
  route_depth_lem k =
      ⊎_elim (λ e. route_ends e ∙ rw (onward_ends s h (paths_on s h) r e))
      (λ e. route_leads e ∙ ap (λ (n : ℕ). n + 1) (k e) ∙ ap (λ (t : List (List ℕ)). greatest t + 1) (sym (onward_leads s h (paths_on s h) r e)))
      (bool_cases (ends s h r))

pub step_depth_lem : (s : List ℤ) (h : Header) (a : Accepted s h) (d : List ℕ) {i n : ℕ} (w : Way s h i n)
    → ((r : ℕ) → RouteOf s h i r → ends s h r ≡ false → get_or d (target s h r) 0 ≡ greatest (paths_on s h (target s h r))) → step_depth s h d i
    ≡ greatest (paths_on s h i)
unfolding step_depth
step_depth_lem s h a d {i} {n} w k =
    sym
    (ap greatest (step_paths s h a w)
    ∙ greatest_turn (paths_after s h) (route_depth s h d) (first_route_of s h i) (routes_of s h i)
    (λ x p q.
    let o : RouteOf s h i x = record { low = p; high = q } in
    (some_onward s h a w x o, route_depth_lem s h d x (k x o))))

-- no path is longer than the steps that are left
pub depth_short : (s : List ℤ) (h : Header) → Accepted s h → (i n : ℕ) → Way s h i n → greatest (paths_on s h i) ≤ n
unfolding paths_on
depth_short s h a i n w = greatest_short n (paths_on s h i) (λ p m. short s h a (sound s h a h.steps i n p w m) n w)

-- ---- the scan of a step's routes

-- `most` is the greatest at the routes before r, of those from `first` to `end`
pub record Scanning (f : ℕ → ℕ) (first end r most : ℕ) : Type 0 where
  pub high : r ≤ end
  pub is : max most (max_from f r (end - r)) ≡ max_from f first (end - first)

pub scan_none : (f : ℕ → ℕ) (first many : ℕ) → Scanning f first (first + many) first 0
scan_none f first many = record { high = omega arith; is = omega arith }

module _ {f : ℕ → ℕ} {first end r most : ℕ} (k : Scanning f first end r most) where
  pub scan_more : r < end → {v m : ℕ} → v ≡ f r → m ≡ max most v → Scanning f first end (r + 1) m
  unfolding max_from
  scan_more l {v} {m} e o =
      let z : end - r ≡ suc (end - suc r) = omega arith in
      let y : max most (max (f r) (max_from f (suc r) (end - suc r))) ≡ max_from f first (end - first) = rw z at k.is in
      record { high = omega arith; is = rw add-one (omega arith) }

  scan_done : end ≤ r → most ≡ max_from f first (end - first)
  unfolding max_from
  scan_done l =
      let z : end - r ≡ 0 = omega arith in
      let y : max most 0 ≡ max_from f first (end - first) = rw z at k.is in
      omega arith

-- after the scan `most` is the step's depth
pub scan_step : (s : List ℤ) (h : Header) (d : List ℕ) (i : ℕ) {first many r most : ℕ} → Scanning (route_depth s h d) first (first + many) r most
    → first + many ≤ r
    → first ≡ first_route_of s h i → many ≡ routes_of s h i → most ≡ step_depth s h d i
unfolding step_depth
scan_step s h d i {first} {many} k l p q =
    let z : first + many - first ≡ many = omega arith in
    scan_done k l ∙ rw (z, p, q)

-- a step's routes lie in the table
pub scan_in : (s : List ℤ) (h : Header) → Accepted s h → (i : ℕ) {first many : ℕ} → i < h.steps → first ≡ first_route_of s h i → many ≡ routes_of s h i
    → first + many ≤ h.routes
scan_in s h a i l p q = rw (p, q) (step_ends s h a i l)

-- ---- the pass over the flow's steps

-- of the steps from `first` to `end`, those from i on have their depths in the table
pub record Deep (s : List ℤ) (h : Header) (first end : ℕ) (d : List ℕ) (i : ℕ) : Type 0 where
  pub low : first ≤ i
  pub high : i ≤ end
  pub size : length d ≡ 256
  pub shallow : Shallow d
  pub at : (j : ℕ) → i ≤ j → j < end → get_or d j 0 ≡ greatest (paths_on s h j)

shallow_zeros : (n : ℕ) → Shallow (replicate n 0)
shallow_zeros n = record { each = λ j. go n j }
  where
    go : (n j : ℕ) → get_or (replicate n 0) j 0 ≤ 256
    go zero j = omega arith
    go (suc n) zero = omega arith
    go (suc n) (suc j) = go n j

shallow_set : (d : List ℕ) (i v : ℕ) → Shallow d → v ≤ 256 → Shallow (set d i v)
shallow_set d i v k l = record { each = λ j. go d i j (λ q. k.each q) }
  where
    go : (d : List ℕ) (i j : ℕ) → ((q : ℕ) → get_or d q 0 ≤ 256) → get_or (set d i v) j 0 ≤ 256
    go [] i j m = omega arith
    go (x ∷ d) zero zero m = l
    go (x ∷ d) zero (suc j) m = m (suc j)
    go (x ∷ d) (suc i) zero m = m zero
    go (x ∷ d) (suc i) (suc j) m = go d i j (λ q. m (suc q))

pub deep_none : (s : List ℤ) (h : Header) (first many : ℕ) → Deep s h first (first + many) (replicate 256 0) (first + many)
deep_none s h first many =
    record { low = omega arith; high = omega arith; size = refl; shallow = shallow_zeros 256; at = λ j p q. absurd (omega arith) }

module _ {s : List ℤ} {h : Header} (a : Accepted s h) (f : ℕ) (l : f < h.flows) {first many : ℕ} (p : first ≡ first_step_of s h f)
    (q : many ≡ steps_of s h f) where
  -- the flow's steps lie in the table, and there are some
  pub deep_end : first + many ≤ h.steps
  deep_end = rw (p, q) (flow_ok s h a f l).inside

  deep_some : 1 ≤ many
  deep_some = rw q (flow_ok s h a f l).some

  pub deep_first : first < 256
  deep_first = omega (arith, deep_end, deep_some, a.sized.limits.steps)

  abbrev deep_way : (j : ℕ) → first ≤ j → j < first + many → Way s h j 256
  deep_way j x y = record { of = f; exists = l; low = omega arith; high = omega arith; left = omega (arith, deep_end, a.sized.limits.steps) }

  module _ {d : List ℕ} {i : ℕ} (k : Deep s h first (first + many) d i) where
    pub deep_step : first < i → i - 1 < h.steps
    deep_step x = omega (arith, deep_end, k.high)

    pub deep_done : i ≤ first → get_or d first 0 ≡ depth s h f
    unfolding depth
    deep_done x = k.at first x (omega (arith, deep_some)) ∙ rw (p, paths_on_lem s h a f l)

    module _ (x : first < i) {v : ℕ} (e : v ≡ step_depth s h d (i - 1)) where
      deep_value : v ≡ greatest (paths_on s h (i - 1))
      deep_value =
          let w = deep_way (i - 1) (omega arith) (omega (arith, k.high)) in
          e ∙ step_depth_lem s h a d w (λ r o z. let y = way_later s h a w r o z in k.at (target s h r) (omega arith) (omega arith))

      pub deep_more : Deep s h first (first + many) (set d (i - 1) v) (i - 1)
      deep_more =
          let w = deep_way (i - 1) (omega arith) (omega (arith, k.high)) in
          record {
            low = omega arith;
            high = omega (arith, k.high);
            size = length-set d (i - 1) v ∙ k.size;
            shallow = shallow_set d (i - 1) v k.shallow (rw deep_value (depth_short s h a (i - 1) 256 w));
            at = λ j m n. go j m n (ℕ_discrete j (i - 1));
          }
        where
          go : (j : ℕ) → i - 1 ≤ j → j < first + many → Dec (j ≡ i - 1) → get_or (set d (i - 1) v) j 0 ≡ greatest (paths_on s h j)
          go j m n (yes z) = rw z (get_or-set_same d (i - 1) v 0 (omega (arith, k.size, deep_step x, a.sized.limits.steps)) ∙ deep_value)
          go j m n (no z) = get_or-set_other d (i - 1) j v 0 z ∙ k.at j (omega arith) n
