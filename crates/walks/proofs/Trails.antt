-- A walk from a flow's first step that takes a route of each step it comes to: where it finishes, its routes are one of the listed paths,
-- and it answers that path's terminal and length. A run of the flow is such a walk.
-- Assumes nothing.
use mathlib.Core.Path.{◌≡◌, refl, sym, subst}
use mathlib.Core.Bool.{true, false}
use mathlib.Core.List.{List, [], ◌∷◌, ◌++◌, append-nil}
use mathlib.Core.Logic.{◌⊎◌, inl, inr}
use Prim.Native.Nat.{ℕ, ◌≤◌, ◌<◌}
use native.Mathlib.Omega.{arith}
use lib.IntN.{ℤ}
use lib.ListN.{length, length-append}
use lib.Seq.{append_snoc}
use Rattle.tables.proofs.Bools.{true_false}
use Rattle.layout.specs.declared.Header.{Header}
use Rattle.records.specs.Flows.{steps_end}
use Rattle.records.proofs.FlowLaws.{flow_ok}
use Rattle.walks.specs.declared.Walker.{Walker}
use Rattle.walks.specs.Paths.{first_step_of, steps_of, target, RouteOf, PathFrom, last, next, PathOf, paths, Among}
use Rattle.walks.specs.Walkers.{started, taken, arrived}
use Rattle.walks.specs.Inner.{walked, Way, Going, Lent}
use Rattle.walks.specs.Follows.{walk_of}
use Rattle.walks.proofs.Ways.{kind_ends, kind_leads, way_later}
use Rattle.walks.proofs.AllPaths.{paths_short, path_number}
use Rattle.walks.proofs.Walks.{start_going, going_on, arrives}

-- the walk has taken the routes p, and come to w
pub data Trail (s : List ℤ) (h : Header) (f : ℕ) : List ℕ → Walker → Type 0 where
  begun : Trail s h f [] (started s h f)
  went : {p : List ℕ} {w : Walker} → Trail s h f p w → w.finished ≡ false → (r : ℕ) → RouteOf s h w.step r
      → Trail s h f (p ++ r ∷ []) (taken s h w r)

-- the routes q lead on from w to a terminal
Ending : List ℤ → Header → Walker → List ℕ → Type 0
Ending s h w q = ((w.finished ≡ true) × (q ≡ [])) ⊎ ((w.finished ≡ false) × PathFrom s h w.step q)

module _ {s : List ℤ} {h : Header} {f : ℕ} {b : List ℕ} (u : Lent s h f b) where
  -- it has room in a buffer as long as the flow has steps, and takes no more routes
  pub trail_going : {p : List ℕ} {w : Walker} → Trail s h f p w → Going s h w (length b)
  trail_going begun = start_going u
  trail_going (went t e r o) = going_on (trail_going t) e r o

  -- until it is finished it stands at a step of the flow
  pub trail_in : {p : List ℕ} {w : Walker} → Trail s h f p w → w.finished ≡ false → (first_step_of s h f ≤ w.step) × (w.step < steps_end s h f)
  unfolding started taken
  trail_in begun e = (omega arith, omega (arith, (flow_ok s h u.sheet f u.flow).some))
  trail_in (went {w = w} t e r o) k =
      let z = trail_in t e in
      let y : Way s h w.step (steps_end s h f) = record { of = f; exists = u.flow; low = z.0; high = z.1; left = omega arith } in
      let l = way_later s h u.sheet y r o k in
      (omega arith, l.1)

  -- a route of an unfinished walk, with what leads on from there
  route_path : (w : Walker) {n : ℕ} → Way s h w.step n → (r : ℕ) → RouteOf s h w.step r → (q : List ℕ) → Ending s h (taken s h w r) q
      → PathFrom s h w.step (r ∷ q)
  unfolding Ending taken target
  route_path w y r o q (inl z) = subst (λ (t : List ℕ). PathFrom s h w.step (r ∷ t)) (sym z.1) (last o (kind_ends s h r z.0))
  route_path w y r o q (inr z) = next o (kind_leads s h u.sheet y r o z.0) z.1

  -- with the routes that lead on to a terminal it is a path of the flow
  trail_path : {p : List ℕ} {w : Walker} → Trail s h f p w → (q : List ℕ) → Ending s h w q → PathOf s h f (p ++ q)
  unfolding Ending started
  trail_path begun q (inl z) = absurd (true_false z.0 refl)
  trail_path begun q (inr z) = z.1
  trail_path (went {p = p} {w = w} t e r o) q z =
      subst (PathOf s h f) (sym (append_snoc p r q)) (trail_path t (r ∷ q) (inr (e, route_path w ((trail_going t).way e) r o q z)))

  module _ {p : List ℕ} {w : Walker} (t : Trail s h f p w) (e : w.finished ≡ true) where
    -- where it is finished it is a path of the flow
    pub trail_is_path : PathOf s h f p
    unfolding Ending
    trail_is_path = subst (PathOf s h f) (append-nil p) (trail_path t [] (inl (e, refl)))

    -- so it is one of the listed paths
    pub trail_listed : Among (paths s h f) p
    trail_listed = path_number s h u.sheet f u.flow p trail_is_path

    -- of no more routes than the flow has steps
    pub trail_short : length p ≤ steps_of s h f
    trail_short = paths_short s h u.sheet f u.flow p trail_is_path

pub trail_length : {s : List ℤ} {h : Header} {f : ℕ} {p : List ℕ} {w : Walker} → Trail s h f p w → w.length ≡ length p
unfolding started taken
trail_length begun = refl
trail_length (went {p = p} {w = w} t e r o) = omega (arith, trail_length t, length-append p (r ∷ []))

-- its answer is that path's
pub trail_arrives : {s : List ℤ} {h : Header} {f : ℕ} {p : List ℕ} {w : Walker} → Trail s h f p w → w.finished ≡ true → arrived w ≡ walk_of s h p
unfolding started walked
trail_arrives begun e = absurd (true_false e refl)
trail_arrives {s} {h} (went {p = p} {w = w} t z r o) e = arrives s h w p r [] (trail_length t)
