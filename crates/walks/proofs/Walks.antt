-- What a walker can still take, by the route that it takes next; and the walk by first routes that `descend` makes.
-- Assumes nothing.
use mathlib.Core.Path.{◌≡◌, refl, sym, ap, subst, ◌∙◌}
use mathlib.Core.Bool.{true, false, not}
use mathlib.Core.List.{List, [], ◌∷◌, ◌++◌, Memᴰ}
use mathlib.Core.Logic.{⊎_elim}
use Prim.Native.Nat.{ℕ, suc, ◌+◌, ◌-◌, ◌≤◌, ◌<◌}
use native.Mathlib.Numerals.{add-one}
use lib.IntN.{ℤ}
use lib.ListN.{length, get_or, set, length-set, length-append}
use lib.Seq.{sets}
use native.Mathlib.Omega.{arith}
use borrow.Author.Tests.{not-true, not-false}
use Rattle.tables.proofs.Bools.{bool_cases}
use Rattle.layout.specs.declared.Header.{Header}
use Rattle.walks.specs.declared.Walker.{Walker}
use Rattle.walks.specs.Paths.{first_route_of, routes_of, target, RouteOf, last_of, terminal, onward, in_turn}
use Rattle.walks.specs.Walkers.{started, taken, arrived}
use Rattle.walks.specs.Inner.{walked, paths_on, paths_after, remaining, first_way, Way, Going, Lent}
use Rattle.walks.specs.Follows.{walk_of}
use Rattle.walks.proofs.Ways.{way_start, way_step, way_some, way_first, way_route, way_on, step_paths}
use Rattle.walks.proofs.Lists.{mem_at}
use Rattle.walks.proofs.AllPaths.{sound, short, some_on, some_onward}
use Rattle.walks.proofs.Follow.{turn_first}

-- a walk starts on its way
pub start_going : {s : List ℤ} {h : Header} {f : ℕ} {b : List ℕ} → Lent s h f b → Going s h (started s h f) (length b)
unfolding started
start_going {s} {h} {f} {b} u =
    let w = way_start s h u.sheet f u.flow in
    record {
      sheet = u.sheet;
      short = omega arith;
      way = λ e. record { of = w.of; exists = w.exists; low = w.low; high = w.high; left = omega (arith, w.left, u.room) };
    }

module _ (s : List ℤ) (h : Header) (w : Walker) where
  pub remaining_on : w.finished ≡ false → remaining s h w ≡ paths_on s h w.step
  unfolding remaining
  remaining_on e = rw (e, remaining)

  pub remaining_done : w.finished ≡ true → remaining s h w ≡ [] ∷ []
  unfolding remaining
  remaining_done e = rw (e, remaining)

  pub remaining_taken : (r : ℕ) → remaining s h (taken s h w r) ≡ paths_after s h r
  unfolding remaining taken onward
  remaining_taken r = refl

  first_way_done : w.finished ≡ true → first_way s h w ≡ []
  first_way_done e = ap (λ (t : List (List ℕ)). get_or t 0 []) (remaining_done e)

module _ {s : List ℤ} {h : Header} {w : Walker} {room : ℕ} (g : Going s h w room) where
  -- the first way on is short enough
  pub first_way_short : w.length + length (first_way s h w) ≤ room
  unfolding paths_on
  first_way_short = ⊎_elim (λ e. rw (remaining_done s h w e) (omega (arith, g.short))) (λ e. go e (g.way e)) (bool_cases w.finished)
    where
      go : w.finished ≡ false → Way s h w.step (room - w.length) → w.length + length (first_way s h w) ≤ room
      go e y =
          let p = get_or (paths_on s h w.step) 0 [] in
          let m : Memᴰ p (paths_on s h w.step) = mem_at (paths_on s h w.step) 0 (some_on s h g.sheet (room - w.length) w.step y) in
          let k : length p ≤ room - w.length = short s h g.sheet (sound s h g.sheet h.steps w.step (room - w.length) p y m) (room - w.length) y in
          rw (remaining_on s h w e) (omega arith)

  module _ (e : w.finished ≡ false) where
    pub going_room : w.length < room
    going_room = let y = g.way e in omega arith

    pub going_step : w.step < h.steps
    going_step = way_step s h g.sheet (g.way e)

    -- a walker that takes a route of its step goes on
    pub going_on : (r : ℕ) → RouteOf s h w.step r → Going s h (taken s h w r) room
    unfolding taken
    going_on r o =
        let y = g.way e in
        record { sheet = g.sheet; short = omega arith; way = λ z. way_on s h g.sheet y r o z (room - (w.length + 1)) (omega arith) }

    -- the first way on: the step's first route, and the first way on from there
    pub first_way_lem : first_way s h w ≡ first_route_of s h w.step ∷ first_way s h (taken s h w (first_route_of s h w.step))
    first_way_lem =
        let y = g.way e in
        let r = first_route_of s h w.step in
        let k : routes_of s h w.step ≡ suc (routes_of s h w.step - 1) = omega (arith, way_some s h g.sheet y) in
        ap (λ (t : List (List ℕ)). get_or t 0 []) (remaining_on s h w e ∙ step_paths s h g.sheet y ∙ ap (in_turn (paths_after s h) r) k)
        ∙ turn_first (paths_after s h) r (routes_of s h w.step - 1) (some_onward s h g.sheet y r (way_first s h g.sheet y))
        ∙ ap (λ (t : List (List ℕ)). r ∷ get_or t 0 []) (sym (remaining_taken s h w r))

-- ---- the walk by first routes

-- w₀ and path₀ have become w and path, and the same walk and the same writes are still to come
pub record Descending (s : List ℤ) (h : Header) (path₀ : List ℕ) (w₀ : Walker) (path : List ℕ) (w : Walker) : Type 0 where
  pub size : length path ≡ length path₀
  pub going : Going s h w (length path₀)
  pub to : walked s h w (first_way s h w) ≡ walked s h w₀ (first_way s h w₀)
  pub wrote : sets path w.length (first_way s h w) ≡ sets path₀ w₀.length (first_way s h w₀)

pub descend_none : {s : List ℤ} {h : Header} {path₀ : List ℕ} {w₀ : Walker} → Going s h w₀ (length path₀) → Descending s h path₀ w₀ path₀ w₀
descend_none g = record { size = refl; going = g; to = refl; wrote = refl }

module _ {s : List ℤ} {h : Header} {path₀ : List ℕ} {w₀ : Walker} {path : List ℕ} {w : Walker} (d : Descending s h path₀ w₀ path w) where
  pub descend_done : not w.finished ≡ false → (w ≡ walked s h w₀ (first_way s h w₀)) × (path ≡ sets path₀ w₀.length (first_way s h w₀))
  unfolding walked
  descend_done e = let z = first_way_done s h w (not-false w.finished e) in (rw z at d.to, rw z at d.wrote)

  module _ (going-yet : not w.finished ≡ true) where
    on : w.finished ≡ false
    on = not-true w.finished going-yet

    pub descend_step : w.step < h.steps
    descend_step = going_step d.going on

    pub descend_room : w.length < length path
    descend_room = omega (arith, going_room d.going on, d.size)

    first_of : RouteOf s h w.step (first_route_of s h w.step)
    first_of = way_first s h d.going.sheet (d.going.way on)

    pub descend_route : (r : ℕ) → r ≡ first_route_of s h w.step → r < h.routes
    descend_route r k = rw k (way_route s h d.going.sheet (d.going.way on) (first_route_of s h w.step) first_of)

    step_taken : Descending s h path₀ w₀ (set path w.length (first_route_of s h w.step)) (taken s h w (first_route_of s h w.step))
    unfolding walked taken
    step_taken =
        let r = first_route_of s h w.step in
        let z = first_way_lem d.going on in
        record {
          size = length-set path w.length r ∙ d.size;
          going = going_on d.going on r first_of;
          to = rw z at d.to;
          wrote =
              subst (λ (n : ℕ). sets (set path w.length r) n (first_way s h (taken s h w r)) ≡ sets path₀ w₀.length (first_way s h w₀))
              (sym (add-one w.length))
              (rw z at d.wrote);
        }

    module _ {r : ℕ} {w' : Walker} (k : r ≡ first_route_of s h w.step) (q : w' ≡ taken s h w r) where
      pub descend_more : Descending s h path₀ w₀ (set path w.length r) w'
      descend_more = rw (q, k) step_taken

      pub descend_less : length path₀ - w'.length < length path₀ - w.length
      unfolding taken
      descend_less = rw q (omega (arith, descend_room, d.size))

-- ---- where a walk arrives

pub walked_length : (s : List ℤ) (h : Header) (w : Walker) (p : List ℕ) → (walked s h w p).length ≡ w.length + length p
unfolding walked taken
walked_length s h w [] = omega arith
walked_length s h w (r ∷ p) = walked_length s h (taken s h w r) p ∙ omega arith

-- where the last route leads
walked_last : (s : List ℤ) (h : Header) (w : Walker) (r : ℕ) (p : List ℕ) → (walked s h w (r ∷ p)).step ≡ target s h (last_of r p)
unfolding walked taken last_of
walked_last s h w r [] = refl
walked_last s h w r (q ∷ p) = walked_last s h (taken s h w r) q p

last_append : (d r : ℕ) (p q : List ℕ) → last_of d (p ++ r ∷ q) ≡ last_of r q
unfolding last_of
last_append d r [] q = refl
last_append d r (x ∷ p) q = last_append x r p q

-- a walk that has taken the routes p, takes r and then q, and arrives
pub arrives : (s : List ℤ) (h : Header) (w : Walker) (p : List ℕ) (r : ℕ) (q : List ℕ) → w.length ≡ length p
    → arrived (walked s h w (r ∷ q)) ≡ walk_of s h (p ++ r ∷ q)
unfolding terminal
arrives s h w p r q e =
    let x : (walked s h w (r ∷ q)).step ≡ terminal s h (p ++ r ∷ q) = walked_last s h w r q ∙ ap (target s h) (sym (last_append 0 r p q)) in
    let y : (walked s h w (r ∷ q)).length ≡ length (p ++ r ∷ q) = walked_length s h w (r ∷ q) ∙ rw (e, length-append) in
    rw (x, y)
