-- The walk along a buffer's path that `seek` makes: what follows in the flow's list of paths, by what follows from where it stands.
-- Assumes nothing.
use mathlib.Core.Path.{◌≡◌, sym, ap, subst, ◌∙◌}
use mathlib.Core.Bool.{true, false, not}
use mathlib.Core.List.{List, ◌∷◌}
use mathlib.Core.Logic.{◌⊎◌, inl, inr}
use Prim.Native.Nat.{ℕ, suc, ◌+◌, ◌-◌, ◌≤◌, ◌<◌}
use native.Mathlib.Numerals.{add-one}
use native.Mathlib.Omega.{arith}
use lib.IntN.{ℤ}
use lib.ListN.{length, take, drop}
use lib.Seq.{take-suc, drop-cons}
use borrow.Author.Tests.{not-true, not-false}
use Rattle.layout.specs.declared.Header.{Header}
use Rattle.records.specs.Accepted.{Accepted}
use Rattle.walks.specs.declared.Walker.{Walker}
use Rattle.std.specs.Prelude.{Option, None, Some}
use Rattle.walks.specs.Paths.{first_route_of, routes_of, routes_end_of, RouteOf, in_turn}
use Rattle.walks.specs.Walkers.{taken}
use Rattle.walks.specs.Inner.{paths_after, remaining, Going}
use Rattle.walks.specs.Follows.{begins, Following, Absent, Final, head_of, following}
use Rattle.listing.specs.Seeks.{route_at, turned, turning, CanTurn}
use Rattle.walks.proofs.Ways.{way_ends, step_paths}
use Rattle.walks.proofs.AllPaths.{some_onward}
use Rattle.walks.proofs.Walks.{remaining_on, remaining_done, remaining_taken, going_on, going_room, going_step}
use Rattle.walks.proofs.Follow.{resolve, resolve_none, resolve_more, turn_absent, turn_follow, turn_first, turn_some, head_some}

-- the walk has come from w₀ to w along the buffer, and `turn` is the last place where a later route could be taken
pub record Seeking (s : List ℤ) (h : Header) (b : List ℕ) (w₀ w : Walker) (turn : Option Walker) : Type 0 where
  pub going : Going s h w (length b)
  pub can : CanTurn s h b turn
  pub is : following (remaining s h w₀) b ≡ resolve (take w.length b) (turning s h b turn) (following (remaining s h w) (drop w.length b))

pub seek_none : {s : List ℤ} {h : Header} (b : List ℕ) {w₀ : Walker} → Going s h w₀ (length b) → w₀.length ≡ 0 → Seeking s h b w₀ w₀ None
unfolding turning
seek_none {s} {h} b {w₀} g e =
    let x = following (remaining s h w₀) b in
    record {
      going = g;
      can = tt;
      is = subst (λ (n : ℕ). x ≡ resolve (take n b) Final (following (remaining s h w₀) (drop n b))) (sym e) (sym (resolve_none x));
    }

module _ {s : List ℤ} {h : Header} {b : List ℕ} {w₀ w : Walker} {turn : Option Walker} (k : Seeking s h b w₀ w turn) where
  -- the walk is finished: the path is there, and what follows it leaves it at the last turn
  pub seek_done : not w.finished ≡ false → following (remaining s h w₀) b ≡ turning s h b turn
  unfolding following begins head_of resolve
  seek_done e = k.is ∙ rw (remaining_done s h w (not-false w.finished e))

  module _ (going-yet : not w.finished ≡ true) where
    on : w.finished ≡ false
    on = not-true w.finished going-yet

    a : Accepted s h
    a = k.going.sheet

    pub seek_step : w.step < h.steps
    seek_step = going_step k.going on

    pub seek_ends : routes_end_of s h w.step ≤ h.routes
    seek_ends = way_ends s h a (k.going.way on)

    pub seek_room : w.length < length b
    seek_room = going_room k.going on

    -- what follows, by the buffer's next route
    step_follow : following (remaining s h w) (drop w.length b)
        ≡ following (in_turn (paths_after s h) (first_route_of s h w.step) (routes_of s h w.step)) (route_at b w ∷ drop (suc w.length) b)
    step_follow =
        ap (λ (t : List (List ℕ)). following t (drop w.length b)) (remaining_on s h w on ∙ step_paths s h a (k.going.way on))
        ∙ ap (following (in_turn (paths_after s h) (first_route_of s h w.step) (routes_of s h w.step))) (drop-cons b w.length 0 seek_room)

    -- it is no route of the step
    pub seek_out : (route_at b w < first_route_of s h w.step) ⊎ (routes_end_of s h w.step ≤ route_at b w)
        → following (remaining s h w₀) b ≡ Absent
    unfolding resolve
    seek_out o =
        k.is
        ∙ ap (resolve (take w.length b) (turning s h b turn))
        (step_follow ∙ turn_absent (paths_after s h) (first_route_of s h w.step) (routes_of s h w.step) (route_at b w) (drop (suc w.length) b) o)

    -- it is one, and m routes of the step come after it
    module _ (o : RouteOf s h w.step (route_at b w)) (m : ℕ) (q : routes_end_of s h w.step ≡ suc (route_at b w) + m) where
      step_on : following (remaining s h w₀) b
          ≡ resolve (take (suc w.length) b)
          (resolve (take w.length b) (turning s h b turn) (head_of (in_turn (paths_after s h) (suc (route_at b w)) m)))
          (following (remaining s h (taken s h w (route_at b w))) (drop (suc w.length) b))
      step_on =
          k.is
          ∙ ap (resolve (take w.length b) (turning s h b turn))
          (step_follow
          ∙ turn_follow (paths_after s h) (first_route_of s h w.step) (routes_of s h w.step) (route_at b w) m (drop (suc w.length) b) o.low q)
          ∙ rw (resolve_more, take-suc b w.length 0 seek_room, remaining_taken s h w (route_at b w))

    -- the walk takes it; where it is not the step's last, a later route could be taken here
    module _ (o : RouteOf s h w.step (route_at b w)) (t : Option Walker) where
      taken_on : CanTurn s h b t
          → following (remaining s h w₀) b ≡ resolve (take (suc w.length) b) (turning s h b t)
          (following (remaining s h (taken s h w (route_at b w))) (drop (suc w.length) b))
          → Seeking s h b w₀ (taken s h w (route_at b w)) t
      unfolding taken
      taken_on c z =
          record {
            going = going_on k.going on (route_at b w) o;
            can = c;
            is =
                subst (λ (n : ℕ). following (remaining s h w₀) b ≡ resolve (take n b) (turning s h b t)
                (following (remaining s h (taken s h w (route_at b w))) (drop n b))) (sym (add-one w.length)) z;
          }

    pub seek_last : RouteOf s h w.step (route_at b w) → routes_end_of s h w.step ≤ route_at b w + 1
        → Seeking s h b w₀ (taken s h w (route_at b w)) turn
    unfolding in_turn head_of resolve
    seek_last o l = taken_on o turn k.can (step_on o 0 (omega (arith, o.high)))

    later_head : RouteOf s h w.step (suc (route_at b w)) → (m : ℕ)
        → resolve (take w.length b) (turning s h b turn) (head_of (in_turn (paths_after s h) (suc (route_at b w)) (suc m))) ≡ turning s h b (Some w)
    unfolding resolve turning turned
    later_head o m =
        let some = some_onward s h a (k.going.way on) (suc (route_at b w)) o in
        rw (head_some (in_turn (paths_after s h) (suc (route_at b w)) (suc m)) (turn_some (paths_after s h) (suc (route_at b w)) m some))
        (rw (turn_first (paths_after s h) (suc (route_at b w)) m some, turned, add-one (route_at b w), remaining_taken s h w (suc (route_at b w))))

    pub seek_turn : RouteOf s h w.step (route_at b w) → route_at b w + 1 < routes_end_of s h w.step
        → Seeking s h b w₀ (taken s h w (route_at b w)) (Some w)
    seek_turn o l =
        let m = routes_end_of s h w.step - suc (suc (route_at b w)) in
        let o' : RouteOf s h w.step (route_at b w + 1) = record { low = omega (arith, o.low); high = l } in
        taken_on o (Some w) (record { going = k.going; on = on; route = o' })
        (step_on o (suc m) (omega arith)
        ∙ ap
        (λ (y : Following). resolve (take (suc w.length) b) y (following (remaining s h (taken s h w (route_at b w))) (drop (suc w.length) b)))
        (later_head (rw add-one at o') m))

    -- as the code finds it: the step's routes start at `first` and are `many`
    module _ {first many : ℕ} (p : first ≡ first_route_of s h w.step) (q : many ≡ routes_of s h w.step) where
      pub seek_sum : first + many ≤ h.routes
      seek_sum = rw (p, q) seek_ends

      pub seek_nowhere : (route_at b w < first) ⊎ (first + many ≤ route_at b w) → following (remaining s h w₀) b ≡ Absent
      unfolding turning
      seek_nowhere o = seek_out (rw (p, q) at o)

      module _ (low : first ≤ route_at b w) (high : route_at b w < first + many) where
        seek_route : RouteOf s h w.step (route_at b w)
        seek_route = record { low = rw p at low; high = rw (p, q) at high }

        pub seek_more : {w' : Walker} {t : Option Walker} → w' ≡ taken s h w (route_at b w)
            → ((route_at b w + 1 < first + many) × (t ≡ Some w)) ⊎ ((first + many ≤ route_at b w + 1) × (t ≡ turn)) → Seeking s h b w₀ w' t
        seek_more z (inl x) = rw (z, x.1) (seek_turn seek_route (rw (p, q) at x.0))
        seek_more z (inr x) = rw (z, x.1) (seek_last seek_route (rw (p, q) at x.0))

        pub seek_less : {w' : Walker} → w' ≡ taken s h w (route_at b w) → length b - w'.length < length b - w.length
        unfolding taken
        seek_less z = rw z (omega (arith, seek_room))
