-- What `finish`, `first` and `next` answer and leave in the buffer, from what the walks below them do.
-- Assumes nothing.
use Rattle.std.specs.Prelude.{Option, None, Some, Err, ok_or}
use mathlib.Core.Path.{◌≡◌, refl, sym, ap, subst, ◌∙◌}
use mathlib.Core.List.{List, [], ◌++◌}
use Prim.Native.Nat.{ℕ, ◌+◌, ◌-◌, ◌≤◌, ◌<◌}
use native.Mathlib.Numerals.{add-one}
use native.Mathlib.Omega.{arith}
use lib.IntN.{ℤ}
use lib.ListN.{length, get_or, take, set, replicate, length-set}
use lib.Seq.{sets, length-sets, length-take-le, take-suc-set, append_snoc}
use Rattle.answer.specs.declared.Refusal.TheVariants.{NotPath, LastPath}
use Rattle.answer.specs.Answers.{Counted}
use Rattle.layout.specs.declared.Header.{Header}
use Rattle.walks.specs.declared.Walker.{Walker}
use Rattle.walks.specs.Paths.{first_route_of, paths, path}
use Rattle.walks.specs.Walkers.{started, taken, arrived}
use Rattle.walks.specs.Inner.{walked, remaining, first_way, Going, Lent}
use Rattle.walks.specs.Follows.{Following, Absent, Then, following, walk_of, laid}
use Rattle.listing.specs.Calls.{first_walk, first_laid, answer_of, buffer_of, next_walk, next_laid}
use Rattle.listing.specs.Seeks.{turn_route, turned, turning, Turnable, CanTurn, TurnsAt, Sought}
use Rattle.walks.proofs.Ways.{way_route, paths_on_lem}
use Rattle.walks.proofs.Walks.{remaining_on, start_going, going_on, going_room, first_way_lem, first_way_short, walked_length, arrives}
use Rattle.walks.proofs.Buffers.{written, laid_same}
use Rattle.listing.proofs.Seeking.{Seeking, seek_none}

-- ---- finish: a walk by first routes, whose path is written and the rest cleared

module _ {s : List ℤ} {h : Header} {from : Walker} (b : List ℕ) (g : Going s h from (length b)) {w : Walker} {d : List ℕ}
    (x : w ≡ walked s h from (first_way s h from)) (y : d ≡ sets b from.length (first_way s h from)) where
  length_is : w.length ≡ from.length + length (first_way s h from)
  length_is = ap (λ (v : Walker). v.length) x ∙ walked_length s h from (first_way s h from)

  pub finish_room : w.length ≤ length d
  finish_room = rw (y, length-sets b from.length (first_way s h from), length_is) (first_way_short g)

  pub finish_done : {e : List ℕ} → e ≡ take w.length d ++ replicate (length d - w.length) 0
      → (arrived w ≡ arrived (walked s h from (first_way s h from))) × (e ≡ laid (take from.length b ++ first_way s h from) b)
  finish_done {e} z =
      (ap arrived x, z ∙ rw y (written b (first_way s h from) from.length w.length (first_way_short g) length_is))

-- ---- first

module _ {s : List ℤ} {h : Header} {f : ℕ} {b : List ℕ} (u : Lent s h f b) where
  pub start_remaining : remaining s h (started s h f) ≡ paths s h f
  unfolding started
  start_remaining = remaining_on s h (started s h f) refl ∙ sym (paths_on_lem s h u.sheet f u.flow)

  start_first : first_way s h (started s h f) ≡ path s h f 0
  unfolding path
  start_first = ap (λ (t : List (List ℕ)). get_or t 0 []) start_remaining

  first_arrives : arrived (walked s h (started s h f) (first_way s h (started s h f))) ≡ walk_of s h (first_way s h (started s h f))
  unfolding started
  first_arrives =
      let w = started s h f in
      let z = first_way_lem (start_going u) refl in
      subst (λ (p : List ℕ). arrived (walked s h w p) ≡ walk_of s h p) (sym z)
      (arrives s h w [] (first_route_of s h w.step) (first_way s h (taken s h w (first_route_of s h w.step))) refl)

  pub first_done : {w : Walker} {r : Counted} {e : List ℕ} → w ≡ started s h f → r ≡ arrived (walked s h w (first_way s h w))
      → e ≡ laid (take w.length b ++ first_way s h w) b
      → (r ≡ first_walk s h f) × (e ≡ first_laid s h f b)
  unfolding first_walk first_laid started
  first_done {w} {r} {e} q x y = (x ∙ rw q (first_arrives ∙ ap (walk_of s h) start_first), y ∙ rw (q, start_first))

  -- ---- seek: the walk along the buffer starts where the flow's paths do

  pub seek_start : {w : Walker} → w ≡ started s h f → Seeking s h b w w None
  unfolding started
  seek_start {w} q = seek_none b (rw q (start_going u)) (ap (λ (v : Walker). v.length) q)

  follows_from : {w : Walker} {x : Following} → w ≡ started s h f → following (remaining s h w) b ≡ x → following (paths s h f) b ≡ x
  follows_from q x = ap (λ (t : List (List ℕ)). following t b) (sym start_remaining) ∙ (rw q at x)

  pub sought_nowhere : {w : Walker} → w ≡ started s h f → following (remaining s h w) b ≡ Absent → Sought s h f b (Err NotPath)
  unfolding next_walk next_laid answer_of buffer_of
  sought_nowhere q x = let z = follows_from q x in (rw (z, answer_of), rw (z, buffer_of))

  pub sought : {w : Walker} → w ≡ started s h f → (t : Option Walker) → following (remaining s h w) b ≡ turning s h b t → CanTurn s h b t
      → Sought s h f b (ok_or t LastPath)
  unfolding next_walk next_laid answer_of buffer_of turning
  sought q None x c = let z = follows_from q x in (rw (z, answer_of), rw (z, buffer_of))
  sought q (Some v) x c = record { follows = follows_from q x; can = c }

-- ---- next: from where `seek` found the turn

module _ {s : List ℤ} {h : Header} {f : ℕ} {b : List ℕ} where
  module _ {v : Walker} (k : TurnsAt s h f b v) where
    turnable : Turnable s h b v
    turnable = k.can

    pub turn_route_lem : turn_route b v < h.routes
    turn_route_lem = way_route s h turnable.going.sheet (turnable.going.way turnable.on) (turn_route b v) turnable.route

    pub turn_room : v.length < length b
    turn_room = going_room turnable.going turnable.on

    turn_follows : following (paths s h f) b ≡ Then (turned s h b v)
    turn_follows = k.follows

    turn_arrives : arrived (walked s h (taken s h v (turn_route b v)) (first_way s h (taken s h v (turn_route b v)))) ≡ walk_of s h (turned s h b v)
    unfolding walked turned
    turn_arrives =
        arrives s h v (take v.length b) (turn_route b v) (first_way s h (taken s h v (turn_route b v)))
        (sym (length-take-le v.length b (omega (arith, turn_room))))

    turn_laid : laid (take (taken s h v (turn_route b v)).length (set b v.length (turn_route b v)) ++ first_way s h (taken s h v (turn_route b v))) (set b v.length (turn_route b v)) ≡ laid (turned s h b v) b
    unfolding taken turned
    turn_laid =
        let x = turn_route b v in
        let p = first_way s h (taken s h v x) in
        let z : take (v.length + 1) (set b v.length x) ++ p ≡ turned s h b v = ap (λ (n : ℕ). take n (set b v.length x) ++ p) (add-one v.length) ∙ ap (λ (l : List ℕ). l ++ p) (take-suc-set b v.length x turn_room) ∙ append_snoc (take v.length b) x p in
        ap (λ (l : List ℕ). laid l (set b v.length x)) z ∙ laid_same (turned s h b v) (set b v.length x) b (length-set b v.length x)

    module _ {w : Walker} (q : w ≡ taken s h v (turn_route b v)) where
      pub turn_going : Going s h w (length (set b v.length (turn_route b v)))
      turn_going =
          rw (q, length-set b v.length (turn_route b v)) (going_on turnable.going turnable.on (turn_route b v) turnable.route)

      pub next_done : {t : Counted} {d : List ℕ} → t ≡ arrived (walked s h w (first_way s h w))
          → d ≡ laid (take w.length (set b v.length (turn_route b v)) ++ first_way s h w) (set b v.length (turn_route b v))
          → (t ≡ next_walk s h f b) × (d ≡ next_laid s h f b)
      unfolding next_walk next_laid answer_of buffer_of
      next_done x y = (x ∙ rw (q, turn_follows, answer_of) turn_arrives, y ∙ rw (q, turn_follows, buffer_of) turn_laid)
