-- How long the line of a path can be.
-- Assumes nothing.
use Prim.Native.Nat.{ℕ, suc, ◌+◌, ◌*◌, ◌^◌, ◌≤◌, ◌<◌}
use mathlib.Core.Path.{◌≡◌, ap}
use mathlib.Core.Bool.{Bool, false}
use mathlib.Core.List.{List, [], ◌∷◌}
use native.Mathlib.Omega.{arith}
use lib.Dec.{eqb}
use lib.IntN.{ℤ, pos}
use lib.ListN.{length, length-append}
use Rattle.layout.specs.declared.Header.{Header}
use Rattle.records.specs.Accepted.{Accepted}
use Rattle.decimal.specs.Decimal.{digits, sign, decimal}
use Rattle.decimal.proofs.Writing.{width_in}
use Rattle.walks.specs.Paths.{PathFrom, last, next, PathOf, ends, target, terminal, steps_of, path}
use Rattle.walks.specs.Inner.{Way}
use Rattle.listing.specs.Lists.{count}
use Rattle.walks.proofs.Ways.{way_start, way_on, way_route}
use Rattle.walks.proofs.AllPaths.{path_sound, path_small}
use Rattle.path_lines.specs.Output.{numbers_line, path_line}
use Rattle.path_lines.specs.Chunks.{longest_line}
use Rattle.path_lines.specs.Steps.{ending_of, number_field}
use Rattle.path_lines.proofs.Writing.{line_none, line_more}

-- a number below ten to the power of k and one more takes at most so many digits, and its ending
pub number_size : (n k : ℕ) (t : Bool) → n < 10 ^ suc k → length (number_field n t) ≤ suc (suc k)
unfolding number_field decimal sign
number_size n k t l = omega (arith, length-append (digits n) (ending_of t ∷ []), width_in n k l)

pub number_some : (n : ℕ) (t : Bool) → 0 < length (number_field n t)
unfolding number_field
number_some n t = omega (arith, length-append (decimal (pos n)) (ending_of t ∷ []))

line_size : (n k m : ℕ) (ns : List ℕ) → n < 10 ^ suc k → length (numbers_line ns) ≤ m → length (numbers_line (n ∷ ns)) ≤ suc (suc k) + m
line_size n k m ns l q =
    omega (
      arith,
      ap length (line_more n ns),
      length-append (number_field n (eqb (length ns) 0)) (numbers_line ns),
      number_size n k (eqb (length ns) 0) l,
    )

module _ (s : List ℤ) (h : Header) (a : Accepted s h) where
  routes_size : {i : ℕ} {p : List ℕ} → PathFrom s h i p → (n : ℕ) → Way s h i n → length (numbers_line p) ≤ 5 * length p
  unfolding ends target
  routes_size (last {r = r} o e) n w =
      omega (arith, line_size r 3 0 [] (omega (arith, way_route s h a w r o, a.sized.limits.routes)) (omega (arith, ap length line_none)))
  routes_size (next {r = r} {p = p} o e k) n w =
      let z : ends s h r ≡ false = rw e in
      let q = routes_size k n (way_on s h a w r o z n (omega arith)) in
      omega (arith, line_size r 3 (5 * length p) p (omega (arith, way_route s h a w r o, a.sized.limits.routes)) q)

  path_some : {i : ℕ} {p : List ℕ} → PathFrom s h i p → 1 ≤ length p
  path_some (last o e) = omega arith
  path_some (next o e k) = omega arith

  -- what holds of path k of flow f
  pub record Short (f k : ℕ) : Type 0 where
    pub some : 1 ≤ length (path s h f k)
    pub few : length (path s h f k) ≤ 256
    pub low : terminal s h (path s h f k) ≤ 2
    pub line : length (path_line s h f (path s h f k)) ≤ longest_line

  pub path_short : (f k : ℕ) → f < h.flows → k < count s h f → Short f k
  unfolding count path_line
  path_short f k l m =
      let p = path s h f k in
      let q : PathOf s h f p = path_sound s h a f l k m in
      let z = path_small s h a f l p q in
      let y = routes_size q (steps_of s h f) (way_start s h a f l) in
      let x = line_size (terminal s h p) 0 (5 * length p) p (omega (arith, z.0)) y in
      let v = line_size f 1 (suc (suc 0) + 5 * length p) (terminal s h p ∷ p) (omega (arith, a.sized.limits.flows)) x in
      record { some = path_some q; few = z.1; low = z.0; line = omega (arith, z.1, v) }
