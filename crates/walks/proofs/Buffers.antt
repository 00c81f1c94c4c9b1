-- A buffer that holds a path and 0 past it.
-- Assumes nothing.
use mathlib.Core.Path.{◌≡◌, ◌∙◌}
use mathlib.Core.List.{List, ◌++◌}
use Prim.Native.Nat.{ℕ, ◌+◌, ◌-◌, ◌≤◌}
use native.Mathlib.Omega.{arith}
use lib.ListN.{length, take, drop, replicate, length-append, length-replicate}
use lib.Seq.{length-take-le, sets, sets-eq, length-sets, take_at}
use Rattle.walks.specs.Follows.{laid}

-- a path is written from entry i on, and what is past it is cleared
pub written : (b p : List ℕ) (i n : ℕ) → i + length p ≤ length b → n ≡ i + length p
    → take n (sets b i p) ++ replicate (length (sets b i p) - n) 0 ≡ laid (take i b ++ p) b
unfolding laid
written b p i n l e =
    let z : length (take i b ++ p) ≡ n = length-append (take i b) p ∙ rw (length-take-le i b (omega arith)) (omega arith) in
    rw (length-sets b i p, sets-eq p b i l, take_at (take i b ++ p) (drop (i + length p) b) n z, z)

-- only the length of what the buffer held counts
pub laid_same : (p b c : List ℕ) → length b ≡ length c → laid p b ≡ laid p c
unfolding laid
laid_same p b c e = rw e

pub length_laid : (p b : List ℕ) → length p ≤ length b → length (laid p b) ≡ length b
unfolding laid
length_laid p b l = length-append p (replicate (length b - length p) 0) ∙ rw length-replicate (omega arith)
