-- What a good header guarantees.
-- Assumes nothing.
use mathlib.Core.Path.{◌≡◌}
use mathlib.Core.Bool.{true}
use mathlib.Core.List.{List}
use Prim.Native.Nat.{◌≤◌}
use lib.IntN.{ℤ}
use lib.ListN.{length}
use native.Mathlib.Omega.{arith}
use Rattle.tables.proofs.Bools.{tests}
use Rattle.layout.specs.declared.Header.{Header}
use Rattle.layout.specs.Header.{in_limits, good_header, header_of}
use Rattle.layout.specs.Sized.{Limits, Sized}

pub limits : (h : Header) → in_limits h ≡ true → Limits h
unfolding in_limits
limits h p = let q = simp tests at p in omega arith

pub sized : (s : List ℤ) → good_header s ≡ true → Sized s (header_of s)
unfolding good_header
sized s p =
    let q = simp tests at p in
    record { limits = limits (header_of s) q.1.0.1; long = q.1.1 }

pub sixteen : (s : List ℤ) → good_header s ≡ true → 16 ≤ length s
unfolding good_header
sixteen s p = let q = simp tests at p in q.0
