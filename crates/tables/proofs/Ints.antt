-- Integers of 32 bits and of 64.
-- Assumes nothing.
use mathlib.Core.Path.{◌≡◌}
use Prim.Native.Nat.{◌^◌, ◌<◌}
use native.Mathlib.Omega.{arith}
use lib.IntN.{ℤ}
use lib.Signed.{mag}
use mir.Syntax.{w32, w64}
use mir.Val.{SFits, to_z, of_z}
use mir.ValLaws.{to_z-of_z}

pub int_back : (z : ℤ) → mag z < 2 ^ 31 → to_z w32 (of_z w32 z) ≡ z
int_back z h = to_z-of_z w32 z (record { sfits = h })

pub int_fits : (z : ℤ) → mag z < 2 ^ 31 → SFits w64 z
int_fits z h = record { sfits = omega arith }
