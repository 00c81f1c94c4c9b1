-- A refusal is not a call that went through.
-- Assumes nothing.
use mathlib.Core.Path.{◌≡◌}
use Prim.Native.Nat.{ℕ}
use native.Mathlib.Omega.{arith}
use Rattle.std.specs.Prelude.{Ok, Err}
use Rattle.answer.specs.declared.Refusal.{Refusal}

pub refused_done : {A : Type 0} {r : Refusal} {x : A} → Err r ≡ Ok x → ⊥
refused_done e = let z : ◌≡◌ {A = ℕ} 0 1 = cc in omega arith
