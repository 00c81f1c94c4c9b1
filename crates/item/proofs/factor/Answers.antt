-- `item::factor` meets its contract: it is at most 86,400. Assumes nothing.
use mathlib.Core.Path.{ap₂}
use Prim.Native.Nat.{◌*◌}
use native.Mathlib.Omega.{arith}
use Rattle.item.specs.Units.{factor}
use Rattle.item.proofs.Units.{two_fit, three_fit}
use Rattle.item.proofs.factor.Goals as goal

pub overflow_mul-result : goal.overflow_mul-result
overflow_mul-result c = record { fits = omega (arith, two_fit _ _ c.crossed.ensures c.crossed-2.ensures) }

pub overflow_mul-result-2 : goal.overflow_mul-result-2
overflow_mul-result-2 c = record {
  fits = omega (arith, three_fit _ _ c.crossed.ensures c.crossed-2.ensures c.crossed-3.ensures);
}

pub returns : goal.returns
unfolding factor
returns c = ap₂ ◌*◌ (ap₂ ◌*◌ c.crossed.ensures c.crossed-2.ensures) c.crossed-3.ensures
