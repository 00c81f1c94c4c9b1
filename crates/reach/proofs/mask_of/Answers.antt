-- `reach::mask_of` meets its contract. Assumes nothing.
use Rattle.std.proofs.Common.{◌≡◌, sym, arith}
use Rattle.reach.proofs.Masks.{mask_zero}
use Rattle.reach.proofs.Flags.{one_bit, room}
use Rattle.reach.proofs.mask_of.Goals as goal

pub loop-q-init : goal.loop-q-init
loop-q-init c = sym (mask_zero _)

pub overflow_add-mask : goal.overflow_add-mask
overflow_add-mask c = omega (arith, room _ _ _ _ c.loop-q.invariant c.place-mask.ensures c.loop-q-test.true)

pub loop-q-preserved : goal.loop-q-preserved
loop-q-preserved c = one_bit _ _ _ _ c.loop-q.invariant c.place-mask.ensures

pub returns : goal.returns
returns c = let e : c.loop-q.q ≡ 16 = omega arith in rw e at c.loop-q.invariant
