-- `instances::scatter` meets its contract. Assumes nothing.
use Rattle.instances.proofs.Scattering.{none_scattered, one_scattered, all_scattered}
use Rattle.instances.proofs.scatter.Goals as goal

pub loop-i-init : goal.loop-i-init
loop-i-init c = none_scattered _ _

pub loop-i-preserved : goal.loop-i-preserved
loop-i-preserved c = one_scattered _ _ _ c.loop-i.invariant c.loop-i-test.true c.put.ensures

pub returns : goal.returns
returns c = all_scattered _ _ _ c.loop-i.invariant c.loop-i-test.false
