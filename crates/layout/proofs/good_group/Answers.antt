use native.Mathlib.Omega.{arith}
use Rattle.layout.proofs.Groups.{none, more, all_good, one_bad}
use Rattle.layout.proofs.good_group.Goals as goal

pub loop-i-init : goal.loop-i-init
loop-i-init c = none _

pub returns-then-n-gt-MOST : goal.returns-then-n-gt-MOST
returns-then-n-gt-MOST c = one_bad _ _ _ c.loop-i.i c.loop-i-test.true (rw (← c.number-n.ensures) c.if-n-gt-MOST.true)

pub loop-i-preserved : goal.loop-i-preserved
loop-i-preserved c = more _ _ _ _ c.loop-i.invariant c.number-n.ensures c.if-n-gt-MOST.false

pub returns : goal.returns
returns c = all_good _ _ _ _ _ c.loop-i.invariant (omega arith)
