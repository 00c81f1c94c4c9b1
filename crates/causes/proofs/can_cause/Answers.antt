-- `causes::can_cause` meets its contract. Assumes nothing.
use Rattle.causes.proofs.Causing.{caused_by, uncaused}
use Rattle.causes.proofs.can_cause.Goals as goal

pub returns-then-causes : goal.returns-then-causes
returns-then-causes c = caused_by _ _ _ _ _ _ _ c.loop-o-test.true c.causes.ensures c.if-causes.true

pub returns : goal.returns
returns c = uncaused _ _ _ _ _ _ _ c.loop-o.invariant c.loop-o-test.false
