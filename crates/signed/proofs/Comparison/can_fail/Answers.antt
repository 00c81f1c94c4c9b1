-- `signed::Comparison::can_fail` meets its contract: it is whether the opposite comparison can hold. Assumes nothing.
use Rattle.signed.specs.Compare.{can_hold, can_fail, some_pair}
use Rattle.signed.proofs.Fit.{back}
use Rattle.signed.proofs.Comparison.can_fail.Goals as goal

pub returns : goal.returns
unfolding can_hold can_fail some_pair
returns c = rw (c.can_hold.ensures, back c.ranges.l1, back c.ranges.h1, back c.ranges.l2, back c.ranges.h2) (simp c.opposite.ensures)
