-- `signed::within` meets its contract: the two tests, joined. Assumes nothing.
use Rattle.signed.specs.Words.{within}
use Rattle.signed.proofs.Fit.{back}
use Rattle.signed.proofs.within.Goals as goal

pub returns : goal.returns
unfolding within
returns c = rw (back c.ranges.low, back c.ranges.x, back c.ranges.high)
