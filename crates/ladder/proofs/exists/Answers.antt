-- `ladder::exists` meets its contract. Assumes nothing.
use Rattle.signed.proofs.Fit.{back}
use Rattle.ladder.proofs.exists.Goals as goal

pub returns : goal.returns
returns c = rw (c.num.ensures, back c.ranges.x)
