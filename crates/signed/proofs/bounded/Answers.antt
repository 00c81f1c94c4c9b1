-- `signed::bounded` meets its contract. Assumes nothing.
use Rattle.signed.specs.Words.{bounded}
use Rattle.signed.proofs.Fit.{back}
use Rattle.signed.proofs.bounded.Goals as goal

pub returns : goal.returns
unfolding bounded
returns c = rw (c.within.ensures, back c.ranges.x)
