-- `signed::minus` meets its contract: a word holds the difference of two integers in −M..M. Assumes nothing.
use Rattle.signed.proofs.Bounds.{small_true}
use Rattle.signed.proofs.Fit.{back, fits_minus}
use Rattle.signed.proofs.minus.Goals as goal

pub overflow_sub-result : goal.overflow_sub-result
overflow_sub-result c = rw (back c.ranges.a, back c.ranges.b) (fits_minus (small_true _ c.requires.0) (small_true _ c.requires.1))

pub returns : goal.returns
returns c = rw (back c.ranges.a, back c.ranges.b)
    (back (fits_minus (small_true _ c.requires.0) (small_true _ c.requires.1)))
