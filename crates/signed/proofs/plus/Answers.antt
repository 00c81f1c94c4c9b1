-- `signed::plus` meets its contract: a word holds the sum of two integers in −M..M. Assumes nothing.
use Rattle.signed.proofs.Bounds.{small_true}
use Rattle.signed.proofs.Fit.{back, fits_plus}
use Rattle.signed.proofs.plus.Goals as goal

pub overflow_add-result : goal.overflow_add-result
overflow_add-result c = rw (back c.ranges.a, back c.ranges.b) (fits_plus (small_true _ c.requires.0) (small_true _ c.requires.1))

pub returns : goal.returns
returns c = rw (back c.ranges.a, back c.ranges.b)
    (back (fits_plus (small_true _ c.requires.0) (small_true _ c.requires.1)))
