-- `signed::times` meets its contract: a word holds the product of two integers in −M..M. Assumes nothing.
use Rattle.signed.proofs.Bounds.{small_true}
use Rattle.signed.proofs.Fit.{back, fits_times}
use Rattle.signed.proofs.times.Goals as goal

pub overflow_mul-result : goal.overflow_mul-result
overflow_mul-result c = rw (back c.ranges.a, back c.ranges.b) (fits_times (small_true _ c.requires.0) (small_true _ c.requires.1))

pub returns : goal.returns
returns c = rw (back c.ranges.a, back c.ranges.b)
    (back (fits_times (small_true _ c.requires.0) (small_true _ c.requires.1)))
