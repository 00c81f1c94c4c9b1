-- `signed::Comparison::can_hold` meets its contract: one of the three pairs satisfies the comparison. Assumes nothing.
use Rattle.signed.specs.Compare.{can_hold, some_pair}
use Rattle.signed.proofs.Fit.{back, back_of}
use Rattle.signed.proofs.Order.{int_max_z}
use Rattle.signed.proofs.Comparison.can_hold.Goals as goal

pub returns : goal.returns
unfolding can_hold some_pair
returns c = rw (c.holds-3.ensures, c.holds-2.ensures, c.holds.ensures, c.at_most-2.ensures, c.at_most.ensures)
    (rw (back_of c.max-m.result c.max-m.type_inv, c.max-m.ensures.value, back c.ranges.l1, back c.ranges.h1, back c.ranges.l2, back c.ranges.h2, int_max_z))
