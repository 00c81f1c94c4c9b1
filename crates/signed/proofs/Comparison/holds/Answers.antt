-- `signed::Comparison::holds` meets its contract, comparison by comparison. Assumes nothing.
use Rattle.signed.specs.Compare.{holds}
use Rattle.signed.proofs.Fit.{back, same_bits}
use Rattle.signed.proofs.Comparison.holds.Goals as goal

pub returns-in-Equal : goal.returns-in-Equal
unfolding holds
returns-in-Equal c = rw (c.in-Equal.is, same_bits c.args.a c.args.b c.ranges.a c.ranges.b)

pub returns-in-Unequal : goal.returns-in-Unequal
unfolding holds
returns-in-Unequal c = rw (c.in-Unequal.is, same_bits c.args.a c.args.b c.ranges.a c.ranges.b)

pub returns-in-Less : goal.returns-in-Less
unfolding holds
returns-in-Less c = rw (c.in-Less.is, back c.ranges.a, back c.ranges.b)

pub returns-in-AtMost : goal.returns-in-AtMost
unfolding holds
returns-in-AtMost c = rw (c.in-AtMost.is, back c.ranges.a, back c.ranges.b)

pub returns-in-Greater : goal.returns-in-Greater
unfolding holds
returns-in-Greater c = rw (c.in-Greater.is, back c.ranges.a, back c.ranges.b)

pub returns-in-AtLeast : goal.returns-in-AtLeast
unfolding holds
returns-in-AtLeast c = rw (c.in-AtLeast.is, back c.ranges.a, back c.ranges.b)
