-- `item::crossed` meets its contract. Assumes nothing.
use Rattle.item.specs.Units.{crossed}
use Rattle.item.proofs.crossed.Goals as goal

pub returns-then-u-k : goal.returns-then-u-k
unfolding crossed
returns-then-u-k c = rw c.if-u-k.true

pub returns-else-u-k : goal.returns-else-u-k
unfolding crossed
returns-else-u-k c = rw c.if-u-k.false
