-- `reach::place` meets its contract: a shift of 1 is the power of two. Assumes nothing.
use Rattle.reach.proofs.Flags.{shifted}
use Rattle.reach.proofs.place.Goals as goal

pub returns-then-on : goal.returns-then-on
returns-then-on c = rw c.if-on.true (shifted c.args.q c.requires)
