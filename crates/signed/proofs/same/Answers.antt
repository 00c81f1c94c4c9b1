-- `signed::same` meets its contract: the machine compares the words' bits. Assumes nothing.
use Rattle.signed.proofs.Fit.{same_bits}
use Rattle.signed.proofs.same.Goals as goal

pub returns : goal.returns
returns c = same_bits c.args.a c.args.b c.ranges.a c.ranges.b
