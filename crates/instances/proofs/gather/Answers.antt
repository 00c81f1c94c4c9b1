-- `instances::gather` meets its contract. Assumes nothing.
use Rattle.std.proofs.Common.{◌≡◌, arith}
use Rattle.instances.specs.Records.{count}
use Rattle.instances.proofs.gather.Goals as goal

pub returns : goal.returns
returns c = let e : c.loop-i.i ≡ count c.args.rs.now = omega arith in rw e at c.loop-i.invariant
