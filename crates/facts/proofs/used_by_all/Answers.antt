-- `facts::used_by_all` meets its contract. Assumes nothing.
use mathlib.Core.Path.{refl}
use Rattle.std.proofs.Common.{rules}
use Rattle.facts.proofs.UsedLaws.{none, at_fact}
use Rattle.facts.proofs.used_by_all.Goals as goal

pub loop-k-init : goal.loop-k-init
loop-k-init c = (search rules, none _ _ refl refl)

pub more-used-requires : goal.more-used-requires
more-used-requires c = at_fact c.args.s.now.accepted c.loop-k-test.true c.loop-k.invariant.1
