-- `reach::next_open` meets its contract. Assumes nothing.
use Rattle.std.proofs.Common.{arith, rules}
use Rattle.reach.proofs.Flags.{none, more, picked, none_left}
use Rattle.reach.proofs.next_open.Goals as goal

pub loop-q-init : goal.loop-q-init
loop-q-init c = none _ _

pub returns-then-found-q : goal.returns-then-found-q
returns-then-found-q c = picked _ _ _ c.loop-q.invariant c.loop-q-test.true (search rules)

pub loop-q-preserved : goal.loop-q-preserved
loop-q-preserved c = more _ _ _ c.loop-q.invariant (search rules)

pub returns : goal.returns
returns c = none_left _ _ _ c.loop-q.invariant (omega arith)
