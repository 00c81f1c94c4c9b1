-- `reach::scan_moves` meets its contract. Assumes nothing.
use Rattle.reach.proofs.Scanning.{no_move, one_move, all_moves}
use Rattle.reach.proofs.scan_moves.Goals as goal

pub loop-q-init : goal.loop-q-init
loop-q-init c = no_move _ _ c.told-found

pub loop-q-preserved : goal.loop-q-preserved
loop-q-preserved c = one_move _ _ _ _ c.loop-q.invariant c.loop-q-test.true

pub returns : goal.returns
returns c = all_moves _ _ _ _ c.loop-q.invariant c.loop-q-test.false
