-- `predicate::item_at` ends: the node number falls.
use Rattle.predicate.proofs.+item_at.Given as goal

abbrev pub decreases-item_at : goal.decreases-item_at
decreases-item_at l = l.n.0
