-- `tree::size_at` ends: the node number falls.
use Rattle.tree.proofs.+size_at.Given as goal

abbrev pub decreases-size_at : goal.decreases-size_at
decreases-size_at l = l.n.0
