-- `tree::tree_size` meets its contract: the header is the sheet's own. Assumes nothing.
use Rattle.tree.proofs.TreeLaws.{node_at_lem}
use Rattle.tree.proofs.tree_size.Goals as goal

pub size_at-requires : goal.size_at-requires
size_at-requires c = node_at_lem c.args.s.now.accepted c.requires

pub returns : goal.returns
returns c = rw c.args.s.now.accepted.header c.size_at.ensures
