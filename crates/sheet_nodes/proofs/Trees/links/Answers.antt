-- `sheet_nodes::Trees::links` meets its contract. Assumes nothing.
use mathlib.Core.Bool.{false}
use lib.ListN.{get_or}
use Rattle.sheet_nodes.proofs.Kids.{linked_none, linked_one, linked_two}
use Rattle.sheet_nodes.proofs.Trees.links.Goals as goal

pub returns-in-Zero : goal.returns-in-Zero
returns-in-Zero c = rw c.in-Zero.is (linked_none _ _)

pub returns-in-One : goal.returns-in-One
returns-in-One c = rw (c.in-One.is, c.flag.ensures) (linked_one _ (λ a. get_or c.args.self.now.named a false) _)

pub returns-in-Two : goal.returns-in-Two
returns-in-Two c = rw (c.in-Two.is, c.flag-in-Two.ensures, c.flag-in-Two-2.ensures)
    (linked_two _ (λ a. get_or c.args.self.now.named a false) _ _)
