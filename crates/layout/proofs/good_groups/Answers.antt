-- `layout::good_groups` meets its contract. Assumes nothing.
use Rattle.layout.specs.Groups.{good_groups}
use Rattle.layout.proofs.good_groups.Goals as goal

pub returns : goal.returns
unfolding good_groups
returns c = rw (c.good_group.ensures, c.good_group-2.ensures, c.good_group-3.ensures)
    (simp (c.first_operation.ensures, c.first_flow.ensures, c.first_step.ensures))
