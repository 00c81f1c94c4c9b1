-- `causes::can_be_true` meets its contract. Assumes nothing.
use Rattle.causes.proofs.Causing.{node_there, range_read}
use Rattle.causes.proofs.can_be_true.Goals as goal

pub can_hold-requires : goal.can_hold-requires
can_hold-requires c = node_there c.args.s.now.accepted _ c.requires c.first_operation.ensures c.number.ensures

pub returns : goal.returns
returns c = range_read c.args.s.now.accepted _ c.requires c.first_operation.ensures c.number.ensures
    c.can_hold.ensures
